-- One call that looks.
use Rattle.std.proofs.Common.{◌≡◌, ◌∙◌, Result, Ok, Err, ap, refl}
use Rattle.pb_place_types.specs.At.{At, LooksOnce}
use Rattle.pb_place_types.specs.Counts.{Counts, counted}
use Rattle.pb_place_types.specs.declared.call.Call.{Call}
use Rattle.pb_place_types.specs.declared.place.PlaceFault.{PlaceFault}
use Rattle.pb_place_types.specs.declared.place.PlaceFault.TheVariants as place
use Rattle.pb_tool_notes_pages.specs.Looks.{LooksAgain}

starts_kept : {T : Type 0} (call : Call) (result : Result T PlaceFault) (c : Counts) → (counted call result c).starts ≡ c.starts
starts_kept call (Ok x) c = refl
starts_kept call (Err place.Read) c = refl
starts_kept call (Err place.List) c = refl
starts_kept call (Err place.Write) c = refl
starts_kept call (Err place.Remove) c = refl
starts_kept call (Err place.Variable) c = refl
starts_kept call (Err place.OutOfMemory) c = refl

pub looks_once : {T : Type 0} (call : Call) (result : Result T PlaceFault) (old new : At) → LooksOnce call result old new → LooksAgain old new
looks_once call result old new looked = record {
  world = looked.world;
  most = looked.most;
  starts = ap (λ (c : Counts). c.starts) looked.counts ∙ starts_kept call result old.counts;
}
