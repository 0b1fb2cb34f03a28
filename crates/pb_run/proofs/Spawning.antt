-- A child that is spawned in an emptied folder, after its unit's record was dropped.
use Rattle.std.proofs.Common.{◌≡◌, ◌∙◌, ◌||◌, ℕ, Bool, true, false, not, cond, List, Option, Some, None, Ok, refl, sym, ap, subst, inl, inr}
use Rattle.std.proofs.lemmas.Bool.{cases_Bool, false≢true}
use Rattle.std.specs.Prelude.{IfSome}
use Rattle.std.specs.Cmp.Lexicographic.{slice_cmp, nat_list_cmp_total}
use Rattle.std.specs.FinMap.{get, empty, same_map, get-empty}
use Rattle.std.specs.Ordering.{nat_cmp}
use Rattle.pb_place_types.specs.Children.{StaysStill, StandsStill, child_at, child_spawned, inside_out, is_flying, KeepsStillOutside}
use Rattle.pb_place_types.specs.Counts.{Counts, counted_spawn}
use Rattle.pb_place_types.specs.Folders.{files_in}
use Rattle.pb_place_types.specs.Paths.{is_path, is_below, is_at_or_below}
use Rattle.pb_place_types.specs.World.{World, Map, Answers, AgreeBut, ChangesOnly, ChangesOnlyInSome, removed}
use Rattle.pb_place_types.specs.declared.child.Reply.{Reply}
use Rattle.pb_place_types.specs.declared.child_in_flight.ChildInFlight.{ChildInFlight}
use Rattle.pb_place_types.specs.declared.command.Command.{Command}
use Rattle.pb_place_types.proofs.Folders.{get-files_in, only_removed, only_started, changes_join}
use Rattle.pb_place_types.proofs.InFlight.{last_at, same_number}
use Rattle.pb_place_types.proofs.MapLemmas.{exact, get-kept}
use Rattle.pb_place_types.proofs.Within.{at_below}
use Rattle.pb_run.specs.Steps.{StartsRise}
use Rattle.pb_run.specs.UnitSteps.{WritesTo}
use Rattle.pb_run.specs.Running.{IsSpawned}
use Rattle.pb_run.proofs.Causing.{spawn_told}
use Rattle.pb_store_soundness.specs.Apart.{is_of}
use Rattle.pb_store_soundness.specs.Inputs.{Judge}
use Rattle.pb_store_soundness.specs.Numbers.{IsAhead}
use Rattle.pb_store_soundness.specs.Records.{RecordParser, is_key, out_of, record_path, record_at}
use Rattle.pb_store_soundness.specs.Reuse.{number_if}
use Rattle.pb_store_soundness.specs.Sound.{Sound}
use Rattle.pb_store_soundness.proofs.Four.{in_output}
use Rattle.pb_store_soundness.proofs.RecordPaths.{record_outside, record_same, no_key}
use Rattle.pb_store.specs.Folder.{HasNumbers}

-- What stands still.

pub outside_still : (inside : List ℕ → Bool) (flying : List ChildInFlight) (old new : World) (before after : ℕ → Type 0) → StaysStill flying old new before after → ChangesOnly inside old new → KeepsStillOutside inside flying before after
outside_still inside flying old new before after stays only ticket stands stood = stays ticket (stands old new only) stood

abbrev Within : (List ℕ → Bool) → (List ℕ → Bool) → Type 0
Within inside wider = (q : List ℕ) → wider q ≡ false → inside q ≡ false

pub widen : (inside wider : List ℕ → Bool) (old new : World) → Within inside wider → ChangesOnly inside old new → ChangesOnly wider old new
widen inside wider old new lies only = record { variables = only.variables; files = λ q outside. only.files q (lies q outside) }

pub join : (inside : List ℕ → Bool) (old mid new : World) → ChangesOnly inside old mid → ChangesOnly inside mid new → ChangesOnly inside old new
join inside old mid new first second = record { variables = second.variables ∙ first.variables; files = λ q outside. second.files q outside ∙ first.files q outside }

pub still_widen : (inside wider : List ℕ → Bool) (flying : List ChildInFlight) (before after : ℕ → Type 0) → Within inside wider → KeepsStillOutside inside flying before after → KeepsStillOutside wider flying before after
still_widen inside wider flying before after lies keeps ticket stands stood = keeps ticket (λ v w only. stands v w (widen inside wider v w lies only)) stood

pub still_join : (inside : List ℕ → Bool) (flying next : List ChildInFlight) (before mid after : ℕ → Type 0) → next ≡ flying → KeepsStillOutside inside flying before mid → KeepsStillOutside inside next mid after → KeepsStillOutside inside flying before after
still_join inside flying next before mid after same first second ticket stands stood =
    second ticket (λ v w only. subst (λ fs. StandsStill ticket fs v w) (sym same) (stands v w only)) (first ticket stands stood)

-- a unit's folder and its record's path are paths of it
or_first : (a b : Bool) → a || b ≡ false → a ≡ false
or_first true b h = absurd (false≢true (sym h))
or_first false b h = refl

or_second : (a b : Bool) → a || b ≡ false → b ≡ false
or_second true b h = absurd (false≢true (sym h))
or_second false b h = h

pub out_within : (folder key : List ℕ) → Within (is_at_or_below (out_of folder key)) (is_of folder key)
out_within folder key q outside = or_first (is_at_or_below (out_of folder key) q) (is_at_or_below (record_path folder key) q) outside

pub record_within : (folder key : List ℕ) → Within (is_at_or_below (record_path folder key)) (is_of folder key)
record_within folder key q outside = or_second (is_at_or_below (out_of folder key) q) (is_at_or_below (record_path folder key) q) outside

-- The child flies.

pub spawned_flies : (child : World → Reply) (c : Command) (w : World) (ticket : ℕ) (old new : Counts) → is_flying ticket old.starts.flying ≡ false → new ≡ counted_spawn (child_spawned child c w) (Ok ticket) old
    → child_at ticket new.starts.flying ≡ Some (child_spawned child c w ticket)
spawned_flies child c w ticket old new fresh counts = ap (λ (x : Counts). child_at ticket x.starts.flying) counts ∙ last_at ticket old.starts.flying (child_spawned child c w ticket) fresh (same_number ticket)

pub spawned_lifts : (child : World → Reply) (c : Command) (w : World) (ticket : ℕ) (old new : Counts) → is_flying ticket old.starts.flying ≡ false → new ≡ counted_spawn (child_spawned child c w) (Ok ticket) old
    → (new.failures ≡ old.failures) × StartsRise ticket old.starts new.starts
spawned_lifts child c w ticket old new fresh counts = (
  ap (λ (x : Counts). x.failures) counts,
  record {
    child = child_spawned child c w ticket;
    its = refl;
    free = fresh;
    lifted = ap (λ (x : Counts). x.starts) counts;
  },
)

-- and writes into the folder that its command names
pub flies_writes : (child : World → Reply) (c : Command) (out : List ℕ) (w : World) (ticket number : ℕ) (flying : List ChildInFlight) → c.out ≡ Some out → child_at ticket flying ≡ Some (child_spawned child c w ticket)
    → WritesTo out (Some record { ticket = ticket; number = number }) flying
flies_writes child c out w ticket number flying is flies = subst (λ (o : Option ChildInFlight). IfSome o (λ s. s.command.out ≡ Some out)) (sym flies) is

-- An emptied folder holds nothing.

emptied_at : (out q : List ℕ) (w : World) (b : Bool) → is_below out q ≡ b → cond b (get (removed out w).files q) None ≡ None
emptied_at out q w true inside = get-kept w.files (λ x. not (is_at_or_below out x)) q ∙ ap (λ b. cond (not b) (get w.files q) None) (at_below out q inside)
emptied_at out q w false outside = refl

pub emptied : (out : List ℕ) (w : World) → files_in out (removed out w).files ≡ empty
emptied out w = same_map nat_list_cmp_total exact _ _ (λ q. get-files_in out (removed out w).files q ∙ emptied_at out q w (is_below out q) refl ∙ sym (get-empty (slice_cmp nat_cmp) q))

pub spawned_anew : (child : Answers) (c : Command) (out : List ℕ) (old mid : World) (ticket : ℕ) (flying : List ChildInFlight) (still : ℕ → Type 0) → c.out ≡ Some out → mid ≡ removed out old
    → child_at ticket flying ≡ Some (child_spawned (child c) c mid ticket) → still ticket → IsSpawned (is_at_or_below out) child c old ticket flying still
spawned_anew child c out old mid ticket flying still is emptied_so flies stands = record {
  spawned = mid;
  only = only_removed out old mid emptied_so;
  flies = flies;
  emptied = ap (λ (o : Option (List ℕ)). inside_out o mid.files) is ∙ ap (λ (w : World). files_in out w.files) emptied_so ∙ emptied out old;
  stands = stands;
}

-- the folder emptied and a child spawned in it
pub anew_only : (c : Command) (out : List ℕ) (old mid new : World) → c.out ≡ Some out → ChangesOnly (is_at_or_below out) old mid → ChangesOnlyInSome c.out mid new → ChangesOnly (is_at_or_below out) old new
anew_only c out old mid new is first second = changes_join out old mid new first (only_started out c.out mid new is second)

-- The record dropped before.

pub launched_only : (folder key out : List ℕ) (old mid new : World) → out ≡ out_of folder key → ChangesOnly (is_at_or_below (record_path folder key)) old mid → ChangesOnly (is_at_or_below out) mid new → ChangesOnly (is_of folder key) old new
launched_only folder key out old mid new lies first second =
    join (is_of folder key) old mid new (widen (is_at_or_below (record_path folder key)) (is_of folder key) old mid (record_within folder key) first)
    (widen (is_at_or_below (out_of folder key)) (is_of folder key) mid new (out_within folder key) (subst (λ (o : List ℕ). ChangesOnly (is_at_or_below o) mid new) lies second))

pub launched_spawned : (folder key out : List ℕ) (child : Answers) (c : Command) (old mid : World) (ticket : ℕ) (flying : List ChildInFlight) (still : ℕ → Type 0) → out ≡ out_of folder key
    → ChangesOnly (is_at_or_below (record_path folder key)) old mid → IsSpawned (is_at_or_below out) child c mid ticket flying still → IsSpawned (is_of folder key) child c old ticket flying still
launched_spawned folder key out child c old mid ticket flying still lies first spawned_so = record {
  spawned = spawned_so.spawned;
  only = launched_only folder key out old mid spawned_so.spawned lies first spawned_so.only;
  flies = spawned_so.flies;
  emptied = spawned_so.emptied;
  stands = spawned_so.stands;
}

pub launched_still : (folder key out : List ℕ) (flying next : List ChildInFlight) (before mid after : ℕ → Type 0) → out ≡ out_of folder key → next ≡ flying → KeepsStillOutside (is_at_or_below (record_path folder key)) flying before mid
    → KeepsStillOutside (is_at_or_below out) next mid after → KeepsStillOutside (is_of folder key) flying before after
launched_still folder key out flying next before mid after lies same first second =
    still_join (is_of folder key) flying next before mid after same (still_widen (is_at_or_below (record_path folder key)) (is_of folder key) flying before mid (record_within folder key) first)
    (still_widen (is_at_or_below (out_of folder key)) (is_of folder key) next mid after (out_within folder key) (subst (λ (o : List ℕ). KeepsStillOutside (is_at_or_below o) next mid after) lies second))

-- what changes in a unit's folder leaves all records as they are
pub records_stay : (read : RecordParser) (folder key : List ℕ) (old new : Map) → is_key key ≡ true → AgreeBut (is_at_or_below (out_of folder key)) old new → (l : List ℕ) → record_at read folder new l ≡ record_at read folder old l
records_stay read folder key old new is only l = elim (cases_Bool (is_key l)) [
  | inl is_l ↦ record_same read folder old new l (only (record_path folder l) (record_outside folder key l is is_l))
  | inr wrong ↦ no_key read folder new l wrong ∙ sym (no_key read folder old l wrong)
]

module _ (read : RecordParser) (folder key out : List ℕ) (old new : World) (is : is_key key ≡ true) (lies : out ≡ out_of folder key) (only : ChangesOnly (is_at_or_below out) old new) where
  in_folder : AgreeBut (is_at_or_below (out_of folder key)) old.files new.files
  in_folder = subst (λ (o : List ℕ). AgreeBut (is_at_or_below o) old.files new.files) lies only.files

  pub launched_gone : record_at read folder old.files key ≡ None → record_at read folder new.files key ≡ None
  launched_gone gone = records_stay read folder key old.files new.files is in_folder key ∙ gone

  pub launched_ahead : (next : Option ℕ) → IsAhead (record_at read folder old.files) next → IsAhead (record_at read folder new.files) next
  launched_ahead next ahead k r there = ahead k r (sym (records_stay read folder key old.files new.files is in_folder k) ∙ there)

  pub launched_held : (numbers : List (List ℕ × Option ℕ)) → HasNumbers (record_at read folder old.files) numbers → HasNumbers (record_at read folder new.files) numbers
  launched_held numbers has l = has l ∙ sym (ap number_if (records_stay read folder key old.files new.files is in_folder l))

  pub launched_sound : (judge : Judge) (child : Answers) → is_path folder ≡ true → record_at read folder old.files key ≡ None → Sound read judge child folder old.files → Sound read judge child folder new.files
  launched_sound judge child path gone sound = in_output read judge child folder old.files new.files key path is gone in_folder sound

pub ruleset spawn_laws = (spawned_flies, spawned_lifts, spawn_told)

pub ruleset launch_laws = (spawned_anew, flies_writes, anew_only, launched_only, launched_spawned, launched_still, launched_gone, launched_ahead, launched_sound)
