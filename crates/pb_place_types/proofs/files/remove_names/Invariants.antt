use Rattle.std.proofs.Common.{◌≡◌, ℕ, List, Bool, true, None, cond, drop}
use Rattle.std.specs.List.{list_any, list_all}
use Rattle.std.specs.FinMap.{get}
use Rattle.pb_place_types.specs.World.{is_same_path}
use Rattle.pb_place_types.specs.Maps.{files_of}
use Rattle.pb_place_types.proofs.files.remove_names.Given as goal

abbrev pub invariant-loop-name : goal.invariant-loop-name
invariant-loop-name l = record {
  gone : (q : List ℕ) → cond (list_any (is_same_path q) (drop l.name-index l.names)) None (get (files_of l.files) q) ≡ cond (list_any (is_same_path q) l.names) None (get (files_of l.fn.files) q);
  keys : (p : List ℕ → Bool) → list_all (λ e. p e.0) l.fn.files.entries ≡ true → list_all (λ e. p e.0) l.files.entries ≡ true;
}
