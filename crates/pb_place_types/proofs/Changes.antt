-- What writes and removals in turn make of one path.
use Rattle.std.proofs.Common.{◌≡◌, ℕ, Bool, true, false, not, cond, List, [], ◌∷◌, None, refl, ap, ◌∙◌}
use Rattle.std.specs.Cmp.Lexicographic.{nat_list_cmp_total}
use Rattle.std.specs.FinMap.{get, get-insert}
use Rattle.pb_place_types.specs.Paths.{is_at_or_below}
use Rattle.pb_place_types.specs.World.{World}
use Rattle.pb_place_types.specs.Changes.{Change, writes, removes, changed_once, said, last_said, LastWordStands, VariablesStand}
use Rattle.pb_place_types.proofs.MapLemmas.{get-kept}

cond-not : {A : Type 0} (b : Bool) (x y : A) → cond (not b) x y ≡ cond b y x
cond-not true x y = refl
cond-not false x y = refl

one_said : (change : Change) (w : World) (q : List ℕ) → get (changed_once change w).files q ≡ said change q (get w.files q)
one_said (writes path bytes) w q = get-insert nat_list_cmp_total w.files path bytes q
one_said (removes path) w q = get-kept w.files (λ x. not (is_at_or_below path x)) q ∙ cond-not (is_at_or_below path q) (get w.files q) None

pub last_word_stands : LastWordStands
last_word_stands [] w q = refl
last_word_stands (change ∷ changes) w q = last_word_stands changes (changed_once change w) q ∙ ap (last_said changes q) (one_said change w q)

one_variables : (change : Change) (w : World) → (changed_once change w).variables ≡ w.variables
one_variables (writes path bytes) w = refl
one_variables (removes path) w = refl

pub variables_stand : VariablesStand
variables_stand [] w = refl
variables_stand (change ∷ changes) w = variables_stand changes (changed_once change w) ∙ one_variables change w
