use Rattle.std.proofs.Common.{◌↔◌, List, ℕ, Contains, subst, sym}
use Rattle.std.proofs.lemmas.Slice.Eq.{bytes_eq-Decides}
use Rattle.pb_unit.proofs.Sets.{same_kept}
use Rattle.pb_unit.proofs.names.sort_names.Goals as goal

pub returns-clause-same : goal.returns-clause-same
returns-clause-same c name =
    subst (λ (l : List (List ℕ)). Contains l name ↔ Contains c.args.names.items name) (sym c.from_vec.ensures)
    (same_kept _ (λ x y e. (bytes_eq-Decides x y).0 e) _ _ c.sort_once.ensures.keeps c.sort_once.ensures.adds_none name)
