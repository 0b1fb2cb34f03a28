use Rattle.std.proofs.Common.{◌↔◌, List, Contains, subst}
use Rattle.std.proofs.lemmas.Slice.Eq.{bytes_eq-Decides}
use Rattle.pb_unit.specs.declared.candidates.Named.{Named}
use Rattle.pb_unit.proofs.Sets.{same_kept}
use Rattle.pb_unit.proofs.Drafting.{named_eq}
use Rattle.pb_unit.proofs.candidates.named_roots.Goals as goal

pub returns-clause-same : goal.returns-clause-same
returns-clause-same c b =
    subst (λ (l : List Named). Contains c.sort_once.new.items.items b ↔ Contains l b) c.in_ok-found.ensures
    (same_kept _ (λ x y e. named_eq x y _ e (λ t. (bytes_eq-Decides x.name y.name).0 t)) _ _ c.sort_once.ensures.keeps c.sort_once.ensures.adds_none b)
