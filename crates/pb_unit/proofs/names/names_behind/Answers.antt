use Rattle.std.proofs.Common.{◌↔◌, List, ℕ, Contains, subst}
use Rattle.pb_unit.proofs.names.names_behind.Goals as goal

pub returns-clause-same : goal.returns-clause-same
returns-clause-same c name = subst (λ (l : List (List ℕ)). Contains c.sort_names.result name ↔ Contains l name) c.in_ok-names.ensures (c.sort_names.ensures.same name)
