use Rattle.std.proofs.Common.{◌↔◌, List, ℕ, Contains, subst}
use Rattle.pb_unit.proofs.Missing.{missing_to, missing_from}
use Rattle.pb_unit.proofs.names.without_library.Goals as goal

pub returns : goal.returns
returns c = record {
  order = c.sort_names.ensures.order;
  same = λ name.
      let is = subst (λ (l : List (List ℕ)). Contains c.sort_names.result name ↔ Contains l name) c.in_ok-names.ensures (c.sort_names.ensures.same name) in
      (λ has. missing_to c.args.workspace.now c.args.features.now name (is.0 has), λ some. is.1 (missing_from c.args.workspace.now c.args.features.now name some));
}
