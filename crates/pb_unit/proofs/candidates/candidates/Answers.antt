use Rattle.std.proofs.Common.{List, ◌++◌, map, ap, ◌∙◌}
use Rattle.pb_unit.specs.declared.unit.Unit.{Unit}
use Rattle.pb_unit.specs.declared.candidates.Named.{Named}
use Rattle.pb_unit.specs.Drawing.{fixed, unit_named}
use Rattle.pb_unit.proofs.candidates.candidates.Goals as goal

pub returns : goal.returns
returns c = record {
  named = c.in_ok-named.named.items;
  rises = c.in_ok-named.ensures.rises;
  same = c.in_ok-named.ensures.same;
  is = c.in_ok-add_named.ensures ∙ ap (λ (l : List Unit). l ++ map unit_named c.as_slice-2.result.now) (c.in_ok-units.ensures ∙ ap fixed c.as_slice.ensures) ∙ ap (λ (l : List Named). fixed c.args.workspace.now.packages ++ map unit_named l) c.as_slice-2.ensures.value;
}
