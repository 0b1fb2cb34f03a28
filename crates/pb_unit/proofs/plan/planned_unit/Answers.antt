use Rattle.std.proofs.Common.{length, refl}
use Rattle.std.proofs.lemmas.Option.{slice_get_read}
use Rattle.pb_unit.proofs.plan.planned_unit.Goals as goal

pub returns : goal.returns
returns c = record {
  unit_at = rw c.in_ok-unit.ensures (slice_get_read c.args.units.now (length c.args.units.now) c.args.step.node c.index-units-step.result refl c.requires.node c.index-units-step.is);
  key = refl;
  out = c.in_ok-out.ensures;
  level = refl;
  needs = refl;
  reaches = refl;
  owner = c.settings_of-settings.ensures.0;
  package_at = c.settings_of-settings.ensures.1;
  settings = c.settings_of-settings.ensures.2;
}
