use Rattle.std.proofs.Common.{inl, inr, refl}
use Rattle.pb_build_result.specs.declared.fault.BuildFault.TheVariants.{OutOfMemory}
use Rattle.pb_build_turns.proofs.Changing.{beside_none}
use Rattle.pb_build_turns.proofs.Counting.{stops_refused}
use Rattle.pb_build_turns.proofs.Staying.{none_began}
use Rattle.pb_build_turns.proofs.executor.UnitExecutorExecutorBadUnitBuildFault.out_of_memory.Goals as goal

pub returns : goal.returns
returns g c = λ first first_place last_place first_out last_out es given s. record {
  setup = s.setup;
  project = s.project;
  stops = stops_refused _ _ _ _ _ _ _ _ s.goes refl refl g.P.Place.is_modelled refl;
  spent = tt;
  before = es;
  came = inl refl;
  names = tt;
  most = s.goes.most;
  changes = s.changes;
  beside = λ t. beside_none _ _ _ es _ _ (s.changes t) _ refl;
  unrecorded = s.unrecorded;
  childless = s.childless;
  again = λ t. (s.again t).gave;
  anew = λ t. (s.anew t).gave;
  left = λ t. (s.left t).gave;
  began = s.began;
  started = λ t. none_began _ _ _ OutOfMemory es _ _;
  happened = s.happened;
  caused = λ t. tt;
  calls = λ t f sources keeps. ((g.P.Place.at last_place).world, (g.P.Place.at last_place).counts, s.calls t f sources keeps, inl (inr refl, refl, refl));
  calls_on_any = λ t. ((g.P.Place.at last_place).world, (g.P.Place.at last_place).counts, s.calls_on_any t, inl (inr refl, refl, refl));
}
