use Rattle.std.proofs.Common.{Contains}
use Rattle.pb_run_flight.specs.Events.{Anything}
use Rattle.pb_run_flight.proofs.Stepping.{started_differs, differs_started}
use Rattle.pb_run_flight.proofs.laws.started_differs.Goals as goal

pub returns : goal.returns
returns g c = λ needs different from now es flies u. (
  λ h. started_differs g.T.Turn.turns needs (Contains different) Anything from es now flies u h,
  λ h. differs_started g.T.Turn.turns needs (Contains different) Anything from es now flies u h.0 h.1,
)
