use Rattle.std.proofs.Common.{sym, ◌∙◌}
use Rattle.std.proofs.lemmas.Option.{slice_get_within}
use Rattle.pb_run_flight.specs.Working.{count_met}
use Rattle.pb_run_flight.proofs.Keeping.{open_met}
use Rattle.pb_run_flight.proofs.flight.is_open.Goals as goal

pub bounds-met-unit : goal.bounds-met-unit
bounds-met-unit g c = slice_get_within c.args.met.now c.args.unit (count_met c.args.states.now c.args.wanted.now) c.requires

pub returns-then-is_untouched : goal.returns-then-is_untouched
returns-then-is_untouched g c = open_met c.args.states.now c.args.state.now c.args.wanted.now c.args.met.now c.args.unit (sym c.is_untouched.ensures ∙ c.if-is_untouched.true) c.requires

pub returns-else-is_untouched : goal.returns-else-is_untouched
returns-else-is_untouched g c = rw (← c.is_untouched.ensures, c.if-is_untouched.false)
