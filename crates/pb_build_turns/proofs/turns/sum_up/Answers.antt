use Rattle.std.proofs.Common.{◌∙◌, sym, ap, length}
use Rattle.pb_build_turns.proofs.Telling.{bad_fits}
use Rattle.pb_build_turns.proofs.turns.sum_up.Goals as goal

pub summary_of-requires-clause-within : goal.summary_of-requires-clause-within
summary_of-requires-clause-within c = bad_fits c.args.flight.states (length c.units.result.now) c.first_bad-bad.result (c.requires.long ∙ ap length (sym c.units.ensures)) c.first_bad-bad.ensures
