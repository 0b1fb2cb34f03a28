use Rattle.pb_mini.proofs.ScriptLemmas.{show_done}
use Rattle.pb_mini.proofs.script.do_by.Goals as goal

pub returns-in_ok-show-in-Show-clause-done : goal.returns-in_ok-show-in-Show-clause-done
returns-in_ok-show-in-Show-clause-done g c is_modelled =
    show_done c.args.pairs.now (g.V.View.shown c.args.view.now) c.args.rest.now c.args.deed c.in_ok-value-in-Show.value _ _ c.in-Show.is c.in_ok-show-in-Show.ensures (c.in_ok-value-in-Show.ensures.value is_modelled)
