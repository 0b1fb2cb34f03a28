use Rattle.pb_mini.proofs.DoingLemmas.{told_done}
use Rattle.pb_mini.proofs.verbs.add_told.Goals as goal

pub returns : goal.returns
returns c =
    told_done c.args.effects.now c.add_variable.new.effects c.add_copied.new.effects c.args.name.now c.in_ok-name.name _ c.as_str.result.now c.args.value
    c.in_ok-add_variable.ensures c.in_ok-name.ensures c.in_ok-add_copied.ensures c.as_str.ensures c.in_ok-line.ensures
