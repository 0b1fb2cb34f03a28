use Rattle.pb_mini.specs.Effects.{reads}
use Rattle.pb_mini.specs.Verbs.{asks_for, included_lines}
use Rattle.pb_mini.proofs.DoingLemmas.{does_thrice}
use Rattle.pb_mini.proofs.include.add_included.Goals as goal

pub returns : goal.returns
returns c =
    does_thrice c.args.effects.now c.add_variable_of.new.effects c.add_path.new.effects c.add_lines_of.new.effects (asks_for c.args.variable) (reads c.args.path) (included_lines c.args.number c.args.written.now c.args.found.now)
    c.in_ok-add_variable_of.ensures c.in_ok-add_path.ensures c.in_ok-add_lines_of.ensures
