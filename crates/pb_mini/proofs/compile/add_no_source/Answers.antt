use Rattle.pb_mini.specs.Compile.{no_source}
use Rattle.pb_mini.proofs.DoingLemmas.{done_whole}
use Rattle.pb_mini.proofs.compile.add_no_source.Goals as goal

pub returns : goal.returns
returns c = done_whole c.args.effects.now c.add_said.new.effects no_source c.in_ok-add_said.ensures
