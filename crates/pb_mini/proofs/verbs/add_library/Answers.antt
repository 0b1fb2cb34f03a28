use Rattle.std.proofs.Common.{codes}
use Rattle.pb_mini.specs.Effects.{copied, copied_file}
use Rattle.pb_mini.proofs.DoingLemmas.{does_both}
use Rattle.pb_mini.proofs.verbs.add_library.Goals as goal

pub returns : goal.returns
returns c =
    does_both c.args.effects.now c.add_copied.new.effects c.add_file.new.effects (copied c.args.line.now) (copied_file (codes "> ") c.args.file.now)
    c.in_ok-add_copied.ensures c.in_ok-add_file.ensures
