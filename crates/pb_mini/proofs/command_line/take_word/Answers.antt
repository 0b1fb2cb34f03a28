use Rattle.pb_mini.proofs.Words.{after_option, after_alone}
use Rattle.std.proofs.Common.{rules}
use Rattle.pb_mini.proofs.command_line.take_word.Goals as goal

pub returns-in-Some : goal.returns-in-Some
returns-in-Some c words = after_option _ _ c.in-Some.role _ _ words _ c.in-Some.is c.in_ok-copy.ensures c.in_ok-add_value.ensures

pub returns : goal.returns
returns c words = after_alone _ _ c.role_alone.result c.args.word.now c.in_ok-copy-2.field-0 words _ c.in_default.is (search rules) (search rules) c.in_ok-copy-2.ensures c.in_ok-add_value-2.ensures
