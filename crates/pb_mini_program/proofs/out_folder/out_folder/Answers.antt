use Rattle.std.proofs.Common.{◌∙◌, sym}
use Rattle.pb_mini_program.proofs.OutDirs.{compile_finds, compile_runs_not}
use Rattle.pb_mini_program.proofs.out_folder.out_folder.Goals as goal

pub returns-clause-compile : goal.returns-clause-compile
returns-clause-compile g c = λ line is. compile_finds c.args.words.now line _ c.in_ok-folder.ensures is

pub returns-clause-run : goal.returns-clause-run
returns-clause-run g c = λ shown path is. compile_runs_not c.args.words.now path _ _ (sym c.asks_run.ensures ∙ c.if-asks_run.false) is
