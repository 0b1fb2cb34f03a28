use Rattle.std.proofs.Common.{map}
use Rattle.std.proofs.lemmas.Result.{IfErr-weaker}
use Rattle.clap.specs.Simple.{subcommand_rows_of}
use Rattle.pb_tool_arguments.proofs.Refused.{refused_words, wrong_words}
use Rattle.pb_tool_arguments.proofs.reading.read_command_line.Goals as goal

pub returns-in-Ok-clause-unasked : goal.returns-in-Ok-clause-unasked
returns-in-Ok-clause-unasked g c =
    let taken = c.in-Ok.ensures.matches in
    let words = map g.S.AsStr.text c.args.words.now in
    IfErr-weaker c.asked_by.result _ _ (λ unasked told. wrong_words words c.args.here.now.folder taken.0 (subcommand_rows_of c.in-Ok.matches) unasked taken.1 taken.2 taken.3 told) c.asked_by.ensures.wrong

pub returns-in-Err-clause-unasked : goal.returns-in-Err-clause-unasked
returns-in-Err-clause-unasked g c = refused_words (map g.S.AsStr.text c.args.words.now) c.args.here.now.folder c.in-Err.unasked c.in-Err.ensures.refused
