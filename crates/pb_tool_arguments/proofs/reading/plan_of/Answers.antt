use Rattle.clap.specs.Matches.{found_of}
use Rattle.clap.specs.Walk.{rows_of}
use Rattle.pb_tool_arguments.proofs.Refused.{wrong_options}
use Rattle.pb_tool_arguments.proofs.reading.plan_of.Goals as goal

pub returns-in-Err-options_of-clause-wrong : goal.returns-in-Err-options_of-clause-wrong
returns-in-Err-options_of-clause-wrong c = wrong_options c.args.here.now.folder (rows_of (found_of c.args.matches.now)) c.in-Ok.form c.in-Err-options_of.unasked c.in-Ok.ensures.form c.in-Err-options_of.ensures.wrong
