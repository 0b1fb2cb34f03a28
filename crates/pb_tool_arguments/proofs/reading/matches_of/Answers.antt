use Rattle.std.proofs.Common.{◌∙◌, ap, sym, map}
use Rattle.clap.specs.Faults.{fault_of, is_simple_and_free}
use Rattle.clap.specs.Simple.{app_of, is_simple, subcommand_of}
use Rattle.pb_tool_arguments.proofs.Refused.{program_is_free, refused_by}
use Rattle.pb_tool_arguments.proofs.Simple.{program_is_simple}
use Rattle.pb_tool_arguments.proofs.reading.matches_of.Goals as goal

pub returns-in-Ok-clause-matches : goal.returns-in-Ok-clause-matches
returns-in-Ok-clause-matches g c =
    let described = c.in_ok-program.ensures in
    let words = map g.S.AsStr.text c.args.words.now in
    let simple = ap is_simple described.2 ∙ program_is_simple described.0 in
    let free = ap is_simple_and_free described.2 ∙ program_is_free described.0 in
    (described.0, described.1, sym (ap (λ app. fault_of app words) described.2) ∙ c.in-Ok.ensures.kinds free, (c.in-Ok.ensures.matches simple).1 ∙ ap (λ app. subcommand_of app words) described.2)

pub returns-in-Err-clause-refused : goal.returns-in-Err-clause-refused
returns-in-Err-clause-refused g c =
    let described = c.in_ok-program.ensures in
    let words = map g.S.AsStr.text c.args.words.now in
    let free = ap is_simple_and_free described.2 ∙ program_is_free described.0 in
    refused_by words described.0 (app_of c.in_ok-program.program) c.in-Err.error c.unasked_of.result described.1 described.2 (c.in-Err.ensures.kinds free) c.unasked_of.ensures
