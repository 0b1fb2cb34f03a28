use Rattle.std.proofs.Common.{rules, ◌≡◌, ℕ, List, Some, Err, codes, subst}
use Rattle.std.proofs.lemmas.Result.{IfErr-weaker}
use Rattle.clap.specs.Matches.{found_of}
use Rattle.clap.specs.Simple.{subcommand_rows_of}
use Rattle.clap.specs.Walk.{rows_of}
use Rattle.pb_place_types.specs.Paths.{joined}
use Rattle.pb_place_types.specs.declared.path.PathFault.{PathFault}
use Rattle.pb_tool_arguments.specs.Asking.{path_told}
use Rattle.pb_tool_arguments.specs.Private.{ToldWrong}
use Rattle.pb_tool_arguments.proofs.Refused.{wrong_build, wrong_clean, wrong_plan, wrong_session}
use Rattle.pb_tool_arguments.proofs.reading.asked_by.Goals as goal

pub returns-in-Some-clause-wrong : goal.returns-in-Some-clause-wrong
returns-in-Some-clause-wrong c =
    let given = subcommand_rows_of c.args.matches.now in
    let rows = rows_of (found_of c.in-Some.build.now) in
    let is : given ≡ Some (codes "build", rows) = search rules in
    IfErr-weaker c.build_of.result _ _ (λ unasked told. wrong_build c.args.here.now.folder given rows unasked is told) c.build_of.ensures.wrong

pub returns-in-Err-path_of-clause-wrong : goal.returns-in-Err-path_of-clause-wrong
returns-in-Err-path_of-clause-wrong c =
    let rows = rows_of (found_of c.in-Some-subcommand_matches-4.session.now) in
    let is : subcommand_rows_of c.args.matches.now ≡ Some (codes "session", rows) = search rules in
    wrong_session c.args.here.now.folder (subcommand_rows_of c.args.matches.now) rows c.in-Err-path_of.unasked is
    (subst (λ (text : List ℕ). ToldWrong (λ told. (fault : PathFault) × (joined c.args.here.now.folder text ≡ Err fault) × (told ≡ path_told)) c.in-Err-path_of.unasked) c.first_or-in-Some-subcommand_matches-4.ensures c.in-Err-path_of.ensures.wrong)

pub returns-in-Some-subcommand_matches-clause-wrong : goal.returns-in-Some-subcommand_matches-clause-wrong
returns-in-Some-subcommand_matches-clause-wrong c =
    let given = subcommand_rows_of c.args.matches.now in
    let rows = rows_of (found_of c.in-Some-subcommand_matches.plan.now) in
    let is : given ≡ Some (codes "plan", rows) = search rules in
    IfErr-weaker c.plan_of.result _ _ (λ unasked told. wrong_plan c.args.here.now.folder given rows unasked is told) c.plan_of.ensures.wrong

pub returns-in-Some-subcommand_matches-2-clause-wrong : goal.returns-in-Some-subcommand_matches-2-clause-wrong
returns-in-Some-subcommand_matches-2-clause-wrong c =
    let given = subcommand_rows_of c.args.matches.now in
    let rows = rows_of (found_of c.in-Some-subcommand_matches-2.clean.now) in
    let is : given ≡ Some (codes "clean", rows) = search rules in
    IfErr-weaker c.clean_of.result _ _ (λ unasked told. wrong_clean c.args.here.now.folder given rows unasked is told) c.clean_of.ensures.wrong
