use Rattle.std.proofs.Common.{◌∙◌}
use Rattle.clap.specs.Matches.{found_of}
use Rattle.clap.proofs.WalkLemmas.{one_text-rows}
use Rattle.pb_tool_arguments.proofs.values.is_given.Goals as goal

pub returns : goal.returns
returns c =
    let same = one_text-rows (found_of c.args.matches.now) c.args.name.now in
    record {
      absent = λ e. c.get_flag.ensures.none (same ∙ e);
      on = λ e. c.get_flag.ensures.value (same ∙ e);
      off = λ e. c.get_flag.ensures.other (same ∙ e);
    }
