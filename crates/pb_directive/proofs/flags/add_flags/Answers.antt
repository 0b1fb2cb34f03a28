use Rattle.std.proofs.lemmas.Result.{err_from_is_err_and}
use Rattle.pb_directive.proofs.FlagLemmas.{flags_step, flags_fault}
use Rattle.pb_directive.proofs.flags.add_flags.Goals as goal

pub returns-in_err-flag : goal.returns-in_err-flag
returns-in_err-flag c =
    let p = err_from_is_err_and c.from_residual.result c.from_residual.ensures.1 in
    rw (p.1, p.2) (λ other. flags_fault _ _ _ _ _ _ _ c.loop-word.invariant c.in-Some.ensures.steps (c.in_err-flag.ensures.flag other))

pub loop-word-preserved : goal.loop-word-preserved
loop-word-preserved c = flags_step _ _ _ _ _ c.flag_from.new.words _ _ c.loop-word.invariant c.in-Some.ensures.steps c.in_ok-flag.ensures.flag c.in_ok-push.ensures.ok
