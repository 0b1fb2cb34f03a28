use Rattle.std.proofs.Common.{◌≡◌, ◌+◌, ◌∙◌, arith, ap, length, Ok, List, ℕ, rules}
use Rattle.pb_data.specs.UnlessOom.{◌>>=◌}
use Rattle.pb_directive.specs.Lines.{lines_of}
use Rattle.pb_directive.specs.DepInfo.{info_from, with_info}
use Rattle.pb_directive.proofs.InfoLemmas.{info_start, info_step}
use Rattle.pb_directive.proofs.names.read_dep_info.Goals as goal

pub loop-line-init : goal.loop-line-init
loop-line-init c =
    let lines : c.into_iter-line-iterator.result ≡ lines_of c.args.bytes.now = search rules in
    record {
      read = (λ i. info_from 1 (lines i) >>= (λ more. Ok (with_info (c.new-info.ensures i) more))) ∙ info_start (info_from 1 (lines_of c.args.bytes.now));
      counted = ap (λ (ls : List (List ℕ)). 1 + length ls) lines;
    }

pub loop-line-preserved : goal.loop-line-preserved
loop-line-preserved c = record {
  read = info_step _ _ _ _ _ _ _ c.loop-line.invariant.read c.in-Some.ensures.steps c.in-Ok.ensures;
  counted = omega (arith, ap length c.in-Some.ensures.steps);
}
