use Rattle.std.proofs.Common.{◌≡◌, ◌==◌, map, IfOk, subst, sym, ap, ◌∙◌, rules}
use Rattle.std.specs.List.{slice_split}
use Rattle.pb_mini.proofs.LineLemmas.{lines_without_feed}
use Rattle.pb_mini.proofs.lines.byte_lines.Goals as goal

pub returns : goal.returns
returns c =
    subst (λ ls. IfOk c.byte_parts.result (λ lines. map (λ line. line.now) lines.items ≡ ls))
    (ap (slice_split (λ b. b == 10)) c.without_feed.ensures ∙ sym (lines_without_feed c.args.bytes.now (search rules))) c.byte_parts.ensures
