use Rattle.std.proofs.Common.{◌≡◌, map, IfOk, subst, sym, ap, ◌∙◌, rules}
use Rattle.pb_mini.specs.Lines.{lines_of}
use Rattle.pb_mini.proofs.LineLemmas.{lines_ended, lines_open}
use Rattle.pb_mini.proofs.lines.text_lines.Goals as goal

pub returns-in-Some : goal.returns-in-Some
returns-in-Some c =
    subst (λ ls. IfOk c.text_parts.result (λ lines. map (λ line. line.now) lines.items ≡ ls))
    (sym (lines_ended c.in-Some.front.now) ∙ ap lines_of (sym c.in-Some.ensures)) c.text_parts.ensures

pub returns-in-None : goal.returns-in-None
returns-in-None c =
    subst (λ ls. IfOk c.text_parts-in-None.result (λ lines. map (λ line. line.now) lines.items ≡ ls))
    (sym (lines_open c.args.text.now (search rules) c.in-None.ensures)) c.text_parts-in-None.ensures
