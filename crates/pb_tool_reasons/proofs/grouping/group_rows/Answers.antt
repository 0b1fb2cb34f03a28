use Rattle.std.proofs.Common.{◌≡◌, ◌∙◌, ◌+◌, ◌++◌, ap, append_assoc, drop, string_bytes, sym, take}
use Rattle.pb_tool_reasons.specs.Grouping.{line_in, lines_from}
use Rattle.pb_tool_reasons.proofs.Lines.{next_row}
use Rattle.pb_tool_reasons.proofs.grouping.group_rows.Goals as goal

pub loop-index-preserved : goal.loop-index-preserved
loop-index-preserved c =
    let rows = c.args.rows.now in
    let i = c.loop-index.index in
    let row = c.index-rows-index.result in
    let before = string_bytes c.loop-index.text in
    let rest = lines_from rows (take (i + 1) rows) (drop (i + 1) rows) in
    let added : string_bytes c.push_str.new.self ≡ before ++ line_in rows (take i rows) row = c.in_ok-push_str.ensures.bytes ∙ ap (λ t. before ++ t) (c.as_str.ensures.value ∙ c.in_ok-line.ensures) in
    ap (λ t. t ++ rest) added
    ∙ append_assoc before (line_in rows (take i rows) row) rest
    ∙ ap (λ t. before ++ t) (sym (next_row rows i row c.loop-index-test.true c.index-rows-index.is))
    ∙ c.loop-index.invariant
