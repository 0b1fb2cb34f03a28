use Rattle.std.proofs.Common.{reverse, ap, ◌∙◌}
use Rattle.pb_workspace.specs.Globs.{matches}
use Rattle.pb_workspace.specs.Rows.{row_of, last_matched}
use Rattle.pb_workspace.proofs.RowLemmas.{whole_ok}
use Rattle.pb_workspace.proofs.glob.matches.Goals as goal

pub returns : goal.returns
returns c =
    c.last_matched.ensures
    ∙ ap (λ row. last_matched row.empty row.cells) (c.in_ok-row.ensures ∙ ap (λ p. row_of (matches p) (reverse c.as_bytes-2.result.now)) c.as_bytes.ensures.value ∙ ap (λ n. row_of (matches c.args.pattern.now) (reverse n)) c.as_bytes-2.ensures.value)
    ∙ whole_ok (matches c.args.pattern.now) c.args.name.now
