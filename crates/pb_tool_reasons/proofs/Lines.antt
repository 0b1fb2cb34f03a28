-- The lines of rows, one after another.
use Rattle.std.proofs.Common.{◌≡◌, ◌∙◌, ◌+◌, ◌<◌, ◌++◌, List, ◌∷◌, [], ℕ, ap, get_or, length, drop, take, sym}
use Rattle.std.proofs.lemmas.List.{drop_more, take_more}
use Rattle.pb_tool_reasons.specs.Grouping.{line_in, lines_from}
use Rattle.pb_tool_reasons.specs.declared.grouping.Row.{Row}

-- one more row
pub next_line : (rows : List Row) (i : ℕ) (d : Row) → i < length rows
    → lines_from rows (take i rows) (drop i rows) ≡ line_in rows (take i rows) (get_or rows i d) ++ lines_from rows (take (i + 1) rows) (drop (i + 1) rows)
next_line rows i d within =
    ap (lines_from rows (take i rows)) (drop_more rows i d within)
    ∙ ap (λ before. line_in rows (take i rows) (get_or rows i d) ++ lines_from rows before (drop (i + 1) rows)) (sym (take_more rows i d within))

-- the same with the row by its name
pub next_row : (rows : List Row) (i : ℕ) (row : Row) → i < length rows → row ≡ get_or rows i row
    → lines_from rows (take i rows) (drop i rows) ≡ line_in rows (take i rows) row ++ lines_from rows (take (i + 1) rows) (drop (i + 1) rows)
next_row rows i row within is = next_line rows i row within ∙ ap (λ (r : Row). line_in rows (take i rows) r ++ lines_from rows (take (i + 1) rows) (drop (i + 1) rows)) (sym is)
