-- How lines about units are written. Many units with the same text share a line.
use Rattle.std.specs.Prelude.{ℕ, Bool, nat_lt, if◌then◌else◌, codes, count_by, List, [], ◌∷◌, ◌++◌}
use Rattle.std.specs.Fmt.{decimal}
use Rattle.std.specs.List.{list_any}
use Rattle.std.specs.Str.{bytes_eq}
use Rattle.pb_tool_reasons.specs.declared.grouping.Row.{Row}

-- the number of these rows that have this text
abbrev pub count_in : List Row → List ℕ → ℕ
count_in rows said = count_by (λ (row : Row). bytes_eq row.said said) rows

-- one of these rows has this text
abbrev pub is_said : List Row → List ℕ → Bool
is_said rows said = list_any (λ (row : Row). bytes_eq row.said said) rows

abbrev pub own_line : Row → List ℕ
own_line row = row.key ++ codes ": " ++ row.said ++ codes "\n"

abbrev pub group_line : ℕ → Row → List ℕ
group_line count row = decimal count ++ codes " units: " ++ row.said ++ codes "\n"

-- The line for a row, given the earlier rows. If fewer than five of all rows have the row's text,
-- this is the row's own line. Otherwise the first row with this text has one line for all of these
-- rows, and the others have no line.
abbrev pub line_in : List Row → List Row → Row → List ℕ
line_in rows before row =
    if nat_lt (count_in rows row.said) 5 then own_line row else (if is_said before row.said then [] else group_line (count_in rows row.said) row)

-- the lines of the remaining rows, given the earlier rows
abbrev pub lines_from : List Row → List Row → List Row → List ℕ
lines_from rows before [] = []
lines_from rows before (row ∷ left) = line_in rows before row ++ lines_from rows (before ++ row ∷ []) left

-- the lines of all rows
abbrev pub grouped : List Row → List ℕ
grouped rows = lines_from rows [] rows
