-- Why a build started children. The words are our own choice.
use Rattle.std.specs.Prelude.{ℕ, ◌-◌, Bool, true, false, nat_lt, if◌then◌else◌, codes, length, slice_get, drop, List, [], ◌∷◌, ◌++◌, Option, Some, None}
use Rattle.std.specs.Fmt.{decimal}
use Rattle.std.specs.List.{list_all}
use Rattle.std.specs.Str.{bytes_eq}
use Rattle.pb_store.specs.declared.difference.Difference.{Difference}
use Rattle.pb_store.specs.declared.difference.Difference.TheVariants.{Pair}
use Rattle.pb_tool_reasons.specs.Grouping.{grouped}
use Rattle.pb_tool_reasons.specs.Reasons.{if_some, reason_with}
use Rattle.pb_tool_reasons.specs.declared.detail.Detail.{Detail}
use Rattle.pb_tool_reasons.specs.declared.detail.Detail.TheVariants.{Nothing}
use Rattle.pb_tool_reasons.specs.declared.grouping.Row.{Row}

-- a detail, if there is one
abbrev pub detail_or : Option Detail → Detail
detail_or None = Nothing
detail_or (Some detail) = detail

abbrev pub started_row : List ℕ → Difference → Detail → Row
started_row key difference detail = record { key = key; said = codes "started, since " ++ reason_with difference detail }

abbrev pub row_if : List ℕ → Option Difference → Option Detail → List Row
row_if key None detail = []
row_if key (Some difference) detail = started_row key difference (detail_or detail) ∷ []

-- a row for each unit for which a child was started
abbrev pub rows_of : List (List ℕ) → List Difference → List Detail → List Row
rows_of [] differences details = []
rows_of (key ∷ keys) differences details = row_if key (slice_get differences 0) (slice_get details 0) ++ rows_of keys (drop 1 differences) (drop 1 details)

abbrev pub counts_line : ℕ → ℕ → ℕ → List ℕ
counts_line started kept unreached = decimal started ++ codes " started, " ++ decimal kept ++ codes " kept" ++ if_some unreached (codes " not reached") ++ codes "\n"

-- the difference is in the variable `CARGO`, whose text for children has changed
abbrev pub is_tool : Difference → Bool
is_tool (Pair name) = bytes_eq name (codes "CARGO")
is_tool _ = false

abbrev pub note_if : Bool → List ℕ
note_if false = []
note_if true = codes "note: CARGO is the name by which this program was called; --tool TEXT sets CARGO\n"

-- the note about `CARGO`, if some unit was started and every difference is in this variable
abbrev pub tool_note : List Difference → List ℕ
tool_note differences = if nat_lt 0 (length differences) then note_if (list_all is_tool differences) else []

-- Why a build with this number of units started children. The keys are those of the started units.
-- The reasons come first, then a note if only `CARGO` is known to differ. The last line has the
-- number of started units, of kept units, and of units that did not begin.
abbrev pub explanation : ℕ → List (List ℕ) → List Difference → List Detail → ℕ → List ℕ
explanation units keys differences details kept =
    grouped (rows_of keys differences details) ++ tool_note differences ++ counts_line (length keys) kept (units - length keys - kept)
