-- What a build would do, as lines. The words are our own choice.
use Rattle.std.specs.Prelude.{ℕ, ◌-◌, Bool, true, false, codes, count_by, drop, length, slice_get, List, [], ◌∷◌, ◌++◌, Option, Some, None}
use Rattle.std.specs.Fmt.{decimal}
use Rattle.pb_tool_preview.specs.declared.fate.Fate.{Fate}
use Rattle.pb_tool_preview.specs.declared.fate.Fate.TheVariants.{Starts, Kept, Bad, Waits, Unreached}
use Rattle.pb_tool_reasons.specs.Grouping.{grouped}
use Rattle.pb_tool_reasons.specs.Reasons.{if_some, reason}
use Rattle.pb_tool_reasons.specs.declared.grouping.Row.{Row}
use Rattle.pb_unit.specs.declared.plan.Planned.{Planned}

abbrev pub is_started : Fate → Bool
is_started (Starts difference) = true
is_started Kept = false
is_started Bad = false
is_started (Waits index) = false
is_started (Unreached index) = false

abbrev pub is_waiting : Fate → Bool
is_waiting (Starts difference) = false
is_waiting Kept = false
is_waiting Bad = false
is_waiting (Waits index) = true
is_waiting (Unreached index) = false

abbrev pub is_unreached : Fate → Bool
is_unreached (Starts difference) = false
is_unreached Kept = false
is_unreached Bad = false
is_unreached (Waits index) = false
is_unreached (Unreached index) = true

abbrev pub key_in : Option Planned → List ℕ
key_in None = []
key_in (Some unit) = unit.key

abbrev pub key_at : List Planned → ℕ → List ℕ
key_at units index = key_in (slice_get units index)

-- the text about a unit with this fate; a kept unit has no text
abbrev pub said_of : List Planned → Fate → Option (List ℕ)
said_of units (Starts difference) = Some (codes "would be started, since " ++ reason difference ++ codes "")
said_of units Kept = None
said_of units Bad = Some (codes "would be bad, since its folder has changed")
said_of units (Waits index) = Some (codes "may be started, since " ++ key_at units index ++ codes " would be started first")
said_of units (Unreached index) = Some (codes "would not be reached, since " ++ key_at units index ++ codes " would be bad")

abbrev pub row_of : List ℕ → Option (List ℕ) → List Row
row_of key None = []
row_of key (Some said) = record { key = key; said = said } ∷ []

abbrev pub row_at : List Planned → List ℕ → Option Fate → List Row
row_at units key None = []
row_at units key (Some fate) = row_of key (said_of units fate)

-- a row for each of these units, unless the unit has no text
abbrev pub rows_of : List Planned → List Planned → List Fate → List Row
rows_of units [] fates = []
rows_of units (u ∷ us) fates = row_at units u.key (slice_get fates 0) ++ rows_of units us (drop 1 fates)

-- the number of units that wait, and the number of units that are not reached; a number that is 0
-- is left out
abbrev pub others_text : ℕ → ℕ → List ℕ
others_text waiting unreached = if_some waiting (codes " may be started") ++ if_some unreached (codes " not reached") ++ codes "\n"

abbrev pub kept_text : ℕ → List ℕ
kept_text kept = decimal kept ++ codes " kept"

abbrev pub started_text : ℕ → ℕ → List ℕ
started_text started kept = decimal started ++ codes " would be started, " ++ kept_text kept

abbrev pub counts_text : ℕ → ℕ → ℕ → ℕ → List ℕ
counts_text started kept waiting unreached = started_text started kept ++ others_text waiting unreached

-- the number of kept units, whether good or bad: all units but those that would be started, would
-- wait or would not be reached
abbrev pub count_kept : List Fate → ℕ
count_kept fates = length fates - count_by is_started fates - count_by is_waiting fates - count_by is_unreached fates

abbrev pub counts_line : List Fate → List ℕ
counts_line fates = counts_text (count_by is_started fates) (count_kept fates) (count_by is_waiting fates) (count_by is_unreached fates)

-- the lines that say what a build would do with units of these fates
abbrev pub preview_lines : List Planned → List Fate → List ℕ
preview_lines units fates = grouped (rows_of units units fates) ++ counts_line fates
