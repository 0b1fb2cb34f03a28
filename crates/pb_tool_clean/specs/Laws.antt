-- A law about what is removed.
use Rattle.std.specs.Prelude.{◌≡◌, ◌⊎◌, ℕ, true, All, List}
use Rattle.pb_place_types.specs.Paths.{is_below, last_part}
use Rattle.pb_tool_clean.specs.Cleaning.{chosen_of}
use Rattle.pb_tool_clean.specs.Names.{is_record, is_unit, words_in}
use Rattle.pb_tool_clean.specs.declared.choice.Choice.{Choice}
use Rattle.pb_tool_clean.specs.declared.looking.Listed.{Listed}

-- the path is below the target folder, and its last part is the name of a record or of a unit's
-- folder
pub record IsMadeByBuild (target path : List ℕ) : Type 0 where
  pub inside : is_below target path ≡ true
  pub name : (is_record (words_in (last_part path)) ≡ true) ⊎ (is_unit (words_in (last_part path)) ≡ true)

-- Whatever a place lists, each chosen path is as `IsMadeByBuild` says.
abbrev pub ChosenAreMade : Type 0
ChosenAreMade = (choice : Choice) (listed : Listed) → All (IsMadeByBuild choice.target) (chosen_of choice listed)
