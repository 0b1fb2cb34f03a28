-- How names are written in dep-info, and how they are read back.
use Rattle.std.specs.Prelude.{◌≡◌, ℕ, ◌==◌, not, ◌||◌, Bool, true, false, List, [], ◌∷◌, Option, Ok}
use Rattle.std.specs.List.{AllByRecursion}
use Rattle.pb_data.specs.Ascii.{carriage_return, backslash}
use Rattle.pb_data.specs.OrderedSet.{is_mentioned}
use Rattle.pb_data.specs.Table.{names_of}
use Rattle.pb_directive.specs.DepInfo.{dep_info_of}
use Rattle.pb_directive.specs.Lines.{has_byte}
use Rattle.pb_directive.specs.declared.dep_info.DepInfo.{DepInfo}
use Rattle.pb_place_types.specs.Paths.{is_absolute}
use Rattle.pb_mini.specs.DepInfo.{dep_info_text}
use Rattle.pb_mini.specs.declared.dep_info.Names.{Names}

-- The name is not empty. A `\` at the end would escape the space after the name, and a carriage
-- return at the end would be removed. So the name ends with neither.
abbrev pub ends_plainly : List ℕ → Bool
ends_plainly [] = false
ends_plainly (b ∷ []) = not ((b == backslash) || (b == carriage_return))
ends_plainly (b ∷ c ∷ bytes) = ends_plainly (c ∷ bytes)

-- the name can be written in dep-info: it ends plainly, and is one line
pub record CanBeTold (name : List ℕ) : Type 0 where
  pub ends : ends_plainly name ≡ true
  pub one_line : has_byte 10 name ≡ false

-- the variable can be written in dep-info: its name can be written there, and has no `=`, which
-- would end the name
pub record CanBeAsked (variable : List ℕ × Option (List ℕ)) : Type 0 where
  pub told : CanBeTold variable.0
  pub no_equals : has_byte 61 variable.0 ≡ false

-- each text in `texts` is also in `others`
abbrev pub AreAmong : List (List ℕ) → List (List ℕ) → Type 0
AreAmong texts others = (text : List ℕ) → is_mentioned texts text ≡ true → is_mentioned others text ≡ true

-- If dep-info can express the output and the names, reading the dep-info back finds all names that
-- were written.
abbrev pub ReadsBack : List ℕ → Names → DepInfo → Type 0
ReadsBack output names info = is_absolute output ≡ true → has_byte 10 output ≡ false → AllByRecursion CanBeTold names.paths → AllByRecursion CanBeAsked names.variables
    → dep_info_of (dep_info_text output names) ≡ Ok info → AreAmong names.paths info.words × AreAmong (names_of names.variables) info.variables
