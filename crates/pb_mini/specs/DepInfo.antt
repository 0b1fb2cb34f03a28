-- The dep-info file, which lists what a compile has read.
use Rattle.std.specs.Prelude.{ℕ, ◌==◌, if◌then◌else◌, codes, List, [], ◌∷◌, ◌++◌, Option, Some, None}
use Rattle.pb_data.specs.Ascii.{line_feed, space, colon, equals, backslash}
use Rattle.pb_mini.specs.declared.dep_info.Names.{Names}

-- the path, with `\ ` instead of each space
abbrev pub spelled : List ℕ → List ℕ
spelled [] = []
spelled (b ∷ bs) = if b == space then backslash ∷ space ∷ spelled bs else b ∷ spelled bs

-- the paths, with a space before each
abbrev pub paths_text : List (List ℕ) → List ℕ
paths_text [] = []
paths_text (path ∷ paths) = space ∷ spelled path ++ paths_text paths

-- the value after an equals sign, or no text for a variable that is not set
abbrev pub value_text : Option (List ℕ) → List ℕ
value_text None = []
value_text (Some value) = equals ∷ value

-- the line `# env-dep:NAME` or `# env-dep:NAME=VALUE` for a variable
abbrev pub variable_text : List ℕ × Option (List ℕ) → List ℕ
variable_text variable = codes "# env-dep:" ++ variable.0 ++ value_text variable.1 ++ line_feed ∷ []

abbrev pub variables_text : List (List ℕ × Option (List ℕ)) → List ℕ
variables_text [] = []
variables_text (variable ∷ variables) = variable_text variable ++ variables_text variables

-- the line `OUTPUT: PATHS`
abbrev pub rule_text : List ℕ → List (List ℕ) → List ℕ
rule_text output paths = spelled output ++ colon ∷ paths_text paths ++ line_feed ∷ []

-- the text of the dep-info: the rule, followed by the variables
abbrev pub dep_info_text : List ℕ → Names → List ℕ
dep_info_text output names = spelled output ++ colon ∷ paths_text names.paths ++ line_feed ∷ variables_text names.variables
