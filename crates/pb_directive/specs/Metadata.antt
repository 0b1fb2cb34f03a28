-- How a build script's metadata reaches the scripts of the packages that need it (The Cargo Book,
-- "Build Scripts", "The links Manifest Key").
use Rattle.std.specs.Prelude.{ℕ, ◌==◌, List, ◌++◌, if◌then◌else◌, codes, map, Option, Some, None}
use Rattle.std.specs.List.{filter_map}
use Rattle.std.specs.StrCase.Upper.{str_to_uppercase}
use Rattle.pb_data.specs.Ascii.{dash, underscore}
use Rattle.pb_data.specs.Table.{table_of}
use Rattle.pb_directive.specs.declared.directive.Directive.{Directive}
use Rattle.pb_directive.specs.declared.directive.Directive.TheVariants.{Metadata}

-- the text with `_` for each `-`
abbrev pub underscored : List ℕ → List ℕ
underscored text = map (λ b. if b == dash then underscore else b) text

-- the text in upper case, with `_` for each `-`
abbrev pub in_capitals : List ℕ → List ℕ
in_capitals text = underscored (str_to_uppercase text)

-- the name `DEP_LINKS_KEY` of the variable for a key of metadata
abbrev pub dep_name : List ℕ → List ℕ → List ℕ
dep_name links key = codes "DEP_" ++ in_capitals links ++ codes "_" ++ in_capitals key

-- the variable that a directive sets, with its value; only a directive of metadata sets a variable
abbrev pub dep_pair : List ℕ → Directive → Option (List ℕ × List ℕ)
dep_pair links (Metadata key value) = Some (dep_name links key, value)
dep_pair links _ = None

-- the variables that the metadata of a run sets, with their values, in printed order
abbrev pub passed : List ℕ → List Directive → List (List ℕ × List ℕ)
passed links directives = filter_map (dep_pair links) directives

-- the variables that the metadata of a run sets, each once and with its last value
abbrev pub dep_pairs : List ℕ → List Directive → List (List ℕ × List ℕ)
dep_pairs links directives = table_of (passed links directives)
