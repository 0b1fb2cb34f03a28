-- The plan of a build as a text. The text has three forms, which are our own choice.
use Rattle.std.specs.Prelude.{ℕ, codes, List, [], ◌∷◌, ◌++◌, Option, Some, None, slice_get}
use Rattle.std.specs.Fmt.{decimal}
use Rattle.pb_json.specs.Json.{json_string}
use Rattle.pb_unit.specs.declared.plan.Plan.{Plan}
use Rattle.pb_unit.specs.declared.plan.Planned.{Planned}

-- The key of a unit, or the empty text if there is no unit. `key_at` is the key of the unit at an
-- index.
abbrev pub key_in : Option Planned → List ℕ
key_in None = []
key_in (Some p) = p.key

abbrev pub key_at : List Planned → ℕ → List ℕ
key_at units index = key_in (slice_get units index)

-- Lines.

-- the keys of the units at these indices, with a space before each
abbrev pub spaced : List Planned → List ℕ → List ℕ
spaced units [] = []
spaced units (need ∷ needs) = codes " " ++ key_at units need ++ spaced units needs

-- a colon and the keys of the units at these indices, or no text if there are no indices
abbrev pub needed : List Planned → List ℕ → List ℕ
needed units [] = []
needed units (need ∷ needs) = codes ":" ++ spaced units (need ∷ needs)

-- the line `KEY` or `KEY: NEED NEED` for a unit
abbrev pub unit_line : List Planned → Planned → List ℕ
unit_line units p = p.key ++ needed units p.needs ++ codes "\n"

abbrev pub unit_lines : List Planned → List Planned → List ℕ
unit_lines units [] = []
unit_lines units (p ∷ ps) = unit_line units p ++ unit_lines units ps

-- a line for each unit, in plan order; the line has the unit's key, and the keys of the needed
-- units in plan order
abbrev pub plan_lines : Plan → List ℕ
plan_lines plan = unit_lines plan.planned plan.planned

-- JSON.

-- the keys of the units at these indices as JSON strings, with a comma before each
abbrev pub strings_rest : List Planned → List ℕ → List ℕ
strings_rest units [] = []
strings_rest units (need ∷ needs) = codes "," ++ json_string (key_at units need) ++ strings_rest units needs

-- the keys of the units at these indices as JSON strings, with commas between them
abbrev pub strings : List Planned → List ℕ → List ℕ
strings units [] = []
strings units (need ∷ needs) = json_string (key_at units need) ++ strings_rest units needs

-- the object `{"unit":KEY,"level":N,"needs":[KEY,..]}` for a unit
abbrev pub unit_object : List Planned → Planned → List ℕ
unit_object units p = codes "{\"unit\":" ++ json_string p.key ++ codes ",\"level\":" ++ decimal p.level ++ codes ",\"needs\":[" ++ strings units p.needs ++ codes "]}"

abbrev pub objects_rest : List Planned → List Planned → List ℕ
objects_rest units [] = []
objects_rest units (p ∷ ps) = codes ",\n" ++ unit_object units p ++ objects_rest units ps

abbrev pub objects : List Planned → List Planned → List ℕ
objects units [] = []
objects units (p ∷ ps) = unit_object units p ++ objects_rest units ps

-- a JSON list with an object for each unit, in plan order, one object per line
abbrev pub plan_json : Plan → List ℕ
plan_json plan = codes "[\n" ++ objects plan.planned plan.planned ++ codes "\n]\n"

-- A graph for Graphviz.

-- A key in quotation marks. A key has only letters, digits, `-`, `_` and `.`, so nothing is
-- escaped.
abbrev pub quoted : List ℕ → List ℕ
quoted key = codes "\"" ++ key ++ codes "\""

-- an arrow from the unit with this key to each unit that it needs
abbrev pub arrows : List Planned → List ℕ → List ℕ → List ℕ
arrows units key [] = []
arrows units key (need ∷ needs) = codes "  " ++ quoted key ++ codes " -> " ++ quoted (key_at units need) ++ codes ";\n" ++ arrows units key needs

-- the node of a unit, followed by the node's arrows
abbrev pub unit_statements : List Planned → Planned → List ℕ
unit_statements units p = codes "  " ++ quoted p.key ++ codes ";\n" ++ arrows units p.key p.needs

abbrev pub statements : List Planned → List Planned → List ℕ
statements units [] = []
statements units (p ∷ ps) = unit_statements units p ++ statements units ps

-- for each unit, in plan order, a node and the node's arrows, one statement per line
abbrev pub plan_dot : Plan → List ℕ
plan_dot plan = codes "digraph plan {\n" ++ statements plan.planned plan.planned ++ codes "}\n"
