-- Sorted maps as finite maps.
use Rattle.std.specs.Prelude.{ℕ, List}
use Rattle.std.specs.FinMap as map
use Rattle.std.specs.BTreeMap.{BTreeMap}
use Rattle.std.specs.Coded.{Coded, coded_ℕ, coded_list}
use Rattle.pb_place_types.specs.World.{Map}

abbrev pub map_code : Coded Map
map_code = map.code (coded_list coded_ℕ) (coded_list coded_ℕ)

-- the files of a sorted map
abbrev pub files_of : BTreeMap (List ℕ) (List ℕ) → Map
files_of m = map.from_entries m.entries
