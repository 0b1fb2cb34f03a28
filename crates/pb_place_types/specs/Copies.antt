-- How files are copied from one map into another.
use Rattle.std.specs.Prelude.{◌≡◌, ◌⊎◌, ℕ, not, ◌/◌, List, [], ◌∷◌, Option, Some, None, length, take}
use Rattle.std.specs.FinMap as map
use Rattle.std.specs.List.{list_any}
use Rattle.pb_place_types.specs.Paths.{is_below, is_at_or_below}
use Rattle.pb_place_types.specs.World.{World, Map, put_files, is_same_path}

-- the map after these bytes are put at a path; without bytes, the map is unchanged
abbrev pub put_one : List ℕ → Option (List ℕ) → Map → Map
put_one path None m = m
put_one path (Some bytes) m = map.insert m path bytes

-- a map, into which the files at these paths are copied from another map, one by one
abbrev pub put_from : Map → List (List ℕ) → Map → Map
put_from from [] m = m
put_from from (path ∷ paths) m = put_from from paths (put_one path (map.get from path) m)

-- exactly the files at the first n of these paths were copied, for some n
abbrev pub PutsSome : Map → List (List ℕ) → Map → Map → Type 0
PutsSome from [] old new = new ≡ old
PutsSome from (path ∷ paths) old new = (new ≡ old) ⊎ PutsSome from paths (put_one path (map.get from path) old) new

-- the first half of a list of paths; half of an odd length is rounded down
abbrev pub first_half : List (List ℕ) → List (List ℕ)
first_half paths = take (length paths / 2) paths

-- the files of a map, except the files at these paths
abbrev pub but_at : List (List ℕ) → Map → Map
but_at paths m = map.retain_keys m (λ q. not (list_any (is_same_path q) paths))

-- the map after half of the files at or below a path are removed: the first half in byte order
abbrev pub half_removed : List ℕ → Map → Map
half_removed path m = but_at (first_half (map.keys (map.retain_keys m (is_at_or_below path)))) m

-- the world after half of a reply's files are put into the output folder: the first half in byte
-- order
abbrev pub put_half : Option (List ℕ) → List (List ℕ × List ℕ) → World → World
put_half None files w = w
put_half (Some out) files w = record w { files = put_from (put_files out files map.empty) (first_half (map.keys (map.retain_keys (put_files out files map.empty) (is_below out)))) w.files }
