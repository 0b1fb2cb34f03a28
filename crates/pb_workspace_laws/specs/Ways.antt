-- How a path is spelled as a text, and how it is spelled relative to a folder.
use Rattle.std.specs.Prelude.{◌≡◌, ◌++◌, ◌∷◌, ◌-◌, ◌==◌, ℕ, if◌then◌else◌, codes, drop, List, length, replicate}
use Rattle.std.specs.List.{common_prefix_len, flat_map, join_by}
use Rattle.std.specs.Str.{bytes_eq}
use Rattle.pb_data.specs.Ascii.{slash}
use Rattle.pb_place_types.specs.Paths.{path_of}
use Rattle.pb_workspace_package.specs.Between.{names_in, text_between}

-- The relative path from a folder to a path goes up and then down. The relative path goes up to the
-- last folder that the folder and the path have in common.
abbrev pub TextsLeadBetween : Type 0
TextsLeadBetween = (folder path : List ℕ) → let same = common_prefix_len bytes_eq (names_in folder) (names_in path) in
    text_between folder path ≡ join_by (λ name. name) (codes "/") (replicate (length (names_in folder) - same) (codes "..") ++ drop same (names_in path))

-- A path is spelled as its names, with a slash before each. A path without names is a single slash.
abbrev pub PathsAreSpelled : Type 0
PathsAreSpelled = (names : List (List ℕ)) → path_of names ≡ (if length names == 0 then codes "/" else flat_map (λ name. slash ∷ name) names)
