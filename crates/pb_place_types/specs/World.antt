-- The outside world as two finite maps, what a child sees of the world, and how each call of an
-- honest place changes it.
use Rattle.std.specs.Prelude.{◌≡◌, ◌==◌, ◌+◌, ◌⊎◌, ℕ, Bool, true, false, not, ◌&&◌, ◌||◌, List, [], ◌∷◌, ◌++◌, length, map as each, take, drop, Option, Some, None, is_some, if◌then◌else◌}
use Rattle.std.specs.List.{fold, list_any}
use Rattle.std.specs.Option.{option_and_then, option_map}
use Rattle.std.specs.Ordering.{nat_cmp, eq_by_cmp}
use Rattle.std.specs.Str.{bytes_eq}
use Rattle.std.specs.Cmp.Lexicographic.{slice_cmp}
use Rattle.std.specs.FinMap as map
use Rattle.pb_data.specs.Ascii.{slash}
use Rattle.pb_place_types.specs.Paths.{stem, below, inside, is_below, is_at_or_below, is_path, last_of, parts_of}
use Rattle.pb_place_types.specs.declared.command.Command.{Command}
use Rattle.pb_place_types.specs.declared.command.Ended.{Ended}
use Rattle.pb_place_types.specs.declared.child.Reply.{Reply}

-- a finite map from texts to texts or bytes
abbrev pub Map : Type 0
Map = map.FinMap (slice_cmp nat_cmp) (List ℕ)

-- A world maps each file's normalised absolute path to the file's bytes, and each variable's name
-- to the variable's text.
pub record World : Type 0 where
  pub files : Map
  pub variables : Map

-- each file has a normalised absolute path
abbrev pub FilesHavePaths : World → Type 0
FilesHavePaths w = (path bytes : List ℕ) → map.get w.files path ≡ Some bytes → is_path path ≡ true

-- the world has a file at the path
abbrev pub has_file : List ℕ → World → Bool
has_file path w = is_some (map.get w.files path)

-- a child as a function: the child's command and the world that the child sees determine the reply
abbrev pub Answers : Type 0
Answers = Command → World → Reply

-- A child sees the variables, the sources, and the files strictly below the folders that the
-- child's command reads.
unfoldable pub is_shown : Command → List ℕ → Bool
is_shown c path = not (is_at_or_below c.target path) || list_any (λ folder. is_below folder path) c.reads

abbrev pub seen_by : Command → World → World
seen_by c w = record w { files = map.retain_keys w.files (is_shown c) }

-- the world with these bytes at a path
abbrev pub written : List ℕ → List ℕ → World → World
written path bytes w = record w { files = map.insert w.files path bytes }

-- the world without the file at a path and the files below it
abbrev pub removed : List ℕ → World → World
removed path w = record w { files = map.retain_keys w.files (λ q. not (is_at_or_below path q)) }

-- the files strictly below a folder, in byte order
abbrev pub listed : List ℕ → World → List (List ℕ)
listed folder w = map.keys (map.retain_keys w.files (is_below folder))

-- a path is directly in a folder if it is strictly below the folder, and its path inside the folder
-- has no slash
abbrev pub is_directly_in : List ℕ → List ℕ → Bool
is_directly_in folder path = is_below folder path && not (list_any (λ b. b == slash) (drop (length (stem folder) + 1) path))

-- the files directly in a folder, in byte order
abbrev pub listed_directly : List ℕ → World → List (List ℕ)
listed_directly folder w = map.keys (map.retain_keys w.files (is_directly_in folder))

-- the first of these parts, if there are two or more parts
abbrev pub first_folder : List (List ℕ) → Option (List ℕ)
first_folder [] = None
first_folder (part ∷ []) = None
first_folder (part ∷ next ∷ parts) = Some part

-- The folder directly in `folder` through which a path leads, if there is one. In `/a`, the path
-- `/a/b/c/d` leads through `/a/b`, and `/a/b` leads through no folder.
abbrev pub folder_towards : List ℕ → List ℕ → Option (List ℕ)
folder_towards folder path = option_and_then (λ rest. option_map (below folder) (first_folder (parts_of rest))) (inside folder path)

-- the path is the last of these paths
abbrev pub is_last : List ℕ → List (List ℕ) → Bool
is_last path [] = false
is_last path (first ∷ paths) = bytes_eq path (last_of first paths)

-- The folders, and after them the new folder, if there is one. If the list already ends with the
-- new folder, the list is unchanged.
abbrev pub with_new : List (List ℕ) → Option (List ℕ) → List (List ℕ)
with_new folders None = folders
with_new folders (Some folder) = if is_last folder folders then folders else folders ++ folder ∷ []

-- The folders directly in `folder` through which these paths lead, in the order of the paths. No
-- folder occurs twice in a row.
abbrev pub folders_among : List ℕ → List (List ℕ) → List (List ℕ)
folders_among folder paths = fold with_new [] (each (folder_towards folder) paths)

-- The folders that are directly in a given folder and have a file below them. Files below one
-- folder are adjacent in byte order, so each folder is listed once.
abbrev pub listed_folders : List ℕ → World → List (List ℕ)
listed_folders folder w = folders_among folder (listed folder w)

-- The sources, given the target folder: all files that are not at or below the target folder. A
-- clean build sees nothing else.
abbrev pub from_nothing : List ℕ → World → World
from_nothing target w = removed target w

-- two maps agree at each path, except at paths of which `may` is true
abbrev pub AgreeBut : (List ℕ → Bool) → Map → Map → Type 0
AgreeBut may old new = (q : List ℕ) → may q ≡ false → map.get new q ≡ map.get old q

-- the two paths are the same
abbrev pub is_same_path : List ℕ → List ℕ → Bool
is_same_path p q = eq_by_cmp (slice_cmp nat_cmp) q p

-- after a failed write the path has its old bytes, no bytes, or the first n of the new bytes
pub record TornAt (path bytes : List ℕ) (old new : Map) : Type 0 where
  pub only : AgreeBut (is_same_path path) old new
  pub there : (map.get new path ≡ map.get old path) ⊎ ((map.get new path ≡ None) ⊎ ((n : ℕ) × (map.get new path ≡ Some (take n bytes))))

-- after a failed removal each file at or below the path is unchanged or gone
pub record PartlyRemovedAt (path : List ℕ) (old new : Map) : Type 0 where
  pub only : AgreeBut (is_at_or_below path) old new
  pub there : (q : List ℕ) → (map.get new q ≡ map.get old q) ⊎ (map.get new q ≡ None)

-- the variables are unchanged, and the files change as `change` states
pub record Files (change : Map → Map → Type 0) (old new : World) : Type 0 where
  pub variables : new.variables ≡ old.variables
  pub files : change old.files new.files

abbrev pub Torn : List ℕ → List ℕ → World → World → Type 0
Torn path bytes = Files (TornAt path bytes)

abbrev pub PartlyRemoved : List ℕ → World → World → Type 0
PartlyRemoved path = Files (PartlyRemovedAt path)

abbrev pub ChangesOnly : (List ℕ → Bool) → World → World → Type 0
ChangesOnly may = Files (AgreeBut may)

-- only files strictly below a folder are changed
abbrev pub ChangesOnlyIn : List ℕ → World → World → Type 0
ChangesOnlyIn folder = ChangesOnly (is_below folder)

-- if there is no folder, nothing changes; if there is one, only files strictly below the folder
-- change
abbrev pub ChangesOnlyInSome : Option (List ℕ) → World → World → Type 0
ChangesOnlyInSome None old new = new ≡ old
ChangesOnlyInSome (Some folder) old new = ChangesOnlyIn folder old new

-- the map after these files are put into a folder one by one, each at its path inside the folder
abbrev pub put_files : List ℕ → List (List ℕ × List ℕ) → Map → Map
put_files folder [] m = m
put_files folder (f ∷ fs) m = put_files folder fs (map.insert m (below folder f.0) f.1)

-- the world after the files of a reply are put into the output folder, if there is one
abbrev pub put_reply : Option (List ℕ) → List (List ℕ × List ℕ) → World → World
put_reply None files w = w
put_reply (Some folder) files w = record w { files = put_files folder files w.files }

-- A child has ended with the reply to what the child sees. The reply's files are in the command's
-- output folder, if there is one.
pub record Ends (child : World → Reply) (command : Command) (old : World) (ended : Ended) (new : World) : Type 0 where
  pub status : ended.status ≡ (child (seen_by command old)).status
  pub stdout : ended.stdout ≡ (child (seen_by command old)).stdout
  pub stderr : ended.stderr ≡ (child (seen_by command old)).stderr
  pub world : new ≡ put_reply command.out (child (seen_by command old)).files old
