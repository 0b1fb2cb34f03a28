-- Laws of worlds with many folders: what stays unchanged if another folder changes, how one map
-- lies over another, and what a child sees.
use Rattle.std.specs.Prelude.{◌≡◌, ◌≢◌, ◌==◌, ℕ, true, false, List, [], ◌∷◌, ◌++◌, Option, Some, None, if◌then◌else◌}
use Rattle.std.specs.FinMap as map
use Rattle.std.specs.List.{list_any}
use Rattle.pb_data.specs.Ascii.{slash}
use Rattle.pb_place_types.specs.Paths.{is_path, is_name, below, is_below, is_at_or_below}
use Rattle.pb_place_types.specs.World.{World, Map, is_shown, seen_by, removed, from_nothing, put_files, ChangesOnly}
use Rattle.pb_place_types.specs.declared.command.Command.{Command}

-- the files strictly below a folder
abbrev pub files_in : List ℕ → Map → Map
files_in folder m = map.retain_keys m (is_below folder)

-- the map with all entries of the first map, and with the entries of the second map at all other
-- paths
abbrev pub over : Map → Map → Map
over m n = map.from_entries (map.entries m ++ map.entries n)

-- the first of two options if it has a value, else the second
abbrev pub first_of : {A : Type 0} → Option A → Option A → Option A
first_of None y = y
first_of (Some x) y = Some x

-- the second map, overlaid with the files that the first map has in these folders
abbrev pub folders_over : List (List ℕ) → Map → Map → Map
folders_over [] m n = n
folders_over (folder ∷ folders) m n = over (files_in folder m) (folders_over folders m n)

-- two folders lie apart if their paths are normalised and neither folder is at or below the other
pub record LieApart (f g : List ℕ) : Type 0 where
  pub first : is_path f ≡ true
  pub second : is_path g ≡ true
  pub not_below_first : is_at_or_below f g ≡ false
  pub not_below_second : is_at_or_below g f ≡ false

-- folders with different names in a common folder lie apart
abbrev pub NamedFoldersLieApart : Type 0
NamedFoldersLieApart = (folder name other : List ℕ) → is_path folder ≡ true → is_name name ≡ true → is_name other ≡ true
    → list_any (λ b. b == slash) name ≡ false → list_any (λ b. b == slash) other ≡ false → name ≢ other → LieApart (below folder name) (below folder other)

-- each of these folders has the same files in both worlds
abbrev pub FoldersAgree : List (List ℕ) → World → World → Type 0
FoldersAgree [] v w = Unit {0}
FoldersAgree (folder ∷ folders) v w = (files_in folder v.files ≡ files_in folder w.files) × FoldersAgree folders v w

-- if two folders lie apart, changes at or below one of them leave the files in the other unchanged
abbrev pub FolderStays : Type 0
FolderStays = (f g : List ℕ) (old new : World) → LieApart f g → ChangesOnly (is_at_or_below g) old new → files_in f new.files ≡ files_in f old.files

-- changes at or below a folder that is at or below the target folder leave the sources unchanged
abbrev pub SourcesStayed : Type 0
SourcesStayed = (target folder : List ℕ) (old new : World) → is_at_or_below target folder ≡ true → ChangesOnly (is_at_or_below folder) old new → from_nothing target new ≡ from_nothing target old

-- Two changes at or below a folder are together one change at or below this folder. A change at or
-- below a folder is also a change at or below each folder above it.
abbrev pub ChangesJoin : Type 0
ChangesJoin = (folder : List ℕ) (old mid new : World) → ChangesOnly (is_at_or_below folder) old mid → ChangesOnly (is_at_or_below folder) mid new → ChangesOnly (is_at_or_below folder) old new

abbrev pub ChangesWiden : Type 0
ChangesWiden = (above folder : List ℕ) (old new : World) → is_at_or_below above folder ≡ true → ChangesOnly (is_at_or_below folder) old new → ChangesOnly (is_at_or_below above) old new

-- `over` has all files of the first map, and those files of the second map whose paths are not in
-- the first map
abbrev pub LooksOver : Type 0
LooksOver = (m n : Map) (q : List ℕ) → map.get (over m n) q ≡ first_of (map.get m q) (map.get n q)

-- the files in a folder are the files of the map whose paths are strictly below the folder
abbrev pub LooksIn : Type 0
LooksIn = (folder : List ℕ) (m : Map) (q : List ℕ) → map.get (files_in folder m) q ≡ (if is_below folder q then map.get m q else None)

-- the sources are the files that are not at or below the target folder
abbrev pub LooksAtSources : Type 0
LooksAtSources = (target : List ℕ) (w : World) (q : List ℕ) → map.get (from_nothing target w).files q ≡ (if is_at_or_below target q then None else map.get w.files q)

-- a child sees all variables, and the files that the child's command shows
abbrev pub LooksThrough : Type 0
LooksThrough = (c : Command) (w : World) (q : List ℕ) → map.get (seen_by c w).files q ≡ (if is_shown c q then map.get w.files q else None)

-- if a child's command reads no folder, the child sees exactly the sources
abbrev pub SeesSources : Type 0
SeesSources = (c : Command) (w : World) → c.reads ≡ [] → seen_by c w ≡ from_nothing c.target w

-- a child sees the sources, overlaid with the files of the folders that the child reads
abbrev pub SeesFolders : Type 0
SeesFolders = (c : Command) (w : World) → seen_by c w ≡ record w { files = folders_over c.reads w.files (from_nothing c.target w).files }

-- a child sees the same in two worlds with the same sources and with the same files in the folders
-- that the child reads
abbrev pub SeesAlike : Type 0
SeesAlike = (c : Command) (v w : World) → from_nothing c.target v ≡ from_nothing c.target w → FoldersAgree c.reads v w → seen_by c v ≡ seen_by c w

-- if a reply's files are put in an emptied folder, that folder contains no other files
abbrev pub StandAlone : Type 0
StandAlone = (out : List ℕ) (files : List (List ℕ × List ℕ)) (w : World) → files_in out (put_files out files (removed out w).files) ≡ files_in out (put_files out files map.empty)
