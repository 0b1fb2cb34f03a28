-- What was found below a folder.
use Rattle.std.specs.Prelude.{◌≡◌, true, false, Bool, ℕ, List, Option, Some, None, All}
use Rattle.std.specs.List.Sorted.{IsSorted}
use Rattle.std.specs.Ordering.{nat_cmp}
use Rattle.std.specs.Cmp.Lexicographic.{slice_cmp}
use Rattle.pb_place_types.specs.Paths.{is_below, is_at_or_below}
use Rattle.pb_place_host.specs.declared.listing.Found.{Found}

-- each of these paths is strictly below the folder
abbrev pub AreBelow : List ℕ → List (List ℕ) → Type 0
AreBelow folder paths = All (λ path. is_below folder path ≡ true) paths

-- the path is at or below the folder that is left out, if there is such a folder
abbrev pub is_left_out : Option (List ℕ) → List ℕ → Bool
is_left_out None path = false
is_left_out (Some folder) path = is_at_or_below folder path

-- none of these paths is left out
abbrev pub AreOutside : Option (List ℕ) → List (List ℕ) → Type 0
AreOutside left_out paths = All (λ path. is_left_out left_out path ≡ false) paths

-- the paths are in byte order
abbrev pub AreOrdered : List (List ℕ) → Type 0
AreOrdered paths = IsSorted (slice_cmp nat_cmp) paths

-- the files found so far are strictly below the folder, and the folders still to be listed are at
-- or below this folder
pub record StaysBelow (folder : List ℕ) (found : Found) : Type 0 where
  pub files : AreBelow folder found.files.items
  pub waiting : All (λ waiting. is_at_or_below folder waiting.folder ≡ true) found.waiting.items

-- If the old state stays below a folder that is at or above `here`, the new state stays below this
-- folder, too.
abbrev pub KeepsBelow : List ℕ → Found → Found → Type 0
KeepsBelow here old new = (above : List ℕ) → is_at_or_below above here ≡ true → StaysBelow above old → StaysBelow above new

-- if all files found before are outside the folder that is left out, so are the files found
-- afterwards
abbrev pub KeepsOutside : Option (List ℕ) → Found → Found → Type 0
KeepsOutside left_out old new = AreOutside left_out old.files.items → AreOutside left_out new.files.items
