-- How the index of a package is found by its folder.
use Rattle.std.specs.Prelude.{ℕ, ◌+◌, List, [], ◌∷◌, slice_get, Option, Some, None}
use Rattle.pb_workspace_package.specs.declared.unresolved_package.UnresolvedPackage.{UnresolvedPackage}
use Rattle.pb_workspace.specs.ByFolder.{value_of}
use Rattle.pb_workspace_package.specs.Sorted.{with_entry}

-- the folders of packages, each with the package's index; the first package has the given index
abbrev pub numbered : List (List ℕ × ℕ) → ℕ → List UnresolvedPackage → List (List ℕ × ℕ)
numbered indices n [] = indices
numbered indices n (d ∷ ds) = numbered (with_entry indices d.folder n) (n + 1) ds

abbrev pub indices_of : List UnresolvedPackage → List (List ℕ × ℕ)
indices_of drafts = numbered [] 0 drafts

-- the index of the package in a folder, if a package is there
abbrev pub index_of : List UnresolvedPackage → List ℕ → Option ℕ
index_of drafts folder = value_of folder (indices_of drafts)

abbrev pub at_index : List UnresolvedPackage → Option ℕ → Option UnresolvedPackage
at_index drafts None = None
at_index drafts (Some n) = slice_get drafts n

-- the package in a folder, if a package is there
abbrev pub draft_in : List UnresolvedPackage → List ℕ → Option UnresolvedPackage
draft_in drafts folder = at_index drafts (index_of drafts folder)
