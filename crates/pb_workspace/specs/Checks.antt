-- What is refused after all packages were read. The checks come in the order of `fault_of`. The
-- order is our own choice if The Cargo Book defines no order.
use Rattle.std.specs.Prelude.{ℕ, Bool, true, not, is_some, ◌&&◌, if◌then◌else◌, List, [], map, Option, Some, None}
use Rattle.std.specs.List.{filter_map, list_any}
use Rattle.std.specs.Str.{bytes_eq}
use Rattle.pb_manifest_types.specs.Versions.{matches}
use Rattle.pb_workspace_package.specs.declared.unresolved_package.UnresolvedPackage.{UnresolvedPackage}
use Rattle.pb_workspace_types.specs.declared.fault.LoadFault.{LoadFault}
use Rattle.pb_workspace_types.specs.declared.fault.LoadFault.TheVariants.{SameName, NameMismatch, VersionMismatch, LinksTwice, LinksWithoutScript, SameBinary}
use Rattle.pb_workspace_package.specs.declared.wanted.Wanted.{Wanted}
use Rattle.pb_workspace.specs.Indices.{draft_in}
use Rattle.pb_workspace_package.specs.Settling.{comes_again}

-- two packages have the same name
abbrev pub has_same_names : List UnresolvedPackage → Bool
has_same_names drafts = comes_again [] (map (λ (d : UnresolvedPackage). d.name) drafts)

-- an entry leads to a folder without a package, or the package there has another name than the
-- entry requests
abbrev pub has_other_name : Wanted → Option UnresolvedPackage → Bool
has_other_name w None = true
has_other_name w (Some d) = not (bytes_eq w.name d.name)

abbrev pub matches_if : Option (List ℕ) → List ℕ → Bool
matches_if None version = true
matches_if (Some requirement) version = matches requirement version

-- an entry leads to a folder without a package, or the entry does not accept the version of the
-- package there
abbrev pub has_other_version : Wanted → Option UnresolvedPackage → Bool
has_other_version w None = true
has_other_version w (Some d) = not (matches_if w.version d.version)

-- the test is true for some entry and for the package to which this entry leads
abbrev pub some_leads : (Wanted → Option UnresolvedPackage → Bool) → List UnresolvedPackage → Bool
some_leads test drafts = list_any (λ (d : UnresolvedPackage). list_any (λ (w : Wanted). test w (draft_in drafts w.folder)) d.wanted) drafts

-- two packages link the same native library
abbrev pub links_twice : List UnresolvedPackage → Bool
links_twice drafts = comes_again [] (filter_map (λ (d : UnresolvedPackage). d.links) drafts)

-- the package links a native library but has no build script
abbrev pub links_without_script : UnresolvedPackage → Bool
links_without_script d = is_some d.links && not (is_some d.script)

-- the fault of the first check that these packages do not pass
unfoldable pub fault_of : List UnresolvedPackage → Option LoadFault
fault_of drafts =
    if has_same_names drafts then Some SameName
    else (if some_leads has_other_name drafts then Some NameMismatch
    else (if some_leads has_other_version drafts then Some VersionMismatch
    else (if links_twice drafts then Some LinksTwice
    else (if list_any links_without_script drafts then Some LinksWithoutScript
    else (if list_any (λ (d : UnresolvedPackage). d.has_same_binaries) drafts then Some SameBinary else None)))))
