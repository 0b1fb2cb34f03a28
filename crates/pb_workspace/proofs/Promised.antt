-- What a manifest that was read promises.
use Rattle.std.proofs.Common.{◌≡◌, List, [], ◌∷◌, ℕ, Ok, true, All, Option, Some, None, IfSome, map}
use Rattle.std.specs.List.{AllByRecursion}
use Rattle.std.proofs.lemmas.List.Elements.{All-from_recursion}
use Rattle.pb_manifest.specs.Document.{manifest_of}
use Rattle.pb_manifest_types.specs.Letters.{is_name}
use Rattle.pb_manifest.specs.Promises.{IsManifest, IsBinary, IsDependency, IsFeature, IsLibrary, IsPackage, IsWorkspaceTable}
use Rattle.pb_manifest_types.specs.declared.manifest.Manifest.{Manifest}
use Rattle.pb_manifest_types.specs.declared.manifest.WorkspaceTable.{WorkspaceTable}
use Rattle.pb_manifest_types.specs.declared.dependency.Dependency.{Dependency}
use Rattle.pb_manifest_types.specs.declared.feature.Feature.{Feature}
use Rattle.pb_manifest_types.specs.declared.package.Package.{Package}
use Rattle.pb_manifest_types.specs.declared.target.Binary.{Binary}
use Rattle.pb_manifest_types.specs.declared.target.Library.{Library}
use Rattle.pb_workspace.specs.Readings.{HasSharedInOrder}
use Rattle.pb_workspace_package.specs.Drafted.{IsKeyed, IsWrittenFeature, IsWrittenLibrary}
use Rattle.pb_workspace_types.specs.Settled.{IsAscending}
use Rattle.pb_manifest.proofs.Manifests.{manifest_is}

pub is_promised : (bytes : List ℕ) (m : Manifest) → manifest_of bytes ≡ Ok m → IsManifest m
is_promised bytes m read = manifest_is bytes m read

named : (bs : List Binary) → AllByRecursion IsBinary bs → AllByRecursion (λ (b : Binary). is_name b.name ≡ true) bs
named [] all = tt
named (b ∷ bs) all = (all.0.name, named bs all.1)

pub binaries_named : (m : Manifest) → IsManifest m → All (λ (b : Binary). is_name b.name ≡ true) m.binaries
binaries_named m is = All-from_recursion _ m.binaries (named m.binaries is.binaries)

keyed : (ds : List Dependency) → AllByRecursion IsDependency ds → AllByRecursion IsKeyed ds
keyed [] all = tt
keyed (d ∷ ds) all = (all.0.key, keyed ds all.1)

features_written : (fs : List Feature) → AllByRecursion IsFeature fs → AllByRecursion IsWrittenFeature fs
features_written [] all = tt
features_written (f ∷ fs) all = (all.0.name, features_written fs all.1)

library_if : (l : Option Library) → IfSome l IsLibrary → IfSome l IsWrittenLibrary
library_if None is = tt
library_if (Some l) is = is.name

found_if : (p : Option Package) → IfSome p IsPackage → IfSome p (λ p. is_name p.name ≡ true)
found_if None is = tt
found_if (Some p) is = is.name

pub library_promised : (m : Manifest) → IsManifest m → IfSome m.library IsWrittenLibrary
library_promised m is = library_if m.library is.library

pub dependencies_promised : (m : Manifest) → IsManifest m → AllByRecursion IsKeyed m.dependencies
dependencies_promised m is = keyed m.dependencies is.dependencies.each

pub build_dependencies_promised : (m : Manifest) → IsManifest m → AllByRecursion IsKeyed m.build_dependencies
build_dependencies_promised m is = keyed m.build_dependencies is.build_dependencies.each

pub features_promised : (m : Manifest) → IsManifest m → AllByRecursion IsWrittenFeature m.features
features_promised m is = features_written m.features is.features.each

pub name_promised : (m : Manifest) → IsManifest m → IfSome m.package (λ p. is_name p.name ≡ true)
name_promised m is = found_if m.package is.found

pub dependencies_ascend : (m : Manifest) → IsManifest m → IsAscending (map (λ (d : Dependency). d.key) m.dependencies)
dependencies_ascend m is = is.dependencies.order

pub build_dependencies_ascend : (m : Manifest) → IsManifest m → IsAscending (map (λ (d : Dependency). d.key) m.build_dependencies)
build_dependencies_ascend m is = is.build_dependencies.order

shared_if : (w : Option WorkspaceTable) → IfSome w IsWorkspaceTable → IfSome w HasSharedInOrder
shared_if None is = tt
shared_if (Some w) is = is.dependencies.order

pub shared_promised : (m : Manifest) → IsManifest m → IfSome m.workspace HasSharedInOrder
shared_promised m is = shared_if m.workspace is.workspace

pub ruleset binary_laws = (binaries_named, library_promised, dependencies_promised, build_dependencies_promised, features_promised, name_promised, dependencies_ascend, build_dependencies_ascend, shared_promised)
