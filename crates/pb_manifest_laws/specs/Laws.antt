-- Laws: reading a table returns exactly what the table describes.
use Rattle.std.specs.Prelude.{◌≡◌, ◌↔◌, ◌≤◌, ℕ, Bool, true, List, length, Ok}
use Rattle.std.specs.Str.{is_utf8}
use Rattle.toml.specs.Data.{Members}
use Rattle.toml.specs.Text.{IsDocumentText}
use Rattle.pb_data.specs.Limits.{max_manifest_bytes}
use Rattle.pb_manifest_types.specs.Values.{Read}
use Rattle.pb_manifest.specs.Binaries.{binary_keys}
use Rattle.pb_manifest.specs.Dependencies.{dependency_of, shared_dependency_of}
use Rattle.pb_manifest.specs.Document.{document_of, manifest_of}
use Rattle.pb_manifest.specs.Features.{feature_of}
use Rattle.pb_manifest.specs.Library.{library_of}
use Rattle.pb_manifest.specs.Package.{package_of}
use Rattle.pb_manifest.specs.Profiles.{profile_keys, profile_of}
use Rattle.pb_manifest.specs.Workspace.{workspace_of}
use Rattle.pb_manifest_types.specs.declared.key.Key.{Key}
use Rattle.pb_manifest_types.specs.declared.manifest.Manifest.{Manifest}
use Rattle.pb_manifest_laws.specs.Dependencies.{IsDependencyEntry, IsSharedEntry}
use Rattle.pb_manifest_laws.specs.Documents.{IsDocument, AreManifest}
use Rattle.pb_manifest_laws.specs.Profiles.{AreSettings, IsProfileEntry}
use Rattle.pb_manifest_laws.specs.Values.{OfTable}
use Rattle.pb_manifest_laws.specs.Workspaces.{IsWorkspaceTable}
use Rattle.pb_manifest_laws.specs.Packages.{IsPackageTable, IsLibraryTable, IsBinaryTable, IsFeatureEntry}
use Rattle.pb_manifest_laws.specs.Written.{written}

-- reading returns a value if and only if the table describes this value
abbrev pub Reads : {M A : Type 0} → (M → Read A) → (M → A → Type 0) → Type 0
Reads {M} {A} read Says = (ms : M) (x : A) → (read ms ≡ Ok x) ↔ Says ms x

abbrev pub ReadsPackages : Type 0
ReadsPackages = Reads package_of IsPackageTable

abbrev pub ReadsLibraries : Type 0
ReadsLibraries = Reads library_of IsLibraryTable

abbrev pub ReadsBinaries : Type 0
ReadsBinaries = Reads binary_keys IsBinaryTable

abbrev pub ReadsFeatures : Type 0
ReadsFeatures = (name : List ℕ) → Reads (feature_of name) (IsFeatureEntry name)

-- reading an entry of either table of dependencies returns what the entry describes
abbrev pub ReadsDependencies : Type 0
ReadsDependencies = (k : Key) (name : List ℕ) → Reads (dependency_of k name) (OfTable (IsDependencyEntry name))

abbrev pub ReadsSettings : Type 0
ReadsSettings = Reads profile_keys AreSettings

abbrev pub ReadsProfiles : Type 0
ReadsProfiles = (name : List ℕ) → Reads (profile_of name) (OfTable (IsProfileEntry name))

abbrev pub ReadsSharedDependencies : Type 0
ReadsSharedDependencies = (name : List ℕ) → Reads (shared_dependency_of name) (IsSharedEntry name)

abbrev pub ReadsWorkspaces : Type 0
ReadsWorkspaces = Reads workspace_of IsWorkspaceTable

-- Reading a document returns what the document describes. `ReadsManifests` is this law for the
-- bytes of a manifest.
abbrev pub ReadsDocuments : Type 0
ReadsDocuments = Reads document_of IsDocument

abbrev pub ReadsManifests : Type 0
ReadsManifests = (bytes : List ℕ) (m : Manifest) → (manifest_of bytes ≡ Ok m) ↔ AreManifest bytes m

-- a document describes at most one manifest
abbrev pub DocumentsSayOne : Type 0
DocumentsSayOne = (ms : Members) (m n : Manifest) → IsDocument ms m → IsDocument ms n → m ≡ n

-- if a manifest was read from a document, the manifest's written form is read as the same manifest
abbrev pub ReadsWhatIsWritten : Type 0
ReadsWhatIsWritten = (ms : Members) (m : Manifest) → document_of ms ≡ Ok m → document_of (written m) ≡ Ok m

-- If the written form of a manifest is printed as `toml` prints it, the text is read as the same
-- manifest. The text must be UTF-8 and within the size limit.
abbrev pub ReadsWhatIsPrinted : Type 0
ReadsWhatIsPrinted = (bytes : List ℕ) (m : Manifest) → manifest_of bytes ≡ Ok m → (pretty : Bool) (text : List ℕ) → IsDocumentText pretty (written m) text → is_utf8 text ≡ true → length text ≤ max_manifest_bytes → manifest_of text ≡ Ok m
