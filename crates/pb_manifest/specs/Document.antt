-- The manifest that bytes contain, or the fault for which they are refused.
use Rattle.std.specs.Prelude.{ℕ, List, Bool, false, ◌||◌, if◌then◌else◌, nat_lt, length, Option, Some, None, Ok, Err, codes}
use Rattle.std.specs.Str.{bytes_eq, is_utf8}
use Rattle.toml.specs.Data.{Data, Members, as_str}
use Rattle.toml.specs.Parse.{parse_document}
use Rattle.pb_data.specs.Limits.{max_manifest_bytes}
use Rattle.pb_data.specs.UnlessOom.{◌>>=◌, some_or}
use Rattle.pb_manifest.specs.Binaries.{binaries_at}
use Rattle.pb_manifest.specs.Dependencies.{dependencies_at}
use Rattle.pb_manifest.specs.Features.{features_at}
use Rattle.pb_manifest.specs.Library.{library_of}
use Rattle.pb_manifest.specs.Package.{package_of}
use Rattle.pb_manifest.specs.Profiles.{profiles_at}
use Rattle.pb_manifest_types.specs.Values.{Text, Read}
use Rattle.pb_manifest.specs.Values.{has, value_at, table_in, table_at, keys_at}
use Rattle.pb_manifest.specs.Workspace.{workspace_of}
use Rattle.pb_manifest_types.specs.declared.key.Key.{Key}
use Rattle.pb_manifest_types.specs.declared.key.Key.TheVariants as key
use Rattle.pb_manifest_types.specs.declared.fault.ManifestFault.TheVariants.{TooLarge, NotToml, UnsupportedTable, OldResolver, BadKind}
use Rattle.pb_manifest_types.specs.declared.manifest.Manifest.{Manifest}
use Rattle.pb_manifest_types.specs.declared.manifest.WorkspaceTable.{WorkspaceTable}
use Rattle.pb_manifest.specs.declared.document.Targets.{Targets}
use Rattle.pb_manifest.specs.declared.document.Tables.{Tables}
use Rattle.pb_manifest_types.specs.declared.package.Package.{Package}
use Rattle.pb_manifest_types.specs.declared.target.Library.{Library}

-- a document is refused if it has the table `patch`, `replace` or `target`
abbrev pub supported : Members → Read (Unit {0})
supported ms = if has key.Patch ms || has key.Replace ms || has key.Target ms then Err UnsupportedTable else Ok tt

abbrev pub text_in : Option Data → Option Text
text_in None = None
text_in (Some d) = as_str d

abbrev pub is_one : Option Text → Bool
is_one None = false
is_one (Some text) = bytes_eq text (codes "1")

abbrev pub says_one : Option Members → Bool
says_one None = false
says_one (Some ms) = is_one (text_in (value_at key.Resolver ms))

-- the table at a key requests resolver 1
abbrev pub asks_old_resolver : Key → Members → Bool
asks_old_resolver k ms = says_one (table_in (value_at k ms))

-- a document is refused if its `[package]` or its `[workspace]` requests resolver 1
abbrev pub not_old : Members → Read (Unit {0})
not_old ms = if asks_old_resolver key.Package ms || asks_old_resolver key.Workspace ms then Err OldResolver else Ok tt

-- the package of a manifest; only a manifest with `[workspace]` may lack `[package]`
abbrev pub package_in : Bool → Option Members → Read (Option Package)
package_in workspace None = if workspace then Ok None else Err (BadKind key.Package)
package_in workspace (Some ms) = package_of ms >>= (λ found. Ok (Some found))

abbrev pub package_at : Members → Read (Option Package)
package_at ms = table_at key.Package ms >>= package_in (has key.Workspace ms)

abbrev pub library_in : Option Members → Read (Option Library)
library_in None = Ok None
library_in (Some ms) = library_of ms >>= (λ library. Ok (Some library))

abbrev pub library_at : Members → Read (Option Library)
library_at ms = table_at key.Lib ms >>= library_in

abbrev pub workspace_in : Option Members → Read (Option WorkspaceTable)
workspace_in None = Ok None
workspace_in (Some ms) = workspace_of ms >>= (λ workspace. Ok (Some workspace))

abbrev pub workspace_at : Members → Read (Option WorkspaceTable)
workspace_at ms = table_at key.Workspace ms >>= workspace_in

-- the package, the library and the binaries of a document, read in this order
unfoldable pub targets_of : Members → Read Targets
targets_of ms =
    package_at ms >>= (λ found.
    library_at ms >>= (λ library.
    binaries_at ms >>= (λ binaries.
    Ok record { «package» = found; library = library; binaries = binaries })))

-- the tables that are read after the package and its targets
unfoldable pub tables_of : Members → Read Tables
tables_of ms =
    dependencies_at key.Dependencies ms >>= (λ dependencies.
    dependencies_at key.BuildDependencies ms >>= (λ build_dependencies.
    features_at ms >>= (λ features.
    profiles_at ms >>= (λ profiles.
    workspace_at ms >>= (λ workspace.
    Ok record {
      dependencies = dependencies;
      build_dependencies = build_dependencies;
      dev_dependencies = keys_at key.DevDependencies ms;
      features = features;
      profiles = profiles;
      workspace = workspace;
    })))))

-- the manifest of a document: unsupported tables and resolver 1 are refused first, and then the
-- tables are read in order
unfoldable pub document_of : Members → Read Manifest
document_of ms =
    supported ms >>= (λ none.
    not_old ms >>= (λ new.
    targets_of ms >>= (λ a.
    tables_of ms >>= (λ b.
    Ok record {
      «package» = a.package;
      library = a.library;
      binaries = a.binaries;
      dependencies = b.dependencies;
      build_dependencies = b.build_dependencies;
      dev_dependencies = b.dev_dependencies;
      features = b.features;
      profiles = b.profiles;
      workspace = b.workspace;
    }))))

-- the TOML document that bytes contain, if they are UTF-8 and `toml` reads them
unfoldable pub document_in : List ℕ → Read Members
document_in bytes = if is_utf8 bytes then some_or NotToml (parse_document bytes) else Err NotToml

-- the manifest that bytes contain, or the fault for which they are refused
abbrev pub manifest_of : List ℕ → Read Manifest
manifest_of bytes = if nat_lt max_manifest_bytes (length bytes) then Err TooLarge else (document_in bytes >>= document_of)
