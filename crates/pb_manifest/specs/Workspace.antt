-- How the table `[workspace]` is read (The Cargo Book, Workspaces).
use Rattle.std.specs.Prelude.{List, Option, Some, None, Ok}
use Rattle.toml.specs.Data.{Members}
use Rattle.pb_data.specs.UnlessOom.{◌>>=◌}
use Rattle.pb_manifest.specs.Dependencies.{shared_dependencies_at}
use Rattle.pb_manifest.specs.Package.{edition_at, readme_at, resolver_at}
use Rattle.pb_manifest_types.specs.Values.{Text, Read}
use Rattle.pb_manifest.specs.Values.{text_at, texts_at, paths_at, listed, table_at}
use Rattle.pb_manifest.specs.Versions.{version_at}
use Rattle.pb_manifest_types.specs.declared.key.Key.{Key}
use Rattle.pb_manifest_types.specs.declared.key.Key.TheVariants as key
use Rattle.pb_manifest_types.specs.declared.manifest.WorkspacePackage.{WorkspacePackage}
use Rattle.pb_manifest_types.specs.declared.manifest.WorkspaceTable.{WorkspaceTable}
use Rattle.pb_manifest.specs.declared.workspace.FirstKeys.{FirstKeys}
use Rattle.pb_manifest.specs.declared.workspace.LastKeys.{LastKeys}

-- the values of the keys of `[workspace.package]` from `authors` to `license`, in byte order
abbrev pub first_keys : Members → Read FirstKeys
first_keys ms =
    texts_at key.Authors ms >>= (λ authors.
    text_at key.Description ms >>= (λ description.
    edition_at ms >>= (λ edition.
    text_at key.Homepage ms >>= (λ homepage.
    text_at key.License ms >>= (λ license.
    Ok record { authors = authors; description = description; edition = edition; homepage = homepage; license = license })))))

-- the values of the keys of `[workspace.package]` from `license-file` to `version`, in byte order
abbrev pub last_keys : Members → Read LastKeys
last_keys ms =
    text_at key.LicenseFile ms >>= (λ license_file.
    readme_at ms >>= (λ readme.
    text_at key.Repository ms >>= (λ repository.
    text_at key.RustVersion ms >>= (λ rust_version.
    version_at ms >>= (λ version.
    Ok record { license_file = license_file; readme = readme; repository = repository; rust_version = rust_version; version = version })))))

-- the table `[workspace.package]`, whose keys are read in byte order
abbrev pub workspace_package_of : Members → Read WorkspacePackage
workspace_package_of ms =
    first_keys ms >>= (λ a.
    last_keys ms >>= (λ b.
    Ok record {
      authors = a.authors;
      description = a.description;
      edition = a.edition;
      homepage = a.homepage;
      license = a.license;
      license_file = b.license_file;
      readme = b.readme;
      repository = b.repository;
      rust_version = b.rust_version;
      version = b.version;
    }))

abbrev pub workspace_package_in : Option Members → Read (Option WorkspacePackage)
workspace_package_in None = Ok None
workspace_package_in (Some ms) = workspace_package_of ms >>= (λ found. Ok (Some found))

abbrev pub workspace_package_at : Members → Read (Option WorkspacePackage)
workspace_package_at ms = table_at key.Package ms >>= workspace_package_in

-- the list of paths at a key, or the empty list if the key is missing
abbrev pub listed_paths_at : Key → Members → Read (List Text)
listed_paths_at k ms = paths_at k ms >>= (λ found. Ok (listed found))

-- the table `[workspace]`, whose keys are read in byte order
abbrev pub workspace_of : Members → Read WorkspaceTable
workspace_of ms =
    paths_at key.DefaultMembers ms >>= (λ default_members.
    shared_dependencies_at ms >>= (λ dependencies.
    listed_paths_at key.Exclude ms >>= (λ exclude.
    listed_paths_at key.Members ms >>= (λ members.
    workspace_package_at ms >>= (λ inherited.
    resolver_at ms >>= (λ resolver.
    Ok record { members = members; default_members = default_members; exclude = exclude; «package» = inherited; dependencies = dependencies }))))))
