-- `[workspace]` and `[workspace.package]` are read as what they say.
use Rattle.std.proofs.Common.{◌≡◌, ◌↔◌, ◌∙◌, ℕ, List, Option, Some, None, Ok, IfSome, true, refl, subst}
use Rattle.std.specs.List.{AllByRecursion}
use Rattle.toml.specs.Data.{string, Members}
use Rattle.pb_data.specs.UnlessOom.{◌>>=◌}
use Rattle.pb_manifest.specs.Dependencies.{shared_dependency_of, shared_dependencies_at}
use Rattle.pb_manifest_types.specs.Keys.{spelled}
use Rattle.pb_manifest.specs.Package.{edition_of, edition_at, readme_of, readme_at, resolver_at}
use Rattle.pb_manifest.specs.Values.{value_at, text_of, text_at, texts_of, texts_at, path_of, paths_of, paths_at}
use Rattle.pb_manifest_types.specs.Versions.{is_version}
use Rattle.pb_manifest.specs.Versions.{version_of, version_at}
use Rattle.pb_manifest.specs.Workspace.{first_keys, last_keys, workspace_package_of, workspace_package_in, workspace_package_at, listed_paths_at, workspace_of}
use Rattle.pb_manifest_types.specs.declared.fault.ManifestFault.TheVariants.{BadKind}
use Rattle.pb_manifest_types.specs.declared.key.Key.{Key}
use Rattle.pb_manifest_types.specs.declared.key.Key.TheVariants as key
use Rattle.pb_manifest_types.specs.declared.manifest.WorkspacePackage.{WorkspacePackage}
use Rattle.pb_manifest_types.specs.declared.manifest.WorkspaceTable.{WorkspaceTable}
use Rattle.pb_manifest.proofs.Came.{came}
use Rattle.pb_manifest_laws.specs.Dependencies.{IsSharedEntry}
use Rattle.pb_manifest_laws.specs.Laws.{ReadsWorkspaces}
use Rattle.pb_manifest_laws.specs.Packages.{edition, readme_value}
use Rattle.pb_manifest_laws.specs.Values.{texts, IsPath, OptionalMeans}
use Rattle.pb_manifest_laws.specs.Workspaces.{IsInheritedTable, IsWorkspaceTable}
use Rattle.pb_manifest_laws.proofs.Chains.{four_on, five, then_back}
use Rattle.pb_manifest_laws.proofs.Packages.{edition_written, version_written, readme_written, resolver_only, resolver_back, all_any, some_any}
use Rattle.pb_manifest_laws.proofs.Reading.{IsWrittenAs, Any, text_written, path_written, list_written, optional_only, optional_back, lists_only, lists_back}
use Rattle.pb_manifest_laws.proofs.Shared.{shared_read}
use Rattle.pb_manifest_laws.proofs.Tables.{entries_at_only, entries_at_back, table_at_only, table_at_back}

-- texts, and lists of texts and of paths
text_only : (k : Key) (ms : Members) (o : Option (List ℕ)) → text_at k ms ≡ Ok o → OptionalMeans (λ t. string t) (value_at k ms) o
text_only k ms o h = (optional_only (text_of k) (λ t. string t) Any (text_written k) (value_at k ms) o h).0

text_back : (k : Key) (ms : Members) (o : Option (List ℕ)) → OptionalMeans (λ t. string t) (value_at k ms) o → text_at k ms ≡ Ok o
text_back k ms o is = optional_back (text_of k) (λ t. string t) Any (text_written k) (value_at k ms) o is (some_any o)

texts_written : (k : Key) → IsWrittenAs (texts_of k) texts (AllByRecursion Any)
texts_written k = list_written (text_of k) (λ t. string t) Any (text_written k) k

paths_written : (k : Key) → IsWrittenAs (paths_of k) texts (AllByRecursion IsPath)
paths_written k = list_written (path_of k) (λ t. string t) IsPath (path_written k) k

some_all : (o : Option (List (List ℕ))) → IfSome o (AllByRecursion Any)
some_all None = tt
some_all (Some xs) = all_any xs

inherited_only : (ms : Members) (w : WorkspacePackage) → workspace_package_of ms ≡ Ok w → IsInheritedTable ms w
unfolding spelled
inherited_only ms w h =
    let a = came (first_keys ms) (λ a. last_keys ms >>= (λ b. Ok record {
      authors = a.authors;
      description = a.description;
      edition = a.edition;
      homepage = a.homepage;
      license = a.license;
      license_file = b.license_file;
      readme = b.readme;
      repository = b.repository;
      rust_version = b.rust_version;
      version = b.version;
    })) w h in
    let b = came (last_keys ms) (λ b. Ok record {
      authors = a.value.authors;
      description = a.value.description;
      edition = a.value.edition;
      homepage = a.value.homepage;
      license = a.value.license;
      license_file = b.license_file;
      readme = b.readme;
      repository = b.repository;
      rust_version = b.rust_version;
      version = b.version;
    }) w a.more in
    let t = five a.value (texts_at key.Authors ms) (text_at key.Description ms) (edition_at ms) (text_at key.Homepage ms) (text_at key.License ms)
    (λ authors description edition homepage license. record { authors = authors; description = description; edition = edition; homepage = homepage; license = license }) a.was in
    let u = five b.value (text_at key.LicenseFile ms) (readme_at ms) (text_at key.Repository ms) (text_at key.RustVersion ms) (version_at ms)
    (λ license_file readme repository rust_version version. record { license_file = license_file; readme = readme; repository = repository; rust_version = rust_version; version = version }) b.was in
    let version = optional_only version_of (λ t. string t) (λ t. is_version t ≡ true) version_written (value_at key.Version ms) u.4 u.9 in
    let made : WorkspacePackage = record {
      authors = t.0;
      description = t.1;
      edition = t.2;
      homepage = t.3;
      license = t.4;
      license_file = u.0;
      readme = u.1;
      repository = u.2;
      rust_version = u.3;
      version = u.4;
    } in
    let whole : made ≡ w = (λ i. record {
      authors = (t.10 i).authors;
      description = (t.10 i).description;
      edition = (t.10 i).edition;
      homepage = (t.10 i).homepage;
      license = (t.10 i).license;
      license_file = (u.10 i).license_file;
      readme = (u.10 i).readme;
      repository = (u.10 i).repository;
      rust_version = (u.10 i).rust_version;
      version = (u.10 i).version;
    }) ∙ cc (b.more) in
    subst (IsInheritedTable ms) whole (record {
      authors = (optional_only (texts_of key.Authors) texts (AllByRecursion Any) (texts_written key.Authors) (value_at key.Authors ms) t.0 t.5).0;
      edition_is = (optional_only edition_of edition Any edition_written (value_at key.Edition ms) t.2 t.7).0;
      readme_is = (optional_only readme_of readme_value Any readme_written (value_at key.Readme ms) u.1 u.6).0;
      texts_are = (text_only key.Description ms t.1 t.6, (text_only key.Homepage ms t.3 t.8, (text_only key.License ms t.4 t.9, (text_only key.LicenseFile ms u.0 u.5, (text_only key.Repository ms u.2 u.7, (text_only key.RustVersion ms u.3 u.8, tt))))));
      version = version;
    })

inherited_back : (ms : Members) (w : WorkspacePackage) → IsInheritedTable ms w → workspace_package_of ms ≡ Ok w
unfolding spelled
inherited_back ms w says =
    let a : texts_at key.Authors ms ≡ Ok w.authors = optional_back (texts_of key.Authors) texts (AllByRecursion Any) (texts_written key.Authors) (value_at key.Authors ms) w.authors says.authors (some_all w.authors) in
    let b : text_at key.Description ms ≡ Ok w.description = text_back key.Description ms w.description says.texts_are.0 in
    let c : edition_at ms ≡ Ok w.edition = optional_back edition_of edition Any edition_written (value_at key.Edition ms) w.edition says.edition_is (some_any w.edition) in
    let d : text_at key.Homepage ms ≡ Ok w.homepage = text_back key.Homepage ms w.homepage says.texts_are.1.0 in
    let e : text_at key.License ms ≡ Ok w.license = text_back key.License ms w.license says.texts_are.1.1.0 in
    let f : text_at key.LicenseFile ms ≡ Ok w.license_file = text_back key.LicenseFile ms w.license_file says.texts_are.1.1.1.0 in
    let g : readme_at ms ≡ Ok w.readme = optional_back readme_of readme_value Any readme_written (value_at key.Readme ms) w.readme says.readme_is (some_any w.readme) in
    let h : text_at key.Repository ms ≡ Ok w.repository = text_back key.Repository ms w.repository says.texts_are.1.1.1.1.0 in
    let j : text_at key.RustVersion ms ≡ Ok w.rust_version = text_back key.RustVersion ms w.rust_version says.texts_are.1.1.1.1.1.0 in
    let k : version_at ms ≡ Ok w.version = optional_back version_of (λ t. string t) (λ t. is_version t ≡ true) version_written (value_at key.Version ms) w.version says.version.0 says.version.1 in
    then_back (first_keys ms) (λ a. last_keys ms >>= (λ b. Ok record {
      authors = a.authors;
      description = a.description;
      edition = a.edition;
      homepage = a.homepage;
      license = a.license;
      license_file = b.license_file;
      readme = b.readme;
      repository = b.repository;
      rust_version = b.rust_version;
      version = b.version;
    })) (record { authors = w.authors; description = w.description; edition = w.edition; homepage = w.homepage; license = w.license }) w
    (λ i. a i >>= (λ a. b i >>= (λ b. c i >>= (λ c. d i >>= (λ d. e i >>= (λ e. Ok record { authors = a; description = b; edition = c; homepage = d; license = e }))))))
    (then_back (last_keys ms) (λ b. Ok record {
      authors = w.authors;
      description = w.description;
      edition = w.edition;
      homepage = w.homepage;
      license = w.license;
      license_file = b.license_file;
      readme = b.readme;
      repository = b.repository;
      rust_version = b.rust_version;
      version = b.version;
    }) (record { license_file = w.license_file; readme = w.readme; repository = w.repository; rust_version = w.rust_version; version = w.version }) w
    (λ i. f i >>= (λ a. g i >>= (λ b. h i >>= (λ c. j i >>= (λ d. k i >>= (λ e. Ok record { license_file = a; readme = b; repository = c; rust_version = d; version = e })))))) refl)

inherited_reads : (ms : Members) (w : WorkspacePackage) → (workspace_package_of ms ≡ Ok w) ↔ IsInheritedTable ms w
inherited_reads ms w = (inherited_only ms w, inherited_back ms w)

package_none : workspace_package_in None ≡ Ok None
package_none = refl

package_some : (ms : Members) → workspace_package_in (Some ms) ≡ (workspace_package_of ms >>= (λ found. Ok (Some found)))
package_some ms = refl

workspace_only : (ms : Members) (w : WorkspaceTable) → workspace_of ms ≡ Ok w → IsWorkspaceTable ms w
unfolding spelled
workspace_only ms w h =
    let t = four_on w (paths_at key.DefaultMembers ms) (shared_dependencies_at ms) (listed_paths_at key.Exclude ms) (listed_paths_at key.Members ms)
    (λ default_members dependencies exclude members. workspace_package_at ms >>= (λ inherited. resolver_at ms >>= (λ resolver. Ok record { members = members; default_members = default_members; exclude = exclude; «package» = inherited; dependencies = dependencies }))) h in
    let u = came (workspace_package_at ms) (λ inherited. resolver_at ms >>= (λ resolver. Ok record { members = t.3; default_members = t.0; exclude = t.2; «package» = inherited; dependencies = t.1 })) w t.8 in
    let v = came (resolver_at ms) (λ resolver. Ok record { members = t.3; default_members = t.0; exclude = t.2; «package» = u.value; dependencies = t.1 }) w u.more in
    let made : WorkspaceTable = record { members = t.3; default_members = t.0; exclude = t.2; «package» = u.value; dependencies = t.1 } in
    let same : made ≡ w = cc (v.more) in
    let defaults = optional_only (paths_of key.DefaultMembers) texts (AllByRecursion IsPath) (paths_written key.DefaultMembers) (value_at key.DefaultMembers ms) t.0 t.4 in
    let exclude = lists_only (path_of key.Exclude) (λ t. string t) IsPath (path_written key.Exclude) key.Exclude (value_at key.Exclude ms) t.2 t.6 in
    let members = lists_only (path_of key.Members) (λ t. string t) IsPath (path_written key.Members) key.Members (value_at key.Members ms) t.3 t.7 in
    subst (IsWorkspaceTable ms) same (record {
      members = members.0;
      members_are = members.1;
      default_members = defaults;
      exclude = exclude.0;
      exclude_are = exclude.1;
      inherited = table_at_only workspace_package_of IsInheritedTable inherited_reads workspace_package_in package_none package_some (BadKind key.Package) (value_at key.Package ms) u.value u.was;
      dependencies = entries_at_only shared_dependency_of IsSharedEntry shared_read (BadKind key.Dependencies) (value_at key.Dependencies ms) t.1 t.5;
      resolver = resolver_only (value_at key.Resolver ms) v.value v.was;
    })

workspace_back : (ms : Members) (w : WorkspaceTable) → IsWorkspaceTable ms w → workspace_of ms ≡ Ok w
unfolding spelled
workspace_back ms w says =
    let a : paths_at key.DefaultMembers ms ≡ Ok w.default_members = optional_back (paths_of key.DefaultMembers) texts (AllByRecursion IsPath) (paths_written key.DefaultMembers) (value_at key.DefaultMembers ms) w.default_members says.default_members.0 says.default_members.1 in
    let b : shared_dependencies_at ms ≡ Ok w.dependencies = entries_at_back shared_dependency_of IsSharedEntry shared_read (BadKind key.Dependencies) (value_at key.Dependencies ms) w.dependencies says.dependencies in
    let c : listed_paths_at key.Exclude ms ≡ Ok w.exclude = lists_back (path_of key.Exclude) (λ t. string t) IsPath (path_written key.Exclude) key.Exclude (value_at key.Exclude ms) w.exclude says.exclude says.exclude_are in
    let d : listed_paths_at key.Members ms ≡ Ok w.members = lists_back (path_of key.Members) (λ t. string t) IsPath (path_written key.Members) key.Members (value_at key.Members ms) w.members says.members says.members_are in
    let e : workspace_package_at ms ≡ Ok w.package = table_at_back workspace_package_of IsInheritedTable inherited_reads workspace_package_in package_none package_some (BadKind key.Package) (value_at key.Package ms) w.package says.inherited in
    let f : resolver_at ms ≡ Ok tt = resolver_back (value_at key.Resolver ms) says.resolver in
    λ i. a i >>= (λ a. b i >>= (λ b. c i >>= (λ c. d i >>= (λ d. e i >>= (λ e. f i >>= (λ f. Ok record { members = d; default_members = a; exclude = c; «package» = e; dependencies = b }))))))

pub workspaces_read : ReadsWorkspaces
workspaces_read ms w = (workspace_only ms w, workspace_back ms w)
