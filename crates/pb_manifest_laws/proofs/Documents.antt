-- A document is read as the manifest that it says, and so are bytes.
use Rattle.std.proofs.Common.{◌≡◌, ◌↔◌, ◌∙◌, ◌≤◌, ◌||◌, ℕ, Bool, true, false, if◌then◌else◌, nat_lt, List, [], codes, length, Option, Some, None, Ok, Err, is_some, refl, sym, ap, subst, arith}
use Rattle.std.proofs.lemmas.Bool.Decides.{nat_tests}
use Rattle.std.specs.List.{AllZip}
use Rattle.std.specs.Option.{option_and_then, option_map_or}
use Rattle.std.specs.Str.{is_utf8}
use Rattle.toml.specs.Data.{Data, string, integer, float, boolean, datetime, array, table, Members, get_member, as_table}
use Rattle.toml.specs.Parse.{parse_document}
use Rattle.pb_data.specs.Limits.{max_manifest_bytes}
use Rattle.pb_data.specs.UnlessOom.{◌>>=◌, some_or}
use Rattle.pb_manifest.specs.Binaries.{binary_keys, binary_of, binaries_in, binaries_at}
use Rattle.pb_manifest.specs.Dependencies.{dependency_of, dependencies_at}
use Rattle.pb_manifest.specs.Document.{supported, text_in, is_one, says_one, asks_old_resolver, not_old, package_in, package_at, library_in, library_at, workspace_in, workspace_at, targets_of, tables_of, document_of, document_in, manifest_of}
use Rattle.pb_manifest.specs.Features.{feature_of, features_at}
use Rattle.pb_manifest_types.specs.Keys.{spelled}
use Rattle.pb_manifest.specs.Library.{library_of}
use Rattle.pb_manifest.specs.Package.{package_of}
use Rattle.pb_manifest.specs.Profiles.{profile_of, profiles_at}
use Rattle.pb_manifest.specs.Values.{optional, value_at, has, table_of, table_in, keys_in, keys_at, keys_of}
use Rattle.pb_manifest.specs.Workspace.{workspace_of}
use Rattle.pb_manifest_types.specs.declared.fault.ManifestFault.TheVariants.{TooLarge, NotToml, UnsupportedTable, OldResolver, BadKind, BadProfile}
use Rattle.pb_manifest_types.specs.declared.key.Key.TheVariants as key
use Rattle.pb_manifest_types.specs.declared.manifest.Manifest.{Manifest}
use Rattle.pb_manifest_types.specs.declared.package.Package.{Package}
use Rattle.pb_manifest_types.specs.declared.target.Binary.{Binary}
use Rattle.pb_manifest.proofs.Came.{came}
use Rattle.pb_manifest_laws.specs.Dependencies.{IsDependencyEntry}
use Rattle.pb_manifest_laws.specs.Documents.{IsDocument, AreManifest}
use Rattle.pb_manifest_laws.specs.Laws.{ReadsDocuments, ReadsManifests, DocumentsSayOne}
use Rattle.pb_manifest_laws.specs.Packages.{IsResolver, IsPackageTable, IsLibraryTable, IsBinaryTable, IsFeatureEntry}
use Rattle.pb_manifest_laws.specs.Profiles.{IsProfileEntry}
use Rattle.pb_manifest_laws.specs.Values.{OfTable, IsTableAt, AreTablesAt}
use Rattle.pb_manifest_laws.specs.Workspaces.{IsWorkspaceTable}
use Rattle.pb_manifest_laws.proofs.Chains.{three, four_on, five, then_back}
use Rattle.pb_manifest_laws.proofs.Dependencies.{dependencies_read}
use Rattle.pb_manifest_laws.proofs.Packages.{each_resolver, packages_read}
use Rattle.pb_manifest_laws.proofs.Profiles.{profiles_read}
use Rattle.pb_manifest_laws.proofs.Reading.{table_is}
use Rattle.pb_manifest_laws.proofs.Tables.{entries_at_only, entries_at_back, items_only, items_back, table_at_only, table_at_back}
use Rattle.pb_manifest_laws.proofs.Targets.{libraries_read, binaries_read, features_read}
use Rattle.pb_manifest_laws.proofs.Workspaces.{workspaces_read}

-- tables that are not supported
record NoneThere (a b c : Option Data) : Type 0 where
  first : a ≡ None
  next : b ≡ None
  last : c ≡ None

none_there : (a b c : Option Data) (u : Unit {0}) → (if is_some a || is_some b || is_some c then Err UnsupportedTable else Ok tt) ≡ Ok u → NoneThere a b c
none_there None None None u h = record { first = refl; next = refl; last = refl }
none_there None None (Some z) u h = cc
none_there None (Some y) c u h = cc
none_there (Some x) b c u h = cc

-- `[package]`, which may be missing beside `[workspace]`
package_only : (b : Bool) (found : Option Data) (o : Option Package) → (optional (table_of key.Package) found >>= package_in b) ≡ Ok o → IsTableAt IsPackageTable found o × (found ≡ None → b ≡ true)
package_only true found o h = (table_at_only package_of IsPackageTable packages_read (package_in true) refl (λ ms. refl) (BadKind key.Package) found o h, λ none. refl)
package_only false None o h = cc
package_only false (Some (table ms)) o h =
    let c = came (package_of ms) (λ found. Ok (Some found)) o h in
    let same : Some c.value ≡ o = cc (c.more) in
    (subst (IsTableAt IsPackageTable (Some (table ms))) same ((ms, refl, (packages_read ms c.value).0 c.was), tt), λ none. absurd (let clash : Some (table ms) ≡ None = none in cc))
package_only false (Some _) o h = cc

package_back : (b : Bool) (found : Option Data) (o : Option Package) → IsTableAt IsPackageTable found o → (found ≡ None → b ≡ true) → (optional (table_of key.Package) found >>= package_in b) ≡ Ok o
package_back true found o is one = table_at_back package_of IsPackageTable packages_read (package_in true) refl (λ ms. refl) (BadKind key.Package) found o is
package_back false None o is one = absurd (let clash : false ≡ true = one refl in cc)
package_back false (Some d) None is one = absurd is
package_back false (Some d) (Some x) is one = ap (λ e. optional (table_of key.Package) (Some e) >>= package_in false) is.0.1 ∙ ap (λ r. r >>= (λ y. Ok (Some y))) ((packages_read is.0.0 x).1 is.0.2)

-- `[[bin]]`
binary_only : (d : Data) (b : Binary) → binary_of d ≡ Ok b → OfTable IsBinaryTable d b
binary_only d b h =
    let c = came (table_of key.Bin d) binary_keys b h in
    (c.value, table_is d c.value (table_found d c.value c.was), (binaries_read c.value b).0 c.more)
  where
    some_found : (found : Option Members) (ms : Members) → some_or (BadKind key.Bin) found ≡ Ok ms → found ≡ Some ms
    some_found None ms h = cc
    some_found (Some ns) ms h = let same : ns ≡ ms = cc in ap (λ z. Some z) same

    table_found : (d : Data) (ms : Members) → table_of key.Bin d ≡ Ok ms → as_table d ≡ Some ms
    table_found d ms h = some_found (as_table d) ms h

binary_back : (d : Data) (b : Binary) → OfTable IsBinaryTable d b → binary_of d ≡ Ok b
binary_back d b says = ap binary_of says.1 ∙ (binaries_read says.0 b).1 says.2

binary_reads : (d : Data) (b : Binary) → (binary_of d ≡ Ok b) ↔ OfTable IsBinaryTable d b
binary_reads d b = (binary_only d b, binary_back d b)

binaries_only : (found : Option Data) (bs : List Binary) → binaries_in found ≡ Ok bs → AreTablesAt IsBinaryTable found bs
binaries_only None bs h = let same : [] ≡ bs = cc in ([], refl, subst (AllZip (OfTable IsBinaryTable) []) same tt)
binaries_only (Some (array ds)) bs h = let r = items_only binary_of (OfTable IsBinaryTable) binary_reads ds bs h in (r.0, ap (λ ds. array ds) r.1, r.2)
binaries_only (Some _) bs h = cc

binaries_back : (found : Option Data) (bs : List Binary) → AreTablesAt IsBinaryTable found bs → binaries_in found ≡ Ok bs
binaries_back None bs is = items_back binary_of (OfTable IsBinaryTable) binary_reads [] bs (subst (λ ds. AllZip (OfTable IsBinaryTable) ds bs) is.1 is.2)
binaries_back (Some d) bs is = ap (λ e. binaries_in (Some e)) is.1 ∙ items_back binary_of (OfTable IsBinaryTable) binary_reads is.0 bs is.2

-- the keys of `[dev-dependencies]`
keys_are : (found : Option Data) → keys_in (table_in found) ≡ option_map_or keys_of (option_and_then as_table found) []
keys_are None = refl
keys_are (Some (string s)) = refl
keys_are (Some (integer z)) = refl
keys_are (Some (float x)) = refl
keys_are (Some (boolean b)) = refl
keys_are (Some (datetime t)) = refl
keys_are (Some (array ds)) = refl
keys_are (Some (table ms)) = refl

-- a table with a resolver that is served does not ask for resolver 1
not_one : (found : Option Data) → IsResolver found → is_one (text_in found) ≡ false
not_one found is = each_resolver (λ f. is_one (text_in f) ≡ false) found is refl refl refl

new_table : {A : Type 0} (Is : Members → A → Type 0) → ((ms : Members) (x : A) → Is ms x → IsResolver (get_member (codes "resolver") ms)) → (found : Option Data) (o : Option A) → IsTableAt Is found o → says_one (table_in found) ≡ false
unfolding spelled
new_table Is resolver None o is = refl
new_table Is resolver (Some d) None is = absurd is
new_table Is resolver (Some d) (Some x) is = ap (λ e. says_one (table_in (Some e))) is.0.1 ∙ not_one (value_at key.Resolver is.0.0) (resolver is.0.0 x is.0.2)

document_only : (ms : Members) (m : Manifest) → document_of ms ≡ Ok m → IsDocument ms m
unfolding document_of targets_of tables_of spelled
document_only ms m h =
    let t = four_on m (supported ms) (not_old ms) (targets_of ms) (tables_of ms) (λ none new a b. Ok record {
      «package» = a.package;
      library = a.library;
      binaries = a.binaries;
      dependencies = b.dependencies;
      build_dependencies = b.build_dependencies;
      dev_dependencies = b.dev_dependencies;
      features = b.features;
      profiles = b.profiles;
      workspace = b.workspace;
    }) h in
    let n = none_there (value_at key.Patch ms) (value_at key.Replace ms) (value_at key.Target ms) t.0 t.4 in
    let a = three t.2 (package_at ms) (library_at ms) (binaries_at ms) (λ found library binaries. record { «package» = found; library = library; binaries = binaries }) t.6 in
    let b = five t.3 (dependencies_at key.Dependencies ms) (dependencies_at key.BuildDependencies ms) (features_at ms) (profiles_at ms) (workspace_at ms) (λ dependencies build_dependencies features profiles workspace. record {
      dependencies = dependencies;
      build_dependencies = build_dependencies;
      dev_dependencies = keys_at key.DevDependencies ms;
      features = features;
      profiles = profiles;
      workspace = workspace;
    }) t.7 in
    let own = package_only (has key.Workspace ms) (value_at key.Package ms) a.0 a.3 in
    let made : Manifest = record {
      «package» = a.0;
      library = a.1;
      binaries = a.2;
      dependencies = b.0;
      build_dependencies = b.1;
      dev_dependencies = keys_at key.DevDependencies ms;
      features = b.2;
      profiles = b.3;
      workspace = b.4;
    } in
    let whole : made ≡ m = (λ i. record {
      «package» = (a.6 i).package;
      library = (a.6 i).library;
      binaries = (a.6 i).binaries;
      dependencies = (b.10 i).dependencies;
      build_dependencies = (b.10 i).build_dependencies;
      dev_dependencies = (b.10 i).dev_dependencies;
      features = (b.10 i).features;
      profiles = (b.10 i).profiles;
      workspace = (b.10 i).workspace;
    }) ∙ cc (t.8) in
    subst (IsDocument ms) whole (record {
      unsupported = (n.first, (n.next, (n.last, tt)));
      own = own.0;
      one = own.1;
      library = table_at_only library_of IsLibraryTable libraries_read library_in refl (λ ns. refl) (BadKind key.Lib) (value_at key.Lib ms) a.1 a.4;
      binaries = binaries_only (value_at key.Bin ms) a.2 a.5;
      dependencies = entries_at_only (dependency_of key.Dependencies) (λ name. OfTable (IsDependencyEntry name)) (dependencies_read key.Dependencies) (BadKind key.Dependencies) (value_at key.Dependencies ms) b.0 b.5;
      build_dependencies = entries_at_only (dependency_of key.BuildDependencies) (λ name. OfTable (IsDependencyEntry name)) (dependencies_read key.BuildDependencies) (BadKind key.BuildDependencies) (value_at key.BuildDependencies ms) b.1 b.6;
      dev_dependencies = keys_are (value_at key.DevDependencies ms);
      features = entries_at_only feature_of IsFeatureEntry features_read (BadKind key.Features) (value_at key.Features ms) b.2 b.7;
      profiles = entries_at_only profile_of (λ name. OfTable (IsProfileEntry name)) profiles_read BadProfile (value_at key.Profile ms) b.3 b.8;
      workspace = table_at_only workspace_of IsWorkspaceTable workspaces_read workspace_in refl (λ ns. refl) (BadKind key.Workspace) (value_at key.Workspace ms) b.4 b.9;
    })

document_back : (ms : Members) (m : Manifest) → IsDocument ms m → document_of ms ≡ Ok m
unfolding document_of targets_of tables_of spelled
document_back ms m says =
    let a : supported ms ≡ Ok tt = λ i. if is_some (says.unsupported.0 i) || is_some (says.unsupported.1.0 i) || is_some (says.unsupported.1.1.0 i) then Err UnsupportedTable else Ok tt in
    let old_package : asks_old_resolver key.Package ms ≡ false = new_table IsPackageTable (λ ns x is. is.resolver) (value_at key.Package ms) m.package says.own in
    let old_workspace : asks_old_resolver key.Workspace ms ≡ false = new_table IsWorkspaceTable (λ ns x is. is.resolver) (value_at key.Workspace ms) m.workspace says.workspace in
    let b : not_old ms ≡ Ok tt = λ i. if old_package i || old_workspace i then Err OldResolver else Ok tt in
    let c : package_at ms ≡ Ok m.package = package_back (has key.Workspace ms) (value_at key.Package ms) m.package says.own says.one in
    let d : library_at ms ≡ Ok m.library = table_at_back library_of IsLibraryTable libraries_read library_in refl (λ ns. refl) (BadKind key.Lib) (value_at key.Lib ms) m.library says.library in
    let e : binaries_at ms ≡ Ok m.binaries = binaries_back (value_at key.Bin ms) m.binaries says.binaries in
    let f : dependencies_at key.Dependencies ms ≡ Ok m.dependencies = entries_at_back (dependency_of key.Dependencies) (λ name. OfTable (IsDependencyEntry name)) (dependencies_read key.Dependencies) (BadKind key.Dependencies) (value_at key.Dependencies ms) m.dependencies says.dependencies in
    let g : dependencies_at key.BuildDependencies ms ≡ Ok m.build_dependencies = entries_at_back (dependency_of key.BuildDependencies) (λ name. OfTable (IsDependencyEntry name)) (dependencies_read key.BuildDependencies) (BadKind key.BuildDependencies) (value_at key.BuildDependencies ms) m.build_dependencies says.build_dependencies in
    let h : keys_at key.DevDependencies ms ≡ m.dev_dependencies = keys_are (value_at key.DevDependencies ms) ∙ sym says.dev_dependencies in
    let j : features_at ms ≡ Ok m.features = entries_at_back feature_of IsFeatureEntry features_read (BadKind key.Features) (value_at key.Features ms) m.features says.features in
    let k : profiles_at ms ≡ Ok m.profiles = entries_at_back profile_of (λ name. OfTable (IsProfileEntry name)) profiles_read BadProfile (value_at key.Profile ms) m.profiles says.profiles in
    let l : workspace_at ms ≡ Ok m.workspace = table_at_back workspace_of IsWorkspaceTable workspaces_read workspace_in refl (λ ns. refl) (BadKind key.Workspace) (value_at key.Workspace ms) m.workspace says.workspace in
    (λ i. a i >>= (λ none. b i >>= (λ new. targets_of ms >>= (λ a. tables_of ms >>= (λ b. Ok record {
      «package» = a.package;
      library = a.library;
      binaries = a.binaries;
      dependencies = b.dependencies;
      build_dependencies = b.build_dependencies;
      dev_dependencies = b.dev_dependencies;
      features = b.features;
      profiles = b.profiles;
      workspace = b.workspace;
    })))))
    ∙ then_back (targets_of ms) (λ a. tables_of ms >>= (λ b. Ok record {
      «package» = a.package;
      library = a.library;
      binaries = a.binaries;
      dependencies = b.dependencies;
      build_dependencies = b.build_dependencies;
      dev_dependencies = b.dev_dependencies;
      features = b.features;
      profiles = b.profiles;
      workspace = b.workspace;
    })) (record { «package» = m.package; library = m.library; binaries = m.binaries }) m
    (λ i. c i >>= (λ found. d i >>= (λ library. e i >>= (λ binaries. Ok record { «package» = found; library = library; binaries = binaries }))))
    (then_back (tables_of ms) (λ b. Ok record {
      «package» = m.package;
      library = m.library;
      binaries = m.binaries;
      dependencies = b.dependencies;
      build_dependencies = b.build_dependencies;
      dev_dependencies = b.dev_dependencies;
      features = b.features;
      profiles = b.profiles;
      workspace = b.workspace;
    }) (record { dependencies = m.dependencies; build_dependencies = m.build_dependencies; dev_dependencies = m.dev_dependencies; features = m.features; profiles = m.profiles; workspace = m.workspace }) m
    (λ i. f i >>= (λ dependencies. g i >>= (λ build_dependencies. j i >>= (λ features. k i >>= (λ profiles. l i >>= (λ workspace. Ok record {
      dependencies = dependencies;
      build_dependencies = build_dependencies;
      dev_dependencies = h i;
      features = features;
      profiles = profiles;
      workspace = workspace;
    })))))) refl)

pub documents_read : ReadsDocuments
documents_read ms m = (document_only ms m, document_back ms m)

pub say_one : DocumentsSayOne
say_one ms m n one other = let both : Ok m ≡ Ok n = sym (document_back ms m one) ∙ document_back ms n other in cc

-- the bytes
some_document : (found : Option Members) (ms : Members) → some_or NotToml found ≡ Ok ms → found ≡ Some ms
some_document None ms h = cc
some_document (Some ns) ms h = let same : ns ≡ ms = cc in ap (λ z. Some z) same

not_less : (m n : ℕ) → nat_lt m n ≡ false → n ≤ m
not_less m n h = grind (arith, nat_tests)

less_not : (m n : ℕ) → n ≤ m → nat_lt m n ≡ false
less_not m n h = grind (arith, nat_tests)

manifest_only : (bytes : List ℕ) (m : Manifest) → manifest_of bytes ≡ Ok m → AreManifest bytes m
unfolding document_in
manifest_only bytes m h = by (nat_lt max_manifest_bytes (length bytes)) refl h
  where
    of_text : (b : Bool) → is_utf8 bytes ≡ b → length bytes ≤ max_manifest_bytes → ((if b then some_or NotToml (parse_document bytes) else Err NotToml) >>= document_of) ≡ Ok m → AreManifest bytes m
    of_text true text few h =
        let c = came (some_or NotToml (parse_document bytes)) document_of m h in
        record { few = few; text = text; document = c.value; parsed = some_document (parse_document bytes) c.value c.was; says = document_only c.value m c.more }
    of_text false text few h = cc

    by : (b : Bool) → nat_lt max_manifest_bytes (length bytes) ≡ b → (if b then Err TooLarge else (document_in bytes >>= document_of)) ≡ Ok m → AreManifest bytes m
    by true large h = cc
    by false large h = of_text (is_utf8 bytes) refl (not_less max_manifest_bytes (length bytes) large) h

manifest_back : (bytes : List ℕ) (m : Manifest) → AreManifest bytes m → manifest_of bytes ≡ Ok m
unfolding document_in
manifest_back bytes m are =
    (λ i. if less_not max_manifest_bytes (length bytes) are.few i then Err TooLarge else (document_in bytes >>= document_of))
    ∙ (λ i. (if are.text i then some_or NotToml (are.parsed i) else Err NotToml) >>= document_of) ∙ document_back are.document m are.says

pub manifests_read : ReadsManifests
manifests_read bytes m = (manifest_only bytes m, manifest_back bytes m)
