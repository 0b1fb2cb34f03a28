-- `[package]`, `[lib]`, `[[bin]]` and `[features]` are read as what they say.
use Rattle.std.proofs.Common.{inl, inr, arith, ◌≡◌, ◌∙◌, ℕ, Bool, true, false, if◌then◌else◌, ◌||◌, List, [], ◌∷◌, codes, Option, Some, None, Ok, Err, IfSome, unwrap_or, refl, sym, ap, subst}
use Rattle.std.specs.List.{AllByRecursion}
use Rattle.std.specs.Str.{bytes_eq}
use Rattle.std.proofs.lemmas.Slice.Eq.{bytes_eq-Decides}
use Rattle.semver.specs.Parse.{digits_from}
use Rattle.pb_graph.proofs.Membership.{cases, single}
use Rattle.toml.specs.Data.{Data, string, boolean, Members, as_table}
use Rattle.pb_data.specs.UnlessOom.{◌>>=◌}
use Rattle.pb_manifest_types.specs.Keys.{spelled}
use Rattle.pb_manifest_types.specs.Letters.{is_name}
use Rattle.pb_manifest_types.specs.Package.{edition_text}
use Rattle.pb_manifest.specs.Package.{package_of, package_from, first_keys, middle_keys, last_keys, name_at, name_in, edition_of, edition_in, inherited_edition_at, build_at, build_in, readme_of, inheritable_readme_at, resolver_at, resolver_in}
use Rattle.pb_manifest_types.specs.Values.{Read}
use Rattle.pb_manifest.specs.Values.{optional, value_at, text_of, text_at, truth_at, truth_of, texts_of, inheritable_in, inheritable_text_at, inheritable_texts_at, zero_free}
use Rattle.pb_manifest_types.specs.Versions.{version_in, is_version}
use Rattle.pb_manifest.specs.Versions.{inherited_version_at, version_of, zero}
use Rattle.pb_manifest_types.specs.declared.fault.ManifestFault.TheVariants.{BadKind, BadName, BadVersion}
use Rattle.pb_manifest_types.specs.declared.inherited.Inheritable.{Inheritable}
use Rattle.pb_manifest_types.specs.declared.inherited.Inheritable.TheVariants as inheritable
use Rattle.pb_manifest_types.specs.declared.inherited.Inherited.{Inherited}
use Rattle.pb_manifest_types.specs.declared.inherited.Inherited.TheVariants.{Written, Workspace}
use Rattle.pb_manifest_types.specs.declared.key.Key.{Key}
use Rattle.pb_manifest_types.specs.declared.key.Key.TheVariants as key
use Rattle.pb_manifest_types.specs.declared.package.Build.{Build}
use Rattle.pb_manifest_types.specs.declared.package.Build.TheVariants as build
use Rattle.pb_manifest_types.specs.declared.package.Edition.{Edition}
use Rattle.pb_manifest_types.specs.declared.package.Edition.TheVariants.{E2015, E2018, E2021, E2024}
use Rattle.pb_manifest_types.specs.declared.package.Package.{Package}
use Rattle.pb_manifest_types.specs.declared.package.Readme.{Readme}
use Rattle.pb_manifest_types.specs.declared.package.Readme.TheVariants as readme
use Rattle.pb_manifest.proofs.Came.{came}
use Rattle.pb_manifest_laws.specs.Laws.{ReadsPackages}
use Rattle.pb_manifest_laws.specs.Packages.{edition, IsBuild, readme_value, IsVersion, IsResolver, IsPackageTable}
use Rattle.pb_manifest_laws.specs.Values.{texts, OptionalMeans, HoldsOrTakes}
use Rattle.pb_manifest_laws.proofs.Chains.{three, five, then_back}
use Rattle.pb_manifest_laws.proofs.Reading.{IsWrittenAs, Any, text_written, truth_written, path_written, list_written, spelled_so, chosen, optional_only, optional_back, or_from, or_to, taken_only, taken_back, IfWritten, IfOwn, inherited_only, inherited_back}

-- the edition
edition_only : (text : List ℕ) (x : Edition) → edition_in text ≡ Ok x → (text ≡ edition_text x) × Any x
edition_only text x h =
    (chosen edition_text text (codes "2015") E2015 _ x refl (chosen edition_text text (codes "2018") E2018 _ x refl (chosen edition_text text (codes "2021") E2021 _ x refl (chosen edition_text text (codes "2024") E2024 _ x refl (λ no. cc)))) h, tt)

edition_back : (x : Edition) → Any x → edition_in (edition_text x) ≡ Ok x
edition_back E2015 valid = refl
edition_back E2018 valid = refl
edition_back E2021 valid = refl
edition_back E2024 valid = refl

pub edition_written : IsWrittenAs edition_of edition Any
edition_written = spelled_so key.Edition edition_in edition_text Any edition_only edition_back

-- the version
abbrev IsOne : List ℕ → Type 0
IsOne text = is_version text ≡ true

version_only : (text x : List ℕ) → version_in text ≡ Ok x → (text ≡ x) × IsOne x
version_only text x h = by (is_version text) refl h
  where
    by : (b : Bool) → is_version text ≡ b → (if b then Ok text else Err BadVersion) ≡ Ok x → (text ≡ x) × IsOne x
    by true on h = let same : text ≡ x = cc in (same, ap is_version (sym same) ∙ on)
    by false on h = cc

pub version_written : IsWrittenAs version_of (λ x. string x) IsOne
version_written = spelled_so key.Version version_in (λ x. x) IsOne version_only (λ x is. ap (λ b. if b then Ok x else Err BadVersion) is)

zero_is : IsOne zero
unfolding is_version digits_from
zero_is = refl

-- the README
pub readme_written : IsWrittenAs readme_of readme_value Any
readme_written = record { only = only; back = back; plain = plain }
  where
    only : (d : Data) (x : Readme) → readme_of d ≡ Ok x → (d ≡ readme_value x) × Any x
    only (string s) x h = let same : readme.At s ≡ x = cc in (ap readme_value same, tt)
    only (boolean true) x h = let same : readme.Standard ≡ x = cc in (ap readme_value same, tt)
    only (boolean false) x h = let same : readme.Never ≡ x = cc in (ap readme_value same, tt)
    only _ x h = cc

    back : (x : Readme) → Any x → readme_of (readme_value x) ≡ Ok x
    back readme.Standard valid = refl
    back readme.Never valid = refl
    back (readme.At path) valid = refl

    plain : (x : Readme) → as_table (readme_value x) ≡ None
    plain readme.Standard = refl
    plain readme.Never = refl
    plain (readme.At path) = refl

-- the build script
build_only : (found : Option Data) (x : Build) → build_in found ≡ Ok x → IsBuild found x
build_only None x h = let same : build.Discovered ≡ x = cc in subst (IsBuild None) same refl
build_only (Some (string s)) x h =
    let c = came (zero_free key.Build s) (λ path. Ok (build.At path)) x h in
    let v = (path_written key.Build).only (string s) c.value c.was in
    let same : build.At c.value ≡ x = cc (c.more) in
    subst (IsBuild (Some (string s))) same (ap (λ d. Some d) v.0, v.1)
build_only (Some (boolean true)) x h = let same : build.Standard ≡ x = cc in subst (IsBuild (Some (boolean true))) same refl
build_only (Some (boolean false)) x h = let same : build.Never ≡ x = cc in subst (IsBuild (Some (boolean false))) same refl
build_only (Some _) x h = cc

build_back : (found : Option Data) (x : Build) → IsBuild found x → build_in found ≡ Ok x
build_back found (build.At path) is = ap build_in is.0 ∙ ap (λ r. r >>= (λ p. Ok (build.At p))) ((path_written key.Build).back path is.1)
build_back found _ is = ap build_in is

-- the name
pub name_only : (found : Option Data) (x : List ℕ) → (optional (text_of key.Name) found >>= name_in) ≡ Ok x → (found ≡ Some (string x)) × (is_name x ≡ true)
name_only found x h =
    let c = came (optional (text_of key.Name) found) name_in x h in
    let v = optional_only (text_of key.Name) (λ t. string t) Any (text_written key.Name) found c.value c.was in
    by c.value v.0 c.more
  where
    letters : (text : List ℕ) (b : Bool) → is_name text ≡ b → found ≡ Some (string text) → (if b then Ok text else Err BadName) ≡ Ok x → (found ≡ Some (string x)) × (is_name x ≡ true)
    letters text true on there h = let same : text ≡ x = cc in (there ∙ ap (λ t. Some (string t)) same, ap is_name (sym same) ∙ on)
    letters text false on there h = cc

    by : (o : Option (List ℕ)) → OptionalMeans (λ t. string t) found o → name_in o ≡ Ok x → (found ≡ Some (string x)) × (is_name x ≡ true)
    by None holds h = cc
    by (Some text) holds h = letters text (is_name text) refl holds h

pub name_back : (found : Option Data) (x : List ℕ) → found ≡ Some (string x) → is_name x ≡ true → (optional (text_of key.Name) found >>= name_in) ≡ Ok x
name_back found x there is = ap (λ f. optional (text_of key.Name) f >>= name_in) there ∙ ap (λ b. if b then Ok x else Err BadName) is

-- the resolver
pub each_resolver : (P : Option Data → Type 0) (found : Option Data) → IsResolver found → P None → P (Some (string (codes "2"))) → P (Some (string (codes "3"))) → P found
each_resolver P found is absent second third = elim (cases None (Some (string (codes "2")) ∷ Some (string (codes "3")) ∷ []) found is) [
  | inl here ↦ subst P here absent
  | inr later ↦ (elim (cases (Some (string (codes "2"))) (Some (string (codes "3")) ∷ []) found later) [ inl here ↦ subst P here second | inr last ↦ subst P (single (Some (string (codes "3"))) found last) third ])
]

pub resolver_only : (found : Option Data) (u : Unit {0}) → (optional (text_of key.Resolver) found >>= resolver_in) ≡ Ok u → IsResolver found
resolver_only found u h =
    let c = came (optional (text_of key.Resolver) found) resolver_in u h in
    let v = optional_only (text_of key.Resolver) (λ t. string t) Any (text_written key.Resolver) found c.value c.was in
    by c.value v.0 c.more
  where
    which : (text : List ℕ) (a b : Bool) → bytes_eq text (codes "2") ≡ a → bytes_eq text (codes "3") ≡ b → found ≡ Some (string text) → (if a || b then Ok tt else Err (BadKind key.Resolver)) ≡ Ok u → IsResolver found
    which text true b two three there h = (1, omega arith, sym (there ∙ ap (λ t. Some (string t)) ((bytes_eq-Decides text (codes "2")).0 two)))
    which text false true two three there h = (2, omega arith, sym (there ∙ ap (λ t. Some (string t)) ((bytes_eq-Decides text (codes "3")).0 three)))
    which text false false two three there h = cc

    by : (o : Option (List ℕ)) → OptionalMeans (λ t. string t) found o → resolver_in o ≡ Ok u → IsResolver found
    by None holds h = (0, omega arith, sym holds)
    by (Some text) holds h = which text (bytes_eq text (codes "2")) (bytes_eq text (codes "3")) refl refl holds h

pub resolver_back : (found : Option Data) → IsResolver found → (optional (text_of key.Resolver) found >>= resolver_in) ≡ Ok tt
resolver_back found is = each_resolver (λ f. (optional (text_of key.Resolver) f >>= resolver_in) ≡ Ok tt) found is refl refl refl

version_fact : (x : Inherited (List ℕ)) → IfOwn version_of (λ t. string t) IsOne version_written x → IsVersion x
version_fact (Written x) is = is
version_fact Workspace is = tt

-- a text that may be taken from the workspace
text_only : (k : Key) (found : Option Data) (x : Inheritable (List ℕ)) → inheritable_in k (text_of k) found ≡ Ok x → HoldsOrTakes (λ t. string t) found x
text_only k found x h = (taken_only (text_of k) (λ t. string t) Any (text_written k) k found x h).0

any_written : {A : Type 0} (read : Data → Read A) (write : A → Data) (w : IsWrittenAs read write Any) (x : Inheritable A) → IfWritten read write Any w x
any_written read write w (inheritable.Written x) = tt
any_written read write w inheritable.Workspace = tt
any_written read write w inheritable.Absent = tt

text_back : (k : Key) (found : Option Data) (x : Inheritable (List ℕ)) → HoldsOrTakes (λ t. string t) found x → inheritable_in k (text_of k) found ≡ Ok x
text_back k found x holds = taken_back (text_of k) (λ t. string t) Any (text_written k) k found x holds (any_written (text_of k) (λ t. string t) (text_written k) x)

package_only : (ms : Members) (p : Package) → package_of ms ≡ Ok p → IsPackageTable ms p
unfolding spelled
package_only ms p h =
    let t = three p (first_keys ms) (middle_keys ms) (last_keys ms) (λ first middle last. package_from first middle last) h in
    let a = five t.0 (inheritable_texts_at key.Authors ms) (truth_at key.Autobins ms) (build_at ms) (inheritable_text_at key.Description ms) (inherited_edition_at ms) (λ authors autobins build description edition. record { authors = authors; autobins = unwrap_or autobins true; build = build; description = description; edition = edition }) t.3 in
    let b = five t.1 (inheritable_text_at key.Homepage ms) (inheritable_text_at key.License ms) (inheritable_text_at key.LicenseFile ms) (text_at key.Links ms) (name_at ms) (λ homepage license license_file links name. record { homepage = homepage; license = license; license_file = license_file; links = links; name = name }) t.4 in
    let c = five t.2 (inheritable_readme_at ms) (inheritable_text_at key.Repository ms) (resolver_at ms) (inheritable_text_at key.RustVersion ms) (inherited_version_at ms) (λ readme repository resolver rust_version version. record { readme = readme; repository = repository; rust_version = rust_version; version = version }) t.5 in
    let authors = taken_only (texts_of key.Authors) texts (AllByRecursion Any) (list_written (text_of key.Authors) (λ x. string x) Any (text_written key.Authors) key.Authors) key.Authors (value_at key.Authors ms) a.0 a.5 in
    let autobins = optional_only (truth_of key.Autobins) (λ x. boolean x) Any (truth_written key.Autobins) (value_at key.Autobins ms) a.1 a.6 in
    let edition_found = inherited_only edition_of edition Any edition_written key.Edition E2015 tt (value_at key.Edition ms) a.4 a.9 in
    let links = optional_only (text_of key.Links) (λ x. string x) Any (text_written key.Links) (value_at key.Links ms) b.3 b.8 in
    let name = name_only (value_at key.Name ms) b.4 b.9 in
    let readme_found = taken_only readme_of readme_value Any readme_written key.Readme (value_at key.Readme ms) c.0 c.5 in
    let version = inherited_only version_of (λ x. string x) IsOne version_written key.Version zero zero_is (value_at key.Version ms) c.4 c.9 in
    let whole = (λ i. package_from (a.10 i) (b.10 i) (c.10 i)) ∙ t.6 in
    subst (IsPackageTable ms) whole (record {
      authors = authors.0;
      autobins = or_from (truth_of key.Autobins) (λ x. boolean x) Any (truth_written key.Autobins) true (value_at key.Autobins ms) a.1 autobins.0;
      script = build_only (value_at key.Build ms) a.2 a.7;
      edition_is = edition_found.0;
      links = links.0;
      name = name.0;
      letters = name.1;
      readme_is = readme_found.0;
      resolver = resolver_only (value_at key.Resolver ms) c.2 c.7;
      texts_are = (text_only key.Description (value_at key.Description ms) a.3 a.8, (text_only key.Homepage (value_at key.Homepage ms) b.0 b.5, (text_only key.License (value_at key.License ms) b.1 b.6, (text_only key.LicenseFile (value_at key.LicenseFile ms) b.2 b.7, (text_only key.Repository (value_at key.Repository ms) c.1 c.6, (text_only key.RustVersion (value_at key.RustVersion ms) c.3 c.8, tt))))));
      version = version.0;
      version_is = version_fact c.4 version.1;
    })

version_own : (x : Inherited (List ℕ)) → IsVersion x → IfOwn version_of (λ t. string t) IsOne version_written x
version_own (Written x) is = is
version_own Workspace is = tt

edition_own : (x : Inherited Edition) → IfOwn edition_of edition Any edition_written x
edition_own (Written x) = tt
edition_own Workspace = tt

pub all_any : {A : Type 0} (xs : List A) → AllByRecursion Any xs
all_any [] = tt
all_any (x ∷ xs) = (tt, all_any xs)

authors_written : (x : Inheritable (List (List ℕ))) → IfWritten (texts_of key.Authors) texts (AllByRecursion Any) (list_written (text_of key.Authors) (λ x. string x) Any (text_written key.Authors) key.Authors) x
authors_written (inheritable.Written xs) = all_any xs
authors_written inheritable.Workspace = tt
authors_written inheritable.Absent = tt

pub some_any : {A : Type 0} (o : Option A) → IfSome o Any
some_any None = tt
some_any (Some x) = tt

package_back : (ms : Members) (p : Package) → IsPackageTable ms p → package_of ms ≡ Ok p
unfolding spelled
package_back ms p says =
    let authors : inheritable_texts_at key.Authors ms ≡ Ok p.authors =
    taken_back (texts_of key.Authors) texts (AllByRecursion Any) (list_written (text_of key.Authors) (λ x. string x) Any (text_written key.Authors) key.Authors) key.Authors (value_at key.Authors ms) p.authors says.authors (authors_written p.authors) in
    let o = or_to (truth_of key.Autobins) (λ x. boolean x) Any (truth_written key.Autobins) true (value_at key.Autobins ms) p.autobins says.autobins in
    let autobins : truth_at key.Autobins ms ≡ Ok o.0 = optional_back (truth_of key.Autobins) (λ x. boolean x) Any (truth_written key.Autobins) (value_at key.Autobins ms) o.0 o.1 (some_any o.0) in
    let script : build_at ms ≡ Ok p.build = build_back (value_at key.Build ms) p.build says.script in
    let description : inheritable_text_at key.Description ms ≡ Ok p.description = text_back key.Description (value_at key.Description ms) p.description says.texts_are.0 in
    let edition_found : inherited_edition_at ms ≡ Ok p.edition = inherited_back edition_of edition Any edition_written key.Edition E2015 (value_at key.Edition ms) p.edition says.edition_is (edition_own p.edition) in
    let homepage : inheritable_text_at key.Homepage ms ≡ Ok p.homepage = text_back key.Homepage (value_at key.Homepage ms) p.homepage says.texts_are.1.0 in
    let license : inheritable_text_at key.License ms ≡ Ok p.license = text_back key.License (value_at key.License ms) p.license says.texts_are.1.1.0 in
    let license_file : inheritable_text_at key.LicenseFile ms ≡ Ok p.license_file = text_back key.LicenseFile (value_at key.LicenseFile ms) p.license_file says.texts_are.1.1.1.0 in
    let links : text_at key.Links ms ≡ Ok p.links = optional_back (text_of key.Links) (λ x. string x) Any (text_written key.Links) (value_at key.Links ms) p.links says.links (some_any p.links) in
    let name : name_at ms ≡ Ok p.name = name_back (value_at key.Name ms) p.name says.name says.letters in
    let readme_found : inheritable_readme_at ms ≡ Ok p.readme = taken_back readme_of readme_value Any readme_written key.Readme (value_at key.Readme ms) p.readme says.readme_is (any_written readme_of readme_value readme_written p.readme) in
    let repository : inheritable_text_at key.Repository ms ≡ Ok p.repository = text_back key.Repository (value_at key.Repository ms) p.repository says.texts_are.1.1.1.1.0 in
    let resolver : resolver_at ms ≡ Ok tt = resolver_back (value_at key.Resolver ms) says.resolver in
    let rust_version : inheritable_text_at key.RustVersion ms ≡ Ok p.rust_version = text_back key.RustVersion (value_at key.RustVersion ms) p.rust_version says.texts_are.1.1.1.1.1.0 in
    let version : inherited_version_at ms ≡ Ok p.version = inherited_back version_of (λ x. string x) IsOne version_written key.Version zero (value_at key.Version ms) p.version says.version (version_own p.version says.version_is) in
    then_back (first_keys ms) (λ first. middle_keys ms >>= (λ middle. last_keys ms >>= (λ last. Ok (package_from first middle last))))
    (record { authors = p.authors; autobins = unwrap_or o.0 true; build = p.build; description = p.description; edition = p.edition }) p
    (λ i. authors i >>= (λ a. autobins i >>= (λ b. script i >>= (λ c. description i >>= (λ d. edition_found i >>= (λ e. Ok record { authors = a; autobins = unwrap_or b true; build = c; description = d; edition = e }))))))
    (then_back (middle_keys ms) (λ middle. last_keys ms >>= (λ last. Ok (package_from (record { authors = p.authors; autobins = unwrap_or o.0 true; build = p.build; description = p.description; edition = p.edition }) middle last)))
    (record { homepage = p.homepage; license = p.license; license_file = p.license_file; links = p.links; name = p.name }) p
    (λ i. homepage i >>= (λ a. license i >>= (λ b. license_file i >>= (λ c. links i >>= (λ d. name i >>= (λ e. Ok record { homepage = a; license = b; license_file = c; links = d; name = e }))))))
    (then_back (last_keys ms) (λ last. Ok (package_from (record { authors = p.authors; autobins = unwrap_or o.0 true; build = p.build; description = p.description; edition = p.edition }) (record { homepage = p.homepage; license = p.license; license_file = p.license_file; links = p.links; name = p.name }) last))
    (record { readme = p.readme; repository = p.repository; rust_version = p.rust_version; version = p.version }) p
    (λ i. readme_found i >>= (λ a. repository i >>= (λ b. resolver i >>= (λ c. rust_version i >>= (λ d. version i >>= (λ e. Ok record { readme = a; repository = b; rust_version = d; version = e }))))))
    (ap (λ b. Ok (record p { autobins = b })) o.2)))

pub packages_read : ReadsPackages
packages_read ms p = (package_only ms p, package_back ms p)
