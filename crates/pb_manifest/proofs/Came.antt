-- What follows from an answer of a definition.
use Rattle.std.proofs.Common.{◌≡◌, List, [], ◌∷◌, ap, sym, ◌∙◌, refl, subst, Ok, Err, None}
use Rattle.toml.specs.Data.{Data, Items, no_items, item, Members}
use Rattle.pb_data.specs.UnlessOom.{◌>>=◌}
use Rattle.pb_manifest_types.specs.Values.{Read}
use Rattle.pb_manifest.specs.Values.{value_at, each}
use Rattle.pb_manifest.specs.Laws.{AreReadInOrder}
use Rattle.std.proofs.Common.{true, unwrap_or, codes}
use Rattle.pb_manifest.specs.Package.{package_of, package_from, first_keys, middle_keys, last_keys, inherited_edition_at, build_at, inheritable_readme_at, resolver_at}
use Rattle.pb_manifest.specs.Values.{inheritable_text_at, inheritable_texts_at, truth_at}
use Rattle.pb_manifest.specs.Versions.{inherited_version_at}
use Rattle.pb_manifest_types.specs.declared.key.Key.TheVariants as key
use Rattle.pb_manifest_types.specs.declared.inherited.Inherited.TheVariants.{Written}
use Rattle.pb_manifest_types.specs.declared.package.Edition.TheVariants.{E2015}
use Rattle.pb_manifest.specs.declared.package.MiddleKeys.{MiddleKeys}
use Rattle.pb_manifest_types.specs.declared.package.Package.{Package}
use Rattle.pb_manifest.specs.declared.package.FirstKeys.{FirstKeys}
use Rattle.pb_manifest.specs.declared.package.LastKeys.{LastKeys}

-- what was read first, where the whole was read
pub record Came {A B : Type 0} (first : Read A) (next : A → Read B) (x : B) : Type 0 where
  pub value : A
  pub was : first ≡ Ok value
  pub more : next value ≡ Ok x

pub came : {A B : Type 0} (first : Read A) (next : A → Read B) (x : B) → (first >>= next) ≡ Ok x → Came first next x
came (Ok a) next x h = record { value = a; was = refl; more = h }
came (Err e) next x h = cc

ordered : {A : Type 0} (read : Data → Read A) (d : Data) (ds : Items) (x : A) (rest xs : List A) → read d ≡ Ok x → AreReadInOrder read ds rest → x ∷ rest ≡ xs
    → AreReadInOrder read (item d ds) xs
ordered read d ds x rest xs was more same = subst (AreReadInOrder read (item d ds)) same (was, more)

-- the values of a list are read in its order
pub in_order : {A : Type 0} (read : Data → Read A) (ds : Items) (xs : List A) → each read ds ≡ Ok xs → AreReadInOrder read ds xs
in_order read no_items [] h = tt
in_order read no_items (x ∷ xs) h = cc
in_order {A} read (item d ds) xs h =
    let one : Came (read d) (λ x. each read ds >>= (λ rest. Ok (x ∷ rest))) xs = came (read d) (λ x. each read ds >>= (λ rest. Ok (x ∷ rest))) xs h in
    let others : Came (each read ds) (λ rest. Ok (one.value ∷ rest)) xs = came (each read ds) (λ rest. Ok (one.value ∷ rest)) xs one.more in
    let same : one.value ∷ others.value ≡ xs = cc (others.more) in
    ordered read d ds one.value others.value xs one.was (in_order read ds others.value others.was) same

-- what the keys gave, where a package was read
pub record Gave (ms : Members) (p : Package) : Type 0 where
  pub first : FirstKeys
  pub middle : MiddleKeys
  pub last : LastKeys
  pub first_was : first_keys ms ≡ Ok first
  pub last_was : last_keys ms ≡ Ok last
  pub is : package_from first middle last ≡ p

pub gave : (ms : Members) (p : Package) → package_of ms ≡ Ok p → Gave ms p
gave ms p h =
    let a : Came (first_keys ms) (λ first. middle_keys ms >>= (λ middle. last_keys ms >>= (λ last. Ok (package_from first middle last)))) p = came (first_keys ms) _ p h in
    let b : Came (middle_keys ms) (λ middle. last_keys ms >>= (λ last. Ok (package_from a.value middle last))) p = came (middle_keys ms) _ p a.more in
    let c : Came (last_keys ms) (λ last. Ok (package_from a.value b.value last)) p = came (last_keys ms) _ p b.more in
    let same : package_from a.value b.value c.value ≡ p = cc (c.more) in
    record { first = a.value; middle = b.value; last = c.value; first_was = a.was; last_was = c.was; is = same }

-- the edition is the last of the first keys
pub edition_gave : (ms : Members) (first : FirstKeys) → first_keys ms ≡ Ok first → inherited_edition_at ms ≡ Ok first.edition
edition_gave ms first h =
    let a : Came (inheritable_texts_at key.Authors ms) (λ authors. truth_at key.Autobins ms >>= (λ autobins. build_at ms >>= (λ build. inheritable_text_at key.Description ms >>= (λ description. inherited_edition_at ms >>= (λ edition. Ok record { authors = authors; autobins = unwrap_or autobins true; build = build; description = description; edition = edition }))))) first = came (inheritable_texts_at key.Authors ms) _ first h in
    let b : Came (truth_at key.Autobins ms) (λ autobins. build_at ms >>= (λ build. inheritable_text_at key.Description ms >>= (λ description. inherited_edition_at ms >>= (λ edition. Ok record { authors = a.value; autobins = unwrap_or autobins true; build = build; description = description; edition = edition })))) first = came (truth_at key.Autobins ms) _ first a.more in
    let c : Came (build_at ms) (λ build. inheritable_text_at key.Description ms >>= (λ description. inherited_edition_at ms >>= (λ edition. Ok record { authors = a.value; autobins = unwrap_or b.value true; build = build; description = description; edition = edition }))) first = came (build_at ms) _ first b.more in
    let d : Came (inheritable_text_at key.Description ms) (λ description. inherited_edition_at ms >>= (λ edition. Ok record { authors = a.value; autobins = unwrap_or b.value true; build = c.value; description = description; edition = edition })) first = came (inheritable_text_at key.Description ms) _ first c.more in
    let e : Came (inherited_edition_at ms) (λ edition. Ok record { authors = a.value; autobins = unwrap_or b.value true; build = c.value; description = d.value; edition = edition }) first = came (inherited_edition_at ms) _ first d.more in
    let same : e.value ≡ first.edition = cc (e.more) in
    e.was ∙ ap Ok same

-- the version is the last of the last keys
pub version_gave : (ms : Members) (found : LastKeys) → last_keys ms ≡ Ok found → inherited_version_at ms ≡ Ok found.version
version_gave ms found h =
    let a : Came (inheritable_readme_at ms) (λ readme. inheritable_text_at key.Repository ms >>= (λ repository. resolver_at ms >>= (λ resolver. inheritable_text_at key.RustVersion ms >>= (λ rust_version. inherited_version_at ms >>= (λ version. Ok record { readme = readme; repository = repository; rust_version = rust_version; version = version }))))) found = came (inheritable_readme_at ms) _ found h in
    let b : Came (inheritable_text_at key.Repository ms) (λ repository. resolver_at ms >>= (λ resolver. inheritable_text_at key.RustVersion ms >>= (λ rust_version. inherited_version_at ms >>= (λ version. Ok record { readme = a.value; repository = repository; rust_version = rust_version; version = version })))) found = came (inheritable_text_at key.Repository ms) _ found a.more in
    let c : Came (resolver_at ms) (λ resolver. inheritable_text_at key.RustVersion ms >>= (λ rust_version. inherited_version_at ms >>= (λ version. Ok record { readme = a.value; repository = b.value; rust_version = rust_version; version = version }))) found = came (resolver_at ms) _ found b.more in
    let d : Came (inheritable_text_at key.RustVersion ms) (λ rust_version. inherited_version_at ms >>= (λ version. Ok record { readme = a.value; repository = b.value; rust_version = rust_version; version = version })) found = came (inheritable_text_at key.RustVersion ms) _ found c.more in
    let e : Came (inherited_version_at ms) (λ version. Ok record { readme = a.value; repository = b.value; rust_version = d.value; version = version }) found = came (inherited_version_at ms) _ found d.more in
    let same : e.value ≡ found.version = cc (e.more) in
    e.was ∙ ap Ok same

pub edition_default : (ms : Members) (p : Package) → value_at key.Edition ms ≡ None → package_of ms ≡ Ok p → p.edition ≡ Written E2015
edition_default ms p none h =
    let g : Gave ms p = gave ms p h in
    let e : inherited_edition_at ms ≡ Ok g.first.edition = edition_gave ms g.first g.first_was in
    let d : inherited_edition_at ms ≡ Ok (Written E2015) = simp none in
    let same : g.first.edition ≡ Written E2015 = cc (e, d) in
    ap (λ (q : Package). q.edition) (sym g.is) ∙ same

pub version_default : (ms : Members) (p : Package) → value_at key.Version ms ≡ None → package_of ms ≡ Ok p → p.version ≡ Written (codes "0.0.0")
version_default ms p none h =
    let g : Gave ms p = gave ms p h in
    let e : inherited_version_at ms ≡ Ok g.last.version = version_gave ms g.last g.last_was in
    let d : inherited_version_at ms ≡ Ok (Written (codes "0.0.0")) = simp none in
    let same : g.last.version ≡ Written (codes "0.0.0") = cc (e, d) in
    ap (λ (q : Package). q.version) (sym g.is) ∙ same
