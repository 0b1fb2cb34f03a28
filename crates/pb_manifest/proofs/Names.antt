-- The name of a package that was read passes the test of a package's letters.
use Rattle.std.proofs.Common.{◌≡◌, ℕ, List, Bool, true, false, refl, subst, if◌then◌else◌, nat_lt, length, Option, Some, None, Ok, Err, IfSome}
use Rattle.toml.specs.Data.{Members}
use Rattle.pb_data.specs.Limits.{max_manifest_bytes}
use Rattle.pb_data.specs.UnlessOom.{◌>>=◌}
use Rattle.pb_manifest.specs.Binaries.{binaries_at}
use Rattle.pb_manifest.specs.Document.{supported, not_old, package_in, package_at, library_at, targets_of, tables_of, document_of, document_in, manifest_of}
use Rattle.pb_manifest_types.specs.Letters.{is_name}
use Rattle.pb_manifest.specs.Package.{name_in, name_at, first_keys, middle_keys, last_keys, package_of}
use Rattle.pb_manifest_types.specs.Values.{Text, Read}
use Rattle.pb_manifest.specs.Values.{table_at, text_at, inheritable_text_at}
use Rattle.pb_manifest.specs.declared.document.Targets.{Targets}
use Rattle.pb_manifest_types.specs.declared.fault.ManifestFault.TheVariants.{BadName, TooLarge}
use Rattle.pb_manifest_types.specs.declared.key.Key.TheVariants as key
use Rattle.pb_manifest_types.specs.declared.manifest.Manifest.{Manifest}
use Rattle.pb_manifest.specs.declared.package.MiddleKeys.{MiddleKeys}
use Rattle.pb_manifest_types.specs.declared.package.Package.{Package}

-- where two steps gave an answer, the first gave a value, and the second gave the answer of it
through : {A B : Type 0} (P : B → Type 0) (first : Read A) (next : A → Read B) (x : B) → (first >>= next) ≡ Ok x
    → ((a : A) → first ≡ Ok a → next a ≡ Ok x → P x) → P x
through P (Ok a) next x h step = step a refl h
through P (Err e) next x h step = cc

-- the packages of these have names
abbrev HasName : Option Package → Type 0
HasName found = IfSome found (λ p. is_name p.name ≡ true)

abbrev taken : Bool → Text → Read Text
taken b text = if b then Ok text else Err BadName

taken_passes : (b : Bool) (text name : Text) → is_name text ≡ b → taken b text ≡ Ok name → is_name name ≡ true
taken_passes true text name is h = let same : text ≡ name = cc in subst (λ (t : Text). is_name t ≡ true) same is
taken_passes false text name is h = cc

name_passes : (found : Option Text) (name : Text) → name_in found ≡ Ok name → is_name name ≡ true
name_passes None name h = cc
name_passes (Some text) name h = taken_passes (is_name text) text name refl h

middle_passes : (ms : Members) (middle : MiddleKeys) → middle_keys ms ≡ Ok middle → is_name middle.name ≡ true
middle_passes ms middle h =
    let P : MiddleKeys → Type 0 = λ m. is_name m.name ≡ true in
    let Q : Text → Type 0 = λ name. is_name name ≡ true in
    through P (inheritable_text_at key.Homepage ms) _ middle h (λ homepage was1 h1.
    through P (inheritable_text_at key.License ms) _ middle h1 (λ license was2 h2.
    through P (inheritable_text_at key.LicenseFile ms) _ middle h2 (λ license_file was3 h3.
    through P (text_at key.Links ms) _ middle h3 (λ links was4 h4.
    through P (name_at ms) _ middle h4 (λ name was5 h5.
    let passes : Q name = through Q (text_at key.Name ms) name_in name was5 (λ found was6 h6. name_passes found name h6) in
    let same : name ≡ middle.name = cc (h5) in
    subst Q same passes)))))

package_passes : (ms : Members) (p : Package) → package_of ms ≡ Ok p → is_name p.name ≡ true
package_passes ms p h =
    let P : Package → Type 0 = λ q. is_name q.name ≡ true in
    let Q : Text → Type 0 = λ name. is_name name ≡ true in
    through P (first_keys ms) _ p h (λ first was1 h1.
    through P (middle_keys ms) _ p h1 (λ middle was2 h2.
    through P (last_keys ms) _ p h2 (λ last was3 h3.
    let same : middle.name ≡ p.name = cc (h3) in
    subst Q same (middle_passes ms middle was2))))

found_passes : (ms : Members) (workspace : Bool) (ns : Option Members) (found : Option Package) → package_in workspace ns ≡ Ok found → HasName found
found_passes ms true None found h = let same : None ≡ found = cc (h) in subst HasName same tt
found_passes ms false None found h = cc
found_passes ms workspace (Some ns) found h =
    through HasName (package_of ns) _ found h (λ p was h1.
    let same : Some p ≡ found = cc (h1) in
    subst HasName same (package_passes ns p was))

abbrev TargetsName : Targets → Type 0
TargetsName a = HasName a.package

targets_pass : (ms : Members) (a : Targets) → targets_of ms ≡ Ok a → TargetsName a
unfolding targets_of
targets_pass ms a h =
    through TargetsName (package_at ms) _ a h (λ found was1 h1.
    through TargetsName (library_at ms) _ a h1 (λ library was2 h2.
    through TargetsName (binaries_at ms) _ a h2 (λ binaries was3 h3.
    let passes : HasName found = through HasName (table_at key.Package ms) _ found was1 (λ ns was4 h4. found_passes ms _ ns found h4) in
    let same : found ≡ a.package = cc (h3) in
    subst HasName same passes)))

abbrev ManifestName : Manifest → Type 0
ManifestName m = HasName m.package

document_passes : (ms : Members) (m : Manifest) → document_of ms ≡ Ok m → ManifestName m
unfolding document_of
document_passes ms m h =
    through ManifestName (supported ms) _ m h (λ none was1 h1.
    through ManifestName (not_old ms) _ m h1 (λ new was2 h2.
    through ManifestName (targets_of ms) _ m h2 (λ a was3 h3.
    through ManifestName (tables_of ms) _ m h3 (λ b was4 h4.
    let same : a.package ≡ m.package = cc (h4) in
    subst HasName same (targets_pass ms a was3)))))

abbrev sized : Bool → List ℕ → Read Manifest
sized b bytes = if b then Err TooLarge else (document_in bytes >>= document_of)

sized_passes : (b : Bool) (bytes : List ℕ) (m : Manifest) → sized b bytes ≡ Ok m → ManifestName m
sized_passes true bytes m h = cc
sized_passes false bytes m h = through ManifestName (document_in bytes) document_of m h (λ ms was h1. document_passes ms m h1)

some_passes : (found : Option Package) (p : Package) → HasName found → found ≡ Some p → is_name p.name ≡ true
some_passes None p h e = cc
some_passes (Some q) p h e = let same : q ≡ p = cc in subst (λ (r : Package). is_name r.name ≡ true) same h

-- the package of a manifest that was read has a name of the letters of package names
pub package_name_passes : (bytes : List ℕ) (m : Manifest) (p : Package) → manifest_of bytes ≡ Ok m → m.package ≡ Some p → is_name p.name ≡ true
package_name_passes bytes m p h e = some_passes m.package p (sized_passes (nat_lt max_manifest_bytes (length bytes)) bytes m h) e
