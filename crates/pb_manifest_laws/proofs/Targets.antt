-- `[lib]`, `[[bin]]` and `[features]` are read as what they say.
use Rattle.std.proofs.Common.{◌≡◌, ◌∙◌, ℕ, Bool, true, false, if◌then◌else◌, List, codes, Option, Some, None, Ok, Err, IfSome, refl, sym, ap, subst}
use Rattle.toml.specs.Data.{Data, string, boolean, Members}
use Rattle.pb_data.specs.UnlessOom.{◌>>=◌}
use Rattle.pb_manifest.specs.Binaries.{binary_keys}
use Rattle.pb_manifest.specs.Features.{feature_of, feature_items_of, feature_item_of, item_in}
use Rattle.pb_manifest_types.specs.Keys.{spelled}
use Rattle.pb_manifest.specs.Laws.{item_text}
use Rattle.pb_manifest_types.specs.Letters.{is_crate_name, is_feature_name}
use Rattle.pb_manifest_types.specs.Library.{crate_type_text}
use Rattle.pb_manifest.specs.Library.{library_of, crate_types_at, crate_type_of, crate_type_in, crate_name_at, crate_name_in, proc_macro_at, proc_macro_in}
use Rattle.pb_manifest.specs.Package.{name_at}
use Rattle.pb_manifest.specs.Promises.{IsItem}
use Rattle.pb_manifest.specs.Values.{optional, value_at, text_of, truth_of, path_at, path_of, listed_texts_at}
use Rattle.pb_manifest_types.specs.declared.fault.ManifestFault.TheVariants.{BadName, BadFeature}
use Rattle.pb_manifest_types.specs.declared.feature.Feature.{Feature}
use Rattle.pb_manifest_types.specs.declared.feature.FeatureItem.{FeatureItem}
use Rattle.pb_manifest_types.specs.declared.key.Key.TheVariants as key
use Rattle.pb_manifest_types.specs.declared.target.Binary.{Binary}
use Rattle.pb_manifest_types.specs.declared.target.CrateType.{CrateType}
use Rattle.pb_manifest_types.specs.declared.target.CrateType.TheVariants as crate_type
use Rattle.pb_manifest_types.specs.declared.target.Library.{Library}
use Rattle.pb_manifest.proofs.Came.{came}
use Rattle.pb_manifest.proofs.Items.{item_spelled}
use Rattle.pb_manifest.proofs.Spelled.{spelling_read}
use Rattle.pb_manifest_laws.specs.Laws.{ReadsLibraries, ReadsBinaries, ReadsFeatures}
use Rattle.pb_manifest_laws.specs.Packages.{IsLibraryTable, IsBinaryTable, IsFeatureEntry}
use Rattle.pb_manifest_laws.specs.Values.{IsPath, OptionalMeans, HoldsOr}
use Rattle.pb_manifest_laws.proofs.Chains.{three, four}
use Rattle.pb_manifest_laws.proofs.Packages.{name_only, name_back, all_any}
use Rattle.pb_manifest_laws.proofs.Reading.{IsWrittenAs, Any, text_written, truth_written, path_written, list_written, spelled_so, chosen, optional_only, optional_back, lists_only, lists_back}

-- crate types
type_only : (text : List ℕ) (x : CrateType) → crate_type_in text ≡ Ok x → (text ≡ crate_type_text x) × Any x
type_only text x h =
    (chosen crate_type_text text (codes "lib") crate_type.Lib _ x refl (chosen crate_type_text text (codes "rlib") crate_type.Rlib _ x refl (chosen crate_type_text text (codes "bin") crate_type.Bin _ x refl (λ no. cc))) h, tt)

type_back : (x : CrateType) → Any x → crate_type_in (crate_type_text x) ≡ Ok x
type_back crate_type.Lib valid = refl
type_back crate_type.Rlib valid = refl
type_back crate_type.Bin valid = refl

type_written : IsWrittenAs crate_type_of (λ t. string (crate_type_text t)) Any
type_written = spelled_so key.CrateType crate_type_in crate_type_text Any type_only type_back

-- the name of the crate
abbrev Named : Option (List ℕ) → Type 0
Named o = IfSome o (λ name. is_crate_name name ≡ true)

crate_only : (found : Option Data) (x : Option (List ℕ)) → (optional (text_of key.Name) found >>= crate_name_in) ≡ Ok x → OptionalMeans (λ t. string t) found x × Named x
crate_only found x h =
    let c = came (optional (text_of key.Name) found) crate_name_in x h in
    let v = optional_only (text_of key.Name) (λ t. string t) Any (text_written key.Name) found c.value c.was in
    by c.value v.0 c.more
  where
    letters : (text : List ℕ) (b : Bool) → is_crate_name text ≡ b → OptionalMeans (λ t. string t) found (Some text) → (if b then Ok (Some text) else Err BadName) ≡ Ok x → OptionalMeans (λ t. string t) found x × Named x
    letters text true on holds h = let same : Some text ≡ x = cc in subst (λ o. OptionalMeans (λ t. string t) found o × Named o) same (holds, on)
    letters text false on holds h = cc

    by : (o : Option (List ℕ)) → OptionalMeans (λ t. string t) found o → crate_name_in o ≡ Ok x → OptionalMeans (λ t. string t) found x × Named x
    by None holds h = let same : None ≡ x = cc in subst (λ o. OptionalMeans (λ t. string t) found o × Named o) same (holds, tt)
    by (Some text) holds h = letters text (is_crate_name text) refl holds h

crate_back : (found : Option Data) (x : Option (List ℕ)) → OptionalMeans (λ t. string t) found x → Named x → (optional (text_of key.Name) found >>= crate_name_in) ≡ Ok x
crate_back found None holds is = ap (λ f. optional (text_of key.Name) f >>= crate_name_in) holds
crate_back found (Some text) holds is = ap (λ f. optional (text_of key.Name) f >>= crate_name_in) holds ∙ ap (λ b. if b then Ok (Some text) else Err BadName) is

-- `proc-macro`
macro_only : (found : Option Data) (u : Unit {0}) → (optional (truth_of key.ProcMacro) found >>= proc_macro_in) ≡ Ok u → HoldsOr false (λ b. boolean b) found false
macro_only found u h =
    let c = came (optional (truth_of key.ProcMacro) found) proc_macro_in u h in
    let v = optional_only (truth_of key.ProcMacro) (λ b. boolean b) Any (truth_written key.ProcMacro) found c.value c.was in
    by c.value v.0 c.more
  where
    by : (o : Option Bool) → OptionalMeans (λ b. boolean b) found o → proc_macro_in o ≡ Ok u → HoldsOr false (λ b. boolean b) found false
    by None holds h = subst (λ f. HoldsOr false (λ b. boolean b) f false) (sym holds) refl
    by (Some false) holds h = subst (λ f. HoldsOr false (λ b. boolean b) f false) (sym holds) refl
    by (Some true) holds h = cc

macro_back : (found : Option Data) → HoldsOr false (λ b. boolean b) found false → (optional (truth_of key.ProcMacro) found >>= proc_macro_in) ≡ Ok tt
macro_back None holds = refl
macro_back (Some d) holds = ap (λ e. optional (truth_of key.ProcMacro) (Some e) >>= proc_macro_in) holds

library_only : (ms : Members) (l : Library) → library_of ms ≡ Ok l → IsLibraryTable ms l
unfolding spelled
library_only ms l h =
    let t = four l (crate_types_at ms) (crate_name_at ms) (path_at key.Path ms) (proc_macro_at ms) (λ crate_types name path proc_macro. record { crate_types = crate_types; name = name; path = path }) h in
    let name = crate_only (value_at key.Name ms) t.1 t.5 in
    subst (IsLibraryTable ms) t.8 (record {
      crate_types = (lists_only crate_type_of (λ t. string (crate_type_text t)) Any type_written key.CrateType (value_at key.CrateType ms) t.0 t.4).0;
      name = name;
      path = optional_only (path_of key.Path) (λ x. string x) IsPath (path_written key.Path) (value_at key.Path ms) t.2 t.6;
      no_macro = macro_only (value_at key.ProcMacro ms) t.3 t.7;
    })

library_back : (ms : Members) (l : Library) → IsLibraryTable ms l → library_of ms ≡ Ok l
unfolding spelled
library_back ms l says =
    let crate_types : crate_types_at ms ≡ Ok l.crate_types = lists_back crate_type_of (λ t. string (crate_type_text t)) Any type_written key.CrateType (value_at key.CrateType ms) l.crate_types says.crate_types (all_any l.crate_types) in
    let name : crate_name_at ms ≡ Ok l.name = crate_back (value_at key.Name ms) l.name says.name.0 says.name.1 in
    let path : path_at key.Path ms ≡ Ok l.path = optional_back (path_of key.Path) (λ x. string x) IsPath (path_written key.Path) (value_at key.Path ms) l.path says.path.0 says.path.1 in
    let no_macro : proc_macro_at ms ≡ Ok tt = macro_back (value_at key.ProcMacro ms) says.no_macro in
    λ i. crate_types i >>= (λ a. name i >>= (λ b. path i >>= (λ c. no_macro i >>= (λ d. Ok record { crate_types = a; name = b; path = c }))))

pub libraries_read : ReadsLibraries
libraries_read ms l = (library_only ms l, library_back ms l)

binary_only : (ms : Members) (b : Binary) → binary_keys ms ≡ Ok b → IsBinaryTable ms b
unfolding spelled
binary_only ms b h =
    let t = three b (name_at ms) (path_at key.Path ms) (listed_texts_at key.RequiredFeatures ms) (λ name path required. record { name = name; path = path; required_features = required }) h in
    let name = name_only (value_at key.Name ms) t.0 t.3 in
    subst (IsBinaryTable ms) t.6 (record {
      name = name.0;
      letters = name.1;
      path = optional_only (path_of key.Path) (λ x. string x) IsPath (path_written key.Path) (value_at key.Path ms) t.1 t.4;
      required_features = (lists_only (text_of key.RequiredFeatures) (λ x. string x) Any (text_written key.RequiredFeatures) key.RequiredFeatures (value_at key.RequiredFeatures ms) t.2 t.5).0;
    })

binary_back : (ms : Members) (b : Binary) → IsBinaryTable ms b → binary_keys ms ≡ Ok b
unfolding spelled
binary_back ms b says =
    let name : name_at ms ≡ Ok b.name = name_back (value_at key.Name ms) b.name says.name says.letters in
    let path : path_at key.Path ms ≡ Ok b.path = optional_back (path_of key.Path) (λ x. string x) IsPath (path_written key.Path) (value_at key.Path ms) b.path says.path.0 says.path.1 in
    let required : listed_texts_at key.RequiredFeatures ms ≡ Ok b.required_features = lists_back (text_of key.RequiredFeatures) (λ x. string x) Any (text_written key.RequiredFeatures) key.RequiredFeatures (value_at key.RequiredFeatures ms) b.required_features says.required_features (all_any b.required_features) in
    λ i. name i >>= (λ n. path i >>= (λ p. required i >>= (λ r. Ok record { name = n; path = p; required_features = r })))

pub binaries_read : ReadsBinaries
binaries_read ms b = (binary_only ms b, binary_back ms b)

-- features
item_only : (text : List ℕ) (x : FeatureItem) → item_in text ≡ Ok x → (text ≡ item_text x) × IsItem x
item_only text x h = let s = item_spelled text x h in (s.spelling, s.letters)

item_written : IsWrittenAs feature_item_of (λ i. string (item_text i)) IsItem
item_written = spelled_so key.Features item_in item_text IsItem item_only spelling_read

feature_only : (name : List ℕ) (d : Data) (f : Feature) → feature_of name d ≡ Ok f → IsFeatureEntry name d f
unfolding feature_of
feature_only name d f h = by (is_feature_name name) refl h
  where
    by : (b : Bool) → is_feature_name name ≡ b → (if b then (feature_items_of d >>= (λ items. Ok record { name = name; items = items })) else Err BadFeature) ≡ Ok f → IsFeatureEntry name d f
    by true on h =
        let c = came (feature_items_of d) (λ items. Ok record { name = name; items = items }) f h in
        let v = (list_written feature_item_of (λ i. string (item_text i)) IsItem item_written key.Features).only d c.value c.was in
        let same : record { name = name; items = c.value } ≡ f = cc (c.more) in
        subst (IsFeatureEntry name d) same (record { name_is = refl; letters = on; listed = v.0; items_are = v.1 })
    by false on h = cc

feature_back : (name : List ℕ) (d : Data) (f : Feature) → IsFeatureEntry name d f → feature_of name d ≡ Ok f
unfolding feature_of
feature_back name d f says =
    let items : feature_items_of d ≡ Ok f.items = ap feature_items_of says.listed ∙ (list_written feature_item_of (λ i. string (item_text i)) IsItem item_written key.Features).back f.items says.items_are in
    (λ i. if says.letters i then (items i >>= (λ xs. Ok record { name = name; items = xs })) else Err BadFeature) ∙ ap (λ n. Ok record { name = n; items = f.items }) (sym says.name_is)

pub features_read : ReadsFeatures
features_read name d f = (feature_only name d f, feature_back name d f)
