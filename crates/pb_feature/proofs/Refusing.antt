-- Why nothing is resolved, from what is computed.
use Rattle.std.proofs.Common.{◌≡◌, inl, inr, ℕ, Bool, true, List, Contains, All, Option, Some, None, length, refl, sym, ◌∙◌, ap, subst}
use Rattle.std.specs.Prelude.{slice_get}
use Rattle.std.specs.List.{list_any}
use Rattle.std.specs.Str.{bytes_eq}
use Rattle.std.proofs.lemmas.Bool.{false≢true}
use Rattle.std.proofs.lemmas.Option.{slice_get_within}
use Rattle.std.proofs.lemmas.List.Folds.{list_any_at, Any-from_list_any}
use Rattle.std.proofs.lemmas.List.Elements.{All-contains}
use Rattle.pb_manifest_types.specs.declared.feature.Feature.{Feature}
use Rattle.pb_workspace_types.specs.declared.package.Package.{Package}
use Rattle.pb_workspace_types.specs.declared.options.Selection.{Selection}
use Rattle.pb_workspace_types.specs.declared.workspace.Workspace.{Workspace}
use Rattle.pb_workspace_types.specs.Workspace.{has_feature_named, HasFeature}
use Rattle.pb_feature.specs.declared.fault.FeatureFault.{FeatureFault}
use Rattle.pb_feature.specs.declared.fault.FeatureFault.TheVariants.{NoSuchFeature}
use Rattle.pb_feature.specs.Facts.{of_package}
use Rattle.pb_feature.specs.Faults.{package_fault, ItemsAreRight, HasRequested, by_name, by_package, LacksFeature, Refuses, by_item, by_asked, by_missing}
use Rattle.pb_feature.specs.Rules.{is_text_of}
use Rattle.pb_feature.specs.Answered.{is_owner_of, owner_is, is_owner_at, is_answered, IsUnanswered}
use Rattle.pb_feature.specs.Checked.{IsFirstBelow, IsSofar}
use Rattle.pb_feature.proofs.Slots.{same_name, its_name}
use Rattle.pb_feature.proofs.Whole.{or_left, or_right}
use Rattle.pb_feature.proofs.Resolving.{or_two}

-- one of a list passes, by its index
any_at : {X : Type 0} (p : X → Bool) (xs : List X) → list_any p xs ≡ true → (x : X) × Contains xs x × (p x ≡ true)
any_at p xs e = let h = Any-from_list_any p xs e in (h.1, (h.0, h.2, h.3), h.4)

any_of : {X : Type 0} (p : X → Bool) (xs : List X) (x : X) → Contains xs x → p x ≡ true → list_any p xs ≡ true
any_of p xs x is e = list_any_at p xs is.0 x is.1 (ap p is.2 ∙ e)

some_none : (w : Option FeatureFault) (fault : FeatureFault) → w ≡ Some fault → w ≡ None → ⊥
some_none w fault x y = cc

module _ (ws : Workspace) (selection : Selection) where
  pub right_is : IsSofar ws.packages (length ws.packages) None → ItemsAreRight ws
  right_is sofar p o at = sofar p o (slice_get_within ws.packages p o at) at

  pub refused_item : (pkg : ℕ) (fault : FeatureFault) → IsFirstBelow ws.packages (length ws.packages) pkg fault → Refuses ws selection fault
  refused_item pkg fault f = by_item fault (record {
    pkg = pkg;
    owner = f.owner;
    package_at = f.package_at;
    told = f.told;
    first = λ q other at less. f.first q other (slice_get_within ws.packages q other at) at less;
  })

  -- a text is that of a package exactly where the test says so
  owner_answers : (text : List ℕ) (p : ℕ) (o : Package) → slice_get ws.packages p ≡ Some o → Contains selection.packages p → is_owner_of o text ≡ true → HasRequested ws selection text
  owner_answers text p o at is e =
      let h = any_at (λ (f : Feature). is_text_of o.name f.name text) o.features e in
      let there : HasFeature ws p h.0.name = record { owner = o; package_at = at; is_there = any_of (λ (f : Feature). bytes_eq h.0.name f.name) o.features h.0 h.1 (its_name h.0.name) } in
      elim (or_two (bytes_eq text h.0.name) (bytes_eq text (of_package o.name h.0.name)) h.2) [
        | inl plain ↦ (let name : text ≡ h.0.name = same_name text h.0.name plain in by_name p is (subst (HasFeature ws p) (sym name) there))
        | inr long ↦ by_package p h.0.name is there (same_name text (of_package o.name h.0.name) long)
      ]

  at_owner : (text : List ℕ) (p : ℕ) (w : Option Package) → slice_get ws.packages p ≡ w → Contains selection.packages p → owner_is w text ≡ true → HasRequested ws selection text
  at_owner text p None at is e = absurd (false≢true e)
  at_owner text p (Some o) at is e = owner_answers text p o at is e

  pub answered_from : (text : List ℕ) → is_answered ws.packages selection.packages text ≡ true → HasRequested ws selection text
  answered_from text e =
      let h = any_at (is_owner_at ws.packages text) selection.packages e in
      at_owner text h.0 (slice_get ws.packages h.0) refl h.1 h.2

  -- a name that a package has is that of one of its features
  its_feature : (o : Package) (name : List ℕ) → has_feature_named o.features name ≡ true → (f : Feature) × Contains o.features f × (f.name ≡ name)
  its_feature o name e = let h = any_at (λ (f : Feature). bytes_eq name f.name) o.features e in (h.0, h.1, sym (same_name name h.0.name h.2))

  by_test : (text : List ℕ) (p : ℕ) (there : Package) → slice_get ws.packages p ≡ Some there → Contains selection.packages p → (f : Feature) → Contains there.features f → is_text_of there.name f.name text ≡ true → is_answered ws.packages selection.packages text ≡ true
  by_test text p o at is f f_is e =
      any_of (is_owner_at ws.packages text) selection.packages p is (ap (λ w. owner_is w text) at ∙ any_of (λ (g : Feature). is_text_of o.name g.name text) o.features f f_is e)

  pub answered_to : (text : List ℕ) → HasRequested ws selection text → is_answered ws.packages selection.packages text ≡ true
  answered_to text (by_name p is there) =
      let h = its_feature there.owner text there.is_there in
      by_test text p there.owner there.package_at is h.0 h.1 (or_left (bytes_eq text h.0.name) (bytes_eq text (of_package there.owner.name h.0.name)) (subst (λ n. bytes_eq text n ≡ true) (sym h.2) (its_name text)))
  answered_to text (by_package p feature is there same) =
      let h = its_feature there.owner feature there.is_there in
      let whole : of_package there.owner.name h.0.name ≡ text = ap (of_package there.owner.name) h.2 ∙ sym same in
      by_test text p there.owner there.package_at is h.0 h.1 (or_right (bytes_eq text h.0.name) (bytes_eq text (of_package there.owner.name h.0.name)) (subst (λ n. bytes_eq text n ≡ true) (sym whole) (its_name text)))

  abbrev EachAnswered : Type 0
  EachAnswered = All (λ text. is_answered ws.packages selection.packages text ≡ true) selection.features

  each_is : EachAnswered → (text : List ℕ) → Contains selection.features text → HasRequested ws selection text
  each_is each text is = answered_from text (All-contains (λ t. is_answered ws.packages selection.packages t ≡ true) selection.features text each is)

  pub refused_asked : IsSofar ws.packages (length ws.packages) None → IsUnanswered ws.packages selection → Refuses ws selection NoSuchFeature
  refused_asked sofar none = by_asked (right_is sofar) none.text none.asked (λ is. false≢true (sym none.none ∙ answered_to none.text is))

  pub refused_missing : IsSofar ws.packages (length ws.packages) None → EachAnswered → LacksFeature ws selection → Refuses ws selection NoSuchFeature
  refused_missing sofar each missing = by_missing (right_is sofar) (each_is each) missing

  -- nothing is refused where each check passes
  pub none_refused : IsSofar ws.packages (length ws.packages) None → EachAnswered → (LacksFeature ws selection → ⊥) → (fault : FeatureFault) → Refuses ws selection fault → ⊥
  none_refused sofar each complete fault (by_item _ first) = some_none (package_fault first.owner) fault first.told (right_is sofar first.pkg first.owner first.package_at)
  none_refused sofar each complete _ (by_asked right text is none) = none (each_is each text is)
  none_refused sofar each complete _ (by_missing right answered missing) = complete missing
