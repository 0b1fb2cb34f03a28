-- The laws of what is computed, in the words of the calls that compute it.
use Rattle.std.proofs.Common.{◌≡◌, ◌≢◌, ◌⊎◌, inl, inr, ℕ, ◌*◌, ◌<◌, Bool, true, List, Contains, All, length, sym, ◌∙◌, ap, subst}
use Rattle.std.specs.Prelude.{slice_get}
use Rattle.pb_workspace_types.specs.declared.package.Package.{Package}
use Rattle.pb_workspace_types.specs.declared.options.Selection.{Selection}
use Rattle.pb_workspace_types.specs.declared.workspace.Workspace.{Workspace}
use Rattle.pb_workspace_types.specs.Workspace.{has_feature_named}
use Rattle.pb_workspace_types.specs.Settled.{IsSettled}
use Rattle.pb_graph.specs.declared.table.Rule.{Rule}
use Rattle.pb_graph.specs.Closure.{Least, IsLeast, is_on}
use Rattle.pb_graph.specs.Table.{IsInRange, joined_by}
use Rattle.pb_graph.specs.Placed.{placed}
use Rattle.pb_feature.specs.declared.fault.FeatureFault.{FeatureFault}
use Rattle.pb_feature.specs.declared.fault.FeatureFault.TheVariants.{OutOfMemory, NoSuchFeature}
use Rattle.pb_feature_types.specs.declared.features.Features.{Features}
use Rattle.pb_feature.specs.Facts.{Has}
use Rattle.pb_feature.specs.Faults.{LacksFeature}
use Rattle.pb_feature.specs.Numbers.{bases_from, end_from, slot}
use Rattle.pb_feature.specs.Rules.{rules_of, seeds_of}
use Rattle.pb_feature.specs.Resolved.{IsResolved}
use Rattle.pb_feature.specs.Marked.{marked_sides, IsMarkedMissing, NoneMarkedMissing}
use Rattle.pb_feature.proofs.Slots.{there_some}
use Rattle.pb_feature.proofs.Sound.{same_owner, one_at, slot_of, feature_there}
use Rattle.pb_feature.proofs.Whole.{whole}
use Rattle.pb_feature.proofs.Resolving.{seeds_below, rules_below, missing_from, present, exactly}

module _ (ws : Workspace) (selection : Selection) (settled : IsSettled ws) (within : All (λ p. p < length ws.packages) selection.packages) where
  pub seeds_fit : (qs : List Package) (bases seeds passed : List ℕ) (count : ℕ) → qs ≡ ws.packages → bases ≡ bases_from 0 ws.packages → count ≡ end_from 0 ws.packages * 2
      → seeds ≡ seeds_of qs bases selection → passed ≡ seeds → All (λ i. i < count) passed
  seeds_fit qs bases seeds passed count same_qs same_bases same_count are same =
      let e : passed ≡ seeds_of ws.packages (bases_from 0 ws.packages) selection = same ∙ are ∙ ap (λ q. seeds_of q bases selection) same_qs ∙ ap (λ b. seeds_of ws.packages b selection) same_bases in
      subst (λ xs. All (λ i. i < count) xs) (sym e)
      (subst (λ n. All (λ i. i < n) (seeds_of ws.packages (bases_from 0 ws.packages) selection)) (sym same_count) (seeds_below ws selection settled within))

  pub rules_fit : (qs : List Package) (bases : List ℕ) (rules passed : List Rule) (count : ℕ) → qs ≡ ws.packages → bases ≡ bases_from 0 ws.packages → count ≡ end_from 0 ws.packages * 2
      → rules ≡ rules_of qs bases → passed ≡ rules → All (IsInRange count) passed
  rules_fit qs bases rules passed count same_qs same_bases same_count are same =
      let e : passed ≡ rules_of ws.packages (bases_from 0 ws.packages) = same ∙ are ∙ ap (λ q. rules_of q bases) same_qs ∙ ap (λ b. rules_of ws.packages b) same_bases in
      subst (λ xs. All (IsInRange count) xs) (sym e)
      (subst (λ n. All (IsInRange n) (rules_of ws.packages (bases_from 0 ws.packages))) (sym same_count) (rules_below ws selection settled within))

  pub least_is : (qs : List Package) (bases seeds passed : List ℕ) (rules passed_rules : List Rule) (marks : List Bool) → qs ≡ ws.packages
      → seeds ≡ seeds_of qs bases selection → passed ≡ seeds → rules ≡ rules_of qs bases → passed_rules ≡ rules
      → IsLeast (Least (Contains passed) (joined_by passed_rules)) (is_on marks)
      → IsLeast (Least (Contains (seeds_of ws.packages bases selection)) (joined_by (rules_of ws.packages bases))) (is_on marks)
  least_is qs bases seeds passed rules passed_rules marks same_qs are same are_rules same_rules least =
      let e : passed ≡ seeds_of ws.packages bases selection = same ∙ are ∙ ap (λ q. seeds_of q bases selection) same_qs in
      let f : passed_rules ≡ rules_of ws.packages bases = same_rules ∙ are_rules ∙ ap (λ q. rules_of q bases) same_qs in
      subst (λ rs. IsLeast (Least (Contains (seeds_of ws.packages bases selection)) (joined_by rs)) (is_on marks)) f
      (subst (λ xs. IsLeast (Least (Contains xs) (joined_by passed_rules)) (is_on marks)) e least)

  abbrev Marked : List ℕ → List Bool → Type 0
  Marked bases marks = IsLeast (Least (Contains (seeds_of ws.packages bases selection)) (joined_by (rules_of ws.packages bases))) (is_on marks)

  pub missing_of : (qs : List Package) (bases : List ℕ) (marks : List Bool) → qs ≡ ws.packages → bases ≡ bases_from 0 ws.packages → Marked bases marks
      → IsMarkedMissing marks bases (length qs) → LacksFeature ws selection
  missing_of qs bases marks same_qs same_bases least missing =
      let its : Marked (bases_from 0 ws.packages) marks = subst (λ b. Marked b marks) same_bases least in
      let m : IsMarkedMissing marks (bases_from 0 ws.packages) (length ws.packages) = subst (λ b. IsMarkedMissing marks b (length ws.packages)) same_bases (subst (λ q. IsMarkedMissing marks bases (length q)) same_qs missing) in
      let o = one_at ws.packages m.pkg m.below in
      let h = missing_from ws selection settled within marks its m.pkg m.side o.0 o.1 m.marked in
      record {
        pkg = m.pkg;
        side = m.side;
        feature = h.0;
        holds = h.1;
        missing = λ there. there_some o.0.features h.0
            (subst (λ (w : Package). has_feature_named w.features h.0 ≡ true) (same_owner (slice_get ws.packages m.pkg) there.owner o.0 there.package_at o.1) there.is_there)
            (sym (slot_of ws selection settled m.pkg h.0 o.0 o.1) ∙ h.2);
      }

  abbrev Complete : List Package → List ℕ → List Bool → Type 0
  Complete qs bases marks = NoneMarkedMissing marks bases (length qs)

  complete_is : (qs : List Package) (bases : List ℕ) (marks : List Bool) → qs ≡ ws.packages → bases ≡ bases_from 0 ws.packages → Complete qs bases marks → Complete ws.packages (bases_from 0 ws.packages) marks
  complete_is qs bases marks same_qs same_bases complete = subst (λ b. Complete ws.packages b marks) same_bases (subst (λ q. Complete q bases marks) same_qs complete)

  made_is : (qs : List Package) (bases : List ℕ) (marks : List Bool) (features : Features) → qs ≡ ws.packages → bases ≡ bases_from 0 ws.packages → features.packages ≡ placed (marked_sides marks bases) 0 qs
      → features.packages ≡ placed (marked_sides marks (bases_from 0 ws.packages)) 0 ws.packages
  made_is qs bases marks features same_qs same_bases made = made ∙ ap (λ q. placed (marked_sides marks bases) 0 q) same_qs ∙ ap (λ b. placed (marked_sides marks b) 0 ws.packages) same_bases

  pub exactly_of : (qs : List Package) (bases : List ℕ) (marks : List Bool) (features : Features) → qs ≡ ws.packages → bases ≡ bases_from 0 ws.packages → Marked bases marks
      → Complete qs bases marks → features.packages ≡ placed (marked_sides marks bases) 0 qs → IsResolved ws selection features
  exactly_of qs bases marks features same_qs same_bases least complete made =
      exactly ws selection settled within marks (subst (λ b. Marked b marks) same_bases least) features (made_is qs bases marks features same_qs same_bases made) (complete_is qs bases marks same_qs same_bases complete)

  pub complete_of : (qs : List Package) (bases : List ℕ) (marks : List Bool) (features : Features) → qs ≡ ws.packages → bases ≡ bases_from 0 ws.packages → Marked bases marks
      → Complete qs bases marks → features.packages ≡ placed (marked_sides marks bases) 0 qs → LacksFeature ws selection → ⊥
  complete_of qs bases marks features same_qs same_bases least complete made m =
      let o = whole ws selection settled within (Has m.pkg m.side m.feature) m.holds in
      let some : slot o.0.features m.feature ≢ 0 =
      present ws selection settled within marks (subst (λ b. Marked b marks) same_bases least) features (made_is qs bases marks features same_qs same_bases made) (complete_is qs bases marks same_qs same_bases complete) m.pkg m.side m.feature o.0 o.1 m.holds in
      m.missing (feature_there ws selection settled m.pkg m.feature o.0 o.1 some)

  -- the same, of marks that are passed on, and of the error that is answered
  pub missing_error : (qs : List Package) (bases : List ℕ) (marks passed : List Bool) (e : FeatureFault) → qs ≡ ws.packages → bases ≡ bases_from 0 ws.packages → Marked bases marks → passed ≡ marks
      → (e ≡ OutOfMemory) ⊎ ((e ≡ NoSuchFeature) × IsMarkedMissing passed bases (length qs)) → (e ≡ OutOfMemory) ⊎ ((e ≡ NoSuchFeature) × LacksFeature ws selection)
  missing_error qs bases marks passed e same_qs same_bases least same (inl memory) = inl memory
  missing_error qs bases marks passed e same_qs same_bases least same (inr (is, missing)) = inr (is, missing_of qs bases marks same_qs same_bases least (subst (λ m. IsMarkedMissing m bases (length qs)) same missing))

  pub exactly_passed : (qs : List Package) (bases : List ℕ) (marks passed other : List Bool) (features : Features) → qs ≡ ws.packages → bases ≡ bases_from 0 ws.packages → Marked bases marks → passed ≡ marks → other ≡ marks
      → Complete qs bases passed → features.packages ≡ placed (marked_sides other bases) 0 qs → IsResolved ws selection features
  exactly_passed qs bases marks passed other features same_qs same_bases least same same_other complete made =
      exactly_of qs bases marks features same_qs same_bases least (subst (Complete qs bases) same complete) (made ∙ ap (λ m. placed (marked_sides m bases) 0 qs) same_other)

  pub complete_passed : (qs : List Package) (bases : List ℕ) (marks passed other : List Bool) (features : Features) → qs ≡ ws.packages → bases ≡ bases_from 0 ws.packages → Marked bases marks → passed ≡ marks → other ≡ marks
      → Complete qs bases passed → features.packages ≡ placed (marked_sides other bases) 0 qs → LacksFeature ws selection → ⊥
  complete_passed qs bases marks passed other features same_qs same_bases least same same_other complete made =
      complete_of qs bases marks features same_qs same_bases least (subst (Complete qs bases) same complete) (made ∙ ap (λ m. placed (marked_sides m bases) 0 qs) same_other)
