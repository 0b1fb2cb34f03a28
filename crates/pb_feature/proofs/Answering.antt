-- Why nothing is resolved, in the words of the calls that find it.
use Rattle.std.proofs.Common.{◌≡◌, ◌⊎◌, inl, inr, ℕ, true, List, All, None, length, sym, subst}
use Rattle.pb_workspace_types.specs.declared.package.Package.{Package}
use Rattle.pb_workspace_types.specs.declared.options.Selection.{Selection}
use Rattle.pb_workspace_types.specs.declared.workspace.Workspace.{Workspace}
use Rattle.pb_feature.specs.declared.fault.FeatureFault.{FeatureFault}
use Rattle.pb_feature.specs.declared.fault.FeatureFault.TheVariants.{OutOfMemory, NoSuchFeature}
use Rattle.pb_feature.specs.Faults.{LacksFeature, Refuses}
use Rattle.pb_feature.specs.Answered.{is_answered, IsUnanswered}
use Rattle.pb_feature.specs.Checked.{IsFirstBelow, IsSofar}
use Rattle.pb_feature.proofs.Refusing.{refused_item, refused_asked, refused_missing, none_refused}

module _ (ws : Workspace) (selection asked : Selection) (qs rs : List Package) (same : qs ≡ ws.packages) (same_rs : rs ≡ ws.packages) (same_asked : asked ≡ selection) where
  pub item_error : (e : FeatureFault) → ((pkg : ℕ) × IsFirstBelow qs (length qs) pkg e) → (e ≡ OutOfMemory) ⊎ Refuses ws selection e
  item_error e (pkg, first) = inr (refused_item ws selection pkg e (subst (λ q. IsFirstBelow q (length q) pkg e) same first))

  abbrev Right : Type 0
  Right = IsSofar qs (length qs) None

  right_is : Right → IsSofar ws.packages (length ws.packages) None
  right_is sofar = subst (λ q. IsSofar q (length q) None) same sofar

  abbrev Answered : Type 0
  Answered = All (λ text. is_answered rs asked.packages text ≡ true) asked.features

  answered_is : Answered → All (λ text. is_answered ws.packages selection.packages text ≡ true) selection.features
  answered_is each =
      subst (λ (s : Selection). All (λ text. is_answered ws.packages s.packages text ≡ true) s.features) same_asked
      (subst (λ q. All (λ text. is_answered q asked.packages text ≡ true) asked.features) same_rs each)

  pub asked_error : Right → (e : FeatureFault) → (e ≡ OutOfMemory) ⊎ ((e ≡ NoSuchFeature) × IsUnanswered rs asked) → (e ≡ OutOfMemory) ⊎ Refuses ws selection e
  asked_error right e (inl memory) = inl memory
  asked_error right e (inr (is, none)) = inr (subst (Refuses ws selection) (sym is) (refused_asked ws selection (right_is right) (subst (IsUnanswered ws.packages) same_asked (subst (λ q. IsUnanswered q asked) same_rs none))))

  pub missing_error : Right → Answered → (e : FeatureFault) → (e ≡ OutOfMemory) ⊎ ((e ≡ NoSuchFeature) × LacksFeature ws selection) → (e ≡ OutOfMemory) ⊎ Refuses ws selection e
  missing_error right each e (inl memory) = inl memory
  missing_error right each e (inr (is, missing)) = inr (subst (Refuses ws selection) (sym is) (refused_missing ws selection (right_is right) (answered_is each) missing))

  pub nothing_refused : Right → Answered → (LacksFeature ws selection → ⊥) → (fault : FeatureFault) → Refuses ws selection fault → ⊥
  nothing_refused right each complete = none_refused ws selection (right_is right) (answered_is each) complete
