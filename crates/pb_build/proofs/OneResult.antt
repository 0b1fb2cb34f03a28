-- A world has one result alone.
use Rattle.std.proofs.Common.{◌≡◌, ◌∙◌, ◌⊎◌, inl, inr, ℕ, List, map, Some, None, Ok, Err, refl, sym, ap, subst}
use Rattle.std.specs.Cmp.Lexicographic.{slice_cmp}
use Rattle.std.specs.FinMap.{slice_cmp-IsAntisymmetric, nat_cmp-IsAntisymmetric}
use Rattle.std.specs.List.{IsDistinct}
use Rattle.std.specs.Ordering.{nat_cmp, is_lt, ordering_reverse}
use Rattle.std.specs.Str.{bytes_eq}
use Rattle.std.specs.declared.cmp.Ordering.{Ordering}
use Rattle.std.specs.declared.cmp.Ordering.TheVariants.{Less, Equal, Greater}
use Rattle.std.proofs.lemmas.Cmp.{nat_list_cmp_total}
use Rattle.pb_feature.specs.Faults as feature
use Rattle.pb_feature.specs.Faults.{IsFirstFault, package_fault, by_item, by_asked, by_missing}
use Rattle.pb_feature.specs.declared.fault.FeatureFault.{FeatureFault}
use Rattle.pb_feature.specs.Resolved.{IsResolved}
use Rattle.pb_feature_types.specs.Features.{features_at, is_enabled}
use Rattle.pb_feature_types.specs.declared.features.Features.{Features}
use Rattle.pb_command_types.specs.declared.project.Project.{Project}
use Rattle.pb_command_types.specs.declared.project.Setup.{Setup}
use Rattle.pb_place_types.specs.World.{World, Answers, from_nothing}
use Rattle.pb_build_result.specs.declared.fault.Refusal.{Refusal}
use Rattle.pb_build_result.specs.declared.fault.Refusal.TheVariants as refusal
use Rattle.pb_unit.specs.Plan as plan
use Rattle.pb_unit.specs.declared.fault.PlanFault.{PlanFault}
use Rattle.pb_unit.specs.declared.plan.Plan.{Plan}
use Rattle.pb_workspace.specs.Loaded.{workspace_of}
use Rattle.pb_workspace.specs.Selected.{selected}
use Rattle.pb_workspace_types.specs.declared.fault.LoadFault.{LoadFault}
use Rattle.pb_workspace_types.specs.declared.options.Options.{Options}
use Rattle.pb_workspace_types.specs.declared.options.Selection.{Selection}
use Rattle.pb_workspace_types.specs.declared.package.Side.{Side}
use Rattle.pb_workspace_types.specs.declared.package.Package.{Package}
use Rattle.pb_workspace_types.specs.declared.workspace.Workspace.{Workspace}
use Rattle.pb_build.specs.Environment.{environment_of}
use Rattle.pb_build.specs.Laws.{SameResults, HasOneResult}
use Rattle.pb_build.specs.Planning as planning
use Rattle.pb_build.specs.Planning.{IsFeatured, IsProject, IsRefused}
use Rattle.pb_build.specs.Private.{HasNoProject, by_selection, by_feature, by_plan}
use Rattle.pb_build.specs.Result.{BuildResult, Comes, refused, no_toolchain, finished, toolchain_of, setup_of}
use Rattle.pb_build_turns.specs.Rows.{rows_of}
use Rattle.pb_build.specs.declared.environment.Environment.{Environment}
use Rattle.pb_workspace.proofs.Accepted.{names_apart}
use Rattle.pb_build.proofs.Naming.{one_package}
use Rattle.pb_build.proofs.Reasons.{enabled_same, names_same, refuses_too, plan_refused_once, plan_is_there}
use Rattle.pb_build.proofs.SameOutcomes.{rows_same}
use Rattle.pb_build.proofs.SamePlan.{plan_too, plans_same}

-- a package that has a fault, and has none
faultless : (p : Package) (fault : FeatureFault) → package_fault p ≡ Some fault → package_fault p ≡ None → ⊥
faultless p fault told none = let no : Some fault ≡ None = sym told ∙ none in cc

module _ (ws : Workspace) (apart : IsDistinct bytes_eq (map (λ (p : Package). p.name) ws.packages)) where
  -- the first faulty package is one
  one_faulty : (a b : FeatureFault) (one : IsFirstFault ws a) (other : IsFirstFault ws b) (o : Ordering) → slice_cmp nat_cmp one.owner.name other.owner.name ≡ o → a ≡ b
  one_faulty a b one other Less order = absurd (faultless one.owner a one.told (other.first one.pkg one.owner one.package_at (ap is_lt order)))
  one_faulty a b one other Greater order =
      let turned : slice_cmp nat_cmp other.owner.name one.owner.name ≡ Less = nat_list_cmp_total.antisymm other.owner.name one.owner.name ∙ ap ordering_reverse order in
      absurd (faultless other.owner b other.told (one.first other.pkg other.owner other.package_at (ap is_lt turned)))
  one_faulty a b one other Equal order =
      let names : one.owner.name ≡ other.owner.name = slice_cmp-IsAntisymmetric nat_cmp-IsAntisymmetric one.owner.name other.owner.name order in
      let owners : one.owner ≡ other.owner = one_package ws.packages apart one.pkg other.pkg one.owner other.owner one.package_at other.package_at names in
      let faults : Some a ≡ Some b = sym one.told ∙ (ap package_fault owners ∙ other.told) in
      cc

  right_item : (fault : FeatureFault) (first : IsFirstFault ws fault) → feature.ItemsAreRight ws → ⊥
  right_item fault first right = faultless first.owner fault first.told (right first.pkg first.owner first.package_at)

  pub feature_refused_once : (selection : Selection) (a b : FeatureFault) → feature.Refuses ws selection a → feature.Refuses ws selection b → a ≡ b
  feature_refused_once selection a b (by_item fault first) (by_item fault' first') = one_faulty fault fault' first first' (slice_cmp nat_cmp first.owner.name first'.owner.name) refl
  feature_refused_once selection a _ (by_item fault first) (by_asked right text asked none) = absurd (right_item fault first right)
  feature_refused_once selection a _ (by_item fault first) (by_missing right answered missing) = absurd (right_item fault first right)
  feature_refused_once selection _ b (by_asked right text asked none) (by_item fault first) = absurd (right_item fault first right)
  feature_refused_once selection _ b (by_missing right answered missing) (by_item fault first) = absurd (right_item fault first right)
  feature_refused_once selection _ _ (by_asked right text asked none) (by_asked right' text' asked' none') = refl
  feature_refused_once selection _ _ (by_asked right text asked none) (by_missing right' answered missing) = refl
  feature_refused_once selection _ _ (by_missing right answered missing) (by_asked right' text asked none) = refl
  feature_refused_once selection _ _ (by_missing right answered missing) (by_missing right' answered' missing') = refl

-- Why a workspace that was read has no project.

chosen_once : (options : Options) (ws : Workspace) (a b : Selection) → selected ws options ≡ Ok a → selected ws options ≡ Ok b → a ≡ b
chosen_once options ws a b one other = let both : Ok a ≡ Ok b = sym one ∙ other in cc

not_chosen : (options : Options) (ws : Workspace) (a : Selection) (fault : LoadFault) → selected ws options ≡ Ok a → selected ws options ≡ Err fault → ⊥
not_chosen options ws a fault one other = let both : Ok a ≡ Err fault = sym one ∙ other in cc

plan_told_once : (options : Options) (ws : Workspace) (a b : Selection) (f g : Features) (x y : PlanFault) → a ≡ b → IsFeatured ws a f → IsFeatured ws b g → plan.Refuses ws f a options.profile x → plan.Refuses ws g b options.profile y → x ≡ y
plan_told_once options ws a b f g x y same one other told told' =
    let other' : IsFeatured ws a g = subst (λ s. IsFeatured ws s g) (sym same) other in
    let again : plan.Refuses ws g a options.profile y = subst (λ s. plan.Refuses ws g s options.profile y) (sym same) told' in
    plan_refused_once ws f a options.profile x y told (refuses_too ws a g f other'.resolved one.resolved options.profile y again)

module _ (options : Options) (ws : Workspace) (apart : IsDistinct bytes_eq (map (λ (p : Package). p.name) ws.packages)) where
  no_project_once : (a b : Refusal) → HasNoProject options ws a → HasNoProject options ws b → a ≡ b
  no_project_once _ _ (by_selection fault told) (by_selection fault' told') = let both : Err fault ≡ Err fault' = sym told ∙ told' in let same : fault ≡ fault' = cc in ap refusal.Load same
  no_project_once _ _ (by_selection fault told) (by_feature fault' selection chosen told') = absurd (not_chosen options ws selection fault chosen told)
  no_project_once _ _ (by_selection fault told) (by_plan fault' selection features chosen featured told') = absurd (not_chosen options ws selection fault chosen told)
  no_project_once _ _ (by_feature fault selection chosen told) (by_selection fault' told') = absurd (not_chosen options ws selection fault' chosen told')
  no_project_once _ _ (by_feature fault selection chosen told) (by_feature fault' selection' chosen' told') =
      ap refusal.Feature (feature_refused_once ws apart selection fault fault' told (subst (λ s. feature.Refuses ws s fault') (chosen_once options ws selection' selection chosen' chosen) told'))
  no_project_once _ _ (by_feature fault selection chosen told) (by_plan fault' selection' features chosen' featured told') =
      absurd (featured.right fault (subst (λ s. feature.Refuses ws s fault) (chosen_once options ws selection selection' chosen chosen') told))
  no_project_once _ _ (by_plan fault selection features chosen featured told) (by_selection fault' told') = absurd (not_chosen options ws selection fault' chosen told')
  no_project_once _ _ (by_plan fault selection features chosen featured told) (by_feature fault' selection' chosen' told') =
      absurd (featured.right fault' (subst (λ s. feature.Refuses ws s fault') (chosen_once options ws selection' selection chosen' chosen) told'))
  no_project_once _ _ (by_plan fault selection features chosen featured told) (by_plan fault' selection' features' chosen' featured' told') =
      ap refusal.Plan (plan_told_once options ws selection selection' features features' fault fault' (chosen_once options ws selection selection' chosen chosen') featured featured' told told')

-- A refusal and a project.

has_no_project : (options : Options) (ws : Workspace) (selection : Selection) (features : Features) (drawn : Plan) (why : Refusal) → selected ws options ≡ Ok selection → IsFeatured ws selection features
    → plan.IsPlan ws features selection options.profile drawn → HasNoProject options ws why → ⊥
has_no_project options ws selection features drawn _ chosen featured planned (by_selection fault told) = not_chosen options ws selection fault chosen told
has_no_project options ws selection features drawn _ chosen featured planned (by_feature fault selection' chosen' told) =
    featured.right fault (subst (λ s. feature.Refuses ws s fault) (chosen_once options ws selection' selection chosen' chosen) told)
has_no_project options ws selection features drawn _ chosen featured planned (by_plan fault selection' features' chosen' featured' told) =
    let same = chosen_once options ws selection' selection chosen' chosen in
    let other : IsFeatured ws selection features' = subst (λ s. IsFeatured ws s features') same featured' in
    let again : plan.Refuses ws features' selection options.profile fault = subst (λ s. plan.Refuses ws features' s options.profile fault) same told in
    plan_is_there ws features selection options.profile drawn planned fault (refuses_too ws selection features' features other.resolved featured.resolved options.profile fault again)

-- Refusals of a world.

abbrev Why : Options → List ℕ → World → Refusal → Type 0
Why options target w why =
    ((fault : LoadFault) × (workspace_of options.manifest target w ≡ Err fault) × (why ≡ refusal.Load fault)) ⊎ ((ws : Workspace) × (workspace_of options.manifest target w ≡ Ok ws) × HasNoProject options ws why)

why_refused : (options : Options) (target : List ℕ) (w : World) (why : Refusal) → IsRefused options target w why → Why options target w why
why_refused options target w _ (planning.by_load fault told) = inl (fault, told, refl)
why_refused options target w _ (planning.by_selection fault ws read told) = inr (ws, read, by_selection fault told)
why_refused options target w _ (planning.by_feature fault ws selection is told) = inr (ws, is.read, by_feature fault selection is.chosen told)
why_refused options target w _ (planning.by_plan fault ws selection features is featured told) = inr (ws, is.read, by_plan fault selection features is.chosen featured told)

same_whys : (options : Options) (target : List ℕ) (w : World) (a b : Refusal) → Why options target w a → Why options target w b → a ≡ b
same_whys options target w a b (inl (fault, told, is)) (inl (fault', told', is')) =
    let both : Err fault ≡ Err fault' = sym told ∙ told' in let same : fault ≡ fault' = cc in is ∙ (ap refusal.Load same ∙ sym is')
same_whys options target w a b (inl (fault, told, is)) (inr (ws, read, none)) = let no : Err fault ≡ Ok ws = sym told ∙ read in cc
same_whys options target w a b (inr (ws, read, none)) (inl (fault, told, is)) = let no : Ok ws ≡ Err fault = sym read ∙ told in cc
same_whys options target w a b (inr (ws, read, none)) (inr (ws', read', none')) =
    let both : Ok ws' ≡ Ok ws = sym read' ∙ read in let same : ws' ≡ ws = cc in
    no_project_once options ws (names_apart options.manifest target w ws read) a b none (subst (λ x. HasNoProject options x b) same none')

pub refused_once : (options : Options) (target : List ℕ) (w : World) (a b : Refusal) → IsRefused options target w a → IsRefused options target w b → a ≡ b
refused_once options target w a b one other = same_whys options target w a b (why_refused options target w a one) (why_refused options target w b other)

pub not_refused : (options : Options) (target : List ℕ) (w : World) (project : Project) (why : Refusal) → IsProject options target w project → IsRefused options target w why → ⊥
not_refused options target w project why is refused' = by (why_refused options target w why refused')
  where
    by : Why options target w why → ⊥
    by (inl (fault, told, named)) = let no : Ok project.workspace ≡ Err fault = sym is.selected.read ∙ told in cc
    by (inr (ws, read, none)) =
        let both : Ok ws ≡ Ok project.workspace = sym read ∙ is.selected.read in let same : ws ≡ project.workspace = cc in
        has_no_project options project.workspace is.selection project.features project.plan why is.selected.chosen is.featured is.planned (subst (λ x. HasNoProject options x why) same none)

-- Two projects of a world.

pub record AreAlike (p q : Project) : Type 0 where
  pub workspace : p.workspace ≡ q.workspace
  pub plan : p.plan ≡ q.plan
  pub profile : p.profile ≡ q.profile
  pub names : (o : ℕ) (s : Side) → features_at p.features o s ≡ features_at q.features o s
  pub flags : (o : ℕ) (s : Side) (n : ℕ) → is_enabled p.features o s n ≡ is_enabled q.features o s n

alike : (options : Options) (ws ws' : Workspace) (a b : Selection) (f g : Features) (d e : Plan) (profile profile' : List ℕ) → ws ≡ ws' → a ≡ b → profile ≡ profile' → IsResolved ws a f → IsResolved ws' b g
    → plan.IsPlan ws f a options.profile d → plan.IsPlan ws' g b options.profile e → AreAlike record { workspace = ws; features = f; plan = d; profile = profile } record { workspace = ws'; features = g; plan = e; profile = profile' }
alike options ws ws' a b f g d e profile profile' same chosen profiles one other planned planned' =
    let other' : IsResolved ws a g = subst (λ s. IsResolved ws s g) (sym chosen) (subst (λ x. IsResolved x b g) (sym same) other) in
    let drawn : plan.IsPlan ws g a options.profile e = subst (λ s. plan.IsPlan ws g s options.profile e) (sym chosen) (subst (λ x. plan.IsPlan x g b options.profile e) (sym same) planned') in
    record {
      workspace = same;
      plan = plans_same ws f a options.profile d e planned (plan_too ws a options.profile f g one other' e drawn);
      profile = profiles;
      names = names_same ws a f g one other';
      flags = enabled_same ws a f g one other';
    }

pub projects_alike : (options : Options) (target : List ℕ) (w : World) (p q : Project) → IsProject options target w p → IsProject options target w q → AreAlike p q
projects_alike options target w p q is is' =
    let both : Ok p.workspace ≡ Ok q.workspace = sym is.selected.read ∙ is'.selected.read in
    let same : p.workspace ≡ q.workspace = cc in
    let chosen' : selected p.workspace options ≡ Ok is'.selection = ap (λ x. selected x options) same ∙ is'.selected.chosen in
    alike options p.workspace q.workspace is.selection is'.selection p.features q.features p.plan q.plan p.profile q.profile same (chosen_once options p.workspace is.selection is'.selection is.selected.chosen chosen')
    (is.profile ∙ sym is'.profile) is.featured.resolved is'.featured.resolved is.planned is'.planned

-- the other project is this one with other features
pub other_is : (p q : Project) → AreAlike p q → record p { features = q.features } ≡ q
other_is p q is =
    ap (λ x. record p { workspace = x; features = q.features }) is.workspace ∙ (ap (λ x. record p { workspace = q.workspace; features = q.features; plan = x }) is.plan
    ∙ ap (λ x. record { workspace = q.workspace; features = q.features; plan = q.plan; profile = x }) is.profile)

rows_alike : (child : Answers) (setup : Setup) (sources : World) (p q : Project) → AreAlike p q → rows_of child setup p sources ≡ rows_of child setup q sources
rows_alike child setup sources p q is = rows_same p q.features is.names is.flags child setup sources ∙ ap (λ x. rows_of child setup x sources) (other_is p q is)

-- Results.

module _ (child : Answers) (options : Options) (environment : Environment) (w : World) where
  sources : World
  sources = from_nothing environment.target w

  pub same_toolchain : (p q : Project) → AreAlike p q → toolchain_of child environment p (from_nothing environment.target w) ≡ toolchain_of child environment q (from_nothing environment.target w)
  same_toolchain p q is = ap (λ (ws : Workspace). toolchain_of child environment record p { workspace = ws } (from_nothing environment.target w)) is.workspace

  finished_once : (p q : Project) (t u : List ℕ) → AreAlike p q → toolchain_of child environment p (from_nothing environment.target w) ≡ Some t → toolchain_of child environment q (from_nothing environment.target w) ≡ Some u
      → rows_of child (setup_of options environment t) p (from_nothing environment.target w) ≡ rows_of child (setup_of options environment u) q (from_nothing environment.target w)
  finished_once p q t u is says says' =
      let both : Some t ≡ Some u = sym says ∙ (same_toolchain p q is ∙ says') in
      let same : t ≡ u = cc in
      ap (λ x. rows_of child (setup_of options environment x) p (from_nothing environment.target w)) same ∙ rows_alike child (setup_of options environment u) (from_nothing environment.target w) p q is

  results_same : (r s : BuildResult) → Comes child options environment w r → Comes child options environment w s → SameResults r s
  results_same _ _ (refused why is) (refused other is') = refused_once options environment.target w why other is is'
  results_same _ _ (refused why is) (no_toolchain project is' silent) = not_refused options environment.target w project why is' is
  results_same _ _ (refused why is) (finished project toolchain is' says) = not_refused options environment.target w project why is' is
  results_same _ _ (no_toolchain project is silent) (refused why is') = not_refused options environment.target w project why is is'
  results_same _ _ (no_toolchain project is silent) (no_toolchain project' is' silent') = tt
  results_same _ _ (no_toolchain p is silent) (finished q toolchain is' says) =
      let no : None ≡ Some toolchain = sym silent ∙ (same_toolchain p q (projects_alike options environment.target w p q is is') ∙ says) in cc
  results_same _ _ (finished project toolchain is says) (refused why is') = not_refused options environment.target w project why is is'
  results_same _ _ (finished p toolchain is says) (no_toolchain q is' silent) =
      let no : Some toolchain ≡ None = sym says ∙ (same_toolchain p q (projects_alike options environment.target w p q is is') ∙ silent) in cc
  results_same _ _ (finished p t is says) (finished q u is' says') =
      let both = projects_alike options environment.target w p q is is' in
      (both.workspace, both.plan, both.profile, finished_once p q t u both says says')

pub one_result : HasOneResult
one_result child options w r s one other = results_same child options (environment_of options w.variables) w r s one other
