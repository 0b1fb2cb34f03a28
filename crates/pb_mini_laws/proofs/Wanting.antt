-- The folders to which the entries of a package lead have normalised absolute paths.
use Rattle.std.proofs.Common.{◌≡◌, Bool, true, false, cond, List, [], ◌∷◌, Option, Some, None, IfSome, Result, Ok, ℕ, subst}
use Rattle.std.specs.List.{AllByRecursion, find}
use Rattle.std.specs.Str.{bytes_eq}
use Rattle.pb_data.specs.UnlessOom.{◌>>=◌, some_or}
use Rattle.pb_manifest.specs.Promises.{IsDependency, IsSharedDependency, IsSharedSource, IsSource}
use Rattle.pb_manifest_types.specs.declared.dependency.Dependency.{Dependency}
use Rattle.pb_manifest_types.specs.declared.dependency.Source.{Source}
use Rattle.pb_manifest_types.specs.declared.dependency.Source.TheVariants.{Path, Workspace}
use Rattle.pb_manifest_types.specs.declared.dependency.WorkspaceDependency.{WorkspaceDependency}
use Rattle.pb_manifest_types.specs.declared.dependency.WorkspaceSource.{WorkspaceSource}
use Rattle.pb_manifest_types.specs.declared.dependency.WorkspaceSource.TheVariants as shared
use Rattle.pb_workspace_types.specs.declared.fault.LoadFault.{LoadFault}
use Rattle.pb_workspace_types.specs.declared.fault.LoadFault.TheVariants.{NoInherited}
use Rattle.pb_workspace_types.specs.declared.package.DependencyKind.{DependencyKind}
use Rattle.pb_place_types.specs.Paths.{is_path}
use Rattle.pb_workspace_package.specs.Wanted.{each_wanted, shared_at, taken_from, wanted_by, wanted_of}
use Rattle.pb_workspace_package.specs.declared.wanted.Wanted.{Wanted}
use Rattle.pb_workspace.proofs.FoldersPut.{opened}
use Rattle.pb_mini_laws.proofs.PathsSaid.{resolved_is}

abbrev pub IsLed : Wanted → Type 0
IsLed w = is_path w.folder ≡ true

same_ok : {A E : Type 0} (x y : A) → ◌≡◌ {A = Result A E} (Ok x) (Ok y) → x ≡ y
same_ok x y e = cc

-- what is found holds what all hold
found_holds : {A : Type 0} (Q : A → Type 0) (test : A → Bool) (xs : List A) → AllByRecursion Q xs → IfSome (find test xs) Q
found_holds Q test [] all = tt
found_holds Q test (x ∷ xs) all = by (test x) (found_holds Q test xs all.1)
  where
    by : (b : Bool) → IfSome (find test xs) Q → IfSome (cond b (Some x) (find test xs)) Q
    by true rest = all.0
    by false rest = rest

module _ (root folder manifest : List ℕ) (given : List WorkspaceDependency) (above : is_path root ≡ true) (is : is_path folder ≡ true) (promised : AllByRecursion IsSharedDependency given) (kind : DependencyKind) where
  taken_led : (d : Dependency) (default : Bool) (s : WorkspaceDependency) (source : WorkspaceSource) (w : Wanted) → IsSharedSource source → taken_from root manifest kind d default s source ≡ Ok w → IsLed w
  taken_led d default s (shared.Path source) w clean made = subst IsLed (same_ok {E = LoadFault} _ w made) (resolved_is root source.path above clean)
  taken_led d default s shared.Unsupported w clean made = cc

  one_led : (d : Dependency) (source : Source) (w : Wanted) → IsSource source → wanted_by root folder manifest given kind d source ≡ Ok w → IsLed w
  one_led d (Path source) w clean made = subst IsLed (same_ok {E = LoadFault} _ w made) (resolved_is folder source.path is clean)
  one_led d (Workspace default) w clean made = by (shared_at d.key given) (found_holds IsSharedDependency (λ s. bytes_eq d.key s.key) given promised) made
    where
      by : (found : Option WorkspaceDependency) → IfSome found IsSharedDependency → (some_or NoInherited found >>= (λ s. taken_from root manifest kind d default s s.source)) ≡ Ok w → IsLed w
      by None so h = cc
      by (Some s) so h = taken_led d default s s.source w so.source h

  pub all_led : (ds : List Dependency) (ws : List Wanted) → AllByRecursion IsDependency ds → each_wanted (wanted_of root folder manifest given kind) ds ≡ Ok ws → AllByRecursion IsLed ws
  all_led [] ws all made = subst (AllByRecursion IsLed) (same_ok {E = LoadFault} [] ws made) tt
  all_led (d ∷ ds) ws all made =
      let (w, one, rest) = opened (wanted_of root folder manifest given kind d) (λ w. each_wanted (wanted_of root folder manifest given kind) ds >>= (λ ws. Ok (w ∷ ws))) ws made in
      let (more, others, end) = opened (each_wanted (wanted_of root folder manifest given kind) ds) (λ ws. Ok (w ∷ ws)) ws rest in
      subst (AllByRecursion IsLed) (same_ok {E = LoadFault} (w ∷ more) ws end) (one_led d d.source w all.0.source one, all_led ds more all.1 others)
