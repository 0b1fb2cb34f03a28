-- Which units of a plan a command speaks of.
use Rattle.std.proofs.Common.{◌≡◌, ◌⊎◌, inl, inr, ℕ, Bool, true, false, cond, codes, is_some, List, ◌++◌, Contains, Option, Some, None, refl, sym, ◌∙◌, ap, subst, slice_get}
use Rattle.pb_graph.proofs.Membership.{head}
use Rattle.pb_manifest_types.specs.Letters.{underscored}
use Rattle.pb_workspace_types.specs.declared.package.DependencyKind.{DependencyKind}
use Rattle.pb_workspace_types.specs.declared.package.DependencyKind.TheVariants.{Normal, Build}
use Rattle.pb_workspace_types.specs.declared.package.Entry.{Entry}
use Rattle.pb_workspace_types.specs.declared.package.Library.{Library}
use Rattle.pb_workspace_types.specs.declared.package.Package.{Package}
use Rattle.pb_workspace_types.specs.declared.package.Side.{Side}
use Rattle.pb_workspace_types.specs.declared.package.Side.TheVariants.{Host}
use Rattle.pb_place_types.specs.Paths.{below}
use Rattle.pb_command_types.specs.Targets.{unit_at, library_in, library_name, crate_name, file_in, file_by, is_library, is_script, is_run, needed, own_run, file_at, file_there, library_file, script_file}
use Rattle.pb_command_types.specs.declared.project.Project.{Project}
use Rattle.pb_unit.specs.Plan.{profile_folder}
use Rattle.pb_unit.specs.Units.{unit, key_of, role_of, has_library, has_script, is_build, entries_of, needs_of}
use Rattle.pb_unit.specs.declared.plan.Planned.{Planned}
use Rattle.pb_unit.specs.declared.unit.Unit.{Unit as OfPlan}
use Rattle.pb_unit.specs.declared.unit.What.{What}
use Rattle.pb_unit.specs.declared.unit.What.TheVariants.{Lib, Bin, Script, Run}
use Rattle.pb_command_laws.specs.Compiles.{hears}
use Rattle.pb_command_laws.specs.Libraries.{crate_at, IsCalled, IsLibrary}
use Rattle.pb_command_laws.specs.Planned.{StandsInPlan, folder_of, IsLibraryOf, IsWanted, LibrariesAreWanted, IsRunOf, HearsOwnRun, CompilesHearRuns, RunsStartScripts}
use Rattle.pb_command_laws.proofs.Pairs.{all_at}
use Rattle.pb_command_laws.proofs.Wanting.{library_need, run_need, run_needed, script_need, library_needed, own_needed, found_is, is_found, none_found}

library_is : (what : What) → is_library what ≡ true → what ≡ Lib
library_is Lib is = refl
library_is _ is = absurd (cc)

run_is : (what : What) → is_run what ≡ true → what ≡ Run
run_is Run is = refl
run_is _ is = absurd (cc)

kind_is : (what : What) → hears what ≡ true → (what ≡ Lib) ⊎ ((name : List ℕ) × (what ≡ Bin name))
kind_is Lib is = inl refl
kind_is (Bin name) is = inr (name, refl)
kind_is Script is = absurd (cc)
kind_is Run is = absurd (cc)

role_is : (u : OfPlan) → role_of u ≡ cond (is_script u.what) Host u.side
role_is u = by u.what
  where
    by : (what : What) → role_of (record u { what = what }) ≡ cond (is_script what) Host u.side
    by Lib = refl
    by (Bin name) = refl
    by Script = refl
    by Run = refl

sort_is : (kind : DependencyKind) (script : Bool) → is_build kind ≡ script → kind ≡ cond script Build Normal
sort_is Normal true is = absurd (cc)
sort_is Normal false is = refl
sort_is Build true is = refl
sort_is Build false is = absurd (cc)

is_sort : (kind : DependencyKind) (script : Bool) → kind ≡ cond script Build Normal → is_build kind ≡ script
is_sort kind true is = ap is_build is
is_sort kind false is = ap is_build is

called_is : (project : Project) (entry : Entry) (name : List ℕ) → IsCalled project entry name → cond entry.renamed (underscored entry.key) (crate_at project entry.to) ≡ name
called_is project entry _ (IsCalled.renamed is) = ap (λ r. cond r (underscored entry.key) (crate_at project entry.to)) is
called_is project entry _ (IsCalled.itself is) = ap (λ r. cond r (underscored entry.key) (crate_at project entry.to)) is

is_called : (project : Project) (entry : Entry) (crate : List ℕ) → crate_at project entry.to ≡ crate → IsCalled project entry (cond entry.renamed (underscored entry.key) crate)
is_called project entry crate same = by entry.renamed refl
  where
    by : (r : Bool) → entry.renamed ≡ r → IsCalled project entry (cond r (underscored entry.key) crate)
    by true is = IsCalled.renamed is
    by false is = subst (IsCalled project entry) same (IsCalled.itself is)

module _ (project : Project) (u : Planned) (p : Package) (stands : StandsInPlan project u p) where
  abbrev side : Side
  side = cond (is_script u.unit.what) Host u.unit.side

  out_is : (k : ℕ) (v : Planned) → unit_at project k ≡ Some v → v.out ≡ folder_of project v.unit
  out_is k v at =
      all_at (λ (x : Planned). x.out ≡ below (profile_folder project.workspace project.profile) x.key) project.plan.planned k v stands.planned.folders at
      ∙ ap (below (profile_folder project.workspace project.profile)) (all_at (λ (x : Planned). x.key ≡ key_of project.workspace x.unit) project.plan.planned k v stands.planned.keys at)

  -- the library of the package at an index, as the unit needs it
  record IsNeeded (owner : ℕ) (file : Option (List ℕ)) : Type 0 where
    made : has_library (slice_get project.workspace.packages owner) ≡ true
    file_is : file ≡ file_in (folder_of project (unit owner side Lib)) (codes "lib" ++ crate_at project owner ++ codes ".rlib")

  at_need : (owner k : ℕ) → is_run u.unit.what ≡ false → needed is_library project u owner ≡ Some k → IsNeeded owner (library_file project u owner)
  at_need owner k compiles is =
      let (v, at, passes, owner_is, need) = found_is project stands.selection stands.planned stands.index u stands.there is_library owner k is in
      let of = library_need project.workspace project.features u.unit.package u.unit.side u.unit.what v.unit compiles need passes in
      let what_is = library_is v.unit.what passes in
      let same : v.unit ≡ unit owner side Lib = λ i. record { «package» = owner_is i; side = of.side_is i; what = what_is i } in
      let out : v.out ≡ folder_of project (unit owner side Lib) = out_is k v at ∙ ap (folder_of project) same in
      record {
        made = ap (λ o. has_library (slice_get project.workspace.packages o)) (sym owner_is) ∙ of.made;
        file_is =
            ap (file_at project) is ∙ ap (file_there project) at
            ∙ (λ i. file_by (what_is i) (out i) (crate_name (library_in (slice_get project.workspace.packages (owner_is i))) (what_is i)));
      }

  library_from : (owner : ℕ) (file : List ℕ) → is_run u.unit.what ≡ false → library_file project u owner ≡ Some file → IsLibraryOf project owner side (crate_at project owner) file
  library_from owner file compiles is = by (needed is_library project u owner) refl
    where
      of_library : (q : Package) (l : Option Library) → q.library ≡ l → slice_get project.workspace.packages owner ≡ Some q → is_some l ≡ true
          → file_in (folder_of project (unit owner side Lib)) (codes "lib" ++ crate_at project owner ++ codes ".rlib") ≡ Some file → IsLibraryOf project owner side (crate_at project owner) file
      of_library q None made there has found = absurd (cc)
      of_library q (Some l) made there has found = record {
        owner = q;
        library = l;
        package_at = there;
        made = made;
        crate_is = ap (λ x. library_name (library_in x)) there ∙ ap library_name made;
        file_is = found;
      }

      of_package : (o : Option Package) → slice_get project.workspace.packages owner ≡ o → has_library o ≡ true
          → file_in (folder_of project (unit owner side Lib)) (codes "lib" ++ crate_at project owner ++ codes ".rlib") ≡ Some file → IsLibraryOf project owner side (crate_at project owner) file
      of_package None there has found = absurd (cc)
      of_package (Some q) there has found = of_library q q.library refl there has found

      by : (r : Option ℕ) → needed is_library project u owner ≡ r → IsLibraryOf project owner side (crate_at project owner) file
      by None none = let wrong : None ≡ Some file = ap (file_at project) (sym none) ∙ is in absurd (cc)
      by (Some k) some =
          let at = at_need owner k compiles some in
          of_package (slice_get project.workspace.packages owner) refl at.made (sym at.file_is ∙ is)

  has_one : (owner : ℕ) (s : Side) (crate file : List ℕ) → IsLibraryOf project owner s crate file → has_library (slice_get project.workspace.packages owner) ≡ true
  has_one owner s crate file of = ap has_library of.package_at ∙ ap is_some of.made

  crate_so : (owner : ℕ) (s : Side) (crate file : List ℕ) → IsLibraryOf project owner s crate file → crate_at project owner ≡ crate
  crate_so owner s crate file of = ap (λ x. library_name (library_in x)) of.package_at ∙ ap library_name of.made ∙ sym of.crate_is

  library_to : (owner : ℕ) (crate file : List ℕ) → is_run u.unit.what ≡ false → IsLibraryOf project owner side crate file
      → Contains (needs_of project.workspace project.features u.unit.package u.unit.side u.unit.what) (unit owner side Lib) → library_file project u owner ≡ Some file
  library_to owner crate file compiles of need =
      let (k, is) = is_found project stands.selection stands.planned stands.index u stands.there is_library (unit owner side Lib) need refl in
      (at_need owner k compiles is).file_is
      ∙ ap (λ c. file_in (folder_of project (unit owner side Lib)) (codes "lib" ++ c ++ codes ".rlib")) (crate_so owner side crate file of) ∙ of.file_is

  -- ---- the libraries

  side_of_binary : (binary : List ℕ) → u.unit.what ≡ Bin binary → side ≡ u.unit.side
  side_of_binary binary is = ap (λ what. cond (is_script what) Host u.unit.side) is

  wants : (name file : List ℕ) → is_run u.unit.what ≡ false → IsLibrary project u p name file → IsWanted project u p name file
  unfolding underscored
  wants _ _ compiles (IsLibrary.by_entry n entry name file at enabled kind called found) =
      subst (λ (x : List ℕ). IsWanted project u p x file) (called_is project entry name called) (IsWanted.by_entry n entry (crate_at project entry.to) file at enabled (sort_is entry.kind (is_script u.unit.what) kind)
      (subst (λ s. IsLibraryOf project entry.to s (crate_at project entry.to) file) (sym (role_is u.unit)) (library_from entry.to file compiles found)))
  wants _ _ compiles (IsLibrary.own binary file is found) =
      IsWanted.own binary (crate_at project u.unit.package) file is
      (subst (λ s. IsLibraryOf project u.unit.package s (crate_at project u.unit.package) file) (side_of_binary binary is) (library_from u.unit.package file compiles found))

  gives : (name file : List ℕ) → is_run u.unit.what ≡ false → IsWanted project u p name file → IsLibrary project u p name file
  unfolding underscored
  gives _ _ compiles (IsWanted.by_entry n entry crate file at enabled sort there) =
      let of = subst (λ s. IsLibraryOf project entry.to s crate file) (role_is u.unit) there in
      let kind = is_sort entry.kind (is_script u.unit.what) sort in
      IsLibrary.by_entry n entry (cond entry.renamed (underscored entry.key) crate) file at enabled kind (is_called project entry crate (crate_so entry.to side crate file of))
      (library_to entry.to crate file compiles of
      (library_needed project.workspace project.features u.unit.package u.unit.side u.unit.what n entry compiles (ap (λ o. slice_get (entries_of o) n) stands.owner ∙ at) enabled kind (has_one entry.to side crate file of)))
  gives _ _ compiles (IsWanted.own binary crate file is of) =
      let here = subst (λ s. IsLibraryOf project u.unit.package s crate file) (sym (side_of_binary binary is)) of in
      subst (λ (x : List ℕ). IsLibrary project u p x file) (crate_so u.unit.package side crate file here)
      (IsLibrary.own binary file is
      (library_to u.unit.package crate file compiles here
      (subst (λ what. Contains (needs_of project.workspace project.features u.unit.package u.unit.side what) (unit u.unit.package (cond (is_script what) Host u.unit.side) Lib)) (sym is)
      (own_needed project.workspace project.features u.unit.package u.unit.side binary (has_one u.unit.package side crate file here)))))

  -- ---- the run of its package

  hears_own : hears u.unit.what ≡ true → HearsOwnRun project u p
  hears_own kind = record { some = some; none = none }
    where
      some : is_some p.script ≡ true → (index : ℕ) × (own_run project u ≡ Some index) × IsRunOf project u.unit.package u.unit.side index
      some has =
          let need = run_needed project.workspace project.features u.unit.package u.unit.side u.unit.what (kind_is u.unit.what kind) (ap has_script stands.owner ∙ has) in
          let (k, is) = is_found project stands.selection stands.planned stands.index u stands.there is_run (unit u.unit.package u.unit.side Run) need refl in
          let (v, at, passes, owner_is, among) = found_is project stands.selection stands.planned stands.index u stands.there is_run u.unit.package k is in
          let own = run_need project.workspace project.features u.unit.package u.unit.side u.unit.what v.unit (kind_is u.unit.what kind) among passes in
          (k, is, record { run = v; there = at; is = own.is })

      none : is_some p.script ≡ false → own_run project u ≡ None
      none has = none_found project stands.selection stands.planned stands.index u stands.there is_run u.unit.package (λ v among passes.
          let own = run_need project.workspace project.features u.unit.package u.unit.side u.unit.what v (kind_is u.unit.what kind) among passes in
          let wrong : is_some p.script ≡ true = ap has_script (sym stands.owner) ∙ own.made in
          absurd (cc))

  -- ---- the script of a run

  starts : is_run u.unit.what ≡ true → script_file project u ≡ Some (below (folder_of project (unit u.unit.package u.unit.side Script)) (codes "build_script_build"))
  starts runs =
      let what_is = run_is u.unit.what runs in
      let need : Contains (needs_of project.workspace project.features u.unit.package u.unit.side u.unit.what) (unit u.unit.package u.unit.side Script) =
      subst (λ what. Contains (needs_of project.workspace project.features u.unit.package u.unit.side what) (unit u.unit.package u.unit.side Script)) (sym what_is) (head (unit u.unit.package u.unit.side Script) _) in
      let (k, is) = is_found project stands.selection stands.planned stands.index u stands.there is_script (unit u.unit.package u.unit.side Script) need refl in
      let (v, at, passes, owner_is, among) = found_is project stands.selection stands.planned stands.index u stands.there is_script u.unit.package k is in
      let same : v.unit ≡ unit u.unit.package u.unit.side Script =
      script_need project.workspace project.features u.unit.package u.unit.side v.unit (subst (λ what. Contains (needs_of project.workspace project.features u.unit.package u.unit.side what) v.unit) what_is among) passes in
      let out : v.out ≡ folder_of project (unit u.unit.package u.unit.side Script) = out_is k v at ∙ ap (folder_of project) same in
      ap (file_at project) is ∙ ap (file_there project) at
      ∙ (λ i. file_by (same i).what (out i) (crate_name (library_in (slice_get project.workspace.packages (same i).package)) (same i).what))

pub libraries_are_wanted : LibrariesAreWanted
libraries_are_wanted project u p stands compiles name file = (wants project u p stands name file compiles, gives project u p stands name file compiles)

pub compiles_hear_runs : CompilesHearRuns
compiles_hear_runs project u p stands kind = hears_own project u p stands kind

pub runs_start_scripts : RunsStartScripts
runs_start_scripts project u p stands runs = starts project u p stands runs
