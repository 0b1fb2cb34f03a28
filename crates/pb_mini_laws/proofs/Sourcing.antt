-- The source of a unit that is compiled has a normalised absolute path, and so has the output folder of each unit.
use Rattle.std.proofs.Common.{◌≡◌, ◌∙◌, ◌&&◌, ◌⊎◌, inl, inr, ℕ, Bool, true, false, cond, if◌then◌else◌, is_some, List, [], ◌∷◌, ◌++◌, Contains, Option, Some, None, IfSome, refl, sym, ap, subst, slice_get}
use Rattle.std.specs.List.{AllByRecursion, find, list_all}
use Rattle.std.proofs.lemmas.Bool.{false≢true}
use Rattle.std.specs.Str.{bytes_eq}
use Rattle.std.proofs.lemmas.List.Elements.{Contains-append_cases}
use Rattle.std.proofs.lemmas.Slice.Eq.{bytes_eq-Decides}
use Rattle.pb_graph.proofs.Membership.{none, single, cases}
use Rattle.pb_graph.proofs.Placed.{placed_from, where_true}
use Rattle.pb_feature_types.specs.Features.{is_enabled}
use Rattle.pb_feature_types.specs.declared.features.Features.{Features}
use Rattle.pb_graph.proofs.Elements.{contains_from_at, contains_map}
use Rattle.pb_workspace_types.specs.declared.options.Selection.{Selection}
use Rattle.pb_workspace_types.specs.declared.package.Binary.{Binary}
use Rattle.pb_workspace_types.specs.declared.package.Library.{Library}
use Rattle.pb_workspace_types.specs.declared.package.Package.{Package}
use Rattle.pb_workspace_types.specs.declared.package.Side.{Side}
use Rattle.pb_workspace_types.specs.declared.package.Side.TheVariants.{Host}
use Rattle.pb_workspace_types.specs.declared.workspace.Workspace.{Workspace}
use Rattle.pb_place_types.specs.Paths.{is_name, is_relative}
use Rattle.pb_place_types.proofs.TakenApart.{parts_lone}
use Rattle.pb_command_types.specs.Targets.{binary_named, binary_source, is_run, library_source, package_of, script_source, source_by}
use Rattle.pb_command_types.specs.declared.project.Project.{Project}
use Rattle.pb_unit.specs.Laws.{TellsWhat}
use Rattle.pb_unit.specs.Plan.{IsPlan}
use Rattle.pb_unit.specs.Units.{binary, direct, has_library, has_script, hands_on, is_build, is_normal, IsPlanned, IsRoot, libraries, library, library_by, needs_of, onward, own_library, own_run, Reaches, run_by, runs, tool_by, tools, unit}
use Rattle.pb_unit.specs.declared.plan.Planned.{Planned}
use Rattle.pb_unit.specs.declared.unit.Unit.{Unit}
use Rattle.pb_unit.specs.declared.unit.What.{What}
use Rattle.pb_unit.specs.declared.unit.What.TheVariants.{Lib, Bin, Script, Run}
use Rattle.pb_mini_laws.proofs.Loading.{HasSources}
use Rattle.pb_mini_laws.proofs.SourcesFound.{At, IsSourced}

-- the binary of a name is among those of a package
record HasBinary (name : List ℕ) (o : Option Package) : Type 0 where
  owner : Package
  there : o ≡ Some owner
  made : Binary
  among : Contains owner.binaries made
  named : made.name ≡ name

-- a package has what a unit makes of it
abbrev HasWhat : What → Option Package → Type 0
HasWhat Lib o = has_library o ≡ true
HasWhat (Bin name) o = HasBinary name o
HasWhat Script o = has_script o ≡ true
HasWhat Run o = has_script o ≡ true

last_of_three : (a b c : Bool) → a && b && c ≡ true → c ≡ true
last_of_three true true c h = h
last_of_three true false c h = cc
last_of_three false b c h = cc

handing : (o : Option Package) → hands_on o ≡ true → has_script o ≡ true
handing None h = h
handing (Some p) h = last_of_three (is_some p.library) (is_some p.links) (is_some p.script) h

module _ (ws : Workspace) (features : Features) where
  abbrev Has : Unit → Type 0
  Has u = HasWhat u.what (slice_get ws.packages u.package)

  -- what stands under a test
  under : (b : Bool) (x v : Unit) → (b ≡ true → Has x) → Contains (if b then x ∷ [] else []) v → Has v
  under b x v gives is =
      let (on, has) = where_true b (x ∷ []) v is in
      subst Has (single x v has) (gives on)

  libraries_have : (p : ℕ) (s : Side) (v : Unit) → Contains (libraries ws features p s) v → Has v
  libraries_have p s v is =
      let (n, e, at, has) = placed_from (library_by ws features p s) _ v is in
      under _ (unit e.to s Lib) v (λ on. last_of_three (is_enabled features p s n) (is_normal e.kind) (has_library (slice_get ws.packages e.to)) on) has

  tools_have : (p : ℕ) (s : Side) (v : Unit) → Contains (tools ws features p s) v → Has v
  tools_have p s v is =
      let (n, e, at, has) = placed_from (tool_by ws features p s) _ v is in
      under _ (unit e.to Host Lib) v (λ on. last_of_three (is_enabled features p s n) (is_build e.kind) (has_library (slice_get ws.packages e.to)) on) has

  runs_have : (p : ℕ) (s : Side) (v : Unit) → Contains (runs ws features p s) v → Has v
  runs_have p s v is =
      let (n, e, at, has) = placed_from (run_by ws features p s) _ v is in
      under _ (unit e.to s Run) v (λ on. handing (slice_get ws.packages e.to) (last_of_three (is_enabled features p s n) (is_normal e.kind) (hands_on (slice_get ws.packages e.to)) on)) has

  lib_has : (p : ℕ) (s : Side) (v : Unit) → Contains (libraries ws features p s ++ own_run ws p s) v → Has v
  lib_has p s v is = elim (Contains-append_cases (libraries ws features p s) (own_run ws p s) v is) [
    | inl libs ↦ libraries_have p s v libs
    | inr run ↦ under _ (unit p s Run) v (λ on. on) run
  ]

  needs_of_have : (p : ℕ) (s : Side) (w : What) (v : Unit) → HasWhat w (slice_get ws.packages p) → Contains (needs_of ws features p s w) v → Has v
  needs_of_have p s Lib v owns is = lib_has p s v is
  needs_of_have p s (Bin name) v owns is = elim (Contains-append_cases (own_library ws p s) (libraries ws features p s ++ own_run ws p s) v is) [
    | inl own ↦ under _ (unit p s Lib) v (λ on. on) own
    | inr more ↦ lib_has p s v more
  ]
  needs_of_have p s Script v owns is = tools_have p s v is
  needs_of_have p s Run v owns is = elim (Contains-append_cases (unit p s Script ∷ []) (runs ws features p s) v is) [
    | inl script ↦ subst Has (single (unit p s Script) v script) owns
    | inr more ↦ runs_have p s v more
  ]

  reached_has : (u v : Unit) → Has u → Reaches ws features u v → Has v
  reached_has u v has (direct _ _ need) = needs_of_have u.package u.side u.what v has need
  reached_has u v has (onward _ w _ need more) = reached_has w v (needs_of_have u.package u.side u.what w has need) more

  root_has : (selection : Selection) (u : Unit) → IsRoot ws features selection u → Has u
  root_has selection u (library p selected asked there) = there
  root_has selection u (binary p owner made selected at there asked on) = record { owner = owner; there = at; made = made; among = there; named = refl }

  planned_has : (selection : Selection) (u : Unit) → IsPlanned ws features selection u → Has u
  planned_has selection u (inl first) = root_has selection u first
  planned_has selection u (inr (r, first, reaches)) = reached_has r u (root_has selection r first) reaches

-- the source of what a package has
library_source_at : (o : Option Library) → is_some o ≡ true → IfSome o (λ (l : Library). At l.source) → At (library_source o)
library_source_at None some at = cc
library_source_at (Some l) some at = at

script_source_at : (o : Option (List ℕ)) → is_some o ≡ true → IfSome o At → At (script_source o)
script_source_at None some at = cc
script_source_at (Some path) some at = at

named_at : (bs : List Binary) (made : Binary) → AllByRecursion IsSourced bs → Contains bs made → At (binary_source (binary_named made.name bs))
named_at [] made all is = absurd (none made is)
named_at (b ∷ bs) made all is = by (bytes_eq made.name b.name) refl (cases b bs made is) (λ there. named_at bs made all.1 there)
  where
    by : (t : Bool) → bytes_eq made.name b.name ≡ t → (b ≡ made) ⊎ Contains bs made → (Contains bs made → At (binary_source (binary_named made.name bs)))
        → At (binary_source (cond t (Some b) (find (λ (binary : Binary). bytes_eq made.name binary.name) bs)))
    by true at index later = all.0
    by false at (inl here) later = absurd (false≢true (sym at ∙ (bytes_eq-Decides made.name b.name).1 (ap (λ (x : Binary). x.name) (sym here))))
    by false at (inr there) later = later there

source_at : (p : Package) (w : What) → HasSources p → HasWhat w (Some p) → is_run w ≡ false → At (source_by p w)
source_at p Lib sourced has compiles = library_source_at p.library has sourced.library
source_at p (Bin name) sourced has compiles =
    let same : has.owner ≡ p = injective (sym has.there) in
    subst (λ n. At (binary_source (binary_named n p.binaries))) has.named (named_at p.binaries has.made sourced.binaries (subst (λ (q : Package). Contains q.binaries has.made) same has.among))
  where
    injective : {x y : Package} → Some x ≡ Some y → x ≡ y
    injective e = cc
source_at p Script sourced has compiles = script_source_at p.script has sourced.script
source_at p Run sourced has compiles = cc

module _ (project : Project) (selection : Selection) (is : IsPlan project.workspace project.features selection project.profile project.plan) (sourced : (p : Package) → Contains project.workspace.packages p → HasSources p) where
  pub unit_source : (index : ℕ) (u : Planned) → slice_get project.plan.planned index ≡ Some u → is_run u.unit.what ≡ false → IfSome (package_of project u) (λ p. At (source_by p u.unit.what))
  unit_source index u at compiles = by (package_of project u) refl (planned_has project.workspace project.features selection u.unit planned)
    where
      planned : IsPlanned project.workspace project.features selection u.unit
      planned = (is.units u.unit).0 (contains_map (λ (q : Planned). q.unit) project.plan.planned u (contains_from_at project.plan.planned index u at))

      by : (o : Option Package) → package_of project u ≡ o → HasWhat u.unit.what o → IfSome o (λ p. At (source_by p u.unit.what))
      by None there has = tt
      by (Some p) there has = source_at p u.unit.what (sourced p (contains_from_at project.workspace.packages u.unit.package p there)) has compiles

-- the folder of a unit
pub key_relative : (u : Planned) → TellsWhat u → is_relative u.key ≡ true
key_relative u tells = ap (list_all is_name) (parts_lone u.key tells.flat) ∙ ap (λ b. b && true) tells.name
