-- What a unit of a plan needs is found in the plan.
use Rattle.std.proofs.Common.{◌≡◌, ◌⊎◌, inl, inr, ℕ, ◌&&◌, ◌==◌, Bool, true, false, cond, List, [], ◌∷◌, ◌++◌, Contains, Option, Some, None, refl, sym, ◌∙◌, ap, subst, slice_get}
use Rattle.std.proofs.lemmas.Bool.Decides.{Decides-eqb}
use Rattle.std.proofs.lemmas.List.Elements.{Contains-append_left, Contains-append_right, Contains-append_cases}
use Rattle.std.specs.List.{find}
use Rattle.pb_graph.proofs.Membership.{none, single, head, tail, cases}
use Rattle.pb_graph.proofs.Placed.{placed_to, placed_from, where_true, at_true}
use Rattle.pb_feature_types.specs.Features.{is_enabled}
use Rattle.pb_feature_types.specs.declared.features.Features.{Features}
use Rattle.pb_graph.proofs.Elements.{contains_map, map_contains, at_from_contains, contains_from_at}
use Rattle.pb_workspace_types.specs.declared.options.Selection.{Selection}
use Rattle.pb_workspace_types.specs.declared.package.DependencyKind.{DependencyKind}
use Rattle.pb_workspace_types.specs.declared.package.DependencyKind.TheVariants.{Normal, Build}
use Rattle.pb_workspace_types.specs.declared.package.Entry.{Entry}
use Rattle.pb_workspace_types.specs.declared.package.Side.{Side}
use Rattle.pb_workspace_types.specs.declared.package.Side.TheVariants.{Host}
use Rattle.pb_workspace_types.specs.declared.workspace.Workspace.{Workspace}
use Rattle.pb_command_types.specs.Targets.{unit_at, is_library, is_script, is_run, is_one_of, needed}
use Rattle.pb_command_types.specs.declared.project.Project.{Project}
use Rattle.pb_unit.specs.Plan.{AreIndices, IsPlan}
use Rattle.pb_unit.specs.Units.{unit, has_library, has_script, hands_on, entries_at, is_normal, is_build, library_by, tool_by, run_by, libraries, tools, runs, own_library, own_run, needs_of, needs, Reaches, direct, onward, IsPlanned}
use Rattle.pb_unit.specs.declared.plan.Planned.{Planned}
use Rattle.pb_unit.specs.declared.unit.Unit.{Unit as OfPlan}
use Rattle.pb_unit.specs.declared.unit.What.{What}
use Rattle.pb_unit.specs.declared.unit.What.TheVariants.{Lib, Bin, Script, Run}
use Rattle.pb_command_laws.proofs.Pairs.{all_at}

-- ---- the first that passes a test

pub find_from : {A : Type 0} (test : A → Bool) (xs : List A) (y : A) → find test xs ≡ Some y → Contains xs y × (test y ≡ true)
find_from test [] y is = absurd (cc)
find_from test (x ∷ xs) y is = by (test x) refl is (find_from test xs y)
  where
    by : (r : Bool) → test x ≡ r → cond r (Some x) (find test xs) ≡ Some y → (find test xs ≡ Some y → Contains xs y × (test y ≡ true)) → Contains (x ∷ xs) y × (test y ≡ true)
    by true passes is later = let same : x ≡ y = cc in (subst (Contains (x ∷ xs)) same (head x xs), ap test (sym same) ∙ passes)
    by false passes is later = let (among, so) = later is in (tail x xs y among, so)

pub find_to : {A : Type 0} (test : A → Bool) (xs : List A) (x : A) → Contains xs x → test x ≡ true → (y : A) × (find test xs ≡ Some y)
find_to {A = A} test [] x among passes = absurd (none x among)
find_to {A = A} test (other ∷ xs) x among passes = by (test other) refl (λ later. find_to test xs x later passes)
  where
    by : (r : Bool) → test other ≡ r → (Contains xs x → (y : A) × (find test xs ≡ Some y)) → (y : A) × (cond r (Some other) (find test xs) ≡ Some y)
    by true is later = (other, refl)
    by false is later = elim (cases other xs x among) [
      | inl same ↦ let wrong : test other ≡ true = ap test same ∙ passes in absurd (cc)
      | inr more ↦ later more
    ]

first_on : (a b : Bool) → (a && b) ≡ true → a ≡ true
first_on true b e = refl
first_on false b e = absurd (cc)

second_on : (a b : Bool) → (a && b) ≡ true → b ≡ true
second_on true b e = e
second_on false b e = absurd (cc)

-- ---- which libraries, runs and scripts a unit needs

module _ (ws : Workspace) (features : Features) where
  -- a library that is needed is of this side, and its package has one
  pub record IsLibraryNeed (side : Side) (v : OfPlan) : Type 0 where
    pub side_is : v.side ≡ side
    pub made : has_library (slice_get ws.packages v.package) ≡ true

  by_libraries : (p : ℕ) (s : Side) (v : OfPlan) → Contains (libraries ws features p s) v → IsLibraryNeed s v
  by_libraries p s v among =
      let (n, e, at, one) = placed_from (library_by ws features p s) (entries_at ws p) v among in
      let (on, there) = where_true (is_enabled features p s n && is_normal e.kind && has_library (slice_get ws.packages e.to)) (unit e.to s Lib ∷ []) v one in
      let same = single (unit e.to s Lib) v there in
      subst (IsLibraryNeed s) same (record { side_is = refl; made = second_on (is_enabled features p s n && is_normal e.kind) (has_library (slice_get ws.packages e.to)) on })

  by_tools : (p : ℕ) (s : Side) (v : OfPlan) → Contains (tools ws features p s) v → IsLibraryNeed Host v
  by_tools p s v among =
      let (n, e, at, one) = placed_from (tool_by ws features p s) (entries_at ws p) v among in
      let (on, there) = where_true (is_enabled features p s n && is_build e.kind && has_library (slice_get ws.packages e.to)) (unit e.to Host Lib ∷ []) v one in
      let same = single (unit e.to Host Lib) v there in
      subst (IsLibraryNeed Host) same (record { side_is = refl; made = second_on (is_enabled features p s n && is_build e.kind) (has_library (slice_get ws.packages e.to)) on })

  by_own_library : (p : ℕ) (s : Side) (v : OfPlan) → Contains (own_library ws p s) v → IsLibraryNeed s v
  by_own_library p s v among =
      let (on, there) = where_true (has_library (slice_get ws.packages p)) (unit p s Lib ∷ []) v among in
      let same = single (unit p s Lib) v there in
      subst (IsLibraryNeed s) same (record { side_is = refl; made = on })

  -- an own run is that of the package, which has a script
  pub record IsOwnRun (p : ℕ) (s : Side) (v : OfPlan) : Type 0 where
    pub is : v ≡ unit p s Run
    pub made : has_script (slice_get ws.packages p) ≡ true

  by_own_run : (p : ℕ) (s : Side) (v : OfPlan) → Contains (own_run ws p s) v → IsOwnRun p s v
  by_own_run p s v among =
      let (on, there) = where_true (has_script (slice_get ws.packages p)) (unit p s Run ∷ []) v among in
      record { is = sym (single (unit p s Run) v there); made = on }

  no_library : (p : ℕ) (s : Side) (v : OfPlan) → is_library v.what ≡ true → IsOwnRun p s v → ⊥
  no_library p s v is own = let wrong : is_library v.what ≡ false = ap (λ (u : OfPlan). is_library u.what) own.is in absurd (cc)

  all_libraries : (p : ℕ) (s : Side) (v : OfPlan) → Contains (libraries ws features p s) v → v.what ≡ Lib
  all_libraries p s v among =
      let (n, e, at, one) = placed_from (library_by ws features p s) (entries_at ws p) v among in
      let (on, there) = where_true (is_enabled features p s n && is_normal e.kind && has_library (slice_get ws.packages e.to)) (unit e.to s Lib ∷ []) v one in
      ap (λ (u : OfPlan). u.what) (sym (single (unit e.to s Lib) v there))

  pub library_need : (p : ℕ) (s : Side) (what : What) (v : OfPlan) → is_run what ≡ false → Contains (needs_of ws features p s what) v → is_library v.what ≡ true → IsLibraryNeed (cond (is_script what) Host s) v
  library_need p s Lib v compiles among is = elim (Contains-append_cases (libraries ws features p s) (own_run ws p s) v among) [
    | inl here ↦ by_libraries p s v here
    | inr run ↦ absurd (no_library p s v is (by_own_run p s v run))
  ]
  library_need p s (Bin name) v compiles among is = elim (Contains-append_cases (own_library ws p s) (libraries ws features p s ++ own_run ws p s) v among) [
    | inl own ↦ by_own_library p s v own
    | inr other ↦ elim (Contains-append_cases (libraries ws features p s) (own_run ws p s) v other) [
      | inl here ↦ by_libraries p s v here
      | inr run ↦ absurd (no_library p s v is (by_own_run p s v run))
    ]
  ]
  library_need p s Script v compiles among is = by_tools p s v among
  library_need p s Run v compiles among is = absurd (cc)

  -- a run that a library or a binary needs
  is_no_run : (v : OfPlan) → v.what ≡ Lib → is_run v.what ≡ true → ⊥
  is_no_run v what is = let wrong : is_run v.what ≡ false = ap is_run what in absurd (cc)

  own_library_is : (p : ℕ) (s : Side) (v : OfPlan) → Contains (own_library ws p s) v → v.what ≡ Lib
  own_library_is p s v among =
      let (on, there) = where_true (has_library (slice_get ws.packages p)) (unit p s Lib ∷ []) v among in
      ap (λ (u : OfPlan). u.what) (sym (single (unit p s Lib) v there))

  after_libraries : (p : ℕ) (s : Side) (v : OfPlan) → Contains (libraries ws features p s ++ own_run ws p s) v → is_run v.what ≡ true → IsOwnRun p s v
  after_libraries p s v among is = elim (Contains-append_cases (libraries ws features p s) (own_run ws p s) v among) [
    | inl here ↦ absurd (is_no_run v (all_libraries p s v here) is)
    | inr run ↦ by_own_run p s v run
  ]

  pub run_need : (p : ℕ) (s : Side) (what : What) (v : OfPlan) → (what ≡ Lib) ⊎ ((name : List ℕ) × (what ≡ Bin name)) → Contains (needs_of ws features p s what) v → is_run v.what ≡ true → IsOwnRun p s v
  run_need p s Lib v kind among is = after_libraries p s v among is
  run_need p s (Bin name) v kind among is = elim (Contains-append_cases (own_library ws p s) (libraries ws features p s ++ own_run ws p s) v among) [
    | inl own ↦ absurd (is_no_run v (own_library_is p s v own) is)
    | inr other ↦ after_libraries p s v other is
  ]
  run_need p s Script v (inl e) among is = absurd (cc)
  run_need p s Script v (inr (name, e)) among is = absurd (cc)
  run_need p s Run v (inl e) among is = absurd (cc)
  run_need p s Run v (inr (name, e)) among is = absurd (cc)

  -- and it does, where the package has a script
  pub run_needed : (p : ℕ) (s : Side) (what : What) → (what ≡ Lib) ⊎ ((name : List ℕ) × (what ≡ Bin name)) → has_script (slice_get ws.packages p) ≡ true → Contains (needs_of ws features p s what) (unit p s Run)
  run_needed p s Lib kind has = Contains-append_right (libraries ws features p s) (own_run ws p s) (unit p s Run) (at_true (has_script (slice_get ws.packages p)) (unit p s Run ∷ []) (unit p s Run) has (head (unit p s Run) []))
  run_needed p s (Bin name) kind has =
      Contains-append_right (own_library ws p s) (libraries ws features p s ++ own_run ws p s) (unit p s Run)
      (Contains-append_right (libraries ws features p s) (own_run ws p s) (unit p s Run) (at_true (has_script (slice_get ws.packages p)) (unit p s Run ∷ []) (unit p s Run) has (head (unit p s Run) [])))
  run_needed p s Script (inl e) has = absurd (cc)
  run_needed p s Script (inr (name, e)) has = absurd (cc)
  run_needed p s Run (inl e) has = absurd (cc)
  run_needed p s Run (inr (name, e)) has = absurd (cc)

  -- the script that a run needs
  pub script_need : (p : ℕ) (s : Side) (v : OfPlan) → Contains (needs_of ws features p s Run) v → is_script v.what ≡ true → v ≡ unit p s Script
  script_need p s v among is = elim (cases (unit p s Script) (runs ws features p s) v among) [
    | inl same ↦ sym same
    | inr other ↦
        let (n, e, at, one) = placed_from (run_by ws features p s) (entries_at ws p) v other in
        let (on, there) = where_true (is_enabled features p s n && is_normal e.kind && hands_on (slice_get ws.packages e.to)) (unit e.to s Run ∷ []) v one in
        let wrong : is_script v.what ≡ false = ap (λ (u : OfPlan). is_script u.what) (sym (single (unit e.to s Run) v there)) in
        absurd (cc)
  ]

  -- the library to which an entry leads is needed
  all_on : (a b c : Bool) → a ≡ true → b ≡ true → c ≡ true → (a && b && c) ≡ true
  all_on true true true x y z = refl
  all_on true true false x y z = absurd (cc)
  all_on true false c x y z = absurd (cc)
  all_on false b c x y z = absurd (cc)

  in_libraries : (p : ℕ) (s : Side) (n : ℕ) (e : Entry) → slice_get (entries_at ws p) n ≡ Some e → is_enabled features p s n ≡ true → is_normal e.kind ≡ true → has_library (slice_get ws.packages e.to) ≡ true
      → Contains (libraries ws features p s) (unit e.to s Lib)
  in_libraries p s n e at enabled kind made =
      placed_to (library_by ws features p s) (entries_at ws p) n e (unit e.to s Lib) at
      (at_true (is_enabled features p s n && is_normal e.kind && has_library (slice_get ws.packages e.to)) (unit e.to s Lib ∷ []) (unit e.to s Lib)
      (all_on (is_enabled features p s n) (is_normal e.kind) (has_library (slice_get ws.packages e.to)) enabled kind made) (head (unit e.to s Lib) []))

  normal_is : (e : Entry) → is_build e.kind ≡ false → is_normal e.kind ≡ true
  normal_is e is = of e.kind is
    where
      of : (kind : DependencyKind) → is_build kind ≡ false → is_normal kind ≡ true
      of Normal is = refl
      of Build is = absurd (cc)

  pub library_needed : (p : ℕ) (s : Side) (what : What) (n : ℕ) (e : Entry) → is_run what ≡ false → slice_get (entries_at ws p) n ≡ Some e → is_enabled features p s n ≡ true → is_build e.kind ≡ is_script what
      → has_library (slice_get ws.packages e.to) ≡ true → Contains (needs_of ws features p s what) (unit e.to (cond (is_script what) Host s) Lib)
  library_needed p s Lib n e compiles at enabled kind made = Contains-append_left (libraries ws features p s) (own_run ws p s) (unit e.to s Lib) (in_libraries p s n e at enabled (normal_is e kind) made)
  library_needed p s (Bin name) n e compiles at enabled kind made =
      Contains-append_right (own_library ws p s) (libraries ws features p s ++ own_run ws p s) (unit e.to s Lib)
      (Contains-append_left (libraries ws features p s) (own_run ws p s) (unit e.to s Lib) (in_libraries p s n e at enabled (normal_is e kind) made))
  library_needed p s Script n e compiles at enabled kind made =
      placed_to (tool_by ws features p s) (entries_at ws p) n e (unit e.to Host Lib) at
      (at_true (is_enabled features p s n && is_build e.kind && has_library (slice_get ws.packages e.to)) (unit e.to Host Lib ∷ []) (unit e.to Host Lib)
      (all_on (is_enabled features p s n) (is_build e.kind) (has_library (slice_get ws.packages e.to)) enabled kind made) (head (unit e.to Host Lib) []))
  library_needed p s Run n e compiles at enabled kind made = absurd (cc)

  pub own_needed : (p : ℕ) (s : Side) (name : List ℕ) → has_library (slice_get ws.packages p) ≡ true → Contains (needs_of ws features p s (Bin name)) (unit p s Lib)
  own_needed p s name made =
      Contains-append_left (own_library ws p s) (libraries ws features p s ++ own_run ws p s) (unit p s Lib) (at_true (has_library (slice_get ws.packages p)) (unit p s Lib ∷ []) (unit p s Lib) made (head (unit p s Lib) []))

-- ---- in a plan

longer : (ws : Workspace) (features : Features) (a b c : OfPlan) → Reaches ws features a b → Contains (needs ws features b) c → Reaches ws features a c
longer ws features _ _ c (direct a b need) more = onward a b c need (direct b c more)
longer ws features _ _ c (onward a d b need rest) more = onward a d c need (longer ws features d b c rest more)

module _ (project : Project) (selection : Selection) (planned : IsPlan project.workspace project.features selection project.profile project.plan) (index : ℕ) (u : Planned) (there : slice_get project.plan.planned index ≡ Some u) where
  abbrev pub wanted : List OfPlan
  wanted = needs project.workspace project.features u.unit

  indices : AreIndices project.plan.planned (Contains wanted) u.needs
  indices = all_at (λ (p : Planned). AreIndices project.plan.planned (Contains (needs project.workspace project.features p.unit)) p.needs) project.plan.planned index u planned.needs there

  -- what is needed is planned
  need_planned : (v : OfPlan) → Contains wanted v → IsPlanned project.workspace project.features selection v
  need_planned v need = elim ((planned.units u.unit).0 (contains_map (λ (p : Planned). p.unit) project.plan.planned u (contains_from_at project.plan.planned index u there))) [
    | inl root ↦ inr (u.unit, root, direct u.unit v need)
    | inr reached ↦ inr (reached.0, reached.1, longer project.workspace project.features reached.0 u.unit v reached.2 need)
  ]

  -- what is found among its needs is one of them
  pub found_is : (test : What → Bool) (owner k : ℕ) → needed test project u owner ≡ Some k → (v : Planned) × (unit_at project k ≡ Some v) × (test v.unit.what ≡ true) × (v.unit.package ≡ owner) × Contains wanted v.unit
  found_is test owner k is =
      let (among, passes) = find_from (λ index. is_one_of test owner (unit_at project index)) u.needs k is in
      let (v, at, need) = (indices.same k).0 among in
      let on : (test v.unit.what && (v.unit.package == owner)) ≡ true = ap (is_one_of test owner) (sym at) ∙ passes in
      (v, at, first_on (test v.unit.what) (v.unit.package == owner) on, (Decides-eqb v.unit.package owner).0 (second_on (test v.unit.what) (v.unit.package == owner) on), need)

  -- and each of them is found
  pub is_found : (test : What → Bool) (v : OfPlan) → Contains wanted v → test v.what ≡ true → (k : ℕ) × (needed test project u v.package ≡ Some k)
  is_found test v need passes =
      let (w, among, same) = map_contains (λ (p : Planned). p.unit) project.plan.planned v ((planned.units v).1 (need_planned v need)) in
      let (k, at) = at_from_contains project.plan.planned w among in
      let itself : (v.package == v.package) ≡ true = (Decides-eqb v.package v.package).1 refl in
      let one : (test w.unit.what && (w.unit.package == v.package)) ≡ true = ap (λ (x : OfPlan). test x.what && (x.package == v.package)) same ∙ (λ i. passes i && itself i) in
      find_to (λ index. is_one_of test v.package (unit_at project index)) u.needs k ((indices.same k).1 (w, at, subst (Contains wanted) (sym same) need)) (ap (is_one_of test v.package) at ∙ one)

  -- what is not needed is not found
  pub none_found : (test : What → Bool) (owner : ℕ) → ((v : OfPlan) → Contains wanted v → test v.what ≡ true → ⊥) → needed test project u owner ≡ None
  none_found test owner never = by (needed test project u owner) refl
    where
      by : (r : Option ℕ) → needed test project u owner ≡ r → needed test project u owner ≡ None
      by None is = is
      by (Some k) is = let (v, at, passes, owner_is, need) = found_is test owner k is in absurd (never v.unit need passes)
