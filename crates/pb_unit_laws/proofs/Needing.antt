-- What a unit needs, rule by rule.
use Rattle.std.proofs.Common.{◌≡◌, inl, inr, ℕ, ◌&&◌, Bool, true, false, List, [], ◌∷◌, ◌++◌, Contains, Option, Some, None, refl, sym, ap, subst, slice_get, if◌then◌else◌}
use Rattle.std.specs.Prelude.{is_some}
use Rattle.std.proofs.lemmas.List.Elements.{Contains-append_left, Contains-append_right, Contains-append_cases}
use Rattle.pb_graph.proofs.Membership.{single, head, tail, cases}
use Rattle.pb_graph.proofs.Placed.{placed_to, placed_from, where_true, at_true}
use Rattle.pb_feature_types.specs.Features.{is_enabled}
use Rattle.pb_feature_types.specs.declared.features.Features.{Features}
use Rattle.pb_workspace_types.specs.Workspace.{HasEntry}
use Rattle.pb_workspace_types.specs.declared.package.DependencyKind.{DependencyKind}
use Rattle.pb_workspace_types.specs.declared.package.DependencyKind.TheVariants.{Normal, Build}
use Rattle.pb_workspace_types.specs.declared.package.Entry.{Entry}
use Rattle.pb_workspace_types.specs.declared.package.Package.{Package}
use Rattle.pb_workspace_types.specs.declared.package.Side.{Side}
use Rattle.pb_workspace_types.specs.declared.package.Side.TheVariants.{Host}
use Rattle.pb_workspace_types.specs.declared.workspace.Workspace.{Workspace}
use Rattle.pb_unit.specs.Units.{unit, has_library, has_script, hands_on, entries_of, entries_at, is_normal, is_build, library_by, tool_by, run_by, libraries, tools, runs, own_library as own_libraries, own_run as own_runs, needs_of, needs}
use Rattle.pb_unit.specs.declared.unit.Unit.{Unit}
use Rattle.pb_unit.specs.declared.unit.What.{What}
use Rattle.pb_unit.specs.declared.unit.What.TheVariants.{Lib, Bin, Script, Run}
use Rattle.pb_unit_laws.specs.Needs.{UsesDependencies, a_library, a_binary, Needs, dependency, own_run, own_library, tool, own_script, handed_on, NeedsAreThese}

first_on : (a b : Bool) → (a && b) ≡ true → a ≡ true
first_on true b e = refl
first_on false b e = absurd (cc)

second_on : (a b : Bool) → (a && b) ≡ true → b ≡ true
second_on true b e = e
second_on false b e = absurd (cc)

all_on : (a b c : Bool) → a ≡ true → b ≡ true → c ≡ true → (a && b && c) ≡ true
all_on true true true x y z = refl
all_on true true false x y z = absurd (cc)
all_on true false c x y z = absurd (cc)
all_on false b c x y z = absurd (cc)

normal_is : (k : DependencyKind) → is_normal k ≡ true → k ≡ Normal
normal_is Normal is = refl
normal_is Build is = absurd (cc)

build_is : (k : DependencyKind) → is_build k ≡ true → k ≡ Build
build_is Normal is = absurd (cc)
build_is Build is = refl

-- a package that is there, with its script; and one that hands on a native library
record WithScript (o : Option Package) : Type 0 where
  pub owner : Package
  pub there : o ≡ Some owner
  pub script : is_some owner.script ≡ true

with_script : (o : Option Package) → has_script o ≡ true → WithScript o
with_script None is = absurd (cc)
with_script (Some owner) is = record { owner = owner; there = refl; script = is }

record HandingOn (o : Option Package) : Type 0 where
  pub to : Package
  pub there : o ≡ Some to
  pub made : is_some to.library ≡ true
  pub links : is_some to.links ≡ true
  pub script : is_some to.script ≡ true

handing_on : (o : Option Package) → hands_on o ≡ true → HandingOn o
handing_on None is = absurd (cc)
handing_on (Some q) is =
    let both = first_on (is_some q.library && is_some q.links) (is_some q.script) is in
    record {
      to = q;
      there = refl;
      made = first_on (is_some q.library) (is_some q.links) both;
      links = second_on (is_some q.library) (is_some q.links) both;
      script = second_on (is_some q.library && is_some q.links) (is_some q.script) is;
    }

module _ (ws : Workspace) (features : Features) where
  entry_of : (p n : ℕ) (e : Entry) → slice_get (entries_at ws p) n ≡ Some e → HasEntry ws p n e
  entry_of p n e at = by (slice_get ws.packages p) refl at
    where
      by : (o : Option Package) → slice_get ws.packages p ≡ o → slice_get (entries_of o) n ≡ Some e → HasEntry ws p n e
      by None is found = absurd (cc)
      by (Some owner) is found = record { owner = owner; package_at = is; entry_at = found }

  at_entry : (p n : ℕ) (e : Entry) → HasEntry ws p n e → slice_get (entries_at ws p) n ≡ Some e
  at_entry p n e has = subst (λ o. slice_get (entries_of o) n ≡ Some e) (sym has.package_at) has.entry_at

  -- what is needed, by where it stands

  by_library : (p : ℕ) (s : Side) (what : What) (linked : UsesDependencies what) (v : Unit) → Contains (libraries ws features p s) v → Needs ws features (unit p s what) v
  by_library p s what linked v among =
      let (n, e, at, one) = placed_from (library_by ws features p s) (entries_at ws p) v among in
      let (on, there) = where_true (is_enabled features p s n && is_normal e.kind && has_library (slice_get ws.packages e.to)) (unit e.to s Lib ∷ []) v one in
      let both = first_on (is_enabled features p s n && is_normal e.kind) (has_library (slice_get ws.packages e.to)) on in
      subst (Needs ws features (unit p s what)) (single (unit e.to s Lib) v there)
      (dependency p s what n e linked (entry_of p n e at) (first_on (is_enabled features p s n) (is_normal e.kind) both) (normal_is e.kind (second_on (is_enabled features p s n) (is_normal e.kind) both))
      (second_on (is_enabled features p s n && is_normal e.kind) (has_library (slice_get ws.packages e.to)) on))

  by_tool : (p : ℕ) (s : Side) (v : Unit) → Contains (tools ws features p s) v → Needs ws features (unit p s Script) v
  by_tool p s v among =
      let (n, e, at, one) = placed_from (tool_by ws features p s) (entries_at ws p) v among in
      let (on, there) = where_true (is_enabled features p s n && is_build e.kind && has_library (slice_get ws.packages e.to)) (unit e.to Host Lib ∷ []) v one in
      let both = first_on (is_enabled features p s n && is_build e.kind) (has_library (slice_get ws.packages e.to)) on in
      subst (Needs ws features (unit p s Script)) (single (unit e.to Host Lib) v there)
      (tool p s n e (entry_of p n e at) (first_on (is_enabled features p s n) (is_build e.kind) both) (build_is e.kind (second_on (is_enabled features p s n) (is_build e.kind) both))
      (second_on (is_enabled features p s n && is_build e.kind) (has_library (slice_get ws.packages e.to)) on))

  by_run : (p : ℕ) (s : Side) (v : Unit) → Contains (runs ws features p s) v → Needs ws features (unit p s Run) v
  by_run p s v among =
      let (n, e, at, one) = placed_from (run_by ws features p s) (entries_at ws p) v among in
      let (on, there) = where_true (is_enabled features p s n && is_normal e.kind && hands_on (slice_get ws.packages e.to)) (unit e.to s Run ∷ []) v one in
      let both = first_on (is_enabled features p s n && is_normal e.kind) (hands_on (slice_get ws.packages e.to)) on in
      let h = handing_on (slice_get ws.packages e.to) (second_on (is_enabled features p s n && is_normal e.kind) (hands_on (slice_get ws.packages e.to)) on) in
      subst (Needs ws features (unit p s Run)) (single (unit e.to s Run) v there)
      (handed_on p s n e h.to (entry_of p n e at) (first_on (is_enabled features p s n) (is_normal e.kind) both) (normal_is e.kind (second_on (is_enabled features p s n) (is_normal e.kind) both)) h.there h.made h.links h.script)

  by_own_run : (p : ℕ) (s : Side) (what : What) (linked : UsesDependencies what) (v : Unit) → Contains (own_runs ws p s) v → Needs ws features (unit p s what) v
  by_own_run p s what linked v among =
      let (on, there) = where_true (has_script (slice_get ws.packages p)) (unit p s Run ∷ []) v among in
      let w = with_script (slice_get ws.packages p) on in
      subst (Needs ws features (unit p s what)) (single (unit p s Run) v there) (own_run p s what w.owner linked w.there w.script)

  by_own_library : (p : ℕ) (s : Side) (name : List ℕ) (v : Unit) → Contains (own_libraries ws p s) v → Needs ws features (unit p s (Bin name)) v
  by_own_library p s name v among =
      let (on, there) = where_true (has_library (slice_get ws.packages p)) (unit p s Lib ∷ []) v among in
      subst (Needs ws features (unit p s (Bin name))) (single (unit p s Lib) v there) (own_library p s name on)

  by_linked : (p : ℕ) (s : Side) (what : What) (linked : UsesDependencies what) (v : Unit) → Contains (libraries ws features p s ++ own_runs ws p s) v → Needs ws features (unit p s what) v
  by_linked p s what linked v among = elim (Contains-append_cases (libraries ws features p s) (own_runs ws p s) v among) [ inl here ↦ by_library p s what linked v here | inr run ↦ by_own_run p s what linked v run ]

  from_needs : (p : ℕ) (s : Side) (what : What) (v : Unit) → Contains (needs_of ws features p s what) v → Needs ws features (unit p s what) v
  from_needs p s Lib v among = by_linked p s Lib a_library v among
  from_needs p s (Bin name) v among = elim (Contains-append_cases (own_libraries ws p s) (libraries ws features p s ++ own_runs ws p s) v among) [
    | inl own ↦ by_own_library p s name v own
    | inr other ↦ by_linked p s (Bin name) (a_binary name) v other
  ]
  from_needs p s Script v among = by_tool p s v among
  from_needs p s Run v among = elim (cases (unit p s Script) (runs ws features p s) v among) [ inl same ↦ subst (Needs ws features (unit p s Run)) same (own_script p s) | inr other ↦ by_run p s v other ]

  -- and where it stands

  one_at : (b : Bool) (v : Unit) → b ≡ true → Contains (if b then v ∷ [] else []) v
  one_at b v on = at_true b (v ∷ []) v on (head v [])

  linked_in : (p : ℕ) (s : Side) (what : What) → UsesDependencies what → (v : Unit) → Contains (libraries ws features p s ++ own_runs ws p s) v → Contains (needs_of ws features p s what) v
  linked_in p s _ a_library v among = among
  linked_in p s _ (a_binary name) v among = Contains-append_right (own_libraries ws p s) (libraries ws features p s ++ own_runs ws p s) v among

  to_needs : (u v : Unit) → Needs ws features u v → Contains (needs ws features u) v
  to_needs _ _ (dependency p s what n e linked has enabled normal made) =
      linked_in p s what linked (unit e.to s Lib)
      (Contains-append_left (libraries ws features p s) (own_runs ws p s) (unit e.to s Lib)
      (placed_to (library_by ws features p s) (entries_at ws p) n e (unit e.to s Lib) (at_entry p n e has)
      (one_at (is_enabled features p s n && is_normal e.kind && has_library (slice_get ws.packages e.to)) (unit e.to s Lib)
      (all_on (is_enabled features p s n) (is_normal e.kind) (has_library (slice_get ws.packages e.to)) enabled (ap is_normal normal) made))))
  to_needs _ _ (own_run p s what owner linked there script) =
      linked_in p s what linked (unit p s Run)
      (Contains-append_right (libraries ws features p s) (own_runs ws p s) (unit p s Run) (one_at (has_script (slice_get ws.packages p)) (unit p s Run) (subst (λ o. has_script o ≡ true) (sym there) script)))
  to_needs _ _ (own_library p s name made) =
      Contains-append_left (own_libraries ws p s) (libraries ws features p s ++ own_runs ws p s) (unit p s Lib) (one_at (has_library (slice_get ws.packages p)) (unit p s Lib) made)
  to_needs _ _ (tool p s n e has enabled build made) =
      placed_to (tool_by ws features p s) (entries_at ws p) n e (unit e.to Host Lib) (at_entry p n e has)
      (one_at (is_enabled features p s n && is_build e.kind && has_library (slice_get ws.packages e.to)) (unit e.to Host Lib)
      (all_on (is_enabled features p s n) (is_build e.kind) (has_library (slice_get ws.packages e.to)) enabled (ap is_build build) made))
  to_needs _ _ (own_script p s) = head (unit p s Script) (runs ws features p s)
  to_needs _ _ (handed_on p s n e to has enabled normal there made links script) =
      tail (unit p s Script) (runs ws features p s) (unit e.to s Run)
      (placed_to (run_by ws features p s) (entries_at ws p) n e (unit e.to s Run) (at_entry p n e has)
      (one_at (is_enabled features p s n && is_normal e.kind && hands_on (slice_get ws.packages e.to)) (unit e.to s Run)
      (all_on (is_enabled features p s n) (is_normal e.kind) (hands_on (slice_get ws.packages e.to)) enabled (ap is_normal normal)
      (subst (λ o. hands_on o ≡ true) (sym there) (all_on (is_some to.library) (is_some to.links) (is_some to.script) made links script)))))

pub needs_are : NeedsAreThese
needs_are ws features u v = (λ among. from_needs ws features u.package u.side u.what v among, λ need. to_needs ws features u v need)
