-- The graph of units says what units need and reach.
use Rattle.std.proofs.Common.{◌≡◌, ◌↔◌, inl, inr, ℕ, zero, suc, ◌<◌, Bool, true, List, [], ◌∷◌, ◌++◌, length, map, refl, sym, ap, subst, ◌∙◌, arith, Option, Some, None, slice_get, Contains, All}
use Rattle.std.specs.Prelude.{if◌then◌else◌}
use Rattle.std.proofs.lemmas.Option.{slice_get_within}
use Rattle.std.proofs.lemmas.List.Elements.{Contains-append_cases}
use Rattle.pb_graph.proofs.Placed.{placed_from, where_true}
use Rattle.pb_graph.proofs.Membership.{none, single}
use Rattle.pb_graph.specs.declared.graph.Node.{Node}
use Rattle.pb_graph.specs.Graph as graph
use Rattle.pb_graph.proofs.Elements.{contains_map, map_contains, contains_from_at, all_from_at, all_at}
use Rattle.pb_workspace_types.specs.Settled.{IsSettled, IsPackage}
use Rattle.pb_workspace_types.specs.declared.package.Side.{Side}
use Rattle.pb_workspace_types.specs.declared.package.Side.TheVariants.{Host}
use Rattle.pb_workspace_types.specs.declared.package.Package.{Package}
use Rattle.pb_workspace_types.specs.declared.package.Entry.{Entry}
use Rattle.pb_workspace_types.specs.declared.options.Selection.{Selection}
use Rattle.pb_workspace_types.specs.declared.workspace.Workspace.{Workspace}
use Rattle.pb_feature_types.specs.declared.features.Features.{Features}
use Rattle.pb_unit.specs.declared.unit.Unit.{Unit}
use Rattle.pb_unit.specs.declared.unit.What.{What}
use Rattle.pb_unit.specs.declared.unit.What.TheVariants.{Lib, Bin, Script, Run}
use Rattle.pb_unit.specs.Units.{unit, key_of, entries_of, entries_at, library_by, tool_by, run_by, libraries, tools, runs, own_library, own_run, needs_of, needs, Reaches, direct, onward, IsRoot, IsPlanned}
use Rattle.pb_unit.specs.Drawing.{number, node_of}
use Rattle.pb_unit.proofs.Sixes.{is_fixed}
use Rattle.pb_unit.proofs.Keys.{there, one_unit}

-- What is needed is no binary, of a package that is there.

pub record IsThere (ws : Workspace) (u : Unit) : Type 0 where
  pub kind : is_fixed u.what ≡ true
  pub owner : u.package < length ws.packages

module _ (ws : Workspace) (settled : IsSettled ws) where
  pub entries_lead : (p n : ℕ) (e : Entry) → slice_get (entries_at ws p) n ≡ Some e → e.to < length ws.packages
  entries_lead p n e at = by (slice_get ws.packages p) refl at
    where
      by : (o : Option Package) → slice_get ws.packages p ≡ o → slice_get (entries_of o) n ≡ Some e → e.to < length ws.packages
      by None here at = cc
      by (Some owner) here at = all_at (λ (x : Entry). x.to < length ws.packages) owner.entries (all_at (IsPackage (length ws.packages)) ws.packages settled.packages p owner here).leads n e at

  pub entries_few : (p : ℕ) → All (λ (e : Entry). e.to < 256) (entries_at ws p)
  entries_few p = all_from_at (λ (e : Entry). e.to < 256) (entries_at ws p) (λ n e at. let lt = entries_lead p n e at in let few = settled.few in omega (arith, lt, few))

  -- what stands under a test, one thing of a package that is there
  by_entry : (b : Bool) (to : ℕ) (s : Side) (w : What) (v : Unit) → is_fixed w ≡ true → to < length ws.packages → Contains (if b then unit to s w ∷ [] else []) v → IsThere ws v
  by_entry b to s w v kind lt is =
      let (on, has) = where_true b (unit to s w ∷ []) v is in
      subst (IsThere ws) (single (unit to s w) v has) (record { kind = kind; owner = lt })

  module _ (features : Features) where
    libraries_there : (p : ℕ) (s : Side) (v : Unit) → Contains (libraries ws features p s) v → IsThere ws v
    libraries_there p s v is =
        let (n, e, at, has) = placed_from (library_by ws features p s) (entries_at ws p) v is in
        by_entry _ e.to s Lib v refl (entries_lead p n e at) has

    tools_there : (p : ℕ) (s : Side) (v : Unit) → Contains (tools ws features p s) v → IsThere ws v
    tools_there p s v is =
        let (n, e, at, has) = placed_from (tool_by ws features p s) (entries_at ws p) v is in
        by_entry _ e.to Host Lib v refl (entries_lead p n e at) has

    runs_there : (p : ℕ) (s : Side) (v : Unit) → Contains (runs ws features p s) v → IsThere ws v
    runs_there p s v is =
        let (n, e, at, has) = placed_from (run_by ws features p s) (entries_at ws p) v is in
        by_entry _ e.to s Run v refl (entries_lead p n e at) has

    own_run_there : (p : ℕ) (s : Side) (v : Unit) → p < length ws.packages → Contains (own_run ws p s) v → IsThere ws v
    own_run_there p s v lt is = by_entry _ p s Run v refl lt is

    own_library_there : (p : ℕ) (s : Side) (v : Unit) → p < length ws.packages → Contains (own_library ws p s) v → IsThere ws v
    own_library_there p s v lt is = by_entry _ p s Lib v refl lt is

    lib_there : (p : ℕ) (s : Side) (v : Unit) → p < length ws.packages → Contains (libraries ws features p s ++ own_run ws p s) v → IsThere ws v
    lib_there p s v lt is = elim (Contains-append_cases (libraries ws features p s) (own_run ws p s) v is) [
      | inl libs ↦ libraries_there p s v libs
      | inr run ↦ own_run_there p s v lt run
    ]

    needs_of_there : (p : ℕ) (s : Side) (w : What) (v : Unit) → p < length ws.packages → Contains (needs_of ws features p s w) v → IsThere ws v
    needs_of_there p s Lib v lt is = lib_there p s v lt is
    needs_of_there p s (Bin name) v lt is = elim (Contains-append_cases (own_library ws p s) (libraries ws features p s ++ own_run ws p s) v is) [
      | inl own ↦ own_library_there p s v lt own
      | inr more ↦ lib_there p s v lt more
    ]
    needs_of_there p s Script v lt is = tools_there p s v is
    needs_of_there p s Run v lt is = elim (Contains-append_cases (unit p s Script ∷ []) (runs ws features p s) v is) [
      | inl script ↦ subst (IsThere ws) (single (unit p s Script) v script) (record { kind = refl; owner = lt })
      | inr more ↦ runs_there p s v more
    ]

    pub needs_there : (u v : Unit) → u.package < length ws.packages → Contains (needs ws features u) v → IsThere ws v
    needs_there u v lt is = needs_of_there u.package u.side u.what v lt is

-- Candidates by their numbers, each once, each of a package that is there.
pub record AreNumbered (ws : Workspace) (units : List Unit) : Type 0 where
  pub owners : (i : ℕ) (u : Unit) → slice_get units i ≡ Some u → u.package < length ws.packages
  pub at_number : (u : Unit) → IsThere ws u → slice_get units (number u) ≡ Some u
  pub once : (i j : ℕ) (u : Unit) → slice_get units i ≡ Some u → slice_get units j ≡ Some u → i ≡ j

pub get_map : {X Y : Type 0} (f : X → Y) (xs : List X) (i : ℕ) (x : X) → slice_get xs i ≡ Some x → slice_get (map f xs) i ≡ Some (f x)
get_map f [] i x at = cc
get_map f (y ∷ xs) zero x at = cc
get_map f (y ∷ xs) (suc i) x at = get_map f xs i x at

pub get_map_back : {X Y : Type 0} (f : X → Y) (xs : List X) (i : ℕ) (y : Y) → slice_get (map f xs) i ≡ Some y → (x : X) × (slice_get xs i ≡ Some x) × (f x ≡ y)
get_map_back f [] i y at = cc
get_map_back f (x ∷ xs) zero y at = (x, refl, (let e : Some (f x) ≡ Some y = at in cc))
get_map_back f (x ∷ xs) (suc i) y at = get_map_back f xs i y at

pub inside_get : {X : Type 0} (xs : List X) (i : ℕ) → i < length xs → (x : X) × (slice_get xs i ≡ Some x)
inside_get [] i lt = absurd (omega arith)
inside_get (x ∷ xs) zero lt = (x, refl)
inside_get (x ∷ xs) (suc i) lt = inside_get xs i (omega arith)

module _ (ws : Workspace) (features : Features) (units : List Unit) (settled : IsSettled ws) (numbered : AreNumbered ws units) where
  abbrev pub nodes : List Node
  nodes = map (node_of ws features) units

  -- what a node needs
  needs_are : (i : ℕ) (u : Unit) → slice_get units i ≡ Some u → graph.needs_at nodes i ≡ map number (needs ws features u)
  needs_are i u at = ap graph.needs_of (get_map (node_of ws features) units i u at)

  keys_are : (i : ℕ) (u : Unit) → slice_get units i ≡ Some u → graph.key_at nodes i ≡ key_of ws u
  keys_are i u at = ap graph.key_of (get_map (node_of ws features) units i u at)

  pub key_behind : (i : ℕ) (u : Unit) → slice_get units i ≡ Some u → graph.key_at nodes i ≡ key_of ws u
  key_behind i u at = keys_are i u at

  -- what a unit needs stands at its number
  need_at : (i : ℕ) (u v : Unit) → slice_get units i ≡ Some u → Contains (needs ws features u) v → slice_get units (number v) ≡ Some v
  need_at i u v at need = numbered.at_number v (needs_there ws settled features u v (numbered.owners i u at) need)

  pub need_to : (i j : ℕ) (u : Unit) → slice_get units i ≡ Some u → Contains (graph.needs_at nodes i) j → (v : Unit) × (slice_get units j ≡ Some v) × Contains (needs ws features u) v
  need_to i j u at has =
      let (v, need, e) = map_contains number (needs ws features u) j (subst (λ (l : List ℕ). Contains l j) (needs_are i u at) has) in
      (v, ap (slice_get units) (sym e) ∙ need_at i u v at need, need)

  pub need_from : (i j : ℕ) (u v : Unit) → slice_get units i ≡ Some u → slice_get units j ≡ Some v → Contains (needs ws features u) v → Contains (graph.needs_at nodes i) j
  need_from i j u v at there need =
      let same : number v ≡ j = numbered.once (number v) j v (need_at i u v at need) there in
      subst (λ (l : List ℕ). Contains l j) (sym (needs_are i u at)) (subst (Contains (map number (needs ws features u))) same (contains_map number (needs ws features u) v need))

  some_there : (i j : ℕ) → Contains (graph.needs_at nodes i) j → (u : Unit) × (slice_get units i ≡ Some u)
  some_there i j has = by (slice_get nodes i) refl has
    where
      by : (o : Option Node) → slice_get nodes i ≡ o → Contains (graph.needs_of o) j → (u : Unit) × (slice_get units i ≡ Some u)
      by None here has = absurd (none j has)
      by (Some node) here has = let (u, at, e) = get_map_back (node_of ws features) units i node here in (u, at)

  pub is_graph : graph.IsGraph nodes
  is_graph = record {
    within = λ i j has.
        let (u, at) = some_there i j has in
        let (v, there, need) = need_to i j u at has in
        slice_get_within nodes j (node_of ws features v) (get_map (node_of ws features) units j v there);
    apart = λ i j li lj e.
        let (x, atx) = inside_get nodes i li in
        let (y, aty) = inside_get nodes j lj in
        let (u, at, eu) = get_map_back (node_of ws features) units i x atx in
        let (v, there, ev) = get_map_back (node_of ws features) units j y aty in
        let same : u ≡ v = one_unit ws u v settled (numbered.owners i u at) (numbered.owners j v there) (sym (keys_are i u at) ∙ e ∙ keys_are j v there) in
        numbered.once i j v (at ∙ ap (λ (w : Unit). Some w) same) there;
  }

  -- reaching
  pub reach_to : (i j : ℕ) (u : Unit) → slice_get units i ≡ Some u → graph.Reaches nodes i j → (v : Unit) × (slice_get units j ≡ Some v) × Reaches ws features u v
  reach_to i j u at (graph.direct _ _ has) = let (v, there, need) = need_to i j u at has in (v, there, direct u v need)
  reach_to i j u at (graph.onward _ k _ has more) =
      let (w, mid, need) = need_to i k u at has in
      let (v, there, way) = reach_to k j w mid more in
      (v, there, onward u w v need way)

  pub reach_from : (i : ℕ) (u v : Unit) → slice_get units i ≡ Some u → Reaches ws features u v → (j : ℕ) × (slice_get units j ≡ Some v) × graph.Reaches nodes i j
  reach_from i u v at (direct _ _ need) =
      let there = need_at i u v at need in
      (number v, there, graph.direct i (number v) (need_from i (number v) u v at there need))
  reach_from i u v at (onward _ w _ need more) =
      let mid = need_at i u w at need in
      let (j, there, way) = reach_from (number w) w v mid more in
      (j, there, graph.onward i (number w) j (need_from i (number w) u w at mid need) way)

  pub reach_at : (i j : ℕ) (u v : Unit) → slice_get units i ≡ Some u → slice_get units j ≡ Some v → Reaches ws features u v → graph.Reaches nodes i j
  reach_at i j u v at there way =
      let (k, found, more) = reach_from i u v at way in
      subst (graph.Reaches nodes i) (numbered.once k j v found there) more

  -- the roots
  module _ (selection : Selection) (roots : List ℕ) (roots_are : (i : ℕ) → Contains roots i ↔ ((u : Unit) × (slice_get units i ≡ Some u) × IsRoot ws features selection u)) (root_there : (u : Unit) → IsRoot ws features selection u → (i : ℕ) × (slice_get units i ≡ Some u)) where
    pub reached_to : (i : ℕ) → graph.IsReached nodes roots i → (u : Unit) × (slice_get units i ≡ Some u) × IsPlanned ws features selection u
    reached_to i (inl root) = let (u, at, is) = (roots_are i).0 root in (u, at, inl is)
    reached_to i (inr (r, root, way)) =
        let (u, at, is) = (roots_are r).0 root in
        let (v, there, more) = reach_to r i u at way in
        (v, there, inr (u, is, more))

    pub reached_from : (u : Unit) → IsPlanned ws features selection u → (i : ℕ) × (slice_get units i ≡ Some u) × graph.IsReached nodes roots i
    reached_from u (inl is) =
        let (i, at) = root_there u is in
        (i, at, inl ((roots_are i).1 (u, at, is)))
    reached_from u (inr (r, is, way)) =
        let (i, at) = root_there r is in
        let (j, there, more) = reach_from i r u at way in
        (j, there, inr (i, (roots_are i).1 (r, at, is), more))

    pub reached_at : (i : ℕ) (u : Unit) → slice_get units i ≡ Some u → IsPlanned ws features selection u → graph.IsReached nodes roots i
    reached_at i u at is =
        let (j, there, way) = reached_from u is in
        subst (graph.IsReached nodes roots) (numbered.once j i u there at) way

    pub roots_within : All (λ r. r < length nodes) roots
    roots_within = all_from_at (λ r. r < length nodes) roots (λ k r at.
        let (u, there, is) = (roots_are r).0 (contains_from_at roots k r at) in
        slice_get_within nodes r (node_of ws features u) (get_map (node_of ws features) units r u there))
