-- The plan of the units, from the order of their numbers.
use Rattle.std.proofs.Common.{◌≡◌, ◌≢◌, ◌⊎◌, ◌↔◌, inl, inr, ◌+◌, ℕ, suc, ◌<◌, ◌≤◌, max, true, false, List, [], ◌∷◌, length, get_or, map, refl, sym, ap, subst, ◌∙◌, arith, Option, Some, None, slice_get, Contains, All, AllPairs}
use Rattle.std.specs.Prelude.{◌==◌, Ok}
use Rattle.std.specs.List.{AllZip, list_any}
use Rattle.std.specs.List.Sorted.{IsStrictlyIncreasing}
use Rattle.std.specs.Ordering.{nat_cmp}
use Rattle.std.specs.declared.cmp.Ordering.TheVariants.{Less, Equal}
use Rattle.std.specs.Cmp.Lexicographic.{slice_cmp}
use Rattle.std.proofs.lemmas.Cmp.{tied_itself, nat_list_cmp_total}
use Rattle.std.proofs.lemmas.Slice.Zip.{AllZip-long}
use Rattle.std.proofs.lemmas.List.{length-map}
use Rattle.std.proofs.lemmas.List.Elements.{Contains-get_or}
use Rattle.std.proofs.lemmas.Option.{slice_get_within}
use Rattle.pb_graph.specs.declared.graph.Node.{Node}
use Rattle.pb_graph.specs.declared.graph.Step.{Step}
use Rattle.pb_graph.specs.declared.graph.OrderFault.{OrderFault}
use Rattle.pb_graph.specs.declared.graph.OrderFault.TheVariants as order_fault
use Rattle.pb_graph.specs.Graph as graph
use Rattle.pb_graph.specs.Order as order
use Rattle.pb_graph.proofs.Elements as elements
use Rattle.pb_graph.proofs.Elements.{contains_map, map_contains, at_from_contains, contains_from_at, all_from_at, all_at, pair_at, pairs_from_at, zip_left, zip_right}
use Rattle.pb_workspace_types.specs.Settled.{IsSettled, IsAscending}
use Rattle.pb_workspace_types.specs.declared.options.Selection.{Selection}
use Rattle.pb_workspace_types.specs.declared.workspace.Workspace.{Workspace}
use Rattle.pb_feature_types.specs.declared.features.Features.{Features}
use Rattle.pb_profile.specs.Line.{Seen}
use Rattle.pb_place_types.specs.Paths.{below, is_relative, is_path, is_name, is_at_or_below}
use Rattle.pb_place_types.proofs.Folders.{named_folders_lie_apart}
use Rattle.pb_place_types.proofs.Within.{share_no_path}
use Rattle.pb_unit.specs.declared.unit.Unit.{Unit}
use Rattle.pb_unit.specs.declared.plan.Planned.{Planned}
use Rattle.pb_unit.specs.declared.fault.PlanFault.{PlanFault}
use Rattle.pb_unit.specs.declared.fault.PlanFault.TheVariants.{OutOfMemory}
use Rattle.pb_unit.specs.Units.{name_at, key_of, needs, Reaches, IsRoot, IsPlanned}
use Rattle.pb_unit.specs.Drawing.{node_of, IsDrawn, IsPlannedFrom, IsRefusal, owner_of, name_behind}
use Rattle.pb_unit.specs.Plan.{IsBelow, ComesBefore, above, level_of, level_at, AreIndices, profile_line, profile_folder, HasSettings, AreWithoutLibrary, IsCycle, IsStraight, IsPlan, IsCrowd, LacksPlan, by_cycle, by_number, LieApart}
use Rattle.pb_unit.proofs.Keys.{key_named, name_is, one_unit}
use Rattle.pb_unit.proofs.Graphs.{AreNumbered, is_graph, need_to, need_from, reach_to, reach_at, reached_to, reached_from, roots_within, key_behind}
use Rattle.pb_unit.proofs.Drafting.{numbered, well, root_there, roots_are}

-- levels are the same on both sides
above_same : (xs : List ℕ) → graph.above xs ≡ above xs
above_same [] = refl
above_same (x ∷ xs) = ap (max (x + 1)) (above_same xs)

some_eq : {A : Type 0} (x y : A) → Some x ≡ Some y → x ≡ y
some_eq x y e = cc

module _ (ws : Workspace) (features : Features) (selection : Selection) (settled : IsSettled ws) (all_selected : All (λ p. p < length ws.packages) selection.packages) (units : List Unit) (nodes : List Node) (roots : List ℕ) (drawn : IsDrawn ws features selection units nodes roots) where
  abbrev numbers : AreNumbered ws units
  numbers = numbered ws features selection units settled all_selected drawn.candidates

  abbrev graph_nodes : List Node
  graph_nodes = map (node_of ws features) units

  abbrev roots_say : (i : ℕ) → Contains roots i ↔ ((u : Unit) × (slice_get units i ≡ Some u) × IsRoot ws features selection u)
  roots_say = roots_are ws features selection units settled all_selected drawn.candidates roots drawn.roots_are

  abbrev roots_there : (u : Unit) → IsRoot ws features selection u → (i : ℕ) × (slice_get units i ≡ Some u)
  roots_there = root_there ws features selection units settled all_selected drawn.candidates

  pub graph_is : (lent : List Node) → lent ≡ nodes → graph.IsGraph lent
  graph_is lent same = subst graph.IsGraph (sym (same ∙ drawn.nodes_are)) (is_graph ws features units settled numbers)

  pub roots_in : (lent : List Node) (given : List ℕ) → lent ≡ nodes → given ≡ roots → All (λ r. r < length lent) given
  roots_in lent given same is =
      subst (λ (l : List ℕ). All (λ r. r < length lent) l) (sym is)
      (subst (λ (l : List Node). All (λ r. r < length l) roots) (sym (same ∙ drawn.nodes_are)) (roots_within ws features units settled numbers selection roots roots_say roots_there))

  to_unit : (i : ℕ) → graph.IsReached nodes roots i → (u : Unit) × (slice_get units i ≡ Some u) × IsPlanned ws features selection u
  to_unit i reached = reached_to ws features units settled numbers selection roots roots_say roots_there i (subst (λ (l : List Node). graph.IsReached l roots i) drawn.nodes_are reached)

  from_unit : (u : Unit) → IsPlanned ws features selection u → (i : ℕ) × (slice_get units i ≡ Some u) × graph.IsReached nodes roots i
  from_unit u is =
      let (i, at, reached) = reached_from ws features units settled numbers selection roots roots_say roots_there u is in
      (i, at, subst (λ (l : List Node). graph.IsReached l roots i) (sym drawn.nodes_are) reached)

  key_is : (i : ℕ) (u : Unit) → slice_get units i ≡ Some u → graph.key_at nodes i ≡ key_of ws u
  key_is i u at = ap (λ (l : List Node). graph.key_at l i) drawn.nodes_are ∙ key_behind ws features units settled numbers i u at

  reach_back : (i : ℕ) (u : Unit) → slice_get units i ≡ Some u → graph.Reaches nodes i i → Reaches ws features u u
  reach_back i u at way =
      let (v, there, more) = reach_to ws features units settled numbers i i u at (subst (λ (l : List Node). graph.Reaches l i i) drawn.nodes_are way) in
      subst (Reaches ws features u) (some_eq v u (sym there ∙ at)) more

  reach_on : (i : ℕ) (u : Unit) → slice_get units i ≡ Some u → Reaches ws features u u → graph.Reaches nodes i i
  reach_on i u at way = subst (λ (l : List Node). graph.Reaches l i i) (sym drawn.nodes_are) (reach_at ws features units settled numbers i i u u at at way)

  straight_is : ((i : ℕ) → graph.IsReached nodes roots i → graph.Reaches nodes i i → ⊥) → IsStraight ws features selection
  straight_is straight u planned way =
      let (i, at, reached) = from_unit u planned in
      straight i reached (reach_on i u at way)

  -- Refusals.

  behind_is : (i : ℕ) (u : Unit) → slice_get units i ≡ Some u → name_behind ws units i ≡ name_at ws u.package
  behind_is i u at = ap (λ o. name_at ws (owner_of o)) at

  pub cycle_is : (circle : List ℕ) (names : List (List ℕ)) → order.IsCircle nodes roots circle → IsAscending names → ((name : List ℕ) → Contains names name ↔ Contains (map (name_behind ws units) circle) name) → IsCycle ws features selection names
  cycle_is circle names h rises same = record {
    some =
        (let first : ℕ = get_or circle 0 0 in
        let has : Contains circle first = Contains-get_or circle 0 0 h.some in
        let (k, lt, at) = (same (name_behind ws units first)).1 (contains_map (name_behind ws units) circle first has) in
        omega (arith, lt));
    order = rises;
    same = λ name. (
      λ has.
          let (i, in', e) = map_contains (name_behind ws units) circle name ((same name).0 has) in
          let both = (h.nodes_are i).0 in' in
          let (u, at, planned) = to_unit i both.0 in
          (u, planned, reach_back i u at both.1, sym e ∙ behind_is i u at),
      λ some.
          let (u, planned, way, e) = some in
          let (i, at, reached) = from_unit u planned in
          let in' = (h.nodes_are i).1 (reached, reach_on i u at way) in
          (same name).1 (subst (Contains (map (name_behind ws units) circle)) (behind_is i u at ∙ sym e) (contains_map (name_behind ws units) circle i in')),
    );
  }

  -- the units behind some reached numbers
  record Behind (found : List ℕ) : Type 0 where
    pub list : List Unit
    pub each : AllZip (λ i u. (slice_get units i ≡ Some u) × IsPlanned ws features selection u) found list

  behind : (found : List ℕ) → ((k i : ℕ) → slice_get found k ≡ Some i → graph.IsReached nodes roots i) → Behind found
  behind [] h = record { list = []; each = tt }
  behind (i ∷ found) h =
      let rest = behind found (λ k j at. h (suc k) j at) in
      let (u, at, planned) = to_unit i (h 0 i refl) in
      record { list = u ∷ rest.list; each = ((at, planned), rest.each) }

  pub crowd_is : order.IsCrowd nodes roots 4096 → IsCrowd ws features selection
  crowd_is h =
      let b = behind h.found (λ k i at. all_at (graph.IsReached nodes roots) h.found h.reached k i at) in
      let R : ℕ → Unit → Type 0 = λ i u. (slice_get units i ≡ Some u) × IsPlanned ws features selection u in
      record {
        units = b.list;
        planned = all_from_at (IsPlanned ws features selection) b.list (λ k u at. let (i, there, is) = zip_right R h.found b.list b.each k u at in is.1);
        order = pairs_from_at (λ u v. IsBelow (key_of ws u) (key_of ws v)) b.list (λ k l u v lt x y.
            let (i, atk, is) = zip_right R h.found b.list b.each k u x in
            let (j, atl, it) = zip_right R h.found b.list b.each l v y in
            let below = pair_at (λ m n. IsBelow (graph.key_at nodes m) (graph.key_at nodes n)) h.found h.order k l i j lt atk atl in
            subst (λ (a : List ℕ). IsBelow a (key_of ws v)) (key_is i u is.0) (subst (λ (b' : List ℕ). IsBelow (graph.key_at nodes i) b') (key_is j v it.0) below));
        many = omega (arith, h.many, AllZip-long R h.found b.list b.each);
      }

  pub straight_crowd : order.IsCrowd nodes roots 4096 → IsStraight ws features selection
  straight_crowd h = straight_is h.straight

  -- an empty order: nothing is planned
  pub nothing_is : (steps : List Step) → order.IsOrder nodes roots steps → length steps ≡ 0 → (u : Unit) → IsPlanned ws features selection u → ⊥
  nothing_is steps h none u planned =
      let (i, at, reached) = from_unit u planned in
      let (k, lt, e) = (h.units i).1 reached in
      omega (arith, lt, none, length-map steps (λ (p : Step). p.node))

  -- why an order is refused is why the units have no plan
  pub stops : (lent : List Node) (given : List ℕ) (shown : List Unit) (fault : OrderFault) (e : PlanFault) → lent ≡ nodes → given ≡ roots → shown ≡ units → order.IsWhy lent given 4096 fault → (e ≡ OutOfMemory) ⊎ IsRefusal ws shown fault e → (e ≡ OutOfMemory) ⊎ LacksPlan ws features selection e
  stops lent given shown fault e same is shows why refused = elim refused [
    | inl memory ↦ inl memory
    | inr told ↦ by fault (subst (λ (l : List ℕ). order.IsWhy nodes l 4096 fault) is (subst (λ (l : List Node). order.IsWhy l given 4096 fault) same why)) (subst (λ (l : List Unit). IsRefusal ws l fault e) shows told)
  ]
    where
      by : (f : OrderFault) → order.IsWhy nodes roots 4096 f → IsRefusal ws units f e → (e ≡ OutOfMemory) ⊎ LacksPlan ws features selection e
      by order_fault.OutOfMemory h r = inl r
      by order_fault.TooMany h r = inr (subst (LacksPlan ws features selection) (sym r) (by_number (straight_crowd h) (crowd_is h)))
      by (order_fault.Circle circle) h (names, r, rises, same') = inr (subst (LacksPlan ws features selection) (sym r) (by_cycle names (cycle_is circle names h rises same')))

  pub order_lent : (lent : List Node) (given : List ℕ) (steps : List Step) → lent ≡ nodes → given ≡ roots → order.IsOrder lent given steps → order.IsOrder nodes roots steps
  order_lent lent given steps same is h = subst (λ (l : List ℕ). order.IsOrder nodes l steps) is (subst (λ (l : List Node). order.IsOrder l given steps) same h)

  -- The plan.

  module _ (steps : List Step) (h : order.IsOrder nodes roots steps) where
    step_reached : (k : ℕ) (s : Step) → slice_get steps k ≡ Some s → graph.IsReached nodes roots s.node
    step_reached k s at = (h.units s.node).0 (contains_map (λ (p : Step). p.node) steps s (contains_from_at steps k s at))

    -- each step is that of a unit
    pub steps_within : (lent : List Unit) → lent ≡ units → All (λ (s : Step). s.node < length lent) steps
    steps_within lent same = all_from_at (λ (s : Step). s.node < length lent) steps (λ k s at.
        let (u, there, planned) = to_unit s.node (step_reached k s at) in
        slice_get_within lent s.node u (ap (λ (l : List Unit). slice_get l s.node) same ∙ there))

    step_named : (k : ℕ) (s : Step) → slice_get steps k ≡ Some s → (is_relative s.key ≡ true) × (list_any (λ b. b == 47) s.key ≡ false) × (is_name s.key ≡ true)
    step_named k s at =
        let (u, there, planned) = to_unit s.node (step_reached k s at) in
        let key : s.key ≡ key_of ws u = all_at (λ (p : Step). p.key ≡ graph.key_at nodes p.node) steps h.keys k s at ∙ key_is s.node u there in
        let named = key_named ws u (name_is ws u.package settled (numbers.owners s.node u there)) (well ws features selection units settled all_selected drawn.candidates s.node u there) in
        (ap is_relative key ∙ named.0, ap (list_any (λ b. b == 47)) key ∙ named.1, ap is_name key ∙ named.2)

    pub steps_relative : All (λ (s : Step). is_relative s.key ≡ true) steps
    steps_relative = all_from_at (λ (s : Step). is_relative s.key ≡ true) steps (λ k s at. (step_named k s at).0)

    module _ (line : List Seen) (folder : List ℕ) (planned : List Planned) (made : AllZip (IsPlannedFrom ws line folder units) steps planned) where
      -- the step behind a unit of the plan, and the unit of a step
      record Made (k : ℕ) (p : Planned) : Type 0 where
        pub step : Step
        pub at : slice_get steps k ≡ Some step
        pub is : IsPlannedFrom ws line folder units step p

      step_of : (k : ℕ) (p : Planned) → slice_get planned k ≡ Some p → Made k p
      step_of k p at = let (s, there, is) = zip_right (IsPlannedFrom ws line folder units) steps planned made k p at in record { step = s; at = there; is = is }

      unit_reached : (k : ℕ) (p : Planned) → slice_get planned k ≡ Some p → IsPlanned ws features selection p.unit
      unit_reached k p at =
          let m = step_of k p at in
          let (u, there, is) = to_unit m.step.node (step_reached k m.step m.at) in
          subst (IsPlanned ws features selection) (some_eq u p.unit (sym there ∙ m.is.unit_at)) is

      units_are : (u : Unit) → Contains (map (λ (p : Planned). p.unit) planned) u ↔ IsPlanned ws features selection u
      units_are u = (
        λ has.
            let (p, in', e) = map_contains (λ (x : Planned). x.unit) planned u has in
            let (k, at) = at_from_contains planned p in' in
            subst (IsPlanned ws features selection) e (unit_reached k p at),
        λ is.
            let (i, at, reached) = from_unit u is in
            let (s, in', e) = map_contains (λ (x : Step). x.node) steps i ((h.units i).1 reached) in
            let (k, index) = at_from_contains steps s in' in
            let (p, there, m) = zip_left (IsPlannedFrom ws line folder units) steps planned made k s index in
            let same : p.unit ≡ u = some_eq p.unit u (sym m.unit_at ∙ ap (slice_get units) e ∙ at) in
            subst (Contains (map (λ (x : Planned). x.unit) planned)) same (contains_map (λ (x : Planned). x.unit) planned p (contains_from_at planned k p there)),
      )

      level_same : (k : ℕ) → order.level_at steps k ≡ level_at planned k
      level_same k = by (slice_get planned k) refl
        where
          by : (o : Option Planned) → slice_get planned k ≡ o → order.level_at steps k ≡ level_at planned k
          by None at = by_none (slice_get steps k) refl
            where
              by_none : (q : Option Step) → slice_get steps k ≡ q → order.level_at steps k ≡ level_at planned k
              by_none None here = ap order.level_of here ∙ sym (ap level_of at)
              by_none (Some s) here = let (p, there, m) = zip_left (IsPlannedFrom ws line folder units) steps planned made k s here in absurd (let no : None ≡ Some p = sym at ∙ there in cc)
          by (Some p) at = let m = step_of k p at in ap order.level_of m.at ∙ sym m.is.level ∙ sym (ap level_of at)

      -- indices of steps are indices of units
      indices_are : (Wanted : ℕ → Type 0) (Asked : Unit → Type 0) (indices given : List ℕ) → order.AreIndices steps Wanted indices → given ≡ indices
          → ((j : ℕ) (v : Unit) → slice_get units j ≡ Some v → Wanted j → Asked v) → ((j : ℕ) (v : Unit) → slice_get units j ≡ Some v → Asked v → Wanted j)
          → AreIndices planned Asked given
      indices_are Wanted Asked indices given are same to from = record {
        rises = subst IsStrictlyIncreasing (sym same) are.rises;
        same = λ index. (
          λ has.
              let (s, at, wanted) = (are.same index).0 (subst (λ (l : List ℕ). Contains l index) same has) in
              let (p, there, m) = zip_left (IsPlannedFrom ws line folder units) steps planned made index s at in
              (p, there, to s.node p.unit m.unit_at wanted),
          λ some.
              let (p, at, asked) = some in
              let m = step_of index p at in
              subst (λ (l : List ℕ). Contains l index) (sym same) ((are.same index).1 (m.step, m.at, from m.step.node p.unit m.is.unit_at asked)),
        );
      }

      needs_are : (k : ℕ) (p : Planned) → slice_get planned k ≡ Some p → AreIndices planned (Contains (needs ws features p.unit)) p.needs
      needs_are k p at =
          let m = step_of k p at in
          let i = m.step.node in
          indices_are (Contains (graph.needs_at nodes i)) (Contains (needs ws features p.unit)) m.step.needs p.needs (all_at (λ (s : Step). order.AreIndices steps (Contains (graph.needs_at nodes s.node)) s.needs) steps h.needs k m.step m.at) m.is.needs
          (λ j v there has.
          let (w, found, need) = need_to ws features units settled numbers i j p.unit m.is.unit_at (subst (λ (l : List Node). Contains (graph.needs_at l i) j) drawn.nodes_are has) in
          subst (Contains (needs ws features p.unit)) (some_eq w v (sym found ∙ there)) need)
          (λ j v there need. subst (λ (l : List Node). Contains (graph.needs_at l i) j) (sym drawn.nodes_are) (need_from ws features units settled numbers i j p.unit v m.is.unit_at there need))

      reaches_are : (k : ℕ) (p : Planned) → slice_get planned k ≡ Some p → AreIndices planned (Reaches ws features p.unit) p.reaches
      reaches_are k p at =
          let m = step_of k p at in
          let i = m.step.node in
          indices_are (graph.Reaches nodes i) (Reaches ws features p.unit) m.step.reaches p.reaches (all_at (λ (s : Step). order.AreIndices steps (graph.Reaches nodes s.node) s.reaches) steps h.reaches k m.step m.at) m.is.reaches
          (λ j v there way.
          let (w, found, more) = reach_to ws features units settled numbers i j p.unit m.is.unit_at (subst (λ (l : List Node). graph.Reaches l i j) drawn.nodes_are way) in
          subst (Reaches ws features p.unit) (some_eq w v (sym found ∙ there)) more)
          (λ j v there way. subst (λ (l : List Node). graph.Reaches l i j) (sym drawn.nodes_are) (reach_at ws features units settled numbers i j p.unit v m.is.unit_at there way))

      keys_are : (k : ℕ) (p : Planned) → slice_get planned k ≡ Some p → p.key ≡ key_of ws p.unit
      keys_are k p at =
          let m = step_of k p at in
          m.is.key ∙ all_at (λ (s : Step). s.key ≡ graph.key_at nodes s.node) steps h.keys k m.step m.at ∙ key_is m.step.node p.unit m.is.unit_at

      levels_are : (k : ℕ) (p : Planned) → slice_get planned k ≡ Some p → p.level ≡ above (map (level_at planned) p.needs)
      levels_are k p at =
          let m = step_of k p at in
          m.is.level ∙ all_at (λ (s : Step). s.level ≡ graph.above (map (order.level_at steps) s.needs)) steps h.levels k m.step m.at
          ∙ above_same (map (order.level_at steps) m.step.needs) ∙ ap above (map_levels m.step.needs) ∙ ap (λ l. above (map (level_at planned) l)) (sym m.is.needs)
        where
          map_levels : (xs : List ℕ) → map (order.level_at steps) xs ≡ map (level_at planned) xs
          map_levels [] = refl
          map_levels (x ∷ xs) = ap (λ n. n ∷ map (order.level_at steps) xs) (level_same x) ∙ ap (λ l. level_at planned x ∷ l) (map_levels xs)

      comes_before : (a b : Step) (p q : Planned) → IsPlannedFrom ws line folder units a p → IsPlannedFrom ws line folder units b q → order.ComesBefore a b → ComesBefore p q
      comes_before a b p q ma mb before = record {
        order = elim before.order [
          | inl lt ↦ inl (omega (arith, lt, ma.level, mb.level))
          | inr both ↦ inr (ma.level ∙ both.0 ∙ sym mb.level, subst (λ (x : List ℕ). IsBelow x q.key) (sym ma.key) (subst (λ (y : List ℕ). IsBelow a.key y) (sym mb.key) both.1))
        ];
      }

      order_is : AllPairs ComesBefore planned
      order_is = pairs_from_at ComesBefore planned (λ k l p q lt x y.
          let a = step_of k p x in
          let b = step_of l q y in
          comes_before a.step b.step p q a.is b.is (pair_at order.ComesBefore steps h.order k l a.step b.step lt a.at b.at))

      pub plan_is : (profile : List ℕ) (names : List (List ℕ)) → profile_line ws profile ≡ Ok line → folder ≡ profile_folder ws profile → 0 < length steps → length steps ≤ 4096 → AreWithoutLibrary ws features names → IsPlan ws features selection profile (record { planned = planned; without_library = names })
      plan_is profile names line_is folder_is some few missing =
          let long : length planned ≡ length steps = AllZip-long (IsPlannedFrom ws line folder units) steps planned made in
          record {
            line = line;
            profile_has = line_is;
            units = units_are;
            keys = all_from_at (λ (p : Planned). p.key ≡ key_of ws p.unit) planned keys_are;
            folders = all_from_at (λ (p : Planned). p.out ≡ below (profile_folder ws profile) p.key) planned (λ k p at. let m = step_of k p at in m.is.out ∙ ap (λ f. below f m.step.key) folder_is ∙ ap (below (profile_folder ws profile)) (sym m.is.key));
            settings = all_from_at (HasSettings ws line) planned (λ k p at. let m = step_of k p at in record { owner = m.is.owner; package_at = m.is.package_at; settings = m.is.settings });
            levels = all_from_at (λ (p : Planned). p.level ≡ above (map (level_at planned) p.needs)) planned levels_are;
            order = order_is;
            needs = all_from_at (λ (p : Planned). AreIndices planned (Contains (needs ws features p.unit)) p.needs) planned needs_are;
            reaches = all_from_at (λ (p : Planned). AreIndices planned (Reaches ws features p.unit) p.reaches) planned reaches_are;
            straight = straight_is h.no_circle;
            some = omega (arith, long, some);
            few = omega (arith, long, few);
            without_library = missing;
          }

      -- Folders.

      keys_apart : (k l : ℕ) (p q : Planned) → k < l → slice_get planned k ≡ Some p → slice_get planned l ≡ Some q → p.key ≢ q.key
      keys_apart k l p q lt x y same =
          let before = pair_at ComesBefore planned order_is k l p q lt x y in
          let units_same : p.unit ≡ q.unit = one_unit ws p.unit q.unit settled (owner_in k p x) (owner_in l q y) (sym (keys_are k p x) ∙ same ∙ keys_are l q y) in
          level_apart p q before same (level_one units_same)
        where
          owner_in : (m : ℕ) (r : Planned) → slice_get planned m ≡ Some r → r.unit.package < length ws.packages
          owner_in m r at = let d = step_of m r at in numbers.owners d.step.node r.unit d.is.unit_at

          level_one : p.unit ≡ q.unit → p.level ≡ q.level
          level_one e = levels_are k p x ∙ sym (above_same (map (level_at planned) p.needs)) ∙ elements.above_same (map (level_at planned) p.needs) (map (level_at planned) q.needs) to from ∙ above_same (map (level_at planned) q.needs) ∙ sym (levels_are l q y)
            where
              to : (n : ℕ) → Contains (map (level_at planned) p.needs) n → Contains (map (level_at planned) q.needs) n
              to n has =
                  let (index, in', f) = map_contains (level_at planned) p.needs n has in
                  let (r, at, need) = ((needs_are k p x).same index).0 in' in
                  subst (Contains (map (level_at planned) q.needs)) f (contains_map (level_at planned) q.needs index (((needs_are l q y).same index).1 (r, at, subst (λ (u : Unit). Contains (needs ws features u) r.unit) e need)))

              from : (n : ℕ) → Contains (map (level_at planned) q.needs) n → Contains (map (level_at planned) p.needs) n
              from n has =
                  let (index, in', f) = map_contains (level_at planned) q.needs n has in
                  let (r, at, need) = ((needs_are l q y).same index).0 in' in
                  subst (Contains (map (level_at planned) p.needs)) f (contains_map (level_at planned) p.needs index (((needs_are k p x).same index).1 (r, at, subst (λ (u : Unit). Contains (needs ws features u) r.unit) (sym e) need)))

          level_apart : (a b : Planned) → ComesBefore a b → a.key ≡ b.key → a.level ≡ b.level → ⊥
          level_apart a b before e f = elim before.order [
            | inl less ↦ omega (arith, less, f)
            | inr both ↦
                let less : slice_cmp nat_cmp b.key b.key ≡ Less = subst (λ (x' : List ℕ). slice_cmp nat_cmp x' b.key ≡ Less) e both.1 in
                let equal : slice_cmp nat_cmp b.key b.key ≡ Equal = tied_itself nat_list_cmp_total b.key in
                let no : Less ≡ Equal = sym less ∙ equal in cc
          ]

      pub apart_is : is_path folder ≡ true → AllPairs LieApart planned
      apart_is path = pairs_from_at LieApart planned (λ k l p q lt x y.
          let a = step_of k p x in
          let b = step_of l q y in
          let ne = keys_apart k l p q lt x y in
          let na = step_named k a.step a.at in
          let nb = step_named l b.step b.at in
          let steps_ne : a.step.key ≢ b.step.key = λ e. ne (a.is.key ∙ e ∙ sym b.is.key) in
          let apart = named_folders_lie_apart folder a.step.key b.step.key path na.2 nb.2 na.1 nb.1 steps_ne in
          record {
            keys = ne;
            folders = λ way at.
                subst (λ (f : List ℕ). is_at_or_below f way ≡ false) (sym b.is.out)
                (share_no_path (below folder a.step.key) (below folder b.step.key) way apart.first apart.second apart.not_below_first apart.not_below_second (subst (λ (f : List ℕ). is_at_or_below f way ≡ true) a.is.out at));
          })
