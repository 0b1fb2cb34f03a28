-- A workspace that was read has one reason alone why it has no project, and then has none.
use Rattle.std.proofs.Common.{◌≡◌, ◌∙◌, ◌<◌, ◌+◌, ◌++◌, ◌&&◌, ℕ, Bool, if◌then◌else◌, List, [], ◌∷◌, map, Contains, All, Ok, Err, refl, sym, ap, ap₂, subst, inl, inr, arith, length, slice_get, slice_index_or}
use Rattle.std.specs.Cmp.{both_ways}
use Rattle.std.specs.Cmp.Lexicographic.{slice_cmp}
use Rattle.std.specs.Ordering.{nat_cmp}
use Rattle.std.specs.declared.cmp.Ordering.TheVariants.{Less}
use Rattle.std.proofs.lemmas.List.{length-map}
use Rattle.pb_graph.specs.Placed.{placed}
use Rattle.pb_feature.specs.Resolved.{IsResolved}
use Rattle.pb_feature_types.specs.Features.{is_enabled, features_at}
use Rattle.pb_feature_types.specs.declared.features.Features.{Features}
use Rattle.pb_graph.proofs.Elements.{all_at}
use Rattle.pb_unit.specs.Plan.{IsPlan, IsCycle, IsCrowd, LacksPlan, by_cycle, by_number, by_nothing, Refuses, by_profile, by_units}
use Rattle.pb_unit.specs.Units.{key_of, unit, is_normal, is_build, has_library, hands_on, entries_at, library_by, tool_by, run_by, libraries, tools, runs, own_library, own_run, needs_of, needs, Reaches, direct, onward, IsRoot, library, binary, IsPlanned}
use Rattle.pb_unit.specs.declared.fault.PlanFault.{PlanFault}
use Rattle.pb_unit.specs.declared.plan.Plan.{Plan}
use Rattle.pb_unit.specs.declared.plan.Planned.{Planned}
use Rattle.pb_unit.specs.declared.fault.PlanFault.TheVariants.{Cycle, Profile}
use Rattle.pb_unit.specs.declared.unit.Unit.{Unit}
use Rattle.pb_unit.specs.declared.unit.What.{What}
use Rattle.pb_unit.specs.declared.unit.What.TheVariants.{Lib, Bin, Script, Run}
use Rattle.pb_workspace_types.specs.declared.options.Selection.{Selection}
use Rattle.pb_workspace_types.specs.declared.package.Side.{Side}
use Rattle.pb_workspace_types.specs.declared.package.Side.TheVariants.{Target, Host}
use Rattle.pb_workspace_types.specs.declared.workspace.Workspace.{Workspace}
use Rattle.pb_build.proofs.Crowd.{no_more}
use Rattle.pb_build.proofs.Laid.{map_has, map_gives, pairs_map}
use Rattle.pb_build.proofs.Once.{same_texts}

-- what two lists give that give the same by each index
pub placed_same : {A B : Type 0} (f g : ℕ → A → List B) → ((n : ℕ) (x : A) → f n x ≡ g n x) → (n : ℕ) (xs : List A) → placed f n xs ≡ placed g n xs
placed_same f g same n [] = refl
placed_same f g same n (x ∷ xs) = ap₂ (λ a b. a ++ b) (same n x) (placed_same f g same (n + 1) xs)

-- Features of one selection.

module _ (ws : Workspace) (selection : Selection) (f g : Features) (one : IsResolved ws selection f) (other : IsResolved ws selection g) where
  pub enabled_same : (p : ℕ) (s : Side) (n : ℕ) → is_enabled f p s n ≡ is_enabled g p s n
  enabled_same p s n =
      both_ways (is_enabled f p s n) (is_enabled g p s n) (λ t. (other.enabled p s n).1 ((one.enabled p s n).0 t)) (λ t. (one.enabled p s n).1 ((other.enabled p s n).0 t))

  pub names_same : (p : ℕ) (s : Side) → features_at f p s ≡ features_at g p s
  names_same p s =
      same_texts (features_at f p s) (features_at g p s) (one.order p s) (other.order p s)
      (λ q. (λ has. (other.has p s q).1 ((one.has p s q).0 has), λ has. (one.has p s q).1 ((other.has p s q).0 has)))

  libraries_same : (p : ℕ) (s : Side) → libraries ws f p s ≡ libraries ws g p s
  libraries_same p s =
      placed_same (library_by ws f p s) (library_by ws g p s)
      (λ n e. ap (λ (b : Bool). if b && is_normal e.kind && has_library (slice_get ws.packages e.to) then unit e.to s Lib ∷ [] else []) (enabled_same p s n)) 0 (entries_at ws p)

  tools_same : (p : ℕ) (s : Side) → tools ws f p s ≡ tools ws g p s
  tools_same p s =
      placed_same (tool_by ws f p s) (tool_by ws g p s)
      (λ n e. ap (λ (b : Bool). if b && is_build e.kind && has_library (slice_get ws.packages e.to) then unit e.to Host Lib ∷ [] else []) (enabled_same p s n)) 0 (entries_at ws p)

  runs_same : (p : ℕ) (s : Side) → runs ws f p s ≡ runs ws g p s
  runs_same p s =
      placed_same (run_by ws f p s) (run_by ws g p s)
      (λ n e. ap (λ (b : Bool). if b && is_normal e.kind && hands_on (slice_get ws.packages e.to) then unit e.to s Run ∷ [] else []) (enabled_same p s n)) 0 (entries_at ws p)

  needs_at : (p : ℕ) (s : Side) (w : What) → needs_of ws f p s w ≡ needs_of ws g p s w
  needs_at p s Lib = ap (λ us. us ++ own_run ws p s) (libraries_same p s)
  needs_at p s (Bin name) = ap (λ us. own_library ws p s ++ (us ++ own_run ws p s)) (libraries_same p s)
  needs_at p s Script = tools_same p s
  needs_at p s Run = ap (λ us. unit p s Script ∷ us) (runs_same p s)

  pub needs_same : (u : Unit) → needs ws f u ≡ needs ws g u
  needs_same u = needs_at u.package u.side u.what

  pub reaches_too : (u v : Unit) → Reaches ws f u v → Reaches ws g u v
  reaches_too _ _ (direct u v need) = direct u v (subst (λ us. Contains us v) (needs_same u) need)
  reaches_too _ _ (onward u v w need more) = onward u v w (subst (λ us. Contains us v) (needs_same u) need) (reaches_too v w more)

  root_too : (u : Unit) → IsRoot ws f selection u → IsRoot ws g selection u
  root_too _ (library p selected asked there) = library p selected asked there
  root_too _ (binary p owner made selected package_at there asked on) = binary p owner made selected package_at there asked (subst (λ names. All (Contains names) made.required_features) (names_same p Target) on)

  pub planned_too : (u : Unit) → IsPlanned ws f selection u → IsPlanned ws g selection u
  planned_too u (inl root) = inl (root_too u root)
  planned_too u (inr (r, root, more)) = inr (r, root_too r root, reaches_too r u more)

-- Why there is no plan.

stops_too : (ws : Workspace) (selection : Selection) (f g : Features) → IsResolved ws selection f → IsResolved ws selection g → (fault : PlanFault) → LacksPlan ws f selection fault → LacksPlan ws g selection fault
stops_too ws selection f g one other _ (by_cycle names cycle) = by_cycle names record {
  some = cycle.some;
  order = cycle.order;
  same = λ name. (
    λ has. let (u, planned, round, is) = (cycle.same name).0 has in (u, planned_too ws selection f g one other u planned, reaches_too ws selection f g one other u u round, is),
    λ (u, planned, round, is). (cycle.same name).1 (u, planned_too ws selection g f other one u planned, reaches_too ws selection g f other one u u round, is),
  );
}
stops_too ws selection f g one other _ (by_number straight crowd) =
    by_number (λ u planned round. straight u (planned_too ws selection g f other one u planned) (reaches_too ws selection g f other one u u round)) record {
      units = crowd.units;
      planned = λ k d within. planned_too ws selection f g one other (slice_index_or crowd.units k d) (crowd.planned k d within);
      order = crowd.order;
      many = crowd.many;
    }
stops_too ws selection f g one other _ (by_nothing none) = by_nothing (λ u planned. none u (planned_too ws selection g f other one u planned))

pub refuses_too : (ws : Workspace) (selection : Selection) (f g : Features) → IsResolved ws selection f → IsResolved ws selection g → (profile : List ℕ) (fault : PlanFault)
    → Refuses ws f selection profile fault → Refuses ws g selection profile fault
refuses_too ws selection f g one other profile _ (by_profile fault told) = by_profile fault told
refuses_too ws selection f g one other profile _ (by_units fault usable stops) = by_units fault usable (stops_too ws selection f g one other fault stops)

-- a list that is not empty has an element
some_text : (texts : List (List ℕ)) → 0 < length texts → (text : List ℕ) × Contains texts text
some_text [] some = absurd (omega arith)
some_text (text ∷ texts) some = (text, (0, some, refl))

module _ (ws : Workspace) (features : Features) (selection : Selection) where
  -- a circle has a unit of the plan that reaches itself
  circled : (names : List (List ℕ)) → IsCycle ws features selection names → (u : Unit) × IsPlanned ws features selection u × Reaches ws features u u
  circled names cycle = let (name, has) = some_text names cycle.some in let (u, planned, round, is) = (cycle.same name).0 has in (u, planned, round)

  -- a crowd has a unit of the plan
  crowded : IsCrowd ws features selection → (u : Unit) × IsPlanned ws features selection u
  crowded crowd = let within : 0 < length crowd.units = omega (arith, crowd.many) in let none = unit 0 Target Lib in (slice_index_or crowd.units 0 none, crowd.planned 0 none within)

  stops_once : (a b : PlanFault) → LacksPlan ws features selection a → LacksPlan ws features selection b → a ≡ b
  stops_once _ _ (by_cycle names cycle) (by_cycle more other) =
      ap Cycle (same_texts names more cycle.order other.order (λ q. (λ has. (other.same q).1 ((cycle.same q).0 has), λ has. (cycle.same q).1 ((other.same q).0 has))))
  stops_once _ _ (by_cycle names cycle) (by_number straight crowd) = let (u, planned, round) = circled names cycle in absurd (straight u planned round)
  stops_once _ _ (by_cycle names cycle) (by_nothing none) = let (u, planned, round) = circled names cycle in absurd (none u planned)
  stops_once _ _ (by_number straight crowd) (by_cycle names cycle) = let (u, planned, round) = circled names cycle in absurd (straight u planned round)
  stops_once _ _ (by_number straight crowd) (by_number straight' crowd') = refl
  stops_once _ _ (by_number straight crowd) (by_nothing none) = let (u, planned) = crowded crowd in absurd (none u planned)
  stops_once _ _ (by_nothing none) (by_cycle names cycle) = let (u, planned, round) = circled names cycle in absurd (none u planned)
  stops_once _ _ (by_nothing none) (by_number straight crowd) = let (u, planned) = crowded crowd in absurd (none u planned)
  stops_once _ _ (by_nothing none) (by_nothing none') = refl

  pub plan_refused_once : (profile : List ℕ) (a b : PlanFault) → Refuses ws features selection profile a → Refuses ws features selection profile b → a ≡ b
  plan_refused_once profile _ _ (by_profile fault told) (by_profile other told') = let same : fault ≡ other = search (told, told') in ap Profile same
  plan_refused_once profile _ _ (by_profile fault told) (by_units other usable stops) = let no : Ok usable.line ≡ Err fault = sym usable.is ∙ told in cc
  plan_refused_once profile _ _ (by_units fault usable stops) (by_profile other told) = let no : Ok usable.line ≡ Err other = sym usable.is ∙ told in cc
  plan_refused_once profile _ _ (by_units fault usable stops) (by_units other usable' stops') = stops_once fault other stops stops'

  -- a plan that is there, and why there is none
  crowd_in_plan : (profile : List ℕ) (plan : Plan) → IsPlan ws features selection profile plan → IsCrowd ws features selection → ⊥
  crowd_in_plan profile plan is crowd =
      let fits = no_more (map (key_of ws) crowd.units) (map (λ (p : Planned). p.key) plan.planned) (pairs_map (key_of ws) (λ a b. slice_cmp nat_cmp a b ≡ Less) crowd.units crowd.order) within in
      let one = length-map crowd.units (key_of ws) in
      let other = length-map plan.planned (λ (p : Planned). p.key) in
      let many = crowd.many in
      let few = is.few in omega (arith, fits, one, other, many, few)
    where
      within : (q : List ℕ) → Contains (map (key_of ws) crowd.units) q → Contains (map (λ (p : Planned). p.key) plan.planned) q
      within q has =
          let (k, u, at, named) = map_has (key_of ws) crowd.units q has in
          let there = (is.units u).1 (all_at (IsPlanned ws features selection) crowd.units crowd.planned k u at) in
          let (l, p, at', same) = map_has (λ (p : Planned). p.unit) plan.planned u there in
          let key : p.key ≡ q = all_at (λ p. p.key ≡ key_of ws p.unit) plan.planned is.keys l p at' ∙ (ap (key_of ws) same ∙ named) in
          subst (Contains (map (λ (p : Planned). p.key) plan.planned)) key (map_gives (λ (p : Planned). p.key) plan.planned l p at')

  some_planned : (profile : List ℕ) (plan : Plan) → IsPlan ws features selection profile plan → (u : Unit) × IsPlanned ws features selection u
  some_planned profile plan is = by plan.planned refl
    where
      by : (ps : List Planned) → plan.planned ≡ ps → (u : Unit) × IsPlanned ws features selection u
      by [] same = let some = is.some in let none = ap length same in absurd (omega (arith, some, none))
      by (p ∷ ps) same = (p.unit, (is.units p.unit).0 (map_gives (λ (x : Planned). x.unit) plan.planned 0 p (ap (λ xs. slice_get xs 0) same)))

  pub plan_is_there : (profile : List ℕ) (plan : Plan) → IsPlan ws features selection profile plan → (fault : PlanFault) → Refuses ws features selection profile fault → ⊥
  plan_is_there profile plan is _ (by_profile fault told) = let no : Ok is.line ≡ Err fault = sym is.profile_has ∙ told in cc
  plan_is_there profile plan is _ (by_units _ usable (by_cycle names cycle)) = let (u, planned, round) = circled names cycle in is.straight u planned round
  plan_is_there profile plan is _ (by_units _ usable (by_number straight crowd)) = crowd_in_plan profile plan is crowd
  plan_is_there profile plan is _ (by_units _ usable (by_nothing none)) = let (u, planned) = some_planned profile plan is in none u planned
