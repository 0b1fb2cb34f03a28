-- A workspace, a selection and a profile have one plan alone.
use Rattle.std.proofs.Common.{◌≡◌, ◌∙◌, ◌⊎◌, ◌<◌, ◌+◌, ℕ, max, List, ◌∷◌, map, AllPairs, Contains, Some, Ok, refl, sym, ap, ap₂, subst, inl, inr, arith, length, slice_get, slice_index_or}
use Rattle.std.proofs.lemmas.Option.{same_Some}
use Rattle.std.specs.Cmp.Lexicographic.{slice_cmp}
use Rattle.std.specs.Ordering.{nat_cmp}
use Rattle.std.specs.declared.cmp.Ordering.TheVariants.{Less}
use Rattle.pb_feature.specs.Resolved.{IsResolved}
use Rattle.pb_feature_types.specs.declared.features.Features.{Features}
use Rattle.pb_graph.proofs.Elements.{all_at}
use Rattle.pb_place_types.specs.Paths.{below}
use Rattle.pb_profile.specs.Line.{Seen}
use Rattle.pb_profile.specs.Settings.{settings_along}
use Rattle.pb_unit.specs.Plan.{ComesBefore, above, level_of, level_at, AreIndices, HasSettings, AreWithoutLibrary, IsPlan, profile_folder}
use Rattle.pb_unit.specs.Units.{key_of, role_of, needs, Reaches}
use Rattle.pb_unit.specs.declared.plan.Plan.{Plan}
use Rattle.pb_unit.specs.declared.plan.Planned.{Planned}
use Rattle.pb_unit.specs.declared.unit.Unit.{Unit}
use Rattle.pb_workspace_types.specs.declared.options.Selection.{Selection}
use Rattle.pb_workspace_types.specs.declared.package.Package.{Package}
use Rattle.pb_workspace_types.specs.declared.workspace.Workspace.{Workspace}
use Rattle.pb_build.proofs.Laid.{HasLevels, HasIndices, Earlier, same_index, same_length, same_wanted, same_list}
use Rattle.pb_build.proofs.Once.{same_texts}
use Rattle.pb_build.proofs.Reasons.{enabled_same, needs_same, planned_too, reaches_too}

-- what a plan under other features says of these
module _ (ws : Workspace) (selection : Selection) (profile : List ℕ) (f g : Features) (one : IsResolved ws selection f) (other : IsResolved ws selection g) where
  without_too : (names : List (List ℕ)) → AreWithoutLibrary ws g names → AreWithoutLibrary ws f names
  without_too names is = record {
    order = is.order;
    same = λ name. (
      λ has. let (p, s, n, e, on, there, none, named) = (is.same name).0 has in (p, s, n, e, enabled_same ws selection f g one other p s n ∙ on, there, none, named),
      λ (p, s, n, e, on, there, none, named). (is.same name).1 (p, s, n, e, enabled_same ws selection g f other one p s n ∙ on, there, none, named),
    );
  }

  need_indices : (units : List Planned) (u : Unit) (indices : List ℕ) → AreIndices units (Contains (needs ws g u)) indices → AreIndices units (Contains (needs ws f u)) indices
  need_indices units u indices is = subst (λ us. AreIndices units (Contains us) indices) (needs_same ws selection g f other one u) is

  reach_indices : (units : List Planned) (u : Unit) (indices : List ℕ) → AreIndices units (Reaches ws g u) indices → AreIndices units (Reaches ws f u) indices
  reach_indices units u indices is = record {
    rises = is.rises;
    same = λ index. (
      λ has. let (p, at, way) = (is.same index).0 has in (p, at, reaches_too ws selection g f other one u p.unit way),
      λ (p, at, way). (is.same index).1 (p, at, reaches_too ws selection f g one other u p.unit way),
    );
  }

  pub plan_too : (plan : Plan) → IsPlan ws g selection profile plan → IsPlan ws f selection profile plan
  plan_too plan is = record {
    line = is.line;
    profile_has = is.profile_has;
    units = λ u. (λ has. planned_too ws selection g f other one u ((is.units u).0 has), λ planned. (is.units u).1 (planned_too ws selection f g one other u planned));
    keys = is.keys;
    folders = is.folders;
    settings = is.settings;
    levels = is.levels;
    order = is.order;
    needs = λ k d within. need_indices plan.planned (slice_index_or plan.planned k d).unit (slice_index_or plan.planned k d).needs (is.needs k d within);
    reaches = λ k d within. reach_indices plan.planned (slice_index_or plan.planned k d).unit (slice_index_or plan.planned k d).reaches (is.reaches k d within);
    straight = λ u planned round. is.straight u (planned_too ws selection f g one other u planned) (reaches_too ws selection f g one other u u round);
    some = is.some;
    few = is.few;
    without_library = without_too plan.without_library is.without_library;
  }

-- Two plans of the same features.

module _ (ws : Workspace) (features : Features) (selection : Selection) (profile : List ℕ) where
  abbrev unit_of : Planned → Unit
  unit_of p = p.unit

  abbrev level : Planned → ℕ
  level p = p.level

  abbrev needed : Planned → List ℕ
  needed p = p.needs

  abbrev reached : Planned → List ℕ
  reached p = p.reaches

  abbrev Need : Unit → Unit → Type 0
  Need u v = Contains (needs ws features u) v

  abbrev Reach : Unit → Unit → Type 0
  Reach u v = Reaches ws features u v

  above_more : (n : ℕ) (ns : List ℕ) → above (n ∷ ns) ≡ max (n + 1) (above ns)
  above_more n ns = refl

  level_is : (xs : List Planned) (k : ℕ) (x : Planned) → slice_get xs k ≡ Some x → level_at xs k ≡ level x
  level_is xs k x at = ap level_of at

  earlier : (a b : Planned) → a.key ≡ key_of ws a.unit → b.key ≡ key_of ws b.unit → ComesBefore a b
      → Earlier unit_of (key_of ws) level needed Need above level_at refl above_more level_is (a.level, a.unit) (b.level, b.unit)
  earlier a b ka kb before = by before.order
    where
      by : (a.level < b.level) ⊎ ((a.level ≡ b.level) × (slice_cmp nat_cmp a.key b.key ≡ Less)) → (a.level < b.level) ⊎ ((a.level ≡ b.level) × (slice_cmp nat_cmp (key_of ws a.unit) (key_of ws b.unit) ≡ Less))
      by (inl lt) = inl lt
      by (inr both) = inr (both.0, subst (λ k. slice_cmp nat_cmp (key_of ws a.unit) k ≡ Less) kb (subst (λ k. slice_cmp nat_cmp k b.key ≡ Less) ka both.1))

  module _ (plan : Plan) (is : IsPlan ws features selection profile plan) where
    levels_of : HasLevels unit_of (key_of ws) level needed Need above level_at refl above_more level_is plan.planned
    levels_of k x at = all_at (λ p. p.level ≡ above (map (level_at plan.planned) p.needs)) plan.planned is.levels k x at

    needs_are : (k : ℕ) (x : Planned) → slice_get plan.planned k ≡ Some x → AreIndices plan.planned (Contains (needs ws features x.unit)) x.needs
    needs_are k x at = all_at (λ p. AreIndices plan.planned (Contains (needs ws features p.unit)) p.needs) plan.planned is.needs k x at

    reaches_are : (k : ℕ) (x : Planned) → slice_get plan.planned k ≡ Some x → AreIndices plan.planned (Reaches ws features x.unit) x.reaches
    reaches_are k x at = all_at (λ p. AreIndices plan.planned (Reaches ws features p.unit) p.reaches) plan.planned is.reaches k x at

    needs_of_all : HasIndices unit_of (key_of ws) level needed Need above level_at refl above_more level_is needed Need plan.planned
    needs_of_all k x at = (needs_are k x at).same

    reaches_of_all : HasIndices unit_of (key_of ws) level needed Need above level_at refl above_more level_is reached Reach plan.planned
    reaches_of_all k x at = (reaches_are k x at).same

    key_is : (k : ℕ) (x : Planned) → slice_get plan.planned k ≡ Some x → x.key ≡ key_of ws x.unit
    key_is k x at = all_at (λ p. p.key ≡ key_of ws p.unit) plan.planned is.keys k x at

    out_is : (k : ℕ) (x : Planned) → slice_get plan.planned k ≡ Some x → x.out ≡ below (profile_folder ws profile) (key_of ws x.unit)
    out_is k x at = all_at (λ p. p.out ≡ below (profile_folder ws profile) p.key) plan.planned is.folders k x at ∙ ap (below (profile_folder ws profile)) (key_is k x at)

    order_of : AllPairs (λ x y. Earlier unit_of (key_of ws) level needed Need above level_at refl above_more level_is (x.level, x.unit) (y.level, y.unit)) plan.planned
    order_of i j d lt within =
        let first : i < length plan.planned = omega (arith, lt, within) in
        earlier (slice_index_or plan.planned i d) (slice_index_or plan.planned j d) (is.keys i d first) (is.keys j d within) (is.order i j d lt within)

  -- settings by the unit
  settings_same : (line : List Seen) (x y : Planned) → x.unit ≡ y.unit → HasSettings ws line x → HasSettings ws line y → x.settings ≡ y.settings
  settings_same line x y same one other =
      let owners : Some one.owner ≡ Some other.owner = sym one.package_at ∙ (ap (λ (u : Unit). slice_get ws.packages u.package) same ∙ other.package_at) in
      let packages : one.owner ≡ other.owner = same_Some one.owner other.owner owners in
      one.settings ∙ (ap₂ (λ (p : Package) (u : Unit). settings_along p (role_of u) line) packages same ∙ sym other.settings)

  planned_same : (x y : Planned) → x.unit ≡ y.unit → x.key ≡ y.key → x.out ≡ y.out → x.level ≡ y.level → x.needs ≡ y.needs → x.reaches ≡ y.reaches → x.settings ≡ y.settings → x ≡ y
  planned_same x y units keys outs levels needs reaches settings =
      ap (λ z. record x { unit = z }) units ∙ (ap (λ z. record x { unit = y.unit; key = z }) keys ∙ (ap (λ z. record x { unit = y.unit; key = y.key; out = z }) outs
      ∙ (ap (λ z. record x { unit = y.unit; key = y.key; out = y.out; level = z }) levels ∙ (ap (λ z. record x { unit = y.unit; key = y.key; out = y.out; level = y.level; needs = z }) needs
      ∙ (ap (λ z. record x { unit = y.unit; key = y.key; out = y.out; level = y.level; needs = y.needs; reaches = z }) reaches
      ∙ ap (λ z. record x { unit = y.unit; key = y.key; out = y.out; level = y.level; needs = y.needs; reaches = y.reaches; settings = z }) settings)))))

  module _ (a b : Plan) (is : IsPlan ws features selection profile a) (is' : IsPlan ws features selection profile b) where
    over : (u : Unit) → Contains (map unit_of a.planned) u → Contains (map unit_of b.planned) u
    over u has = (is'.units u).1 ((is.units u).0 has)

    back : (u : Unit) → Contains (map unit_of b.planned) u → Contains (map unit_of a.planned) u
    back u has = (is.units u).1 ((is'.units u).0 has)

    there : (k : ℕ) (x : Planned) → slice_get a.planned k ≡ Some x → (y : Planned) × (slice_get b.planned k ≡ Some y) × (x.level ≡ y.level) × (x.unit ≡ y.unit)
    there = same_index unit_of (key_of ws) level needed Need above level_at refl above_more level_is a.planned b.planned (levels_of a is) (levels_of b is') (needs_of_all a is) (needs_of_all b is') over back (order_of a is) (order_of b is')

    here : (k : ℕ) (y : Planned) → slice_get b.planned k ≡ Some y → (x : Planned) × (slice_get a.planned k ≡ Some x) × (y.level ≡ x.level) × (y.unit ≡ x.unit)
    here = same_index unit_of (key_of ws) level needed Need above level_at refl above_more level_is b.planned a.planned (levels_of b is') (levels_of a is) (needs_of_all b is') (needs_of_all a is) back over (order_of b is') (order_of a is)

    line_same : is.line ≡ is'.line
    line_same = let same : Ok is.line ≡ Ok is'.line = sym is.profile_has ∙ is'.profile_has in cc

    at_index : (k : ℕ) (x y : Planned) → slice_get a.planned k ≡ Some x → slice_get b.planned k ≡ Some y → (x.level ≡ y.level) × (x.unit ≡ y.unit)
    at_index k x y at at' =
        let (z, at'', levels, units) = there k x at in
        let same : z ≡ y = same_Some z y (sym at'' ∙ at') in (levels ∙ ap level same, units ∙ ap unit_of same)

    one_index : (k : ℕ) (x y : Planned) → slice_get a.planned k ≡ Some x → slice_get b.planned k ≡ Some y → x ≡ y
    one_index k x y at at' =
        let (levels, units) = at_index k x y at at' in
        planned_same x y units (key_is a is k x at ∙ (ap (key_of ws) units ∙ sym (key_is b is' k y at'))) (out_is a is k x at ∙ (ap (λ u. below (profile_folder ws profile) (key_of ws u)) units ∙ sym (out_is b is' k y at'))) levels
        (same_wanted unit_of (key_of ws) level needed Need above level_at refl above_more level_is a.planned b.planned needed Need there here (needs_of_all a is) (needs_of_all b is') k x y at at' units
        (needs_are a is k x at).rises (needs_are b is' k y at').rises)
        (same_wanted unit_of (key_of ws) level needed Need above level_at refl above_more level_is a.planned b.planned reached Reach there here (reaches_of_all a is) (reaches_of_all b is') k x y at at' units
        (reaches_are a is k x at).rises (reaches_are b is' k y at').rises)
        (settings_same is.line x y units (all_at (HasSettings ws is.line) a.planned is.settings k x at)
        (subst (λ line. HasSettings ws line y) (sym line_same) (all_at (HasSettings ws is'.line) b.planned is'.settings k y at')))

    units_same : a.planned ≡ b.planned
    units_same =
        same_list a.planned b.planned
        (same_length unit_of (key_of ws) level needed Need above level_at refl above_more level_is a.planned b.planned (levels_of a is) (levels_of b is') (needs_of_all a is) (needs_of_all b is') over back (order_of a is) (order_of b is'))
        one_index

    without_same : a.without_library ≡ b.without_library
    without_same =
        same_texts a.without_library b.without_library is.without_library.order is'.without_library.order
        (λ name. (λ has. (is'.without_library.same name).1 ((is.without_library.same name).0 has), λ has. (is.without_library.same name).1 ((is'.without_library.same name).0 has)))

    pub plans_same : a ≡ b
    plans_same = ap₂ (λ (us : List Planned) (names : List (List ℕ)). record { planned = us; without_library = names }) units_same without_same
