-- The candidates: which binaries and roots are among them, each once, each of a package that is there.
use Rattle.std.proofs.Common.{◌≡◌, ◌⊎◌, ◌↔◌, inl, inr, ◌+◌, ℕ, zero, suc, ◌<◌, Bool, true, false, ◌&&◌, eqb, List, [], ◌∷◌, ◌++◌, length, get_or, map, refl, sym, ap, subst, ◌∙◌, arith, Option, Some, None, slice_get, Contains, All}
use Rattle.std.specs.Prelude.{◌||◌}
use Rattle.std.specs.List.{list_all}
use Rattle.std.specs.List.Sorted.{IsStrictlySortedBy}
use Rattle.std.specs.Ordering.{ordering_then}
use Rattle.std.specs.declared.cmp.Ordering.{Ordering}
use Rattle.std.specs.declared.cmp.Ordering.TheVariants.{Less, Equal, Greater}
use Rattle.std.specs.Str.{bytes_eq}
use Rattle.std.proofs.lemmas.Bool.{false≢true, and_parts}
use Rattle.std.proofs.lemmas.Bool.Decides.{Decides-eqb}
use Rattle.std.proofs.lemmas.Cmp.{ranked, tied_itself, nat_list_cmp_total}
use Rattle.std.proofs.lemmas.Slice.Eq.{bytes_eq-Decides}
use Rattle.std.proofs.lemmas.Option.{slice_get_within, get_or_from_slice_get}
use Rattle.std.proofs.lemmas.Map.Keys.{Less-from_sorted}
use Rattle.std.proofs.lemmas.Map.Views.{Contains-from_any}
use Rattle.pb_data.specs.OrderedSet.{is_mentioned}
use Rattle.pb_data.proofs.MentionLemmas.{bytes_eq_same}
use Rattle.pb_graph.proofs.Placed.{placed_from, placed_to, where_true, at_true}
use Rattle.pb_graph.proofs.Membership.{none, single, head}
use Rattle.pb_graph.proofs.Elements.{at_from_contains, contains_from_at, all_from_at, all_at, contains_cases}
use Rattle.pb_workspace_types.specs.Settled.{IsSettled, IsPackage}
use Rattle.pb_workspace_types.specs.declared.package.Side.{Side}
use Rattle.pb_workspace_types.specs.declared.package.Side.TheVariants.{Target, Host}
use Rattle.pb_workspace_types.specs.declared.package.Package.{Package}
use Rattle.pb_workspace_types.specs.declared.package.Binary.{Binary}
use Rattle.pb_workspace_types.specs.declared.options.Selection.{Selection}
use Rattle.pb_workspace_types.specs.declared.workspace.Workspace.{Workspace}
use Rattle.pb_feature_types.specs.declared.features.Features.{Features}
use Rattle.pb_feature_types.specs.Features.{features_at}
use Rattle.pb_manifest_types.specs.Letters as letters
use Rattle.pb_unit.specs.declared.unit.Unit.{Unit}
use Rattle.pb_unit.specs.declared.unit.What.{What}
use Rattle.pb_unit.specs.declared.unit.What.TheVariants.{Lib, Bin, Script, Run}
use Rattle.pb_unit.specs.declared.candidates.Named.{Named}
use Rattle.pb_unit.specs.Units.{unit, asks_libraries, asks_binary, IsRoot, library, binary}
use Rattle.pb_unit.specs.Drawing.{number, fixed, binaries_of, named_by, named_at, all_named, named_cmp, unit_named, AreCandidates, AreRoots, is_target, root_of, is_root, root_at}
use Rattle.pb_unit.proofs.Sixes.{is_fixed, get_left, get_right, get_cases, fixed_at, fixed_is}
use Rattle.pb_unit.proofs.Keys.{IsNamedWell}
use Rattle.pb_unit.proofs.Graphs.{AreNumbered, get_map, get_map_back}

-- Texts that are mentioned.

pub mentions_all : (texts required : List (List ℕ)) → list_all (is_mentioned texts) required ≡ true → All (Contains texts) required
mentions_all texts required h = all_from_at (Contains texts) required (go required h)
  where
    go : (xs : List (List ℕ)) → list_all (is_mentioned texts) xs ≡ true → (k : ℕ) (x : List ℕ) → slice_get xs k ≡ Some x → Contains texts x
    go [] h k x at = cc
    go (y ∷ xs) h zero x at = let e : y ≡ x = cc in subst (Contains texts) e (Contains-from_any (λ a b t. (bytes_eq-Decides a b).0 t) y texts (and_parts _ _ h).0)
    go (y ∷ xs) h (suc k) x at = go xs (and_parts _ _ h).1 k x at

mentioned : (texts : List (List ℕ)) (x : List ℕ) → Contains texts x → is_mentioned texts x ≡ true
mentioned [] x has = absurd (none x has)
mentioned (y ∷ texts) x has = elim (contains_cases y texts x has) [
  | inl here ↦ or_left (bytes_eq x y) (is_mentioned texts x) (subst (λ z. bytes_eq x z ≡ true) (sym here) (bytes_eq_same x))
  | inr more ↦ or_right (bytes_eq x y) (is_mentioned texts x) (mentioned texts x more)
]
  where
    or_left : (a b : Bool) → a ≡ true → a || b ≡ true
    or_left true b h = refl
    or_left false b h = absurd (false≢true h)

    or_right : (a b : Bool) → b ≡ true → a || b ≡ true
    or_right true b h = refl
    or_right false b h = h

pub all_mentioned : (texts required : List (List ℕ)) → All (Contains texts) required → list_all (is_mentioned texts) required ≡ true
all_mentioned texts required h = go required (λ k x at. all_at (Contains texts) required h k x at)
  where
    both : (a b : Bool) → a ≡ true → b ≡ true → a && b ≡ true
    both true b p q = q
    both false b p q = absurd (false≢true p)

    go : (xs : List (List ℕ)) → ((k : ℕ) (x : List ℕ) → slice_get xs k ≡ Some x → Contains texts x) → list_all (is_mentioned texts) xs ≡ true
    go [] h = refl
    go (y ∷ xs) h = both (is_mentioned texts y) (list_all (is_mentioned texts) xs) (mentioned texts y (h 0 y refl)) (go xs (λ k x at. h (suc k) x at))

both_true : (a b : Bool) → a ≡ true → b ≡ true → a && b ≡ true
both_true true b p q = q
both_true false b p q = absurd (false≢true p)

-- Binaries.

abbrev named : ℕ → List ℕ → Named
named p n = record { owner = p; name = n }

named_same : (p q : ℕ) (n m : List ℕ) → p ≡ q → n ≡ m → named p n ≡ named q m
named_same p q n m e f = ap (λ o. named o n) e ∙ ap (λ t. named q t) f

-- equality of two, as it is derived
pub named_eq : (x y : Named) (d : Bool) → (eqb x.owner y.owner && d) ≡ true → (d ≡ true → x.name ≡ y.name) → x ≡ y
named_eq x y d h names = named_same x.owner y.owner x.name y.name ((Decides-eqb x.owner y.owner).0 (and_parts _ _ h).0) (names (and_parts _ _ h).1)

then_less : (o p : Ordering) → ordering_then o p ≡ Less → (o ≡ Less) ⊎ ((o ≡ Equal) × (p ≡ Less))
then_less Less p h = inl refl
then_less Equal p h = inr (refl, h)
then_less Greater p h = absurd (let e : Greater ≡ Less = h in cc)

not_below_itself : (b : Named) → named_cmp b b ≡ Less → ⊥
not_below_itself b less = elim (then_less _ _ less) [
  | inl first ↦ (let lt : b.owner < b.owner = ranked b.owner b.owner Less (sym first) in omega arith)
  | inr rest ↦ (let no : Less ≡ Equal = sym rest.1 ∙ tied_itself nat_list_cmp_total b.name in cc)
]

-- one in order stands at one index
later : (xs : List Named) (i j : ℕ) (b : Named) → IsStrictlySortedBy named_cmp xs → i < j → slice_get xs i ≡ Some b → slice_get xs j ≡ Some b → ⊥
later xs i j b rises lt x y =
    let less = Less-from_sorted named_cmp xs i j b rises lt (slice_get_within xs j b y) in
    not_below_itself b (subst (λ (z : Named). named_cmp z b ≡ Less) (get_or_from_slice_get xs i b b x) (subst (λ (z : Named). named_cmp (get_or xs i b) z ≡ Less) (get_or_from_slice_get xs j b b y) less))

once_named : (xs : List Named) (i j : ℕ) (b : Named) → IsStrictlySortedBy named_cmp xs → slice_get xs i ≡ Some b → slice_get xs j ≡ Some b → i ≡ j
once_named xs i j b rises x y = elim (nat_cases i j) [
  | inl lt ↦ absurd (later xs i j b rises lt x y)
  | inr (inl e) ↦ e
  | inr (inr gt) ↦ absurd (later xs j i b rises gt y x)
]
  where
    nat_cases : (n m : ℕ) → (n < m) ⊎ ((n ≡ m) ⊎ (m < n))
    nat_cases zero zero = inr (inl refl)
    nat_cases zero (suc m) = inl (omega arith)
    nat_cases (suc n) zero = inr (inr (omega arith))
    nat_cases (suc n) (suc m) = elim (nat_cases n m) [
      | inl lt ↦ inl (omega (arith, lt))
      | inr (inl e) ↦ inr (inl (ap suc e))
      | inr (inr gt) ↦ inr (inr (omega (arith, gt)))
    ]

bin_name : (n m : List ℕ) → Bin n ≡ Bin m → n ≡ m
bin_name n m e = cc

module _ (ws : Workspace) (features : Features) (selection : Selection) where
  -- what a binary that is a root says
  pub record IsNamed (b : Named) : Type 0 where
    pub owner : Package
    pub made : Binary
    pub selected : Contains selection.packages b.owner
    pub package_at : slice_get ws.packages b.owner ≡ Some owner
    pub there : Contains owner.binaries made
    pub name : made.name ≡ b.name
    pub asked : asks_binary selection made.name ≡ true
    pub on : All (Contains (features_at features b.owner Target)) made.required_features

  binary_there : (p : ℕ) (k : ℕ) (made : Binary) → slice_get (binaries_of (slice_get ws.packages p)) k ≡ Some made → (owner : Package) × (slice_get ws.packages p ≡ Some owner) × Contains owner.binaries made
  binary_there p k made at = by (slice_get ws.packages p) refl at
    where
      by : (o : Option Package) → slice_get ws.packages p ≡ o → slice_get (binaries_of o) k ≡ Some made → (owner : Package) × (slice_get ws.packages p ≡ Some owner) × Contains owner.binaries made
      by None here at = cc
      by (Some owner) here at = (owner, here, contains_from_at owner.binaries k made at)

  pub named_to : (b : Named) → Contains (all_named ws features selection) b → IsNamed b
  named_to b has =
      let (k, p, at, has') = placed_from (named_at ws features selection) selection.packages b has in
      let (j, made, index, has'') = placed_from (named_by selection (features_at features p Target) p) (binaries_of (slice_get ws.packages p)) b has' in
      let (test, one) = where_true _ (named p made.name ∷ []) b has'' in
      let same : named p made.name ≡ b = single (named p made.name) b one in
      let (owner, package_at, there) = binary_there p j made index in
      let tests = and_parts _ _ test in
      subst IsNamed same (record {
        owner = owner;
        made = made;
        selected = contains_from_at selection.packages k p at;
        package_at = package_at;
        there = there;
        name = refl;
        asked = tests.0;
        on = mentions_all (features_at features p Target) made.required_features tests.1;
      })

  pub named_from : (b : Named) → IsNamed b → Contains (all_named ws features selection) b
  named_from b h =
      let (k, at) = at_from_contains selection.packages b.owner h.selected in
      let (j, index) = at_from_contains h.owner.binaries h.made h.there in
      let lookup : slice_get (binaries_of (slice_get ws.packages b.owner)) j ≡ Some h.made = ap (λ o. slice_get (binaries_of o) j) h.package_at ∙ index in
      let same : named b.owner h.made.name ≡ b = named_same b.owner b.owner h.made.name b.name refl h.name in
      let test = both_true (asks_binary selection h.made.name) (list_all (is_mentioned (features_at features b.owner Target)) h.made.required_features) h.asked (all_mentioned (features_at features b.owner Target) h.made.required_features h.on) in
      let one : Contains (named_by selection (features_at features b.owner Target) b.owner j h.made) b = at_true _ (named b.owner h.made.name ∷ []) b test (subst (Contains (named b.owner h.made.name ∷ [])) same (head (named b.owner h.made.name) [])) in
      placed_to (named_at ws features selection) selection.packages k b.owner b at (placed_to (named_by selection (features_at features b.owner Target) b.owner) (binaries_of (slice_get ws.packages b.owner)) j h.made b lookup one)

  pub named_root : (b : Named) → IsNamed b → IsRoot ws features selection (unit_named b)
  named_root b h = subst (λ n. IsRoot ws features selection (unit b.owner Target (Bin n))) h.name (binary b.owner h.owner h.made h.selected h.package_at h.there h.asked h.on)

  named_at_root : (u : Unit) (p : ℕ) (n : List ℕ) → IsRoot ws features selection u → u ≡ unit p Target (Bin n) → IsNamed (named p n)
  named_at_root _ p n (library q selected asked there) e = absurd (let w : Lib ≡ Bin n = ap (λ (x : Unit). x.what) e in cc)
  named_at_root _ p n (binary q owner made selected package_at there asked on) e =
      let names : made.name ≡ n = bin_name made.name n (ap (λ (x : Unit). x.what) e) in
      let indices : q ≡ p = ap (λ (x : Unit). x.package) e in
      subst (λ (o : ℕ). IsNamed (named o n)) indices (record { owner = owner; made = made; selected = selected; package_at = package_at; there = there; name = names; asked = asked; on = on })

  -- the candidates
  module _ (units : List Unit) (settled : IsSettled ws) (all_selected : All (λ p. p < length ws.packages) selection.packages) (are : AreCandidates ws features selection units) where
    named_owner : (b : Named) → Contains are.named b → b.owner < length ws.packages
    named_owner b has =
        let h = named_to b ((are.same b).0 has) in
        let (k, at) = at_from_contains selection.packages b.owner h.selected in
        all_at (λ p. p < length ws.packages) selection.packages all_selected k b.owner at

    -- what stands at a number: a unit of a package, or a binary that is a root
    data Stands (i : ℕ) (u : Unit) : Type 0 where
      among : (at : slice_get (fixed ws.packages) i ≡ Some u) → Stands i u
      behind : (j : ℕ) (b : Named) (index : i ≡ length (fixed ws.packages) + j) (at : slice_get are.named j ≡ Some b) (is : unit_named b ≡ u) → Stands i u

    stands : (i : ℕ) (u : Unit) → slice_get units i ≡ Some u → Stands i u
    stands i u at = elim (get_cases (fixed ws.packages) (map unit_named are.named) i u (ap (λ (l : List Unit). slice_get l i) (sym are.is) ∙ at)) [
      | inl here ↦ among here
      | inr there ↦ (let (b, index, is) = get_map_back unit_named are.named there.0 u there.2 in behind there.0 b there.1 index is)
    ]

    back : (i : ℕ) (u : Unit) → slice_get (fixed ws.packages ++ map unit_named are.named) i ≡ Some u → slice_get units i ≡ Some u
    back i u at = ap (λ (l : List Unit). slice_get l i) are.is ∙ at

    not_fixed : (b : Named) (u : Unit) → unit_named b ≡ u → is_fixed u.what ≡ true → ⊥
    not_fixed b u e kind = false≢true (ap (λ (x : Unit). is_fixed x.what) e ∙ kind)

    owner_at : (i : ℕ) (u : Unit) → Stands i u → u.package < length ws.packages
    owner_at i u (among at) = (fixed_is ws.packages i u at).owner
    owner_at i u (behind j b index at is) = subst (λ (x : Unit). x.package < length ws.packages) is (named_owner b (contains_from_at are.named j b at))

    one_index : (i j : ℕ) (u : Unit) → Stands i u → Stands j u → i ≡ j
    one_index i j u (among x) (among y) = sym (fixed_is ws.packages i u x).number ∙ (fixed_is ws.packages j u y).number
    one_index i j u (among x) (behind k b index at is) = absurd (not_fixed b u is (fixed_is ws.packages i u x).kind)
    one_index i j u (behind k b index at is) (among y) = absurd (not_fixed b u is (fixed_is ws.packages j u y).kind)
    one_index i j u (behind k b index at is) (behind l c index' at' is') =
        let e : unit_named b ≡ unit_named c = is ∙ sym is' in
        let same : b ≡ c = named_same b.owner c.owner b.name c.name (ap (λ (x : Unit). x.package) e) (bin_name b.name c.name (ap (λ (x : Unit). x.what) e)) in
        let indices : k ≡ l = once_named are.named k l c are.rises (at ∙ ap (λ (x : Named). Some x) same) at' in
        omega (arith, index, index', indices)

    pub numbered : AreNumbered ws units
    numbered = record {
      owners = λ i u at. owner_at i u (stands i u at);
      at_number = λ u there. back (number u) u (get_left (fixed ws.packages) (map unit_named are.named) (number u) u (fixed_at ws.packages u.package u.side u.what there.kind there.owner));
      once = λ i j u x y. one_index i j u (stands i u x) (stands j u y);
    }

    pub owners_few : (lent : List Unit) → lent ≡ units → All (λ (u : Unit). u.package < 256) lent
    owners_few lent same = subst (λ (l : List Unit). All (λ (u : Unit). u.package < 256) l) (sym same) (all_from_at (λ (u : Unit). u.package < 256) units (λ i u at. let lt = numbered.owners i u at in let few = settled.few in omega (arith, lt, few)))

    pub owners_there : (lent : List Unit) → lent ≡ units → All (λ (u : Unit). u.package < length ws.packages) lent
    owners_there lent same = subst (λ (l : List Unit). All (λ (u : Unit). u.package < length ws.packages) l) (sym same) (all_from_at (λ (u : Unit). u.package < length ws.packages) units (λ i u at. numbered.owners i u at))

    -- a binary's name has the letters of names
    named_well : (b : Named) → Contains are.named b → letters.is_name b.name ≡ true
    named_well b has =
        let h = named_to b ((are.same b).0 has) in
        let (k, at) = at_from_contains h.owner.binaries h.made h.there in
        subst (λ n. letters.is_name n ≡ true) h.name
        (all_at (λ (x : Binary). letters.is_name x.name ≡ true) h.owner.binaries (all_at (IsPackage (length ws.packages)) ws.packages settled.packages b.owner h.owner h.package_at).binary_names k h.made at)

    fixed_well : (w : What) → is_fixed w ≡ true → IsNamedWell w
    fixed_well (Bin name) kind = absurd (false≢true kind)
    fixed_well _ kind = tt

    well_at : (i : ℕ) (u : Unit) → Stands i u → IsNamedWell u.what
    well_at i u (among at) = fixed_well u.what (fixed_is ws.packages i u at).kind
    well_at i u (behind j b index at is) = subst (λ (x : Unit). IsNamedWell x.what) is (named_well b (contains_from_at are.named j b at))

    pub well : (i : ℕ) (u : Unit) → slice_get units i ≡ Some u → IsNamedWell u.what
    well i u at = well_at i u (stands i u at)

    -- Roots.

    pub root_there : (u : Unit) → IsRoot ws features selection u → (i : ℕ) × (slice_get units i ≡ Some u)
    root_there _ (library p selected asked there) =
        let (k, at) = at_from_contains selection.packages p selected in
        let inside = all_at (λ q. q < length ws.packages) selection.packages all_selected k p at in
        (number (unit p Target Lib), numbered.at_number (unit p Target Lib) (record { kind = refl; owner = inside }))
    root_there _ (binary p owner made selected package_at there asked on) =
        let b : Named = named p made.name in
        let has = (are.same b).1 (named_from b (record { owner = owner; made = made; selected = selected; package_at = package_at; there = there; name = refl; asked = asked; on = on })) in
        let (j, at) = at_from_contains are.named b has in
        let i = length (fixed ws.packages) + j in
        (i, back i (unit_named b) (get_right (fixed ws.packages) (map unit_named are.named) j ∙ get_map unit_named are.named j b at))

    module _ (roots : List ℕ) (h : AreRoots ws selection units roots) where
      side_target : (s : Side) → is_target s ≡ true → s ≡ Target
      side_target Target e = refl
      side_target Host e = absurd (false≢true e)

      is_root_to : (i p : ℕ) (s : Side) (w : What) → slice_get units i ≡ Some (unit p s w) → root_of ws (asks_libraries selection) h.marks p s w ≡ true → IsRoot ws features selection (unit p s w)
      is_root_to i p s Lib at test =
          let (first, has) = and_parts _ _ test in
          let (second, on) = and_parts _ _ first in
          let (asked, side) = and_parts _ _ second in
          subst (λ t. IsRoot ws features selection (unit p t Lib)) (sym (side_target s side)) (library p ((h.are p).0 on) asked has)
      is_root_to i p s (Bin name) at test = by (stands i (unit p s (Bin name)) at)
        where
          by : Stands i (unit p s (Bin name)) → IsRoot ws features selection (unit p s (Bin name))
          by (among here) = absurd (false≢true (fixed_is ws.packages i (unit p s (Bin name)) here).kind)
          by (behind j b index there is) = subst (IsRoot ws features selection) is (named_root b (named_to b ((are.same b).0 (contains_from_at are.named j b there))))
      is_root_to i p s Script at test = absurd (false≢true test)
      is_root_to i p s Run at test = absurd (false≢true test)

      is_root_from : (u : Unit) → IsRoot ws features selection u → is_root ws (asks_libraries selection) h.marks u ≡ true
      is_root_from _ (library p selected asked there) = both_true _ _ (both_true _ _ (both_true _ _ asked refl) ((h.are p).1 selected)) there
      is_root_from _ (binary p owner made selected package_at there asked on) = refl

      pub roots_are : (i : ℕ) → Contains roots i ↔ ((u : Unit) × (slice_get units i ≡ Some u) × IsRoot ws features selection u)
      roots_are i = (
        λ has.
            let (k, u, at, given) = placed_from (root_at ws (asks_libraries selection) h.marks) units i (subst (λ (l : List ℕ). Contains l i) h.is has) in
            let (test, one) = where_true (is_root ws (asks_libraries selection) h.marks u) (k ∷ []) i given in
            let index : slice_get units i ≡ Some u = ap (slice_get units) (sym (single k i one)) ∙ at in
            (u, index, is_root_to i u.package u.side u.what index test),
        λ some.
            let (u, at, is) = some in
            subst (λ (l : List ℕ). Contains l i) (sym h.is) (placed_to (root_at ws (asks_libraries selection) h.marks) units i u i at (at_true (is_root ws (asks_libraries selection) h.marks u) (i ∷ []) i (is_root_from u is) (head i []))),
      )
