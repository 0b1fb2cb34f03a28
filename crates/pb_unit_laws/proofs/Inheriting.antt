-- The line of a profile, and why there is none, step by step; and that there is one answer.
use Rattle.std.proofs.Common.{◌≡◌, ◌⊎◌, inl, inr, ℕ, zero, suc, ◌+◌, ◌≤◌, Bool, true, false, ◌||◌, List, [], ◌∷◌, Option, Some, None, Result, Ok, Err, refl, sym, ◌∙◌, ap, subst, codes, if◌then◌else◌, length, arith}
use Rattle.std.specs.Option.{option_map}
use Rattle.std.specs.Str.{bytes_eq}
use Rattle.std.proofs.lemmas.Slice.Eq.{bytes_eq-Decides}
use Rattle.pb_data.specs.UnlessOom.{◌>>=◌}
use Rattle.pb_manifest_types.specs.declared.profile.Profile.{Profile}
use Rattle.pb_profile.specs.Laws.{InheritsFrom, IsLine as SeenLine, last as seen_last, further as seen_further, IsAncestor as SeenAncestor, itself as seen_itself, higher as seen_higher, IsMissing, ComesBack}
use Rattle.pb_profile.specs.Line.{Seen, above, custom_parent, inherited, is_either, line_of, line_within, named, parent_of, seen_at, then_above}
use Rattle.pb_profile.specs.declared.fault.ProfileFault.{ProfileFault}
use Rattle.pb_profile.specs.declared.fault.ProfileFault.TheVariants.{NoSuchProfile, InheritsCycle}
use Rattle.pb_profile.proofs.Lines.{GoesOn, is_line, is_missing, goes_on}
use Rattle.pb_profile.proofs.Rings.{comes_back}
use Rattle.pb_unit_laws.specs.Profiles.{Inherits, test, bench, custom, IsAncestor, itself, higher, IsLine, last, further, missing, cycle, LinesAreThese}

abbrev Name : Type 0
Name = List ℕ

abbrev Parent : Type 0
Parent = Result (Option Name) ProfileFault

-- neither of two
first_off : (a b : Bool) → (a || b) ≡ false → a ≡ false
first_off true b e = e
first_off false b e = refl

second_off : (a b : Bool) → (a || b) ≡ false → b ≡ false
second_off true b e = absurd (cc)
second_off false b e = e

all_off : (a b c : Bool) → a ≡ false → b ≡ false → c ≡ false → (a || (b || c)) ≡ false
all_off true b c x y z = x
all_off false true c x y z = y
all_off false false c x y z = z

-- the last of some choices
last_choice : (a b c : Bool) (x y z w : Parent) → a ≡ false → b ≡ false → c ≡ false → (if a then x else (if b then y else (if c then z else w))) ≡ w
last_choice true b c x y z w off off' off'' = absurd (cc)
last_choice false true c x y z w off off' off'' = absurd (cc)
last_choice false false true x y z w off off' off'' = absurd (cc)
last_choice false false false x y z w off off' off'' = refl

first_choice : (a : Bool) (x w : Parent) → a ≡ true → (if a then x else w) ≡ x
first_choice true x w on = refl
first_choice false x w on = absurd (cc)

module _ (ps : List Profile) where
  abbrev shown : Parent → Result (Option Seen) ProfileFault
  shown r = r >>= (λ parent. Ok (option_map (seen_at ps) parent))

  abbrev is_bottom : Name → Bool
  is_bottom name = is_either (codes "dev") (codes "release") name

  -- from names to profiles

  custom_is : (name : Name) → is_bottom name || is_either (codes "test") (codes "bench") name ≡ false → parent_of (seen_at ps name) ≡ custom_parent (named ps name)
  custom_is name other =
      let off = second_off (is_bottom name) (is_either (codes "test") (codes "bench") name) other in
      last_choice (is_bottom name) (bytes_eq name (codes "test")) (bytes_eq name (codes "bench")) (Ok None) (Ok (Some (codes "dev"))) (Ok (Some (codes "release"))) (custom_parent (named ps name))
      (first_off (is_bottom name) (is_either (codes "test") (codes "bench") name) other) (first_off (bytes_eq name (codes "test")) (bytes_eq name (codes "bench")) off) (second_off (bytes_eq name (codes "test")) (bytes_eq name (codes "bench")) off)

  leads : (a b : Name) → Inherits ps a b → InheritsFrom ps (seen_at ps a) (seen_at ps b)
  leads _ _ test = refl
  leads _ _ bench = refl
  leads _ _ (custom name parent p other there written) = ap shown (custom_is name other ∙ ap custom_parent there ∙ ap inherited written)

  bottom_is : (name : Name) → is_bottom name ≡ true → above ps (seen_at ps name) ≡ Ok None
  bottom_is name on = ap shown (first_choice (is_bottom name) (Ok None) (if bytes_eq name (codes "test") then Ok (Some (codes "dev")) else (if bytes_eq name (codes "bench") then Ok (Some (codes "release")) else custom_parent (named ps name))) on)

  -- and back

  written_parent : (o : Option Name) (parent : Name) → inherited o ≡ Ok (Some parent) → o ≡ Some parent
  written_parent None parent e = absurd (cc)
  written_parent (Some q) parent e = cc

  parent_back : (name parent : Name) → parent_of (seen_at ps name) ≡ Ok (Some parent) → Inherits ps name parent
  parent_back name parent e = by (is_bottom name) refl (bytes_eq name (codes "test")) refl (bytes_eq name (codes "bench")) refl e
    where
      of_table : (t : Option Profile) → named ps name ≡ t → is_bottom name || is_either (codes "test") (codes "bench") name ≡ false → custom_parent t ≡ Ok (Some parent) → Inherits ps name parent
      of_table None is other e = absurd (cc)
      of_table (Some p) is other e = custom name parent p other is (written_parent p.inherits parent e)

      by : (a : Bool) → is_bottom name ≡ a → (b : Bool) → bytes_eq name (codes "test") ≡ b → (c : Bool) → bytes_eq name (codes "bench") ≡ c
          → (if a then Ok None else (if b then Ok (Some (codes "dev")) else (if c then Ok (Some (codes "release")) else custom_parent (named ps name)))) ≡ Ok (Some parent) → Inherits ps name parent
      by true a b b' c c' e = absurd (cc)
      by false a true b' c c' e = let same : codes "dev" ≡ parent = cc in subst (λ n. Inherits ps n parent) (sym ((bytes_eq-Decides name (codes "test")).0 b')) (subst (Inherits ps (codes "test")) same test)
      by false a false b' true c' e = let same : codes "release" ≡ parent = cc in subst (λ n. Inherits ps n parent) (sym ((bytes_eq-Decides name (codes "bench")).0 c')) (subst (Inherits ps (codes "bench")) same bench)
      by false a false b' false c' e = of_table (named ps name) refl (all_off (is_bottom name) (bytes_eq name (codes "test")) (bytes_eq name (codes "bench")) a b' c') e

  -- what is seen above a profile
  record Above (name : Name) (t : Seen) : Type 0 where
    pub parent : Name
    pub is : t ≡ seen_at ps parent
    pub inherits : Inherits ps name parent

  above_back : (name : Name) (t : Seen) → InheritsFrom ps (seen_at ps name) t → Above name t
  above_back name t e = by (parent_of (seen_at ps name)) refl e
    where
      by : (r : Parent) → parent_of (seen_at ps name) ≡ r → shown r ≡ Ok (Some t) → Above name t
      by (Ok None) is e = absurd (cc)
      by (Ok (Some parent)) is e = let same : seen_at ps parent ≡ t = cc in record { parent = parent; is = sym same; inherits = parent_back name parent is }
      by (Err f) is e = absurd (cc)

  bottom_back : (name : Name) → above ps (seen_at ps name) ≡ Ok None → is_bottom name ≡ true
  bottom_back name e = by (is_bottom name) refl (bytes_eq name (codes "test")) (bytes_eq name (codes "bench")) (named ps name) e
    where
      of_table : (o : Option Name) → shown (inherited o) ≡ Ok None → is_bottom name ≡ true
      of_table None e = absurd (cc)
      of_table (Some q) e = absurd (cc)

      by : (a : Bool) → is_bottom name ≡ a → (b c : Bool) (t : Option Profile)
          → shown (if a then Ok None else (if b then Ok (Some (codes "dev")) else (if c then Ok (Some (codes "release")) else custom_parent t))) ≡ Ok None → is_bottom name ≡ true
      by true a b c t e = a
      by false a true c t e = absurd (cc)
      by false a false true t e = absurd (cc)
      by false a false false None e = absurd (cc)
      by false a false false (Some p) e = of_table p.inherits e

  -- nothing else is told of one profile than that there is none
  one_fault : (s : Seen) (f : ProfileFault) → above ps s ≡ Err f → f ≡ NoSuchProfile
  one_fault s f e = by (is_bottom s.name) (bytes_eq s.name (codes "test")) (bytes_eq s.name (codes "bench")) s.table e
    where
      of_table : (o : Option Name) → shown (inherited o) ≡ Err f → f ≡ NoSuchProfile
      of_table None e = cc
      of_table (Some q) e = absurd (cc)

      by : (a b c : Bool) (t : Option Profile) → shown (if a then Ok None else (if b then Ok (Some (codes "dev")) else (if c then Ok (Some (codes "release")) else custom_parent t))) ≡ Err f → f ≡ NoSuchProfile
      by true b c t e = absurd (cc)
      by false true c t e = absurd (cc)
      by false false true t e = absurd (cc)
      by false false false None e = cc
      by false false false (Some p) e = of_table p.inherits e

  two_behind : (s : Seen) (rest : Result (List Seen) ProfileFault) (f : ProfileFault) → ((g : ProfileFault) → rest ≡ Err g → (g ≡ NoSuchProfile) ⊎ (g ≡ InheritsCycle)) → (rest >>= (λ l. Ok (s ∷ l))) ≡ Err f → (f ≡ NoSuchProfile) ⊎ (f ≡ InheritsCycle)
  two_behind s (Ok l) f known e = absurd (cc)
  two_behind s (Err g) f known e = let same : g ≡ f = cc in subst (λ h. (h ≡ NoSuchProfile) ⊎ (h ≡ InheritsCycle)) same (known g refl)

  two_by : (s : Seen) (line : Seen → Result (List Seen) ProfileFault) (f : ProfileFault) → ((t : Seen) (g : ProfileFault) → line t ≡ Err g → (g ≡ NoSuchProfile) ⊎ (g ≡ InheritsCycle))
      → (r : Result (Option Seen) ProfileFault) → above ps s ≡ r → (r >>= then_above line s) ≡ Err f → (f ≡ NoSuchProfile) ⊎ (f ≡ InheritsCycle)
  two_by s line f known (Ok None) is e = absurd (cc)
  two_by s line f known (Ok (Some t)) is e = two_behind s (line t) f (known t) e
  two_by s line f known (Err g) is e = let same : g ≡ f = cc in inl (one_fault s f (is ∙ ap Err same))

  two_faults : (n : ℕ) (s : Seen) (f : ProfileFault) → line_within n ps s ≡ Err f → (f ≡ NoSuchProfile) ⊎ (f ≡ InheritsCycle)
  two_faults zero s f e = let same : f ≡ InheritsCycle = cc in inr same
  two_faults (suc n) s f e = two_by s (line_within n ps) f (λ t g q. two_faults n t g q) (above ps s) refl e

  -- ---- what is given is so

  line_from : (a : Name) (s : Seen) (l : List Seen) → s ≡ seen_at ps a → SeenLine ps s l → IsLine ps a (Ok l)
  line_from a s _ is (seen_last _ ends) = subst (λ (x : Seen). IsLine ps a (Ok (x ∷ []))) (sym is) (last a (bottom_back a (subst (λ (x : Seen). above ps x ≡ Ok None) is ends)))
  line_from a s _ is (seen_further _ t line inherits rest) =
      let up = above_back a t (subst (λ (x : Seen). InheritsFrom ps x t) is inherits) in
      subst (λ (x : Seen). IsLine ps a (Ok (x ∷ line))) (sym is) (further a up.parent line up.inherits (line_from up.parent t line up.is rest))

  record Higher (a : Name) (t : Seen) : Type 0 where
    pub name : Name
    pub is : t ≡ seen_at ps name
    pub ancestor : IsAncestor ps a name

  ancestor_from : (a : Name) (s t : Seen) → s ≡ seen_at ps a → SeenAncestor ps s t → Higher a t
  ancestor_from a s _ is (seen_itself _) = record { name = a; is = is; ancestor = itself a }
  ancestor_from a s t is (seen_higher _ u _ inherits more) =
      let up = above_back a u (subst (λ (x : Seen). InheritsFrom ps x u) is inherits) in
      let h = ancestor_from up.parent u t up.is more in
      record { name = h.name; is = h.is; ancestor = higher a up.parent h.name up.inherits h.ancestor }

  missing_from : (a : Name) → IsMissing ps (seen_at ps a) → IsLine ps a (Err NoSuchProfile)
  missing_from a m =
      let h = ancestor_from a (seen_at ps a) m.profile refl m.ancestor in
      let fails : above ps (seen_at ps h.name) ≡ Err NoSuchProfile = subst (λ (x : Seen). above ps x ≡ Err NoSuchProfile) h.is m.missing in
      missing a h.name h.ancestor (off (is_bottom h.name) (λ on. let wrong : above ps (seen_at ps h.name) ≡ Ok None = bottom_is h.name on in cc))
      (λ parent inherits. let wrong : above ps (seen_at ps h.name) ≡ Ok (Some (seen_at ps parent)) = leads h.name parent inherits in cc)
    where
      off : (b : Bool) → (b ≡ true → ⊥) → b ≡ false
      off true never = absurd (never refl)
      off false never = refl

  cycle_from : (a : Name) → ComesBack ps (seen_at ps a) → IsLine ps a (Err InheritsCycle)
  cycle_from a c =
      let h = ancestor_from a (seen_at ps a) c.profile refl c.ancestor in
      let up = above_back h.name c.next (subst (λ (x : Seen). InheritsFrom ps x c.next) h.is c.inherits) in
      let b = ancestor_from up.parent c.next c.profile up.is c.back in
      let same : b.name ≡ h.name = ap (λ (x : Seen). x.name) (sym b.is ∙ h.is) in
      cycle a h.name up.parent h.ancestor up.inherits (subst (IsAncestor ps up.parent) same b.ancestor)

  told : (a : Name) (r : Result (List Seen) ProfileFault) → line_of ps a ≡ r → IsLine ps a r
  told a (Ok l) e = line_from a (seen_at ps a) l refl (is_line ps (length ps + 2) (seen_at ps a) l e)
  told a (Err f) e = elim (two_faults (length ps + 2) (seen_at ps a) f e) [
    | inl is ↦ subst (λ g. IsLine ps a (Err g)) (sym is) (missing_from a (is_missing ps (length ps + 2) (seen_at ps a) (e ∙ ap Err is)))
    | inr is ↦ subst (λ g. IsLine ps a (Err g)) (sym is) (cycle_from a (comes_back ps (seen_at ps a) refl (on (e ∙ ap Err is))))
  ]
    where
      two : (n : ℕ) → n + 2 ≡ suc (suc n)
      two n = omega arith

      on : line_of ps a ≡ Err InheritsCycle → GoesOn ps (suc (suc (length ps))) (seen_at ps a)
      on e = subst (λ n. GoesOn ps n (seen_at ps a)) (two (length ps)) (goes_on ps (length ps + 2) (seen_at ps a) e)

  -- ---- there is one answer

  none_above : (name parent : Name) → is_bottom name ≡ true → Inherits ps name parent → ⊥
  none_above _ _ on test = cc
  none_above _ _ on bench = cc
  none_above _ _ on (custom name parent p other there written) = let off = first_off (is_bottom name) (is_either (codes "test") (codes "bench") name) other in cc

  one_parent : (a b c : Name) → Inherits ps a b → Inherits ps a c → b ≡ c
  one_parent a b c first second =
      let one : Ok (Some (seen_at ps b)) ≡ Ok (Some (seen_at ps c)) = sym (leads a b first) ∙ leads a c second in
      let same : seen_at ps b ≡ seen_at ps c = cc in
      ap (λ (x : Seen). x.name) same

  one_line : (a : Name) (l k : List Seen) → IsLine ps a (Ok l) → IsLine ps a (Ok k) → l ≡ k
  one_line a _ _ (last _ on) (last _ _) = refl
  one_line a _ _ (last _ on) (further _ parent k inherits rest) = absurd (none_above a parent on inherits)
  one_line a _ _ (further _ parent l inherits rest) (last _ on) = absurd (none_above a parent on inherits)
  one_line a _ _ (further _ parent l inherits rest) (further _ other k inherits' rest') =
      ap (λ line. seen_at ps a ∷ line) (one_line parent l k rest (subst (λ n. IsLine ps n (Ok k)) (one_parent a other parent inherits' inherits) rest'))

  record Ends (m : Name) (most : ℕ) : Type 0 where
    pub line : List Seen
    pub is : IsLine ps m (Ok line)
    pub long : length line ≤ most

  -- each profile of a line has a line that is no longer
  ends : (a m : Name) (l : List Seen) → IsLine ps a (Ok l) → IsAncestor ps a m → Ends m (length l)
  ends a _ l is (itself _) = record { line = l; is = is; long = omega arith }
  ends a m _ (last _ on) (higher _ parent _ inherits more) = absurd (none_above a parent on inherits)
  ends a m _ (further _ other l inherits' rest) (higher _ parent _ inherits more) =
      let e = ends parent m l (subst (λ n. IsLine ps n (Ok l)) (one_parent a other parent inherits' inherits) rest) more in
      record { line = e.line; is = e.is; long = let le = e.long in omega arith }

  no_missing : (m : Name) (l : List Seen) → IsLine ps m (Ok l) → is_bottom m ≡ false → ((parent : Name) → Inherits ps m parent → ⊥) → ⊥
  no_missing m _ (last _ on) off none = cc
  no_missing m _ (further _ parent l inherits rest) off none = none parent inherits

  no_ring : (c b : Name) (l : List Seen) → IsLine ps c (Ok l) → Inherits ps c b → IsAncestor ps b c → ⊥
  no_ring c b _ (last _ on) inherits back = none_above c b on inherits
  no_ring c b _ (further _ other l inherits' rest) inherits back =
      let e = ends b c l (subst (λ n. IsLine ps n (Ok l)) (one_parent c other b inherits' inherits) rest) back in
      let same : length e.line ≡ suc (length l) = ap length (one_line c e.line (seen_at ps c ∷ l) e.is (further c other l inherits' rest)) in
      let le = e.long in
      omega arith

  onward : (x c b : Name) → IsAncestor ps x c → Inherits ps c b → IsAncestor ps x b
  onward x _ b (itself _) inherits = higher x b b inherits (itself b)
  onward x c b (higher _ parent _ up more) inherits = higher x parent b up (onward parent c b more inherits)

  -- the end of a line is above each profile of it
  meet : (a m c : Name) → ((parent : Name) → Inherits ps m parent → ⊥) → IsAncestor ps a m → IsAncestor ps a c → IsAncestor ps c m
  meet a m _ none to (itself _) = to
  meet a _ c none (itself _) (higher _ parent _ inherits more) = absurd (none parent inherits)
  meet a m c none (higher _ other _ inherits' more') (higher _ parent _ inherits more) = meet parent m c none (subst (λ n. IsAncestor ps n m) (one_parent a other parent inherits' inherits) more') more

  -- and there is no way out of a ring
  next_ring : (c b : Name) → Inherits ps c b → IsAncestor ps b c → (d : Name) × Inherits ps b d × IsAncestor ps d b
  next_ring c _ inherits (itself _) = (c, inherits, itself c)
  next_ring c b inherits (higher _ d _ inherits' more) = (d, inherits', onward d c b more inherits)

  no_end : (c b m : Name) → Inherits ps c b → IsAncestor ps b c → IsAncestor ps c m → ((parent : Name) → Inherits ps m parent → ⊥) → ⊥
  no_end c b _ inherits back (itself _) none = none b inherits
  no_end c b m inherits back (higher _ parent _ inherits' more) none =
      let same = one_parent c b parent inherits inherits' in
      let (d, next, again) = next_ring c parent inherits' (subst (λ n. IsAncestor ps n c) same back) in
      no_end parent d m next again more none

  one_missing : (a : Name) (l : List Seen) (m : Name) → IsLine ps a (Ok l) → IsAncestor ps a m → is_bottom m ≡ false → ((parent : Name) → Inherits ps m parent → ⊥) → ⊥
  one_missing a l m is to off none = let e = ends a m l is to in no_missing m e.line e.is off none

  one_cycle : (a : Name) (l : List Seen) (c b : Name) → IsLine ps a (Ok l) → IsAncestor ps a c → Inherits ps c b → IsAncestor ps b c → ⊥
  one_cycle a l c b is to inherits back = let e = ends a c l is to in no_ring c b e.line e.is inherits back

  one_fault_only : (a m c b : Name) → IsAncestor ps a m → ((parent : Name) → Inherits ps m parent → ⊥) → IsAncestor ps a c → Inherits ps c b → IsAncestor ps b c → ⊥
  one_fault_only a m c b to none way inherits back = no_end c b m inherits back (meet a m c none to way) none

  so_far : (a : Name) (r : Result (List Seen) ProfileFault) → IsLine ps a r → (q : Result (List Seen) ProfileFault) → IsLine ps a q → q ≡ r
  so_far a (Ok l) is (Ok k) was = ap Ok (one_line a k l was is)
  so_far a (Ok l) is (Err _) (missing _ m to off none) = absurd (one_missing a l m is to off none)
  so_far a (Ok l) is (Err _) (cycle _ c b to inherits back) = absurd (one_cycle a l c b is to inherits back)
  so_far a (Err _) (missing _ m to off none) (Ok k) was = absurd (one_missing a k m was to off none)
  so_far a (Err _) (cycle _ c b to inherits back) (Ok k) was = absurd (one_cycle a k c b was to inherits back)
  so_far a (Err _) (missing _ m to off none) (Err _) (missing _ m' to' off' none') = refl
  so_far a (Err _) (missing _ m to off none) (Err _) (cycle _ c b way inherits back) = absurd (one_fault_only a m c b to none way inherits back)
  so_far a (Err _) (cycle _ c b way inherits back) (Err _) (missing _ m to off none) = absurd (one_fault_only a m c b to none way inherits back)
  so_far a (Err _) (cycle _ c b way inherits back) (Err _) (cycle _ c' b' way' inherits' back') = refl

pub lines_are : LinesAreThese
lines_are ps name answer = (told ps name answer, λ is. so_far ps name answer is (line_of ps name) (told ps name (line_of ps name) refl))
