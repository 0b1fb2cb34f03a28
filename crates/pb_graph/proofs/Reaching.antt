-- The search from the roots.
use Rattle.std.proofs.Common.{◌≡◌, ◌⊎◌, inl, inr, ℕ, ◌+◌, ◌<◌, ◌≤◌, Bool, true, false, List, [], ◌∷◌, ◌++◌, length, get_or, refl, sym, ap, subst, ◌∙◌, arith, Contains, All, suc, length-append, set}
use Rattle.std.proofs.lemmas.List.{get_or_default}
use Rattle.std.proofs.lemmas.List.Elements.{Contains-append_left, Contains-push, Contains-push_cases, Contains-get_or}
use Rattle.std.proofs.lemmas.Bool.{cases_lt, cases_eq, false≢true}
use Rattle.std.proofs.lemmas.Grind.{common_steps}
use Rattle.std.proofs.Math.ListN.{length-set}
use Rattle.std.proofs.lemmas.List.{get_or_past, get_or-set_same, get_or-set_other}
use Rattle.pb_graph.specs.declared.graph.Node.{Node}
use Rattle.pb_graph.specs.Graph.{needs_at, Reaches, direct, onward, IsReached, IsGraph}
use Rattle.pb_graph.specs.Working.{IsMarked, unmarked, Marked, IsFound, AreClear, Clearing}

-- what is marked is reached; it was found, or waits, and the needs of what was found are marked
pub record Closing (nodes : List Node) (roots : List ℕ) (marks : List Bool) (waiting found : List ℕ) : Type 0 where
  pub long : length marks ≡ length nodes
  pub sound : (v : ℕ) → IsMarked marks v → IsReached nodes roots v
  pub started : (v : ℕ) → Contains roots v → IsMarked marks v
  pub waits : (v : ℕ) → Contains waiting v → IsMarked marks v
  pub finds : (v : ℕ) → Contains found v → IsMarked marks v
  pub all : (v : ℕ) → IsMarked marks v → Contains found v ⊎ Contains waiting v
  pub closed : (u v : ℕ) → Contains found u → Contains (needs_at nodes u) v → IsMarked marks v
  pub work : length found + (unmarked marks + length waiting) ≡ length nodes

pub reaches_more : (nodes : List Node) (u v w : ℕ) → Reaches nodes u v → Contains (needs_at nodes v) w → Reaches nodes u w
reaches_more nodes u v w (direct _ _ need) more = onward u v w need (direct v w more)
reaches_more nodes u v w (onward _ x _ need rest) more = onward u x w need (reaches_more nodes x v w rest more)

pub reached_more : (nodes : List Node) (roots : List ℕ) (u v : ℕ) → IsReached nodes roots u → Contains (needs_at nodes u) v → IsReached nodes roots v
reached_more nodes roots u v (inl root) need = inr (u, root, direct u v need)
reached_more nodes roots u v (inr (r, root, way)) need = inr (r, root, reaches_more nodes r u v way need)

-- each of a list is marked
pub each_marked : (list : List ℕ) (m0 : List Bool) (w0 : List ℕ) (m : List Bool) (w : List ℕ) → Marked list (length list) m0 w0 m w → (v : ℕ) → Contains list v → IsMarked m v
each_marked list m0 w0 m w h v (k, inside, at) = subst (IsMarked m) (get_or_default list k 0 v inside ∙ at) (h.each k inside)

next : (nodes : List Node) (roots : List ℕ) (marks : List Bool) (found : List ℕ) → Closing nodes roots marks [] found → (u v : ℕ) → IsMarked marks u → Contains (needs_at nodes u) v → IsMarked marks v
next nodes roots marks found h u v is need = elim (h.all u is) [ inl was ↦ h.closed u v was need | inr waits ↦ absurd (omega (arith, waits.1)) ]

-- at the end all that is reached is marked
all_reached : (nodes : List Node) (roots : List ℕ) (marks : List Bool) (found : List ℕ) → Closing nodes roots marks [] found → (u v : ℕ) → IsMarked marks u → Reaches nodes u v → IsMarked marks v
all_reached nodes roots marks found h u v is (direct _ _ need) = next nodes roots marks found h u v is need
all_reached nodes roots marks found h u w is (onward _ v _ need more) = all_reached nodes roots marks found h v w (next nodes roots marks found h u v is need) more

closed_all : (nodes : List Node) (roots : List ℕ) (marks : List Bool) (found : List ℕ) → Closing nodes roots marks [] found → IsFound nodes roots marks found
closed_all nodes roots marks found h = record {
  long = h.long;
  exact = λ v. (h.sound v, λ is. elim is [ inl root ↦ h.started v root | inr way ↦ all_reached nodes roots marks found h way.0 v (h.started way.0 way.1) way.2 ]);
  same = λ v. (h.finds v, λ is. elim (h.all v is) [ inl was ↦ was | inr waits ↦ absurd (omega (arith, waits.1)) ]);
  count = omega (arith, h.work);
}

pub found_all : (nodes : List Node) (roots : List ℕ) (marks : List Bool) (w found : List ℕ) → Closing nodes roots marks w found → length w ≡ 0 → IsFound nodes roots marks found
found_all nodes roots marks (u ∷ w) found h e = absurd (omega arith)
found_all nodes roots marks [] found h e = closed_all nodes roots marks found h

-- no marks: nothing is marked, and as many are unmarked as there are
pub all_unmarked : (marks : List Bool) → AreClear marks → unmarked marks ≡ length marks
all_unmarked [] none = omega arith
all_unmarked (true ∷ marks) none = absurd (none 0 refl)
all_unmarked (false ∷ marks) none = let h = all_unmarked marks (λ v is. none (suc v) is) in grind (arith, common_steps)

-- at the start the roots are marked, and wait
pub closing_start : (nodes : List Node) (roots : List ℕ) (m0 : List Bool) (w0 : List ℕ) (m : List Bool) (w found : List ℕ) → length m0 ≡ length nodes → AreClear m0 → w0 ≡ [] → found ≡ [] → Marked roots (length roots) m0 w0 m w → Closing nodes roots m w found
closing_start nodes roots m0 w0 m w found long none empty nothing h =
    let nobody : (v : ℕ) → Contains w0 v → ⊥ = λ v is. let is' : Contains [] v = subst (λ (x : List ℕ). Contains x v) empty is in omega (arith, is'.1) in
    let unfound : (v : ℕ) → Contains found v → ⊥ = λ v is. let is' : Contains [] v = subst (λ (x : List ℕ). Contains x v) nothing is in omega (arith, is'.1) in
    record {
      long = h.long ∙ long;
      sound = λ v is. elim (h.only v is) [ inl old ↦ absurd (none v old) | inr root ↦ inl root ];
      started = each_marked roots m0 w0 m w h;
      waits = λ v is. elim (h.waiting_only v is) [ inl old ↦ absurd (nobody v old) | inr mark ↦ mark ];
      finds = λ v is. absurd (unfound v is);
      all = λ v is. elim (h.new_waits v is) [ inl old ↦ absurd (none v old) | inr waits ↦ inr waits ];
      closed = λ u v is need. absurd (unfound u is);
      work = let clear = all_unmarked m0 none in let z : length w0 ≡ 0 = ap length empty in let y : length found ≡ 0 = ap length nothing in omega (arith, h.work, clear, long);
    }

-- one that waited is found, and its needs are marked
pub closing_step : (nodes : List Node) (roots : List ℕ) (u : ℕ) (m0 : List Bool) (w0 found : List ℕ) (m : List Bool) (w : List ℕ) → Closing nodes roots m0 (w0 ++ u ∷ []) found → Marked (needs_at nodes u) (length (needs_at nodes u)) m0 w0 m w → Closing nodes roots m w (found ++ u ∷ [])
closing_step nodes roots u m0 w0 found m w old h =
    let here : IsMarked m0 u = old.waits u (Contains-push w0 u) in
    record {
      long = h.long ∙ old.long;
      sound = λ v is. elim (h.only v is) [ inl was ↦ old.sound v was | inr need ↦ reached_more nodes roots u v (old.sound u here) need ];
      started = λ v is. h.kept v (old.started v is);
      waits = λ v is. elim (h.waiting_only v is) [ inl was ↦ h.kept v (old.waits v (Contains-append_left w0 (u ∷ []) v was)) | inr mark ↦ mark ];
      finds = λ v is. elim (Contains-push_cases found u v is) [ inl was ↦ h.kept v (old.finds v was) | inr e ↦ subst (IsMarked m) e (h.kept u here) ];
      all = λ v is. elim (h.new_waits v is) [
        | inl was ↦ elim (old.all v was) [
          | inl fd ↦ inl (Contains-append_left found (u ∷ []) v fd)
          | inr waits ↦ elim (Contains-push_cases w0 u v waits) [
            | inl still ↦ inr (h.waiting_kept v still)
            | inr e ↦ inl (subst (Contains (found ++ u ∷ [])) e (Contains-push found u))
          ]
        ]
        | inr waits ↦ inr waits
      ];
      closed = λ a v is need. elim (Contains-push_cases found u a is) [
        | inl was ↦ h.kept v (old.closed a v was need)
        | inr e ↦ each_marked _ m0 w0 m w h v (subst (λ b. Contains (needs_at nodes b) v) (sym e) need)
      ];
      work = omega (arith, h.work, old.work, length-append found (u ∷ []), length-append w0 (u ∷ []));
    }

-- the needs of a node are nodes
pub needs_within : (nodes : List Node) (u : ℕ) (list : List ℕ) (m : List Bool) → IsGraph nodes → list ≡ needs_at nodes u → length m ≡ length nodes → All (λ v. v < length m) list
needs_within nodes u list m g is long k d h = let lt = g.within u (get_or list k d) (subst (λ (x : List ℕ). Contains x (get_or list k d)) is (Contains-get_or list k d h)) in omega (arith, long, lt)

-- what is marked is a node
pub marked_within : (m : List Bool) (u : ℕ) → IsMarked m u → u < length m
marked_within m u is = elim (cases_lt u (length m)) [
  | inl lt ↦ lt
  | inr past ↦ absurd (false≢true (sym (get_or_past m u false past) ∙ is))
]

-- one that waits is a node
pub waits_within : (nodes : List Node) (roots : List ℕ) (m : List Bool) (w found : List ℕ) → Closing nodes roots m w found → (u : ℕ) → Contains w u → u < length nodes
waits_within nodes roots m w found h u is = let lt = marked_within m u (h.waits u is) in omega (arith, h.long, lt)

-- what was found is cleared
pub cleared_none : (nodes : List Node) (roots found : List ℕ) (m : List Bool) → IsFound nodes roots m found → Clearing found 0 m m
cleared_none nodes roots found m h = record {
  long = refl;
  left = λ v is. let (k, lt, at) = (h.same v).1 is in (k, omega arith, lt, get_or_default found k 0 v lt ∙ at);
}

pub cleared_more : (found : List ℕ) (i x : ℕ) (m0 m : List Bool) → Clearing found i m0 m → x ≡ get_or found i 0 → x < length m → Clearing found (i + 1) m0 (set m x false)
cleared_more found i x m0 m h at below = record {
  long = length-set m x false ∙ h.long;
  left = λ v is. elim (cases_eq v x) [
    | inl e ↦ absurd (false≢true (sym (get_or-set_same m x false false below) ∙ subst (IsMarked (set m x false)) e is))
    | inr ne ↦ let (k, ge, lt, here) = h.left v (sym (get_or-set_other m x v false false ne) ∙ is) in
        elim (cases_eq k i) [
          | inl e ↦ absurd (ne (sym here ∙ ap (λ j. get_or found j 0) e ∙ sym at))
          | inr other ↦ (k, omega arith, lt, here)
        ]
  ];
}

pub cleared_all : (found : List ℕ) (i : ℕ) (m0 m : List Bool) → Clearing found i m0 m → length found ≤ i → AreClear m
cleared_all found i m0 m h past v is = let (k, ge, lt, here) = h.left v is in omega (arith, ge, lt)

-- what is found is a node
pub found_within : (nodes : List Node) (roots found : List ℕ) (m : List Bool) → IsFound nodes roots m found → All (λ v. v < length m) found
found_within nodes roots found m h k d lt = marked_within m (get_or found k d) ((h.same (get_or found k d)).0 (Contains-get_or found k d lt))

pub found_within_as : (nodes : List Node) (roots found list : List ℕ) (m marks : List Bool) → IsFound nodes roots m found → list ≡ found → marks ≡ m → All (λ v. v < length marks) list
found_within_as nodes roots found list m marks h e f = subst (λ (x : List ℕ). All (λ v. v < length marks) x) (sym e) (subst (λ (x : List Bool). All (λ v. v < length x) found) (sym f) (found_within nodes roots found m h))
