-- The index of rules.
use Rattle.std.proofs.Common.{◌≡◌, ◌≢◌, ◌≤◌, ◌⊎◌, inl, inr, ℕ, zero, suc, ◌+◌, ◌<◌, ◌==◌, Bool, IsTrue, List, [], ◌∷◌, ◌++◌, All, Contains, Some, length, get_or, take, replicate, sym, ◌∙◌, ap, subst, arith, if◌then◌else◌, get_or-set_same, get_or-set_other, length-set}
use Rattle.std.specs.Prelude.{◌↔◌, slice_set}
use Rattle.std.proofs.lemmas.Bool.{cases_eq, cases_lt, cases_Bool, eqb-true}
use Rattle.std.proofs.lemmas.Option.{same_Some}
use Rattle.std.proofs.lemmas.List.{length-replicate, get_or-replicate, get_or_past, get_or_default, take_more, length_push}
use Rattle.std.proofs.lemmas.List.Elements.{Contains-append_left, Contains-append_cases, Contains-push, Contains-get_or}
use Rattle.pb_graph.specs.declared.index.Link.{Link}
use Rattle.pb_graph.specs.declared.table.Rule.{Rule}
use Rattle.pb_graph.specs.Closure.{is_on, IsYielded}
use Rattle.pb_graph.specs.Table.{joined_by, IsInRange}
use Rattle.pb_graph.specs.Index.{link_at, IsRead, at_once, behind, head_at, HasLink, with_link, with_rule, either_way, IsIndexed, IsWalked, IsIndex}
use Rattle.pb_graph.proofs.Membership.{none, single}
use Rattle.pb_graph.proofs.Marking.{on-below}
use Rattle.pb_graph.proofs.Linking.{read_cases, read_at, still_read, was_read, newest_read, new_at, old_at, at_within}

-- what a link more adds to what is said
abbrev pub More : (ℕ → ℕ → ℕ → Type 0) → ℕ → ℕ → ℕ → ℕ → ℕ → ℕ → Type 0
More Says x y z a b c = Says a b c ⊎ ((x ≡ a) × (y ≡ b) × (z ≡ c))

module _ (n : ℕ) (Says : ℕ → ℕ → ℕ → Type 0) (heads : List ℕ) (links : List Link) (x y z : ℕ) (index : IsIndex n Says heads links) (lt_x : x < n) (lt_y : y < n) (lt_z : z < n) where
  abbrev added : Link
  added = record { with = y; gives = z; next = head_at heads x }

  abbrev links' : List Link
  links' = links ++ added ∷ []

  abbrev heads' : List ℕ
  heads' = slice_set heads x (length links + 1)

  same_head : head_at heads' x ≡ length links + 1
  same_head = get_or-set_same heads x (length links + 1) 0 (subst (λ m. x < m) (sym index.long) lt_x)

  other_head : (a : ℕ) → a ≢ x → head_at heads' a ≡ head_at heads a
  other_head a other = get_or-set_other heads x a (length links + 1) 0 other

  within' : (a : ℕ) → head_at heads' a ≤ length links'
  within' a = elim (cases_eq a x) [
    | inl same ↦ (let e : head_at heads' a ≡ length links + 1 = ap (head_at heads') same ∙ same_head in omega (arith, e, length_push links added))
    | inr other ↦ (let e : head_at heads' a ≡ head_at heads a = other_head a other in omega (arith, e, length_push links added, index.within a))
  ]

  -- a link of the longer list is an old one, or the one that was added
  link_cases : (k : ℕ) (l : Link) → link_at links' k ≡ Some l → (link_at links k ≡ Some l) ⊎ ((length links < k) × (added ≡ l))
  link_cases k l at = elim (cases_lt (length links) k) [
    | inl past ↦ (let e : k ≡ length links + 1 = omega (arith, at_within links' k l at, length_push links added) in inr (past, same_Some added l (sym (new_at links added k e) ∙ at)))
    | inr le ↦ inl (old_at links added k l le at)
  ]

  linked' : IsIndexed n links'
  linked' = record {
    with = λ k l at. elim (link_cases k l at) [ inl was ↦ index.linked.with k l was | inr (past, same) ↦ subst (λ w. w.with < n) same lt_y ];
    gives = λ k l at. elim (link_cases k l at) [ inl was ↦ index.linked.gives k l was | inr (past, same) ↦ subst (λ w. w.gives < n) same lt_z ];
    lower = λ k l at. elim (link_cases k l at) [
      | inl was ↦ index.linked.lower k l was
      | inr (past, same) ↦ (let le : head_at heads x ≤ length links = index.within x in subst (λ w. w.next < k) same (omega arith))
    ];
  }

  -- what was said still is
  kept : (a b c : ℕ) → HasLink heads links a b c → HasLink heads' links' a b c
  kept a b c has =
      let l : Link = record { with = b; gives = c; next = has.next } in
      let read : IsRead links' (head_at heads a) l = still_read links added (head_at heads a) l has.read in
      elim (cases_eq a x) [
        | inl same ↦
            (let first : IsRead links' (head_at heads' x) l = behind (head_at heads' x) added l (new_at links added (head_at heads' x) same_head) (subst (λ w. IsRead links' (head_at heads w) l) same read) in
            record { next = has.next; read = subst (λ w. IsRead links' (head_at heads' w) l) (sym same) first })
        | inr other ↦ record { next = has.next; read = subst (λ k. IsRead links' k l) (sym (other_head a other)) read }
      ]

  -- and what is added
  comes : HasLink heads' links' x y z
  comes = record { next = head_at heads x; read = at_once (head_at heads' x) added (new_at links added (head_at heads' x) same_head) }

  -- and nothing else
  only : (a b c : ℕ) → HasLink heads' links' a b c → HasLink heads links a b c ⊎ ((x ≡ a) × (y ≡ b) × (z ≡ c))
  only a b c has =
      let l : Link = record { with = b; gives = c; next = has.next } in
      elim (cases_eq a x) [
        | inl same ↦ (elim (newest_read links added (head_at heads' a) l (ap (head_at heads') same ∙ same_head) has.read) [
          | inl is ↦ inr (sym same, ap (λ w. w.with) is, ap (λ w. w.gives) is)
          | inr rest ↦
              (let read : IsRead links (head_at heads x) l = was_read links added (head_at heads x) l index.linked.lower (index.within x) rest in
              inl (record { next = has.next; read = subst (λ w. IsRead links (head_at heads w) l) (sym same) read }))
        ])
        | inr other ↦
            (let read : IsRead links (head_at heads a) l = was_read links added (head_at heads a) l index.linked.lower (index.within a) (subst (λ k. IsRead links' k l) (other_head a other) has.read) in
            inl (record { next = has.next; read = read }))
      ]

  pub index_link : IsIndex n (More Says x y z) (with_link (heads, links) x y z).0 (with_link (heads, links) x y z).1
  index_link = record {
    long = length-set heads x (length links + 1) ∙ index.long;
    within = within';
    linked = linked';
    says = λ a b c. (
      λ has. elim (only a b c has) [ inl was ↦ inl ((index.says a b c).0 was) | inr new ↦ inr new ],
      λ said. elim said [
        | inl was ↦ kept a b c ((index.says a b c).1 was)
        | inr (same_x, same_y, same_z) ↦
            subst (λ w. HasLink heads' links' w b c) same_x (subst (λ w. HasLink heads' links' x w c) same_y (subst (λ w. HasLink heads' links' x y w) same_z comes))
      ],
    );
  }

-- the same said in other words
index_same : (n : ℕ) (Says Also : ℕ → ℕ → ℕ → Type 0) (heads : List ℕ) (links : List Link) → IsIndex n Says heads links → ((a b c : ℕ) → Says a b c ↔ Also a b c) → IsIndex n Also heads links
index_same n Says Also heads links index same = record {
  long = index.long;
  within = index.within;
  linked = index.linked;
  says = λ a b c. (λ has. (same a b c).0 ((index.says a b c).0 has), λ also. (index.says a b c).1 ((same a b c).1 also));
}

-- no rules
index_none : (n : ℕ) → IsIndex n (either_way []) (replicate n 0) []
index_none n = record {
  long = length-replicate n 0;
  within = λ x. elim (cases_lt x n) [
    | inl below ↦ (let e : head_at (replicate n 0) x ≡ 0 = get_or-replicate n x 0 0 below in omega arith)
    | inr above ↦ (let e : head_at (replicate n 0) x ≡ 0 = get_or_past (replicate n 0) x 0 (subst (λ m. m ≤ x) (sym (length-replicate n 0)) above) in omega arith)
  ];
  linked = record { with = λ k l at. absurd (no_link k l at); gives = λ k l at. absurd (no_link k l at); lower = λ k l at. absurd (no_link k l at) };
  says = λ x y z. (
    λ has. absurd (nothing (head_at (replicate n 0) x) _ has.read),
    λ said. elim said [ inl is ↦ absurd (none _ is) | inr is ↦ absurd (none _ is) ],
  );
}
  where
    no_link : (k : ℕ) (l : Link) → link_at [] k ≡ Some l → ⊥
    no_link zero l at = cc
    no_link (suc k) l at = cc

    nothing : (k : ℕ) (l : Link) → IsRead [] k l → ⊥
    nothing k l read = elim (read_cases [] k l read) [ inl at ↦ no_link k l at | inr (m, at, rest) ↦ no_link k m at ]

pub index_begun : (n : ℕ) (heads : List ℕ) (links : List Link) → heads ≡ replicate n 0 → links ≡ [] → IsIndex n (either_way []) heads links
index_begun n heads links clear empty = subst (λ w. IsIndex n (either_way []) heads w) (sym empty) (subst (λ w. IsIndex n (either_way []) w []) (sym clear) (index_none n))

-- what one more rule says, one way or the other
either_more : (rules : List Rule) (r : Rule) (a b c : ℕ) → More (More (either_way rules) r.first r.second r.gives) r.second r.first r.gives a b c ↔ either_way (rules ++ r ∷ []) a b c
either_more rules r a b c = (
  λ said. elim said [
    | inl (inl (inl was)) ↦ inl (Contains-append_left rules (r ∷ []) _ was)
    | inl (inl (inr was)) ↦ inr (Contains-append_left rules (r ∷ []) _ was)
    | inl (inr (same_x, same_y, same_z)) ↦ inl (subst (λ w. Contains (rules ++ r ∷ []) w) (λ i. record { first = same_x i; second = same_y i; gives = same_z i }) (Contains-push rules r))
    | inr (same_x, same_y, same_z) ↦ inr (subst (λ w. Contains (rules ++ r ∷ []) w) (λ i. record { first = same_y i; second = same_x i; gives = same_z i }) (Contains-push rules r))
  ],
  λ either. elim either [
    | inl is ↦ (elim (Contains-append_cases rules (r ∷ []) _ is) [
      | inl was ↦ inl (inl (inl was))
      | inr new ↦ (let e = single r _ new in inl (inr (ap (λ w. w.first) e, ap (λ w. w.second) e, ap (λ w. w.gives) e)))
    ])
    | inr is ↦ (elim (Contains-append_cases rules (r ∷ []) _ is) [
      | inl was ↦ inl (inl (inr was))
      | inr new ↦ (let e = single r _ new in inr (ap (λ w. w.second) e, ap (λ w. w.first) e, ap (λ w. w.gives) e))
    ])
  ],
)

-- a rule that names one thing twice says the same both ways
either_alone : (rules : List Rule) (r : Rule) → r.first ≡ r.second → (a b c : ℕ) → More (either_way rules) r.first r.second r.gives a b c ↔ either_way (rules ++ r ∷ []) a b c
either_alone rules r alone a b c = (
  λ said. (either_more rules r a b c).0 (inl said),
  λ either. elim ((either_more rules r a b c).1 either) [
    | inl said ↦ said
    | inr (same_x, same_y, same_z) ↦ inr (alone ∙ same_x, sym alone ∙ same_y, same_z)
  ],
)

-- a rule more
index_rule : (n : ℕ) (rules : List Rule) (s : List ℕ × List Link) (r : Rule) → IsIndex n (either_way rules) s.0 s.1 → IsInRange n r → IsIndex n (either_way (rules ++ r ∷ [])) (with_rule s r).0 (with_rule s r).1
index_rule n rules s r index fits =
    let one : List ℕ × List Link = with_link s r.first r.second r.gives in
    let two : List ℕ × List Link = with_link one r.second r.first r.gives in
    let first : IsIndex n (More (either_way rules) r.first r.second r.gives) one.0 one.1 = index_link n (either_way rules) s.0 s.1 r.first r.second r.gives index fits.first fits.second fits.gives in
    let to : Bool → List ℕ × List Link = λ b. if b then one else two in
    let Goal : Bool → Type 0 = λ b. IsIndex n (either_way (rules ++ r ∷ [])) (to b).0 (to b).1 in
    elim (cases_Bool (r.first == r.second)) [
      | inl same ↦ subst Goal (sym same) (index_same n _ _ one.0 one.1 first (either_alone rules r (eqb-true r.first r.second same)))
      | inr other ↦ subst Goal (sym other) (index_same n _ _ two.0 two.1 (index_link n _ one.0 one.1 r.second r.first r.gives first fits.second fits.first fits.gives) (either_more rules r))
    ]

-- one rule more of a list
pub index_step : (n : ℕ) (rules : List Rule) (heads heads' : List ℕ) (links links' : List Link) (i : ℕ) (d : Rule)
    → IsIndex n (either_way (take i rules)) heads links → i < length rules → All (IsInRange n) rules → (heads', links') ≡ with_rule (heads, links) (get_or rules i d) → IsIndex n (either_way (take (i + 1) rules)) heads' links'
index_step n rules heads heads' links links' i d index lt fits is =
    let r : Rule = get_or rules i d in
    let one : IsIndex n (either_way (take i rules ++ r ∷ [])) (with_rule (heads, links) r).0 (with_rule (heads, links) r).1 = index_rule n (take i rules) (heads, links) r index (fits i d lt) in
    subst (λ rs. IsIndex n (either_way rs) heads' links') (sym (take_more rules i d lt)) (subst (λ (s : List ℕ × List Link). IsIndex n (either_way (take i rules ++ r ∷ [])) s.0 s.1) (sym is) one)

-- what is walked is what is given
pub given_walked : (n : ℕ) (rules : List Rule) (heads : List ℕ) (links : List Link) (known : List Bool) (thing head : ℕ) (given : List ℕ)
    → IsIndex n (either_way rules) heads links → IsTrue (is_on known thing) → head ≡ head_at heads thing → IsWalked (is_on known) links head given
    → IsYielded (joined_by rules) (is_on known) thing given
given_walked n rules heads links known thing head given index on is walked = record {
  sound = λ z has.
      (let h = walked.sound z has in
      let l : Link = h.0 in
      let link : HasLink heads links thing l.with l.gives = record { next = l.next; read = subst (λ k. IsRead links k l) is h.1 } in
      elim ((index.says thing l.with l.gives).0 link) [
        | inl joins ↦ (thing, l.with, on, h.2, subst (joined_by rules thing l.with) h.3 joins)
        | inr joins ↦ (l.with, thing, h.2, on, subst (joined_by rules l.with thing) h.3 joins)
      ]);
  whole = λ y z on_y joins.
      (let link : HasLink heads links thing y z = (index.says thing y z).1 joins in
      walked.whole (record { with = y; gives = z; next = link.next }) (subst (λ k. IsRead links k (record { with = y; gives = z; next = link.next })) (sym is) link.read) on_y);
}

-- and in range
pub given_within : (n : ℕ) (links : List Link) (known : ℕ → Bool) (head : ℕ) (given : List ℕ) → IsIndexed n links → IsWalked known links head given → All (λ z. z < n) given
given_within n links known head given linked walked k d lt =
    let h = walked.sound (get_or given k d) (Contains-get_or given k d lt) in
    let at = read_at links head h.0 h.1 in
    subst (λ z. z < n) h.3 (linked.gives at.0 h.0 at.1)

-- the number that is read
pub head_read : (heads : List ℕ) (known : List Bool) (thing head : ℕ) → length known ≡ length heads → IsTrue (is_on known thing) → head ≡ get_or heads thing head → head ≡ head_at heads thing
head_read heads known thing head long on is = is ∙ get_or_default heads thing head 0 (subst (λ n. thing < n) long (on-below known thing on))
