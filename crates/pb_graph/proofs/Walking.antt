-- A walk along links.
use Rattle.std.proofs.Common.{◌≡◌, ◌⊎◌, inl, inr, ℕ, Bool, true, false, IsTrue, List, [], ◌∷◌, ◌++◌, Contains, Some, None, sym, ◌∙◌, ap, subst}
use Rattle.std.proofs.lemmas.Bool.{false≢true}
use Rattle.std.proofs.lemmas.Option.{same_Some, none-some}
use Rattle.std.proofs.lemmas.List.Elements.{Contains-append_left, Contains-append_cases, Contains-push}
use Rattle.pb_graph.specs.declared.index.Link.{Link}
use Rattle.pb_graph.specs.Index.{link_at, IsRead, at_once, behind, IsWalked}
use Rattle.pb_graph.proofs.Membership.{none, single}
use Rattle.pb_graph.proofs.Linking.{read_cases}

-- a walk from a first number, as far as a number
pub record Walking (known : ℕ → Bool) (links : List Link) (head number : ℕ) (given : List ℕ) : Type 0 where
  pub sound : (z : ℕ) → Contains given z → (l : Link) × IsRead links head l × IsTrue (known l.with) × (l.gives ≡ z)
  pub whole : (l : Link) → IsRead links head l → IsTrue (known l.with) → Contains given l.gives ⊎ IsRead links number l
  pub inside : (l : Link) → IsRead links number l → IsRead links head l

pub walk_begun : (known : ℕ → Bool) (links : List Link) (head : ℕ) (given : List ℕ) → given ≡ [] → Walking known links head head given
walk_begun known links head given is = record {
  sound = λ z has. absurd (none z (subst (λ w. Contains w z) is has));
  whole = λ l read on. inr read;
  inside = λ l read. read;
}

-- past a link that is not read
pub walk_past : (known : ℕ → Bool) (links : List Link) (head number : ℕ) (given : List ℕ) (link : Link) → Walking known links head number given
    → link_at links number ≡ Some link → known link.with ≡ false → Walking known links head link.next given
walk_past known links head number given link walk at off = record {
  sound = walk.sound;
  whole = λ l read on. elim (walk.whole l read on) [
    | inl has ↦ inl has
    | inr from ↦ (elim (read_cases links number l from) [
      | inl here ↦ absurd (false≢true (sym off ∙ ap (λ m. known m.with) (same_Some link l (sym at ∙ here)) ∙ on))
      | inr (m, there, rest) ↦ inr (subst (λ w. IsRead links w.next l) (same_Some m link (sym there ∙ at)) rest)
    ])
  ];
  inside = λ l read. walk.inside l (behind number link l at read);
}

-- past one that is
pub walk_with : (known : ℕ → Bool) (links : List Link) (head number : ℕ) (given : List ℕ) (link : Link) → Walking known links head number given
    → link_at links number ≡ Some link → known link.with ≡ true → Walking known links head link.next (given ++ link.gives ∷ [])
walk_with known links head number given link walk at on = record {
  sound = λ z has. elim (Contains-append_cases given (link.gives ∷ []) z has) [
    | inl was ↦ walk.sound z was
    | inr new ↦ (link, walk.inside link (at_once number link at), on, single link.gives z new)
  ];
  whole = λ l read is_on. elim (walk.whole l read is_on) [
    | inl has ↦ inl (Contains-append_left given (link.gives ∷ []) l.gives has)
    | inr from ↦ (elim (read_cases links number l from) [
      | inl here ↦ inl (subst (λ m. Contains (given ++ link.gives ∷ []) m.gives) (same_Some link l (sym at ∙ here)) (Contains-push given link.gives))
      | inr (m, there, rest) ↦ inr (subst (λ w. IsRead links w.next l) (same_Some m link (sym there ∙ at)) rest)
    ])
  ];
  inside = λ l read. walk.inside l (behind number link l at read);
}

-- at the end
pub walk_ended : (known : ℕ → Bool) (links : List Link) (head number : ℕ) (given : List ℕ) → Walking known links head number given → link_at links number ≡ None → IsWalked known links head given
walk_ended known links head number given walk at = record {
  sound = walk.sound;
  whole = λ l read on. elim (walk.whole l read on) [
    | inl has ↦ has
    | inr from ↦ (elim (read_cases links number l from) [
      | inl here ↦ absurd (none-some l (sym at ∙ here))
      | inr (m, there, rest) ↦ absurd (none-some m (sym at ∙ there))
    ])
  ];
}
