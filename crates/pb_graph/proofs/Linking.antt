-- Links that are added and read.
use Rattle.std.proofs.Common.{◌≡◌, ◌≤◌, ◌⊎◌, inl, inr, ℕ, zero, suc, ◌+◌, ◌<◌, List, [], ◌∷◌, ◌++◌, Some, length, refl, sym, ◌∙◌, ap, subst, arith}
use Rattle.std.specs.Prelude.{slice_get}
use Rattle.std.proofs.lemmas.Option.{slice_get_within, same_Some}
use Rattle.pb_graph.specs.declared.index.Link.{Link}
use Rattle.pb_graph.specs.Index.{link_at, IsRead, at_once, behind}

-- how a link is read
pub read_cases : (links : List Link) (n : ℕ) (l : Link) → IsRead links n l → (link_at links n ≡ Some l) ⊎ ((m : Link) × (link_at links n ≡ Some m) × IsRead links m.next l)
read_cases links _ _ (at_once n l at) = inl at
read_cases links _ _ (behind n m l at read) = inr (m, at, read)

-- a link that is read has a number
pub read_at : (links : List Link) (n : ℕ) (l : Link) → IsRead links n l → (k : ℕ) × (link_at links k ≡ Some l)
read_at links _ _ (at_once n l at) = (n, at)
read_at links _ _ (behind n m l at read) = read_at links m.next l read

-- the elements of a list that grows
get_kept : (links : List Link) (new : Link) (k : ℕ) (l : Link) → slice_get links k ≡ Some l → slice_get (links ++ new ∷ []) k ≡ Some l
get_kept [] new k l at = cc
get_kept (x ∷ links) new zero l at = at
get_kept (x ∷ links) new (suc k) l at = get_kept links new k l at

get_old : (links : List Link) (new : Link) (k : ℕ) (l : Link) → k < length links → slice_get (links ++ new ∷ []) k ≡ Some l → slice_get links k ≡ Some l
get_old [] new k l lt at = absurd (omega arith)
get_old (x ∷ links) new zero l lt at = at
get_old (x ∷ links) new (suc k) l lt at = get_old links new k l (omega arith) at

get_new : (links : List Link) (new : Link) → slice_get (links ++ new ∷ []) (length links) ≡ Some new
get_new [] new = refl
get_new (x ∷ links) new = get_new links new

-- the links of a list that grows
kept_at : (links : List Link) (new : Link) (n : ℕ) (l : Link) → link_at links n ≡ Some l → link_at (links ++ new ∷ []) n ≡ Some l
kept_at links new zero l at = at
kept_at links new (suc k) l at = get_kept links new k l at

pub old_at : (links : List Link) (new : Link) (n : ℕ) (l : Link) → n ≤ length links → link_at (links ++ new ∷ []) n ≡ Some l → link_at links n ≡ Some l
old_at links new zero l le at = at
old_at links new (suc k) l le at = get_old links new k l (omega arith) at

pub new_at : (links : List Link) (new : Link) (n : ℕ) → n ≡ length links + 1 → link_at (links ++ new ∷ []) n ≡ Some new
new_at links new zero is = absurd (omega arith)
new_at links new (suc k) is = let e : k ≡ length links = omega arith in ap (slice_get (links ++ new ∷ [])) e ∙ get_new links new

pub at_within : (links : List Link) (n : ℕ) (l : Link) → link_at links n ≡ Some l → n ≤ length links
at_within links zero l at = omega arith
at_within links (suc k) l at = let lt : k < length links = slice_get_within links k l at in omega arith

-- what was read still is
pub still_read : (links : List Link) (new : Link) (n : ℕ) (l : Link) → IsRead links n l → IsRead (links ++ new ∷ []) n l
still_read links new _ _ (at_once n l at) = at_once n l (kept_at links new n l at)
still_read links new _ _ (behind n m l at read) = behind n m l (kept_at links new n m at) (still_read links new m.next l read)

-- nothing more is read from an old number
pub was_read : (links : List Link) (new : Link) (n : ℕ) (l : Link) → ((k : ℕ) (m : Link) → link_at links k ≡ Some m → m.next < k) → n ≤ length links → IsRead (links ++ new ∷ []) n l → IsRead links n l
was_read links new _ _ lower le (at_once n l at) = at_once n l (old_at links new n l le at)
was_read links new _ _ lower le (behind n m l at read) =
    let at' : link_at links n ≡ Some m = old_at links new n m le at in
    let lt : m.next < n = lower n m at' in
    behind n m l at' (was_read links new m.next l lower (omega arith) read)

-- from the newest number on
pub newest_read : (links : List Link) (new : Link) (n : ℕ) (l : Link) → n ≡ length links + 1 → IsRead (links ++ new ∷ []) n l → (new ≡ l) ⊎ IsRead (links ++ new ∷ []) new.next l
newest_read links new n l is read = elim (read_cases (links ++ new ∷ []) n l read) [
  | inl at ↦ inl (same_Some new l (sym (new_at links new n is) ∙ at))
  | inr (m, at, rest) ↦ inr (subst (λ w. IsRead (links ++ new ∷ []) w.next l) (same_Some m new (sym at ∙ new_at links new n is)) rest)
]
