-- The index of rules. For each thing, the index lists the rules that need this thing: what else
-- each rule needs, and what the rule yields. Only private functions need these definitions.
use Rattle.std.specs.Prelude.{◌≡◌, ◌⊎◌, ◌↔◌, ◌<◌, ◌≤◌, ◌+◌, ◌==◌, ℕ, zero, suc, Bool, IsTrue, List, [], ◌∷◌, ◌++◌, Option, Some, None, Contains, length, slice_get, slice_index_or, slice_set, if◌then◌else◌}
use Rattle.pb_graph.specs.declared.table.Rule.{Rule}
use Rattle.pb_graph.specs.declared.index.Link.{Link}
use Rattle.pb_graph.specs.Table.{joined_by}

-- the link with a number: 0 means no link, and any other number is one more than the link's index
abbrev pub link_at : List Link → ℕ → Option Link
link_at links zero = None
link_at links (suc index) = slice_get links index

-- The link with the given number is read. If a link that is read has a `next` number, the link with
-- this number is read, too.
pub data IsRead (links : List Link) : ℕ → Link → Type 0 where
  at_once : (n : ℕ) (l : Link) (at : link_at links n ≡ Some l) → IsRead links n l
  behind : (n : ℕ) (m l : Link) (at : link_at links n ≡ Some m) (read : IsRead links m.next l) → IsRead links n l

-- the number of a thing's first link, or 0 if the thing has no link
abbrev pub head_at : List ℕ → ℕ → ℕ
head_at heads x = slice_index_or heads x 0

-- a link of the thing `x` says that `x` and `y` together yield `z`
pub record HasLink (heads : List ℕ) (links : List Link) (x y z : ℕ) : Type 0 where
  pub next : ℕ
  pub read : IsRead links (head_at heads x) (record { with = y; gives = z; next = next })

-- The heads and links after one link is added for a thing. The new link comes before the thing's
-- other links.
abbrev pub with_link : List ℕ × List Link → ℕ → ℕ → ℕ → List ℕ × List Link
with_link s x y z = (slice_set s.0 x (length s.1 + 1), s.1 ++ record { with = y; gives = z; next = head_at s.0 x } ∷ [])

-- The heads and links after a rule is added. If the rule's two premises differ, the rule adds a
-- link for each premise. If they are equal, the rule adds one link.
abbrev pub with_rule : List ℕ × List Link → Rule → List ℕ × List Link
with_rule s r = if r.first == r.second then with_link s r.first r.second r.gives else with_link (with_link s r.first r.second r.gives) r.second r.first r.gives

-- the number of links that a rule adds
abbrev pub links_of : Rule → ℕ
links_of r = if r.first == r.second then 1 else 2

-- in each link, `with` and `gives` are below `n`, and `next` is below the link's own number
pub record IsIndexed (n : ℕ) (links : List Link) : Type 0 where
  pub with : (k : ℕ) (l : Link) → link_at links k ≡ Some l → l.with < n
  pub gives : (k : ℕ) (l : Link) → link_at links k ≡ Some l → l.gives < n
  pub lower : (k : ℕ) (l : Link) → link_at links k ≡ Some l → l.next < k

-- `given` lists what the links of a chain yield. The chain begins at the link with the number
-- `head`. A link counts only if its `with` is known.
pub record IsWalked (known : ℕ → Bool) (links : List Link) (head : ℕ) (given : List ℕ) : Type 0 where
  pub sound : (z : ℕ) → Contains given z → (l : Link) × IsRead links head l × IsTrue (known l.with) × (l.gives ≡ z)
  pub whole : (l : Link) → IsRead links head l → IsTrue (known l.with) → Contains given l.gives

-- one of the rules says that `x` and `y`, in either order, yield `z`
abbrev pub either_way : List Rule → ℕ → ℕ → ℕ → Type 0
either_way rules x y z = joined_by rules x y z ⊎ joined_by rules y x z

-- the links say that `x` and `y` together yield `z` if and only if `Says` is true of `x`, `y` and
-- `z`
pub record IsIndex (n : ℕ) (Says : ℕ → ℕ → ℕ → Type 0) (heads : List ℕ) (links : List Link) : Type 0 where
  pub long : length heads ≡ n
  pub within : (x : ℕ) → head_at heads x ≤ length links
  pub linked : IsIndexed n links
  pub says : (x y z : ℕ) → HasLink heads links x y z ↔ Says x y z
