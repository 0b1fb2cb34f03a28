-- A graph of nodes that need other nodes, and the relation that one node reaches another.
use Rattle.std.specs.Prelude.{◌≡◌, ◌⊎◌, ℕ, ◌+◌, ◌<◌, max, List, [], ◌∷◌, Contains, length, slice_get, Option, Some, None}
use Rattle.std.specs.Ordering.{nat_cmp}
use Rattle.std.specs.declared.cmp.Ordering.TheVariants.{Less}
use Rattle.std.specs.Cmp.Lexicographic.{slice_cmp}
use Rattle.pb_graph.specs.declared.graph.Node.{Node}

abbrev pub needs_of : Option Node → List ℕ
needs_of None = []
needs_of (Some node) = node.needs

abbrev pub key_of : Option Node → List ℕ
key_of None = []
key_of (Some node) = node.key

-- the numbers of the nodes that a node needs
abbrev pub needs_at : List Node → ℕ → List ℕ
needs_at nodes u = needs_of (slice_get nodes u)

-- a node's key
abbrev pub key_at : List Node → ℕ → List ℕ
key_at nodes u = key_of (slice_get nodes u)

-- all needed nodes exist, and no two nodes have the same key
pub record IsGraph (nodes : List Node) : Type 0 where
  pub within : (u v : ℕ) → Contains (needs_at nodes u) v → v < length nodes
  pub apart : (u v : ℕ) → u < length nodes → v < length nodes → key_at nodes u ≡ key_at nodes v → u ≡ v

-- one or more needs lead from one node to another
pub data Reaches (nodes : List Node) : ℕ → ℕ → Type 0 where
  direct : (u v : ℕ) (need : Contains (needs_at nodes u) v) → Reaches nodes u v
  onward : (u v w : ℕ) (need : Contains (needs_at nodes u) v) (more : Reaches nodes v w) → Reaches nodes u w

-- a node is a root, or a root reaches it
abbrev pub IsReached : List Node → List ℕ → ℕ → Type 0
IsReached nodes roots v = Contains roots v ⊎ ((r : ℕ) × Contains roots r × Reaches nodes r v)

-- one more than the greatest level in the list, or 0 if the list is empty
abbrev pub above : List ℕ → ℕ
above [] = 0
above (level ∷ levels) = max (level + 1) (above levels)

-- one text comes before another in byte order
abbrev pub IsBelow : List ℕ → List ℕ → Type 0
IsBelow a b = slice_cmp nat_cmp a b ≡ Less
