-- The order of the nodes that some roots of a graph reach. A circle, or a crowd of too many nodes,
-- prevents an order.
use Rattle.std.specs.Prelude.{◌≡◌, ◌⊎◌, ◌↔◌, ℕ, ◌<◌, List, map, All, AllPairs, Contains, length, slice_get, Option, Some, None}
use Rattle.std.specs.List.Sorted.{IsStrictlyIncreasing}
use Rattle.pb_graph.specs.declared.graph.Node.{Node}
use Rattle.pb_graph.specs.declared.graph.Step.{Step}
use Rattle.pb_graph.specs.declared.graph.OrderFault.{OrderFault}
use Rattle.pb_graph.specs.declared.graph.OrderFault.TheVariants.{OutOfMemory, Circle, TooMany}
use Rattle.pb_graph.specs.Graph.{needs_at, key_at, Reaches, IsReached, above, IsBelow}

-- the first step comes before the second, by level and then by the bytes of the key
pub record ComesBefore (a b : Step) : Type 0 where
  pub order : (a.level < b.level) ⊎ ((a.level ≡ b.level) × IsBelow a.key b.key)

abbrev pub level_of : Option Step → ℕ
level_of None = 0
level_of (Some p) = p.level

-- the level of the step at an index
abbrev pub level_at : List Step → ℕ → ℕ
level_at steps index = level_of (slice_get steps index)

-- `indices` lists, in ascending order, the indices of the steps whose nodes are wanted
pub record AreIndices (steps : List Step) (Wanted : ℕ → Type 0) (indices : List ℕ) : Type 0 where
  pub rises : IsStrictlyIncreasing indices
  pub same : (index : ℕ) → Contains indices index ↔ ((p : Step) × (slice_get steps index ≡ Some p) × Wanted p.node)

-- The steps are the roots and all nodes that the roots reach, in order. Each step lists the steps
-- that it needs and the steps that it reaches.
pub record IsOrder (nodes : List Node) (roots : List ℕ) (steps : List Step) : Type 0 where
  pub units : (u : ℕ) → Contains (map (λ (p : Step). p.node) steps) u ↔ IsReached nodes roots u
  pub keys : All (λ p. p.key ≡ key_at nodes p.node) steps
  pub levels : All (λ p. p.level ≡ above (map (level_at steps) p.needs)) steps
  pub order : AllPairs ComesBefore steps
  pub needs : All (λ p. AreIndices steps (Contains (needs_at nodes p.node)) p.needs) steps
  pub reaches : All (λ p. AreIndices steps (Reaches nodes p.node) p.reaches) steps
  pub no_circle : (u : ℕ) → IsReached nodes roots u → Reaches nodes u u → ⊥

-- The circle lists all reached nodes that reach themselves, in byte order of their keys. At least
-- one node is in the circle.
pub record IsCircle (nodes : List Node) (roots circle : List ℕ) : Type 0 where
  pub some : 0 < length circle
  pub nodes_are : (u : ℕ) → Contains circle u ↔ (IsReached nodes roots u × Reaches nodes u u)
  pub order : AllPairs (λ u v. IsBelow (key_at nodes u) (key_at nodes v)) circle

-- No reached node reaches itself. `found` lists more than `most` reached nodes, in byte order of
-- the nodes' keys.
pub record IsCrowd (nodes : List Node) (roots : List ℕ) (most : ℕ) : Type 0 where
  pub straight : (u : ℕ) → IsReached nodes roots u → Reaches nodes u u → ⊥
  pub found : List ℕ
  pub reached : All (IsReached nodes roots) found
  pub order : AllPairs (λ u v. IsBelow (key_at nodes u) (key_at nodes v)) found
  pub many : most < length found

-- The reason why there is no order is a circle. If there is no circle, the reason is that too many
-- nodes are reached. Memory may run out at any time.
abbrev pub IsWhy : List Node → List ℕ → ℕ → OrderFault → Type 0
IsWhy nodes roots most OutOfMemory = Unit {0}
IsWhy nodes roots most (Circle circle) = IsCircle nodes roots circle
IsWhy nodes roots most TooMany = IsCrowd nodes roots most
