-- Marks, levels, ranks and steps: intermediate results of the code. Only private functions need
-- these definitions.
use Rattle.std.specs.Prelude.{◌≡◌, ◌⊎◌, ◌↔◌, ℕ, ◌+◌, ◌<◌, ◌≤◌, Bool, true, false, not, List, Contains, length, count_by, slice_index_or, IsTrue, map, All, slice_index, AllPairs, slice_get, Some}
use Rattle.pb_graph.specs.declared.graph.Node.{Node}
use Rattle.std.specs.List.Sorted.{IsNonDecreasingBy, IsStrictlyIncreasing}
use Rattle.pb_graph.specs.declared.levels.Extent.{Extent}
use Rattle.pb_graph.specs.declared.ranks.Rank.{Rank}
use Rattle.std.specs.List.{AllZip}
use Rattle.pb_graph.specs.declared.graph.Step.{Step}
use Rattle.pb_graph.specs.Graph.{needs_at, key_at, IsBelow, above, Reaches, IsReached}

-- A list of truth values marks nodes by their numbers.

abbrev pub IsMarked : List Bool → ℕ → Type 0
IsMarked marks v = slice_index_or marks v false ≡ true

abbrev pub unmarked : List Bool → ℕ
unmarked marks = count_by not marks

-- The first `count` nodes of a list have been marked. Each of these nodes that was not marked
-- before is now waiting.
pub record Marked (list : List ℕ) (count : ℕ) (old_marks : List Bool) (old_waiting : List ℕ) (marks : List Bool) (waiting : List ℕ) : Type 0 where
  pub long : length marks ≡ length old_marks
  pub each : (k : ℕ) → k < count → IsMarked marks (slice_index_or list k 0)
  pub only : (v : ℕ) → IsMarked marks v → IsMarked old_marks v ⊎ Contains list v
  pub kept : (v : ℕ) → IsMarked old_marks v → IsMarked marks v
  pub waiting_only : (v : ℕ) → Contains waiting v → Contains old_waiting v ⊎ IsMarked marks v
  pub waiting_kept : (v : ℕ) → Contains old_waiting v → Contains waiting v
  pub new_waits : (v : ℕ) → IsMarked marks v → IsMarked old_marks v ⊎ Contains waiting v
  pub work : unmarked marks + length waiting ≡ unmarked old_marks + length old_waiting

-- no node is marked
abbrev pub AreClear : List Bool → Type 0
AreClear marks = (v : ℕ) → IsMarked marks v → ⊥

-- each node that is still marked is in the list at index `count` or later
pub record Clearing (list : List ℕ) (count : ℕ) (old_marks marks : List Bool) : Type 0 where
  pub long : length marks ≡ length old_marks
  pub left : (v : ℕ) → IsMarked marks v → (k : ℕ) × (count ≤ k) × (k < length list) × (slice_index_or list k 0 ≡ v)

-- The marked nodes are exactly those that the roots reach. `found` lists each marked node once.
pub record IsFound (nodes : List Node) (roots : List ℕ) (marks : List Bool) (found : List ℕ) : Type 0 where
  pub long : length marks ≡ length nodes
  pub exact : (v : ℕ) → IsMarked marks v ↔ IsReached nodes roots v
  pub same : (v : ℕ) → Contains found v ↔ IsMarked marks v
  pub count : length found + unmarked marks ≡ length nodes

-- `found` lists the nodes that the roots reach, each once
abbrev pub AreReached : List Node → List ℕ → List ℕ → Type 0
AreReached nodes roots found = (marks : List Bool) × IsFound nodes roots marks found

-- The number of nodes that each node reaches, and the levels of nodes.

abbrev pub node_of : Extent → ℕ
node_of e = e.node

-- An extent contains the number of nodes that the extent's node reaches. `turns` is true if and
-- only if this node reaches itself.
pub record IsExtent (nodes : List Node) (e : Extent) : Type 0 where
  pub reached : List ℕ
  pub are : AreReached nodes (needs_at nodes e.node) reached
  pub count : e.count ≡ length reached
  pub turns : IsTrue e.turns ↔ Reaches nodes e.node e.node

-- The level of each node in the list is one more than the greatest level of the nodes that this
-- node needs. A node that needs no node has level 0.
pub record AreLevels (nodes : List Node) (list levels : List ℕ) : Type 0 where
  pub long : length levels ≡ length nodes
  pub each : (v : ℕ) → Contains list v → slice_index levels v ≡ above (map (slice_index levels) (needs_at nodes v))

-- The extents are sorted by their counts. No node with an extent reaches itself. If a node has an
-- extent, each node that it needs has an extent, too.
pub record AreRising (nodes : List Node) (extents : List Extent) : Type 0 where
  pub each : All (IsExtent nodes) extents
  pub rising : IsNonDecreasingBy (λ e. e.count) extents
  pub straight : (v : ℕ) → Contains (map node_of extents) v → Reaches nodes v v → ⊥
  pub closed : (u v : ℕ) → Contains (map node_of extents) u → Contains (needs_at nodes u) v → Contains (map node_of extents) v

-- Nodes that are sorted by level, and then by the bytes of their keys.

abbrev pub rank_node : Rank → ℕ
rank_node r = r.node

-- a rank has its node's level and key
pub record IsRank (nodes : List Node) (levels : List ℕ) (r : Rank) : Type 0 where
  pub level : r.level ≡ slice_index levels r.node
  pub key : r.key ≡ key_at nodes r.node

-- the first rank comes before the second, by level and then by the bytes of the key
pub record RanksBefore (a b : Rank) : Type 0 where
  pub order : (a.level < b.level) ⊎ ((a.level ≡ b.level) × IsBelow a.key b.key)

-- the ranks are the nodes of a list, in order and without repeats
pub record AreRanked (nodes : List Node) (list levels : List ℕ) (ranks : List Rank) : Type 0 where
  pub each : All (IsRank nodes levels) ranks
  pub same : (v : ℕ) → Contains (map rank_node ranks) v ↔ Contains list v
  pub order : AllPairs RanksBefore ranks
  pub few : length ranks ≤ length list

-- The steps of the order.

-- the table `indices` contains, for the node of each of the first `count` ranks, the rank's index
pub record IndicesTell (nodes : List Node) (ranks : List Rank) (count : ℕ) (indices : List ℕ) : Type 0 where
  pub long : length indices ≡ length nodes
  pub tell : (k : ℕ) (r : Rank) → k < count → slice_get ranks k ≡ Some r → slice_index indices r.node ≡ k

-- `found` lists, in ascending order, the numbers that the table `indices` has for the nodes of the
-- list
pub record AreIndicesBy (indices list found : List ℕ) : Type 0 where
  pub rises : IsStrictlyIncreasing found
  pub same : (index : ℕ) → Contains found index ↔ Contains (map (slice_index indices) list) index

-- a step has its rank's node, key and level, and the indices of the nodes that this node needs and
-- reaches
pub record IsPlaced (nodes : List Node) (indices : List ℕ) (rank : Rank) (p : Step) : Type 0 where
  pub node : p.node ≡ rank.node
  pub key : p.key ≡ rank.key
  pub level : p.level ≡ rank.level
  pub needs : AreIndicesBy indices (needs_at nodes rank.node) p.needs
  pub reached : List ℕ
  pub are : AreReached nodes (needs_at nodes rank.node) reached
  pub reaches : AreIndicesBy indices reached p.reaches

-- the plan has one step for each rank, in the order of the ranks
pub record AreSteps (nodes : List Node) (ranks : List Rank) (plan : List Step) : Type 0 where
  pub indices : List ℕ
  pub told : IndicesTell nodes ranks (length ranks) indices
  pub each : AllZip (IsPlaced nodes indices) ranks plan

-- `found` lists the nodes of the list in byte order of their keys
pub record AreByKey (nodes : List Node) (list found : List ℕ) : Type 0 where
  pub same : (v : ℕ) → Contains found v ↔ Contains list v
  pub order : AllPairs (λ u v. IsBelow (key_at nodes u) (key_at nodes v)) found

-- the list has more than `most` nodes; `found` lists them in byte order of their keys
pub record IsCrowded (nodes : List Node) (list : List ℕ) (most : ℕ) : Type 0 where
  pub found : List ℕ
  pub listed : AreByKey nodes list found
  pub many : most < length found

-- the extents of all nodes that the roots reach, sorted by the counts of the extents
pub record AreSurveyed (nodes : List Node) (roots : List ℕ) (extents : List Extent) : Type 0 where
  pub same : (v : ℕ) → Contains (map node_of extents) v ↔ IsReached nodes roots v
  pub each : All (IsExtent nodes) extents
  pub rising : IsNonDecreasingBy (λ e. e.count) extents

-- The steps are the nodes of a list, sorted by level and then by key. Each step has the indices of
-- the nodes that the step's node needs and reaches.
pub record IsOrdered (nodes : List Node) (list : List ℕ) (plan : List Step) : Type 0 where
  pub levels : List ℕ
  pub leveled : AreLevels nodes list levels
  pub among : List ℕ
  pub same : (v : ℕ) → Contains among v ↔ Contains list v
  pub ranks : List Rank
  pub ranked : AreRanked nodes among levels ranks
  pub steps : AreSteps nodes ranks plan
