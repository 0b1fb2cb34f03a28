-- Rules as a list of records.
use Rattle.std.specs.Prelude.{ℕ, ◌<◌, List, Contains}
use Rattle.pb_graph.specs.declared.table.Rule.{Rule}

-- a rule in the list says that `x` and `y` yield `z`
abbrev pub joined_by : List Rule → ℕ → ℕ → ℕ → Type 0
joined_by rules x y z = Contains rules (record { first = x; second = y; gives = z })

-- a rule is about things whose numbers are below `n`
pub record IsInRange (n : ℕ) (r : Rule) : Type 0 where
  pub first : r.first < n
  pub second : r.second < n
  pub gives : r.gives < n
