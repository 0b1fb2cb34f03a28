-- Sequences of writes and removals, and what they leave at a path.
use Rattle.std.specs.Prelude.{◌≡◌, ℕ, List, [], ◌∷◌, Option, Some, None, if◌then◌else◌}
use Rattle.std.specs.FinMap as map
use Rattle.pb_place_types.specs.Paths.{is_at_or_below}
use Rattle.pb_place_types.specs.World.{World, written, removed, is_same_path}

-- a change either writes bytes at a path, or removes a path and everything below it
pub data Change : Type 0 where
  writes : List ℕ → List ℕ → Change
  removes : List ℕ → Change

-- the world after a change
abbrev pub changed_once : Change → World → World
changed_once (writes path bytes) w = written path bytes w
changed_once (removes path) w = removed path w

-- the world after these changes, one after another
abbrev pub changed : List Change → World → World
changed [] w = w
changed (change ∷ changes) w = changed changes (changed_once change w)

-- the content of a path after a change, given the path's old content
abbrev pub said : Change → List ℕ → Option (List ℕ) → Option (List ℕ)
said (writes path bytes) q old = if is_same_path path q then Some bytes else old
said (removes path) q old = if is_at_or_below path q then None else old

-- the content of a path after these changes, given the path's old content
abbrev pub last_said : List Change → List ℕ → Option (List ℕ) → Option (List ℕ)
last_said [] q old = old
last_said (change ∷ changes) q old = last_said changes q (said change q old)

-- the last change that touches a path decides what the path contains
abbrev pub LastWordStands : Type 0
LastWordStands = (changes : List Change) (w : World) (q : List ℕ) → map.get (changed changes w).files q ≡ last_said changes q (map.get w.files q)

-- changes of files leave every variable unchanged
abbrev pub VariablesStand : Type 0
VariablesStand = (changes : List Change) (w : World) → (changed changes w).variables ≡ w.variables
