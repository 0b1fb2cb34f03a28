-- How a command differs from the recorded command: in a part or in a variable. The parts are
-- compared in a fixed order.
use Rattle.std.specs.Prelude.{◌≡◌, ◌++◌, ◌∷◌, ◌&&◌, if◌then◌else◌, true, ℕ, List, [], Option, Some, None}
use Rattle.std.specs.Str.{bytes_eq}
use Rattle.std.specs.Ordering.{nat_cmp, is_lt}
use Rattle.std.specs.declared.cmp.Ordering.TheVariants.{Less}
use Rattle.std.specs.Cmp.Lexicographic.{slice_cmp}
use Rattle.std.specs.FinMap.{find}
use Rattle.pb_place_types.specs.declared.command.Command.{Command}
use Rattle.pb_record.specs.Sorted.{are_sorted}
use Rattle.pb_record.specs.declared.recorded_command.RecordedCommand.{RecordedCommand}
use Rattle.pb_store.specs.declared.difference.CommandPart.{CommandPart}
use Rattle.pb_store.specs.declared.difference.CommandPart.TheVariants.{Program, Words, Folder, Out, Target, Toolchain, Reads}

-- the parts of a command, without the variables, in the order in which they are compared
abbrev pub parts : List CommandPart
parts = Program ∷ Words ∷ Folder ∷ Out ∷ Target ∷ Toolchain ∷ Reads ∷ []

-- this part of the command is equal to the recorded part
abbrev pub SamePart : RecordedCommand → Command → CommandPart → Type 0
SamePart a c Program = a.program ≡ c.program
SamePart a c Words = a.words ≡ c.words
SamePart a c Folder = a.folder ≡ c.folder
SamePart a c Out = Some a.out ≡ c.out
SamePart a c Target = a.target ≡ c.target
SamePart a c Toolchain = a.toolchain ≡ c.toolchain
SamePart a c Reads = a.reads ≡ c.reads

-- the lesser of two names in byte order
abbrev pub lesser : List ℕ → List ℕ → List ℕ
lesser name other = if is_lt (slice_cmp nat_cmp other name) then other else name

-- The first variables of the two rows differ, and `name` is the lesser of their names. If one row
-- is empty, `name` is the name of the other row's first variable.
abbrev pub IsNextName : List (List ℕ × List ℕ) → List (List ℕ × List ℕ) → List ℕ → Type 0
IsNextName [] [] name = ⊥
IsNextName [] (y ∷ ys) name = name ≡ y.0
IsNextName (x ∷ xs) [] name = name ≡ x.0
IsNextName (x ∷ xs) (y ∷ ys) name = (x ≡ y → ⊥) × (name ≡ lesser x.0 y.0)

-- `name` is the first name at which two rows of variables differ. Both rows begin with the same
-- variables, `before`. `IsNextName` is true of `name` for what follows in the two rows.
pub record IsFirstName (row other : List (List ℕ × List ℕ)) (name : List ℕ) : Type 0 where
  pub before : List (List ℕ × List ℕ)
  pub after : List (List ℕ × List ℕ)
  pub behind : List (List ℕ × List ℕ)
  pub split : row ≡ before ++ after
  pub other_split : other ≡ before ++ behind
  pub next : IsNextName after behind name

-- the two rows differ at this name, and agree at each lesser name
pub record IsLeastName (row other : List (List ℕ × List ℕ)) (name : List ℕ) : Type 0 where
  pub here : find (slice_cmp nat_cmp) name row ≡ find (slice_cmp nat_cmp) name other → ⊥
  pub below : (less : List ℕ) → slice_cmp nat_cmp less name ≡ Less → find (slice_cmp nat_cmp) less row ≡ find (slice_cmp nat_cmp) less other

-- If two rows of variables are sorted by name, `IsFirstName` finds the least name at which they
-- differ.
abbrev pub FirstNameIsFirst : Type 0
FirstNameIsFirst = (row other : List (List ℕ × List ℕ)) (name : List ℕ) → are_sorted row ≡ true → are_sorted other ≡ true → IsFirstName row other name → IsLeastName row other name

-- the first name at which two rows of variables differ, if they differ; the rows are compared
-- variable by variable
abbrev pub first_name : List (List ℕ × List ℕ) → List (List ℕ × List ℕ) → Option (List ℕ)
first_name [] [] = None
first_name [] (y ∷ ys) = Some y.0
first_name (x ∷ xs) [] = Some x.0
first_name (x ∷ xs) (y ∷ ys) = if bytes_eq x.0 y.0 && bytes_eq x.1 y.1 then first_name xs ys else Some (lesser x.0 y.0)
