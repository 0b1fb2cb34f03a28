-- Which words are used for a difference. The words are our own choice.
use Rattle.std.specs.Prelude.{ℕ, zero, suc, Bool, codes, nat_lt, if◌then◌else◌, List, [], ◌++◌}
use Rattle.std.specs.Fmt.{decimal}
use Rattle.std.specs.List.{list_all}
use Rattle.pb_record.specs.declared.record.InputName.TheVariants.{Path, Variable}
use Rattle.pb_tool_reasons.specs.declared.detail.Detail.{Detail}
use Rattle.pb_tool_reasons.specs.declared.detail.Detail.TheVariants.{Nothing, Unseen, BadAnswer, Word, Became}
use Rattle.pb_store.specs.declared.difference.CommandPart.{CommandPart}
use Rattle.pb_store.specs.declared.difference.CommandPart.TheVariants.{Program, Words, Folder, Out, Target, Toolchain, Reads}
use Rattle.pb_store.specs.declared.difference.Difference.{Difference}
use Rattle.pb_store.specs.declared.difference.Difference.TheVariants.{NoRecord, Command, Pair, Input, Dependency}

abbrev pub part : CommandPart → List ℕ
part Program = codes "the program of its command"
part Words = codes "an argument of its command"
part Folder = codes "the folder in which its command starts"
part Out = codes "its output folder"
part Target = codes "the target folder"
part Toolchain = codes "the version of the compiler"
part Reads = codes "the list of folders that it may read"

-- the reason why a unit's child was started
abbrev pub reason : Difference → List ℕ
reason NoRecord = codes "nothing is kept of it"
reason (Command changed) = part changed ++ codes " has changed"
reason (Pair name) = name ++ codes " has changed"
reason (Input (Path path)) = path ++ codes " has changed"
reason (Input (Variable name)) = name ++ codes " has changed"
reason (Dependency key) = key ++ codes " was built again"

-- The reason of a difference. The reason ends in the text `text`, which says how the differing part
-- has changed.
abbrev pub changed_reason : Difference → List ℕ → List ℕ
changed_reason NoRecord text = reason NoRecord
changed_reason (Command changed) text = part changed ++ codes " " ++ text
changed_reason (Pair name) text = name ++ codes " " ++ text
changed_reason (Input (Path path)) text = path ++ codes " " ++ text
changed_reason (Input (Variable name)) text = name ++ codes " " ++ text
changed_reason (Dependency key) text = reason (Dependency key)

-- The reason of a difference. If the difference is in the arguments of a command, the reason is
-- `text`, which says which argument differs.
abbrev pub word_reason : Difference → List ℕ → List ℕ
word_reason (Command Words) text = text
word_reason difference text = reason difference

-- the text has no ASCII control character below the space, so it has no line feed
abbrev pub is_plain : List ℕ → Bool
is_plain text = list_all (nat_lt 31) text

-- Why a unit's child was started, with the detail of the difference. The detail is left out if the
-- detail is not known, or if the detail's text has a control character.
abbrev pub reason_with : Difference → Detail → List ℕ
reason_with difference Nothing = reason difference
reason_with difference Unseen = codes "something differs from its record"
reason_with difference BadAnswer = codes "its last child gave no answer that could be kept"
reason_with difference (Word text) = if is_plain text then word_reason difference text else reason difference
reason_with difference (Became text) = if is_plain text then changed_reason difference text else reason difference

-- a comma, a number, and words for what the number counts; there is no text if the number is 0
abbrev pub if_some : ℕ → List ℕ → List ℕ
if_some zero words = []
if_some (suc n) words = codes ", " ++ decimal (suc n) ++ words
