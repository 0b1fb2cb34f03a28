-- Which values a profile's keys have (The Cargo Book, Profiles).
use Rattle.std.specs.Prelude.{ℕ, Bool, not, false, ◌&&◌, ◌==◌, if◌then◌else◌, nat_le, codes, List, [], ◌∷◌, Option, Some, None}
use Rattle.std.specs.Str.{bytes_eq}
use Rattle.pb_profile_keys.specs.First.{first_some}
use Rattle.pb_profile_keys.specs.declared.setting.Word.{Word}
use Rattle.pb_profile_keys.specs.declared.setting.Word.TheVariants as word
use Rattle.pb_profile_keys.specs.declared.setting.Setting.{Setting}
use Rattle.pb_profile_keys.specs.declared.setting.Setting.TheVariants as setting
use Rattle.pb_profile_keys.specs.declared.setting.Choice.{Choice}
use Rattle.pb_profile_keys.specs.declared.setting.Choice.TheVariants.{Is, Means, Between}

-- the spelling of a word
abbrev pub spelled : Word → List ℕ
spelled word.Abort = codes "abort"
spelled word.DebugInfo = codes "debuginfo"
spelled word.Fat = codes "fat"
spelled word.Full = codes "full"
spelled word.Limited = codes "limited"
spelled word.LineDirectivesOnly = codes "line-directives-only"
spelled word.LineTablesOnly = codes "line-tables-only"
spelled word.Nothing = codes "none"
spelled word.Off = codes "off"
spelled word.One = codes "1"
spelled word.Size = codes "s"
spelled word.SmallestSize = codes "z"
spelled word.Symbols = codes "symbols"
spelled word.Thin = codes "thin"
spelled word.Three = codes "3"
spelled word.Two = codes "2"
spelled word.Unwind = codes "unwind"
spelled word.Zero = codes "0"

-- all words
abbrev pub words : List Word
words =
    word.Abort ∷ word.DebugInfo ∷ word.Fat ∷ word.Full ∷ word.Limited ∷ word.LineDirectivesOnly ∷ word.LineTablesOnly ∷ word.Nothing ∷ word.Off
    ∷ word.One ∷ word.Size ∷ word.SmallestSize ∷ word.Symbols ∷ word.Thin ∷ word.Three ∷ word.Two ∷ word.Unwind ∷ word.Zero ∷ []

-- The word, if this text is the word's spelling. `word_of` is the word that a text spells.
abbrev pub if_spelled : List ℕ → Word → Option Word
if_spelled text w = if bytes_eq (spelled w) text then Some w else None

unfoldable pub word_of : List ℕ → Option Word
word_of text = first_some (if_spelled text) words

-- the two values are equal
abbrev pub same : Setting → Setting → Bool
same (setting.Truth a) (setting.Truth b) = if a then b else not b
same (setting.Number a) (setting.Number b) = a == b
same (setting.Word a) (setting.Word b) = bytes_eq (spelled a) (spelled b)
same _ _ = false

-- the setting, if it is a number in this range
abbrev pub between : ℕ → ℕ → Setting → Option Setting
between low high (setting.Truth b) = None
between low high (setting.Number n) = if nat_le low n && nat_le n high then Some (setting.Number n) else None
between low high (setting.Word w) = None

-- the meaning of a written value by one choice, if the choice accepts this value
abbrev pub accepted : Setting → Choice → Option Setting
accepted written (Is value) = if same written value then Some value else None
accepted written (Means value meant) = if same written value then Some meant else None
accepted written (Between low high) = between low high written

-- the meaning of a written value by the first choice that accepts it
abbrev pub meaning : List Choice → Setting → Option Setting
meaning choices written = first_some (accepted written) choices
