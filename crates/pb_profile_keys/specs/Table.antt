-- The table of a profile's keys: what is known of each key (The Cargo Book, Profiles).
use Rattle.std.specs.Prelude.{ℕ, Bool, true, false, codes, List, [], ◌∷◌, Option, Some, None}
use Rattle.pb_profile_keys.specs.Setting.{meaning}
use Rattle.pb_profile_keys.specs.declared.key.ProfileKey.{ProfileKey}
use Rattle.pb_profile_keys.specs.declared.key.ProfileKey.TheVariants as key
use Rattle.pb_profile_keys.specs.declared.setting.Word.TheVariants as word
use Rattle.pb_profile_keys.specs.declared.setting.Choice.{Choice}
use Rattle.pb_profile_keys.specs.declared.setting.Choice.TheVariants.{Is, Means, Between}
use Rattle.pb_profile_keys.specs.declared.setting.Setting.{Setting}
use Rattle.pb_profile_keys.specs.declared.setting.Setting.TheVariants.{Truth, Number, Word}

-- what is known of a key, apart from its values
pub record Facts : Type 0 where
  -- the key's name in a manifest
  pub name : List ℕ
  -- an override may set the key
  pub in_override : Bool
  -- The beginning of the compiler's option for the key. `yes` is what the option has for the value
  -- `true`.
  pub option : List ℕ
  pub yes : List ℕ
  -- the value for which the compiler gets no option, if there is one
  pub untold : Option Setting
  -- only the compile of a binary gets the option
  pub of_binaries : Bool

-- a key for which nothing special is known
abbrev pub plain : Facts
plain = record { name = []; in_override = true; option = []; yes = codes "on"; untold = None; of_binaries = false }

-- the row of a key in the table
unfoldable pub row : ProfileKey → Facts
row key.CodegenUnits = record plain { name = codes "codegen-units"; option = codes "codegen-units=" }
row key.Debug = record plain { name = codes "debug"; option = codes "debuginfo=" }
row key.DebugAssertions = record plain { name = codes "debug-assertions"; option = codes "debug-assertions=" }
row key.Lto = record plain { name = codes "lto"; in_override = false; option = codes "lto="; untold = Some (Truth false); of_binaries = true }
row key.OptLevel = record plain { name = codes "opt-level"; option = codes "opt-level=" }
row key.OverflowChecks = record plain { name = codes "overflow-checks"; option = codes "overflow-checks=" }
row key.Panic = record plain { name = codes "panic"; in_override = false; option = codes "panic=" }
row key.Rpath = record plain { name = codes "rpath"; in_override = false; option = codes "rpath="; yes = codes "yes"; untold = Some (Truth false) }
row key.Strip = record plain { name = codes "strip"; option = codes "strip="; untold = Some (Word word.Nothing) }

-- the values that a key has if no manifest sets the key
pub record Defaults : Type 0 where
  -- the value in the profile `dev`, and then the value in `release`
  pub dev : Setting
  pub release : Setting
  -- the built-in value for host roles, if there is one; this value counts after `build-override`
  pub beside_override : Option Setting
  -- the fixed value of the key in host roles, if there is one; no manifest can change this value
  pub in_hosts : Option Setting

-- the built-in values of a key
unfoldable pub defaults : ProfileKey → Defaults
defaults key.CodegenUnits = record { dev = Number 256; release = Number 16; beside_override = Some (Number 256); in_hosts = None }
defaults key.Debug = record { dev = Word word.Two; release = Word word.Zero; beside_override = Some (Word word.Zero); in_hosts = None }
defaults key.DebugAssertions = record { dev = Truth true; release = Truth false; beside_override = None; in_hosts = None }
defaults key.Lto = record { dev = Truth false; release = Truth false; beside_override = None; in_hosts = None }
defaults key.OptLevel = record { dev = Word word.Zero; release = Word word.Three; beside_override = Some (Word word.Zero); in_hosts = None }
defaults key.OverflowChecks = record { dev = Truth true; release = Truth false; beside_override = None; in_hosts = None }
defaults key.Panic = record { dev = Word word.Unwind; release = Word word.Unwind; beside_override = None; in_hosts = Some (Word word.Unwind) }
defaults key.Rpath = record { dev = Truth false; release = Truth false; beside_override = None; in_hosts = None }
defaults key.Strip = record { dev = Word word.Nothing; release = Word word.Nothing; beside_override = None; in_hosts = None }

-- the values that a key may have, each with its meaning
unfoldable pub choices : ProfileKey → List Choice
choices key.CodegenUnits = Between 1 65536 ∷ []
choices key.Debug =
    Means (Truth false) (Word word.Zero) ∷ Means (Number 0) (Word word.Zero) ∷ Means (Word word.Nothing) (Word word.Zero)
    ∷ Means (Number 1) (Word word.One) ∷ Means (Word word.Limited) (Word word.One)
    ∷ Means (Truth true) (Word word.Two) ∷ Means (Number 2) (Word word.Two) ∷ Means (Word word.Full) (Word word.Two)
    ∷ Is (Word word.LineTablesOnly) ∷ Is (Word word.LineDirectivesOnly) ∷ []
choices key.DebugAssertions = Is (Truth true) ∷ Is (Truth false) ∷ []
choices key.Lto = Is (Truth false) ∷ Means (Truth true) (Word word.Fat) ∷ Is (Word word.Fat) ∷ Is (Word word.Thin) ∷ Is (Word word.Off) ∷ []
choices key.OptLevel =
    Means (Number 0) (Word word.Zero) ∷ Means (Number 1) (Word word.One) ∷ Means (Number 2) (Word word.Two) ∷ Means (Number 3) (Word word.Three)
    ∷ Is (Word word.Size) ∷ Is (Word word.SmallestSize) ∷ []
choices key.OverflowChecks = Is (Truth true) ∷ Is (Truth false) ∷ []
choices key.Panic = Is (Word word.Unwind) ∷ Is (Word word.Abort) ∷ []
choices key.Rpath = Is (Truth true) ∷ Is (Truth false) ∷ []
choices key.Strip = Means (Truth false) (Word word.Nothing) ∷ Means (Truth true) (Word word.Symbols) ∷ Is (Word word.Nothing) ∷ Is (Word word.DebugInfo) ∷ Is (Word word.Symbols) ∷ []

-- the meaning of a written value at a key, if the key may have this value
abbrev pub meaning_at : ProfileKey → Setting → Option Setting
meaning_at k written = meaning (choices k) written

-- all keys, in byte order of their names
abbrev pub keys : List ProfileKey
keys = key.CodegenUnits ∷ key.Debug ∷ key.DebugAssertions ∷ key.Lto ∷ key.OptLevel ∷ key.OverflowChecks ∷ key.Panic ∷ key.Rpath ∷ key.Strip ∷ []

-- the index of a key in the list of all keys
abbrev pub index : ProfileKey → ℕ
index key.CodegenUnits = 0
index key.Debug = 1
index key.DebugAssertions = 2
index key.Lto = 3
index key.OptLevel = 4
index key.OverflowChecks = 5
index key.Panic = 6
index key.Rpath = 7
index key.Strip = 8

-- the keys in the order of the compiler's options
abbrev pub told : List ProfileKey
told = key.OptLevel ∷ key.Debug ∷ key.DebugAssertions ∷ key.OverflowChecks ∷ key.CodegenUnits ∷ key.Panic ∷ key.Rpath ∷ key.Strip ∷ key.Lto ∷ []
