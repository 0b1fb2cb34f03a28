-- What the tables `[profile.*]` mean, key by key (The Cargo Book, Profiles).
use Rattle.std.specs.Prelude.{◌≡◌, ◌&&◌, if◌then◌else◌, nat_le, ℕ, pos, true, false, List, [], ◌∷◌, codes, length, Option, Contains}
use Rattle.std.specs.List.{AllZip}
use Rattle.std.specs.Option.{option_to_list}
use Rattle.toml.specs.Data.{Data, string, integer, boolean, Members, get_member}
use Rattle.pb_manifest.specs.Profiles.{may_be_profile}
use Rattle.pb_profile_keys.specs.Keys.{Said, says}
use Rattle.pb_profile_keys.specs.Table.{keys}
use Rattle.pb_profile_keys.specs.declared.key.ProfileKey.{ProfileKey}
use Rattle.pb_profile_keys.specs.declared.key.ProfileKey.TheVariants as key
use Rattle.pb_profile_keys.specs.declared.setting.Setting.{Setting}
use Rattle.pb_profile_keys.specs.declared.setting.Setting.TheVariants.{Truth, Number, Word}
use Rattle.pb_profile_keys.specs.declared.setting.Word.TheVariants as word
use Rattle.pb_manifest_types.specs.declared.profile.ProfileOverride.{ProfileOverride}
use Rattle.pb_manifest_types.specs.declared.profile.Profile.{Profile}
use Rattle.pb_manifest_laws.specs.Values.{OptionalMeans, OfTable, IsTableAt, AreEntriesAt}

-- the name of a key, as a manifest spells it
abbrev pub name_of : ProfileKey → List ℕ
name_of key.CodegenUnits = codes "codegen-units"
name_of key.Debug = codes "debug"
name_of key.DebugAssertions = codes "debug-assertions"
name_of key.Lto = codes "lto"
name_of key.OptLevel = codes "opt-level"
name_of key.OverflowChecks = codes "overflow-checks"
name_of key.Panic = codes "panic"
name_of key.Rpath = codes "rpath"
name_of key.Strip = codes "strip"

-- All written forms of a value that a key may have. The reader goes from a written form to its
-- value; this table goes from a value to its forms. So a wrong row of one table has no counterpart
-- in the other.
abbrev pub forms : ProfileKey → Setting → List Data
forms key.CodegenUnits (Number n) = if nat_le 1 n && nat_le n 65536 then integer (pos n) ∷ [] else []
forms key.Debug (Word word.Zero) = boolean false ∷ integer (pos 0) ∷ string (codes "none") ∷ []
forms key.Debug (Word word.One) = integer (pos 1) ∷ string (codes "limited") ∷ []
forms key.Debug (Word word.Two) = boolean true ∷ integer (pos 2) ∷ string (codes "full") ∷ []
forms key.Debug (Word word.LineTablesOnly) = string (codes "line-tables-only") ∷ []
forms key.Debug (Word word.LineDirectivesOnly) = string (codes "line-directives-only") ∷ []
forms key.DebugAssertions (Truth b) = boolean b ∷ []
forms key.Lto (Truth false) = boolean false ∷ []
forms key.Lto (Word word.Fat) = boolean true ∷ string (codes "fat") ∷ []
forms key.Lto (Word word.Thin) = string (codes "thin") ∷ []
forms key.Lto (Word word.Off) = string (codes "off") ∷ []
forms key.OptLevel (Word word.Zero) = integer (pos 0) ∷ []
forms key.OptLevel (Word word.One) = integer (pos 1) ∷ []
forms key.OptLevel (Word word.Two) = integer (pos 2) ∷ []
forms key.OptLevel (Word word.Three) = integer (pos 3) ∷ []
forms key.OptLevel (Word word.Size) = string (codes "s") ∷ []
forms key.OptLevel (Word word.SmallestSize) = string (codes "z") ∷ []
forms key.OverflowChecks (Truth b) = boolean b ∷ []
forms key.Panic (Word word.Unwind) = string (codes "unwind") ∷ []
forms key.Panic (Word word.Abort) = string (codes "abort") ∷ []
forms key.Rpath (Truth b) = boolean b ∷ []
forms key.Strip (Word word.Nothing) = boolean false ∷ string (codes "none") ∷ []
forms key.Strip (Word word.DebugInfo) = string (codes "debuginfo") ∷ []
forms key.Strip (Word word.Symbols) = boolean true ∷ string (codes "symbols") ∷ []
forms _ _ = []

-- If the key is there, its written value is one of the forms of the value that was read. No value
-- is read if and only if the key is missing.
abbrev pub HoldsOne : {A : Type 0} → (A → List Data) → Option Data → Option A → Type 0
HoldsOne forms found value = AllZip (λ d x. Contains (forms x) d) (option_to_list found) (option_to_list value)

-- the table describes these settings: at most one value for each key
pub record AreSettings (ms : Members) (said : Said) : Type 0 where
  pub one_each : length said ≡ length keys
  pub each : (k : ProfileKey) → HoldsOne (forms k) (get_member (name_of k) ms) (says said k)

-- an override for the package with this name describes these settings
pub record IsOverrideEntry (name : List ℕ) (ms : Members) (o : ProfileOverride) : Type 0 where
  pub name_is : o.name ≡ name
  pub keys : AreSettings ms o.keys

-- A table describes this profile. A profile that is not built in has an allowed name, and has
-- `inherits`.
pub record IsProfileEntry (name : List ℕ) (ms : Members) (p : Profile) : Type 0 where
  pub name_is : p.name ≡ name
  pub keys : AreSettings ms p.keys
  pub inherits : OptionalMeans string (get_member (codes "inherits") ms) p.inherits
  pub may_be : may_be_profile name p.inherits ≡ true
  pub packages : AreEntriesAt (λ name. OfTable (IsOverrideEntry name)) (get_member (codes "package") ms) p.packages
  pub build_override : IsTableAt AreSettings (get_member (codes "build-override") ms) p.build_override
