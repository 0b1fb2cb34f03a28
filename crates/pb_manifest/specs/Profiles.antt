-- How the table `[profile]` is read (The Cargo Book, Profiles). A value that the rules do not allow
-- in `[profile]` is refused as `BadProfile`.
use Rattle.std.specs.Prelude.{ℤ, pos, negsuc, List, [], ◌∷◌, Bool, not, ◌&&◌, ◌||◌, if◌then◌else◌, nat_lt, Option, Some, None, Ok, Err, codes, is_some, option_and_then, option_map}
use Rattle.std.specs.Str.{bytes_eq}
use Rattle.toml.specs.Data.{Data, Members, as_str, as_bool, as_integer, as_table}
use Rattle.pb_data.specs.UnlessOom.{◌>>=◌, some_or}
use Rattle.pb_manifest_types.specs.Letters.{is_name}
use Rattle.pb_manifest_types.specs.Values.{Text, Read}
use Rattle.pb_manifest.specs.Values.{optional, value_at, entries_of}
use Rattle.pb_manifest_types.specs.declared.key.Key.{Key}
use Rattle.pb_manifest_types.specs.declared.key.Key.TheVariants as key
use Rattle.pb_manifest_types.specs.declared.fault.ManifestFault.TheVariants.{BadProfile}
use Rattle.pb_profile_keys.specs.Keys.{Said}
use Rattle.pb_profile_keys.specs.Setting.{word_of}
use Rattle.pb_profile_keys.specs.Table.{keys, meaning_at}
use Rattle.pb_profile_keys.specs.declared.key.ProfileKey.{ProfileKey}
use Rattle.pb_profile_keys.specs.declared.setting.Setting.{Setting}
use Rattle.pb_profile_keys.specs.declared.setting.Setting.TheVariants.{Truth, Number, Word}
use Rattle.pb_manifest_types.specs.declared.profile.ProfileOverride.{ProfileOverride}
use Rattle.pb_manifest_types.specs.declared.profile.Profile.{Profile}

-- the number that a setting may have: it fits in 32 bits and is not negative
abbrev pub number_in : ℤ → Option Setting
number_in (pos n) = if nat_lt n 4294967296 then Some (Number n) else None
number_in (negsuc n) = None

-- a value as it is written: a truth value, a number or a word
abbrev pub written_from : Option Bool → Option ℤ → Option Text → Option Setting
written_from (Some truth) number text = Some (Truth truth)
written_from None (Some number) text = number_in number
written_from None None (Some text) = option_map Word (word_of text)
written_from None None None = None

unfoldable pub written : Data → Option Setting
written d = written_from (as_bool d) (as_integer d) (as_str d)

-- the meaning of a written value at a key, if the key may have this value
unfoldable pub setting_in : ProfileKey → Data → Option Setting
setting_in k d = option_and_then (meaning_at k) (written d)

-- the value at a key of a profile; the key may be missing, but a value that cannot be read is
-- refused
abbrev pub profile_value : {A : Type 0} → (Data → Option A) → Key → Members → Read (Option A)
profile_value reads k ms = optional (λ d. some_or BadProfile (reads d)) (value_at k ms)

-- the values at these keys, one by one; a missing key has no value
abbrev pub settings_at : List ProfileKey → Members → Read Said
settings_at [] ms = Ok []
settings_at (k ∷ ks) ms = profile_value (setting_in k) (key.OfProfile k) ms >>= (λ value. settings_at ks ms >>= (λ values. Ok (value ∷ values)))

-- the values of all keys with which a profile or an override sets something
unfoldable pub profile_keys : Members → Read Said
profile_keys ms = settings_at keys ms

abbrev pub profile_table : Data → Read Members
profile_table d = some_or BadProfile (as_table d)

-- the override for the package with this name
unfoldable pub override_of : Text → Data → Read ProfileOverride
override_of name d = profile_table d >>= (λ ms. profile_keys ms >>= (λ keys. Ok record { name = name; keys = keys }))

abbrev pub overrides_at : Members → Read (List ProfileOverride)
overrides_at ms = optional profile_table (value_at key.Package ms) >>= entries_of override_of

abbrev pub build_override_in : Option Members → Read (Option Said)
build_override_in None = Ok None
build_override_in (Some ms) = profile_keys ms >>= (λ keys. Ok (Some keys))

-- the override for build scripts and for what they depend on
abbrev pub build_override_at : Members → Read (Option Said)
build_override_at ms = optional profile_table (value_at key.BuildOverride ms) >>= build_override_in

-- the profile exists even if no manifest writes it
unfoldable pub is_built_in : Text → Bool
is_built_in name = bytes_eq name (codes "dev") || bytes_eq name (codes "release") || bytes_eq name (codes "test") || bytes_eq name (codes "bench")

-- The profile is built in, or may be a custom profile. A custom profile has `inherits`. Its name
-- has the letters of package names, and is not `debug`.
unfoldable pub may_be_profile : Text → Option Text → Bool
may_be_profile name inherits = is_built_in name || (is_name name && not (bytes_eq name (codes "debug")) && is_some inherits)

abbrev pub profile_of_table : Text → Members → Read Profile
profile_of_table name ms =
    build_override_at ms >>= (λ build_override.
    profile_keys ms >>= (λ keys.
    profile_value as_str key.Inherits ms >>= (λ inherits.
    overrides_at ms >>= (λ packages.
    if may_be_profile name inherits
    then Ok record { name = name; keys = keys; inherits = inherits; packages = packages; build_override = build_override }
    else Err BadProfile))))

unfoldable pub profile_of : Text → Data → Read Profile
profile_of name d = profile_table d >>= profile_of_table name

-- the profiles of a manifest, read in byte order of their names
abbrev pub profiles_at : Members → Read (List Profile)
profiles_at ms = optional profile_table (value_at key.Profile ms) >>= entries_of profile_of
