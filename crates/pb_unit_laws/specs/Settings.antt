-- The settings of a package. Several sets of values count for the package, in order. Each key has
-- the first value that these sets have for the key (The Cargo Book, Profiles).
use Rattle.std.specs.Prelude.{◌≡◌, ◌∷◌, ◌++◌, [], ℕ, if◌then◌else◌, codes, List, map, Option, Some, None, option_and_then, option_map, slice_get, unwrap_or}
use Rattle.std.specs.List.{filter_map, find, flat_map}
use Rattle.std.specs.Str.{bytes_eq}
use Rattle.pb_profile_keys.specs.Keys.{Said, says}
use Rattle.pb_profile_keys.specs.Table.{defaults, keys}
use Rattle.pb_profile_keys.specs.declared.key.ProfileKey.{ProfileKey}
use Rattle.pb_profile_keys.specs.declared.setting.Setting.{Setting}
use Rattle.pb_manifest_types.specs.declared.profile.Profile.{Profile}
use Rattle.pb_manifest_types.specs.declared.profile.ProfileOverride.{ProfileOverride}
use Rattle.pb_workspace_types.specs.declared.package.Package.{Package}
use Rattle.pb_workspace_types.specs.declared.package.Side.{Side}
use Rattle.pb_workspace_types.specs.declared.package.Side.TheVariants.{Target, Host}
use Rattle.pb_profile.specs.Line.{Seen}
use Rattle.pb_profile.specs.Settings.{fixed, settings_along}

-- a set of values: for each key a value, or no value
abbrev pub Set : Type 0
Set = ProfileKey → Option Setting

-- the values that a profile's table `package.NAME` sets, if there is such a table
abbrev pub set_for : List ℕ → Seen → Option Set
set_for name s = option_map says (option_and_then (λ (p : Profile). option_map (λ (o : ProfileOverride). o.keys) (find (λ (o : ProfileOverride). bytes_eq o.name name) p.packages)) s.table)

-- the built-in values of `dev` and `release`
abbrev pub built_in_set : Seen → Option Set
built_in_set s = if bytes_eq s.name (codes "dev") then Some (λ k. Some (defaults k).dev) else (if bytes_eq s.name (codes "release") then Some (λ k. Some (defaults k).release) else None)

-- the values for the host's role: first the values of `build-override`, and then the built-in
-- values
abbrev pub set_for_role : Side → List (Seen → Option Set)
set_for_role Target = []
set_for_role Host = (λ (s : Seen). option_map says (option_and_then (λ (p : Profile). p.build_override) s.table)) ∷ (λ (s : Seen). Some (λ k. (defaults k).beside_override)) ∷ []

-- The sets that count for a package in a role, the strongest first. The sets of `package.NAME` come
-- first. The sets of `package."*"` follow, if the package is not a member. Then come the role's
-- sets, the profile's own keys, and the built-in values. Sets of one kind have the order of the
-- line's profiles.
abbrev pub sets_for : Package → Side → List Seen → List Set
sets_for p role line = flat_map (λ set_in. filter_map set_in line) (set_for p.name ∷ (if p.is_member then [] else set_for (codes "*") ∷ []) ++ set_for_role role ++ (λ (s : Seen). option_map says (option_map (λ (p : Profile). p.keys) s.table)) ∷ built_in_set ∷ [])

-- the first value that the sets have for a key, or the default if no set has a value for the key
abbrev pub first_value : ProfileKey → List Set → Setting → Setting
first_value k sets default = unwrap_or (slice_get (filter_map (λ (set : Set). set k) sets) 0) default

-- For each key, the setting of a package in a role is `first_value`, unless the key has a fixed
-- value in this role. Each line ends with a profile that has all built-in values, so the default is
-- never used.
abbrev pub SettingsAreThese : Type 0
SettingsAreThese = (p : Package) (role : Side) (line : List Seen) → settings_along p role line ≡ map (λ k. fixed role k (first_value k (sets_for p role line) (defaults k).dev)) keys
