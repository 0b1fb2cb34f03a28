-- Which value a profile's key has: the value at the first location that has a value. All profiles
-- of the line are searched at one location before the next location counts (The Cargo Book,
-- Profiles).
use Rattle.std.specs.Prelude.{ℕ, Bool, if◌then◌else◌, codes, List, [], ◌∷◌, ◌++◌, map, Option, Some, None, Result, Ok, option_and_then, option_map, unwrap_or}
use Rattle.std.specs.List.{find}
use Rattle.std.specs.Option.{option_or}
use Rattle.std.specs.Str.{bytes_eq}
use Rattle.pb_data.specs.UnlessOom.{◌>>=◌}
use Rattle.pb_profile_keys.specs.Keys.{Said, says}
use Rattle.pb_profile_keys.specs.Table.{defaults, keys}
use Rattle.pb_profile_keys.specs.declared.key.ProfileKey.{ProfileKey}
use Rattle.pb_profile_keys.specs.declared.setting.Setting.{Setting}
use Rattle.pb_manifest_types.specs.declared.profile.Profile.{Profile}
use Rattle.pb_manifest_types.specs.declared.profile.ProfileOverride.{ProfileOverride}
use Rattle.pb_workspace_types.specs.declared.package.Package.{Package}
use Rattle.pb_workspace_types.specs.declared.package.Side.{Side}
use Rattle.pb_workspace_types.specs.declared.package.Side.TheVariants.{Target, Host}
use Rattle.pb_workspace_types.specs.declared.workspace.Workspace.{Workspace}
use Rattle.pb_profile.specs.declared.fault.ProfileFault.{ProfileFault}
use Rattle.pb_profile.specs.Line.{Seen, checked_line}

-- a location of values: for each profile of the line and each key, the value that is there, if
-- there is one
abbrev pub Lookup : Type 0
Lookup = Seen → ProfileKey → Option Setting

-- the value of a key in a list of values, if there is such a list
abbrev pub said_by : Option Said → ProfileKey → Option Setting
said_by values k = option_and_then (λ set. says set k) values

-- the location of the keys that the profile itself sets
abbrev pub own : Lookup
own s k = said_by (option_map (λ (p : Profile). p.keys) s.table) k

-- The keys that the override `package.NAME` of a profile sets. `in_package` is the location of
-- these keys.
abbrev pub override_named : List ℕ → Profile → Option Said
override_named name p = option_map (λ (o : ProfileOverride). o.keys) (find (λ (o : ProfileOverride). bytes_eq o.name name) p.packages)

abbrev pub in_package : List ℕ → Lookup
in_package name s k = said_by (option_and_then (override_named name) s.table) k

-- the location of the keys that the override `build-override` of a profile sets
abbrev pub in_build_override : Lookup
in_build_override s k = said_by (option_and_then (λ (p : Profile). p.build_override) s.table) k

-- the location of the built-in values for host roles, which come after the overrides
abbrev pub of_hosts : Lookup
of_hosts s k = (defaults k).beside_override

-- the location of the built-in values of `dev` and `release`
abbrev pub built_in : Lookup
built_in s k = if bytes_eq s.name (codes "dev") then Some (defaults k).dev else (if bytes_eq s.name (codes "release") then Some (defaults k).release else None)

-- the location of `package."*"`, which counts only for packages that are not members
abbrev pub of_others : Bool → List Lookup
of_others is_member = if is_member then [] else in_package (codes "*") ∷ []

-- the locations of `build-override` and of the built-in values for host roles; both count only for
-- host roles
abbrev pub of_role : Side → List Lookup
of_role Target = []
of_role Host = in_build_override ∷ of_hosts ∷ []

-- the locations that count for a package in a role, in order
abbrev pub lookups_of : Package → Side → List Lookup
lookups_of p role = in_package p.name ∷ of_others p.is_member ++ of_role role ++ own ∷ built_in ∷ []

-- the value of a key at one location, in the first profile of the line that has a value there
abbrev pub along : ProfileKey → Lookup → List Seen → Option Setting
along k lookup [] = None
along k lookup (s ∷ line) = option_or (lookup s k) (along k lookup line)

-- the value of a key at the first location that has a value for this key
abbrev pub looked_up : ProfileKey → List Lookup → List Seen → Option Setting
looked_up k [] line = None
looked_up k (lookup ∷ lookups) line = option_or (along k lookup line) (looked_up k lookups line)

-- the fixed value of a key in host roles, if there is one, and the given value otherwise; no
-- profile can change a fixed value
abbrev pub fixed : Side → ProfileKey → Setting → Setting
fixed Target k value = value
fixed Host k value = unwrap_or (defaults k).in_hosts value

-- The setting of a key for a package in a role. Each line ends with a profile that has all built-in
-- values, so the default is never used.
abbrev pub setting_of : Package → Side → List Seen → ProfileKey → Setting
setting_of p role line k = fixed role k (unwrap_or (looked_up k (lookups_of p role) line) (defaults k).dev)

-- the settings of a package in a role, in the order of the keys
abbrev pub settings_along : Package → Side → List Seen → List Setting
settings_along p role line = map (setting_of p role line) keys

-- the settings of a package in a role if this profile is requested
abbrev pub settings_of : Workspace → List ℕ → Package → Side → Result (List Setting) ProfileFault
settings_of ws profile p role = checked_line ws.profiles profile >>= (λ line. Ok (settings_along p role line))
