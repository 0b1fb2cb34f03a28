-- From which profile a profile inherits, and what the output folder of a profile is called (The
-- Cargo Book, Profiles).
use Rattle.std.specs.Prelude.{ℕ, zero, suc, ◌+◌, Bool, true, ◌&&◌, ◌||◌, if◌then◌else◌, codes, List, [], ◌∷◌, length, Option, Some, None, Result, Ok, Err, option_map, is_none}
use Rattle.std.specs.List.{list_all, find}
use Rattle.std.specs.Str.{bytes_eq}
use Rattle.pb_data.specs.UnlessOom.{◌>>=◌}
use Rattle.pb_profile_keys.specs.Keys.{Said, says}
use Rattle.pb_profile_keys.specs.Table.{keys, row}
use Rattle.pb_profile_keys.specs.declared.setting.Setting.{Setting}
use Rattle.pb_manifest_types.specs.declared.profile.Profile.{Profile}
use Rattle.pb_manifest_types.specs.declared.profile.ProfileOverride.{ProfileOverride}
use Rattle.pb_profile.specs.declared.line.Ancestor.{Ancestor}
use Rattle.pb_profile.specs.declared.fault.ProfileFault.{ProfileFault}
use Rattle.pb_profile.specs.declared.fault.ProfileFault.TheVariants.{NoSuchProfile, InheritsCycle, NotInOverride}

-- there is no value, or the test is true for the value
abbrev pub option_all : {A : Type 0} → (A → Bool) → Option A → Bool
option_all test None = true
option_all test (Some x) = test x

-- the name is `first` or `second`
abbrev pub is_either : List ℕ → List ℕ → List ℕ → Bool
is_either first second name = bytes_eq name first || bytes_eq name second

-- the name of a profile's output folder in the target folder
abbrev pub folder_of : List ℕ → List ℕ
folder_of name =
    if is_either (codes "dev") (codes "test") name then codes "debug"
    else (if is_either (codes "release") (codes "bench") name then codes "release" else name)

-- a profile of a line: the profile's name, and its table if a table is written
pub record Seen : Type 0 where
  pub name : List ℕ
  pub table : Option Profile

-- a profile of a line as contracts see it
abbrev pub seen : Ancestor → Seen
seen a = record { name = a.name.now; table = option_map (λ p. p.now) a.table }

-- the written profile with this name, if there is one
abbrev pub named : List Profile → List ℕ → Option Profile
named profiles name = find (λ (p : Profile). bytes_eq p.name name) profiles

-- the name of the profile from which a custom profile inherits; a manifest must write this name
abbrev pub inherited : Option (List ℕ) → Result (Option (List ℕ)) ProfileFault
inherited None = Err NoSuchProfile
inherited (Some parent) = Ok (Some parent)

abbrev pub custom_parent : Option Profile → Result (Option (List ℕ)) ProfileFault
custom_parent None = Err NoSuchProfile
custom_parent (Some p) = inherited p.inherits

-- a result with borrowed values as contracts see it
abbrev pub shown_parent : {P Q : Type 0} → (P → Q) → Result (Option P) ProfileFault → Result (Option Q) ProfileFault
shown_parent shows (Ok parent) = Ok (option_map shows parent)
shown_parent shows (Err fault) = Err fault

-- the profile with this name, and its table if a table is written
abbrev pub seen_at : List Profile → List ℕ → Seen
seen_at profiles name = record { name = name; table = named profiles name }

-- The name of the profile from which a profile inherits. `test` inherits from `dev`, and `bench`
-- from `release`. `dev` and `release` inherit from no profile. A custom profile inherits from the
-- profile that its table names.
abbrev pub parent_of : Seen → Result (Option (List ℕ)) ProfileFault
parent_of s =
    if is_either (codes "dev") (codes "release") s.name then Ok None
    else (if bytes_eq s.name (codes "test") then Ok (Some (codes "dev"))
    else (if bytes_eq s.name (codes "bench") then Ok (Some (codes "release"))
    else custom_parent s.table))

-- the profile from which a profile inherits, if there is one
abbrev pub above : List Profile → Seen → Result (Option Seen) ProfileFault
above profiles s = parent_of s >>= (λ parent. Ok (option_map (seen_at profiles) parent))

-- The profile's line. If the profile has no parent, the line is the profile alone. Otherwise the
-- line is the profile, followed by the parent's line.
abbrev pub then_above : (Seen → Result (List Seen) ProfileFault) → Seen → Option Seen → Result (List Seen) ProfileFault
then_above line_of s None = Ok (s ∷ [])
then_above line_of s (Some parent) = line_of parent >>= (λ line. Ok (s ∷ line))

-- The line of a profile: the profile, its parent, and so on to `dev` or `release`. A line with more
-- than n profiles counts as a cycle.
abbrev pub line_within : ℕ → List Profile → Seen → Result (List Seen) ProfileFault
line_within zero profiles s = Err InheritsCycle
line_within (suc n) profiles s = above profiles s >>= then_above (line_within n profiles) s

-- The line of the profile with this name. A line has at most the written profiles and two built-in
-- profiles. So a longer line contains some profile twice.
abbrev pub line_of : List Profile → List ℕ → Result (List Seen) ProfileFault
line_of profiles name = line_within (length profiles + 2) profiles (seen_at profiles name)

-- these values are allowed in an override: they set none of `panic`, `lto` and `rpath`
abbrev pub may_override : Said → Bool
may_override values = list_all (λ k. (row k).in_override || is_none (says values k)) keys

-- each override in a profile's table sets only keys that an override may set
abbrev pub table_allows : Profile → Bool
table_allows table = option_all may_override table.build_override && list_all (λ (o : ProfileOverride). may_override o.keys) table.packages

abbrev pub allows : Seen → Bool
allows s = option_all table_allows s.table

-- the line of a profile, or a fault if an override in the line sets a key that overrides may not
-- set
abbrev pub checked_line : List Profile → List ℕ → Result (List Seen) ProfileFault
checked_line profiles name = line_of profiles name >>= (λ line. if list_all allows line then Ok line else Err NotInOverride)
