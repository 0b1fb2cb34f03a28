-- The line of a profile: the profile, the profile from which it inherits, and so on (The Cargo
-- Book, Profiles).
use Rattle.std.specs.Prelude.{◌≡◌, ◌↔◌, ℕ, Bool, true, false, is_none, ◌&&◌, ◌||◌, ◌++◌, if◌then◌else◌, codes, List, [], ◌∷◌, map, Some, Result, Ok, Err}
use Rattle.std.specs.List.{filter_map, flat_map, list_all}
use Rattle.std.specs.Option.{option_to_list}
use Rattle.pb_data.specs.UnlessOom.{◌>>=◌}
use Rattle.pb_profile_keys.specs.Keys.{Said, says}
use Rattle.pb_profile_keys.specs.declared.key.ProfileKey.TheVariants as key
use Rattle.pb_manifest_types.specs.declared.profile.Profile.{Profile}
use Rattle.pb_manifest_types.specs.declared.profile.ProfileOverride.{ProfileOverride}
use Rattle.pb_profile.specs.Line.{Seen, checked_line, is_either, line_of, named, seen_at}
use Rattle.pb_profile.specs.declared.fault.ProfileFault.{ProfileFault}
use Rattle.pb_profile.specs.declared.fault.ProfileFault.TheVariants.{NoSuchProfile, InheritsCycle, NotInOverride}

-- One profile inherits from another. `test` inherits from `dev`, and `bench` from `release`. A
-- custom profile inherits from the profile that its table names. `dev` and `release` inherit from
-- no profile.
pub data Inherits (profiles : List Profile) : List ℕ → List ℕ → Type 0 where
  test : Inherits profiles (codes "test") (codes "dev")
  bench : Inherits profiles (codes "bench") (codes "release")
  custom : (name parent : List ℕ) (p : Profile) (other : is_either (codes "dev") (codes "release") name || is_either (codes "test") (codes "bench") name ≡ false) (there : named profiles name ≡ Some p) (written : p.inherits ≡ Some parent) → Inherits profiles name parent

-- the ancestor is the profile itself, or the profile inherits from the ancestor in one or more
-- steps
pub data IsAncestor (profiles : List Profile) : List ℕ → List ℕ → Type 0 where
  itself : (name : List ℕ) → IsAncestor profiles name name
  higher : (name parent ancestor : List ℕ) (inherits : Inherits profiles name parent) (more : IsAncestor profiles parent ancestor) → IsAncestor profiles name ancestor

-- The line of a profile ends at `dev` or `release`. There is a fault instead of a line if an
-- ancestor inherits from itself after some steps. There is also a fault if an ancestor inherits
-- from no profile, but is neither `dev` nor `release`.
pub data IsLine (profiles : List Profile) : List ℕ → Result (List Seen) ProfileFault → Type 0 where
  last : (name : List ℕ) (built_in : is_either (codes "dev") (codes "release") name ≡ true) → IsLine profiles name (Ok (seen_at profiles name ∷ []))
  further : (name parent : List ℕ) (line : List Seen) (inherits : Inherits profiles name parent) (rest : IsLine profiles parent (Ok line)) → IsLine profiles name (Ok (seen_at profiles name ∷ line))
  missing : (name ancestor : List ℕ) (is : IsAncestor profiles name ancestor) (custom : is_either (codes "dev") (codes "release") ancestor ≡ false) (none : (parent : List ℕ) → Inherits profiles ancestor parent → ⊥) → IsLine profiles name (Err NoSuchProfile)
  cycle : (name ancestor parent : List ℕ) (is : IsAncestor profiles name ancestor) (inherits : Inherits profiles ancestor parent) (back : IsAncestor profiles parent ancestor) → IsLine profiles name (Err InheritsCycle)

abbrev pub LinesAreThese : Type 0
LinesAreThese = (profiles : List Profile) (name : List ℕ) (answer : Result (List Seen) ProfileFault) → (line_of profiles name ≡ answer) ↔ IsLine profiles name answer

-- what each override in a line sets
abbrev pub overrides_of : List Seen → List Said
overrides_of line = flat_map (λ (p : Profile). option_to_list p.build_override ++ map (λ (o : ProfileOverride). o.keys) p.packages) (filter_map (λ (s : Seen). s.table) line)

-- an override sets none of `panic`, `lto` and `rpath`
abbrev pub sets_no_other : Said → Bool
sets_no_other values = is_none (says values key.Panic) && is_none (says values key.Lto) && is_none (says values key.Rpath)

-- A line is accepted if and only if its overrides set none of `panic`, `lto` and `rpath`.
abbrev pub LinesAreChecked : Type 0
LinesAreChecked = (profiles : List Profile) (name : List ℕ)
    → checked_line profiles name ≡ line_of profiles name >>= (λ line. if list_all sets_no_other (overrides_of line) then Ok line else Err NotInOverride)
