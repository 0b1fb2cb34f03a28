-- The line of a profile in the terms of The Cargo Book: a list in which each profile inherits from
-- the next profile.
use Rattle.std.specs.Prelude.{◌≡◌, ℕ, List, [], ◌∷◌, Some, None, Ok, Err, IsSome}
use Rattle.pb_profile_keys.specs.declared.key.ProfileKey.{ProfileKey}
use Rattle.pb_manifest_types.specs.declared.profile.Profile.{Profile}
use Rattle.pb_workspace_types.specs.declared.package.Package.{Package}
use Rattle.pb_workspace_types.specs.declared.package.Side.{Side}
use Rattle.pb_profile.specs.declared.fault.ProfileFault.TheVariants.{NoSuchProfile, InheritsCycle}
use Rattle.pb_profile.specs.Line.{Seen, seen_at, above, line_of}
use Rattle.pb_profile.specs.Settings.{looked_up, lookups_of}

-- the profile `s` inherits from the profile `t`
abbrev pub InheritsFrom : List Profile → Seen → Seen → Type 0
InheritsFrom profiles s t = above profiles s ≡ Ok (Some t)

-- If a profile inherits from no profile, the profile's line is the profile alone. Otherwise the
-- line is the profile, followed by the line of the profile from which this profile inherits.
pub data IsLine (profiles : List Profile) : Seen → List Seen → Type 0 where
  last : (s : Seen) (ends : above profiles s ≡ Ok None) → IsLine profiles s (s ∷ [])
  further : (s t : Seen) (line : List Seen) (inherits : InheritsFrom profiles s t) (rest : IsLine profiles t line) → IsLine profiles s (s ∷ line)

-- `u` is the profile `s` itself, or `s` inherits from `u` in one or more steps
pub data IsAncestor (profiles : List Profile) : Seen → Seen → Type 0 where
  itself : (s : Seen) → IsAncestor profiles s s
  higher : (s t u : Seen) (inherits : InheritsFrom profiles s t) (more : IsAncestor profiles t u) → IsAncestor profiles s u

-- each line that is returned is a line as `IsLine` defines it
abbrev pub GivesLines : Type 0
GivesLines = (profiles : List Profile) (name : List ℕ) (line : List Seen) → line_of profiles name ≡ Ok line → IsLine profiles (seen_at profiles name) line

-- The requested profile, or a profile from which it inherits, is missing. A profile is missing if
-- it is neither built in nor written with `inherits`.
pub record IsMissing (profiles : List Profile) (from : Seen) : Type 0 where
  pub profile : Seen
  pub ancestor : IsAncestor profiles from profile
  pub missing : above profiles profile ≡ Err NoSuchProfile

abbrev pub TellsMissing : Type 0
TellsMissing = (profiles : List Profile) (name : List ℕ) → line_of profiles name ≡ Err NoSuchProfile → IsMissing profiles (seen_at profiles name)

-- the requested profile, or a profile from which it inherits, inherits from itself in one or more
-- steps
pub record ComesBack (profiles : List Profile) (from : Seen) : Type 0 where
  pub profile : Seen
  pub ancestor : IsAncestor profiles from profile
  pub next : Seen
  pub inherits : InheritsFrom profiles profile next
  pub back : IsAncestor profiles next profile

-- a cycle is reported only if `ComesBack` is true of the requested profile
abbrev pub TellsCycles : Type 0
TellsCycles = (profiles : List Profile) (name : List ℕ) → line_of profiles name ≡ Err InheritsCycle → ComesBack profiles (seen_at profiles name)

-- The profiles may contain anything. Along each line, some location has a value for each key.
abbrev pub FindsValues : Type 0
FindsValues = (profiles : List Profile) (s : Seen) (line : List Seen) → IsLine profiles s line → (p : Package) (role : Side) (k : ProfileKey) → IsSome (looked_up k (lookups_of p role) line)
