-- Along each line every key has a value: at the latest that of the built-in profile at its end.
use Rattle.std.proofs.Common.{◌≡◌, ℕ, Bool, true, false, List, [], ◌∷◌, ◌++◌, Option, Some, None, Result, Ok, Err, refl, codes, if◌then◌else◌}
use Rattle.std.specs.Prelude.{IsSome, ◌||◌}
use Rattle.std.specs.Str.{bytes_eq}
use Rattle.std.specs.Option.{option_or, option_map}
use Rattle.std.proofs.lemmas.Bool.{false≢true}
use Rattle.pb_data.specs.UnlessOom.{◌>>=◌}
use Rattle.pb_manifest_types.specs.declared.profile.Profile.{Profile}
use Rattle.pb_profile_keys.specs.Table.{defaults}
use Rattle.pb_profile_keys.specs.declared.key.ProfileKey.{ProfileKey}
use Rattle.pb_profile_keys.specs.declared.setting.Setting.{Setting}
use Rattle.pb_workspace_types.specs.declared.package.Package.{Package}
use Rattle.pb_workspace_types.specs.declared.package.Side.{Side}
use Rattle.pb_workspace_types.specs.declared.package.Side.TheVariants.{Target, Host}
use Rattle.pb_profile.specs.declared.fault.ProfileFault.{ProfileFault}
use Rattle.pb_profile.specs.Line.{Seen, seen_at, parent_of, custom_parent, inherited, is_either, above}
use Rattle.pb_profile.specs.Settings.{Lookup, in_build_override, of_hosts, own, built_in, in_package, of_others, of_role, lookups_of, along, looked_up}
use Rattle.pb_profile.specs.Laws.{IsLine, last, further, FindsValues}

-- a value stands where one of two has one
second : {A : Type 0} (a b : Option A) → IsSome b → IsSome (option_or a b)
second None b is = is
second (Some x) b is = refl

first : {A : Type 0} (a b : Option A) → IsSome a → IsSome (option_or a b)
first None b is = absurd (false≢true is)
first (Some x) b is = refl

-- only the two at the bottom inherit from none
written_has : (o : Option (List ℕ)) → inherited o ≡ Ok None → ⊥
written_has None e = cc
written_has (Some parent) e = cc

custom_has : (t : Option Profile) → custom_parent t ≡ Ok None → ⊥
custom_has None e = cc
custom_has (Some p) e = written_has p.inherits e

choice_has : (a b c : Bool) (x y : List ℕ) (t : Option Profile)
    → (if a then Ok None else (if b then Ok (Some x) else (if c then Ok (Some y) else custom_parent t))) ≡ Ok None → a ≡ true
choice_has true b c x y t e = refl
choice_has false true c x y t e = cc
choice_has false false true x y t e = cc
choice_has false false false x y t e = absurd (custom_has t e)

bottom_shown : (ps : List Profile) (s : Seen) (r : Result (Option (List ℕ)) ProfileFault) → parent_of s ≡ r → (r >>= (λ parent. Ok (option_map (seen_at ps) parent))) ≡ Ok None → is_either (codes "dev") (codes "release") s.name ≡ true
bottom_shown ps s (Ok None) is e = choice_has (is_either (codes "dev") (codes "release") s.name) (bytes_eq s.name (codes "test")) (bytes_eq s.name (codes "bench")) (codes "dev") (codes "release") s.table is
bottom_shown ps s (Ok (Some parent)) is e = cc
bottom_shown ps s (Err f) is e = cc

at_bottom : (ps : List Profile) (s : Seen) → above ps s ≡ Ok None → is_either (codes "dev") (codes "release") s.name ≡ true
at_bottom ps s e = bottom_shown ps s (parent_of s) refl e

module _ (k : ProfileKey) where
  choice_found : (a b : Bool) (x y : Setting) → (a || b) ≡ true → IsSome (if a then Some x else (if b then Some y else None))
  choice_found true b x y e = refl
  choice_found false true x y e = refl
  choice_found false false x y e = absurd (false≢true e)

  along_found : (ps : List Profile) (s : Seen) (line : List Seen) → IsLine ps s line → IsSome (along k built_in line)
  along_found ps s _ (last _ ends) = first (built_in s k) None (choice_found (bytes_eq s.name (codes "dev")) (bytes_eq s.name (codes "release")) (defaults k).dev (defaults k).release (at_bottom ps s ends))
  along_found ps s _ (further _ t line inherits rest) = second (built_in s k) (along k built_in line) (along_found ps t line rest)

  found : (lookups : List Lookup) (line : List Seen) → IsSome (along k built_in line) → IsSome (looked_up k (lookups ++ built_in ∷ []) line)
  found [] line is = first (along k built_in line) None is
  found (lookup ∷ lookups) line is = second (along k lookup line) (looked_up k (lookups ++ built_in ∷ []) line) (found lookups line is)

  role_found : (p : Package) (role : Side) (is_member : Bool) (line : List Seen) → IsSome (along k built_in line)
      → IsSome (looked_up k (in_package p.name ∷ of_others is_member ++ of_role role ++ own ∷ built_in ∷ []) line)
  role_found p Target true line is = found (in_package p.name ∷ own ∷ []) line is
  role_found p Target false line is = found (in_package p.name ∷ in_package (codes "*") ∷ own ∷ []) line is
  role_found p Host true line is = found (in_package p.name ∷ in_build_override ∷ of_hosts ∷ own ∷ []) line is
  role_found p Host false line is = found (in_package p.name ∷ in_package (codes "*") ∷ in_build_override ∷ of_hosts ∷ own ∷ []) line is

pub all_found : FindsValues
all_found ps s line is p role k = role_found k p role p.is_member line (along_found k ps s line is)
