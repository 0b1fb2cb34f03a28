-- The settings of a package are the first values of what counts for it.
use Rattle.std.proofs.Common.{◌≡◌, ◌∙◌, ◌++◌, ◌∷◌, [], ℕ, Bool, true, false, if◌then◌else◌, codes, List, map, Option, Some, None, refl, sym, ap, slice_get, unwrap_or}
use Rattle.std.specs.Prelude.{option_and_then}
use Rattle.std.specs.List.{cons_option, filter_map, flat_map}
use Rattle.std.specs.Option.{option_map, option_or}
use Rattle.std.specs.Str.{bytes_eq}
use Rattle.pb_profile_keys.specs.Keys.{Said, says}
use Rattle.pb_profile_keys.specs.Table.{defaults, keys}
use Rattle.pb_profile_keys.specs.declared.key.ProfileKey.{ProfileKey}
use Rattle.pb_profile_keys.specs.declared.setting.Setting.{Setting}
use Rattle.pb_manifest_types.specs.declared.profile.Profile.{Profile}
use Rattle.pb_workspace_types.specs.declared.package.Package.{Package}
use Rattle.pb_workspace_types.specs.declared.package.Side.{Side}
use Rattle.pb_workspace_types.specs.declared.package.Side.TheVariants.{Target, Host}
use Rattle.pb_profile.specs.Line.{Seen}
use Rattle.pb_profile.specs.Settings.{Lookup, along, built_in, fixed, in_build_override, in_package, looked_up, of_hosts, of_others, of_role, override_named, own, lookups_of, said_by, setting_of}
use Rattle.pb_unit_laws.proofs.Faulting.{found_joined, head_here, head_joined}
use Rattle.pb_unit_laws.specs.Settings.{Set, SettingsAreThese, built_in_set, first_value, set_for, set_for_role, sets_for}

abbrev Sets : Type 0
Sets = Seen → Option Set

module _ (k : ProfileKey) where
  -- the value of the key in a set, if there is one
  abbrev in_set : Option Set → Option Setting
  in_set o = option_and_then (λ (set : Set). set k) o

  abbrev value_in : Set → Option Setting
  value_in set = set k

  -- indices one for one
  data AreSame : List Lookup → List Sets → Type 0 where
    none : AreSame [] []
    more : (lookup : Lookup) (sets : Sets) (lookups : List Lookup) (all : List Sets) (same : (s : Seen) → lookup s k ≡ in_set (sets s)) (rest : AreSame lookups all) → AreSame (lookup ∷ lookups) (sets ∷ all)

  here_is : (o : Option Set) (rest : List Set) → option_or (in_set o) (slice_get (filter_map value_in rest) 0) ≡ slice_get (filter_map value_in (cons_option o rest)) 0
  here_is None rest = refl
  here_is (Some set) rest = sym (head_here (set k) (filter_map value_in rest))

  along_is : (lookup : Lookup) (sets : Sets) → ((s : Seen) → lookup s k ≡ in_set (sets s)) → (line : List Seen) → along k lookup line ≡ slice_get (filter_map value_in (filter_map sets line)) 0
  along_is lookup sets same [] = refl
  along_is lookup sets same (s ∷ line) =
      ap (λ o. option_or o (along k lookup line)) (same s)
      ∙ ap (option_or (in_set (sets s))) (along_is lookup sets same line)
      ∙ here_is (sets s) (filter_map sets line)

  looked_is : (lookups : List Lookup) (all : List Sets) → AreSame lookups all → (line : List Seen) → looked_up k lookups line ≡ slice_get (filter_map value_in (flat_map (λ sets. filter_map sets line) all)) 0
  looked_is _ _ none line = refl
  looked_is _ _ (more lookup sets lookups all same rest) line =
      let others = flat_map (λ (sets : Sets). filter_map sets line) all in
      ap (λ o. option_or o (looked_up k lookups line)) (along_is lookup sets same line)
      ∙ ap (option_or (slice_get (filter_map value_in (filter_map sets line)) 0)) (looked_is lookups all rest line)
      ∙ sym (head_joined (filter_map value_in (filter_map sets line)) (filter_map value_in others))
      ∙ ap (λ found. slice_get found 0) (sym (found_joined value_in (filter_map sets line) others))

  -- index by index

  said_is : (values : Option Said) → said_by values k ≡ in_set (option_map says values)
  said_is None = refl
  said_is (Some values) = refl

  package_is : (name : List ℕ) (s : Seen) → in_package name s k ≡ in_set (set_for name s)
  package_is name s = said_is (option_and_then (override_named name) s.table)

  built_is : (s : Seen) → built_in s k ≡ in_set (built_in_set s)
  built_is s = by (bytes_eq s.name (codes "dev")) (bytes_eq s.name (codes "release"))
    where
      by : (a b : Bool) → (if a then Some (defaults k).dev else (if b then Some (defaults k).release else None)) ≡ in_set (if a then Some (λ k. Some (defaults k).dev) else (if b then Some (λ k. Some (defaults k).release) else None))
      by true b = refl
      by false true = refl
      by false false = refl

  abbrev own_sets : Sets
  own_sets s = option_map says (option_map (λ (p : Profile). p.keys) s.table)

  abbrev last_sets : List Sets
  last_sets = own_sets ∷ built_in_set ∷ []

  last_are : AreSame (own ∷ built_in ∷ []) last_sets
  last_are = more own own_sets (built_in ∷ []) (built_in_set ∷ []) (λ s. said_is (option_map (λ (p : Profile). p.keys) s.table)) (more built_in built_in_set [] [] built_is none)

  abbrev override_sets : Sets
  override_sets s = option_map says (option_and_then (λ (p : Profile). p.build_override) s.table)

  abbrev host_sets : Sets
  host_sets s = Some (λ k. (defaults k).beside_override)

  joined : (lookups : List Lookup) (all : List Sets) → AreSame lookups all → (others : List Lookup) (also : List Sets) → AreSame others also → AreSame (lookups ++ others) (all ++ also)
  joined _ _ none others also rest = rest
  joined _ _ (more lookup sets lookups all same first) others also rest = more lookup sets (lookups ++ others) (all ++ also) same (joined lookups all first others also rest)

  role_are : (role : Side) → AreSame (of_role role) (set_for_role role)
  role_are Target = none
  role_are Host = more in_build_override override_sets (of_hosts ∷ []) (host_sets ∷ []) (λ s. said_is (option_and_then (λ (p : Profile). p.build_override) s.table)) (more of_hosts host_sets [] [] (λ s. refl) none)

  abbrev other_sets : Bool → List Sets
  other_sets is_member = if is_member then [] else set_for (codes "*") ∷ []

  others_are : (is_member : Bool) → AreSame (of_others is_member) (other_sets is_member)
  others_are true = none
  others_are false = more (in_package (codes "*")) (set_for (codes "*")) [] [] (package_is (codes "*")) none

  module _ (p : Package) (role : Side) (line : List Seen) where
    abbrev all_sets : List Sets
    all_sets = set_for p.name ∷ (if p.is_member then [] else set_for (codes "*") ∷ []) ++ set_for_role role ++ last_sets

    between : AreSame (of_others p.is_member ++ of_role role) (other_sets p.is_member ++ set_for_role role)
    between = joined (of_others p.is_member) (other_sets p.is_member) (others_are p.is_member) (of_role role) (set_for_role role) (role_are role)

    indices_are : AreSame (lookups_of p role) all_sets
    indices_are =
        more (in_package p.name) (set_for p.name) (of_others p.is_member ++ of_role role ++ own ∷ built_in ∷ []) (other_sets p.is_member ++ set_for_role role ++ last_sets) (package_is p.name)
        (joined (of_others p.is_member ++ of_role role) (other_sets p.is_member ++ set_for_role role) between (own ∷ built_in ∷ []) last_sets last_are)

    setting_is : setting_of p role line k ≡ fixed role k (first_value k (sets_for p role line) (defaults k).dev)
    setting_is = ap (λ o. fixed role k (unwrap_or o (defaults k).dev)) (looked_is (lookups_of p role) all_sets indices_are line)

each_same : {A B : Type 0} (f g : A → B) → ((x : A) → f x ≡ g x) → (xs : List A) → map f xs ≡ map g xs
each_same f g same [] = refl
each_same f g same (x ∷ xs) = λ i. same x i ∷ each_same f g same xs i

pub settings_are : SettingsAreThese
settings_are p role line = each_same (setting_of p role line) (λ k. fixed role k (first_value k (sets_for p role line) (defaults k).dev)) (λ k. setting_is k p role line) keys
