-- A line is checked as the law says.
use Rattle.std.proofs.Common.{◌≡◌, ◌∙◌, ◌++◌, ◌∷◌, ◌&&◌, [], Bool, true, false, if◌then◌else◌, List, map, Option, Some, None, Result, Ok, Err, refl, sym, ap, is_none}
use Rattle.std.specs.List.{cons_option, filter_map, flat_map, list_all}
use Rattle.std.specs.Option.{option_to_list}
use Rattle.pb_data.specs.UnlessOom.{◌>>=◌}
use Rattle.pb_manifest_types.specs.declared.profile.Profile.{Profile}
use Rattle.pb_profile_keys.specs.Keys.{Said, says}
use Rattle.pb_profile_keys.specs.Table.{row}
use Rattle.pb_profile_keys.specs.declared.key.ProfileKey.TheVariants as key
use Rattle.pb_manifest_types.specs.declared.profile.ProfileOverride.{ProfileOverride}
use Rattle.pb_profile.specs.Line.{Seen, allows, line_of, may_override, option_all, table_allows}
use Rattle.pb_profile.specs.declared.fault.ProfileFault.{ProfileFault}
use Rattle.pb_profile.specs.declared.fault.ProfileFault.TheVariants.{NotInOverride}
use Rattle.pb_unit_laws.specs.Profiles.{LinesAreChecked, overrides_of, sets_no_other}

all_both : (xs ys : List Said) → list_all may_override (xs ++ ys) ≡ (list_all may_override xs && list_all may_override ys)
all_both [] ys = refl
all_both (x ∷ xs) ys = ap (λ b. may_override x && b) (all_both xs ys) ∙ joined (may_override x) (list_all may_override xs) (list_all may_override ys)
  where
    joined : (a b c : Bool) → (a && (b && c)) ≡ ((a && b) && c)
    joined true b c = refl
    joined false b c = refl

one_all : (o : Option Said) → option_all may_override o ≡ list_all may_override (option_to_list o)
one_all None = refl
one_all (Some keys) = by (may_override keys)
  where
    by : (b : Bool) → b ≡ (b && true)
    by true = refl
    by false = refl

packages_all : (os : List ProfileOverride) → list_all (λ (o : ProfileOverride). may_override o.keys) os ≡ list_all may_override (map (λ (o : ProfileOverride). o.keys) os)
packages_all [] = refl
packages_all (o ∷ os) = ap (λ b. may_override o.keys && b) (packages_all os)

abbrev in_table : Profile → List Said
in_table p = option_to_list p.build_override ++ map (λ (o : ProfileOverride). o.keys) p.packages

table_all : (p : Profile) → table_allows p ≡ list_all may_override (in_table p)
table_all p = (λ i. one_all p.build_override i && packages_all p.packages i) ∙ sym (all_both (option_to_list p.build_override) (map (λ (o : ProfileOverride). o.keys) p.packages))

line_all : (line : List Seen) → list_all allows line ≡ list_all may_override (overrides_of line)
line_all [] = refl
line_all (s ∷ line) = by s.table (line_all line)
  where
    by : (o : Option Profile) → list_all allows line ≡ list_all may_override (overrides_of line)
        → (option_all table_allows o && list_all allows line) ≡ list_all may_override (flat_map in_table (cons_option o (filter_map (λ (s : Seen). s.table) line)))
    by None rest = rest
    by (Some p) rest = (λ i. table_all p i && rest i) ∙ sym (all_both (in_table p) (overrides_of line))

-- the keys that an override may not set, one by one
may_is : (values : Said) → may_override values ≡ sets_no_other values
unfolding row
may_is values = by (is_none (says values key.Lto)) (is_none (says values key.Panic)) (is_none (says values key.Rpath))
  where
    by : (lto panic rpath : Bool) → (lto && (panic && (rpath && true))) ≡ (panic && lto && rpath)
    by true true true = refl
    by true true false = refl
    by true false rpath = refl
    by false true rpath = refl
    by false false rpath = refl

all_are : (sets : List Said) → list_all may_override sets ≡ list_all sets_no_other sets
all_are [] = refl
all_are (values ∷ sets) = λ i. may_is values i && all_are sets i

pub lines_are_checked : LinesAreChecked
lines_are_checked profiles name = by (line_of profiles name)
  where
    by : (r : Result (List Seen) ProfileFault) → (r >>= (λ line. if list_all allows line then Ok line else Err NotInOverride)) ≡ (r >>= (λ line. if list_all sets_no_other (overrides_of line) then Ok line else Err NotInOverride))
    by (Ok line) = ap (λ b. if b then Ok line else Err NotInOverride) (line_all line ∙ all_are (overrides_of line))
    by (Err fault) = refl
