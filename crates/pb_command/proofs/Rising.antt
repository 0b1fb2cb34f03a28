-- Finite maps as lists of pairs: their names rise, and each has the last value that it was given.
use Rattle.std.proofs.Common.{◌≡◌, ℕ, Bool, true, false, T, cond, ◌&&◌, List, [], ◌∷◌, Option, Some, None, map, refl, sym, ap, ◌∙◌, unwrap_or}
use Rattle.std.specs.Cmp.Lexicographic.{slice_cmp}
use Rattle.std.specs.Ordering.{nat_cmp, eq_by_cmp, is_lt}
use Rattle.std.specs.declared.cmp.Ordering.{Ordering}
use Rattle.std.specs.declared.cmp.Ordering.TheVariants.{Less, Equal, Greater}
use Rattle.std.specs.List.{AllByRecursion}
use Rattle.std.specs.List.Sorted.{IsStrictlySortedBy}
use Rattle.std.specs.Str.{bytes_eq}
use Rattle.std.specs.FinMap as finite
use Rattle.std.specs.FinMap.{entries_sorted, get-entries, get-insert, get-empty}
use Rattle.std.specs.FinMap.Entries.{is_sorted, below_all, find}
use Rattle.std.proofs.lemmas.Cmp.{nat_list_cmp_total}
use Rattle.std.proofs.lemmas.Map.Text.{is_eq-slice_cmp}
use Rattle.pb_place_types.specs.World.{Map}
use Rattle.pb_data.specs.Table.{value_at, names_of, last_value}
use Rattle.pb_directive.specs.declared.directive.Directive.{Directive}
use Rattle.pb_unit.specs.declared.plan.Planned.{Planned}
use Rattle.pb_unit.specs.declared.unit.What.{What}
use Rattle.pb_unit.specs.declared.unit.What.TheVariants.{Lib, Bin, Script, Run}
use Rattle.pb_workspace_types.specs.declared.package.Package.{Package}
use Rattle.pb_command_types.specs.declared.project.Project.{Project}
use Rattle.pb_command_types.specs.declared.project.Setup.{Setup}
use Rattle.pb_command.specs.Command.{command_by, command_for}
use Rattle.pb_command_types.specs.NamedTexts.{all_set, in_order}
use Rattle.pb_command.specs.Laws.{PairsRise}
use Rattle.pb_command_environment.specs.Pairs.{composed}
use Rattle.pb_command_types.specs.Targets.{package_of}

-- Names rise.

lesser : (o : Ordering) → T (is_lt o) → o ≡ Less
lesser Less p = refl
lesser Equal p = absurd p
lesser Greater p = absurd p

first : (a b : Bool) → T (a && b) → T a
first true b p = tt
first false b p = absurd p

second : (a b : Bool) → T (a && b) → T b
second true b p = p
second false b p = absurd p

module _ {K X : Type 0} (R : K → K → Ordering) where
  below_names : (k : K) (es : List (K × X)) → T (below_all R k es) → AllByRecursion (λ y. R k y ≡ Less) (map (λ (e : K × X). e.0) es)
  below_names k [] h = tt
  below_names k (e ∷ es) h = (lesser (R k e.0) (first (is_lt (R k e.0)) (below_all R k es) h), below_names k es (second (is_lt (R k e.0)) (below_all R k es) h))

  names_rise : (es : List (K × X)) → T (is_sorted R es) → IsStrictlySortedBy R (map (λ (e : K × X). e.0) es)
  unfolding IsStrictlySortedBy
  names_rise [] h = tt
  names_rise (e ∷ es) h = (below_names e.0 es (first (below_all R e.0 es) (is_sorted R es) h), names_rise es (second (below_all R e.0 es) (is_sorted R es) h))

pub rising : (pairs : List (List ℕ × List ℕ)) → IsStrictlySortedBy (slice_cmp nat_cmp) (names_of (in_order pairs))
rising pairs = names_rise (slice_cmp nat_cmp) (in_order pairs) (entries_sorted (all_set finite.empty pairs))

-- Last values.

same_test : (a b : List ℕ) → eq_by_cmp (slice_cmp nat_cmp) a b ≡ bytes_eq a b
same_test a b = is_eq-slice_cmp a b

found : (name : List ℕ) (es : List (List ℕ × List ℕ)) → value_at name es ≡ find (slice_cmp nat_cmp) name es
found name [] = refl
found name (e ∷ es) = ap (λ b. cond b (Some e.1) (value_at name es)) (sym (same_test name e.0)) ∙ ap (λ o. cond (eq_by_cmp (slice_cmp nat_cmp) name e.0) (Some e.1) o) (found name es)

-- a value, or else another
abbrev or_else : Option (List ℕ) → Option (List ℕ) → Option (List ℕ)
or_else None other = other
or_else (Some v) other = Some v

one_more : (b : Bool) (last : Option (List ℕ)) (value : List ℕ) (old : Option (List ℕ)) → or_else last (cond b (Some value) old) ≡ or_else (cond b (Some (unwrap_or last value)) last) old
one_more true None value old = refl
one_more true (Some v) value old = refl
one_more false last value old = refl

set_last : (m : Map) (pairs : List (List ℕ × List ℕ)) (name : List ℕ) → finite.get (all_set m pairs) name ≡ or_else (last_value name pairs) (finite.get m name)
set_last m [] name = refl
set_last m (p ∷ pairs) name =
    set_last (finite.insert m p.0 p.1) pairs name
    ∙ ap (λ o. or_else (last_value name pairs) o) (get-insert nat_list_cmp_total m p.0 p.1 name ∙ ap (λ b. cond b (Some p.1) (finite.get m name)) (same_test name p.0))
    ∙ one_more (bytes_eq name p.0) (last_value name pairs) p.1 (finite.get m name)

or_none : (o : Option (List ℕ)) → or_else o None ≡ o
or_none None = refl
or_none (Some v) = refl

pub last_counts : (pairs : List (List ℕ × List ℕ)) (name : List ℕ) → value_at name (in_order pairs) ≡ last_value name pairs
last_counts pairs name =
    found name (in_order pairs) ∙ sym (get-entries (all_set finite.empty pairs) name) ∙ set_last finite.empty pairs name
    ∙ ap (λ o. or_else (last_value name pairs) o) (get-empty (slice_cmp nat_cmp) name) ∙ or_none (last_value name pairs)

-- The variables of commands.

of_what : (what : What) (setup : Setup) (project : Project) (unit : Planned) (done : List (Option (List Directive))) (p : Package) → IsStrictlySortedBy (slice_cmp nat_cmp) (names_of (command_by what setup project unit done p).pairs)
of_what Lib setup project unit done p = rising (composed setup project unit done p)
of_what (Bin name) setup project unit done p = rising (composed setup project unit done p)
of_what Script setup project unit done p = rising (composed setup project unit done p)
of_what Run setup project unit done p = rising (composed setup project unit done p)

of_package : (owner : Option Package) (setup : Setup) (project : Project) (unit : Planned) (done : List (Option (List Directive))) → IsStrictlySortedBy (slice_cmp nat_cmp) (names_of (command_for setup project unit done owner).pairs)
unfolding IsStrictlySortedBy
of_package None setup project unit done = tt
of_package (Some p) setup project unit done = of_what unit.unit.what setup project unit done p

pub commands_rise : PairsRise
commands_rise setup project unit done = of_package (package_of project unit) setup project unit done
