-- The order of the libraries that a compile is given.
use Rattle.std.proofs.Common.{◌≡◌, ◌<◌, arith, ℕ, suc, zero, ◌||◌, eqb, Bool, true, false, List, [], ◌∷◌, ◌++◌, refl, sym, ap, ◌∙◌}
use Rattle.std.specs.Cmp.Lexicographic.{slice_cmp}
use Rattle.std.specs.Cmp.{nat_cmp_is}
use Rattle.std.specs.Ordering.{nat_cmp, ordering_then}
use Rattle.std.specs.declared.cmp.Ordering.{Ordering}
use Rattle.std.specs.declared.cmp.Ordering.TheVariants.{Less, Equal, Greater}
use Rattle.std.proofs.lemmas.Bool.{false≢true}
use Rattle.pb_place_types.specs.Paths.{has_byte_0}
use Rattle.pb_command_arguments.specs.Externs.{extern_key}
use Rattle.pb_command.specs.Laws.{LibrariesInOrder}

then_assoc : (a b c : Ordering) → ordering_then a (ordering_then b c) ≡ ordering_then (ordering_then a b) c
then_assoc Less b c = refl
then_assoc Equal b c = refl
then_assoc Greater b c = refl

-- of two facts neither of which holds
pub first_off : (a b : Bool) → (a || b) ≡ false → a ≡ false
first_off true b e = absurd (false≢true (sym e))
first_off false b e = refl

pub second_off : (a b : Bool) → (a || b) ≡ false → b ≡ false
second_off true b e = absurd (false≢true (sym e))
second_off false b e = e

below : (b : ℕ) → eqb b 0 ≡ false → nat_cmp 0 b ≡ Less
below zero e = absurd (false≢true (sym e))
below (suc b) e = let less : 0 < suc b = omega arith in sym (nat_cmp_is 0 (suc b) Less less)

above : (b : ℕ) → eqb b 0 ≡ false → nat_cmp b 0 ≡ Greater
above zero e = absurd (false≢true (sym e))
above (suc b) e = let more : 0 < suc b = omega arith in sym (nat_cmp_is (suc b) 0 Greater more)

in_order : (name other path next : List ℕ) → has_byte_0 name ≡ false → has_byte_0 other ≡ false
    → slice_cmp nat_cmp (name ++ 0 ∷ path) (other ++ 0 ∷ next) ≡ ordering_then (slice_cmp nat_cmp name other) (slice_cmp nat_cmp path next)
in_order [] [] path next off away = refl
in_order [] (b ∷ other) path next off away = ap (λ o. ordering_then o (slice_cmp nat_cmp path (other ++ 0 ∷ next))) (below b (first_off (eqb b 0) (has_byte_0 other) away))
in_order (a ∷ name) [] path next off away = ap (λ o. ordering_then o (slice_cmp nat_cmp (name ++ 0 ∷ path) next)) (above a (first_off (eqb a 0) (has_byte_0 name) off))
in_order (a ∷ name) (b ∷ other) path next off away =
    ap (λ o. ordering_then (nat_cmp a b) o) (in_order name other path next (second_off (eqb a 0) (has_byte_0 name) off) (second_off (eqb b 0) (has_byte_0 other) away))
    ∙ then_assoc (nat_cmp a b) (slice_cmp nat_cmp name other) (slice_cmp nat_cmp path next)

pub by_name_then_path : LibrariesInOrder
unfolding extern_key
by_name_then_path name other path next off away = in_order name other path next off away
