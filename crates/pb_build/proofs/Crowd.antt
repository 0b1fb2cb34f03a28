-- Keys that rise, each among others, are no more than these.
use Rattle.std.proofs.Common.{◌≡◌, ◌≤◌, ℕ, List, AllPairs, Contains, refl, sym, ap, subst, length, slice_index_or}
use Rattle.std.specs.Cmp.{IsEquivalence}
use Rattle.std.specs.Cmp.Lexicographic.{slice_cmp}
use Rattle.std.specs.Ordering.{nat_cmp}
use Rattle.std.specs.Str.{bytes_eq}
use Rattle.std.specs.declared.cmp.Ordering.TheVariants.{Less}
use Rattle.std.proofs.lemmas.Map.Made.{IsDistinct-from_AllPairs, is_member-Decides, length-le_from_is_member}
use Rattle.std.proofs.lemmas.Slice.Eq.{bytes_eq-Decides}
use Rattle.pb_build.proofs.Once.{text_never}
use Rattle.std.specs.Cmp.{both_ways}

texts_alike : IsEquivalence bytes_eq
texts_alike = record {
  refl = λ x. (bytes_eq-Decides x x).1 refl;
  symm = λ x y. both_ways (bytes_eq x y) (bytes_eq y x) (λ e. (bytes_eq-Decides y x).1 (sym ((bytes_eq-Decides x y).0 e))) (λ e. (bytes_eq-Decides x y).1 (sym ((bytes_eq-Decides y x).0 e)));
  congr = λ x y z e. ap (λ t. bytes_eq t z) ((bytes_eq-Decides x y).0 e);
}

pub no_more : (xs ys : List (List ℕ)) → AllPairs (λ x y. slice_cmp nat_cmp x y ≡ Less) xs → ((q : List ℕ) → Contains xs q → Contains ys q) → length xs ≤ length ys
no_more xs ys order within =
    length-le_from_is_member texts_alike xs ys
    (IsDistinct-from_AllPairs bytes_eq-Decides xs (λ i j d lt in' same. text_never (slice_index_or xs j d) (subst (λ t. slice_cmp nat_cmp t (slice_index_or xs j d) ≡ Less) same (order i j d lt in'))))
    (λ q has. (is_member-Decides bytes_eq-Decides ys q).1 (within q ((is_member-Decides bytes_eq-Decides xs q).0 has)))
