-- The first name at which two rows of variables are not the same, and the least of which they do not say the same.
use Rattle.std.proofs.Common.{◌≡◌, ◌∙◌, ℕ, true, Ordering, Less, Equal, Greater, List, Option, Some, None, refl, sym, ap, subst}
use Rattle.std.specs.Ordering.{nat_cmp, is_eq, ordering_reverse}
use Rattle.std.specs.Cmp.Lexicographic.{slice_cmp}
use Rattle.std.specs.FinMap.{find}
use Rattle.std.proofs.lemmas.Cmp.{nat_list_cmp_total}
use Rattle.std.proofs.lemmas.Map.Text.{is_eq-slice_cmp}
use Rattle.std.proofs.lemmas.Slice.Eq.{bytes_eq-Decides}
use Rattle.pb_command.specs.Command as present
use Rattle.pb_record.proofs.ReadingLemmas.{reading_reads}
use Rattle.pb_record.specs.Sorted.{are_sorted}
use Rattle.pb_run.proofs.Kept.{pairs_sorted}
use Rattle.pb_store.proofs.Names.{first_is_first, is_name, no_name}
use Rattle.pb_store.specs.Asking.{IsFirstName, IsLeastName, first_name}
use Rattle.pb_build_laws.specs.Commands.{FirstNameIsLeast}

abbrev Pairs : Type 0
Pairs = List (List ℕ × List ℕ)

abbrev cmp : List ℕ → List ℕ → Ordering
cmp = slice_cmp nat_cmp

-- there is one least name

tied_is : (name other : List ℕ) → cmp name other ≡ Equal → name ≡ other
tied_is name other tied = (bytes_eq-Decides name other).0 (sym (is_eq-slice_cmp name other) ∙ ap is_eq tied)

module _ (row other : Pairs) (name second : List ℕ) (least : IsLeastName row other name) (also : IsLeastName row other second) where
  by_order : (o : Ordering) → cmp name second ≡ o → name ≡ second
  by_order Less is = absurd (least.here (also.below name is))
  by_order Equal is = tied_is name second is
  by_order Greater is = absurd (also.here (least.below second (nat_list_cmp_total.antisymm second name ∙ ap ordering_reverse is)))

  one_least : name ≡ second
  one_least = by_order (cmp name second) refl

module _ (row other : Pairs) (name : List ℕ) (sorted : are_sorted row ≡ true) (too : are_sorted other ≡ true) (least : IsLeastName row other name) where
  by_found : (found : Option (List ℕ)) → found ≡ first_name row other → IsFirstName row other name
  by_found None is = absurd (least.here (ap (λ pairs. find cmp name pairs) (no_name row other is)))
  by_found (Some second) is =
      let first = is_name row other second is in
      subst (IsFirstName row other) (one_least row other second name (first_is_first row other second sorted too first) least) first

pub name_is_least : FirstNameIsLeast
name_is_least text r setup project u done name told =
    let c = present.command_of setup project u done in
    let sorted = ((reading_reads text r).0 told).is.asked.pairs.1 in
    let too = pairs_sorted project u c (setup, done, refl) in
    (first_is_first r.asked.pairs c.pairs name sorted too, λ least. by_found r.asked.pairs c.pairs name sorted too least (first_name r.asked.pairs c.pairs) refl)
