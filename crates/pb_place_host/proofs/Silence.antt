-- A child of which nothing is told.
use Rattle.std.proofs.Common.{◌≡◌, ℕ, List, Option, Some, None, cond, Bool, true, false, refl, sym, ◌∙◌}
use Rattle.std.specs.FinMap.{get, empty, get-empty, same_map}
use Rattle.std.specs.Ordering.{nat_cmp}
use Rattle.std.specs.Cmp.Lexicographic.{slice_cmp, nat_list_cmp_total}
use Rattle.pb_place_types.specs.Paths.{is_below}
use Rattle.pb_place_types.specs.Children.{inside_out}
use Rattle.pb_place_types.proofs.MapLemmas.{exact, get-kept}

none_kept : (b : Bool) (o : Option (List ℕ)) → o ≡ None → cond b o None ≡ None
none_kept true o is = is
none_kept false o is = refl

pub none_inside : (out : Option (List ℕ)) → inside_out out empty ≡ empty
none_inside None = refl
none_inside (Some out) = same_map nat_list_cmp_total exact _ _ (λ q.
    get-kept empty (is_below out) q ∙ none_kept (is_below out q) (get empty q) (get-empty (slice_cmp nat_cmp) q) ∙ sym (get-empty (slice_cmp nat_cmp) q))

pub ruleset silence_laws = (none_inside)
