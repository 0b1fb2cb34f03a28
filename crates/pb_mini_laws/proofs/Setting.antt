-- What holds of each value that a map was given holds of all its values.
use Rattle.std.proofs.Common.{ℕ, List, [], ◌∷◌, sym, subst}
use Rattle.std.specs.Cmp.Lexicographic.{slice_cmp, nat_list_cmp_total}
use Rattle.std.specs.FinMap as finite
use Rattle.std.specs.FinMap.{entries-insert}
use Rattle.std.specs.FinMap.Entries.{put}
use Rattle.std.specs.List.{AllByRecursion}
use Rattle.std.specs.Ordering.{nat_cmp, match_ordering}
use Rattle.std.specs.declared.cmp.Ordering.{Ordering}
use Rattle.std.specs.declared.cmp.Ordering.TheVariants.{Less, Equal, Greater}
use Rattle.pb_place_types.specs.World.{Map}

module _ (Q : List ℕ → Type 0) where
  abbrev pub HoldValues : List (List ℕ × List ℕ) → Type 0
  HoldValues pairs = AllByRecursion (λ pair. Q pair.1) pairs

  pub put_holds : (key value : List ℕ) (pairs : List (List ℕ × List ℕ)) → HoldValues pairs → Q value → HoldValues (put (slice_cmp nat_cmp) key value pairs)
  put_holds key value [] all holds = (holds, tt)
  put_holds key value (pair ∷ pairs) all holds = by (slice_cmp nat_cmp key pair.0) (put_holds key value pairs all.1 holds)
    where
      by : (o : Ordering) → HoldValues (put (slice_cmp nat_cmp) key value pairs) → HoldValues (match_ordering o ((key, value) ∷ pair ∷ pairs) ((pair.0, value) ∷ pairs) (pair ∷ put (slice_cmp nat_cmp) key value pairs))
      by Less later = (holds, all)
      by Equal later = (holds, all.1)
      by Greater later = (all.0, later)

  pub insert_holds : (m : Map) (key value : List ℕ) → HoldValues (finite.entries m) → Q value → HoldValues (finite.entries (finite.insert m key value))
  insert_holds m key value all holds = subst HoldValues (sym (entries-insert nat_list_cmp_total m key value)) (put_holds key value (finite.entries m) all holds)
