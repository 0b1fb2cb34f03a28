-- Entries that are put in their places by byte order stay in byte order.
use Rattle.std.proofs.Common.{◌≡◌, ◌∙◌, ℕ, zero, suc, true, false, List, [], ◌∷◌, Bool, if◌then◌else◌, length, Result, Ok, Err, refl, ap, subst, Ordering, Less, Equal, Greater}
use Rattle.std.specs.Prelude.{nat_le}
use Rattle.std.proofs.lemmas.Cmp.{nat_list_cmp_total}
use Rattle.std.specs.BTreeMap.{insert_entry}
use Rattle.std.specs.Cmp.Lexicographic.{slice_cmp}
use Rattle.std.specs.List.{AllByRecursion}
use Rattle.std.specs.List.Sorted.{IsStrictlySortedBy}
use Rattle.std.specs.Ordering.{nat_cmp, match_ordering, ordering_reverse}
use Rattle.pb_data.specs.UnlessOom.{◌>>=◌}
use Rattle.pb_workspace_types.specs.Settled.{IsAscending}
use Rattle.pb_workspace_types.specs.declared.fault.LoadFault.{LoadFault}
use Rattle.pb_workspace_types.specs.declared.fault.LoadFault.TheVariants.{TooMany}
use Rattle.pb_workspace.proofs.FoldersPut.{opened}
use Rattle.pb_workspace_package.proofs.Puttings.{all_given}
use Rattle.pb_workspace.specs.ByFolder.{folders_of, has}
use Rattle.pb_workspace.specs.Rounds.{all_read, one_read, round, rounds, with_draft}
use Rattle.pb_workspace_package.specs.Sorted.{with_entry}
use Rattle.pb_workspace_package.specs.declared.unresolved_package.UnresolvedPackage.{UnresolvedPackage}
use Rattle.pb_workspace.specs.declared.rounds.LoadState.{LoadState}

abbrev cmp : List ℕ → List ℕ → Ordering
cmp = slice_cmp nat_cmp

abbrev Before : List ℕ → List ℕ → Type 0
Before a b = cmp a b ≡ Less

-- of two texts that are compared the other way round
turned : (a b : List ℕ) → cmp a b ≡ Greater → Before b a
turned a b at = nat_list_cmp_total.antisymm b a ∙ ap ordering_reverse at

-- what comes before all of some, and before one more, comes before all of them
all_before : {V : Type 0} (a : List ℕ) (es : List (List ℕ × V)) (k : List ℕ) (v : V) → AllByRecursion (Before a) (folders_of es) → Before a k → AllByRecursion (Before a) (folders_of (with_entry es k v))
all_before a [] k v all new = (new, tt)
all_before {V} a (e ∷ es) k v all new = by (cmp k e.0) (all_before a es k v all.1 new)
  where
    by : (o : Ordering) → AllByRecursion (Before a) (folders_of (insert_entry cmp es k v)) → AllByRecursion (Before a) (folders_of (match_ordering o ((k, v) ∷ e ∷ es) ((e.0, v) ∷ es) (e ∷ insert_entry cmp es k v)))
    by Less rest = (new, all)
    by Equal rest = all
    by Greater rest = (all.0, rest)

pub with_entry_rises : {V : Type 0} (es : List (List ℕ × V)) (k : List ℕ) (v : V) → IsAscending (folders_of es) → IsAscending (folders_of (with_entry es k v))
unfolding IsStrictlySortedBy
with_entry_rises [] k v up = (tt, tt)
with_entry_rises {V} (e ∷ es) k v up = by (cmp k e.0) refl (with_entry_rises es k v up.1)
  where
    by : (o : Ordering) → cmp k e.0 ≡ o → IsAscending (folders_of (insert_entry cmp es k v)) → IsAscending (folders_of (match_ordering o ((k, v) ∷ e ∷ es) ((e.0, v) ∷ es) (e ∷ insert_entry cmp es k v)))
    by Less at rest = ((at, all_given (Before e.0) (Before k) (λ y later. nat_list_cmp_total.trans k e.0 y at later) (folders_of es) up.0), up)
    by Equal at rest = up
    by Greater at rest = (all_before e.0 es k v up.0 (turned k e.0 at), rest)

-- the packages that are read stand in byte order of their folders
module _ (read : List ℕ → Result UnresolvedPackage LoadFault) where
  one_rises : (r made : LoadState) (folder : List ℕ) → IsAscending (folders_of r.found) → one_read read r folder ≡ Ok made → IsAscending (folders_of made.found)
  one_rises r made folder up is = by (has folder r.found) is
    where
      full : (b : Bool) → (if b then Err TooMany else read folder >>= (λ d. Ok (with_draft r folder d))) ≡ Ok made → IsAscending (folders_of made.found)
      full true h = cc
      full false h =
          let o = opened (read folder) (λ d. Ok (with_draft r folder d)) made h in
          let same : with_draft r folder o.0 ≡ made = cc (o.2) in
          subst (λ (x : LoadState). IsAscending (folders_of x.found)) same (with_entry_rises r.found folder o.0 up)

      by : (b : Bool) → (if b then Ok r else (if nat_le 256 (length r.found) then Err TooMany else read folder >>= (λ d. Ok (with_draft r folder d)))) ≡ Ok made → IsAscending (folders_of made.found)
      by true h = let same : r ≡ made = cc in subst (λ (x : LoadState). IsAscending (folders_of x.found)) same up
      by false h = full (nat_le 256 (length r.found)) h

  pub all_rise : (folders : List (List ℕ)) (r made : LoadState) → IsAscending (folders_of r.found) → all_read read r folders ≡ Ok made → IsAscending (folders_of made.found)
  all_rise [] r made up is = let same : r ≡ made = cc in subst (λ (x : LoadState). IsAscending (folders_of x.found)) same up
  all_rise (folder ∷ folders) r made up is =
      let o = opened (one_read read r folder) (λ now. all_read read now folders) made is in
      all_rise folders o.0 made (one_rises r o.0 folder up o.1) o.2

  pub rounds_rise : (n : ℕ) (r made : LoadState) → IsAscending (folders_of r.found) → rounds n read r ≡ Ok made → IsAscending (folders_of made.found)
  unfolding rounds
  rounds_rise zero r made up is = let same : r ≡ made = cc in subst (λ (x : LoadState). IsAscending (folders_of x.found)) same up
  rounds_rise (suc n) r made up is =
      let o = opened (round read r) (λ now. rounds n read now) made is in
      rounds_rise n o.0 made (all_rise (folders_of r.ahead) (record { found = r.found; ahead = [] }) o.0 up o.1) o.2
