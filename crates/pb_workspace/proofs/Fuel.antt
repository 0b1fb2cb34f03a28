-- 257 rounds are enough for 256 packages.
use Rattle.std.proofs.Common.{◌≡◌, ◌⊎◌, inl, inr, ◌≤◌, ◌<◌, ◌+◌, ℕ, zero, suc, List, [], ◌∷◌, length, Bool, true, false, if◌then◌else◌, Result, Ok, Err, refl, sym, ap, ◌∙◌, subst, arith}
use Rattle.std.specs.Prelude.{nat_le}
use Rattle.std.proofs.lemmas.Bool.Decides.{nat_tests}
use Rattle.pb_data.specs.UnlessOom.{◌>>=◌}
use Rattle.pb_workspace_package.specs.declared.unresolved_package.UnresolvedPackage.{UnresolvedPackage}
use Rattle.pb_workspace_types.specs.declared.fault.LoadFault.{LoadFault}
use Rattle.pb_workspace_types.specs.declared.fault.LoadFault.TheVariants.{TooMany}
use Rattle.pb_workspace.specs.declared.rounds.LoadState.{LoadState}
use Rattle.pb_workspace.specs.ByFolder.{folders_of, has}
use Rattle.pb_workspace.specs.Rounds.{all_read, one_read, round, rounds, with_draft}
use Rattle.pb_workspace.proofs.FoldersPut.{opened, put_longer}

-- what is read grows, or nothing is read; and it does not pass 256
pub record Grows (r made : LoadState) : Type 0 where
  pub more : (made ≡ r) ⊎ (length r.found < length made.found)
  pub few : length made.found ≤ 256

few_left : (n : ℕ) → nat_le 256 n ≡ false → n < 256
few_left n off = grind (arith, nat_tests)

module _ (read : List ℕ → Result UnresolvedPackage LoadFault) where
  pub one_grows : (r made : LoadState) (folder : List ℕ) → length r.found ≤ 256 → one_read read r folder ≡ Ok made → Grows r made
  one_grows r made folder few is = by (has folder r.found) refl is
    where
      full : (b : Bool) → nat_le 256 (length r.found) ≡ b → has folder r.found ≡ false → (if b then Err TooMany else read folder >>= (λ d. Ok (with_draft r folder d))) ≡ Ok made → Grows r made
      full true at out h = cc
      full false at out h =
          let o = opened (read folder) (λ d. Ok (with_draft r folder d)) made h in
          let same : with_draft r folder o.0 ≡ made = cc (o.2) in
          let longer : length (with_draft r folder o.0).found ≡ suc (length r.found) = put_longer r.found folder o.0 out in
          let long : length made.found ≡ suc (length r.found) = ap (λ (x : LoadState). length x.found) (sym same) ∙ longer in
          let left : length r.found < 256 = few_left (length r.found) at in
          record { more = inr (omega arith); few = omega arith }

      by : (b : Bool) → has folder r.found ≡ b → (if b then Ok r else (if nat_le 256 (length r.found) then Err TooMany else read folder >>= (λ d. Ok (with_draft r folder d)))) ≡ Ok made → Grows r made
      by true at h = let same : made ≡ r = cc in record { more = inl same; few = subst (λ (x : LoadState). length x.found ≤ 256) (sym same) few }
      by false at h = full (nat_le 256 (length r.found)) refl at h

  pub all_grow : (folders : List (List ℕ)) (r made : LoadState) → length r.found ≤ 256 → all_read read r folders ≡ Ok made → Grows r made
  all_grow [] r made few is = let same : made ≡ r = cc in record { more = inl same; few = subst (λ (x : LoadState). length x.found ≤ 256) (sym same) few }
  all_grow (folder ∷ folders) r made few is =
      let o = opened (one_read read r folder) (λ now. all_read read now folders) made is in
      let first = one_grows r o.0 folder few o.1 in
      let rest = all_grow folders o.0 made first.few o.2 in
      record { more = joined r o.0 made first.more rest.more; few = rest.few }
    where
      joined : (r mid made : LoadState) → (mid ≡ r) ⊎ (length r.found < length mid.found) → (made ≡ mid) ⊎ (length mid.found < length made.found) → (made ≡ r) ⊎ (length r.found < length made.found)
      joined r mid made (inl a) (inl b) = inl (b ∙ a)
      joined r mid made (inl a) (inr b) = inr (subst (λ (x : LoadState). length x.found < length made.found) a b)
      joined r mid made (inr a) (inl b) = inr (subst (λ (x : LoadState). length r.found < length x.found) (sym b) a)
      joined r mid made (inr a) (inr b) = inr (omega arith)

  -- without folders ahead every round leaves all as it is
  pub still : (n : ℕ) (r : LoadState) → r.ahead ≡ [] → rounds n read r ≡ Ok r
  unfolding rounds
  still zero r none = refl
  still (suc n) r none =
      let here : round read r ≡ Ok r = ap (λ fs. all_read read (record { found = r.found; ahead = [] }) (folders_of fs)) none ∙ ap (λ fs. Ok record { found = r.found; ahead = fs }) (sym none) in
      ap (λ x. x >>= (λ now. rounds n read now)) here ∙ still n r none

  -- after so many rounds nothing is ahead, or as many packages were read
  pub ends_or_grows : (n : ℕ) (r made : LoadState) → length r.found ≤ 256 → rounds n read r ≡ Ok made → ((made.ahead ≡ []) ⊎ (length r.found + n ≤ length made.found)) × (length made.found ≤ 256)
  unfolding rounds
  ends_or_grows zero r made few is = let same : r ≡ made = cc in let long : length r.found ≡ length made.found = ap (λ (x : LoadState). length x.found) same in (inr (omega arith), omega arith)
  ends_or_grows (suc n) r made few is =
      let o = opened (round read r) (λ now. rounds n read now) made is in
      let grows = all_grow (folders_of r.ahead) (record { found = r.found; ahead = [] }) o.0 few o.1 in
      by o.0 grows.few o.2 grows.more (ends_or_grows n o.0 made grows.few o.2)
    where
      by : (mid : LoadState) → length mid.found ≤ 256 → rounds n read mid ≡ Ok made → (mid ≡ record { found = r.found; ahead = [] }) ⊎ (length r.found < length mid.found)
          → ((made.ahead ≡ []) ⊎ (length mid.found + n ≤ length made.found)) × (length made.found ≤ 256) → ((made.ahead ≡ []) ⊎ (length r.found + suc n ≤ length made.found)) × (length made.found ≤ 256)
      by mid fits h (inl same) rest = let none : mid.ahead ≡ [] = ap (λ (x : LoadState). x.ahead) same in let end : made ≡ mid = cc (still n mid none) in (inl (ap (λ (x : LoadState). x.ahead) end ∙ none), rest.1)
      by mid fits h (inr longer) rest = (elim rest.0 [ inl none ↦ inl none | inr long ↦ inr (omega arith) ], rest.1)

  pub nothing_ahead : (r made : LoadState) → length r.found ≤ 256 → rounds 257 read r ≡ Ok made → made.ahead ≡ []
  nothing_ahead r made few is = let e = ends_or_grows 257 r made few is in elim e.0 [ inl none ↦ none | inr long ↦ absurd (omega (arith, e.1)) ]

  pub rounds_joined : (m n : ℕ) (r : LoadState) → rounds (m + n) read r ≡ (rounds m read r >>= (λ now. rounds n read now))
  unfolding rounds
  rounds_joined zero n r = let e : 0 + n ≡ n = omega arith in ap (λ k. rounds k read r) e
  rounds_joined (suc m) n r = let e : suc m + n ≡ suc (m + n) = omega arith in ap (λ k. rounds k read r) e ∙ by (λ mid. rounds_joined m n mid) (round read r)
    where
      by : ((mid : LoadState) → rounds (m + n) read mid ≡ (rounds m read mid >>= (λ now. rounds n read now))) → (x : Result LoadState LoadFault) → (x >>= (λ now. rounds (m + n) read now)) ≡ ((x >>= (λ now. rounds m read now)) >>= (λ now. rounds n read now))
      by rest (Ok mid) = rest mid
      by rest (Err e) = refl

  pub enough : (r : LoadState) (more : ℕ) → length r.found ≤ 256 → rounds (257 + more) read r ≡ rounds 257 read r
  enough r more few = rounds_joined 257 more r ∙ by (rounds 257 read r) refl
    where
      by : (x : Result LoadState LoadFault) → rounds 257 read r ≡ x → (x >>= (λ now. rounds more read now)) ≡ x
      by (Ok made) at = still more made (nothing_ahead r made few at)
      by (Err e) at = refl
