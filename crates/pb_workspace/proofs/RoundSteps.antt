-- The steps of a reading: one round of those that are left, and the rounds after the members.
use Rattle.std.proofs.Common.{◌≡◌, ◌<◌, ◌+◌, ◌-◌, ℕ, suc, List, Result, Ok, Err, sym, ap, ◌∙◌, subst, arith}
use Rattle.pb_data.specs.UnlessOom.{◌>>=◌}
use Rattle.pb_place_types.specs.World.{World, from_nothing}
use Rattle.pb_workspace_package.specs.Causes.{UnlessFailed}
use Rattle.pb_workspace_types.specs.declared.fault.LoadFault.{LoadFault}
use Rattle.pb_workspace.specs.declared.workspace_root.WorkspaceRoot.{WorkspaceRoot}
use Rattle.pb_workspace.specs.declared.rounds.LoadState.{LoadState}
use Rattle.pb_workspace.specs.ByFolder.{folders_of}
use Rattle.pb_workspace.specs.Loaded.{others_read}
use Rattle.pb_workspace.specs.MemberFolders.{member_folders}
use Rattle.pb_workspace.specs.Rounds.{all_read, draft_at, round, rounds}
use Rattle.pb_workspace_package.proofs.Steps.{told_step}

module _ (target : List ℕ) (f : WorkspaceRoot) (meant : List (List ℕ × Unit {0})) (w now : World) (count done : ℕ) (r : LoadState) (whole : Result LoadState LoadFault) where
  -- one round of those that are left
  pub round_gives : (next : LoadState) → now ≡ w → done < count → round (draft_at (from_nothing target now) f meant) r ≡ Ok next
      → rounds (count - done) (draft_at (from_nothing target w) f meant) r ≡ whole → rounds (count - (done + 1)) (draft_at (from_nothing target w) f meant) next ≡ whole
  unfolding rounds
  round_gives next same lt is before =
      let left : count - done ≡ suc (count - (done + 1)) = omega arith in
      let here : round (draft_at (from_nothing target w) f meant) r ≡ Ok next = subst (λ v. round (draft_at (from_nothing target v) f meant) r ≡ Ok next) same is in
      sym (ap (λ x. x >>= (λ n. rounds (count - (done + 1)) (draft_at (from_nothing target w) f meant) n)) here) ∙ sym (ap (λ n. rounds n (draft_at (from_nothing target w) f meant) r) left) ∙ before

  pub round_fails : (e : LoadFault) → now ≡ w → done < count → round (draft_at (from_nothing target now) f meant) r ≡ Err e
      → rounds (count - done) (draft_at (from_nothing target w) f meant) r ≡ whole → whole ≡ Err e
  unfolding rounds
  round_fails e same lt is before =
      let left : count - done ≡ suc (count - (done + 1)) = omega arith in
      let here : round (draft_at (from_nothing target w) f meant) r ≡ Err e = subst (λ v. round (draft_at (from_nothing target v) f meant) r ≡ Err e) same is in
      sym before ∙ ap (λ n. rounds n (draft_at (from_nothing target w) f meant) r) left ∙ ap (λ x. x >>= (λ n. rounds (count - (done + 1)) (draft_at (from_nothing target w) f meant) n)) here

-- the members, what is read of them, and the rounds
module _ (target : List ℕ) (f : WorkspaceRoot) (begun : LoadState) (w : World) where
  pub others_told : (meant : List (List ℕ × Unit {0})) (folders : List (List ℕ)) (one two : World) (read : LoadState) (result : Result LoadState LoadFault)
      → meant ≡ member_folders (from_nothing target w) f → folders ≡ folders_of meant → one ≡ w → two ≡ w → all_read (draft_at (from_nothing target one) f meant) begun folders ≡ Ok read
      → UnlessFailed result (rounds 257 (draft_at (from_nothing target two) f meant) read) → UnlessFailed result (others_read (from_nothing target w) f begun)
  unfolding others_read
  others_told meant folders one two read result are put same then is more =
      let all : all_read (draft_at (from_nothing target w) f meant) begun (folders_of meant) ≡ Ok read =
      subst (λ v. all_read (draft_at (from_nothing target v) f meant) begun (folders_of meant) ≡ Ok read) same (subst (λ xs. all_read (draft_at (from_nothing target one) f meant) begun xs ≡ Ok read) put is) in
      subst (λ m. UnlessFailed result (all_read (draft_at (from_nothing target w) f m) begun (folders_of m) >>= (λ r. rounds 257 (draft_at (from_nothing target w) f m) r))) are
      (told_step (λ v r. rounds 257 (draft_at (from_nothing target v) f meant) r) _ w two read result all then more)
