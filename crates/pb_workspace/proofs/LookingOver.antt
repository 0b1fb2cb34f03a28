-- What the readings of folders, rounds and a whole workspace look at, step for step.
use Rattle.std.proofs.Common.{◌≡◌, ◌∙◌, ◌++◌, ◌<◌, ◌≤◌, ◌+◌, ◌-◌, ℕ, suc, true, false, List, ◌∷◌, Result, Ok, Err, refl, sym, ap, subst, arith}
use Rattle.pb_data.specs.UnlessOom.{◌>>=◌}
use Rattle.pb_place_types.specs.CallsInTurn.{past_calls}
use Rattle.pb_place_types.specs.declared.call.Call.{Call}
use Rattle.pb_place_types.specs.Counts.{Counts}
use Rattle.pb_place_types.specs.World.{World, from_nothing}
use Rattle.pb_workspace_types.specs.declared.fault.LoadFault.{LoadFault}
use Rattle.pb_workspace.specs.declared.workspace_root.WorkspaceRoot.{WorkspaceRoot}
use Rattle.pb_workspace.specs.declared.rounds.LoadState.{LoadState}
use Rattle.pb_workspace.specs.ByFolder.{folders_of}
use Rattle.pb_workspace_package.specs.Causes.{is_failure, is_outside}
use Rattle.pb_workspace.specs.MemberFolders.{member_folders}
use Rattle.pb_workspace_package.specs.Looks.{after, Looks}
use Rattle.pb_workspace.specs.LookedAt.{folder_looked, one_looked, all_looked, round_looked, rounds_looked, members_looked, others_looked}
use Rattle.pb_workspace.specs.Rounds.{all_read, draft_at, one_read, round}
use Rattle.pb_workspace_package.proofs.Looking.{Ends, ends_both, looks_both, looks_first, looks_no_further, looks_none, looks_then}

-- a step that looks at the world, and one after it that looks at the same
pub looks_step : {A B : Type 0} (result : Result B LoadFault) (next : World → A → List Call) (answer : World → Result A LoadFault) (look : World → List Call) (x : A) (w first now : World) (old mid new : Counts)
    → first ≡ w → now ≡ w → answer first ≡ Ok x → mid ≡ past_calls (look first) old → Looks result (next now x) mid new → Looks result (look w ++ after (answer w) (next w)) old new
looks_step result next answer look x w first now old mid new one two is before more =
    looks_then result (answer w) x (next w) (look w) old mid new (subst (λ v. answer v ≡ Ok x) one is) (subst (λ v. mid ≡ past_calls (look v) old) one before) (subst (λ v. Looks result (next v x) mid new) two more)

pub looks_stop : {A : Type 0} (e : LoadFault) (next : World → A → List Call) (answer : World → Result A LoadFault) (look : World → List Call) (w first : World) (old new : Counts)
    → first ≡ w → (is_outside e ≡ false → answer first ≡ Err e) → Ends e (look first) old new → Ends e (look w ++ after (answer w) (next w)) old new
looks_stop e next answer look w first old new one told before =
    looks_no_further e (answer w) (next w) (look w) old new (λ inside. subst (λ v. answer v ≡ Err e) one (told inside)) (subst (λ v. Ends e (look v) old new) one before)

module _ (target : List ℕ) (f : WorkspaceRoot) (meant : List (List ℕ × Unit {0})) (w now : World) where
  -- one folder of some
  pub all_looks : (r next : LoadState) (folder : List ℕ) (rest items : List (List ℕ)) (result : Result LoadState LoadFault) (old mid new : Counts) → items ≡ folder ∷ rest → now ≡ w
      → one_read (draft_at (from_nothing target now) f meant) r folder ≡ Ok next → mid ≡ past_calls (one_looked (folder_looked target (from_nothing target now) f) r folder) old
      → Looks result (all_looked (draft_at (from_nothing target w) f meant) (folder_looked target (from_nothing target w) f) next rest) mid new
      → Looks result (all_looked (draft_at (from_nothing target w) f meant) (folder_looked target (from_nothing target w) f) r items) old new
  all_looks r next folder rest items result old mid new cut same is before more =
      subst (λ xs. Looks result (all_looked (draft_at (from_nothing target w) f meant) (folder_looked target (from_nothing target w) f) r xs) old new) (sym cut)
      (looks_step result (λ v n. all_looked (draft_at (from_nothing target w) f meant) (folder_looked target (from_nothing target w) f) n rest) (λ v. one_read (draft_at (from_nothing target v) f meant) r folder) (λ v. one_looked (folder_looked target (from_nothing target v) f) r folder) next w now w old mid new same refl is before more)

  pub all_stop : (r : LoadState) (folder : List ℕ) (rest items : List (List ℕ)) (e : LoadFault) (old new : Counts) → items ≡ folder ∷ rest → now ≡ w
      → (is_outside e ≡ false → one_read (draft_at (from_nothing target now) f meant) r folder ≡ Err e) → Ends e (one_looked (folder_looked target (from_nothing target now) f) r folder) old new
      → Ends e (all_looked (draft_at (from_nothing target w) f meant) (folder_looked target (from_nothing target w) f) r items) old new
  all_stop r folder rest items e old new cut same told before =
      subst (λ xs. Ends e (all_looked (draft_at (from_nothing target w) f meant) (folder_looked target (from_nothing target w) f) r xs) old new) (sym cut)
      (looks_stop e (λ v n. all_looked (draft_at (from_nothing target w) f meant) (folder_looked target (from_nothing target w) f) n rest) (λ v. one_read (draft_at (from_nothing target v) f meant) r folder) (λ v. one_looked (folder_looked target (from_nothing target v) f) r folder) w now old new same told before)

  -- one round of those that are left
  pub round_looks : (count done : ℕ) (r next : LoadState) (result : Result LoadState LoadFault) (old mid new : Counts) → done < count → now ≡ w
      → round (draft_at (from_nothing target now) f meant) r ≡ Ok next → mid ≡ past_calls (round_looked (draft_at (from_nothing target now) f meant) (folder_looked target (from_nothing target now) f) r) old
      → Looks result (rounds_looked (count - (done + 1)) (draft_at (from_nothing target w) f meant) (folder_looked target (from_nothing target w) f) next) mid new
      → Looks result (rounds_looked (count - done) (draft_at (from_nothing target w) f meant) (folder_looked target (from_nothing target w) f) r) old new
  unfolding rounds_looked
  round_looks count done r next result old mid new lt same is before more =
      let left : count - done ≡ suc (count - (done + 1)) = omega arith in
      subst (λ n. Looks result (rounds_looked n (draft_at (from_nothing target w) f meant) (folder_looked target (from_nothing target w) f) r) old new) (sym left)
      (looks_step result (λ v n. rounds_looked (count - (done + 1)) (draft_at (from_nothing target w) f meant) (folder_looked target (from_nothing target w) f) n) (λ v. round (draft_at (from_nothing target v) f meant) r) (λ v. round_looked (draft_at (from_nothing target v) f meant) (folder_looked target (from_nothing target v) f) r) next w now w old mid new same refl is before more)

  pub round_stop : (count done : ℕ) (r : LoadState) (e : LoadFault) (old new : Counts) → done < count → now ≡ w
      → (is_outside e ≡ false → round (draft_at (from_nothing target now) f meant) r ≡ Err e) → Ends e (round_looked (draft_at (from_nothing target now) f meant) (folder_looked target (from_nothing target now) f) r) old new
      → Ends e (rounds_looked (count - done) (draft_at (from_nothing target w) f meant) (folder_looked target (from_nothing target w) f) r) old new
  unfolding rounds_looked
  round_stop count done r e old new lt same told before =
      let left : count - done ≡ suc (count - (done + 1)) = omega arith in
      subst (λ n. Ends e (rounds_looked n (draft_at (from_nothing target w) f meant) (folder_looked target (from_nothing target w) f) r) old new) (sym left)
      (looks_stop e (λ v n. rounds_looked (count - (done + 1)) (draft_at (from_nothing target w) f meant) (folder_looked target (from_nothing target w) f) n) (λ v. round (draft_at (from_nothing target v) f meant) r) (λ v. round_looked (draft_at (from_nothing target v) f meant) (folder_looked target (from_nothing target v) f) r) w now old new same told before)

  -- no round is left
  pub rounds_end : (count done : ℕ) (r : LoadState) (c : Counts) → count ≤ done → Looks {T = LoadState} (Ok r) (rounds_looked (count - done) (draft_at (from_nothing target w) f meant) (folder_looked target (from_nothing target w) f) r) c c
  unfolding rounds_looked
  rounds_end count done r c end =
      let none : count - done ≡ 0 = omega arith in
      subst (λ n. Looks {T = LoadState} (Ok r) (rounds_looked n (draft_at (from_nothing target w) f meant) (folder_looked target (from_nothing target w) f) r) c c) (sym none) refl

  -- what is left to be read comes to the same
  pub all_gives : (r next : LoadState) (folder : List ℕ) (rest items : List (List ℕ)) (whole : Result LoadState LoadFault) → items ≡ folder ∷ rest → now ≡ w
      → one_read (draft_at (from_nothing target now) f meant) r folder ≡ Ok next → all_read (draft_at (from_nothing target w) f meant) r items ≡ whole → all_read (draft_at (from_nothing target w) f meant) next rest ≡ whole
  all_gives r next folder rest items whole cut same is before =
      let here : one_read (draft_at (from_nothing target w) f meant) r folder ≡ Ok next = subst (λ v. one_read (draft_at (from_nothing target v) f meant) r folder ≡ Ok next) same is in
      sym (ap (λ x. x >>= (λ n. all_read (draft_at (from_nothing target w) f meant) n rest)) here) ∙ sym (ap (all_read (draft_at (from_nothing target w) f meant) r) cut) ∙ before

-- the members, what is read of them, and the rounds
module _ (target : List ℕ) (f : WorkspaceRoot) (begun : LoadState) (w : World) where
  abbrev Members : Type 0
  Members = List (List ℕ × Unit {0})

  abbrev all_of : World → Members → Result LoadState LoadFault
  all_of v meant = all_read (draft_at (from_nothing target v) f meant) begun (folders_of meant)

  abbrev all_at : World → Members → List Call
  all_at v meant = all_looked (draft_at (from_nothing target v) f meant) (folder_looked target (from_nothing target v) f) begun (folders_of meant)

  abbrev rounds_at : World → Members → LoadState → List Call
  rounds_at v meant read = rounds_looked 257 (draft_at (from_nothing target v) f meant) (folder_looked target (from_nothing target v) f) read

  pub others_looks : (meant : Members) (folders : List (List ℕ)) (one two : World) (read : LoadState) (result : Result LoadState LoadFault) (old first mid new : Counts)
      → meant ≡ member_folders (from_nothing target w) f → folders ≡ folders_of meant → one ≡ w → two ≡ w → first ≡ past_calls (members_looked target (from_nothing target w) f) old
      → all_read (draft_at (from_nothing target one) f meant) begun folders ≡ Ok read
      → mid ≡ past_calls (all_looked (draft_at (from_nothing target one) f meant) (folder_looked target (from_nothing target one) f) begun folders) first
      → Looks result (rounds_looked 257 (draft_at (from_nothing target two) f meant) (folder_looked target (from_nothing target two) f) read) mid new
      → Looks result (others_looked target (from_nothing target w) f begun) old new
  unfolding others_looked
  others_looks meant folders one two read result old first mid new are put same then begins is before more =
      let whole : Looks result (all_at w meant ++ after (all_of w meant) (rounds_at w meant)) first new =
      looks_step result (λ v r. rounds_at v meant r) (λ v. all_of v meant) (λ v. all_at v meant) read w one two first mid new same then
      (subst (λ xs. all_read (draft_at (from_nothing target one) f meant) begun xs ≡ Ok read) put is)
      (subst (λ xs. mid ≡ past_calls (all_looked (draft_at (from_nothing target one) f meant) (folder_looked target (from_nothing target one) f) begun xs) first) put before) more in
      looks_both result (members_looked target (from_nothing target w) f) _ old first new begins (subst (λ m. Looks result (all_at w m ++ after (all_of w m) (rounds_at w m)) first new) are whole)

  pub others_stop : (meant : Members) (folders : List (List ℕ)) (one : World) (e : LoadFault) (old first new : Counts)
      → meant ≡ member_folders (from_nothing target w) f → folders ≡ folders_of meant → one ≡ w → first ≡ past_calls (members_looked target (from_nothing target w) f) old
      → (is_outside e ≡ false → all_read (draft_at (from_nothing target one) f meant) begun folders ≡ Err e)
      → Ends e (all_looked (draft_at (from_nothing target one) f meant) (folder_looked target (from_nothing target one) f) begun folders) first new
      → Ends e (others_looked target (from_nothing target w) f begun) old new
  unfolding others_looked
  others_stop meant folders one e old first new are put same begins told before =
      let whole : Ends e (all_at w meant ++ after (all_of w meant) (rounds_at w meant)) first new =
      looks_stop e (λ v r. rounds_at v meant r) (λ v. all_of v meant) (λ v. all_at v meant) w one first new same
      (λ inside. subst (λ xs. all_read (draft_at (from_nothing target one) f meant) begun xs ≡ Err e) put (told inside))
      (subst (λ xs. Ends e (all_looked (draft_at (from_nothing target one) f meant) (folder_looked target (from_nothing target one) f) begun xs) first new) put before) in
      ends_both e (members_looked target (from_nothing target w) f) _ old first new begins (subst (λ m. Ends e (all_at w m ++ after (all_of w m) (rounds_at w m)) first new) are whole)

  pub others_none : (e : LoadFault) (old first : Counts) → is_outside e ≡ true → is_failure e ≡ false → first ≡ past_calls (members_looked target (from_nothing target w) f) old → Ends e (others_looked target (from_nothing target w) f begun) old first
  unfolding others_looked
  others_none e old first outside here begins = ends_both e (members_looked target (from_nothing target w) f) _ old first first begins (looks_none e _ first first outside here refl)

  pub others_first : (e : LoadFault) (old new : Counts) → is_outside e ≡ true → Ends e (members_looked target (from_nothing target w) f) old new → Ends e (others_looked target (from_nothing target w) f begun) old new
  unfolding others_looked
  others_first e old new outside before = looks_first e (members_looked target (from_nothing target w) f) _ old new outside before
