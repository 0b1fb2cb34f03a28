-- The packages that are read stand in byte order of their folders.
use Rattle.std.proofs.Common.{◌≡◌, ℕ, zero, suc, Bool, true, false, if◌then◌else◌, List, [], ◌∷◌, length, Option, Some, None, Result, Ok, Err, subst}
use Rattle.std.specs.Prelude.{nat_le}
use Rattle.std.specs.List.Sorted.{IsStrictlySortedBy}
use Rattle.pb_data.specs.UnlessOom.{◌>>=◌}
use Rattle.pb_manifest_types.specs.declared.package.Package.{Package as Written}
use Rattle.pb_workspace_types.specs.declared.fault.LoadFault.{LoadFault}
use Rattle.pb_workspace_types.specs.declared.fault.LoadFault.TheVariants.{TooMany}
use Rattle.pb_place_types.specs.World.{World}
use Rattle.pb_workspace.specs.ByFolder.{folders_of, has}
use Rattle.pb_workspace_package.specs.Drafts.{draft_of}
use Rattle.pb_workspace.specs.Loaded.{at_root, nothing_read, others_read, packages_read, root_read}
use Rattle.pb_workspace.specs.MemberFolders.{member_folders}
use Rattle.pb_workspace.specs.Rounds.{all_read, draft_at, one_read, round, rounds, with_draft}
use Rattle.pb_workspace_package.specs.declared.unresolved_package.UnresolvedPackage.{UnresolvedPackage}
use Rattle.pb_workspace_package.specs.declared.unresolved_package.Tables.{Tables}
use Rattle.pb_workspace.specs.declared.workspace_root.WorkspaceRoot.{WorkspaceRoot}
use Rattle.pb_workspace.specs.declared.rounds.LoadState.{LoadState}
use Rattle.pb_workspace.proofs.FoldersPut.{opened}
use Rattle.pb_workspace_laws.proofs.Sorting.{Rises, put_rises}

abbrev Up : LoadState → Type 0
Up r = Rises (folders_of r.found)

module _ (read : List ℕ → Result UnresolvedPackage LoadFault) where
  one_up : (r made : LoadState) (folder : List ℕ) → Up r → one_read read r folder ≡ Ok made → Up made
  one_up r made folder up is = by (has folder r.found) is
    where
      full : (b : Bool) → (if b then Err TooMany else read folder >>= (λ d. Ok (with_draft r folder d))) ≡ Ok made → Up made
      full true h = cc
      full false h =
          let o = opened (read folder) (λ d. Ok (with_draft r folder d)) made h in
          let same : with_draft r folder o.0 ≡ made = cc (o.2) in
          subst Up same (put_rises r.found folder o.0 up)

      by : (b : Bool) → (if b then Ok r else (if nat_le 256 (length r.found) then Err TooMany else read folder >>= (λ d. Ok (with_draft r folder d)))) ≡ Ok made → Up made
      by true h = let same : r ≡ made = cc in subst Up same up
      by false h = full (nat_le 256 (length r.found)) h

  all_up : (folders : List (List ℕ)) (r made : LoadState) → Up r → all_read read r folders ≡ Ok made → Up made
  all_up [] r made up is = let same : r ≡ made = cc in subst Up same up
  all_up (folder ∷ folders) r made up is =
      let o = opened (one_read read r folder) (λ now. all_read read now folders) made is in
      all_up folders o.0 made (one_up r o.0 folder up o.1) o.2

  rounds_up : (n : ℕ) (r made : LoadState) → Up r → rounds n read r ≡ Ok made → Up made
  unfolding rounds
  rounds_up zero r made up is = let same : r ≡ made = cc in subst Up same up
  rounds_up (suc n) r made up is =
      let o = opened (round read r) (λ now. rounds n read now) made is in
      rounds_up n o.0 made (all_up (folders_of r.ahead) (record { found = r.found; ahead = [] }) o.0 up o.1) o.2

module _ (sources : World) (f : WorkspaceRoot) (tables : Tables) where
  root_up : (found : Option Written) (r : LoadState) → root_read sources f tables found ≡ Ok r → Up r
  unfolding root_read IsStrictlySortedBy
  root_up None r h = let same : nothing_read ≡ r = cc in subst Up same tt
  root_up (Some p) r h =
      let o = opened (draft_of sources (at_root f) true f.given p tables) (λ d. Ok (with_draft nothing_read f.root d)) r h in
      let same : with_draft nothing_read f.root o.0 ≡ r = cc (o.2) in
      subst Up same (tt, tt)

  pub packages_up : (found : Option Written) (r : LoadState) → packages_read sources f tables found ≡ Ok r → Up r
  unfolding packages_read others_read
  packages_up found r h =
      let o = opened (root_read sources f tables found) (λ begun. others_read sources f begun) r h in
      let q = opened (all_read (draft_at sources f (member_folders sources f)) o.0 (folders_of (member_folders sources f))) (λ now. rounds 257 (draft_at sources f (member_folders sources f)) now) r o.2 in
      rounds_up (draft_at sources f (member_folders sources f)) 257 q.0 r (all_up (draft_at sources f (member_folders sources f)) (folders_of (member_folders sources f)) o.0 q.0 (root_up found o.0 o.1) q.1) q.2
