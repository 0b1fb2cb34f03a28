-- Which packages of a workspace are its members.
use Rattle.std.proofs.Common.{inl, inr, ◌≡◌, ◌↔◌, ◌∙◌, ◌&&◌, ◌||◌, ℕ, Bool, true, false, not, cond, List, [], ◌∷◌, Contains, Some, is_some, refl, ap}
use Rattle.std.proofs.lemmas.Cmp.{nat_list_cmp_total}
use Rattle.std.proofs.lemmas.Slice.Eq.{bytes_eq-Decides}
use Rattle.std.specs.BTreeMap.{is_at}
use Rattle.std.specs.Cmp.{eq_by_cmp_equiv}
use Rattle.std.specs.Cmp.Lexicographic.{slice_cmp}
use Rattle.std.specs.Map.{lookup}
use Rattle.std.specs.Ordering.{nat_cmp}
use Rattle.std.specs.Str.{bytes_eq}
use Rattle.pb_graph.proofs.Membership.{none, cases}
use Rattle.pb_place_types.specs.Paths.{is_at_or_below}
use Rattle.pb_place_types.specs.World.{World}
use Rattle.pb_workspace.specs.ByFolder.{folders_of, has}
use Rattle.pb_workspace.specs.Frames.{is_member}
use Rattle.pb_workspace.specs.MemberFolders.{member_folders}
use Rattle.pb_workspace.specs.Members.{is_excluded}
use Rattle.pb_workspace.specs.declared.workspace_root.WorkspaceRoot.{WorkspaceRoot}
use Rattle.pb_workspace.proofs.FoldersPut.{has_there}
use Rattle.pb_workspace.proofs.WholeWorkspace.{members_only, members_each}
use Rattle.pb_workspace_laws.specs.Members.{IsMember, root, meant, inside}

-- a folder among those of entries has a value
there_has : {V : Type 0} (es : List (List ℕ × V)) (k : List ℕ) → Contains (folders_of es) k → has k es ≡ true
there_has [] k is = absurd (none k is)
there_has {V} (e ∷ es) k is = elim (cases e.0 (folders_of es) k is) [
  | inl here ↦ ap (λ b. is_some (cond b (Some e.1) (lookup (is_at (slice_cmp nat_cmp k)) es))) (ap (is_at (slice_cmp nat_cmp k)) here ∙ (eq_by_cmp_equiv nat_list_cmp_total).refl k)
  | inr later ↦ by (is_at (slice_cmp nat_cmp k) e.0) (there_has es k later)
]
  where
    by : (b : Bool) → has k es ≡ true → is_some (cond b (Some e.1) (lookup (is_at (slice_cmp nat_cmp k)) es)) ≡ true
    by true rest = refl
    by false rest = rest

module _ (sources : World) (f : WorkspaceRoot) (folder : List ℕ) where
  abbrev among : Bool
  among = has folder (member_folders sources f)

  member_from : is_member f (member_folders sources f) folder ≡ true → IsMember sources f folder
  member_from h = by (bytes_eq folder f.root) f.is_workspace among (is_at_or_below f.root folder) (is_excluded f.root f.exclude folder) refl refl refl refl refl h
    where
      by : (own workspace listed below out : Bool) → bytes_eq folder f.root ≡ own → f.is_workspace ≡ workspace → among ≡ listed → is_at_or_below f.root folder ≡ below → is_excluded f.root f.exclude folder ≡ out
          → (own || (workspace && (listed || (below && not out)))) ≡ true → IsMember sources f folder
      by true workspace listed below out one two three four five h = root ((bytes_eq-Decides folder f.root).0 one)
      by false false listed below out one two three four five h = cc
      by false true true below out one two three four five h = let m = members_only sources f folder (has_there (member_folders sources f) folder three) in meant two m.0 m.1 m.2
      by false true false true false one two three four five h = inside two four five
      by false true false true true one two three four five h = cc
      by false true false false out one two three four five h = cc

  or_first : (a b : Bool) → a ≡ true → (a || b) ≡ true
  or_first true b h = refl
  or_first false b h = cc

  or_second : (a b : Bool) → b ≡ true → (a || b) ≡ true
  or_second true b h = refl
  or_second false b h = h

  both : (a b : Bool) → a ≡ true → b ≡ true → (a && b) ≡ true
  both a b p q = ap (λ x. x && b) p ∙ q

  member_to : IsMember sources f folder → is_member f (member_folders sources f) folder ≡ true
  member_to (root is) = or_first (bytes_eq folder f.root) _ ((bytes_eq-Decides folder f.root).1 is)
  member_to (meant written text listed means) =
      or_second (bytes_eq folder f.root) _ (both f.is_workspace _ written (or_first among _ (there_has (member_folders sources f) folder (members_each sources f text folder listed means))))
  member_to (inside written below kept) =
      or_second (bytes_eq folder f.root) _ (both f.is_workspace _ written (or_second among _ (both (is_at_or_below f.root folder) _ below (ap not kept))))

  pub member_is : (is_member f (member_folders sources f) folder ≡ true) ↔ IsMember sources f folder
  member_is = (member_from, member_to)
