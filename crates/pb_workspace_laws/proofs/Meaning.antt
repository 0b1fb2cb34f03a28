-- The folders that a text of `members` means are what the law says.
use Rattle.std.proofs.Common.{◌≡◌, ◌∷◌, ◌&&◌, [], ℕ, Bool, true, false, cond, List, Contains, refl, sym, ap, subst, ◌∙◌}
use Rattle.std.specs.List.{AllZip}
use Rattle.pb_graph.proofs.Membership.{head, single}
use Rattle.pb_place_types.proofs.PathLemmas.{and_left, and_right}
use Rattle.pb_place_types.specs.World.{FilesHavePaths, World}
use Rattle.pb_workspace_package.specs.Sources.{resolved}
use Rattle.pb_workspace.proofs.FoldersTaken.{taken_each, taken_only}
use Rattle.pb_workspace.specs.Globs.{is_glob}
use Rattle.pb_workspace.specs.MemberFolders.{folders_meant, folders_taken}
use Rattle.pb_workspace.specs.Members.{part_matches, parts_match, parts_meant}
use Rattle.pb_workspace.specs.declared.workspace_root.WorkspaceRoot.{WorkspaceRoot}
use Rattle.pb_workspace.specs.declared.member.Part.{Part}
use Rattle.pb_workspace_laws.specs.Members.{IsMeant, PartsMatchNames, TextsMeanFolders, written, matched}

module _ (sources : World) (f : WorkspaceRoot) (text folder : List ℕ) (paths : FilesHavePaths sources) where
  meant_only : Contains (folders_meant sources f text) folder → IsMeant sources f text folder
  meant_only among = by (is_glob text) refl among
    where
      by : (b : Bool) → is_glob text ≡ b → Contains (cond b (folders_taken sources f (parts_meant f.root text)) (resolved f.root text ∷ [])) folder → IsMeant sources f text folder
      by true globs among = let t = taken_only sources paths f text folder among in matched globs t.path t.file t.match t.kept
      by false plain among = written plain (sym (single (resolved f.root text) folder among))

  meant_each : IsMeant sources f text folder → Contains (folders_meant sources f text) folder
  meant_each (written plain is) =
      subst (λ b. Contains (cond b (folders_taken sources f (parts_meant f.root text)) (resolved f.root text ∷ [])) folder) (sym plain) (subst (Contains (resolved f.root text ∷ [])) (sym is) (head (resolved f.root text) []))
  meant_each (matched globs path file is kept) =
      subst (λ b. Contains (cond b (folders_taken sources f (parts_meant f.root text)) (resolved f.root text ∷ [])) folder) (sym globs) (taken_each sources paths f text folder (record { path = path; file = file; match = is; kept = kept }))

pub texts_mean_folders : TextsMeanFolders
texts_mean_folders sources f text folder paths = (meant_only sources f text folder paths, meant_each sources f text folder paths)

-- parts and names one for one

match_only : (parts : List Part) (names : List (List ℕ)) → parts_match parts names ≡ true → AllZip (λ part name. part_matches part name ≡ true) parts names
match_only [] [] is = tt
match_only [] (name ∷ names) is = absurd (cc)
match_only (part ∷ others) [] is = absurd (cc)
match_only (part ∷ others) (name ∷ names) is = (and_left _ _ is, match_only others names (and_right _ _ is))

match_each : (parts : List Part) (names : List (List ℕ)) → AllZip (λ part name. part_matches part name ≡ true) parts names → parts_match parts names ≡ true
match_each [] [] all = refl
match_each [] (name ∷ names) all = absurd all
match_each (part ∷ others) [] all = absurd all
match_each (part ∷ others) (name ∷ names) all = ap (λ b. b && parts_match others names) all.0 ∙ match_each others names all.1

pub parts_match_names : PartsMatchNames
parts_match_names parts names = (match_only parts names, match_each parts names)
