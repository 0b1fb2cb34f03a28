-- The folders of profiles in one target folder: each lies in it, and two of them are one or share no path.
use Rattle.std.proofs.Common.{◌≡◌, ◌≢◌, ◌∙◌, ◌&&◌, ◌||◌, ◌==◌, ℕ, Bool, true, false, not, if◌then◌else◌, codes, List, [], ◌∷◌, refl, ap}
use Rattle.std.proofs.lemmas.Bool.{false≢true}
use Rattle.std.specs.List.{list_all, list_any}
use Rattle.std.specs.Str.{bytes_eq}
use Rattle.pb_manifest_types.specs.Letters as letters
use Rattle.pb_workspace_types.proofs.NamesInPaths.{either, no_dot, no_slash, no_zero, unlike}
use Rattle.pb_place_types.proofs.Folders.{named_folders_lie_apart}
use Rattle.pb_place_types.proofs.PathLemmas.{and_left, and_right, below_is_below}
use Rattle.pb_place_types.proofs.TakenApart.{parts_lone}
use Rattle.pb_place_types.proofs.Within.{at_below, share_no_path}
use Rattle.pb_place_types.specs.Paths.{below, is_at_or_below, is_name, leads_up, stays}
use Rattle.pb_profile.specs.Line.{folder_of, is_either}
use Rattle.pb_build.specs.Lasting.{ShareNoPath}
use Rattle.pb_mini_laws.proofs.SourcesFound.{At}

abbrev pub Named : List ℕ → Type 0
Named name = letters.is_name name ≡ true

clean : (n : ℕ) → letters.is_name_byte n ≡ false → (name : List ℕ) → list_all letters.is_name_byte name ≡ true → list_any (λ b. b == n) name ≡ false
clean n none [] all = refl
clean n none (b ∷ name) all = either _ _ (unlike n b none (and_left _ _ all)) (clean n none name (and_right _ _ all))

flat : (name : List ℕ) → Named name → list_any (λ b. b == 47) name ≡ false
unfolding letters.is_name
flat name is = clean 47 no_slash name (and_right _ _ is)

-- a name of a package's letters is one of a folder
of_folder : (name : List ℕ) → Named name → is_name name ≡ true
unfolding letters.is_name
of_folder [] is = absurd (false≢true is)
of_folder (b ∷ name) is =
    let all = and_right _ _ is in
    let other = unlike 46 b no_dot (and_left _ _ all) in
    let plain : stays (b ∷ name) || leads_up (b ∷ name) ≡ false = ap (λ t. (t && bytes_eq name []) || (t && bytes_eq name (codes "."))) other in
    ap not (either (stays (b ∷ name) || leads_up (b ∷ name)) _ plain (clean 0 no_zero (b ∷ name) all))

pub profile_named : (profile : List ℕ) → Named profile → Named (folder_of profile)
unfolding letters.is_name letters.is_name_byte
profile_named profile is = by (is_either (codes "dev") (codes "test") profile) (is_either (codes "release") (codes "bench") profile)
  where
    by : (a b : Bool) → Named (if a then codes "debug" else (if b then codes "release" else profile))
    by true b = refl
    by false true = refl
    by false false = is

pub lies_within : (target name : List ℕ) → Named name → is_at_or_below target (below target name) ≡ true
lies_within target name is = at_below target (below target name) (below_is_below target name (below target name) (ap (list_all is_name) (parts_lone name (flat name is)) ∙ ap (λ b. b && true) (of_folder name is)) refl)

pub lie_apart : (target one other : List ℕ) → At target → Named one → Named other → one ≢ other → ShareNoPath (below target one) (below target other)
lie_apart target one other at first second apart q inside =
    let lie = named_folders_lie_apart target one other at (of_folder one first) (of_folder other second) (flat one first) (flat other second) apart in
    share_no_path (below target one) (below target other) q lie.first lie.second lie.not_below_first lie.not_below_second inside
