-- Builds of a session file that begins without files: what the file says of their words, and that all files have paths.
use Rattle.std.proofs.Common.{◌≡◌, ◌∙◌, ◌⊎◌, inl, inr, ℕ, Bool, true, false, not, cond, if◌then◌else◌, codes, Contains, List, [], ◌∷◌, Option, Some, None, Result, Ok, Err, refl, sym, ap, subst}
use Rattle.std.specs.Cmp.Lexicographic.{nat_list_cmp_total, slice_cmp}
use Rattle.std.specs.FinMap as finite
use Rattle.std.specs.FinMap.{get, get-empty, get-insert}
use Rattle.std.specs.List.{AllByRecursion}
use Rattle.std.specs.Ordering.{nat_cmp}
use Rattle.std.specs.Str.{bytes_eq}
use Rattle.serde_json.specs.Data.{Data, Items, no_items, item}
use Rattle.serde_json.specs.Find as find
use Rattle.pb_data.specs.UnlessOom.{◌>>=◌, lifted, some_or}
use Rattle.pb_mini_laws.proofs.Named.{parsed_path_is}
use Rattle.pb_mini_laws.specs.Honest.{RunsAlone, small_compiler}
use Rattle.pb_workspace_types.specs.declared.options.Options.{Options}
use Rattle.pb_place_types.specs.Paths.{below, is_at_or_below, parsed}
use Rattle.pb_place_types.specs.World.{World, is_same_path, removed, written, FilesHavePaths}
use Rattle.pb_place_types.specs.declared.path.PathFault.{PathFault}
use Rattle.pb_place_types.proofs.Within.{at_or_below_on, outside_within, share_no_path}
use Rattle.pb_place_types.proofs.MapLemmas.{get-kept, same_bytes, symm}
use Rattle.std.proofs.lemmas.Slice.Eq.{bytes_eq-Decides}
use Rattle.pb_build_session.specs.Faults.{Read, of_path_fault}
use Rattle.pb_build_session.specs.Deaths.{death_named}
use Rattle.pb_build_session.specs.Options.{are_known, default_manifest, manifest_or_default, number_or, options_in, options_of, pick_or_first, text_or, texts_at, truth_at}
use Rattle.pb_build_session.specs.Sessions.{build_of, die_of, document_in, session_of, set_of, step_named, step_of, steps_of, write_of}
use Rattle.pb_build_session.specs.Values.{array_of, number_of, only_member, pair_of, path_in, path_of, text_of}
use Rattle.pb_build_session.specs.declared.fault.BadSession.TheVariants.{BadForm}
use Rattle.pb_build_session.specs.declared.step.SessionStep.{SessionStep}
use Rattle.pb_build_session.specs.declared.step.SessionStep.TheVariants.{Write, Remove, Set, Unset, Build, Die, Fuse}
use Rattle.pb_store_soundness.specs.Sound.{Sound}
use Rattle.pb_profile.specs.Line.{folder_of}
use Rattle.pb_command.specs.Judge.{judge}
use Rattle.std.proofs.lemmas.Bool.{false≢true}
use Rattle.pb_store_soundness.specs.Records.{if_of_key, is_key, record_path, read_text, reading, record_at}
use Rattle.pb_workspace.proofs.FoldersPut.{opened}
use Rattle.pb_build_turns.specs.Executor.{BuildState}
use Rattle.pb_build.specs.Environment.{environment_of}
use Rattle.pb_build.specs.Headline.{IsHonestBuild, records_of}
use Rattle.pb_build.specs.Lasting.{NothingIsSound, RecordsStayTrue, ShareNoPath, Spares}
use Rattle.pb_build.specs.Session.{Course, Point, Carries, ByPicked}
use Rattle.pb_mini_laws.specs.Laws.{SessionFilesGive}
use Rattle.pb_mini_laws.specs.Small.{AllGive, AllTold, IsSmallBuild, IsToldBuild, IsToldStep, StandApart, StepGives}
use Rattle.pb_mini_laws.proofs.Folders.{Named, lie_apart, lies_within, profile_named}
use Rattle.pb_mini_laws.proofs.Honest.{small_builds_are_honest, small_gives}
use Rattle.pb_mini_laws.proofs.Placing.{target_at}
use Rattle.pb_mini_laws.proofs.SourcesFound.{At}

same_ok : {A : Type 0} (x y : A) → ◌≡◌ {A = Read A} (Ok x) (Ok y) → x ≡ y
same_ok x y e = cc

-- What a session file says.

-- a path that is written is normalised and absolute, and so is the manifest of a build, whose scripts the small compiler runs
abbrev HasWords : SessionStep → Type 0
HasWords (Write path text) = At path
HasWords (Build options pick) = At options.manifest × RunsAlone options.runner
HasWords step = Unit {0}

path_in_is : (text path : List ℕ) → path_in text ≡ Ok path → At path
path_in_is text path is = by (parsed text) refl is
  where
    by : (r : Result (List ℕ) PathFault) → parsed text ≡ r → lifted of_path_fault r ≡ Ok path → At path
    by (Ok found) at h = subst At (same_ok found path h) (parsed_path_is text found at)
    by (Err fault) at h = cc

manifest_is : (o : Option Data) (path : List ℕ) → manifest_or_default o ≡ Ok path → At path
manifest_is None path is = path_in_is default_manifest path is
manifest_is (Some d) path is = let (text, said, rest) = opened (text_of d) path_in path is in path_in_is text path rest

options_are : (d : Data) (options : Options) → options_in d ≡ Ok options → At options.manifest × RunsAlone options.runner
options_are d options is =
    let (manifest, first, is_1) = opened (manifest_or_default (find.get (codes "manifest") d)) _ options is in
    let (packages, second, is_2) = opened (texts_at (codes "packages") d) _ options is_1 in
    let (workspace, third, is_3) = opened (truth_at (codes "workspace") d) _ options is_2 in
    let (features, fourth, is_4) = opened (texts_at (codes "features") d) _ options is_3 in
    let (all_features, fifth, is_5) = opened (truth_at (codes "all_features") d) _ options is_4 in
    let (no_default, sixth, is_6) = opened (truth_at (codes "no_default_features") d) _ options is_5 in
    let (profile, seventh, is_7) = opened (text_or (codes "dev") (find.get (codes "profile") d)) _ options is_6 in
    let (lib, eighth, is_8) = opened (truth_at (codes "lib") d) _ options is_7 in
    let (bins, ninth, is_9) = opened (truth_at (codes "bins") d) _ options is_8 in
    let (bin, tenth, is_10) = opened (texts_at (codes "bin") d) _ options is_9 in
    let (jobs, last, end) = opened (number_or 1 (find.get (codes "jobs") d)) _ options is_10 in
    let same = same_ok _ options end in
    (subst (λ (o : Options). At o.manifest) same (manifest_is (find.get (codes "manifest") d) manifest first), subst (λ (o : Options). RunsAlone o.runner) same refl)

build_has : (d : Data) (step : SessionStep) → build_of d ≡ Ok step → HasWords step
build_has d step is =
    let (options, said, rest) = opened (options_of d) (λ options. pick_or_first (find.get (codes "pick") d) >>= (λ pick. Ok (Build options pick))) step is in
    let (pick, picked, end) = opened (pick_or_first (find.get (codes "pick") d)) (λ pick. Ok (Build options pick)) step rest in
    let (ms, object, known) = opened (some_or BadForm (find.as_object d)) (λ ms. if are_known ms then options_in d else Err BadForm) options said in
    subst HasWords (same_ok (Build options pick) step end) (by (are_known ms) options known)
  where
    by : (b : Bool) (options : Options) → (if b then options_in d else Err BadForm) ≡ Ok options → At options.manifest × RunsAlone options.runner
    by true options h = options_are d options h
    by false options h = cc

write_has : (d : Data) (step : SessionStep) → write_of d ≡ Ok step → HasWords step
write_has d step is =
    let (p, said, rest) = opened (pair_of d) (λ (p : List ℕ × List ℕ). path_in p.0 >>= (λ path. Ok (Write path p.1))) step is in
    let (path, parsed_so, end) = opened (path_in p.0) (λ path. Ok (Write path p.1)) step rest in
    subst HasWords (same_ok (Write path p.1) step end) (path_in_is p.0 path parsed_so)

remove_has : (d : Data) (step : SessionStep) → (path_of d >>= (λ path. Ok (Remove path))) ≡ Ok step → HasWords step
remove_has d step is = let (path, said, end) = opened (path_of d) (λ path. Ok (Remove path)) step is in subst HasWords (same_ok (Remove path) step end) tt

set_has : (d : Data) (step : SessionStep) → set_of d ≡ Ok step → HasWords step
set_has d step is = let (p, said, end) = opened (pair_of d) (λ (p : List ℕ × List ℕ). Ok (Set p.0 p.1)) step is in subst HasWords (same_ok (Set p.0 p.1) step end) tt

unset_has : (d : Data) (step : SessionStep) → (text_of d >>= (λ text. Ok (Unset text))) ≡ Ok step → HasWords step
unset_has d step is = let (text, said, end) = opened (text_of d) (λ text. Ok (Unset text)) step is in subst HasWords (same_ok (Unset text) step end) tt

die_has : (d : Data) (step : SessionStep) → die_of d ≡ Ok step → HasWords step
die_has d step is =
    let (p, said, rest) = opened (pair_of d) (λ (p : List ℕ × List ℕ). death_named p.1 >>= (λ death. Ok (Die p.0 death))) step is in
    let (death, named, end) = opened (death_named p.1) (λ death. Ok (Die p.0 death)) step rest in
    subst HasWords (same_ok (Die p.0 death) step end) tt

fuse_has : (d : Data) (step : SessionStep) → (number_of d >>= (λ number. Ok (Fuse number))) ≡ Ok step → HasWords step
fuse_has d step is = let (number, said, end) = opened (number_of d) (λ number. Ok (Fuse number)) step is in subst HasWords (same_ok (Fuse number) step end) tt

-- one of two readings
either_has : (b : Bool) (first second : Read SessionStep) (step : SessionStep) → (first ≡ Ok step → HasWords step) → (second ≡ Ok step → HasWords step) → (if b then first else second) ≡ Ok step → HasWords step
either_has true first second step one two is = one is
either_has false first second step one two is = two is

step_named_has : (name : List ℕ) (d : Data) (step : SessionStep) → step_named name d ≡ Ok step → HasWords step
step_named_has name d step =
    either_has (bytes_eq name (codes "write")) _ _ step (write_has d step)
    (either_has (bytes_eq name (codes "remove")) _ _ step (remove_has d step)
    (either_has (bytes_eq name (codes "set")) _ _ step (set_has d step)
    (either_has (bytes_eq name (codes "unset")) _ _ step (unset_has d step)
    (either_has (bytes_eq name (codes "build")) _ _ step (build_has d step)
    (either_has (bytes_eq name (codes "die")) _ _ step (die_has d step)
    (either_has (bytes_eq name (codes "fuse")) _ _ step (fuse_has d step) (λ bad. cc)))))))

steps_have : (ds : Items) (steps : List SessionStep) → steps_of ds ≡ Ok steps → AllByRecursion HasWords steps
steps_have no_items steps is = subst (AllByRecursion HasWords) (same_ok [] steps is) tt
steps_have (item d ds) steps is =
    let (step, one, rest) = opened (step_of d) (λ step. steps_of ds >>= (λ steps. Ok (step ∷ steps))) steps is in
    let (others, more, end) = opened (steps_of ds) (λ steps. Ok (step ∷ steps)) steps rest in
    let (ms, object, is_1) = opened (some_or BadForm (find.as_object d)) (λ ms. some_or BadForm (only_member ms) >>= (λ m. step_named m.0 m.1)) step one in
    let (m, alone, is_2) = opened (some_or BadForm (only_member ms)) (λ m. step_named m.0 m.1) step is_1 in
    subst (AllByRecursion HasWords) (same_ok (step ∷ others) steps end) (step_named_has m.0 m.1 step is_2, steps_have ds others more)

session_has : (bytes : List ℕ) (steps : List SessionStep) → session_of bytes ≡ Ok steps → AllByRecursion HasWords steps
session_has bytes steps is =
    let (d, read_so, rest) = opened (document_in bytes) (λ d. array_of d >>= steps_of) steps is in
    let (ds, list, end) = opened (array_of d) steps_of steps rest in
    steps_have ds steps end

-- Files and their paths.

written_at : (path text : List ℕ) (w : World) → At path → FilesHavePaths w → FilesHavePaths (written path text w)
written_at path text w at files q found is = by (is_same_path path q) refl (sym (get-insert nat_list_cmp_total w.files path text q) ∙ is)
  where
    by : (here : Bool) → is_same_path path q ≡ here → cond here (Some text) (get w.files q) ≡ Some found → At q
    by true own h = subst At ((bytes_eq-Decides path q).0 (same_bytes path q ∙ symm path q ∙ own)) at
    by false own h = files q found h

removed_at : (path : List ℕ) (w : World) → FilesHavePaths w → FilesHavePaths (removed path w)
removed_at path w files q found is = by (not (is_at_or_below path q)) (sym (get-kept w.files (λ p. not (is_at_or_below path p)) q) ∙ is)
  where
    by : (left : Bool) → cond left (get w.files q) None ≡ Some found → At q
    by true h = files q found h
    by false h = cc

abbrev PathsAt : Point → Type 0
PathsAt p = FilesHavePaths p.moment.world

-- one step
step_at : (step : SessionStep) (before after : Point) → HasWords step → Carries small_compiler step before after → PathsAt before → PathsAt after
step_at (Write path text) before after at same files = subst PathsAt (sym same) (written_at path text before.moment.world at files)
step_at (Remove path) before after words same files = subst PathsAt (sym same) (removed_at path before.moment.world files)
step_at (Build options pick) before after words built files = subst FilesHavePaths (sym (ap (λ (m : BuildState). m.world) built.behind)) built.paths
step_at _ before after words same files = subst PathsAt (sym same) files

abbrev target_in : Options → World → List ℕ
target_in options w = (environment_of options w.variables).target

module _ (targets : List (List ℕ)) where
  -- such a build has its words
  small_of : (options : Options) (w : World) → At options.manifest → RunsAlone options.runner → FilesHavePaths w → IsToldBuild targets options w → IsSmallBuild options w
  small_of options w manifest runner files told = record {
    manifest = manifest;
    files = removed_at (target_in options w) w files;
    setup = λ toolchain. record { flags = told.flags; runner = runner };
    can_tell = told.can_tell;
  }

  module _ (apart : StandApart targets) (records_stay_true : RecordsStayTrue) where
    -- in each target folder the records of every profile are true
    abbrev AllSound : World → Type 0
    AllSound w = (t : List ℕ) → Contains targets t → At t → (name : List ℕ) → Named name → Sound reading judge small_compiler (below t name) w.files

    -- a build into another target folder keeps its records apart
    kept_apart : (t u name profile : List ℕ) → At t → At u → Named name → Named profile → is_at_or_below t u ≡ false → is_at_or_below u t ≡ false → ShareNoPath (below t name) (below u profile)
    kept_apart t u name profile at there named told first second q inside =
        outside_within u (below u profile) q (lies_within u profile told) (share_no_path t u q at there first second (at_or_below_on t (below t name) q (lies_within t name named) inside))

    -- one into this target folder keeps them there, or for another profile apart
    kept_here : (t name : List ℕ) (options : Options) (w : World) → At t → Named name → IsSmallBuild options w → Named (folder_of options.profile) → t ≡ target_in options w
        → ((records_of options w.variables ≡ below t name) × IsHonestBuild small_compiler options w) ⊎ ShareNoPath (below t name) (records_of options w.variables)
    kept_here t name options w at named small profile same = by (bytes_eq (folder_of options.profile) name) refl
      where
        by : (b : Bool) → bytes_eq (folder_of options.profile) name ≡ b → ((records_of options w.variables ≡ below t name) × IsHonestBuild small_compiler options w) ⊎ ShareNoPath (below t name) (records_of options w.variables)
        by true own = inl (ap (λ u. below u (folder_of options.profile)) (sym same) ∙ ap (below t) ((bytes_eq-Decides (folder_of options.profile) name).0 own), small_builds_are_honest options w small)
        by false other = inr (subst (λ u. ShareNoPath (below t name) (below u (folder_of options.profile))) same
            (lie_apart t name (folder_of options.profile) at named profile (λ alike. false≢true (sym other ∙ (bytes_eq-Decides (folder_of options.profile) name).1 (sym alike)))))

    spares_so : (t name : List ℕ) (step : SessionStep) (w : World) → Contains targets t → At t → Named name → HasWords step → FilesHavePaths w → IsToldStep targets step w → Spares small_compiler (below t name) step w
    spares_so t name (Write path text) w there at named words files told = outside_within t (below t name) path (lies_within t name named) (told t there)
    spares_so t name (Remove path) w there at named words files told = elim (told t there) [
      | inl above ↦ inl (at_or_below_on path t (below t name) above (lies_within t name named))
      | inr outside ↦ inr (λ q inside. outside q (at_or_below_on t (below t name) q (lies_within t name named) inside))
    ]
    spares_so t name (Set n value) w there at named words files told = tt
    spares_so t name (Unset n) w there at named words files told = tt
    spares_so t name (Die key death) w there at named words files told = tt
    spares_so t name (Fuse number) w there at named words files told = tt
    spares_so t name (Build options pick) w there at named words files told = λ units. elim (apart t (target_in options w) there told.target) [
      | inl same ↦ kept_here t name options w at named (small_of options w words.0 words.1 files told) (profile_named options.profile told.profile) same
      | inr lie ↦ inr (kept_apart t (target_in options w) name (folder_of options.profile) at (target_at options w.variables words.0) named (profile_named options.profile told.profile) lie.0 lie.1)
    ]

    all_sound : (step : SessionStep) (before after : Point) → HasWords step → PathsAt before → IsToldStep targets step before.moment.world → Carries small_compiler step before after → AllSound before.moment.world → AllSound after.moment.world
    all_sound step before after words files told takes sound t there at name named =
        records_stay_true small_compiler (below t name) (step ∷ []) before after (spares_so t name step before.moment.world there at named words files told, (after, takes, refl)) (sound t there at name named)

    step_gives : (step : SessionStep) (before after : Point) → HasWords step → PathsAt before → IsToldStep targets step before.moment.world → (taken : Carries small_compiler step before after) → AllSound before.moment.world → StepGives step before after taken
    step_gives (Write path text) before after words files told takes sound = tt
    step_gives (Remove path) before after words files told takes sound = tt
    step_gives (Set name value) before after words files told takes sound = tt
    step_gives (Unset name) before after words files told takes sound = tt
    step_gives (Die key death) before after words files told takes sound = tt
    step_gives (Fuse number) before after words files told takes sound = tt
    step_gives (Build options pick) before after words files told built sound =
        small_gives (ByPicked pick options) options built.answer before.moment built.ended built.headline (small_of options before.moment.world words.0 words.1 files told)
        (sound (target_in options before.moment.world) told.target (target_at options before.moment.world.variables words.0) (folder_of options.profile) (profile_named options.profile told.profile))

    all_give : (steps : List SessionStep) (before after : Point) (course : Course small_compiler steps before after) → AllByRecursion HasWords steps → PathsAt before → AllSound before.moment.world → AllTold targets steps before after course
        → AllGive steps before after course
    all_give [] before after course words files sound told = tt
    all_give (step ∷ steps) before after course words files sound told = (
      step_gives step before course.0 words.0 files told.0 course.1 sound,
      all_give steps course.0 after course.2 words.1 (step_at step before course.0 words.0 course.1 files) (all_sound step before course.0 words.0 files told.0 course.1 sound) told.1,
    )

-- where no file is, no text counts as a record, and all files have paths
none_at : (folder key : List ℕ) → record_at reading folder finite.empty key ≡ None
unfolding record_at
none_at folder key = by (is_key key)
  where
    by : (b : Bool) → (if b then if_of_key key (read_text reading (finite.get (finite.empty {K = List ℕ} {X = List ℕ} {R = slice_cmp nat_cmp}) (record_path folder key))) else None) ≡ None
    by true = ap (λ o. if_of_key key (read_text reading o)) (get-empty (slice_cmp nat_cmp) (record_path folder key))
    by false = refl

no_files : (w : World) → w.files ≡ finite.empty → FilesHavePaths w
no_files w empty path text is = let none : None ≡ Some text = sym (get-empty (slice_cmp nat_cmp) path) ∙ ap (λ files. get files path) (sym empty) ∙ is in cc

module _ (records_stay_true : RecordsStayTrue) (nothing_is_sound : NothingIsSound) where
  pub session_files_give : SessionFilesGive
  session_files_give bytes targets steps before after said empty apart course told =
      all_give targets apart records_stay_true steps before after course (session_has bytes steps said) (no_files before.moment.world empty)
      (λ t there at name named. nothing_is_sound small_compiler (below t name) before.moment.world.files (λ key. ap (λ files. record_at reading (below t name) files key) empty ∙ none_at (below t name) key)) told
