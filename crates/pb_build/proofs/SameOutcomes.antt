-- What units give looks at the features that are on, and not at how they are told.
use Rattle.std.proofs.Common.{◌≡◌, ◌∙◌, ◌++◌, ◌&&◌, ℕ, Bool, true, if◌then◌else◌, List, [], ◌∷◌, map, flat_map, Option, Some, None, Result, Ok, Err, refl, ap, ap₂, slice_get}
use Rattle.std.specs.List.{list_all}
use Rattle.pb_command.specs.Command.{words_of, compile_of, run_of, command_by, command_for, command_of}
use Rattle.pb_command_types.specs.NamedTexts.{in_order}
use Rattle.pb_command_arguments.specs.Externs.{dependency_words, entry_extern, entry_name, extern, extern_word, externs, leads, own_extern, reads_of}
use Rattle.pb_command_reply.specs.Answers.{answered_of}
use Rattle.pb_command_environment.specs.Pairs.{about_pairs, package_pairs, version_pairs, building_pairs, feature_pair, links_pairs, own_pairs, pairs_of, passed_at, passed_pairs}
use Rattle.pb_command_arguments.specs.Said.{said_words}
use Rattle.pb_command_types.specs.Targets.{library_file, dep_info_of, made_file_of, package_of}
use Rattle.pb_command_arguments.specs.Words.{active_words, crate_words, expected_words, feature_word, output_words, settings_words}
use Rattle.pb_command_types.specs.declared.checked_reply.CheckedReply.{CheckedReply}
use Rattle.pb_command_types.specs.declared.fault.UnitFault.{UnitFault}
use Rattle.pb_command_types.specs.declared.project.Project.{Project}
use Rattle.pb_command_types.specs.declared.project.Setup.{Setup}
use Rattle.pb_directive.specs.declared.directive.Directive.{Directive}
use Rattle.pb_feature_types.specs.Features.{features_at, is_enabled}
use Rattle.pb_feature_types.specs.declared.features.Features.{Features}
use Rattle.pb_message.specs.declared.message.Message.{Message}
use Rattle.pb_message.specs.declared.message.Message.TheVariants.{CompilerArtifact}
use Rattle.pb_place_types.specs.World.{World, Answers}
use Rattle.pb_place_types.specs.declared.child.Reply.{Reply}
use Rattle.pb_place_types.specs.declared.command.Command.{Command}
use Rattle.pb_run.specs.Outcome.{Outcome, Waiting, directives_of, tabled_from, is_good_at, view_of, ran_by, outcome_by, judged, command_after, outcome_of, outcomes}
use Rattle.pb_command.specs.Judge.{ended_by, file_at, replied_files}
use Rattle.pb_message_units.specs.Telling.{artifacts, compiler_messages, good_messages, is_binary}
use Rattle.pb_place_types.specs.declared.command.Ended.{Ended}
use Rattle.pb_unit.specs.declared.plan.Planned.{Planned}
use Rattle.pb_unit.specs.declared.unit.What.{What}
use Rattle.pb_unit.specs.declared.unit.What.TheVariants.{Lib, Bin, Script, Run}
use Rattle.pb_workspace_types.specs.declared.package.Package.{Package}
use Rattle.pb_workspace_types.specs.declared.package.Side.{Side}
use Rattle.pb_build_turns.specs.Rows.{rows_of, to_first_bad}
use Rattle.pb_build.proofs.Reasons.{placed_same}

-- a table by two steps that give the same
tabled_same : {U A : Type 0} (f g : List A → U → A) → ((done : List A) (u : U) → f done u ≡ g done u) → (done : List A) (us : List U) → tabled_from f done us ≡ tabled_from g done us
tabled_same f g same done [] = refl
tabled_same f g same done (u ∷ us) = ap (λ o. tabled_from f (done ++ o ∷ []) us) (same done u) ∙ tabled_same f g same (done ++ g done u ∷ []) us

module _ (p : Project) (g : Features) (names : (o : ℕ) (s : Side) → features_at p.features o s ≡ features_at g o s) (flags : (o : ℕ) (s : Side) (n : ℕ) → is_enabled p.features o s n ≡ is_enabled g o s n) where
  -- the project with other features, of which the same are on
  abbrev pub other : Project
  other = record p { features = g }

  active_same : (u : Planned) → active_words p u ≡ active_words other u
  active_same u = ap (λ (fs : List (List ℕ)). flat_map feature_word fs) (names u.unit.package u.unit.side)

  externs_same : (u : Planned) (k : Package) → externs p u k ≡ externs other u k
  externs_same u k =
      ap (λ es. es ++ own_extern p u u.unit.what)
      (placed_same (entry_extern p u) (entry_extern other u)
      (λ n e. ap (λ (b : Bool). if b && leads u.unit.what e.kind then extern (entry_name p e) (library_file p u e.to) else []) (flags u.unit.package u.unit.side n)) 0 k.entries)

  words_same : (setup : Setup) (u : Planned) (done : List (Option (List Directive))) (k : Package) → words_of setup p u done k ≡ words_of setup other u done k
  words_same setup u done k =
      ap₂ (λ (active : List (List ℕ)) (linked : List (List ℕ × List ℕ)).
      (crate_words p u k ++ output_words u k ++ settings_words u.unit.what u.settings ++ (active ++ expected_words k.features))
      ++ ((dependency_words p u ++ flat_map extern_word (in_order linked)) ++ said_words p u done k ++ setup.flags)) (active_same u) (externs_same u k)

  own_same : (setup : Setup) (u : Planned) (done : List (Option (List Directive))) (k : Package) (w : What) → own_pairs setup p u done k w ≡ own_pairs setup other u done k w
  unfolding passed_at
  own_same setup u done k Run = ap (λ (fs : List (List ℕ)). (links_pairs k.links ++ map feature_pair fs) ++ building_pairs setup p u ++ passed_pairs p u done) (names u.unit.package u.unit.side)
  own_same setup u done k _ = refl

  by_same : (setup : Setup) (u : Planned) (done : List (Option (List Directive))) (k : Package) (w : What) → u.unit.what ≡ w → command_by w setup p u done k ≡ command_by w setup other u done k
  by_same setup u done k w is = by w
    where
      pairs_same : pairs_of setup p u done k ≡ pairs_of setup other u done k
      pairs_same = ap (λ (own : List (List ℕ × List ℕ)). in_order (package_pairs setup k ++ about_pairs k.about ++ version_pairs k.version ++ own)) (own_same setup u done k u.unit.what)

      compile_same : compile_of setup p u done k ≡ compile_of setup other u done k
      compile_same =
          ap₂ (λ (words : List (List ℕ)) (pairs : List (List ℕ × List ℕ)). record { program = setup.rustc; words = words; folder = p.workspace.root; pairs = pairs; out = Some u.out; target = p.workspace.target; toolchain = setup.toolchain; reads = reads_of p u })
          (words_same setup u done k) pairs_same

      run_same : run_of setup p u done k ≡ run_of setup other u done k
      run_same = ap (λ (pairs : List (List ℕ × List ℕ)). record (run_of setup p u done k) { pairs = pairs }) pairs_same

      by : (v : What) → command_by v setup p u done k ≡ command_by v setup other u done k
      by Lib = compile_same
      by (Bin name) = compile_same
      by Script = compile_same
      by Run = run_same

  for_same : (setup : Setup) (u : Planned) (done : List (Option (List Directive))) (o : Option Package) → command_for setup p u done o ≡ command_for setup other u done o
  for_same setup u done None = refl
  for_same setup u done (Some k) = by_same setup u done k u.unit.what refl

  pub command_same : (setup : Setup) (u : Planned) (done : List (Option (List Directive))) → command_of setup p u done ≡ command_of setup other u done
  command_same setup u done = for_same setup u done (package_of p u)

  artifacts_same : (u : Planned) (o : Option (List ℕ)) → artifacts p u o ≡ artifacts other u o
  artifacts_same u None = refl
  artifacts_same u (Some file) = ap (λ (fs : List (List ℕ)). CompilerArtifact record { settings = u.settings; features = fs; file = file; is_executable = is_binary u.unit.what } ∷ []) (names u.unit.package u.unit.side)

  messages_same : (u : Planned) (stderr : List ℕ) (d : Option (List Directive)) → good_messages p u stderr d ≡ good_messages other u stderr d
  messages_same u stderr None = ap (λ ms. compiler_messages stderr ++ ms) (artifacts_same u (made_file_of p u))
  messages_same u stderr (Some directives) = refl

  ran_same : (u : Planned) (ended : Ended) (r : Result CheckedReply UnitFault) → ran_by p u ended r ≡ ran_by other u ended r
  ran_same u ended (Ok a) = ap (λ (ms : List Message). record { started = true; bad = None; directives = a.directives; messages = ms }) (messages_same u ended.stderr a.directives)
  ran_same u ended (Err e) = refl

  judged_same : (u : Planned) (c : Command) (r : Reply) → judged p u c r ≡ judged other u c r
  judged_same u c r =
      ap (outcome_by (replied_files u.out r)) (ran_same u (ended_by r) (answered_of p u c (ended_by r) (file_at (dep_info_of p u) (replied_files u.out r))))

  outcome_same : (child : Answers) (setup : Setup) (sources : World) (done : List Outcome) (u : Planned) → outcome_of child setup p sources done u ≡ outcome_of child setup other sources done u
  outcome_same child setup sources done u =
      ap (λ (o : Outcome). if list_all (λ index. is_good_at (slice_get done index)) u.needs then o else Waiting)
      (judged_same u (command_after setup p done u) (child (command_after setup p done u) (view_of done sources u))
      ∙ ap (λ (c : Command). judged other u c (child c (view_of done sources u))) (command_same setup u (directives_of done)))

  pub outcomes_same : (child : Answers) (setup : Setup) (sources : World) → outcomes child setup p sources ≡ outcomes child setup other sources
  outcomes_same child setup sources = tabled_same (outcome_of child setup p sources) (outcome_of child setup other sources) (outcome_same child setup sources) [] p.plan.planned

  pub rows_same : (child : Answers) (setup : Setup) (sources : World) → rows_of child setup p sources ≡ rows_of child setup other sources
  rows_same child setup sources = ap (to_first_bad p.plan.planned) (outcomes_same child setup sources)
