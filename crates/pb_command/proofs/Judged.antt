-- An answer judged by its command alone.
use Rattle.std.proofs.Common.{◌≡◌, ℕ, Bool, true, false, cond, codes, List, Option, Some, refl, sym, ap, subst, ◌∙◌}
use Rattle.std.specs.Str.{bytes_eq}
use Rattle.pb_directive.specs.declared.directive.Directive.{Directive}
use Rattle.pb_graph.proofs.Membership.{all_at}
use Rattle.pb_place_types.specs.declared.child.Reply.{Reply}
use Rattle.pb_workspace_types.specs.declared.package.Package.{Package}
use Rattle.pb_unit.specs.Laws.{last_word, TellsWhat}
use Rattle.pb_unit.specs.Plan.{HasSettings}
use Rattle.pb_unit.specs.Units.{what_name}
use Rattle.pb_unit.proofs.Telling.{keys_tell_what}
use Rattle.pb_unit.specs.declared.plan.Planned.{Planned}
use Rattle.pb_unit.specs.declared.unit.What.{What}
use Rattle.pb_unit.specs.declared.unit.What.TheVariants.{Lib, Bin, Script, Run}
use Rattle.pb_command_types.specs.Targets.{package_of, package_folder, dep_info_of, dep_info_by, crate_name_of, folder_of}
use Rattle.pb_command_types.specs.declared.project.Project.{Project}
use Rattle.pb_command_types.specs.declared.project.Setup.{Setup}
use Rattle.pb_command_reply.specs.Answers.{compile_answered, run_answered, unless_fault, ended_fault, answered_by, answered_of}
use Rattle.pb_command.specs.Command.{command_for, command_by, compile_of, run_of}
use Rattle.pb_command_arguments.specs.Words.{name_words, option}
use Rattle.pb_command.specs.Judge.{ended_by, replied_files, file_at, is_of_run, crate_in, inputs_if, judge, JudgesAsAnswered}

run_or_not : (out : List ℕ) (word : List ℕ) (b : Bool) → last_word out ≡ word → bytes_eq word (codes "run") ≡ b → is_of_run out ≡ b
run_or_not out word b is runs = ap (λ w. bytes_eq w (codes "run")) is ∙ runs

module _ (setup : Setup) (project : Project) (u : Planned) (done : List (Option (List Directive))) (p : Package) (r : Reply) (there : package_of project u ≡ Some p) where
  -- the second word of a compile names its crate
  crate_is : crate_in (compile_of setup project u done p).words ≡ crate_name_of project u
  unfolding name_words option
  crate_is = refl

  folder_is : p.folder ≡ folder_of project u
  folder_is = sym (ap (package_folder project.workspace.root) there)

  by_what : (w : What) → u.unit.what ≡ w → last_word u.out ≡ what_name w
      → judge (command_by w setup project u done p) r ≡ inputs_if (unless_fault (ended_fault (ended_by r)) (answered_by w (command_by w setup project u done p) (folder_of project u) (ended_by r) (file_at (dep_info_by w u.out (crate_name_of project u)) (replied_files u.out r))))
  unfolding judge name_words option
  by_what Lib is word =
      ap (λ b. inputs_if (unless_fault (ended_fault (ended_by r)) (cond b (run_answered (compile_of setup project u done p) project.workspace.root (ended_by r)) (compile_answered (compile_of setup project u done p) (file_at (dep_info_by Lib u.out (crate_name_of project u)) (replied_files u.out r))))))
      (run_or_not u.out (what_name Lib) false word refl)
  by_what (Bin name) is word =
      ap (λ b. inputs_if (unless_fault (ended_fault (ended_by r)) (cond b (run_answered (compile_of setup project u done p) project.workspace.root (ended_by r)) (compile_answered (compile_of setup project u done p) (file_at (dep_info_by Lib u.out (crate_name_of project u)) (replied_files u.out r))))))
      (run_or_not u.out (what_name (Bin name)) false word refl)
  by_what Script is word =
      ap (λ b. inputs_if (unless_fault (ended_fault (ended_by r)) (cond b (run_answered (compile_of setup project u done p) project.workspace.root (ended_by r)) (compile_answered (compile_of setup project u done p) (file_at (dep_info_by Lib u.out (crate_name_of project u)) (replied_files u.out r))))))
      (run_or_not u.out (what_name Script) false word refl)
  by_what Run is word =
      let c = run_of setup project u done p in
      ap (λ b. inputs_if (unless_fault (ended_fault (ended_by r)) (cond b (run_answered c c.folder (ended_by r)) (compile_answered c (file_at (dep_info_by Lib u.out (crate_in c.words)) (replied_files u.out r))))))
      (run_or_not u.out (what_name Run) true word refl)
      ∙ ap (λ folder. inputs_if (unless_fault (ended_fault (ended_by r)) (run_answered c folder (ended_by r)))) folder_is

  in_package : last_word u.out ≡ what_name u.unit.what → judge (command_for setup project u done (Some p)) r ≡ inputs_if (answered_of project u (command_for setup project u done (Some p)) (ended_by r) (file_at (dep_info_of project u) (replied_files u.out r)))
  in_package word = by_what u.unit.what refl word

pub judges_as_answered : JudgesAsAnswered
judges_as_answered setup project u done selection index r settled plan at =
    let tells : TellsWhat u = all_at TellsWhat project.plan.planned index u (keys_tell_what project.workspace project.features selection project.profile project.plan settled plan) at in
    let has : HasSettings project.workspace plan.line u = all_at (HasSettings project.workspace plan.line) project.plan.planned index u plan.settings at in
    subst (λ (o : Option Package). judge (command_for setup project u done o) r ≡ inputs_if (answered_of project u (command_for setup project u done o) (ended_by r) (file_at (dep_info_of project u) (replied_files u.out r))))
    (sym has.package_at) (in_package setup project u done has.owner r has.package_at tells.out)
