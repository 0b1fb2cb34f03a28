-- The command of a unit that stands in a plan.
use Rattle.std.proofs.Common.{◌≡◌, ◌↔◌, ◌∙◌, ℕ, Bool, true, false, ◌&&◌, cond, if◌then◌else◌, is_some, List, [], Option, Some, None, refl, ap, subst}
use Rattle.std.specs.Option.{option_map}
use Rattle.pb_command.specs.Command.{command_of}
use Rattle.pb_command.proofs.Rising.{commands_rise}
use Rattle.pb_directive.specs.declared.directive.Directive.{Directive}
use Rattle.pb_workspace_types.specs.declared.package.Package.{Package}
use Rattle.pb_command_types.specs.Targets.{own_run, own_said, said_at, said_there}
use Rattle.pb_command_types.specs.declared.project.Project.{Project}
use Rattle.pb_unit.specs.declared.plan.Planned.{Planned}
use Rattle.pb_command_laws.specs.Compiles.{CompileSays, hears, heard}
use Rattle.pb_command_laws.specs.OfPlans as plans
use Rattle.pb_command_laws.specs.OfPlans.{Hears, CompilesOfPlans, RunsOfPlans}
use Rattle.pb_command_laws.specs.Planned.{IsWanted, StandsInPlan}
use Rattle.pb_command_laws.specs.Starts.{StartsScript}
use Rattle.pb_command_laws.specs.Variables.{HasVariables, compile_table, folder_at}
use Rattle.pb_command_laws.proofs.Compile.{compiles_say}
use Rattle.pb_command_laws.proofs.Having.{compiles_have}
use Rattle.pb_command_laws.proofs.Running.{runs_have}
use Rattle.pb_command_laws.proofs.Starting.{compiles_start, runs_start}
use Rattle.pb_command_laws.proofs.Wanted.{libraries_are_wanted, compiles_hear_runs, runs_start_scripts}

-- the same with libraries in other words
says_of : (project : Project) (u : Planned) (done : List (Option (List Directive))) (p : Package) (lines : List Directive) (Is Other : List ℕ → List ℕ → Type 0) (said : List (List ℕ × List ℕ))
    → ((name file : List ℕ) → Is name file ↔ Other name file) → CompileSays project u done p lines Is said → CompileSays project u done p lines Other said
says_of project u done p lines Is Other said same is = record {
  crate_name = is.crate_name;
  crate_types = is.crate_types;
  folder = is.folder;
  alone = is.alone;
  settings = is.settings;
  conditions = is.conditions;
  expected = is.expected;
  searched = is.searched;
  linked = is.linked;
  libraries = is.libraries;
  given = is.given;
  are = record {
    order = is.are.order;
    same = λ library. (λ there. (same library.0 library.1).0 ((is.are.same library).0 there), λ other. (is.are.same library).1 ((same library.0 library.1).1 other));
  };
}

-- what is heard
record IsHeard (project : Project) (u : Planned) (p : Package) (done : List (Option (List Directive))) : Type 0 where
  lines : List Directive
  ran : Option (List ℕ)
  hears_so : Hears project u p done lines ran
  lines_are : heard project u done ≡ lines
  ran_is : (if hears u.unit.what then folder_at project (own_run project u) else None) ≡ ran

heard_so : (project : Project) (u : Planned) (p : Package) (done : List (Option (List Directive))) → StandsInPlan project u p → IsHeard project u p done
heard_so project u p done stands = by (hears u.unit.what) (is_some p.script) refl refl
  where
    by : (a b : Bool) → hears u.unit.what ≡ a → is_some p.script ≡ b → IsHeard project u p done
    by false b at has = record {
      lines = [];
      ran = None;
      hears_so = plans.nothing (ap (λ r. r && is_some p.script) at);
      lines_are = ap (λ r. cond r (own_said project u done) []) at;
      ran_is = ap (λ r. cond r (folder_at project (own_run project u)) None) at;
    }
    by true false at has =
        let run = (compiles_hear_runs project u p stands at).none has in
        record {
          lines = [];
          ran = None;
          hears_so = plans.nothing (ap (λ r. r && is_some p.script) at ∙ has);
          lines_are = ap (λ r. cond r (own_said project u done) []) at ∙ ap (said_there done) run;
          ran_is = ap (λ r. cond r (folder_at project (own_run project u)) None) at ∙ ap (folder_at project) run;
        }
    by true true at has =
        let run = (compiles_hear_runs project u p stands at).some has in
        record {
          lines = said_at done run.0;
          ran = Some run.2.run.out;
          hears_so = plans.own_run (ap (λ r. r && is_some p.script) at ∙ has) run.0 run.2.run run.2.there run.2.is;
          lines_are = ap (λ r. cond r (own_said project u done) []) at ∙ ap (said_there done) run.1;
          ran_is = ap (λ r. cond r (folder_at project (own_run project u)) None) at ∙ ap (folder_at project) run.1 ∙ ap (option_map (λ (x : Planned). x.out)) run.2.there;
        }

pub compiles_of_plans : CompilesOfPlans
compiles_of_plans setup project u done p settled stands compiles path =
    let h = heard_so project u p done stands in
    let told = compiles_say setup project u done p settled stands.owner compiles path in
    record {
      starts = compiles_start setup project u done p stands.owner compiles;
      lines = h.lines;
      ran = h.ran;
      hears = h.hears_so;
      has = subst (λ ran. HasVariables (command_of setup project u done) (compile_table setup project u p h.lines ran)) h.ran_is
          (subst (λ lines. HasVariables (command_of setup project u done) (compile_table setup project u p lines (if hears u.unit.what then folder_at project (own_run project u) else None))) h.lines_are (compiles_have setup project u done p stands.owner compiles));
      order = commands_rise setup project u done;
      said = told.0;
      words = told.1;
      says = subst (λ lines. CompileSays project u done p lines (IsWanted project u p) told.0) h.lines_are
          (says_of project u done p (heard project u done) _ (IsWanted project u p) told.0 (λ name file. libraries_are_wanted project u p stands compiles name file) told.2);
    }

pub runs_of_plans : RunsOfPlans
runs_of_plans setup project u done p stands runs = record {
  starts = subst (λ file. StartsScript setup project u p file (command_of setup project u done)) (runs_start_scripts project u p stands runs) (runs_start setup project u done p stands.owner runs);
  has = runs_have setup project u done p stands.owner runs;
  order = commands_rise setup project u done;
}
