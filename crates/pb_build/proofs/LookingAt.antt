-- A build looks at the sources and the variables alone.
use Rattle.std.proofs.Common.{◌≡◌, ◌∙◌, List, ℕ, None, cond, refl, sym, ap, subst}
use Rattle.std.specs.FinMap.{get}
use Rattle.pb_place_types.specs.World.{World, Answers, from_nothing}
use Rattle.pb_place_types.proofs.Folders.{sources_alike, get-sources}
use Rattle.pb_command_types.specs.declared.project.Project.{Project}
use Rattle.pb_build_result.specs.declared.fault.Refusal.{Refusal}
use Rattle.pb_workspace.proofs.Accepted.{same_read}
use Rattle.pb_workspace_types.specs.declared.options.Options.{Options}
use Rattle.pb_build.specs.Environment.{environment_of}
use Rattle.pb_build.specs.Laws.{LooksAtSources, GivesFromNothing}
use Rattle.pb_build.specs.Planning.{IsProject, IsRefused, by_load, by_selection, by_feature, by_plan}
use Rattle.pb_build.specs.Result.{BuildResult, Comes, refused, no_toolchain, finished, Finished, toolchain_of, setup_of}
use Rattle.pb_build_turns.specs.Rows.{rows_of}
use Rattle.pb_build.specs.declared.environment.Environment.{Environment}

same_refusal : (options : Options) (target : List ℕ) (v w : World) (why : Refusal) → from_nothing target v ≡ from_nothing target w → IsRefused options target v why → IsRefused options target w why
same_refusal options target v w _ alike (by_load fault told) = by_load fault (sym (same_read options.manifest target v w alike) ∙ told)
same_refusal options target v w _ alike (by_selection fault ws read told) = by_selection fault ws (sym (same_read options.manifest target v w alike) ∙ read) told
same_refusal options target v w _ alike (by_feature fault ws selection is told) = by_feature fault ws selection record { read = sym (same_read options.manifest target v w alike) ∙ is.read; chosen = is.chosen } told
same_refusal options target v w _ alike (by_plan fault ws selection features is featured told) =
    by_plan fault ws selection features record { read = sym (same_read options.manifest target v w alike) ∙ is.read; chosen = is.chosen } featured told

pub same_project : (options : Options) (target : List ℕ) (v w : World) (project : Project) → from_nothing target v ≡ from_nothing target w → IsProject options target v project → IsProject options target w project
same_project options target v w project alike is = record {
  selection = is.selection;
  selected = record { read = sym (same_read options.manifest target v w alike) ∙ is.selected.read; chosen = is.selected.chosen };
  featured = is.featured;
  profile = is.profile;
  planned = is.planned;
}

same_result : (child : Answers) (options : Options) (environment : Environment) (v w : World) (r : BuildResult) → from_nothing environment.target v ≡ from_nothing environment.target w
    → Comes child options environment v r → Comes child options environment w r
same_result child options environment v w _ alike (refused why is) = refused why (same_refusal options environment.target v w why alike is)
same_result child options environment v w _ alike (no_toolchain project is silent) =
    no_toolchain project (same_project options environment.target v w project alike is) (sym (ap (toolchain_of child environment project) alike) ∙ silent)
same_result child options environment v w _ alike (finished project toolchain is says) =
    subst (λ (s : World). Comes child options environment w (Finished project (rows_of child (setup_of options environment toolchain) project s))) (sym alike)
    (finished project toolchain (same_project options environment.target v w project alike is) (sym (ap (toolchain_of child environment project) alike) ∙ says))

pub looks_at_sources : LooksAtSources
looks_at_sources child options v w r variables alike is =
    same_result child options (environment_of options w.variables) v w r alike (subst (λ m. Comes child options (environment_of options m) v r) variables is)

-- the sources of the sources
pub sources_again : (target : List ℕ) (w : World) → from_nothing target (from_nothing target w) ≡ from_nothing target w
sources_again target w = sources_alike target w (from_nothing target w) (λ q outside. get-sources target w q ∙ ap (λ b. cond b None (get w.files q)) outside) refl

pub gives_from_nothing : GivesFromNothing
gives_from_nothing child options w r is =
    looks_at_sources child options (from_nothing (environment_of options w.variables).target w) w r refl (sources_again (environment_of options w.variables).target w) is
