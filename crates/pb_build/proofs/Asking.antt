-- The query of the compiler's version.
use Rattle.std.proofs.Common.{◌≡◌, ◌∙◌, refl, sym, ap, subst}
use Rattle.pb_command.specs.Command.{query_of}
use Rattle.pb_command.specs.Judge.{ended_by}
use Rattle.pb_command_types.specs.declared.project.Project.{Project}
use Rattle.pb_place_types.specs.World.{World, Answers, Ends, seen_by, from_nothing}
use Rattle.pb_place_types.specs.declared.child.Reply.{Reply}
use Rattle.pb_place_types.specs.declared.command.Command.{Command}
use Rattle.pb_place_types.specs.declared.command.Ended.{Ended}
use Rattle.pb_place_types.proofs.Folders.{sees_sources}
use Rattle.pb_build.specs.Result.{toolchain_of, toolchain_in}
use Rattle.pb_build.specs.declared.environment.Environment.{Environment}

same_ended : (e : Ended) (r : Reply) → e.status ≡ r.status → e.stdout ≡ r.stdout → e.stderr ≡ r.stderr → e ≡ ended_by r
same_ended e r a b c =
    ap (λ s. let x : Ended = record { status = s; stdout = e.stdout; stderr = e.stderr } in x) a
    ∙ ap (λ s. let x : Ended = record { status = r.status; stdout = s; stderr = e.stderr } in x) b
    ∙ ap (λ s. let x : Ended = record { status = r.status; stdout = r.stdout; stderr = s } in x) c

-- the answer to the query is that in the sources
pub asked : (child : Answers) (environment : Environment) (project : Project) (c : Command) (w new : World) (ended : Ended) → c ≡ query_of environment.rustc project.workspace.root project.workspace.target → Ends (child c) c w ended new
    → toolchain_of child environment project (from_nothing project.workspace.target w) ≡ toolchain_in ended
asked child environment project c w new ended is ends =
    let q = query_of environment.rustc project.workspace.root project.workspace.target in
    let begun : Ends (child q) q w ended new = subst (λ (d : Command). Ends (child d) d w ended new) is ends in
    let whole : ended ≡ ended_by (child q (seen_by q w)) = same_ended ended (child q (seen_by q w)) begun.status begun.stdout begun.stderr in
    sym (ap toolchain_in (whole ∙ ap (λ (v : World). ended_by (child q v)) (sees_sources q w refl)))

-- the query changes nothing
pub asked_same : (child : Answers) (environment : Environment) (project : Project) (c : Command) (w new : World) (ended : Ended) → c ≡ query_of environment.rustc project.workspace.root project.workspace.target → Ends (child c) c w ended new
    → new ≡ w
asked_same child environment project c w new ended is ends =
    let q = query_of environment.rustc project.workspace.root project.workspace.target in
    let begun : Ends (child q) q w ended new = subst (λ (d : Command). Ends (child d) d w ended new) is ends in
    begun.world
