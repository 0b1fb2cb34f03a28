use Rattle.std.proofs.Common.{refl, rules}
use Rattle.pb_place_types.specs.World.{from_nothing}
use Rattle.pb_workspace_types.specs.declared.fault.LoadFault.TheVariants.{OutOfMemory}
use Rattle.pb_workspace_package.proofs.Looking.{looks_all}
use Rattle.pb_workspace.specs.LookedAt.{folder_looked}
use Rattle.pb_workspace.proofs.Keeping.{few_kept, each_kept}
use Rattle.pb_workspace.proofs.rounds.one_read.Goals as goal

pub returns-clause-kept : goal.returns-clause-kept
returns-clause-kept g c = (
  few_kept c.args.reading c.in_ok-made.made c.args.folder c.in-Ok.draft (search rules) c.in_ok-made.ensures,
  each_kept c.args.reading c.in_ok-made.made c.args.folder c.in-Ok.draft c.requires.1 c.in-Ok.ensures.folder c.in-Ok.ensures.draft c.in_ok-made.ensures,
)

pub returns-in_err-made-clause-looks : goal.returns-in_err-made-clause-looks
returns-in_err-made-clause-looks g c told =
    let h = looks_all OutOfMemory (folder_looked c.args.target.now (from_nothing c.args.target.now (g.P.Place.at c.args.place.now).world) c.args.frame.now c.args.folder) (g.P.Place.at c.args.place.now).counts (g.P.Place.at c.draft_at.new.place).counts refl (c.in-Ok.ensures.looks told) in
    search (rules, h)
