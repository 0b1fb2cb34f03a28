use Rattle.std.proofs.Common.{refl, rules}
use Rattle.pb_place_types.specs.World.{from_nothing}
use Rattle.pb_workspace.proofs.LookingOver.{looks_step, looks_stop}
use Rattle.pb_workspace_package.proofs.Steps.{quiet_step, told_step}
use Rattle.pb_workspace.specs.Loaded.{others_read, packages_read, root_read}
use Rattle.pb_workspace.specs.LookedAt.{others_looked, package_looked, packages_looked}
use Rattle.pb_workspace.proofs.loading.packages_read.Goals as goal

pub returns-in_err-begun-clause-looks : goal.returns-in_err-begun-clause-looks
unfolding packages_looked
returns-in_err-begun-clause-looks g c told =
    let h = looks_stop c.in_err-begun.field-0.0 (λ w begun. others_looked c.args.target.now (from_nothing c.args.target.now w) c.args.frame.now begun) (λ w. root_read (from_nothing c.args.target.now w) c.args.frame.now c.args.tables c.args.found) (λ w. package_looked c.args.target.now c.args.frame.now.root c.args.found) (g.P.Place.at c.args.place.now).world (g.P.Place.at c.args.place.now).world (g.P.Place.at c.args.place.now).counts (g.P.Place.at c.root_read.new.place).counts refl (c.in_err-begun.ensures.ok told) c.in_err-begun.ensures.looks in
    search (rules, h)

pub returns-clause-ok : goal.returns-clause-ok
unfolding packages_read
returns-clause-ok g c told =
    told_step (λ w begun. others_read (from_nothing c.args.target.now w) c.args.frame.now begun) _ _ _ _ c.others_read.result (c.in_ok-begun.ensures.ok told) (c.in_ok-begun.ensures.quiet.world) (c.others_read.ensures.ok told)

pub returns-clause-quiet : goal.returns-clause-quiet
returns-clause-quiet g c = quiet_step c.in_ok-begun.begun c.others_read.result _ _ _ c.in_ok-begun.ensures.quiet c.others_read.ensures.quiet

pub returns-clause-looks : goal.returns-clause-looks
unfolding packages_looked
returns-clause-looks g c told =
    looks_step c.others_read.result (λ w begun. others_looked c.args.target.now (from_nothing c.args.target.now w) c.args.frame.now begun) (λ w. root_read (from_nothing c.args.target.now w) c.args.frame.now c.args.tables c.args.found) (λ w. package_looked c.args.target.now c.args.frame.now.root c.args.found) c.in_ok-begun.begun (g.P.Place.at c.args.place.now).world (g.P.Place.at c.args.place.now).world (g.P.Place.at c.root_read.new.place).world (g.P.Place.at c.args.place.now).counts (g.P.Place.at c.root_read.new.place).counts (g.P.Place.at c.others_read.new.place).counts
    refl (c.in_ok-begun.ensures.quiet.world) (c.in_ok-begun.ensures.ok told) c.in_ok-begun.ensures.looks (c.others_read.ensures.looks told)
