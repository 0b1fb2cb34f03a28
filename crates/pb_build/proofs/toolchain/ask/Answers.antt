use Rattle.std.proofs.Common.{◌∙◌, sym}
use Rattle.pb_build.proofs.Asking.{asked}
use Rattle.pb_build.proofs.toolchain.ask.Goals as goal

pub returns-in-Some-clause-answer : goal.returns-in-Some-clause-answer
returns-in-Some-clause-answer g c told =
    asked g.P.Place.child c.args.environment.now c.args.project.now c.in-Ok.command (g.P.Place.at c.args.place.now).world (g.P.Place.at c.start.new.place).world c.in-Ok-start.ended c.in-Ok.ensures (c.in-Ok-start.ensures.ok told)
    ∙ sym c.toolchain_in.ensures ∙ c.in-Some.is

pub returns-clause-answer : goal.returns-clause-answer
returns-clause-answer g c told is =
    asked g.P.Place.child c.args.environment.now c.args.project.now c.in-Ok.command (g.P.Place.at c.args.place.now).world (g.P.Place.at c.start.new.place).world c.in-Ok-start.ended c.in-Ok.ensures (c.in-Ok-start.ensures.ok told)
    ∙ sym c.toolchain_in.ensures ∙ c.in-None.is
