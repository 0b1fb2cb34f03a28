use Rattle.std.proofs.Common.{◌≡◌, ◌∙◌, subst}
use Rattle.pb_place_types.specs.At.{At, IsUnchanged}
use Rattle.pb_place_types.specs.Sinks.{SinkState}
use Rattle.pb_build_turns.specs.Executor.{BuildState, moment}
use Rattle.pb_tool_program.specs.Building.{BuildsTold}
use Rattle.pb_tool_program.specs.Guarding.{Guarded}
use Rattle.pb_tool_program.proofs.running.build.Goals as goal

-- a moment of a place that is unchanged after two steps, and a sink that has heard nothing more, is the same
same_moment : (old mid new : At) (before after : SinkState) → IsUnchanged old mid → IsUnchanged mid new → after ≡ before → moment new after ≡ moment old before
same_moment old mid new before after spoken noted heard = let world = noted.world ∙ spoken.world in let counts = noted.counts ∙ spoken.counts in let most = noted.most ∙ spoken.most in cc

pub returns-clause-builds : goal.returns-clause-builds
returns-clause-builds g c =
    let new = moment (g.P.Place.at c.build_options.new.place) (g.O.Out.heard c.build_options.new.out) in
    let after = (g.E.Out.heard c.build_options.new.err) in
    subst (λ (from : BuildState). BuildsTold g.P.Place.is_modelled g.P.Place.child (Guarded g.G.Guard.asks g.G.Guard.waits c.args.guard.now c.build_options.new.guard) (g.P.Place.at c.build_options.new.place).moved c.args.options.now c.args.shown.explain c.args.shown.render c.build_options.result from new (g.E.Out.heard c.args.err.now) after)
    (same_moment (g.P.Place.at c.args.place.now) (g.P.Place.at c.speak.new.self) (g.P.Place.at c.note_units.new.self) (g.O.Out.heard c.args.out.now) (g.O.Out.heard c.show.new.self) c.speak.ensures.at c.note_units.ensures.at c.show.ensures.heard)
    (subst (λ (said : SinkState). BuildsTold g.P.Place.is_modelled g.P.Place.child (Guarded g.G.Guard.asks g.G.Guard.waits c.args.guard.now c.build_options.new.guard) (g.P.Place.at c.build_options.new.place).moved c.args.options.now c.args.shown.explain c.args.shown.render c.build_options.result
    (moment (g.P.Place.at c.note_units.new.self) (g.O.Out.heard c.show.new.self)) new said after) c.color.ensures.heard c.build_options.ensures)
