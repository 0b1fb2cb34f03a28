use Rattle.std.proofs.Common.{◌∙◌, ap, codes, List, ℕ, Option}
use Rattle.std.specs.FinMap as finite
use Rattle.pb_place_types.specs.World.{World}
use Rattle.pb_build.specs.Environment.{set_text, environment_with}
use Rattle.pb_build.proofs.Called.{all_asked, first_stops, second_stops, third_stops}
use Rattle.pb_build.proofs.environment.environment_of.Goals as goal

pub returns-in-Ok-environment_with-clause-ok : goal.returns-in-Ok-environment_with-clause-ok
returns-in-Ok-environment_with-clause-ok g c told =
    let options = c.args.options.now in
    let first = c.in-Ok.ensures.quiet.world in
    let second = c.in-Ok-variable.ensures.quiet.world ∙ first in
    c.in-Ok-environment_with.ensures
    ∙ ap (λ (x : Option (List ℕ)). environment_with options x c.in-Ok-variable.flags c.in-Ok-variable-2.target) (c.in-Ok.ensures.ok told)
    ∙ ap (λ (x : Option (List ℕ)). environment_with options (set_text (finite.get (g.P.Place.at c.args.place.now).world.variables (codes "RUSTC"))) x c.in-Ok-variable-2.target)
    (c.in-Ok-variable.ensures.ok told ∙ ap (λ (w : World). set_text (finite.get w.variables (codes "RUSTFLAGS"))) first)
    ∙ ap (λ (x : Option (List ℕ)). environment_with options (set_text (finite.get (g.P.Place.at c.args.place.now).world.variables (codes "RUSTC"))) (set_text (finite.get (g.P.Place.at c.args.place.now).world.variables (codes "RUSTFLAGS"))) x)
    (c.in-Ok-variable-2.ensures.ok told ∙ ap (λ (w : World). set_text (finite.get w.variables (codes "CARGO_TARGET_DIR"))) second)

pub returns-in-Err-clause-calls : goal.returns-in-Err-clause-calls
returns-in-Err-clause-calls g c = first_stops c.in-Err.fault (g.P.Place.at c.args.place.now).counts (g.P.Place.at c.variable.new.place).counts c.in-Err.ensures.calls

pub returns-in-Err-variable-clause-calls : goal.returns-in-Err-variable-clause-calls
returns-in-Err-variable-clause-calls g c = second_stops c.in-Err-variable.fault (g.P.Place.at c.args.place.now).counts (g.P.Place.at c.variable.new.place).counts (g.P.Place.at c.variable-2.new.place).counts c.in-Ok.ensures.calls c.in-Err-variable.ensures.calls

pub returns-in-Err-variable-2-clause-calls : goal.returns-in-Err-variable-2-clause-calls
returns-in-Err-variable-2-clause-calls g c =
    third_stops c.in-Err-variable-2.fault (g.P.Place.at c.args.place.now).counts (g.P.Place.at c.variable.new.place).counts (g.P.Place.at c.variable-2.new.place).counts (g.P.Place.at c.variable-3.new.place).counts c.in-Ok.ensures.calls c.in-Ok-variable.ensures.calls c.in-Err-variable-2.ensures.calls

pub returns-in-Ok-environment_with-clause-calls : goal.returns-in-Ok-environment_with-clause-calls
returns-in-Ok-environment_with-clause-calls g c =
    all_asked (g.P.Place.at c.args.place.now).counts (g.P.Place.at c.variable.new.place).counts (g.P.Place.at c.variable-2.new.place).counts (g.P.Place.at c.variable-3.new.place).counts c.in-Ok.ensures.calls c.in-Ok-variable.ensures.calls c.in-Ok-variable-2.ensures.calls
