use Rattle.std.proofs.Common.{refl, inl, length, subst, sym}
use Rattle.std.specs.List.{AllByRecursion}
use Rattle.pb_run.specs.UnitSteps.{child_of}
use Rattle.std.proofs.lemmas.Option.{slice_get_read}
use Rattle.pb_build_turns.proofs.Landing.{alone_dropped, anew_dropped, childless_dropped, left_dropped, unrecorded_dropped, drops_land, began_dropped, happened_dropped, changes_dropped, started_dropped}
use Rattle.pb_build_turns.specs.History.{FliesBeside, states_in}
use Rattle.pb_build_turns.proofs.Lists.{all_removed}
use Rattle.pb_build_turns.proofs.Manning.{flying_of, manned_answered}
use Rattle.pb_build_turns.proofs.dropping.drop_first.Goals as goal

pub drop_unit-requires : goal.drop_unit-requires
drop_unit-requires g c =
    let at = slice_get_read c.args.crew.now.running.items (length c.args.crew.now.running.items) 0 c.remove-running.result refl c.requires.some c.remove-running.ensures.value in
    record { flies = flying_of c.args.crew.now (g.P.Place.at c.args.place.now).counts 0 c.remove-running.result c.requires.consistent at }

pub returns-clause-consistent : goal.returns-clause-consistent
returns-clause-consistent g c =
    let at = slice_get_read c.args.crew.now.running.items (length c.args.crew.now.running.items) 0 c.remove-running.result refl c.requires.some c.remove-running.ensures.value in
    manned_answered c.args.crew.now _ (g.P.Place.at c.args.place.now).counts (g.P.Place.at c.drop_unit.new.place).counts 0 c.remove-running.result c.requires.consistent at refl refl refl refl c.remove-running.ensures.items (inl refl)
    (drops_land (child_of c.remove-running.result.begun) _ _ c.drop_unit.ensures.counts)

pub returns-clause-happened : goal.returns-clause-happened
returns-clause-happened g c = λ b es is_modelled project h.
    let at = slice_get_read c.args.crew.now.running.items (length c.args.crew.now.running.items) 0 c.remove-running.result refl c.requires.some c.remove-running.ensures.value in
    happened_dropped b c.args.crew.now (g.P.Place.at c.args.place.now).counts c.requires.consistent project es (g.P.Place.at c.args.place.now).world (g.P.Place.at c.drop_unit.new.place).world (g.P.Place.at c.args.place.now).still (g.P.Place.at c.drop_unit.new.place).counts.starts.flying (g.P.Place.at c.drop_unit.new.place).still
    0 c.remove-running.result at c.remove-running.new.self.items c.remove-running.ensures.items h
    (λ index unit next order there. (c.drop_unit.ensures.build b index unit next order there is_modelled).keeps (states_in b.project es) c.args.crew.now.done.items)
    (λ states done index unit next other its order there. (c.drop_unit.ensures.build b index unit next order there is_modelled).others states done other its)

pub returns-clause-told : goal.returns-clause-told
returns-clause-told g c = λ first es is_modelled old.
    let at = slice_get_read c.args.crew.now.running.items (length c.args.crew.now.running.items) 0 c.remove-running.result refl c.requires.some c.remove-running.ensures.value in record {
      changes = changes_dropped c.args.crew.now (g.P.Place.at c.args.place.now).counts c.requires.consistent first es (g.P.Place.at c.args.place.now).world (g.P.Place.at c.drop_unit.new.place).world (g.P.Place.at c.drop_unit.new.place).counts.starts.flying
          0 c.remove-running.result at c.remove-running.new.self.items c.remove-running.ensures.items old c.drop_unit.ensures.only c.drop_unit.ensures.stay;
      beside = λ came asked all. subst (AllByRecursion (FliesBeside c.args.crew.now.project came asked)) (sym c.remove-running.ensures.items) (all_removed (FliesBeside c.args.crew.now.project came asked) c.args.crew.now.running.items 0 all);
      alone = λ came asked beside. alone_dropped c.args.crew.now (g.P.Place.at c.args.place.now).counts c.requires.consistent first es came asked (g.P.Place.at c.args.place.now).world (g.P.Place.at c.drop_unit.new.place).world 0 c.remove-running.result at old beside c.drop_unit.ensures.only;
      unrecorded = λ index unit there none. unrecorded_dropped c.args.crew.now (g.P.Place.at c.args.place.now).counts c.requires.consistent first es (g.P.Place.at c.args.place.now).world (g.P.Place.at c.drop_unit.new.place).world 0 c.remove-running.result at old c.drop_unit.ensures.only index unit there none;
      childless = λ index unit path there started inside. childless_dropped c.args.crew.now (g.P.Place.at c.args.place.now).counts c.requires.consistent first es (g.P.Place.at c.args.place.now).world (g.P.Place.at c.drop_unit.new.place).world 0 c.remove-running.result at old c.drop_unit.ensures.only index unit path there started inside;
      began = λ sources command fault came reasons lawful after began.
          began_dropped c.args.crew.now (g.P.Place.at c.args.place.now).counts c.requires.consistent sources command fault es came reasons first (g.P.Place.at c.args.place.now).world (g.P.Place.at c.drop_unit.new.place).world 0 c.remove-running.result at lawful after old c.drop_unit.ensures.only began;
      started = λ sources command fault came started. started_dropped c.args.crew.now (g.P.Place.at c.args.place.now).counts c.requires.consistent sources command fault es came first (g.P.Place.at c.args.place.now).world (g.P.Place.at c.drop_unit.new.place).world 0 c.remove-running.result at old c.drop_unit.ensures.only started;
      anew = λ setup done lawful gave. anew_dropped c.args.crew.now (g.P.Place.at c.args.place.now).counts c.requires.consistent g.P.Place.child setup done es first (g.P.Place.at c.args.place.now).world (g.P.Place.at c.drop_unit.new.place).world 0 c.remove-running.result at lawful old c.drop_unit.ensures.only gave;
      left = λ setup done next lawful gave. left_dropped c.args.crew.now (g.P.Place.at c.args.place.now).counts c.requires.consistent g.P.Place.child setup done es next first (g.P.Place.at c.args.place.now).world (g.P.Place.at c.drop_unit.new.place).world 0 c.remove-running.result at lawful old c.drop_unit.ensures.only gave;
    }
