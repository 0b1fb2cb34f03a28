use Rattle.std.proofs.Common.{◌∙◌, sym, refl, ap}
use Rattle.pb_build_turns.specs.declared.executor.UnitExecutor.{UnitExecutor}
use Rattle.pb_build_turns.proofs.Landing.{told_first, told_twice}
use Rattle.pb_build_turns.proofs.dropping.drain.Goals as goal

pub loop-alloc-init : goal.loop-alloc-init
loop-alloc-init g c = record {
  consistent = c.requires.consistent;
  same = refl;
  most = refl;
  dropped = λ new d. d;
  told = λ first es is_modelled old. told_first g.P.Place.child c.args.crew.now.project first es c.args.crew.now.running.items (g.P.Place.at c.args.place.now).world (g.P.Place.at c.args.place.now).counts.starts.flying old;
  happened = λ b es is_modelled project h. h;
}

pub loop-alloc-preserved : goal.loop-alloc-preserved
loop-alloc-preserved g c =
    let same = ap (λ (x : UnitExecutor). x.project) c.loop-alloc.invariant.same in record {
      consistent = c.drop_first.ensures.consistent;
      same = c.drop_first.ensures.same ∙ ap (λ (x : UnitExecutor). record x { running = c.drop_first.new.crew.running }) c.loop-alloc.invariant.same;
      most = c.drop_first.ensures.most ∙ c.loop-alloc.invariant.most;
      dropped = λ new d. c.loop-alloc.invariant.dropped new (c.drop_first.ensures.dropped new d);
      told = λ first es is_modelled old.
          told_twice g.P.Place.child c.args.crew.now.project c.loop-alloc.crew.project same first es c.args.crew.now.running.items c.loop-alloc.crew.running.items c.drop_first.new.crew.running.items
          (g.P.Place.at c.args.place.now).world (g.P.Place.at c.loop-alloc.place).world (g.P.Place.at c.drop_first.new.place).world (g.P.Place.at c.loop-alloc.place).counts.starts.flying (g.P.Place.at c.drop_first.new.place).counts.starts.flying
          (c.loop-alloc.invariant.told first es is_modelled old) (λ changes. c.drop_first.ensures.told first es is_modelled changes);
      happened = λ b es is_modelled project h. c.drop_first.ensures.happened b es is_modelled (project ∙ sym same) (c.loop-alloc.invariant.happened b es is_modelled project h);
    }
