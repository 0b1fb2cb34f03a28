use Rattle.std.proofs.Common.{◌∙◌, None, ap, inl, inr}
use Rattle.pb_place_types.specs.Children.{child_at}
use Rattle.pb_run.proofs.Changing.{changes_launched}
use Rattle.pb_run.proofs.Ending.{begun_after, lifted_after}
use Rattle.pb_run.proofs.Halving.{flies_lifted, flying_begun}
use Rattle.pb_run.proofs.Spawning.{launched_ahead, launched_gone, launched_held, launched_sound, launched_spawned}
use Rattle.pb_run.proofs.launching.launch.Goals as goal
use Rattle.pb_store_soundness.specs.Records.{reading}

pub returns-in-Ok-spawn_anew-clause-spawned : goal.returns-in-Ok-spawn_anew-clause-spawned
returns-in-Ok-spawn_anew-clause-spawned g c told =
    launched_spawned c.args.store.now.folder c.args.key.now c.args.out.now g.P.Place.child c.args.command.now (g.P.Place.at c.args.place.now).world (g.P.Place.at c.drop_record.new.place).world _ _ _ c.requires.lies
    c.in-Ok.ensures.only.only (c.in-Ok-spawn_anew.ensures.spawned told)

pub returns-in-Ok-spawn_anew-clause-writes : goal.returns-in-Ok-spawn_anew-clause-writes
returns-in-Ok-spawn_anew-clause-writes g c = c.in-Ok-spawn_anew.ensures.writes c.in-Ok.number

pub returns-in-Ok-spawn_anew-clause-record : goal.returns-in-Ok-spawn_anew-clause-record
returns-in-Ok-spawn_anew-clause-record g c told =
    let dropped = c.in-Ok.ensures.record told in
    record {
      sound = λ judge sound. launched_sound reading c.args.store.now.folder c.args.key.now c.args.out.now _ _ c.as_text.ensures.key c.requires.lies c.in-Ok-spawn_anew.ensures.only judge g.P.Place.child c.requires.path dropped.stands (dropped.sound judge sound);
      stands = launched_gone reading c.args.store.now.folder c.args.key.now c.args.out.now _ _ c.as_text.ensures.key c.requires.lies c.in-Ok-spawn_anew.ensures.only dropped.stands;
      ahead = λ ahead. launched_ahead reading c.args.store.now.folder c.args.key.now c.args.out.now _ _ c.as_text.ensures.key c.requires.lies c.in-Ok-spawn_anew.ensures.only _ (dropped.ahead ahead);
    }

pub returns-in-Err-spawn_anew-clause-record : goal.returns-in-Err-spawn_anew-clause-record
returns-in-Err-spawn_anew-clause-record g c told =
    let dropped = c.in-Ok.ensures.record told in
    record {
      sound = λ judge sound. launched_sound reading c.args.store.now.folder c.args.key.now c.args.out.now _ _ c.as_text.ensures.key c.requires.lies c.in-Err-spawn_anew.ensures.only judge g.P.Place.child c.requires.path dropped.stands (dropped.sound judge sound);
      stands = inl (launched_gone reading c.args.store.now.folder c.args.key.now c.args.out.now _ _ c.as_text.ensures.key c.requires.lies c.in-Err-spawn_anew.ensures.only dropped.stands);
      ahead = λ ahead. launched_ahead reading c.args.store.now.folder c.args.key.now c.args.out.now _ _ c.as_text.ensures.key c.requires.lies c.in-Err-spawn_anew.ensures.only _ (dropped.ahead ahead);
    }

pub returns-in-Ok-spawn_anew-clause-store : goal.returns-in-Ok-spawn_anew-clause-store
returns-in-Ok-spawn_anew-clause-store g c = record {
  folder = c.in-Ok.ensures.folder;
  next = inr (c.in-Ok.number, c.in-Ok.ensures.number.0, c.in-Ok.ensures.number.1);
  numbers = λ told. launched_held reading c.args.store.now.folder c.args.key.now c.args.out.now _ _ c.as_text.ensures.key c.requires.lies c.in-Ok-spawn_anew.ensures.only _ (c.in-Ok.ensures.record told).numbers;
}

pub returns-in-Ok-spawn_anew-clause-changes : goal.returns-in-Ok-spawn_anew-clause-changes
returns-in-Ok-spawn_anew-clause-changes g c =
    changes_launched _ _ _ c.args.store.now.folder c.args.key.now c.args.out.now (g.P.Place.at c.args.place.now) (g.P.Place.at c.drop_record.new.place) (g.P.Place.at c.spawn_anew.new.place) c.requires.lies c.in-Ok.ensures.only.only c.in-Ok.ensures.only.still c.in-Ok.ensures.only.takes.0
    c.in-Ok-spawn_anew.ensures.only c.in-Ok-spawn_anew.ensures.still (λ t f there. flies_lifted c.in-Ok-spawn_anew.ticket t _ _ f (c.in-Ok-spawn_anew.ensures.takes None).1 there)
    (lifted_after _ (g.P.Place.at c.args.place.now).counts (g.P.Place.at c.drop_record.new.place).counts (g.P.Place.at c.spawn_anew.new.place).counts c.in-Ok.ensures.only.takes.1 c.in-Ok.ensures.only.takes.0 (c.in-Ok-spawn_anew.ensures.takes c.args.store.now.next))

pub returns-in-Err-spawn_anew-clause-changes : goal.returns-in-Err-spawn_anew-clause-changes
returns-in-Err-spawn_anew-clause-changes g c =
    changes_launched _ _ _ c.args.store.now.folder c.args.key.now c.args.out.now (g.P.Place.at c.args.place.now) (g.P.Place.at c.drop_record.new.place) (g.P.Place.at c.spawn_anew.new.place) c.requires.lies c.in-Ok.ensures.only.only c.in-Ok.ensures.only.still c.in-Ok.ensures.only.takes.0
    c.in-Err-spawn_anew.ensures.only c.in-Err-spawn_anew.ensures.still (λ t f there. ap (child_at t) (flying_begun None _ _ _ (c.in-Err-spawn_anew.ensures.takes None).0) ∙ there)
    (begun_after _ _ (g.P.Place.at c.args.place.now).counts (g.P.Place.at c.drop_record.new.place).counts (g.P.Place.at c.spawn_anew.new.place).counts c.in-Ok.ensures.only.takes.1 c.in-Ok.ensures.only.takes.0 (c.in-Err-spawn_anew.ensures.takes c.args.store.now.next))
