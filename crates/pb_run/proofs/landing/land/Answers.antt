use Rattle.std.proofs.Common.{◌≡◌, ◌∙◌, ℕ, List, Err, Ok, Some, ap, inl, inr, refl, subst, sym}
use Rattle.std.proofs.lemmas.Bool.{false≢true}
use Rattle.pb_command.specs.Judge.{judge}
use Rattle.pb_place_types.specs.Children.{KeepsStillOutside}
use Rattle.pb_place_types.specs.Counts.{Starts, without}
use Rattle.pb_place_types.specs.Paths.{is_at_or_below}
use Rattle.pb_place_types.specs.World.{ChangesOnly}
use Rattle.pb_command_types.specs.Targets.{dep_info_of}
use Rattle.pb_run.specs.UnitSteps.{build_context, needed_keys}
use Rattle.pb_run.specs.Running.{dep_info_looked}
use Rattle.pb_run.specs.Invariants.{records_folder}
use Rattle.pb_run.specs.declared.begun.Awaited.TheVariants as awaited
use Rattle.pb_run.specs.declared.faults.StepFault.TheVariants as step
use Rattle.pb_run.specs.declared.ran.Validated.{Validated}
use Rattle.pb_run.proofs.Building.{land_bad, land_failed, land_kept, land_unkept}
use Rattle.pb_run.proofs.Causing.{keep_told}
use Rattle.pb_run.proofs.Changing.{at_record, changes_ended, changes_kept}
use Rattle.pb_run.proofs.Ending.{landed_more, landed_told}
use Rattle.pb_run.proofs.Halving.{out_lies, still_after}
use Rattle.pb_run.proofs.Held.{numbers_landed}
use Rattle.pb_run.proofs.Kept.{flying_answer, flying_follow, pairs_sorted}
use Rattle.pb_run.proofs.Left.{record_kept}
use Rattle.pb_run.proofs.Reusing.{no_child}
use Rattle.pb_run.proofs.Settling.{Keeping, keeping_moved, stands_moved}
use Rattle.pb_run.proofs.Stepping.{bad_made, ended_well, good_made, good_stops, kept_so, memory_last, stops_first, store_stops}
use Rattle.pb_run.proofs.Writes.{ended_anyway, ended_only, none_changed}
use Rattle.pb_run.proofs.landing.land.Goals as goal
use Rattle.pb_store_soundness.specs.Records.{out_of, record_path}
use Rattle.pb_store.specs.declared.fault.StoreFault.TheVariants as store

-- The child gave no answer.

pub returns-in-Err-clause-ends : goal.returns-in-Err-clause-ends
returns-in-Err-clause-ends g c = record {
  lands = λ told. let (fault, ended, is) = c.in-Err.ensures.ended told in
      (Err fault, record { world = (g.P.Place.at c.finish.new.place).world; counts = (g.P.Place.at c.finish.new.place).counts; ends = ended; comes = (none_changed _ (g.P.Place.at c.finish.new.place).world (g.P.Place.at c.finish.new.place).world refl, (refl, is)) });
  same = λ told none. no_child c.args.launched.now _ none;
  untaken = λ none. refl;
  most = c.in-Err.ensures.most;
}

pub returns-in-Err-clause-build : goal.returns-in-Err-clause-build
returns-in-Err-clause-build g c premise setup sources told =
    land_failed (build_context premise g.P.Place.child setup c.args.project.now sources) c.is_in_order.ensures c.args.index c.args.unit.now c.requires.unit c.args.command.now c.args.launched.now c.args.store.now.next (g.P.Place.at c.args.place.now) (g.P.Place.at c.finish.new.place)
    c.in-Err.ensures.only c.in-Err.ensures.still (g.P.Place.at c.finish.new.place) refl (λ t stood. stood)
    (flying_answer c.args.store.now.next c.args.launched.now c.in-Err.fault (g.P.Place.at c.args.place.now).counts.starts (g.P.Place.at c.finish.new.place).counts.starts (c.in-Err.ensures.takes c.args.store.now.next).0) c.in-Err.fault

pub returns-in-Err-clause-changes : goal.returns-in-Err-clause-changes
returns-in-Err-clause-changes g c =
    changes_ended _ _ _ (records_folder c.args.project.now) c.args.unit.now.key c.args.unit.now.out (c.is_in_order.ensures.folders c.args.index c.args.unit.now c.requires.unit) c.args.launched.now (g.P.Place.at c.args.place.now) (g.P.Place.at c.finish.new.place) c.requires.flies c.requires.writes
    c.in-Err.ensures.only c.in-Err.ensures.still (g.P.Place.at c.finish.new.place) refl (λ t stood. stood)
    (flying_answer c.args.store.now.next c.args.launched.now c.in-Err.fault (g.P.Place.at c.args.place.now).counts.starts (g.P.Place.at c.finish.new.place).counts.starts (c.in-Err.ensures.takes c.args.store.now.next).0) (c.in-Err.ensures.takes c.args.store.now.next)

-- Its dep-info could not be read.

pub returns-in-Err-judged_now-clause-ends : goal.returns-in-Err-judged_now-clause-ends
returns-in-Err-judged_now-clause-ends g c = record {
  lands = λ told. (
    Ok c.in-Ok.ended,
    record {
      world = (g.P.Place.at c.finish.new.place).world;
      counts = (g.P.Place.at c.finish.new.place).counts;
      ends = ended_anyway _ _ _ _ _ (g.P.Place.at c.args.place.now).world (g.P.Place.at c.finish.new.place).world (g.P.Place.at c.args.place.now).counts (g.P.Place.at c.finish.new.place).counts (λ wrong. absurd (false≢true wrong)) (c.in-Ok.ensures.ended told);
      comes = (
        none_changed _ (g.P.Place.at c.finish.new.place).world (g.P.Place.at c.judged_now.new.place).world c.in-Err-judged_now.ensures.quiet.world,
        stops_first c.in-Err-judged_now.fault (dep_info_looked (dep_info_of c.args.project.now c.args.unit.now)) _ (g.P.Place.at c.finish.new.place).counts (g.P.Place.at c.judged_now.new.place).counts c.in-Err-judged_now.ensures.calls,
      );
    },
  );
  same = λ told none. no_child c.args.launched.now _ none;
  untaken = λ none. refl;
  most = c.in-Err-judged_now.ensures.quiet.most ∙ c.in-Ok.ensures.most;
}

pub returns-in-Err-judged_now-clause-build : goal.returns-in-Err-judged_now-clause-build
returns-in-Err-judged_now-clause-build g c premise setup sources told =
    land_failed (build_context premise g.P.Place.child setup c.args.project.now sources) c.is_in_order.ensures c.args.index c.args.unit.now c.requires.unit c.args.command.now c.args.launched.now c.args.store.now.next (g.P.Place.at c.args.place.now) (g.P.Place.at c.finish.new.place)
    c.in-Ok.ensures.only c.in-Ok.ensures.still (g.P.Place.at c.judged_now.new.place) c.in-Err-judged_now.ensures.quiet.world c.in-Err-judged_now.ensures.quiet.still
    (flying_follow c.in-Err-judged_now.fault (g.P.Place.at c.finish.new.place).counts.starts (g.P.Place.at c.judged_now.new.place).counts.starts c.in-Err-judged_now.ensures.quiet.takes.0 ∙ ap (λ (s : Starts). s.flying) (c.in-Ok.ensures.takes c.args.store.now.next).1) c.in-Err-judged_now.fault

pub returns-in-Err-judged_now-clause-changes : goal.returns-in-Err-judged_now-clause-changes
returns-in-Err-judged_now-clause-changes g c =
    changes_ended _ _ _ (records_folder c.args.project.now) c.args.unit.now.key c.args.unit.now.out (c.is_in_order.ensures.folders c.args.index c.args.unit.now c.requires.unit) c.args.launched.now (g.P.Place.at c.args.place.now) (g.P.Place.at c.finish.new.place) c.requires.flies c.requires.writes
    c.in-Ok.ensures.only c.in-Ok.ensures.still (g.P.Place.at c.judged_now.new.place) c.in-Err-judged_now.ensures.quiet.world c.in-Err-judged_now.ensures.quiet.still
    (flying_follow c.in-Err-judged_now.fault (g.P.Place.at c.finish.new.place).counts.starts (g.P.Place.at c.judged_now.new.place).counts.starts c.in-Err-judged_now.ensures.quiet.takes.0 ∙ ap (λ (s : Starts). s.flying) (c.in-Ok.ensures.takes c.args.store.now.next).1)
    (landed_told c.args.store.now.next c.args.launched.now c.in-Err-judged_now.fault (g.P.Place.at c.args.place.now).counts (g.P.Place.at c.finish.new.place).counts (g.P.Place.at c.judged_now.new.place).counts (c.in-Ok.ensures.takes c.args.store.now.next) c.in-Err-judged_now.ensures.quiet.takes)

-- The unit is bad.

pub returns-then-is_some-clause-answers : goal.returns-then-is_some-clause-answers
returns-then-is_some-clause-answers g c = record {
  started = c.in-Ok-judged_now.ensures.started;
  directives = c.in-Ok-judged_now.ensures.directives;
  judged = λ told. (
    c.in-Ok.ended,
    record {
      world = (g.P.Place.at c.finish.new.place).world;
      counts = (g.P.Place.at c.finish.new.place).counts;
      ends = c.in-Ok.ensures.ended told;
      comes = ap (λ (j : Validated). j.ran) (c.in-Ok-judged_now.ensures.judged told);
    },
  );
  kept = λ told good. absurd (false≢true (sym good ∙ (sym c.is_some.ensures ∙ c.if-is_some.true)));
  unkept = λ bad. subst (ChangesOnly (is_at_or_below c.args.unit.now.out) (g.P.Place.at c.args.place.now).world) (sym c.in-Ok-judged_now.ensures.quiet.world)
      (ended_only c.args.unit.now.out c.args.launched.now (g.P.Place.at c.args.place.now).counts.starts.flying (g.P.Place.at c.args.place.now).world (g.P.Place.at c.finish.new.place).world c.requires.flies c.requires.writes c.in-Ok.ensures.only);
  bad = λ bad. refl;
  taken = λ told waits lacks good. absurd (false≢true waits);
}

pub returns-then-is_some-clause-ends : goal.returns-then-is_some-clause-ends
returns-then-is_some-clause-ends g c = record {
  lands = λ told. (
    Ok c.in-Ok.ended,
    record {
      world = (g.P.Place.at c.finish.new.place).world;
      counts = (g.P.Place.at c.finish.new.place).counts;
      ends = c.in-Ok.ensures.ended told;
      comes = (
        none_changed _ (g.P.Place.at c.finish.new.place).world (g.P.Place.at c.judged_now.new.place).world c.in-Ok-judged_now.ensures.quiet.world,
        bad_made c.args.project.now c.args.unit.now c.args.command.now (awaited.Child c.args.launched.now) (g.P.Place.at c.finish.new.place).world c.in-Ok.ended c.in-Ok-judged_now.judgement (c.in-Ok-judged_now.ensures.judged told) (g.P.Place.at c.finish.new.place).counts (g.P.Place.at c.judged_now.new.place).counts c.in-Ok-judged_now.ensures.calls
            (sym c.is_some.ensures ∙ c.if-is_some.true),
      );
    },
  );
  same = λ told none. no_child c.args.launched.now _ none;
  untaken = λ none. refl;
  most = c.in-Ok-judged_now.ensures.quiet.most ∙ c.in-Ok.ensures.most;
}

pub returns-then-is_some-clause-build : goal.returns-then-is_some-clause-build
returns-then-is_some-clause-build g c premise setup sources told =
    land_bad (build_context premise g.P.Place.child setup c.args.project.now sources) c.is_in_order.ensures c.args.index c.args.unit.now c.requires.unit c.args.command.now c.args.launched.now c.args.store.now.next (g.P.Place.at c.args.place.now) (g.P.Place.at c.finish.new.place)
    c.in-Ok.ensures.only c.in-Ok.ensures.still c.in-Ok.ended c.in-Ok-judged_now.judgement (c.in-Ok.ensures.ended told).lands (c.in-Ok-judged_now.ensures.judged told) (g.P.Place.at c.judged_now.new.place) c.in-Ok-judged_now.ensures.quiet.world c.in-Ok-judged_now.ensures.quiet.still
    (ap (λ (s : Starts). s.flying) (c.in-Ok-judged_now.ensures.quiet.takes.1 ∙ (c.in-Ok.ensures.takes c.args.store.now.next).1)) (sym c.is_some.ensures ∙ c.if-is_some.true)

pub returns-then-is_some-clause-store : goal.returns-then-is_some-clause-store
returns-then-is_some-clause-store g c = record {
  folder = refl;
  next = inl refl;
  numbers = λ told. numbers_landed c.args.project.now c.is_in_order.ensures c.args.index c.args.unit.now c.requires.unit c.args.store.now.folder c.requires.folder c.args.launched.now (g.P.Place.at c.args.place.now).counts.starts.flying c.requires.flies c.requires.writes (g.P.Place.at c.args.place.now).world (g.P.Place.at c.finish.new.place).world (g.P.Place.at c.judged_now.new.place).world c.in-Ok.ensures.only
      c.in-Ok-judged_now.ensures.quiet.world c.args.store.now.numbers (c.requires.numbers told);
}

pub returns-then-is_some-clause-changes : goal.returns-then-is_some-clause-changes
returns-then-is_some-clause-changes g c =
    changes_ended _ _ _ (records_folder c.args.project.now) c.args.unit.now.key c.args.unit.now.out (c.is_in_order.ensures.folders c.args.index c.args.unit.now c.requires.unit) c.args.launched.now (g.P.Place.at c.args.place.now) (g.P.Place.at c.finish.new.place) c.requires.flies c.requires.writes
    c.in-Ok.ensures.only c.in-Ok.ensures.still (g.P.Place.at c.judged_now.new.place) c.in-Ok-judged_now.ensures.quiet.world c.in-Ok-judged_now.ensures.quiet.still
    (ap (λ (s : Starts). s.flying) (c.in-Ok-judged_now.ensures.quiet.takes.1 ∙ (c.in-Ok.ensures.takes c.args.store.now.next).1))
    (c.in-Ok-judged_now.ensures.quiet.takes.0 ∙ (c.in-Ok.ensures.takes c.args.store.now.next).0, c.in-Ok-judged_now.ensures.quiet.takes.1 ∙ (c.in-Ok.ensures.takes c.args.store.now.next).1)

-- No memory for the keys of the needed units.

pub returns-in-Err-needed_keys-clause-ends : goal.returns-in-Err-needed_keys-clause-ends
returns-in-Err-needed_keys-clause-ends g c = record {
  lands = λ told. (
    Ok c.in-Ok.ended,
    record {
      world = (g.P.Place.at c.finish.new.place).world;
      counts = (g.P.Place.at c.finish.new.place).counts;
      ends = ended_anyway _ _ _ _ _ (g.P.Place.at c.args.place.now).world (g.P.Place.at c.finish.new.place).world (g.P.Place.at c.args.place.now).counts (g.P.Place.at c.finish.new.place).counts (λ wrong. absurd (false≢true wrong)) (c.in-Ok.ensures.ended told);
      comes = (
        none_changed _ (g.P.Place.at c.finish.new.place).world (g.P.Place.at c.judged_now.new.place).world c.in-Ok-judged_now.ensures.quiet.world,
        stops_first (step.Store store.OutOfMemory) (dep_info_looked (dep_info_of c.args.project.now c.args.unit.now)) _ (g.P.Place.at c.finish.new.place).counts (g.P.Place.at c.judged_now.new.place).counts (memory_last (dep_info_looked (dep_info_of c.args.project.now c.args.unit.now)) (g.P.Place.at c.finish.new.place).counts (g.P.Place.at c.judged_now.new.place).counts c.in-Ok-judged_now.ensures.calls),
      );
    },
  );
  same = λ told none. no_child c.args.launched.now _ none;
  untaken = λ none. refl;
  most = c.in-Ok-judged_now.ensures.quiet.most ∙ c.in-Ok.ensures.most;
}

pub returns-in-Err-needed_keys-clause-build : goal.returns-in-Err-needed_keys-clause-build
returns-in-Err-needed_keys-clause-build g c premise setup sources told =
    land_failed (build_context premise g.P.Place.child setup c.args.project.now sources) c.is_in_order.ensures c.args.index c.args.unit.now c.requires.unit c.args.command.now c.args.launched.now c.args.store.now.next (g.P.Place.at c.args.place.now) (g.P.Place.at c.finish.new.place)
    c.in-Ok.ensures.only c.in-Ok.ensures.still (g.P.Place.at c.judged_now.new.place) c.in-Ok-judged_now.ensures.quiet.world c.in-Ok-judged_now.ensures.quiet.still
    (ap (λ (s : Starts). s.flying) (c.in-Ok-judged_now.ensures.quiet.takes.1 ∙ (c.in-Ok.ensures.takes c.args.store.now.next).1)) _

pub returns-in-Err-needed_keys-clause-changes : goal.returns-in-Err-needed_keys-clause-changes
returns-in-Err-needed_keys-clause-changes g c =
    changes_ended _ _ _ (records_folder c.args.project.now) c.args.unit.now.key c.args.unit.now.out (c.is_in_order.ensures.folders c.args.index c.args.unit.now c.requires.unit) c.args.launched.now (g.P.Place.at c.args.place.now) (g.P.Place.at c.finish.new.place) c.requires.flies c.requires.writes
    c.in-Ok.ensures.only c.in-Ok.ensures.still (g.P.Place.at c.judged_now.new.place) c.in-Ok-judged_now.ensures.quiet.world c.in-Ok-judged_now.ensures.quiet.still
    (ap (λ (s : Starts). s.flying) (c.in-Ok-judged_now.ensures.quiet.takes.1 ∙ (c.in-Ok.ensures.takes c.args.store.now.next).1))
    (c.in-Ok-judged_now.ensures.quiet.takes.1 ∙ (c.in-Ok.ensures.takes c.args.store.now.next).1, c.in-Ok-judged_now.ensures.quiet.takes.0 ∙ (c.in-Ok.ensures.takes c.args.store.now.next).0)

-- The record is to be kept.

pub keep-requires-clause-out : goal.keep-requires-clause-out
keep-requires-clause-out g c =
    subst (λ (k : List ℕ). c.args.command.now.out ≡ Some (out_of c.args.store.now.folder k)) (sym c.requires.key)
    (out_lies c.args.project.now c.args.index c.args.unit.now c.args.store.now.folder c.args.command.now c.is_in_order.ensures c.requires.unit c.requires.folder c.requires.asks)

pub keep-requires-clause-sorted : goal.keep-requires-clause-sorted
keep-requires-clause-sorted g c = pairs_sorted c.args.project.now c.args.unit.now c.args.command.now c.requires.asks

pub keep-requires-clause-numbers : goal.keep-requires-clause-numbers
keep-requires-clause-numbers g c told =
    numbers_landed c.args.project.now c.is_in_order.ensures c.args.index c.args.unit.now c.requires.unit c.args.store.now.folder c.requires.folder c.args.launched.now (g.P.Place.at c.args.place.now).counts.starts.flying c.requires.flies c.requires.writes (g.P.Place.at c.args.place.now).world (g.P.Place.at c.finish.new.place).world (g.P.Place.at c.judged_now.new.place).world c.in-Ok.ensures.only
    c.in-Ok-judged_now.ensures.quiet.world c.args.store.now.numbers (c.requires.numbers told)

pub returns-in-Ok-keep-clause-answers : goal.returns-in-Ok-keep-clause-answers
returns-in-Ok-keep-clause-answers g c = record {
  started = c.in-Ok-judged_now.ensures.started;
  directives = c.in-Ok-judged_now.ensures.directives;
  judged = λ told. (
    c.in-Ok.ended,
    record {
      world = (g.P.Place.at c.finish.new.place).world;
      counts = (g.P.Place.at c.finish.new.place).counts;
      ends = c.in-Ok.ensures.ended told;
      comes = ap (λ (j : Validated). j.ran) (c.in-Ok-judged_now.ensures.judged told);
    },
  );
  kept = λ told good. (
    c.in-Ok.ended,
    record {
      world = (g.P.Place.at c.finish.new.place).world;
      counts = (g.P.Place.at c.finish.new.place).counts;
      ends = c.in-Ok.ensures.ended told;
      comes = record_kept c.args.project.now c.args.unit.now c.args.command.now (g.P.Place.at c.finish.new.place).world (g.P.Place.at c.keep.new.place).world c.in-Ok.ended c.args.launched.now.number c.in-Ok-judged_now.judgement (c.in-Ok-judged_now.ensures.judged told)
          (stands_moved g.P.Place.child c.args.store.now.folder (records_folder c.args.project.now) c.args.key.now c.args.unit.now.key c.as_slice.result.now (needed_keys c.args.project.now c.args.unit.now) c.args.command.now c.args.launched.now.number c.as_slice-2.result.now c.in-Ok-judged_now.judgement.names c.in-Ok.ended (g.P.Place.at c.judged_now.new.place).world (g.P.Place.at c.finish.new.place).world (g.P.Place.at c.keep.new.place).world c.requires.folder c.requires.key (c.as_slice.ensures ∙ c.in-Ok-needed_keys.ensures) c.as_slice-2.ensures c.in-Ok-judged_now.ensures.quiet.world
          (c.in-Ok-keep.ensures.record told).stands);
    },
  );
  unkept = λ bad. absurd (false≢true (sym (sym c.is_some.ensures ∙ c.if-is_some.false) ∙ bad));
  bad = λ bad. c.in-Ok-keep.ensures.next;
  taken = λ told waits lacks good. absurd (false≢true waits);
}

pub returns-in-Ok-keep-clause-ends : goal.returns-in-Ok-keep-clause-ends
returns-in-Ok-keep-clause-ends g c = record {
  lands = λ told.
      let keeping : Keeping g.P.Place.child (records_folder c.args.project.now) c.args.unit.now.key (needed_keys c.args.project.now c.args.unit.now) c.args.command.now c.args.launched.now.number c.in-Ok-judged_now.judgement.names c.in-Ok.ended c.args.store.now.next (g.P.Place.at c.finish.new.place).world (g.P.Place.at c.keep.new.place).world =
      keeping_moved g.P.Place.child c.args.store.now.folder (records_folder c.args.project.now) c.args.key.now c.args.unit.now.key c.as_slice.result.now (needed_keys c.args.project.now c.args.unit.now) c.args.command.now c.args.launched.now.number c.as_slice-2.result.now c.in-Ok-judged_now.judgement.names c.in-Ok.ended (g.P.Place.at c.judged_now.new.place).world (g.P.Place.at c.finish.new.place).world (g.P.Place.at c.keep.new.place).world c.requires.folder c.requires.key (c.as_slice.ensures ∙ c.in-Ok-needed_keys.ensures) c.as_slice-2.ensures c.in-Ok-judged_now.ensures.quiet.world c.args.store.now.next
      record { sound = (c.in-Ok-keep.ensures.record told).sound judge; ahead = (c.in-Ok-keep.ensures.record told).ahead; left = inr (inr (c.in-Ok-keep.ensures.record told).stands); only = c.in-Ok-keep.ensures.only.only } in (
        Ok c.in-Ok.ended,
        record {
          world = (g.P.Place.at c.finish.new.place).world;
          counts = (g.P.Place.at c.finish.new.place).counts;
          ends = c.in-Ok.ensures.ended told;
          comes = (
            keeping.only,
            good_made c.args.project.now c.args.unit.now c.args.command.now (awaited.Child c.args.launched.now) (g.P.Place.at c.finish.new.place).world c.in-Ok.ended c.in-Ok-judged_now.judgement (c.in-Ok-judged_now.ensures.judged told) (g.P.Place.at c.finish.new.place).counts (g.P.Place.at c.judged_now.new.place).counts c.in-Ok-judged_now.ensures.calls
                (ended_well c.in-Ok-judged_now.judgement.ran) _ (g.P.Place.at c.keep.new.place).counts (sym c.is_some.ensures ∙ c.if-is_some.false)
                (kept_so c.args.project.now c.args.unit.now c.args.command.now c.args.launched.now c.args.store.now.folder c.args.key.now (g.P.Place.at c.judged_now.new.place).world (g.P.Place.at c.finish.new.place).world c.as_slice-2.result.now c.in-Ok-judged_now.judgement.names c.requires.folder c.requires.key c.in-Ok-judged_now.ensures.quiet.world c.as_slice-2.ensures) (c.in-Ok-keep.ensures.calls told),
          );
        },
      );
  same = λ told none. no_child c.args.launched.now _ none;
  untaken = λ none. c.in-Ok-keep.ensures.next;
  most = c.in-Ok-keep.ensures.only.most ∙ c.in-Ok-judged_now.ensures.quiet.most ∙ c.in-Ok.ensures.most;
}

pub returns-in-Ok-keep-clause-build : goal.returns-in-Ok-keep-clause-build
returns-in-Ok-keep-clause-build g c premise setup sources told =
    let keeping : Keeping g.P.Place.child (records_folder c.args.project.now) c.args.unit.now.key (needed_keys c.args.project.now c.args.unit.now) c.args.command.now c.args.launched.now.number c.in-Ok-judged_now.judgement.names c.in-Ok.ended c.args.store.now.next (g.P.Place.at c.finish.new.place).world (g.P.Place.at c.keep.new.place).world =
    keeping_moved g.P.Place.child c.args.store.now.folder (records_folder c.args.project.now) c.args.key.now c.args.unit.now.key c.as_slice.result.now (needed_keys c.args.project.now c.args.unit.now) c.args.command.now c.args.launched.now.number c.as_slice-2.result.now c.in-Ok-judged_now.judgement.names c.in-Ok.ended (g.P.Place.at c.judged_now.new.place).world (g.P.Place.at c.finish.new.place).world (g.P.Place.at c.keep.new.place).world c.requires.folder c.requires.key (c.as_slice.ensures ∙ c.in-Ok-needed_keys.ensures) c.as_slice-2.ensures c.in-Ok-judged_now.ensures.quiet.world c.args.store.now.next
    record { sound = (c.in-Ok-keep.ensures.record told).sound judge; ahead = (c.in-Ok-keep.ensures.record told).ahead; left = inr (inr (c.in-Ok-keep.ensures.record told).stands); only = c.in-Ok-keep.ensures.only.only } in
    land_kept (build_context premise g.P.Place.child setup c.args.project.now sources) c.is_in_order.ensures c.args.index c.args.unit.now c.requires.unit c.args.command.now c.args.launched.now c.args.store.now.next (g.P.Place.at c.args.place.now) (g.P.Place.at c.finish.new.place)
    c.in-Ok.ensures.only c.in-Ok.ensures.still c.in-Ok.ended c.in-Ok-judged_now.judgement (c.in-Ok.ensures.ended told).lands (c.in-Ok-judged_now.ensures.judged told) (sym c.is_some.ensures ∙ c.if-is_some.false) (g.P.Place.at c.keep.new.place) keeping (ap (λ (s : Starts). s.flying) (c.in-Ok-keep.ensures.only.takes.0 ∙ c.in-Ok-judged_now.ensures.quiet.takes.1 ∙ (c.in-Ok.ensures.takes c.args.store.now.next).1))
    (still_after (is_at_or_below (record_path (records_folder c.args.project.now) c.args.unit.now.key)) (without c.args.launched.now.ticket (g.P.Place.at c.args.place.now).counts.starts.flying) (g.P.Place.at c.judged_now.new.place).counts.starts.flying (g.P.Place.at c.finish.new.place).still (g.P.Place.at c.judged_now.new.place).still (g.P.Place.at c.keep.new.place).still c.in-Ok-judged_now.ensures.quiet.still (ap (λ (s : Starts). s.flying) (c.in-Ok-judged_now.ensures.quiet.takes.1 ∙ (c.in-Ok.ensures.takes c.args.store.now.next).1))
    (at_record (λ p. KeepsStillOutside (is_at_or_below p) (g.P.Place.at c.judged_now.new.place).counts.starts.flying (g.P.Place.at c.judged_now.new.place).still (g.P.Place.at c.keep.new.place).still) c.args.store.now.folder (records_folder c.args.project.now) c.args.key.now c.args.unit.now.key c.requires.folder c.requires.key c.in-Ok-keep.ensures.only.still)) c.keep.new.self.next c.in-Ok-keep.ensures.next
    (stands_moved g.P.Place.child c.args.store.now.folder (records_folder c.args.project.now) c.args.key.now c.args.unit.now.key c.as_slice.result.now (needed_keys c.args.project.now c.args.unit.now) c.args.command.now c.args.launched.now.number c.as_slice-2.result.now c.in-Ok-judged_now.judgement.names c.in-Ok.ended (g.P.Place.at c.judged_now.new.place).world (g.P.Place.at c.finish.new.place).world (g.P.Place.at c.keep.new.place).world c.requires.folder c.requires.key (c.as_slice.ensures ∙ c.in-Ok-needed_keys.ensures) c.as_slice-2.ensures c.in-Ok-judged_now.ensures.quiet.world
    (c.in-Ok-keep.ensures.record told).stands)

pub returns-in-Ok-keep-clause-changes : goal.returns-in-Ok-keep-clause-changes
returns-in-Ok-keep-clause-changes g c =
    changes_kept _ _ _ (records_folder c.args.project.now) c.args.unit.now.key c.args.unit.now.out (c.is_in_order.ensures.folders c.args.index c.args.unit.now c.requires.unit) c.args.launched.now (g.P.Place.at c.args.place.now) (g.P.Place.at c.finish.new.place) c.requires.flies c.requires.writes
    c.in-Ok.ensures.only c.in-Ok.ensures.still (g.P.Place.at c.judged_now.new.place) (g.P.Place.at c.keep.new.place) c.in-Ok-judged_now.ensures.quiet.world c.in-Ok-judged_now.ensures.quiet.still (ap (λ (s : Starts). s.flying) (c.in-Ok-judged_now.ensures.quiet.takes.1 ∙ (c.in-Ok.ensures.takes c.args.store.now.next).1))
    (at_record (λ p. ChangesOnly (is_at_or_below p) (g.P.Place.at c.judged_now.new.place).world (g.P.Place.at c.keep.new.place).world) c.args.store.now.folder (records_folder c.args.project.now) c.args.key.now c.args.unit.now.key c.requires.folder c.requires.key c.in-Ok-keep.ensures.only.only)
    (at_record (λ p. KeepsStillOutside (is_at_or_below p) (g.P.Place.at c.judged_now.new.place).counts.starts.flying (g.P.Place.at c.judged_now.new.place).still (g.P.Place.at c.keep.new.place).still) c.args.store.now.folder (records_folder c.args.project.now) c.args.key.now c.args.unit.now.key c.requires.folder c.requires.key c.in-Ok-keep.ensures.only.still)
    c.in-Ok-keep.ensures.only.takes.0
    (c.in-Ok-keep.ensures.only.takes.1 ∙ c.in-Ok-judged_now.ensures.quiet.takes.0 ∙ (c.in-Ok.ensures.takes c.args.store.now.next).0, c.in-Ok-keep.ensures.only.takes.0 ∙ c.in-Ok-judged_now.ensures.quiet.takes.1 ∙ (c.in-Ok.ensures.takes c.args.store.now.next).1)

-- It could not be.

pub returns-clause-ends : goal.returns-clause-ends
returns-clause-ends g c = record {
  lands = λ told.
      let keeping : Keeping g.P.Place.child (records_folder c.args.project.now) c.args.unit.now.key (needed_keys c.args.project.now c.args.unit.now) c.args.command.now c.args.launched.now.number c.in-Ok-judged_now.judgement.names c.in-Ok.ended c.args.store.now.next (g.P.Place.at c.finish.new.place).world (g.P.Place.at c.keep.new.place).world =
      keeping_moved g.P.Place.child c.args.store.now.folder (records_folder c.args.project.now) c.args.key.now c.args.unit.now.key c.as_slice.result.now (needed_keys c.args.project.now c.args.unit.now) c.args.command.now c.args.launched.now.number c.as_slice-2.result.now c.in-Ok-judged_now.judgement.names c.in-Ok.ended (g.P.Place.at c.judged_now.new.place).world (g.P.Place.at c.finish.new.place).world (g.P.Place.at c.keep.new.place).world c.requires.folder c.requires.key (c.as_slice.ensures ∙ c.in-Ok-needed_keys.ensures) c.as_slice-2.ensures c.in-Ok-judged_now.ensures.quiet.world c.args.store.now.next
      record { sound = (c.in-Err-keep.ensures.record told).sound judge; ahead = (c.in-Err-keep.ensures.record told).ahead; left = (c.in-Err-keep.ensures.record told).stands; only = c.in-Err-keep.ensures.only.only } in (
        Ok c.in-Ok.ended,
        record {
          world = (g.P.Place.at c.finish.new.place).world;
          counts = (g.P.Place.at c.finish.new.place).counts;
          ends = ended_anyway _ _ _ _ _ (g.P.Place.at c.args.place.now).world (g.P.Place.at c.finish.new.place).world (g.P.Place.at c.args.place.now).counts (g.P.Place.at c.finish.new.place).counts (λ wrong. absurd (false≢true wrong)) (c.in-Ok.ensures.ended told);
          comes = (
            keeping.only,
            good_stops c.args.project.now c.args.unit.now c.args.command.now (awaited.Child c.args.launched.now) (g.P.Place.at c.finish.new.place).world c.in-Ok.ended c.in-Ok-judged_now.judgement (c.in-Ok-judged_now.ensures.judged told) (g.P.Place.at c.finish.new.place).counts (g.P.Place.at c.judged_now.new.place).counts c.in-Ok-judged_now.ensures.calls
                (step.Store c.in-Err-keep.fault) _ (g.P.Place.at c.keep.new.place).counts (sym c.is_some.ensures ∙ c.if-is_some.false)
                (kept_so c.args.project.now c.args.unit.now c.args.command.now c.args.launched.now c.args.store.now.folder c.args.key.now (g.P.Place.at c.judged_now.new.place).world (g.P.Place.at c.finish.new.place).world c.as_slice-2.result.now c.in-Ok-judged_now.judgement.names c.requires.folder c.requires.key c.in-Ok-judged_now.ensures.quiet.world c.as_slice-2.ensures) (store_stops c.in-Err-keep.fault _ (g.P.Place.at c.judged_now.new.place).counts (g.P.Place.at c.keep.new.place).counts (c.in-Err-keep.ensures.calls told)),
          );
        },
      );
  same = λ told none. no_child c.args.launched.now _ none;
  untaken = λ none. c.in-Err-keep.ensures.next;
  most = c.in-Err-keep.ensures.only.most ∙ c.in-Ok-judged_now.ensures.quiet.most ∙ c.in-Ok.ensures.most;
}

pub returns-clause-build : goal.returns-clause-build
returns-clause-build g c premise setup sources told =
    let keeping : Keeping g.P.Place.child (records_folder c.args.project.now) c.args.unit.now.key (needed_keys c.args.project.now c.args.unit.now) c.args.command.now c.args.launched.now.number c.in-Ok-judged_now.judgement.names c.in-Ok.ended c.args.store.now.next (g.P.Place.at c.finish.new.place).world (g.P.Place.at c.keep.new.place).world =
    keeping_moved g.P.Place.child c.args.store.now.folder (records_folder c.args.project.now) c.args.key.now c.args.unit.now.key c.as_slice.result.now (needed_keys c.args.project.now c.args.unit.now) c.args.command.now c.args.launched.now.number c.as_slice-2.result.now c.in-Ok-judged_now.judgement.names c.in-Ok.ended (g.P.Place.at c.judged_now.new.place).world (g.P.Place.at c.finish.new.place).world (g.P.Place.at c.keep.new.place).world c.requires.folder c.requires.key (c.as_slice.ensures ∙ c.in-Ok-needed_keys.ensures) c.as_slice-2.ensures c.in-Ok-judged_now.ensures.quiet.world c.args.store.now.next
    record { sound = (c.in-Err-keep.ensures.record told).sound judge; ahead = (c.in-Err-keep.ensures.record told).ahead; left = (c.in-Err-keep.ensures.record told).stands; only = c.in-Err-keep.ensures.only.only } in
    land_unkept (build_context premise g.P.Place.child setup c.args.project.now sources) c.is_in_order.ensures c.args.index c.args.unit.now c.requires.unit c.args.command.now c.args.launched.now c.args.store.now.next (g.P.Place.at c.args.place.now) (g.P.Place.at c.finish.new.place)
    c.in-Ok.ensures.only c.in-Ok.ensures.still c.in-Ok.ended c.in-Ok-judged_now.judgement (c.in-Ok.ensures.ended told).lands (c.in-Ok-judged_now.ensures.judged told) (sym c.is_some.ensures ∙ c.if-is_some.false) (g.P.Place.at c.keep.new.place) keeping (ap (λ (s : Starts). s.flying) (c.in-Err-keep.ensures.only.takes.0 ∙ c.in-Ok-judged_now.ensures.quiet.takes.1 ∙ (c.in-Ok.ensures.takes c.args.store.now.next).1))
    (still_after (is_at_or_below (record_path (records_folder c.args.project.now) c.args.unit.now.key)) (without c.args.launched.now.ticket (g.P.Place.at c.args.place.now).counts.starts.flying) (g.P.Place.at c.judged_now.new.place).counts.starts.flying (g.P.Place.at c.finish.new.place).still (g.P.Place.at c.judged_now.new.place).still (g.P.Place.at c.keep.new.place).still c.in-Ok-judged_now.ensures.quiet.still (ap (λ (s : Starts). s.flying) (c.in-Ok-judged_now.ensures.quiet.takes.1 ∙ (c.in-Ok.ensures.takes c.args.store.now.next).1))
    (at_record (λ p. KeepsStillOutside (is_at_or_below p) (g.P.Place.at c.judged_now.new.place).counts.starts.flying (g.P.Place.at c.judged_now.new.place).still (g.P.Place.at c.keep.new.place).still) c.args.store.now.folder (records_folder c.args.project.now) c.args.key.now c.args.unit.now.key c.requires.folder c.requires.key c.in-Err-keep.ensures.only.still)) c.keep.new.self.next c.in-Err-keep.ensures.next (step.Store c.in-Err-keep.fault)

pub returns-clause-changes : goal.returns-clause-changes
returns-clause-changes g c =
    changes_kept _ _ _ (records_folder c.args.project.now) c.args.unit.now.key c.args.unit.now.out (c.is_in_order.ensures.folders c.args.index c.args.unit.now c.requires.unit) c.args.launched.now (g.P.Place.at c.args.place.now) (g.P.Place.at c.finish.new.place) c.requires.flies c.requires.writes
    c.in-Ok.ensures.only c.in-Ok.ensures.still (g.P.Place.at c.judged_now.new.place) (g.P.Place.at c.keep.new.place) c.in-Ok-judged_now.ensures.quiet.world c.in-Ok-judged_now.ensures.quiet.still (ap (λ (s : Starts). s.flying) (c.in-Ok-judged_now.ensures.quiet.takes.1 ∙ (c.in-Ok.ensures.takes c.args.store.now.next).1))
    (at_record (λ p. ChangesOnly (is_at_or_below p) (g.P.Place.at c.judged_now.new.place).world (g.P.Place.at c.keep.new.place).world) c.args.store.now.folder (records_folder c.args.project.now) c.args.key.now c.args.unit.now.key c.requires.folder c.requires.key c.in-Err-keep.ensures.only.only)
    (at_record (λ p. KeepsStillOutside (is_at_or_below p) (g.P.Place.at c.judged_now.new.place).counts.starts.flying (g.P.Place.at c.judged_now.new.place).still (g.P.Place.at c.keep.new.place).still) c.args.store.now.folder (records_folder c.args.project.now) c.args.key.now c.args.unit.now.key c.requires.folder c.requires.key c.in-Err-keep.ensures.only.still)
    c.in-Err-keep.ensures.only.takes.0
    (landed_more c.args.store.now.next c.args.launched.now (step.Store c.in-Err-keep.fault) (g.P.Place.at c.args.place.now).counts (g.P.Place.at c.finish.new.place).counts (g.P.Place.at c.judged_now.new.place).counts (g.P.Place.at c.keep.new.place).counts (c.in-Ok.ensures.takes c.args.store.now.next) c.in-Ok-judged_now.ensures.quiet.takes (keep_told c.in-Err-keep.fault (g.P.Place.at c.judged_now.new.place).counts (g.P.Place.at c.keep.new.place).counts c.in-Err-keep.ensures.only.takes))
