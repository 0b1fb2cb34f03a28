use Rattle.std.proofs.Common.{◌≡◌, ◌∙◌, [], Err, None, Ok, ap, inl, inr, is_some, refl, subst, sym}
use Rattle.std.proofs.lemmas.Bool.{false≢true}
use Rattle.std.specs.FinMap as finite
use Rattle.pb_command.specs.Judge.{judge}
use Rattle.pb_place_types.specs.Children.{KeepsStillOutside}
use Rattle.pb_place_types.specs.Paths.{is_at_or_below}
use Rattle.pb_place_types.specs.World.{ChangesOnly}
use Rattle.pb_command_types.specs.Targets.{dep_info_of}
use Rattle.pb_run.specs.Steps.{Lands, MayAnswer}
use Rattle.pb_run.specs.UnitSteps.{build_context, needed_keys}
use Rattle.pb_run.specs.Running.{dep_info_looked}
use Rattle.pb_run.specs.Outcome.{directives_in, outcome_by, unstarted}
use Rattle.pb_run.specs.Invariants.{records_folder}
use Rattle.pb_run.specs.declared.begun.Awaited.TheVariants as awaited
use Rattle.pb_run.specs.declared.ran.Validated.{Validated}
use Rattle.pb_run.specs.declared.ran.Ran.{Ran}
use Rattle.pb_run.proofs.Building.{reuse_bad, reuse_failed, reuse_numbered, reuse_renewed, reuse_unrenewed}
use Rattle.pb_run.proofs.Changing.{at_record, changes_none, changes_record}
use Rattle.pb_run.proofs.Causing.{migrate_told}
use Rattle.pb_run.proofs.Ending.{alone_more, alone_told}
use Rattle.pb_run.proofs.Held.{numbers_same}
use Rattle.pb_run.proofs.Left.{record_renewed, record_stayed}
use Rattle.pb_run.proofs.Reusing.{Renewed, Renewing, flying_alone, numbered_awaited, renewed_moved, renewing_moved, unnumbered_awaited}
use Rattle.pb_run.proofs.Stepping.{bad_made, ended_badly, ended_well, good_made, migrate_made, migrate_stops, memory_last, numbered_so, numbering_first, renewed_names}
use Rattle.pb_run.proofs.Writes.{none_changed}
use Rattle.pb_run.proofs.landing.reuse.Goals as goal
use Rattle.pb_run.specs.declared.faults.StepFault.TheVariants as step
use Rattle.pb_store.specs.declared.fault.StoreFault.TheVariants as store

-- Its dep-info could not be read.

pub returns-in-Err-clause-ends : goal.returns-in-Err-clause-ends
returns-in-Err-clause-ends g c = record {
  lands = λ told. (
    Ok c.args.again.now.ended,
    record {
      world = (g.P.Place.at c.args.place.now).world;
      counts = (g.P.Place.at c.args.place.now).counts;
      ends = (refl, refl, refl);
      comes = (
        none_changed _ (g.P.Place.at c.args.place.now).world (g.P.Place.at c.judged_now.new.place).world c.in-Err.ensures.quiet.world,
        numbering_first c.in-Err.fault (dep_info_looked (dep_info_of c.args.project.now c.args.unit.now)) _ (g.P.Place.at c.args.place.now).counts (g.P.Place.at c.judged_now.new.place).counts c.in-Err.ensures.calls,
      );
    },
  );
  same = λ told none has. c.in-Err.ensures.quiet.world;
  untaken = λ none. refl;
  most = c.in-Err.ensures.quiet.most;
}

pub returns-in-Err-clause-build : goal.returns-in-Err-clause-build
returns-in-Err-clause-build g c premise setup sources told =
    reuse_failed (build_context premise g.P.Place.child setup c.args.project.now sources) c.is_in_order.ensures c.args.index c.args.unit.now c.requires.unit c.args.command.now c.args.again.now c.args.store.now.next (g.P.Place.at c.args.place.now) (g.P.Place.at c.judged_now.new.place)
    c.in-Err.ensures.quiet.world (flying_alone c.args.store.now.next c.in-Err.fault (g.P.Place.at c.args.place.now).counts.starts (g.P.Place.at c.judged_now.new.place).counts.starts (alone_told c.args.store.now.next c.in-Err.fault (g.P.Place.at c.args.place.now).counts (g.P.Place.at c.judged_now.new.place).counts c.in-Err.ensures.quiet.takes).0) c.in-Err.ensures.quiet.still c.in-Err.fault

pub returns-in-Err-clause-changes : goal.returns-in-Err-clause-changes
returns-in-Err-clause-changes g c =
    changes_none _ _ _ (records_folder c.args.project.now) c.args.unit.now.key (g.P.Place.at c.args.place.now) (g.P.Place.at c.judged_now.new.place) c.in-Err.ensures.quiet.world c.in-Err.ensures.quiet.still
    (flying_alone c.args.store.now.next c.in-Err.fault (g.P.Place.at c.args.place.now).counts.starts (g.P.Place.at c.judged_now.new.place).counts.starts (alone_told c.args.store.now.next c.in-Err.fault (g.P.Place.at c.args.place.now).counts (g.P.Place.at c.judged_now.new.place).counts c.in-Err.ensures.quiet.takes).0) (alone_told c.args.store.now.next c.in-Err.fault (g.P.Place.at c.args.place.now).counts (g.P.Place.at c.judged_now.new.place).counts c.in-Err.ensures.quiet.takes)

-- The unit is bad.

pub returns-then-is_some-clause-answers : goal.returns-then-is_some-clause-answers
returns-then-is_some-clause-answers g c = record {
  started = ap (λ (r : Ran). r.started) c.without_start-ran.ensures;
  directives = subst (λ (r : Ran). directives_in (outcome_by finite.empty r) ≡ r.directives) (sym c.without_start-ran.ensures) c.in-Ok.ensures.directives;
  judged = λ told. (
    c.args.again.now.ended,
    record {
      world = (g.P.Place.at c.args.place.now).world;
      counts = (g.P.Place.at c.args.place.now).counts;
      ends = (refl, refl, refl);
      comes = c.without_start-ran.ensures ∙ ap (λ (j : Validated). unstarted j.ran) (c.in-Ok.ensures.judged told);
    },
  );
  kept = λ told good. absurd (false≢true (sym good ∙ (sym c.is_some.ensures ∙ c.if-is_some.true)));
  unkept = λ bad. none_changed _ (g.P.Place.at c.args.place.now).world (g.P.Place.at c.judged_now.new.place).world c.in-Ok.ensures.quiet.world;
  bad = λ bad. refl;
  taken = λ told waits lacks good. absurd (false≢true (sym good ∙ (sym c.is_some.ensures ∙ c.if-is_some.true)));
}

pub returns-then-is_some-clause-ends : goal.returns-then-is_some-clause-ends
returns-then-is_some-clause-ends g c = record {
  lands = λ told. (
    Ok c.args.again.now.ended,
    record {
      world = (g.P.Place.at c.args.place.now).world;
      counts = (g.P.Place.at c.args.place.now).counts;
      ends = (refl, refl, refl);
      comes = (
        none_changed _ (g.P.Place.at c.args.place.now).world (g.P.Place.at c.judged_now.new.place).world c.in-Ok.ensures.quiet.world,
        bad_made c.args.project.now c.args.unit.now c.args.command.now (awaited.Record c.args.again.now) (g.P.Place.at c.args.place.now).world c.args.again.now.ended c.in-Ok.judgement (c.in-Ok.ensures.judged told) (g.P.Place.at c.args.place.now).counts (g.P.Place.at c.judged_now.new.place).counts c.in-Ok.ensures.calls
            (ap (λ (r : Ran). is_some r.bad) (sym c.without_start-ran.ensures) ∙ sym c.is_some.ensures ∙ c.if-is_some.true),
      );
    },
  );
  same = λ told none has. c.in-Ok.ensures.quiet.world;
  untaken = λ none. refl;
  most = c.in-Ok.ensures.quiet.most;
}

pub returns-then-is_some-clause-build : goal.returns-then-is_some-clause-build
returns-then-is_some-clause-build g c premise setup sources told =
    reuse_bad (build_context premise g.P.Place.child setup c.args.project.now sources) c.is_in_order.ensures c.args.index c.args.unit.now c.requires.unit c.args.command.now c.args.again.now c.args.store.now.next (g.P.Place.at c.args.place.now) (g.P.Place.at c.judged_now.new.place)
    c.in-Ok.ensures.quiet.world c.in-Ok.ensures.quiet.takes.1 c.in-Ok.ensures.quiet.still c.in-Ok.judgement (c.in-Ok.ensures.judged told) c.without_start-ran.result c.without_start-ran.ensures (sym c.is_some.ensures ∙ c.if-is_some.true)

pub returns-then-is_some-clause-store : goal.returns-then-is_some-clause-store
returns-then-is_some-clause-store g c = record {
  folder = refl;
  next = inl refl;
  numbers = λ told. numbers_same c.args.store.now.folder (g.P.Place.at c.args.place.now).world (g.P.Place.at c.judged_now.new.place).world c.args.store.now.numbers c.in-Ok.ensures.quiet.world (c.requires.numbers told);
}

pub returns-then-is_some-clause-changes : goal.returns-then-is_some-clause-changes
returns-then-is_some-clause-changes g c =
    changes_none _ _ _ (records_folder c.args.project.now) c.args.unit.now.key (g.P.Place.at c.args.place.now) (g.P.Place.at c.judged_now.new.place) c.in-Ok.ensures.quiet.world c.in-Ok.ensures.quiet.still c.in-Ok.ensures.quiet.takes.1
    (c.in-Ok.ensures.quiet.takes.0, c.in-Ok.ensures.quiet.takes.1)

-- Its record has a number.

pub returns-then-again-clause-answers : goal.returns-then-again-clause-answers
returns-then-again-clause-answers g c = record {
  started = ap (λ (r : Ran). r.started) c.without_start-ran.ensures;
  directives = subst (λ (r : Ran). directives_in (outcome_by finite.empty r) ≡ r.directives) (sym c.without_start-ran.ensures) c.in-Ok.ensures.directives;
  judged = λ told. (
    c.args.again.now.ended,
    record {
      world = (g.P.Place.at c.args.place.now).world;
      counts = (g.P.Place.at c.args.place.now).counts;
      ends = (refl, refl, refl);
      comes = c.without_start-ran.ensures ∙ ap (λ (j : Validated). unstarted j.ran) (c.in-Ok.ensures.judged told);
    },
  );
  kept = λ told good. (
    c.args.again.now.ended,
    record {
      world = (g.P.Place.at c.args.place.now).world;
      counts = (g.P.Place.at c.args.place.now).counts;
      ends = (refl, refl, refl);
      comes = record_stayed c.args.project.now c.args.unit.now c.args.command.now (g.P.Place.at c.args.place.now).world (g.P.Place.at c.judged_now.new.place).world c.args.again.now.ended c.args.again.now c.args.store.now.next c.if-again.true c.in-Ok.ensures.quiet.world;
    },
  );
  unkept = λ bad. none_changed _ (g.P.Place.at c.args.place.now).world (g.P.Place.at c.judged_now.new.place).world c.in-Ok.ensures.quiet.world;
  bad = λ bad. refl;
  taken = λ told waits lacks good. absurd (false≢true (sym (unnumbered_awaited c.args.again.now.numbered waits) ∙ c.if-again.true));
}

pub returns-then-again-clause-ends : goal.returns-then-again-clause-ends
returns-then-again-clause-ends g c = record {
  lands = λ told. (
    Ok c.args.again.now.ended,
    record {
      world = (g.P.Place.at c.args.place.now).world;
      counts = (g.P.Place.at c.args.place.now).counts;
      ends = (refl, refl, refl);
      comes = (
        none_changed _ (g.P.Place.at c.args.place.now).world (g.P.Place.at c.judged_now.new.place).world c.in-Ok.ensures.quiet.world,
        good_made c.args.project.now c.args.unit.now c.args.command.now (awaited.Record c.args.again.now) (g.P.Place.at c.args.place.now).world c.args.again.now.ended c.in-Ok.judgement (c.in-Ok.ensures.judged told) (g.P.Place.at c.args.place.now).counts (g.P.Place.at c.judged_now.new.place).counts c.in-Ok.ensures.calls
            (ended_well c.without_start-ran.result) [] (g.P.Place.at c.judged_now.new.place).counts (ap (λ (r : Ran). is_some r.bad) (sym c.without_start-ran.ensures) ∙ sym c.is_some.ensures ∙ c.if-is_some.false)
            (numbered_so c.args.project.now c.args.unit.now c.args.command.now c.args.again.now (g.P.Place.at c.args.place.now).world c.in-Ok.judgement.names c.if-again.true) refl,
      );
    },
  );
  same = λ told none has. c.in-Ok.ensures.quiet.world;
  untaken = λ none. refl;
  most = c.in-Ok.ensures.quiet.most;
}

pub returns-then-again-clause-build : goal.returns-then-again-clause-build
returns-then-again-clause-build g c premise setup sources told =
    reuse_numbered (build_context premise g.P.Place.child setup c.args.project.now sources) c.is_in_order.ensures c.args.index c.args.unit.now c.requires.unit c.args.command.now c.args.again.now c.args.store.now.next (g.P.Place.at c.args.place.now) (g.P.Place.at c.judged_now.new.place)
    c.in-Ok.ensures.quiet.world c.in-Ok.ensures.quiet.takes.1 c.in-Ok.ensures.quiet.still c.in-Ok.judgement (c.in-Ok.ensures.judged told) c.without_start-ran.result c.without_start-ran.ensures c.if-again.true

pub returns-then-again-clause-store : goal.returns-then-again-clause-store
returns-then-again-clause-store g c = record {
  folder = refl;
  next = inl refl;
  numbers = λ told. numbers_same c.args.store.now.folder (g.P.Place.at c.args.place.now).world (g.P.Place.at c.judged_now.new.place).world c.args.store.now.numbers c.in-Ok.ensures.quiet.world (c.requires.numbers told);
}

pub returns-then-again-clause-changes : goal.returns-then-again-clause-changes
returns-then-again-clause-changes g c =
    changes_none _ _ _ (records_folder c.args.project.now) c.args.unit.now.key (g.P.Place.at c.args.place.now) (g.P.Place.at c.judged_now.new.place) c.in-Ok.ensures.quiet.world c.in-Ok.ensures.quiet.still c.in-Ok.ensures.quiet.takes.1
    (c.in-Ok.ensures.quiet.takes.0, c.in-Ok.ensures.quiet.takes.1)

-- No memory for the keys of the needed units.

pub returns-in-Err-needed_keys-clause-ends : goal.returns-in-Err-needed_keys-clause-ends
returns-in-Err-needed_keys-clause-ends g c = record {
  lands = λ told. (
    Ok c.args.again.now.ended,
    record {
      world = (g.P.Place.at c.args.place.now).world;
      counts = (g.P.Place.at c.args.place.now).counts;
      ends = (refl, refl, refl);
      comes = (
        none_changed _ (g.P.Place.at c.args.place.now).world (g.P.Place.at c.judged_now.new.place).world c.in-Ok.ensures.quiet.world,
        numbering_first (step.Store store.OutOfMemory) (dep_info_looked (dep_info_of c.args.project.now c.args.unit.now)) _ (g.P.Place.at c.args.place.now).counts (g.P.Place.at c.judged_now.new.place).counts (memory_last (dep_info_looked (dep_info_of c.args.project.now c.args.unit.now)) (g.P.Place.at c.args.place.now).counts (g.P.Place.at c.judged_now.new.place).counts c.in-Ok.ensures.calls),
      );
    },
  );
  same = λ told none has. c.in-Ok.ensures.quiet.world;
  untaken = λ none. refl;
  most = c.in-Ok.ensures.quiet.most;
}

pub returns-in-Err-needed_keys-clause-build : goal.returns-in-Err-needed_keys-clause-build
returns-in-Err-needed_keys-clause-build g c premise setup sources told =
    reuse_failed (build_context premise g.P.Place.child setup c.args.project.now sources) c.is_in_order.ensures c.args.index c.args.unit.now c.requires.unit c.args.command.now c.args.again.now c.args.store.now.next (g.P.Place.at c.args.place.now) (g.P.Place.at c.judged_now.new.place)
    c.in-Ok.ensures.quiet.world c.in-Ok.ensures.quiet.takes.1 c.in-Ok.ensures.quiet.still (step.Store store.OutOfMemory)

pub returns-in-Err-needed_keys-clause-changes : goal.returns-in-Err-needed_keys-clause-changes
returns-in-Err-needed_keys-clause-changes g c =
    changes_none _ _ _ (records_folder c.args.project.now) c.args.unit.now.key (g.P.Place.at c.args.place.now) (g.P.Place.at c.judged_now.new.place) c.in-Ok.ensures.quiet.world c.in-Ok.ensures.quiet.still c.in-Ok.ensures.quiet.takes.1
    (c.in-Ok.ensures.quiet.takes.1, c.in-Ok.ensures.quiet.takes.0)

-- The record is to get a number.

pub returns-in-Ok-migrate-clause-answers : goal.returns-in-Ok-migrate-clause-answers
returns-in-Ok-migrate-clause-answers g c = record {
  started = ap (λ (r : Ran). r.started) c.without_start-ran.ensures;
  directives = subst (λ (r : Ran). directives_in (outcome_by finite.empty r) ≡ r.directives) (sym c.without_start-ran.ensures) c.in-Ok.ensures.directives;
  judged = λ told. (
    c.args.again.now.ended,
    record {
      world = (g.P.Place.at c.args.place.now).world;
      counts = (g.P.Place.at c.args.place.now).counts;
      ends = (refl, refl, refl);
      comes = c.without_start-ran.ensures ∙ ap (λ (j : Validated). unstarted j.ran) (c.in-Ok.ensures.judged told);
    },
  );
  kept = λ told good. (
    c.args.again.now.ended,
    record {
      world = (g.P.Place.at c.args.place.now).world;
      counts = (g.P.Place.at c.args.place.now).counts;
      ends = (refl, refl, refl);
      comes =
          let renewed : Renewed (records_folder c.args.project.now) c.args.unit.now.key (needed_keys c.args.project.now c.args.unit.now) c.args.store.now.next c.migrate.new.self.next (g.P.Place.at c.args.place.now).world (g.P.Place.at c.migrate.new.place).world =
          renewed_moved c.args.store.now.folder (records_folder c.args.project.now) c.args.key.now c.args.unit.now.key c.as_slice.result.now (needed_keys c.args.project.now c.args.unit.now) c.args.store.now.next c.migrate.new.self.next (g.P.Place.at c.judged_now.new.place).world (g.P.Place.at c.args.place.now).world (g.P.Place.at c.migrate.new.place).world c.requires.folder c.requires.key (c.as_slice.ensures ∙ c.in-Ok-needed_keys.ensures) c.in-Ok.ensures.quiet.world record { stands = (c.in-Ok-migrate.ensures.record told).stands; taken = (c.in-Ok-migrate.ensures.record told).taken } in
          record_renewed c.args.project.now c.args.unit.now c.args.command.now (g.P.Place.at c.args.place.now).world (g.P.Place.at c.migrate.new.place).world c.args.again.now.ended c.args.again.now c.args.store.now.next c.if-again.false renewed.stands;
    },
  );
  unkept = λ bad. absurd (false≢true (sym (sym c.is_some.ensures ∙ c.if-is_some.false) ∙ bad));
  bad = λ bad. absurd (false≢true (sym (sym c.is_some.ensures ∙ c.if-is_some.false) ∙ bad));
  taken = λ told waits lacks good.
      let renewed : Renewed (records_folder c.args.project.now) c.args.unit.now.key (needed_keys c.args.project.now c.args.unit.now) c.args.store.now.next c.migrate.new.self.next (g.P.Place.at c.args.place.now).world (g.P.Place.at c.migrate.new.place).world =
      renewed_moved c.args.store.now.folder (records_folder c.args.project.now) c.args.key.now c.args.unit.now.key c.as_slice.result.now (needed_keys c.args.project.now c.args.unit.now) c.args.store.now.next c.migrate.new.self.next (g.P.Place.at c.judged_now.new.place).world (g.P.Place.at c.args.place.now).world (g.P.Place.at c.migrate.new.place).world c.requires.folder c.requires.key (c.as_slice.ensures ∙ c.in-Ok-needed_keys.ensures) c.in-Ok.ensures.quiet.world record { stands = (c.in-Ok-migrate.ensures.record told).stands; taken = (c.in-Ok-migrate.ensures.record told).taken } in
      renewed.taken lacks;
}

pub returns-in-Ok-migrate-clause-ends : goal.returns-in-Ok-migrate-clause-ends
returns-in-Ok-migrate-clause-ends g c = record {
  lands = λ told.
      let renewing : Renewing g.P.Place.child (records_folder c.args.project.now) c.args.unit.now.key (needed_keys c.args.project.now c.args.unit.now) c.args.command.now c.args.store.now.next c.migrate.new.self.next (g.P.Place.at c.args.place.now).world (g.P.Place.at c.migrate.new.place).world =
      renewing_moved c.args.store.now.folder (records_folder c.args.project.now) c.args.key.now c.args.unit.now.key c.as_slice.result.now (needed_keys c.args.project.now c.args.unit.now) c.args.store.now.next c.migrate.new.self.next (g.P.Place.at c.judged_now.new.place).world (g.P.Place.at c.args.place.now).world (g.P.Place.at c.migrate.new.place).world c.requires.folder c.requires.key (c.as_slice.ensures ∙ c.in-Ok-needed_keys.ensures) c.in-Ok.ensures.quiet.world g.P.Place.child c.args.command.now
      record { sound = (c.in-Ok-migrate.ensures.record told).sound judge c.args.command.now; ahead = (c.in-Ok-migrate.ensures.record told).ahead judge c.args.command.now; only = c.in-Ok-migrate.ensures.only.only; left = inr (inr (c.in-Ok-migrate.ensures.record told).stands); same = λ has. ((c.in-Ok-migrate.ensures.record told).unused has).1 } in (
        Ok c.args.again.now.ended,
        record {
          world = (g.P.Place.at c.args.place.now).world;
          counts = (g.P.Place.at c.args.place.now).counts;
          ends = (refl, refl, refl);
          comes = (
            renewing.only,
            good_made c.args.project.now c.args.unit.now c.args.command.now (awaited.Record c.args.again.now) (g.P.Place.at c.args.place.now).world c.args.again.now.ended c.in-Ok.judgement (c.in-Ok.ensures.judged told) (g.P.Place.at c.args.place.now).counts (g.P.Place.at c.judged_now.new.place).counts c.in-Ok.ensures.calls
                (ended_well c.without_start-ran.result) _ (g.P.Place.at c.migrate.new.place).counts (ap (λ (r : Ran). is_some r.bad) (sym c.without_start-ran.ensures) ∙ sym c.is_some.ensures ∙ c.if-is_some.false)
                (renewed_names c.args.project.now c.args.unit.now c.args.command.now c.args.again.now c.args.store.now.folder c.args.key.now (g.P.Place.at c.judged_now.new.place).world (g.P.Place.at c.args.place.now).world c.in-Ok.judgement.names c.requires.folder c.requires.key c.in-Ok.ensures.quiet.world c.if-again.false)
                (migrate_made (Ok c.in-Ok-migrate.field-0) c.in-Ok-migrate.field-0 c.args.store.now.folder c.args.key.now (g.P.Place.at c.judged_now.new.place).world (g.P.Place.at c.judged_now.new.place).counts (g.P.Place.at c.migrate.new.place).counts refl (c.in-Ok-migrate.ensures.calls told)),
          );
        },
      );
  same = λ told none has.
      let renewing : Renewing g.P.Place.child (records_folder c.args.project.now) c.args.unit.now.key (needed_keys c.args.project.now c.args.unit.now) c.args.command.now c.args.store.now.next c.migrate.new.self.next (g.P.Place.at c.args.place.now).world (g.P.Place.at c.migrate.new.place).world =
      renewing_moved c.args.store.now.folder (records_folder c.args.project.now) c.args.key.now c.args.unit.now.key c.as_slice.result.now (needed_keys c.args.project.now c.args.unit.now) c.args.store.now.next c.migrate.new.self.next (g.P.Place.at c.judged_now.new.place).world (g.P.Place.at c.args.place.now).world (g.P.Place.at c.migrate.new.place).world c.requires.folder c.requires.key (c.as_slice.ensures ∙ c.in-Ok-needed_keys.ensures) c.in-Ok.ensures.quiet.world g.P.Place.child c.args.command.now
      record { sound = (c.in-Ok-migrate.ensures.record told).sound judge c.args.command.now; ahead = (c.in-Ok-migrate.ensures.record told).ahead judge c.args.command.now; only = c.in-Ok-migrate.ensures.only.only; left = inr (inr (c.in-Ok-migrate.ensures.record told).stands); same = λ has. ((c.in-Ok-migrate.ensures.record told).unused has).1 } in
      renewing.same has;
  untaken = λ none. absurd (false≢true (sym c.if-again.false ∙ numbered_awaited c.args.again.now.numbered none));
  most = c.in-Ok-migrate.ensures.only.most ∙ c.in-Ok.ensures.quiet.most;
}

pub returns-in-Ok-migrate-clause-build : goal.returns-in-Ok-migrate-clause-build
returns-in-Ok-migrate-clause-build g c premise setup sources told =
    let renewing : Renewing g.P.Place.child (records_folder c.args.project.now) c.args.unit.now.key (needed_keys c.args.project.now c.args.unit.now) c.args.command.now c.args.store.now.next c.migrate.new.self.next (g.P.Place.at c.args.place.now).world (g.P.Place.at c.migrate.new.place).world =
    renewing_moved c.args.store.now.folder (records_folder c.args.project.now) c.args.key.now c.args.unit.now.key c.as_slice.result.now (needed_keys c.args.project.now c.args.unit.now) c.args.store.now.next c.migrate.new.self.next (g.P.Place.at c.judged_now.new.place).world (g.P.Place.at c.args.place.now).world (g.P.Place.at c.migrate.new.place).world c.requires.folder c.requires.key (c.as_slice.ensures ∙ c.in-Ok-needed_keys.ensures) c.in-Ok.ensures.quiet.world g.P.Place.child c.args.command.now
    record { sound = (c.in-Ok-migrate.ensures.record told).sound judge c.args.command.now; ahead = (c.in-Ok-migrate.ensures.record told).ahead judge c.args.command.now; only = c.in-Ok-migrate.ensures.only.only; left = inr (inr (c.in-Ok-migrate.ensures.record told).stands); same = λ has. ((c.in-Ok-migrate.ensures.record told).unused has).1 } in
    reuse_renewed (build_context premise g.P.Place.child setup c.args.project.now sources) c.is_in_order.ensures c.args.index c.args.unit.now c.requires.unit c.args.command.now c.args.again.now c.args.store.now.next (g.P.Place.at c.args.place.now) (g.P.Place.at c.migrate.new.place) (Lands None) (MayAnswer c.args.store.now.next None) (ended_well c.without_start-ran.result) c.migrate.new.self.next renewing
    (changes_record (Lands None) (MayAnswer c.args.store.now.next None) (ended_well c.without_start-ran.result) (records_folder c.args.project.now) c.args.unit.now.key (g.P.Place.at c.args.place.now) (g.P.Place.at c.judged_now.new.place) (g.P.Place.at c.migrate.new.place) c.in-Ok.ensures.quiet.world c.in-Ok.ensures.quiet.still c.in-Ok.ensures.quiet.takes.1
    (at_record (λ p. ChangesOnly (is_at_or_below p) (g.P.Place.at c.judged_now.new.place).world (g.P.Place.at c.migrate.new.place).world) c.args.store.now.folder (records_folder c.args.project.now) c.args.key.now c.args.unit.now.key c.requires.folder c.requires.key c.in-Ok-migrate.ensures.only.only)
    (at_record (λ p. KeepsStillOutside (is_at_or_below p) (g.P.Place.at c.judged_now.new.place).counts.starts.flying (g.P.Place.at c.judged_now.new.place).still (g.P.Place.at c.migrate.new.place).still) c.args.store.now.folder (records_folder c.args.project.now) c.args.key.now c.args.unit.now.key c.requires.folder c.requires.key c.in-Ok-migrate.ensures.only.still)
    c.in-Ok-migrate.ensures.only.takes.0 (c.in-Ok-migrate.ensures.only.takes.1 ∙ c.in-Ok.ensures.quiet.takes.0, c.in-Ok-migrate.ensures.only.takes.0 ∙ c.in-Ok.ensures.quiet.takes.1))
    (c.in-Ok-migrate.ensures.only.takes.0 ∙ c.in-Ok.ensures.quiet.takes.1) c.in-Ok-migrate.ensures.next.next c.in-Ok.judgement (c.in-Ok.ensures.judged told) c.without_start-ran.result c.without_start-ran.ensures
    (renewed_moved c.args.store.now.folder (records_folder c.args.project.now) c.args.key.now c.args.unit.now.key c.as_slice.result.now (needed_keys c.args.project.now c.args.unit.now) c.args.store.now.next c.migrate.new.self.next (g.P.Place.at c.judged_now.new.place).world (g.P.Place.at c.args.place.now).world (g.P.Place.at c.migrate.new.place).world c.requires.folder c.requires.key (c.as_slice.ensures ∙ c.in-Ok-needed_keys.ensures) c.in-Ok.ensures.quiet.world record { stands = (c.in-Ok-migrate.ensures.record told).stands; taken = (c.in-Ok-migrate.ensures.record told).taken })

pub returns-in-Ok-migrate-clause-changes : goal.returns-in-Ok-migrate-clause-changes
returns-in-Ok-migrate-clause-changes g c =
    changes_record (Lands None) (MayAnswer c.args.store.now.next None) (ended_well c.without_start-ran.result) (records_folder c.args.project.now) c.args.unit.now.key (g.P.Place.at c.args.place.now) (g.P.Place.at c.judged_now.new.place) (g.P.Place.at c.migrate.new.place) c.in-Ok.ensures.quiet.world c.in-Ok.ensures.quiet.still c.in-Ok.ensures.quiet.takes.1
    (at_record (λ p. ChangesOnly (is_at_or_below p) (g.P.Place.at c.judged_now.new.place).world (g.P.Place.at c.migrate.new.place).world) c.args.store.now.folder (records_folder c.args.project.now) c.args.key.now c.args.unit.now.key c.requires.folder c.requires.key c.in-Ok-migrate.ensures.only.only)
    (at_record (λ p. KeepsStillOutside (is_at_or_below p) (g.P.Place.at c.judged_now.new.place).counts.starts.flying (g.P.Place.at c.judged_now.new.place).still (g.P.Place.at c.migrate.new.place).still) c.args.store.now.folder (records_folder c.args.project.now) c.args.key.now c.args.unit.now.key c.requires.folder c.requires.key c.in-Ok-migrate.ensures.only.still)
    c.in-Ok-migrate.ensures.only.takes.0 (c.in-Ok-migrate.ensures.only.takes.1 ∙ c.in-Ok.ensures.quiet.takes.0, c.in-Ok-migrate.ensures.only.takes.0 ∙ c.in-Ok.ensures.quiet.takes.1)

pub returns-clause-ends : goal.returns-clause-ends
returns-clause-ends g c = record {
  lands = λ told.
      let renewing : Renewing g.P.Place.child (records_folder c.args.project.now) c.args.unit.now.key (needed_keys c.args.project.now c.args.unit.now) c.args.command.now c.args.store.now.next c.migrate.new.self.next (g.P.Place.at c.args.place.now).world (g.P.Place.at c.migrate.new.place).world =
      renewing_moved c.args.store.now.folder (records_folder c.args.project.now) c.args.key.now c.args.unit.now.key c.as_slice.result.now (needed_keys c.args.project.now c.args.unit.now) c.args.store.now.next c.migrate.new.self.next (g.P.Place.at c.judged_now.new.place).world (g.P.Place.at c.args.place.now).world (g.P.Place.at c.migrate.new.place).world c.requires.folder c.requires.key (c.as_slice.ensures ∙ c.in-Ok-needed_keys.ensures) c.in-Ok.ensures.quiet.world g.P.Place.child c.args.command.now
      record { sound = (c.in-Err-migrate.ensures.record told).sound judge c.args.command.now; ahead = (c.in-Err-migrate.ensures.record told).ahead judge c.args.command.now; only = c.in-Err-migrate.ensures.only.only; left = (c.in-Err-migrate.ensures.record told).stands; same = λ has. ((c.in-Err-migrate.ensures.record told).unused has).1 } in (
        Ok c.args.again.now.ended,
        record {
          world = (g.P.Place.at c.args.place.now).world;
          counts = (g.P.Place.at c.args.place.now).counts;
          ends = (refl, refl, refl);
          comes = (
            renewing.only,
            good_made c.args.project.now c.args.unit.now c.args.command.now (awaited.Record c.args.again.now) (g.P.Place.at c.args.place.now).world c.args.again.now.ended c.in-Ok.judgement (c.in-Ok.ensures.judged told) (g.P.Place.at c.args.place.now).counts (g.P.Place.at c.judged_now.new.place).counts c.in-Ok.ensures.calls
                (ended_badly (step.Store c.in-Err-migrate.fault)) _ (g.P.Place.at c.migrate.new.place).counts (ap (λ (r : Ran). is_some r.bad) (sym c.without_start-ran.ensures) ∙ sym c.is_some.ensures ∙ c.if-is_some.false)
                (renewed_names c.args.project.now c.args.unit.now c.args.command.now c.args.again.now c.args.store.now.folder c.args.key.now (g.P.Place.at c.judged_now.new.place).world (g.P.Place.at c.args.place.now).world c.in-Ok.judgement.names c.requires.folder c.requires.key c.in-Ok.ensures.quiet.world c.if-again.false)
                (migrate_stops (Err c.in-Err-migrate.fault) c.in-Err-migrate.fault c.args.store.now.folder c.args.key.now (g.P.Place.at c.judged_now.new.place).world (g.P.Place.at c.judged_now.new.place).counts (g.P.Place.at c.migrate.new.place).counts refl (c.in-Err-migrate.ensures.record told).cause (c.in-Err-migrate.ensures.calls told)),
          );
        },
      );
  same = λ told none has.
      let renewing : Renewing g.P.Place.child (records_folder c.args.project.now) c.args.unit.now.key (needed_keys c.args.project.now c.args.unit.now) c.args.command.now c.args.store.now.next c.migrate.new.self.next (g.P.Place.at c.args.place.now).world (g.P.Place.at c.migrate.new.place).world =
      renewing_moved c.args.store.now.folder (records_folder c.args.project.now) c.args.key.now c.args.unit.now.key c.as_slice.result.now (needed_keys c.args.project.now c.args.unit.now) c.args.store.now.next c.migrate.new.self.next (g.P.Place.at c.judged_now.new.place).world (g.P.Place.at c.args.place.now).world (g.P.Place.at c.migrate.new.place).world c.requires.folder c.requires.key (c.as_slice.ensures ∙ c.in-Ok-needed_keys.ensures) c.in-Ok.ensures.quiet.world g.P.Place.child c.args.command.now
      record { sound = (c.in-Err-migrate.ensures.record told).sound judge c.args.command.now; ahead = (c.in-Err-migrate.ensures.record told).ahead judge c.args.command.now; only = c.in-Err-migrate.ensures.only.only; left = (c.in-Err-migrate.ensures.record told).stands; same = λ has. ((c.in-Err-migrate.ensures.record told).unused has).1 } in
      renewing.same has;
  untaken = λ none. absurd (false≢true (sym c.if-again.false ∙ numbered_awaited c.args.again.now.numbered none));
  most = c.in-Err-migrate.ensures.only.most ∙ c.in-Ok.ensures.quiet.most;
}

pub returns-clause-build : goal.returns-clause-build
returns-clause-build g c premise setup sources told =
    let renewing : Renewing g.P.Place.child (records_folder c.args.project.now) c.args.unit.now.key (needed_keys c.args.project.now c.args.unit.now) c.args.command.now c.args.store.now.next c.migrate.new.self.next (g.P.Place.at c.args.place.now).world (g.P.Place.at c.migrate.new.place).world =
    renewing_moved c.args.store.now.folder (records_folder c.args.project.now) c.args.key.now c.args.unit.now.key c.as_slice.result.now (needed_keys c.args.project.now c.args.unit.now) c.args.store.now.next c.migrate.new.self.next (g.P.Place.at c.judged_now.new.place).world (g.P.Place.at c.args.place.now).world (g.P.Place.at c.migrate.new.place).world c.requires.folder c.requires.key (c.as_slice.ensures ∙ c.in-Ok-needed_keys.ensures) c.in-Ok.ensures.quiet.world g.P.Place.child c.args.command.now
    record { sound = (c.in-Err-migrate.ensures.record told).sound judge c.args.command.now; ahead = (c.in-Err-migrate.ensures.record told).ahead judge c.args.command.now; only = c.in-Err-migrate.ensures.only.only; left = (c.in-Err-migrate.ensures.record told).stands; same = λ has. ((c.in-Err-migrate.ensures.record told).unused has).1 } in
    reuse_unrenewed (build_context premise g.P.Place.child setup c.args.project.now sources) c.is_in_order.ensures c.args.index c.args.unit.now c.requires.unit c.args.command.now c.args.again.now c.args.store.now.next (g.P.Place.at c.args.place.now) (g.P.Place.at c.migrate.new.place) (Lands None) (MayAnswer c.args.store.now.next None) (ended_badly (step.Store c.in-Err-migrate.fault)) c.migrate.new.self.next renewing
    (changes_record (Lands None) (MayAnswer c.args.store.now.next None) (ended_badly (step.Store c.in-Err-migrate.fault)) (records_folder c.args.project.now) c.args.unit.now.key (g.P.Place.at c.args.place.now) (g.P.Place.at c.judged_now.new.place) (g.P.Place.at c.migrate.new.place) c.in-Ok.ensures.quiet.world c.in-Ok.ensures.quiet.still c.in-Ok.ensures.quiet.takes.1
    (at_record (λ p. ChangesOnly (is_at_or_below p) (g.P.Place.at c.judged_now.new.place).world (g.P.Place.at c.migrate.new.place).world) c.args.store.now.folder (records_folder c.args.project.now) c.args.key.now c.args.unit.now.key c.requires.folder c.requires.key c.in-Err-migrate.ensures.only.only)
    (at_record (λ p. KeepsStillOutside (is_at_or_below p) (g.P.Place.at c.judged_now.new.place).counts.starts.flying (g.P.Place.at c.judged_now.new.place).still (g.P.Place.at c.migrate.new.place).still) c.args.store.now.folder (records_folder c.args.project.now) c.args.key.now c.args.unit.now.key c.requires.folder c.requires.key c.in-Err-migrate.ensures.only.still)
    c.in-Err-migrate.ensures.only.takes.0 (alone_more c.args.store.now.next (step.Store c.in-Err-migrate.fault) (g.P.Place.at c.args.place.now).counts (g.P.Place.at c.judged_now.new.place).counts (g.P.Place.at c.migrate.new.place).counts c.in-Ok.ensures.quiet.takes (migrate_told c.args.store.now.next c.in-Err-migrate.fault (g.P.Place.at c.judged_now.new.place).counts (g.P.Place.at c.migrate.new.place).counts c.in-Err-migrate.ensures.only.takes)))
    (c.in-Err-migrate.ensures.only.takes.0 ∙ c.in-Ok.ensures.quiet.takes.1) c.in-Err-migrate.ensures.next.next (step.Store c.in-Err-migrate.fault)

pub returns-clause-changes : goal.returns-clause-changes
returns-clause-changes g c =
    changes_record (Lands None) (MayAnswer c.args.store.now.next None) (ended_badly (step.Store c.in-Err-migrate.fault)) (records_folder c.args.project.now) c.args.unit.now.key (g.P.Place.at c.args.place.now) (g.P.Place.at c.judged_now.new.place) (g.P.Place.at c.migrate.new.place) c.in-Ok.ensures.quiet.world c.in-Ok.ensures.quiet.still c.in-Ok.ensures.quiet.takes.1
    (at_record (λ p. ChangesOnly (is_at_or_below p) (g.P.Place.at c.judged_now.new.place).world (g.P.Place.at c.migrate.new.place).world) c.args.store.now.folder (records_folder c.args.project.now) c.args.key.now c.args.unit.now.key c.requires.folder c.requires.key c.in-Err-migrate.ensures.only.only)
    (at_record (λ p. KeepsStillOutside (is_at_or_below p) (g.P.Place.at c.judged_now.new.place).counts.starts.flying (g.P.Place.at c.judged_now.new.place).still (g.P.Place.at c.migrate.new.place).still) c.args.store.now.folder (records_folder c.args.project.now) c.args.key.now c.args.unit.now.key c.requires.folder c.requires.key c.in-Err-migrate.ensures.only.still)
    c.in-Err-migrate.ensures.only.takes.0 (alone_more c.args.store.now.next (step.Store c.in-Err-migrate.fault) (g.P.Place.at c.args.place.now).counts (g.P.Place.at c.judged_now.new.place).counts (g.P.Place.at c.migrate.new.place).counts c.in-Ok.ensures.quiet.takes (migrate_told c.args.store.now.next c.in-Err-migrate.fault (g.P.Place.at c.judged_now.new.place).counts (g.P.Place.at c.migrate.new.place).counts c.in-Err-migrate.ensures.only.takes))
