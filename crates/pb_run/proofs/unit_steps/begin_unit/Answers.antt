use Rattle.std.proofs.Common.{◌∙◌, ◌+◌, Err, None, ap, inl, length, max, refl, subst, sym}
use Rattle.std.proofs.lemmas.Bool.{false≢true}
use Rattle.pb_place_types.specs.Counts.{Counts, Starts}
use Rattle.pb_run.specs.Running.{Begins, ChangesUnit, DropsFor, Launches}
use Rattle.pb_run.specs.Steps.{StartsRise, fault_in, BeginFaults}
use Rattle.pb_run.specs.UnitSteps.{build_context}
use Rattle.pb_run.specs.Invariants.{records_folder}
use Rattle.pb_run.specs.declared.begun.SpawnedChild.{SpawnedChild}
use Rattle.pb_run.specs.declared.faults.StepFault.{StepFault}
use Rattle.pb_run.specs.declared.faults.StepFault.TheVariants as step
use Rattle.pb_run.proofs.Building.{begin_failed, begin_launched, begin_same, begin_stopped}
use Rattle.pb_run.proofs.Changing.{changes_after, changes_moved}
use Rattle.pb_run.proofs.Ending.{begun_after, lifted_after}
use Rattle.pb_run.proofs.Halving.{out_asked}
use Rattle.pb_run.proofs.Held.{compared_again, compared_first, drops_fault, drops_moved, launched_badly, launched_well, looked_so, spawned_moved}
use Rattle.pb_run.proofs.Naming.{bare_is}
use Rattle.pb_run.proofs.Reusing.{no_child}
use Rattle.pb_run.proofs.Stepping.{memory_first}
use Rattle.pb_run.proofs.unit_steps.begin_unit.Goals as goal
use Rattle.pb_store.proofs.Once.{unchanged_is_same}
use Rattle.pb_store.specs.declared.fault.StoreFault.TheVariants as store

-- No memory before the first call.

pub returns-in-Err-clause-fails : goal.returns-in-Err-clause-fails
returns-in-Err-clause-fails g c = record { stops = λ told. inl (memory_first _ (g.P.Place.at c.args.place.now).counts); cause = λ told is. absurd (false≢true is); spared = λ told. inl refl; tried = λ told. inl refl; most = refl }

pub returns-in-Err-clause-build : goal.returns-in-Err-clause-build
returns-in-Err-clause-build g c premise sources told = begin_failed (build_context premise g.P.Place.child c.args.setup.now c.args.project.now sources) c.is_in_order.ensures c.args.index c.args.unit.now c.requires.unit c.args.done.now c.args.store.now.next (g.P.Place.at c.args.place.now) (g.P.Place.at c.args.place.now) refl refl (λ t stood. stood) (step.Store store.OutOfMemory)

pub returns-in-Err-command-clause-fails : goal.returns-in-Err-command-clause-fails
returns-in-Err-command-clause-fails g c = record { stops = λ told. inl (memory_first _ (g.P.Place.at c.args.place.now).counts); cause = λ told is. absurd (false≢true is); spared = λ told. inl refl; tried = λ told. inl refl; most = refl }

pub returns-in-Err-command-clause-build : goal.returns-in-Err-command-clause-build
returns-in-Err-command-clause-build g c premise sources told = begin_failed (build_context premise g.P.Place.child c.args.setup.now c.args.project.now sources) c.is_in_order.ensures c.args.index c.args.unit.now c.requires.unit c.args.done.now c.args.store.now.next (g.P.Place.at c.args.place.now) (g.P.Place.at c.args.place.now) refl refl (λ t stood. stood) (step.Store store.OutOfMemory)

-- The look failed, or found nothing.

pub returns-in-Err-compare-clause-build : goal.returns-in-Err-compare-clause-build
returns-in-Err-compare-clause-build g c premise sources told =
    begin_failed (build_context premise g.P.Place.child c.args.setup.now c.args.project.now sources) c.is_in_order.ensures c.args.index c.args.unit.now c.requires.unit c.args.done.now c.args.store.now.next (g.P.Place.at c.args.place.now) (g.P.Place.at c.compare.new.place) c.in-Err-compare.ensures.quiet.world c.in-Err-compare.ensures.quiet.takes.0 c.in-Err-compare.ensures.quiet.still (fault_in c.unit_fault.result)

pub returns-in-Same-clause-build : goal.returns-in-Same-clause-build
returns-in-Same-clause-build g c premise sources told =
    begin_same (build_context premise g.P.Place.child c.args.setup.now c.args.project.now sources) c.is_in_order.ensures c.args.index c.args.unit.now c.requires.unit c.args.done.now c.args.store.now.next (g.P.Place.at c.args.place.now) (g.P.Place.at c.compare.new.place) c.in-Ok-compare.ensures.quiet.world c.in-Ok-compare.ensures.quiet.takes.0 c.in-Ok-compare.ensures.quiet.still
    c.into_text-in-Same.result c.in-Ok-command.command c.in-Same.again c.in-Ok-command.ensures
    (unchanged_is_same.same (records_folder c.args.project.now) c.args.unit.now.key c.in-Ok-command.command (g.P.Place.at c.args.place.now).world
    (compared_first c.args.store.now.folder (records_folder c.args.project.now) _ c.args.unit.now.key c.in-Ok-command.command (g.P.Place.at c.args.place.now).world c.in-Ok-compare.compared _ c.requires.folder (c.new-key.ensures ∙ c.in-Ok.ensures) c.in-Same.is (c.in-Ok-compare.ensures.compares told).first))
    (compared_again c.args.store.now.folder (records_folder c.args.project.now) _ c.args.unit.now.key (g.P.Place.at c.args.place.now).world c.in-Ok-compare.compared c.in-Same.again c.requires.folder (c.new-key.ensures ∙ c.in-Ok.ensures) c.in-Same.is (c.in-Ok-compare.ensures.compares told).carries)

-- Something differs.

pub launch-requires-clause-out : goal.launch-requires-clause-out
launch-requires-clause-out g c = out_asked c.args.project.now c.args.setup.now c.args.index c.args.unit.now c.args.done.now c.in-Ok-command.command c.is_in_order.ensures c.requires.unit c.in-Ok-command.ensures

pub returns-in-Ok-launch-clause-begins : goal.returns-in-Ok-launch-clause-begins
returns-in-Ok-launch-clause-begins g c = record {
  unit = c.into_text-in-Ok-launch.ensures.text ∙ (c.new-key.ensures ∙ c.in-Ok.ensures);
  asks = c.in-Ok-command.ensures;
  differs = λ told. compared_first c.args.store.now.folder (records_folder c.args.project.now) _ c.args.unit.now.key c.in-Ok-command.command (g.P.Place.at c.args.place.now).world c.in-Ok-compare.compared _ c.requires.folder (c.new-key.ensures ∙ c.in-Ok.ensures) c.in-Differs.is (c.in-Ok-compare.ensures.compares told).first;
  spawned = refl;
  number = c.in-Ok-launch.ensures.number;
  most = c.in-Ok-launch.ensures.most ∙ ap (λ m. max m (length (g.P.Place.at c.compare.new.place).counts.starts.flying + 1)) c.in-Ok-compare.ensures.quiet.most ∙ ap (λ (s : Starts). max (g.P.Place.at c.args.place.now).most (length s.flying + 1)) c.in-Ok-compare.ensures.quiet.takes.0;
  writes = c.in-Ok-launch.ensures.writes;
  launched = λ told. spawned_moved g.P.Place.child c.in-Ok-command.command c.args.store.now.folder (records_folder c.args.project.now) _ c.args.unit.now.key (g.P.Place.at c.compare.new.place).world (g.P.Place.at c.args.place.now).world c.in-Ok-launch.launched.ticket (g.P.Place.at c.launch.new.place).counts.starts.flying (g.P.Place.at c.launch.new.place).still c.requires.folder (c.new-key.ensures ∙ c.in-Ok.ensures) c.in-Ok-compare.ensures.quiet.world
      (c.in-Ok-launch.ensures.spawned told);
  dropped = λ told some.
      let drops : DropsFor g.P.Place.child (records_folder c.args.project.now) c.args.unit.now.key (launched_well c.in-Ok-launch.launched) c.args.store.now.next c.launch.new.store.next (g.P.Place.at c.args.place.now).world (g.P.Place.at c.launch.new.place).world =
      drops_moved g.P.Place.child (launched_well c.in-Ok-launch.launched) c.args.store.now.folder (records_folder c.args.project.now) _ c.args.unit.now.key c.args.store.now.next c.launch.new.store.next (g.P.Place.at c.compare.new.place).world (g.P.Place.at c.args.place.now).world (g.P.Place.at c.launch.new.place).world c.requires.folder (c.new-key.ensures ∙ c.in-Ok.ensures) c.in-Ok-compare.ensures.quiet.world (c.in-Ok-launch.ensures.record told) in
      drops.stands;
  launches = λ told. subst (λ (k : Counts). Launches g.P.Place.child c.in-Ok-command.command c.in-Ok-launch.launched.ticket k (g.P.Place.at c.launch.new.place).counts)
      (looked_so c.args.store.now.folder (records_folder c.args.project.now) _ c.args.unit.now.key c.in-Ok-command.command (g.P.Place.at c.args.place.now).world (g.P.Place.at c.args.place.now).counts (g.P.Place.at c.compare.new.place).counts c.requires.folder (c.new-key.ensures ∙ c.in-Ok.ensures) (c.in-Ok-compare.ensures.looks told)) c.in-Ok-launch.ensures.calls;
  same = λ none. no_child c.in-Ok-launch.launched _ none;
  looks = λ told none. no_child c.in-Ok-launch.launched _ none;
  carries = λ told. tt;
}

pub returns-in-Ok-launch-clause-build : goal.returns-in-Ok-launch-clause-build
returns-in-Ok-launch-clause-build g c premise sources told =
    begin_launched (build_context premise g.P.Place.child c.args.setup.now c.args.project.now sources) c.is_in_order.ensures c.args.index c.args.unit.now c.requires.unit c.args.done.now c.args.store.now.next (g.P.Place.at c.args.place.now) (g.P.Place.at c.launch.new.place) (λ (l : SpawnedChild). StartsRise l.ticket) (BeginFaults c.args.store.now.next) (launched_well c.in-Ok-launch.launched) c.launch.new.store.next
    (changes_after (λ (l : SpawnedChild). StartsRise l.ticket) (BeginFaults c.args.store.now.next) (launched_well c.in-Ok-launch.launched) _ _ _ (records_folder c.args.project.now) c.args.unit.now.key (g.P.Place.at c.args.place.now) (g.P.Place.at c.compare.new.place) (g.P.Place.at c.launch.new.place) c.in-Ok-compare.ensures.quiet.world c.in-Ok-compare.ensures.quiet.still c.in-Ok-compare.ensures.quiet.takes.0
    (changes_moved _ _ _ c.args.store.now.folder (records_folder c.args.project.now) _ c.args.unit.now.key None (g.P.Place.at c.compare.new.place) (g.P.Place.at c.launch.new.place) c.requires.folder (c.new-key.ensures ∙ c.in-Ok.ensures) c.in-Ok-launch.ensures.changes)
    (lifted_after c.in-Ok-launch.launched.ticket (g.P.Place.at c.args.place.now).counts (g.P.Place.at c.compare.new.place).counts (g.P.Place.at c.launch.new.place).counts c.in-Ok-compare.ensures.quiet.takes.1 c.in-Ok-compare.ensures.quiet.takes.0 c.in-Ok-launch.ensures.changes.takes))
    c.in-Ok-launch.ensures.store.next c.into_text-in-Ok-launch.result c.in-Ok-command.command c.in-Ok-launch.launched _ c.in-Ok-command.ensures
    (spawned_moved g.P.Place.child c.in-Ok-command.command c.args.store.now.folder (records_folder c.args.project.now) _ c.args.unit.now.key (g.P.Place.at c.compare.new.place).world (g.P.Place.at c.args.place.now).world c.in-Ok-launch.launched.ticket (g.P.Place.at c.launch.new.place).counts.starts.flying (g.P.Place.at c.launch.new.place).still c.requires.folder (c.new-key.ensures ∙ c.in-Ok.ensures) c.in-Ok-compare.ensures.quiet.world
    (c.in-Ok-launch.ensures.spawned told))
    c.in-Ok-launch.ensures.number.0 c.in-Ok-launch.ensures.number.1
    (drops_moved g.P.Place.child (launched_well c.in-Ok-launch.launched) c.args.store.now.folder (records_folder c.args.project.now) _ c.args.unit.now.key c.args.store.now.next c.launch.new.store.next (g.P.Place.at c.compare.new.place).world (g.P.Place.at c.args.place.now).world (g.P.Place.at c.launch.new.place).world c.requires.folder (c.new-key.ensures ∙ c.in-Ok.ensures) c.in-Ok-compare.ensures.quiet.world (c.in-Ok-launch.ensures.record told))

pub returns-in-Ok-launch-clause-changes : goal.returns-in-Ok-launch-clause-changes
returns-in-Ok-launch-clause-changes g c =
    changes_after Begins (BeginFaults c.args.store.now.next) _ _ _ _ (records_folder c.args.project.now) c.args.unit.now.key (g.P.Place.at c.args.place.now) (g.P.Place.at c.compare.new.place) (g.P.Place.at c.launch.new.place) c.in-Ok-compare.ensures.quiet.world c.in-Ok-compare.ensures.quiet.still c.in-Ok-compare.ensures.quiet.takes.0
    (changes_moved _ _ _ c.args.store.now.folder (records_folder c.args.project.now) _ c.args.unit.now.key None (g.P.Place.at c.compare.new.place) (g.P.Place.at c.launch.new.place) c.requires.folder (c.new-key.ensures ∙ c.in-Ok.ensures) c.in-Ok-launch.ensures.changes)
    (lifted_after c.in-Ok-launch.launched.ticket (g.P.Place.at c.args.place.now).counts (g.P.Place.at c.compare.new.place).counts (g.P.Place.at c.launch.new.place).counts c.in-Ok-compare.ensures.quiet.takes.1 c.in-Ok-compare.ensures.quiet.takes.0 c.in-Ok-launch.ensures.changes.takes)

pub returns-in-Err-launch-clause-build : goal.returns-in-Err-launch-clause-build
returns-in-Err-launch-clause-build g c premise sources told =
    begin_stopped (build_context premise g.P.Place.child c.args.setup.now c.args.project.now sources) c.is_in_order.ensures c.args.index c.args.unit.now c.requires.unit c.args.done.now c.args.store.now.next (g.P.Place.at c.args.place.now) (g.P.Place.at c.launch.new.place) (λ (l : SpawnedChild). StartsRise l.ticket) (BeginFaults c.args.store.now.next) (launched_badly c.in-Err-launch.fault) c.launch.new.store.next
    (changes_after (λ (l : SpawnedChild). StartsRise l.ticket) (BeginFaults c.args.store.now.next) (launched_badly c.in-Err-launch.fault) _ _ _ (records_folder c.args.project.now) c.args.unit.now.key (g.P.Place.at c.args.place.now) (g.P.Place.at c.compare.new.place) (g.P.Place.at c.launch.new.place) c.in-Ok-compare.ensures.quiet.world c.in-Ok-compare.ensures.quiet.still c.in-Ok-compare.ensures.quiet.takes.0
    (changes_moved _ _ _ c.args.store.now.folder (records_folder c.args.project.now) _ c.args.unit.now.key None (g.P.Place.at c.compare.new.place) (g.P.Place.at c.launch.new.place) c.requires.folder (c.new-key.ensures ∙ c.in-Ok.ensures) c.in-Err-launch.ensures.changes)
    (begun_after c.args.store.now.next c.in-Err-launch.fault (g.P.Place.at c.args.place.now).counts (g.P.Place.at c.compare.new.place).counts (g.P.Place.at c.launch.new.place).counts c.in-Ok-compare.ensures.quiet.takes.1 c.in-Ok-compare.ensures.quiet.takes.0 c.in-Err-launch.ensures.changes.takes))
    c.in-Err-launch.ensures.store.next (fault_in c.unit_fault-in-Err-launch.result)
    (drops_fault g.P.Place.child c.in-Err-launch.fault (fault_in c.unit_fault-in-Err-launch.result) (records_folder c.args.project.now) c.args.unit.now.key c.args.store.now.next c.launch.new.store.next (g.P.Place.at c.args.place.now).world (g.P.Place.at c.launch.new.place).world
    (drops_moved g.P.Place.child (launched_badly c.in-Err-launch.fault) c.args.store.now.folder (records_folder c.args.project.now) _ c.args.unit.now.key c.args.store.now.next c.launch.new.store.next (g.P.Place.at c.compare.new.place).world (g.P.Place.at c.args.place.now).world (g.P.Place.at c.launch.new.place).world c.requires.folder (c.new-key.ensures ∙ c.in-Ok.ensures) c.in-Ok-compare.ensures.quiet.world (c.in-Err-launch.ensures.record told)))

pub returns-in-Err-launch-clause-changes : goal.returns-in-Err-launch-clause-changes
returns-in-Err-launch-clause-changes g c =
    subst (λ (e : StepFault). ChangesUnit (records_folder c.args.project.now) c.args.unit.now.key None Begins (BeginFaults c.args.store.now.next) (Err e) (g.P.Place.at c.args.place.now) (g.P.Place.at c.launch.new.place)) (sym (bare_is _ c.in-Err-launch.fault c.unit_fault-in-Err-launch.result c.unit_fault-in-Err-launch.ensures))
    (changes_after Begins (BeginFaults c.args.store.now.next) (Err c.in-Err-launch.fault) _ _ _ (records_folder c.args.project.now) c.args.unit.now.key (g.P.Place.at c.args.place.now) (g.P.Place.at c.compare.new.place) (g.P.Place.at c.launch.new.place) c.in-Ok-compare.ensures.quiet.world c.in-Ok-compare.ensures.quiet.still c.in-Ok-compare.ensures.quiet.takes.0
    (changes_moved _ _ _ c.args.store.now.folder (records_folder c.args.project.now) _ c.args.unit.now.key None (g.P.Place.at c.compare.new.place) (g.P.Place.at c.launch.new.place) c.requires.folder (c.new-key.ensures ∙ c.in-Ok.ensures) c.in-Err-launch.ensures.changes)
    (begun_after c.args.store.now.next c.in-Err-launch.fault (g.P.Place.at c.args.place.now).counts (g.P.Place.at c.compare.new.place).counts (g.P.Place.at c.launch.new.place).counts c.in-Ok-compare.ensures.quiet.takes.1 c.in-Ok-compare.ensures.quiet.takes.0 c.in-Err-launch.ensures.changes.takes))
