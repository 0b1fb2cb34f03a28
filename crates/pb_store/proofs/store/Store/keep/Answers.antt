use Rattle.std.proofs.Common.{[], ◌∷◌, ap, refl, sym, subst}
use Rattle.pb_place_types.specs.declared.call.Call.TheVariants as call
use Rattle.pb_place_types.proofs.CallsInTurn.{made_both}
use Rattle.pb_record.proofs.ReadingLemmas.{reading}
use Rattle.pb_record.specs.declared.record.Record.{Record}
use Rattle.pb_store_soundness.specs.Records.{number_of, record_path, records}
use Rattle.pb_store.specs.Looking.{StopsAt, kept_called, names_looked}
use Rattle.pb_store.specs.declared.fault.StoreFault.TheVariants.{OutOfMemory}
use Rattle.pb_store.proofs.Called.{no_look, no_write}
use Rattle.pb_store.proofs.Earned.{may_keep, kept_before}
use Rattle.pb_store.proofs.Held.{held_put, noted_so}
use Rattle.pb_store.proofs.Looking.{stops_first, stops_then}
use Rattle.pb_store.proofs.LookingBy.{ends_stops, refused_after}
use Rattle.pb_store.proofs.Put.{puts_on}
use Rattle.pb_store.proofs.store.Store.keep.Goals as goal

pub returns-in-Ok-put_still-clause-record : goal.returns-in-Ok-put_still-clause-record
returns-in-Ok-put_still-clause-record g c told =
    let same = c.in-Ok.ensures.quiet.world in
    let kept_is = c.in-Ok.ensures.ok (records c.args.self.now.folder (g.P.Place.at c.args.place.now).world) told (c.requires.numbers told) in
    let its = ap (λ (r : Record). r.key) kept_is in
    let put = puts_on _ _ _ _ _ _ _ _ _ same kept_is (c.in-Ok-put_still.ensures.record told its) in
    record {
      sound = λ judge may. put.sound judge c.args.number (may_keep _ _ _ _ _ _ _ _ _ _ _ _ refl c.as_str.ensures.normal c.as_text-text.ensures.key c.requires.out may refl);
      stands = put.stands;
      ahead = λ before has. put.ahead c.args.self.now.next (kept_before _ _ _ _ c.args.command.now _ _ _ c.args.ended.now _ before has refl);
      numbers = held_put reading c.args.self.now.folder c.args.key.now c.as_text-text.ensures.key (g.P.Place.at c.args.place.now).world (g.P.Place.at c.kept_now.new.place).world (g.P.Place.at c.put_still.new.place).world c.args.self.now.numbers c.note.new.numbers c.in-Ok.kept c.args.number
          same c.in-Ok-put_still.ensures.only.only (c.in-Ok-put_still.ensures.record told its).stands (ap number_of kept_is) (noted_so _ _ _ _ _ c.as_text-text.ensures.text c.in-Ok-note.ensures.ok) (c.requires.numbers told);
      looked = tt;
    }

pub returns-in-Err-put_still-clause-record : goal.returns-in-Err-put_still-clause-record
returns-in-Err-put_still-clause-record g c told =
    let same = c.in-Ok.ensures.quiet.world in
    let kept_is = c.in-Ok.ensures.ok (records c.args.self.now.folder (g.P.Place.at c.args.place.now).world) told (c.requires.numbers told) in
    let put = puts_on _ _ _ _ _ _ _ _ _ same kept_is (c.in-Err-put_still.ensures.record told (ap (λ (r : Record). r.key) kept_is)) in
    record {
      sound = λ judge may. put.sound judge c.args.number (may_keep _ _ _ _ _ _ _ _ _ _ _ _ refl c.as_str.ensures.normal c.as_text-text.ensures.key c.requires.out may refl);
      stands = put.stands;
      ahead = λ before has. put.ahead c.args.self.now.next (kept_before _ _ _ _ c.args.command.now _ _ _ c.args.ended.now _ before has refl);
      numbers = tt;
      looked = λ look. absurd (no_look _ c.in-Err-put_still.ensures.only.takes.1.0 look);
    }

pub returns-in-Err-clause-calls : goal.returns-in-Err-clause-calls
returns-in-Err-clause-calls g c told = stops_first c.in-Err.fault (names_looked c.args.command.now.target (g.P.Place.at c.args.place.now).world c.args.names.now) _ _ _ (c.in-Err.ensures.looks told)

pub returns-in-Ok-put_still-clause-calls : goal.returns-in-Ok-put_still-clause-calls
returns-in-Ok-put_still-clause-calls g c told =
    made_both (names_looked c.args.command.now.target (g.P.Place.at c.args.place.now).world c.args.names.now) _ (g.P.Place.at c.args.place.now).counts _ _ (c.in-Ok.ensures.looks told) (c.in-Ok-put_still.ensures.calls told)

pub returns-in-Err-put_still-clause-calls : goal.returns-in-Err-put_still-clause-calls
returns-in-Err-put_still-clause-calls g c told =
    stops_then c.in-Err-put_still.fault (names_looked c.args.command.now.target (g.P.Place.at c.args.place.now).world c.args.names.now) _ (g.P.Place.at c.args.place.now).counts _ _ (c.in-Ok.ensures.looks told)
    (ends_stops _ _ _ _ c.in-Err-put_still.ensures.only.takes.1.0 (c.in-Err-put_still.ensures.calls told))

pub returns-in-Err-note-clause-calls : goal.returns-in-Err-note-clause-calls
returns-in-Err-note-clause-calls g c told =
    let names = names_looked c.args.command.now.target (g.P.Place.at c.args.place.now).world c.args.names.now in
    subst (λ e. StopsAt e (kept_called c.args.self.now.folder c.args.key.now c.args.command.now.target (g.P.Place.at c.args.place.now).world c.args.names.now) (g.P.Place.at c.args.place.now).counts (g.P.Place.at c.kept_now.new.place).counts) (sym c.in-Err-note.ensures.fault)
    (stops_first OutOfMemory names (call.Write (record_path c.args.self.now.folder c.args.key.now) ∷ []) _ _ (refused_after names _ _ (c.in-Ok.ensures.looks told)))

pub returns-in-Err-clause-written : goal.returns-in-Err-clause-written
returns-in-Err-clause-written g c is = absurd (no_write _ c.in-Err.ensures.quiet.takes.1.0 is)
