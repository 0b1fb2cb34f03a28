use Rattle.std.proofs.Common.{rules, refl}
use Rattle.pb_record.proofs.ReadingLemmas.{reading}
use Rattle.pb_store.proofs.Held.{held_dropped, noted_so}
use Rattle.pb_store.proofs.Writing.{dropped_ahead}
use Rattle.pb_store.proofs.store.Store.drop_record.Goals as goal

pub returns-clause-record : goal.returns-clause-record
returns-clause-record g c told = record {
  sound = search rules;
  stands = search rules;
  ahead = dropped_ahead _ _ _ _ c.in-Some.number c.in-Some.is c.number_after-self.ensures (c.in_ok-remove_record.ensures.record told).ahead;
  numbers = held_dropped reading c.args.self.now.folder c.args.key.now c.as_text.ensures.key (g.P.Place.at c.args.place.now).world (g.P.Place.at c.args.place.now).world (g.P.Place.at c.remove_record.new.place).world c.args.self.now.numbers c.note.new.numbers refl
      c.in_ok-remove_record.ensures.only.only (c.in_ok-remove_record.ensures.record told).stands (noted_so _ _ _ _ _ c.as_text.ensures.text c.in_ok-note.ensures.ok) (c.requires.numbers told);
  spent = search rules;
}
