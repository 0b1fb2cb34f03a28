use Rattle.pb_store.proofs.Ahead.{opened_ahead, opened_next}
use Rattle.pb_store.proofs.Called.{opens_by_listing, opens_by_reading}
use Rattle.pb_store.proofs.Held.{opened_held}
use Rattle.pb_store.proofs.LookingBy.{folder_opened, folder_unlisted, folder_unread}
use Rattle.pb_store.proofs.store.Store.open.Goals as goal

pub returns-in-Ok-greatest_of-clause-opens : goal.returns-in-Ok-greatest_of-clause-opens
returns-in-Ok-greatest_of-clause-opens g c told =
    let w = (g.P.Place.at c.args.place.now).world in
    let mid = (g.P.Place.at c.list_directly.new.self).world in
    let is = opened_next c.args.folder w mid _ _ _ c.in-Ok.ensures.looks.world (c.in-Ok.ensures.ok told) (c.in-Ok-greatest_of.ensures.ok told) c.number_after.ensures in
    record {
      next = is;
      ahead = opened_ahead c.args.folder w _ is;
      numbers = opened_held c.args.folder w mid _ _ _ c.in-Ok.ensures.looks.world (c.in-Ok.ensures.ok told) c.new-numbers.ensures (c.in-Ok-greatest_of.ensures.held told);
    }

pub returns-in-Err-clause-told : goal.returns-in-Err-clause-told
returns-in-Err-clause-told g c = opens_by_listing g.P.Place.is_modelled c.args.folder (g.P.Place.at c.args.place.now).world c.in-Err.fault _ c.open_error.ensures c.in-Err.ensures.looks.fault

pub returns-in-Err-greatest_of-clause-told : goal.returns-in-Err-greatest_of-clause-told
returns-in-Err-greatest_of-clause-told g c = opens_by_reading g.P.Place.is_modelled c.args.folder (g.P.Place.at c.args.place.now).world _ _ c.in-Ok.ensures.ok c.in-Err-greatest_of.ensures.told

pub returns-in-Ok-greatest_of-clause-looks : goal.returns-in-Ok-greatest_of-clause-looks
returns-in-Ok-greatest_of-clause-looks g c told = folder_opened c.args.folder (g.P.Place.at c.args.place.now).world _ _ _ _ (c.in-Ok.ensures.ok told) c.in-Ok.ensures.looks.counts c.in-Ok-greatest_of.ensures.looks

pub returns-in-Err-clause-looks : goal.returns-in-Err-clause-looks
returns-in-Err-clause-looks g c told = folder_unlisted c.args.folder (g.P.Place.at c.args.place.now).world c.in-Err.fault _ _ _ c.open_error.ensures c.in-Err.ensures.looks.fault c.in-Err.ensures.looks.counts

pub returns-in-Err-greatest_of-clause-looks : goal.returns-in-Err-greatest_of-clause-looks
returns-in-Err-greatest_of-clause-looks g c told = folder_unread c.args.folder (g.P.Place.at c.args.place.now).world _ _ _ _ _ (c.in-Ok.ensures.ok told) c.in-Ok.ensures.looks.counts c.in-Err-greatest_of.ensures.looks
