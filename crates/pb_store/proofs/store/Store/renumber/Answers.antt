use Rattle.std.proofs.Common.{◌∙◌, ap, refl}
use Rattle.pb_record.proofs.ReadingLemmas.{reading}
use Rattle.pb_record.specs.declared.record.Record.{Record}
use Rattle.pb_store_soundness.specs.Records.{number_of, records}
use Rattle.pb_store.specs.Folder.{numbered_record}
use Rattle.pb_store.proofs.Called.{named_once}
use Rattle.pb_store.proofs.Held.{held_put, noted_so, numbered_held}
use Rattle.pb_store.proofs.Migrated.{renumbers, stands_by_key}
use Rattle.pb_store.proofs.Put.{puts_on}
use Rattle.pb_store.proofs.store.Store.renumber.Goals as goal

pub returns-in-Ok-put_record-clause-record : goal.returns-in-Ok-put_record-clause-record
returns-in-Ok-put_record-clause-record g c told =
    let folder = c.args.self.now.folder in
    let old = (g.P.Place.at c.args.place.now).world in
    let new = (g.P.Place.at c.put_record.new.place).world in
    let kept_is = c.numbered_record-kept.ensures ∙ ap (numbered_record c.args.kept c.in-Some.number) (c.in-Ok.ensures ∙ numbered_held (records folder old) c.args.self.now.numbers (c.requires.numbers told) c.args.needs.now) in
    let its = ap (λ (r : Record). r.key) kept_is ∙ stands_by_key folder c.args.key.now old c.args.kept (c.requires.found told) in
    let put = c.in-Ok-put_record.ensures.record told its in
    renumbers g.P.Place.child c.args.key.now c.args.needs.now _ _ old new c.args.kept c.in-Some.number c.as_str.ensures.normal c.as_text-text.ensures.key (c.requires.found told) c.requires.lacks c.in-Some.is c.number_after-self.ensures
    _ (puts_on _ _ _ _ _ _ old old new refl kept_is put) tt
    (held_put reading folder c.args.key.now c.as_text-text.ensures.key old old new c.args.self.now.numbers c.note.new.numbers c.numbered_record-kept.result c.in-Some.number refl c.in-Ok-put_record.ensures.only.only put.stands (ap number_of kept_is)
    (noted_so _ _ _ _ _ c.as_text-text.ensures.text c.in-Ok-note.ensures.ok) (c.requires.numbers told))

pub returns-in-Err-put_record-clause-record : goal.returns-in-Err-put_record-clause-record
returns-in-Err-put_record-clause-record g c told =
    let folder = c.args.self.now.folder in
    let old = (g.P.Place.at c.args.place.now).world in
    let new = (g.P.Place.at c.put_record.new.place).world in
    let kept_is = c.numbered_record-kept.ensures ∙ ap (numbered_record c.args.kept c.in-Some.number) (c.in-Ok.ensures ∙ numbered_held (records folder old) c.args.self.now.numbers (c.requires.numbers told) c.args.needs.now) in
    let its = ap (λ (r : Record). r.key) kept_is ∙ stands_by_key folder c.args.key.now old c.args.kept (c.requires.found told) in
    renumbers g.P.Place.child c.args.key.now c.args.needs.now _ _ old new c.args.kept c.in-Some.number c.as_str.ensures.normal c.as_text-text.ensures.key (c.requires.found told) c.requires.lacks c.in-Some.is c.number_after-self.ensures
    _ (puts_on _ _ _ _ _ _ old old new refl kept_is (c.in-Err-put_record.ensures.record told its)) c.in-Err-put_record.ensures.only.takes.1.0 tt

pub returns-in-Err-put_record-clause-written : goal.returns-in-Err-put_record-clause-written
returns-in-Err-put_record-clause-written g c is = named_once _ _ _ _ c.in-Err-put_record.ensures.calls is
