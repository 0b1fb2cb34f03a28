use Rattle.std.proofs.Common.{ap}
use Rattle.std.specs.List.{concat}
use Rattle.pb_place_types.specs.declared.call.Call.TheVariants as call
use Rattle.pb_record.proofs.ReadingLemmas.{reading_reads}
use Rattle.pb_store.proofs.Writing.{torn_left_at, written_sound_at, torn_sound_at, written_there_at, written_ahead_at, torn_ahead_at}
use Rattle.pb_store.proofs.Called.{ends_there}
use Rattle.pb_store.proofs.keeping.put_record.Goals as goal

pub returns-in-Ok-write-clause-record : goal.returns-in-Ok-write-clause-record
returns-in-Ok-write-clause-record g c told its = record {
  sound = λ judge number may sound. written_sound_at _ _ _ _ _ c.as_str.ensures.normal c.as_text.ensures.key _ _ _ _ _ _ _ (c.in-Ok-write.ensures.ok told) c.in-Ok.ensures (ap concat c.as_slice.ensures) reading_reads c.in-Ok-write_record_pieces.ensures may sound;
  stands = written_there_at _ _ _ c.as_text.ensures.key _ _ _ _ _ _ (c.in-Ok-write.ensures.ok told) c.in-Ok.ensures (ap concat c.as_slice.ensures) reading_reads c.in-Ok-write_record_pieces.ensures its;
  ahead = λ next before ahead. written_ahead_at _ _ _ _ c.as_str.ensures.normal c.as_text.ensures.key _ _ _ _ _ _ (c.in-Ok-write.ensures.ok told) c.in-Ok.ensures (ap concat c.as_slice.ensures) reading_reads c.in-Ok-write_record_pieces.ensures before ahead;
}

pub returns-clause-record : goal.returns-clause-record
returns-clause-record g c told its = record {
  sound = λ judge number may sound. torn_sound_at _ _ _ _ _ c.as_str.ensures.normal c.as_text.ensures.key _ _ _ _ _ _ _ (c.in-Err-write.ensures.err told) c.in-Ok.ensures (ap concat c.as_slice.ensures) reading_reads c.in-Ok-write_record_pieces.ensures may sound;
  stands = torn_left_at _ _ _ c.as_text.ensures.key _ _ _ _ _ _ (c.in-Err-write.ensures.err told) c.in-Ok.ensures (ap concat c.as_slice.ensures) reading_reads c.in-Ok-write_record_pieces.ensures its;
  ahead = λ next before ahead. torn_ahead_at _ _ _ _ c.as_str.ensures.normal c.as_text.ensures.key _ _ _ _ _ _ (c.in-Err-write.ensures.err told) c.in-Ok.ensures (ap concat c.as_slice.ensures) reading_reads c.in-Ok-write_record_pieces.ensures before ahead;
}

pub returns-clause-calls : goal.returns-clause-calls
returns-clause-calls g c = ends_there call.Write _ _ _ _ _ c.in-Ok.ensures c.in-Err-write.ensures.calls
