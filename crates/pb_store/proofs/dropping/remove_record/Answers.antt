use Rattle.pb_place_types.specs.declared.call.Call.TheVariants as call
use Rattle.pb_store.proofs.Writing.{partly_left_at, removed_sound_at, partly_sound_at, removed_gone_at, removed_ahead_at, partly_ahead_at}
use Rattle.pb_store.proofs.Called.{ends_there}
use Rattle.pb_store.proofs.dropping.remove_record.Goals as goal

pub returns-in-Ok-remove-clause-record : goal.returns-in-Ok-remove-clause-record
returns-in-Ok-remove-clause-record g c told = record {
  sound = λ judge sound. removed_sound_at _ _ _ _ _ c.as_str.ensures.normal c.as_text.ensures.key _ _ _ (c.in-Ok-remove.ensures.ok told) c.in-Ok.ensures sound;
  stands = removed_gone_at _ _ _ c.as_text.ensures.key _ _ _ (c.in-Ok-remove.ensures.ok told) c.in-Ok.ensures;
  ahead = λ next ahead. removed_ahead_at _ _ _ _ c.as_str.ensures.normal c.as_text.ensures.key _ _ _ (c.in-Ok-remove.ensures.ok told) c.in-Ok.ensures ahead;
}

pub returns-clause-record : goal.returns-clause-record
returns-clause-record g c told = record {
  sound = λ judge sound. partly_sound_at _ _ _ _ _ c.as_str.ensures.normal c.as_text.ensures.key _ _ _ (c.in-Err-remove.ensures.err told) c.in-Ok.ensures sound;
  stands = partly_left_at _ _ _ c.as_text.ensures.key _ _ _ (c.in-Err-remove.ensures.err told) c.in-Ok.ensures;
  ahead = λ next ahead. partly_ahead_at _ _ _ _ c.as_str.ensures.normal c.as_text.ensures.key _ _ _ (c.in-Err-remove.ensures.err told) c.in-Ok.ensures ahead;
}

pub returns-clause-calls : goal.returns-clause-calls
returns-clause-calls g c = ends_there call.Remove _ _ _ _ _ c.in-Ok.ensures c.in-Err-remove.ensures.calls
