use Rattle.std.proofs.Common.{Ok, Err, ap, refl}
use Rattle.pb_run.proofs.Naming.{bare_is}
use Rattle.pb_run.proofs.Parts.{answered_whole}
use Rattle.pb_run.proofs.Telling.{told_fault}
use Rattle.pb_run.proofs.unit_steps.answer_unit.Goals as goal

pub returns-in-Err-clause-told : goal.returns-in-Err-clause-told
returns-in-Err-clause-told g c = record {
  answer = Err c.in-Err.fault;
  answered = answered_whole c.args.begun _ _ _ _ _ _ _ _ _ _ (Err c.in-Err.fault) c.in-Err.ensures;
  told = ap told_fault (bare_is _ c.in-Err.fault c.unit_fault.result c.unit_fault.ensures);
}

pub returns-in-Ok-outcome_of-clause-told : goal.returns-in-Ok-outcome_of-clause-told
returns-in-Ok-outcome_of-clause-told g c = record {
  answer = Ok c.in-Ok.ran;
  answered = answered_whole c.args.begun _ _ _ _ _ _ _ _ _ _ (Ok c.in-Ok.ran) c.in-Ok.ensures;
  told = c.in-Ok-outcome_of.ensures;
}

-- Memory for its lines was refused.
pub returns-clause-told : goal.returns-clause-told
returns-clause-told g c = record {
  answer = Ok c.in-Ok.ran;
  answered = answered_whole c.args.begun _ _ _ _ _ _ _ _ _ _ (Ok c.in-Ok.ran) c.in-Ok.ensures;
  told = refl;
}
