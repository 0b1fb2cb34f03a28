use Rattle.pb_store.proofs.LookingBy.{refused_after}
use Rattle.pb_store.proofs.keeping.kept_now.Goals as goal

pub returns-in-Err-clause-looks : goal.returns-in-Err-clause-looks
returns-in-Err-clause-looks g c is_modelled = refused_after _ _ _ (c.in_ok-inputs.ensures.looks is_modelled)

pub returns-in-Err-kept_of-clause-looks : goal.returns-in-Err-kept_of-clause-looks
returns-in-Err-kept_of-clause-looks g c is_modelled = refused_after _ _ _ (c.in_ok-inputs.ensures.looks is_modelled)
