use Rattle.pb_record.proofs.NumberLemmas.{not_well, not_utf8, number_told}
use Rattle.pb_record.proofs.number.number_of.Goals as goal
use Rattle.std.proofs.Common.{sym, ◌∙◌, subst}
use Rattle.std.specs.Str.Parse.{ParsesUnsigned}

pub returns-then-not-begins_well : goal.returns-then-not-begins_well
returns-then-not-begins_well c = not_well c.args.digits.now (sym c.begins_well.ensures ∙ c.if-not-begins_well.true)

pub returns-in-Ok : goal.returns-in-Ok
returns-in-Ok c = number_told _ c.args.digits.now c.parse.result c.ok.result (sym c.begins_well.ensures ∙ c.if-not-begins_well.false) (subst (λ bs. ParsesUnsigned 64 10 bs c.parse.result) c.in-Ok.ensures.cases.0 c.parse.ensures.value.0) c.ok.ensures.value

pub returns-in-Err : goal.returns-in-Err
returns-in-Err c = not_utf8 c.args.digits.now c.in-Err.ensures.cases.0
