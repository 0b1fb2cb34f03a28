use Rattle.pb_record.specs.Grammar.{input_bytes}
use Rattle.pb_record.specs.Parts.{IsInput}
use Rattle.pb_record.specs.declared.record.Input.TheVariants.{File}
use Rattle.pb_record.proofs.SkipLemmas.{some_as}
use Rattle.pb_record.proofs.InputLemmas.{file_stands, no_file}
use Rattle.pb_record.proofs.inputs.skip_file.Goals as goal

pub returns-in-Ok-Some : goal.returns-in-Ok-Some
returns-in-Ok-Some c = some_as IsInput input_bytes (λ p. File p.0 p.1) (λ p there. file_stands there) (rw c.in-Ok-Some.field-0-is at c.in-Ok-Some.ensures)

pub returns-in-Ok-None : goal.returns-in-Ok-None
returns-in-Ok-None c = no_file (rw c.in-Ok-None.field-0-is at c.in-Ok-None.ensures)
