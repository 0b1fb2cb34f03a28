-- Which faults a line may have, and which faults a text may have.
use Rattle.std.specs.Prelude.{ℕ, Result}
use Rattle.pb_data.specs.UnlessOom.{UnlessOom as GivesUnless}
use Rattle.pb_directive.specs.declared.fault.Problem.{Problem}
use Rattle.pb_directive.specs.declared.fault.Problem.TheVariants as problem
use Rattle.pb_directive.specs.declared.fault.LineFault.{LineFault}
use Rattle.pb_directive.specs.declared.fault.LineFault.TheVariants as fault

-- a line's problem as a fault of the text, with the line's number
abbrev pub fault_at : ℕ → Problem → LineFault
fault_at line problem.NotText = fault.NotText line
fault_at line problem.UnknownKey = fault.UnknownKey line
fault_at line problem.BadValue = fault.BadValue line
fault_at line problem.BadFlag = fault.BadFlag line
fault_at line problem.OutOfMemory = fault.OutOfMemory

-- the result is exactly the line's answer, unless memory ran out
abbrev pub LineGives : {T : Type 0} → Result T Problem → Result T Problem → Type 0
LineGives result answer = GivesUnless problem.OutOfMemory (λ x. x) result answer

-- the result is exactly the text's answer, unless memory ran out
abbrev pub TextGives : {T : Type 0} → Result T LineFault → Result T LineFault → Type 0
TextGives result answer = GivesUnless fault.OutOfMemory (λ x. x) result answer
