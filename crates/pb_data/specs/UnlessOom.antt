-- What a call returns, unless memory runs out.
--
-- A definition describes a call's whole answer as a `Result`: the value, or the first fault. Memory
-- may run out whenever something grows. So a contract allows out of memory at any time, and states
-- everything else.
use Rattle.std.specs.Prelude.{◌≡◌, ◌≢◌, Result, Ok, Err, MatchResult, Option, Some, None}

-- Unless memory ran out, the definition's answer is the call's result: the same fault, or `shows`
-- of the call's value.
abbrev pub UnlessOom : {T A E : Type 0} → E → (T → A) → Result T E → Result A E → Type 0
UnlessOom memory shows result answer = MatchResult result (λ x. answer ≡ Ok (shows x)) (λ e. e ≢ memory → answer ≡ Err e)

infixl 10 ◌>>=◌
-- The answer of two steps. If the first step has a fault, this fault is the answer. Otherwise the
-- second step gets the first step's value.
abbrev pub ◌>>=◌ : {A B E : Type 0} → Result A E → (A → Result B E) → Result B E
(Ok x) >>= f = f x
(Err e) >>= f = Err e

-- the same answer, but a fault of the lower layer is wrapped in a fault of the upper layer
abbrev pub lifted : {A E F : Type 0} → (E → F) → Result A E → Result A F
lifted wrap (Ok x) = Ok x
lifted wrap (Err e) = Err (wrap e)

-- the option's value, or the given fault if the option has no value
abbrev pub some_or : {A E : Type 0} → E → Option A → Result A E
some_or fault None = Err fault
some_or fault (Some x) = Ok x
