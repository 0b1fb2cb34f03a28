-- Lemmas on the directives of a text.
use Rattle.std.proofs.Common.{◌≡◌, ℕ, ◌+◌, List, ◌∷◌, ◌++◌, Ok, Result, sym, ◌∙◌, ap}
use Rattle.pb_data.specs.UnlessOom.{◌>>=◌}
use Rattle.pb_directive.specs.Faults.{fault_at}
use Rattle.pb_directive.specs.Directives.{line_directives, directives_from}
use Rattle.pb_directive.specs.declared.directive.Directive.{Directive}
use Rattle.pb_directive.specs.declared.fault.LineFault.{LineFault}
use Rattle.pb_directive.proofs.ThenLemmas.{then_line}

-- a step over a line
pub directives_step : (whole : Result (List Directive) LineFault) (number : ℕ) (done new : List Directive) (lines rest : List (List ℕ)) (line : List ℕ)
    → (directives_from number lines >>= (λ more. Ok (done ++ more))) ≡ whole → lines ≡ line ∷ rest → (line_directives line >>= (λ more. Ok (done ++ more))) ≡ Ok new
    → (directives_from (number + 1) rest >>= (λ more. Ok (new ++ more))) ≡ whole
directives_step whole number done new lines rest line so_far at added =
    sym (then_line (fault_at number) (line_directives line) (directives_from (number + 1) rest) done new added)
    ∙ ap (λ ls. directives_from number ls >>= (λ more. Ok (done ++ more))) (sym at) ∙ so_far
