use Rattle.std.proofs.Common.{◌∙◌, ap, ℕ, List, max}
use Rattle.std.specs.List.{fold}
use Rattle.pb_store.proofs.opening.greatest_said.Goals as goal

pub returns-in-Some : goal.returns-in-Some
returns-in-Some c = rw c.in-Some.is (c.greater.ensures ∙ ap (max c.in-Some.own) (c.greatest_among-named.ensures ∙ ap (λ (needs : List (List ℕ × ℕ)). fold (λ g (pair : List ℕ × ℕ). max g pair.1) 0 needs) c.as_slice.ensures))
