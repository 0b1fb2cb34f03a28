-- What a process is told of its variables.
use Rattle.std.proofs.Common.{◌≡◌, ◌∙◌, ℕ, List, cond, Some, ap, sym, inl, inr}
use Rattle.std.proofs.lemmas.Bool.{cases_Bool, false≢true}
use Rattle.std.proofs.lemmas.Slice.Eq.{bytes_eq-Decides}
use Rattle.std.specs.Str.{bytes_eq}
use Rattle.std.specs.Process.{command_var, SameOtherVars}
use Rattle.std.specs.declared.process.command.Command.{Command}

-- one variable is set, and each other is as it was
pub set_law : {A : Type 0} (old new : Command A) (name value : List ℕ) → command_var new name ≡ Some (Some value) → SameOtherVars old new name → (other : List ℕ) → command_var new other ≡ cond (bytes_eq name other) (Some (Some value)) (command_var old other)
set_law old new name value set others other =
    elim (cases_Bool (bytes_eq name other)) [
      | inl same ↦ ap (command_var new) (sym ((bytes_eq-Decides name other).0 same)) ∙ set ∙ sym (ap (λ b. cond b (Some (Some value)) (command_var old other)) same)
      | inr apart ↦ others other (λ is. false≢true (sym apart ∙ (bytes_eq-Decides name other).1 (sym is))) ∙ sym (ap (λ b. cond b (Some (Some value)) (command_var old other)) apart)
    ]
