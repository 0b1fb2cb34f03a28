use Rattle.std.proofs.Common.{◌≡◌, ◌∙◌, ℕ, ◌==◌, true, false, List, [], ◌∷◌, length, refl, sym, arith}
use Rattle.std.proofs.lemmas.Bool.{eqb-true}
use Rattle.serde_json.specs.Read.{read}
use Rattle.serde_json.proofs.OnLiterals.{serde_json_on_literals}
use Rattle.pb_message.specs.Diagnostics.{reads_as_object}
use Rattle.pb_message.proofs.diagnostic.reads_as_object.Goals as goal

-- the empty text is no object
empty : (text : List ℕ) → (length text == 0) ≡ true → false ≡ reads_as_object (read text)
unfolding serde_json_on_literals
empty [] is = refl
empty (b ∷ text) is = let e : length (b ∷ text) ≡ 0 = eqb-true (length (b ∷ text)) 0 is in absurd (omega arith)

pub returns-then-is_empty : goal.returns-then-is_empty
returns-then-is_empty c = empty c.args.text.now (sym c.is_empty.ensures ∙ c.if-is_empty.true)
