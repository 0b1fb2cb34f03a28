use Rattle.std.proofs.Common.{◌≡◌, ◌<◌, ◌≤◌, arith, Bor, List, [], ◌∷◌, ℕ, false, length, map, refl}
use Rattle.pb_tool_clean.specs.Names.{is_record}
use Rattle.pb_tool_clean.proofs.names.is_record.Goals as goal

fewer : (words : List (Bor (List ℕ))) → length words < 4 → false ≡ is_record (map (λ word. word.now) words)
fewer [] few = refl
fewer (a ∷ []) few = refl
fewer (a ∷ b ∷ []) few = refl
fewer (a ∷ b ∷ c ∷ []) few = refl
fewer (a ∷ b ∷ c ∷ d ∷ words) few = absurd (omega arith)

more : (words : List (Bor (List ℕ))) → 5 ≤ length words → false ≡ is_record (map (λ word. word.now) words)
more [] many = refl
more (a ∷ []) many = refl
more (a ∷ b ∷ []) many = refl
more (a ∷ b ∷ c ∷ []) many = refl
more (a ∷ b ∷ c ∷ d ∷ []) many = absurd (omega arith)
more (a ∷ b ∷ c ∷ d ∷ e ∷ words) many = refl

pub returns-in_default : goal.returns-in_default
returns-in_default c = fewer c.args.words.now c.in_default.len_below

pub returns-in_default-2 : goal.returns-in_default-2
returns-in_default-2 c = more c.args.words.now c.in_default.len_at_least
