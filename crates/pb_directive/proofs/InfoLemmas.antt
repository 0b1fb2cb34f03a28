-- Lemmas on what dep-info names.
use Rattle.std.proofs.Common.{◌≡◌, ℕ, ◌+◌, List, ◌∷◌, Ok, Err, Result, refl, sym, ◌∙◌, ap}
use Rattle.pb_data.specs.UnlessOom.{◌>>=◌, lifted}
use Rattle.pb_data.proofs.MentionLemmas.{mentioned_all-append, mentioned_all-once}
use Rattle.pb_directive.specs.Faults.{fault_at}
use Rattle.pb_directive.specs.DepInfo.{nothing, joined, line_info, info_from, each_once, with_info}
use Rattle.pb_directive.specs.declared.dep_info.DepInfo.{DepInfo}
use Rattle.pb_directive.specs.declared.fault.Problem.{Problem}
use Rattle.pb_directive.specs.declared.fault.LineFault.{LineFault}

with_joined : (old here more : DepInfo) → with_info old (joined here more) ≡ with_info (with_info old here) more
with_joined old here more = λ i. record {
  words = mentioned_all-append old.words here.words more.words i;
  variables = mentioned_all-append old.variables here.variables more.variables i;
}

with_nothing : (info : DepInfo) → with_info nothing info ≡ each_once info
with_nothing info = λ i. record { words = mentioned_all-once info.words i; variables = mentioned_all-once info.variables i }

-- what a line named was added, and the later lines are still to come
then_info : (wrap : Problem → LineFault) (r : Result DepInfo Problem) (later : Result DepInfo LineFault) (old new : DepInfo) → (r >>= (λ more. Ok (with_info old more))) ≡ Ok new
    → ((lifted wrap r >>= (λ here. later >>= (λ more. Ok (joined here more)))) >>= (λ more. Ok (with_info old more))) ≡ (later >>= (λ more. Ok (with_info new more)))
then_info wrap (Ok here) (Ok more) old new added =
    let is : with_info old here ≡ new = cc in
    ap Ok (with_joined old here more ∙ ap (λ n. with_info n more) is)
then_info wrap (Ok here) (Err e) old new added = refl
then_info wrap (Err e) later old new added = absurd (cc)

-- a step over a line
pub info_step : (whole : Result DepInfo LineFault) (number : ℕ) (old new : DepInfo) (lines rest : List (List ℕ)) (line : List ℕ)
    → (info_from number lines >>= (λ more. Ok (with_info old more))) ≡ whole → lines ≡ line ∷ rest → (line_info line >>= (λ more. Ok (with_info old more))) ≡ Ok new
    → (info_from (number + 1) rest >>= (λ more. Ok (with_info new more))) ≡ whole
info_step whole number old new lines rest line so_far at added =
    sym (then_info (fault_at number) (line_info line) (info_from (number + 1) rest) old new added)
    ∙ ap (λ ls. info_from number ls >>= (λ more. Ok (with_info old more))) (sym at) ∙ so_far

-- before the first line
pub info_start : (r : Result DepInfo LineFault) → (r >>= (λ more. Ok (with_info nothing more))) ≡ (r >>= (λ info. Ok (each_once info)))
info_start (Ok info) = ap Ok (with_nothing info)
info_start (Err e) = refl

-- at a line with a fault
pub info_fault : (whole : Result DepInfo LineFault) (number : ℕ) (old : DepInfo) (lines rest : List (List ℕ)) (line : List ℕ) (e : Problem)
    → (info_from number lines >>= (λ more. Ok (with_info old more))) ≡ whole → lines ≡ line ∷ rest → line_info line ≡ Err e → whole ≡ Err (fault_at number e)
info_fault whole number old lines rest line e so_far at fails =
    sym so_far ∙ ap (λ ls. info_from number ls >>= (λ more. Ok (with_info old more))) at
    ∙ ap (λ (r : Result DepInfo Problem). (lifted (fault_at number) r >>= (λ here. info_from (number + 1) rest >>= (λ more. Ok (joined here more)))) >>= (λ more. Ok (with_info old more))) fails
