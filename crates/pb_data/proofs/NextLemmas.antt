-- The fault of the next value is that of the two.
use Rattle.std.proofs.Common.{◌≡◌, Result, Ok, Err, MatchResult, IfErr, subst}

pub next_failed : {A B E : Type 0} (P : E → Type 0) (value : A) (next : Result B E) (pair : Result (A × B) E) (fault : E) → MatchResult next (λ n. pair ≡ Ok (value, n)) (λ e. pair ≡ Err e) → IfErr next P → pair ≡ Err fault → P fault
next_failed P value (Ok n) pair fault is holds failed = absurd cc
next_failed {A} {B} {E} P value (Err e) pair fault is holds failed =
    let same : e ≡ fault = cc in
    subst P same holds
