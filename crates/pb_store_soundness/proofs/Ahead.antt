-- Run numbers: the next one is above all that records name.
use Rattle.std.proofs.Common.{◌<◌, ◌+◌, ◌==◌, ◌∙◌, ℕ, Some, None, sym, subst, cond, inl, inr, arith}
use Rattle.std.proofs.lemmas.Bool.{cases_Bool}
use Rattle.pb_store_soundness.specs.Numbers.{after, IsBefore, StaysAheadLaw, GivenAheadLaw, NextIsNewLaw}
use Rattle.pb_store_soundness.proofs.Becoming.{none_some}

pub stays_ahead : StaysAheadLaw
stays_ahead old new next each ahead key r there = elim (each key) [
  | inl gone ↦ absurd (none_some r (sym gone ∙ there))
  | inr more ↦ elim more [
    | inl same ↦ ahead key r (sym same ∙ there)
    | inr said ↦ said r there
  ]
]

-- what is below a number is below the one after it, and so is the number itself
before_after : (number n : ℕ) → n < number → IsBefore (after number) n
before_after number n less = elim (cases_Bool (number == 0xffff_ffff_ffff_ffff)) [
  | inl last ↦ subst (λ b. IsBefore (cond b None (Some (number + 1))) n) (sym last) tt
  | inr more ↦ let lt : n < number + 1 = omega arith in subst (λ b. IsBefore (cond b None (Some (number + 1))) n) (sym more) lt
]

given_before : (number : ℕ) → IsBefore (after number) number
given_before number = elim (cases_Bool (number == 0xffff_ffff_ffff_ffff)) [
  | inl last ↦ subst (λ b. IsBefore (cond b None (Some (number + 1))) number) (sym last) tt
  | inr more ↦ let lt : number < number + 1 = omega arith in subst (λ b. IsBefore (cond b None (Some (number + 1))) number) (sym more) lt
]

pub given_ahead : GivenAheadLaw
given_ahead at number ahead = (
  λ key r there. record {
    own = λ n is. before_after number n ((ahead key r there).own n is);
    named = λ need n has. before_after number n ((ahead key r there).named need n has);
  },
  given_before number,
)

not_less : (n : ℕ) → n < n → ⊥
not_less n less = omega (arith, less)

pub next_is_new : NextIsNewLaw
next_is_new at number ahead = (
  λ key r there. (λ is. not_less number ((ahead key r there).own number is), λ need has. not_less number ((ahead key r there).named need number has)),
  λ key r n there is. (ahead key r there).own n is,
)
