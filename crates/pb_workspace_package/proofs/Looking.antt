-- What steps look at, one after the other.
use Rattle.std.proofs.Common.{◌≡◌, ◌∙◌, ◌++◌, ℕ, true, false, List, Result, Ok, Err, sym, ap, subst}
use Rattle.std.proofs.lemmas.Bool.{false≢true}
use Rattle.pb_place_types.specs.CallsInTurn.{FailsAt, MakesSome, past_calls}
use Rattle.pb_place_types.specs.declared.call.Call.{Call}
use Rattle.pb_place_types.specs.Counts.{Counts}
use Rattle.pb_place_types.specs.declared.place.PlaceFault.{PlaceFault}
use Rattle.pb_place_types.proofs.CallsInTurn.{append_none, fails_left, fails_right, made_both, some_all, some_left, some_none, some_right}
use Rattle.pb_workspace_types.specs.declared.fault.LoadFault.{LoadFault}
use Rattle.pb_workspace_types.specs.declared.fault.LoadFault.TheVariants.{Place}
use Rattle.pb_workspace_package.specs.Causes.{is_failure, is_outside}
use Rattle.pb_workspace_package.specs.Looks.{after, FailsOn, Looks}

-- a call that failed among some is one among others, where its fault says so
fails_on : (e : LoadFault) (some others : List Call) (old mid new : Counts) → ((fault : PlaceFault) → FailsAt fault some mid new → FailsAt fault others old new) → FailsOn e some mid new → FailsOn e others old new
fails_on (Place path fault) some others old mid new so is = so fault is
fails_on _ some others old mid new so is = is

fails_on_left : (e : LoadFault) (a b : List Call) (old new : Counts) → FailsOn e a old new → FailsOn e (a ++ b) old new
fails_on_left e a b old new is = fails_on e a (a ++ b) old old new (λ fault at. fails_left fault a b old new at) is

fails_on_right : (e : LoadFault) (a b : List Call) (old mid new : Counts) → mid ≡ past_calls a old → FailsOn e b mid new → FailsOn e (a ++ b) old new
fails_on_right e a b old mid new first is = fails_on e b (a ++ b) old mid new (λ fault at. fails_right fault a b old mid new first at) is

-- a fault is told, whatever the value would have been
abbrev pub Ends : LoadFault → List Call → Counts → Counts → Type 0
Ends e calls old new = Looks {T = ℕ} (Err e) calls old new

-- a fault of no call, after all of them
pub looks_all : (e : LoadFault) (calls : List Call) (old new : Counts) → is_failure e ≡ false → new ≡ past_calls calls old → Ends e calls old new
looks_all e calls old new here are = (λ inside. are, (λ _. subst (λ c. MakesSome calls old c) (sym are) (some_all calls old)), λ failed. absurd (false≢true (sym here ∙ failed)))

-- want of memory, before the first of them
pub looks_none : (e : LoadFault) (calls : List Call) (old new : Counts) → is_outside e ≡ true → is_failure e ≡ false → new ≡ old → Ends e calls old new
looks_none e calls old new outside here same = (λ inside. absurd (false≢true (sym inside ∙ outside)), (λ _. subst (λ c. MakesSome calls old c) (sym same) (some_none calls old)), λ failed. absurd (false≢true (sym here ∙ failed)))

-- a second step that makes some calls, after a first that made others
pub looks_both : {T : Type 0} (result : Result T LoadFault) (a b : List Call) (old mid new : Counts) → mid ≡ past_calls a old → Looks result b mid new → Looks result (a ++ b) old new
looks_both (Ok x) a b old mid new first second = made_both a b old mid new first second
looks_both (Err e) a b old mid new first second = (
  λ told. made_both a b old mid new first (second.0 told),
  (λ here. some_right a b old mid new first (second.1 here)),
  λ failed. fails_on_right e a b old mid new first (second.2 failed),
)

pub ends_both : (e : LoadFault) (a b : List Call) (old mid new : Counts) → mid ≡ past_calls a old → Ends e b mid new → Ends e (a ++ b) old new
ends_both e a b old mid new first second = looks_both {T = ℕ} (Err e) a b old mid new first second

-- the same, where the second depends on what the first gave
pub looks_then : {A T : Type 0} (result : Result T LoadFault) (answer : Result A LoadFault) (x : A) (next : A → List Call) (a : List Call) (old mid new : Counts)
    → answer ≡ Ok x → mid ≡ past_calls a old → Looks result (next x) mid new → Looks result (a ++ after answer next) old new
looks_then result answer x next a old mid new is first second = subst (λ r. Looks result (a ++ after r next) old new) (sym is) (looks_both result a (next x) old mid new first second)

-- a first step's fault from outside ends it
pub looks_first : (e : LoadFault) (a b : List Call) (old new : Counts) → is_outside e ≡ true → Ends e a old new → Ends e (a ++ b) old new
looks_first e a b old new outside first = (
  λ inside. absurd (false≢true (sym inside ∙ outside)),
  (λ here. some_left a b old new (first.1 here)),
  λ failed. fails_on_left e a b old new (first.2 failed),
)

-- a first step's fault ends it, whatever it is
pub looks_no_further : {A : Type 0} (e : LoadFault) (answer : Result A LoadFault) (next : A → List Call) (a : List Call) (old new : Counts)
    → (is_outside e ≡ false → answer ≡ Err e) → Ends e a old new → Ends e (a ++ after answer next) old new
looks_no_further e answer next a old new told first = (
  λ inside. first.0 inside ∙ sym (ap (λ r. past_calls (a ++ after r next) old) (told inside) ∙ ap (λ ps. past_calls ps old) (append_none a)),
  (λ here. some_left a (after answer next) old new (first.1 here)),
  λ failed. fails_on_left e a (after answer next) old new (first.2 failed),
)
