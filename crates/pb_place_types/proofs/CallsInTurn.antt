-- Lemmas on calls in turn: one row behind another, and which call a fault tells.
use Rattle.std.proofs.Common.{◌≡◌, ◌∙◌, ◌++◌, ◌+◌, ◌≤◌, inl, inr, ℕ, suc, List, [], ◌∷◌, length, refl, sym, ap, subst, arith}
use Rattle.pb_place_types.specs.declared.call.Call.{Call}
use Rattle.pb_place_types.specs.CallsInTurn.{FailsAt, FaultTellsTurn, MakesSome, past_calls}
use Rattle.pb_place_types.specs.Counts.{Counts, past_call, up}
use Rattle.pb_place_types.specs.declared.place.PlaceFault.{PlaceFault}
use Rattle.pb_place_types.proofs.Failing.{call_tells_fault}

pub append_none : {A : Type 0} (xs : List A) → xs ++ [] ≡ xs
append_none [] = refl
append_none (x ∷ xs) = ap (λ ys. x ∷ ys) (append_none xs)

pub past_calls-append : (a b : List Call) (c : Counts) → past_calls (a ++ b) c ≡ past_calls b (past_calls a c)
past_calls-append [] b c = refl
past_calls-append (call ∷ a) b c = past_calls-append a b (past_call c)

-- both are made
pub made_both : (a b : List Call) (old mid new : Counts) → mid ≡ past_calls a old → new ≡ past_calls b mid → new ≡ past_calls (a ++ b) old
made_both a b old mid new first second = second ∙ ap (past_calls b) first ∙ sym (past_calls-append a b old)

-- the first few of some calls
pub some_none : (calls : List Call) (c : Counts) → MakesSome calls c c
some_none [] c = refl
some_none (call ∷ calls) c = inl refl

pub some_all : (calls : List Call) (c : Counts) → MakesSome calls c (past_calls calls c)
some_all [] c = refl
some_all (call ∷ calls) c = inr (some_all calls (past_call c))

pub some_left : (a b : List Call) (old new : Counts) → MakesSome a old new → MakesSome (a ++ b) old new
some_left [] b old new is = subst (λ c. MakesSome b old c) (sym is) (some_none b old)
some_left (call ∷ a) b old new (inl is) = inl is
some_left (call ∷ a) b old new (inr is) = inr (some_left a b (past_call old) new is)

pub some_right : (a b : List Call) (old mid new : Counts) → mid ≡ past_calls a old → MakesSome b mid new → MakesSome (a ++ b) old new
some_right [] b old mid new is some = subst (λ c. MakesSome b c new) is some
some_right (call ∷ a) b old mid new is some = inr (some_right a b (past_call old) mid new is some)

-- one of them failed
pub fails_left : (fault : PlaceFault) (a b : List Call) (old new : Counts) → FailsAt fault a old new → FailsAt fault (a ++ b) old new
fails_left fault [] b old new is = absurd is
fails_left fault (call ∷ a) b old new (inl is) = inl is
fails_left fault (call ∷ a) b old new (inr is) = inr (fails_left fault a b (past_call old) new is)

pub fails_right : (fault : PlaceFault) (a b : List Call) (old mid new : Counts) → mid ≡ past_calls a old → FailsAt fault b mid new → FailsAt fault (a ++ b) old new
fails_right fault [] b old mid new is fails = subst (λ c. FailsAt fault b c new) is fails
fails_right fault (call ∷ a) b old mid new is fails = inr (fails_right fault a b (past_call old) mid new is fails)

-- one more can be counted
counts_up : (n m : ℕ) → n + suc m ≤ 0xffff_ffff_ffff_ffff → up n ≡ n + 1
counts_up n m fits = omega arith

pub fault_tells_turn : FaultTellsTurn
fault_tells_turn fault [] old new real fits fails = absurd fails
fault_tells_turn fault (call ∷ calls) old new real fits (inl is) =
    let told = is.1 ∙ call_tells_fault call fault old real in
    record {
      before = [];
      call = call;
      behind = calls;
      row = refl;
      told = ap (λ (c : Counts). c.failing) told;
      own = is.0;
      turn = ap (λ (c : Counts). c.calls) told ∙ counts_up old.calls (length calls) fits ∙ omega arith;
    }
fault_tells_turn fault (call ∷ calls) old new real fits (inr is) =
    let more = counts_up old.calls (length calls) fits in
    let rest = fault_tells_turn fault calls (past_call old) new real (subst (λ n. n + length calls ≤ 0xffff_ffff_ffff_ffff) (sym more) (omega arith)) is in
    record {
      before = call ∷ rest.before;
      call = rest.call;
      behind = rest.behind;
      row = ap (λ cs. call ∷ cs) rest.row;
      told = rest.told;
      own = rest.own;
      turn = rest.turn ∙ ap (λ n. n + length rest.before + 1) more ∙ omega arith;
    }
