use Rattle.std.proofs.Common.{◌≡◌, ◌∙◌, ◌++◌, ◌+◌, List, [], ℕ, Bool, sym, ap, drop, append_assoc, append-nil, Some, Vec, Global, arith}
use Rattle.pb_run_flight.specs.Table.{if_so, ready_from, ready_of}
use Rattle.pb_run_flight.specs.Working.{opening}
use Rattle.pb_run_flight.proofs.Ready.{opens_none, opens_some, ready_bad, ready_skip, ready_far}
use Rattle.pb_run_flight.proofs.flight.ready_of.Goals as goal
use Rattle.pb_run_flight.proofs.flight.ready_of.Goals.{then-begins+in_ok-push, else-begins}

-- what has been found goes on by a unit, if it is open
goes : (old new : List ℕ) (b : Bool) (i : ℕ) (from rest whole : List ℕ) → from ≡ if_so b i ++ rest → new ≡ old ++ if_so b i → old ++ from ≡ whole → new ++ rest ≡ whole
goes old new b i from rest whole e f h = ap (λ xs. xs ++ rest) f ∙ append_assoc old (if_so b i) rest ∙ ap (λ xs. old ++ xs) (sym e) ∙ h

-- and ends where nothing more is found
ends : (old from whole : List ℕ) → from ≡ [] → old ++ from ≡ whole → old ≡ whole
ends old from whole e h = sym (append-nil old) ∙ ap (λ xs. old ++ xs) (sym e) ∙ h

pub returns-then-ends_badly : goal.returns-then-ends_badly
returns-then-ends_badly g c = c.new-ready.ensures.items ∙ sym (ready_bad c.args.states.now 0 c.args.given c.args.needs.now c.args.states.now c.requires.given (sym c.ends_badly.ensures ∙ c.if-ends_badly.true))

pub loop-i-init : goal.loop-i-init
loop-i-init g c =
    let e : c.args.given + 0 ≡ c.args.given = omega arith in
    ap (λ xs. xs ++ ready_from c.args.states.now c.args.given (drop c.args.given c.args.needs.now) (drop c.args.given c.args.states.now)) c.new-ready.ensures.items
    ∙ ap (λ k. ready_from c.args.states.now k (drop c.args.given c.args.needs.now) (drop c.args.given c.args.states.now)) (sym e)
    ∙ ready_skip c.args.states.now 0 c.args.given c.args.needs.now c.args.states.now c.requires.given (sym c.ends_badly.ensures ∙ c.if-ends_badly.false)

pub returns-in-None : goal.returns-in-None
returns-in-None g c = ends c.loop-i.ready.items (ready_from c.args.states.now c.loop-i.i (drop c.loop-i.i c.args.needs.now) (drop c.loop-i.i c.args.states.now)) (ready_of c.args.needs.now c.args.states.now) (opens_none c.args.needs.now c.args.states.now c.loop-i.i (sym c.may_begin.ensures ∙ c.in-None.is)) c.loop-i.invariant

pub loop-i-preserved : goal.loop-i-preserved
loop-i-preserved g c =
    let opened : opening c.args.needs.now c.args.states.now c.loop-i.i ≡ Some c.in-Some.begins = sym c.may_begin.ensures ∙ c.in-Some.is in
    let new : c.if-begins.ready.items ≡ c.loop-i.ready.items ++ if_so c.in-Some.begins c.loop-i.i = elim c.if-begins.branch [
      | then-begins+in_ok-push w ↦ ap (λ (v : Vec ℕ Global). v.items) w.ready-is ∙ w.in_ok-push.ensures.items ∙ ap (λ b. c.loop-i.ready.items ++ if_so b c.loop-i.i) (sym w.if-begins.true)
      | else-begins w ↦ ap (λ (v : Vec ℕ Global). v.items) w.ready-is ∙ sym (append-nil c.loop-i.ready.items) ∙ ap (λ b. c.loop-i.ready.items ++ if_so b c.loop-i.i) (sym w.if-begins.false)
    ] in
    goes c.loop-i.ready.items c.if-begins.ready.items c.in-Some.begins c.loop-i.i _ (ready_from c.args.states.now (c.loop-i.i + 1) (drop (c.loop-i.i + 1) c.args.needs.now) (drop (c.loop-i.i + 1) c.args.states.now)) (ready_of c.args.needs.now c.args.states.now) (opens_some c.args.needs.now c.args.states.now c.loop-i.i c.in-Some.begins opened) new c.loop-i.invariant

pub returns : goal.returns
returns g c = ends c.loop-i.ready.items (ready_from c.args.states.now c.loop-i.i (drop c.loop-i.i c.args.needs.now) (drop c.loop-i.i c.args.states.now)) (ready_of c.args.needs.now c.args.states.now) (ready_far c.args.needs.now c.args.states.now c.args.met.now c.args.reach c.loop-i.i c.requires.met c.requires.far c.loop-i-test.false) c.loop-i.invariant
