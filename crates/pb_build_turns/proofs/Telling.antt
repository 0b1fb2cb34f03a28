-- What is told of units that have answered is what their rows say.
use Rattle.std.proofs.Common.{◌≡◌, ◌∙◌, ◌++◌, ◌+◌, ◌<◌, Bool, true, false, List, [], ◌∷◌, ℕ, zero, suc, Option, Some, None, if◌then◌else◌, refl, sym, ap, subst, arith, slice_get, take, length, is_none}
use Rattle.std.proofs.lemmas.Bool.{false≢true}
use Rattle.std.specs.Option.{option_map}
use Rattle.std.specs.Prelude.{IfSome}
use Rattle.pb_directive.specs.declared.directive.Directive.{Directive}
use Rattle.pb_run_flight.specs.declared.flight.Answer.{Answer}
use Rattle.pb_run_flight.specs.declared.flight.State.{State}
use Rattle.pb_run_flight.specs.declared.flight.State.TheVariants.{Untouched, Begun, Answered}
use Rattle.pb_run_flight.specs.Events.{Event}
use Rattle.pb_run_flight.specs.Table.{due, due_first, count_due, is_finished, is_good_at, first_bad_from, first_bad}
use Rattle.pb_run_flight.proofs.Lists.{injective, clash}
use Rattle.pb_build_result.specs.declared.bad_unit.BadUnit.{BadUnit}
use Rattle.pb_command_types.specs.declared.project.Project.{Project}
use Rattle.pb_run.specs.Outcome.{Outcome, Waiting, Good, Bad, directives_in}
use Rattle.pb_message_units.specs.Telling.{unit_lines}
use Rattle.pb_build_turns.specs.Rows.{to_first_bad, is_bad, is_started, fault_in, messages_in, said_from, keyed, directives_told, bad_of, bad_or, bad_told, with_key, is_success, noted_of, count_told}
use Rattle.pb_unit.specs.declared.plan.Planned.{Planned}

module _ (project : Project) (es : List (Event BadUnit)) where
  -- what is told of the unit at a place of some lists, which is so far on in the plan
  pub record IsTold (i : ℕ) (us : List Planned) (os : List Outcome) (ds : List (Option (List Directive))) (k : ℕ) (answer : Answer BadUnit) : Type 0 where
    pub unit : Planned
    pub there : slice_get us k ≡ Some unit
    pub outcome : Outcome
    pub is : slice_get os k ≡ Some outcome
    pub fault : answer.fault ≡ fault_in outcome
    pub lines : (index : ℕ) → index ≡ i + k → answer.lines ≡ unit_lines project unit (is_started es index) (messages_in outcome)
    pub noted : slice_get ds k ≡ Some (directives_in outcome)

  abbrev pub AllTold : ℕ → List Planned → List Outcome → List (Option (List Directive)) → List (State BadUnit) → Type 0
  AllTold i us os ds ss = (k : ℕ) (answer : Answer BadUnit) → slice_get ss k ≡ Some (Answered answer) → IsTold i us os ds k answer

  told_on : (i : ℕ) (u : Planned) (us : List Planned) (o : Outcome) (os : List Outcome) (d : Option (List Directive)) (ds : List (Option (List Directive))) (s : State BadUnit) (ss : List (State BadUnit)) → AllTold i (u ∷ us) (o ∷ os) (d ∷ ds) (s ∷ ss) → AllTold (suc i) us os ds ss
  told_on i u us o os d ds s ss told k answer at =
      let t = told (suc k) answer at in
      record {
        unit = t.unit;
        there = t.there;
        outcome = t.outcome;
        is = t.is;
        fault = t.fault;
        lines = λ index same. let e : index ≡ i + suc k = omega (arith, same) in t.lines index e;
        noted = t.noted;
      }

  -- the head
  record Head (i : ℕ) (u : Planned) (o : Outcome) (d : Option (List Directive)) (a : Answer BadUnit) : Type 0 where
    pub fault : a.fault ≡ fault_in o
    pub lines : a.lines ≡ unit_lines project u (is_started es i) (messages_in o)
    pub noted : d ≡ directives_in o

  head_of : (i : ℕ) (u : Planned) (us : List Planned) (o : Outcome) (os : List Outcome) (d : Option (List Directive)) (ds : List (Option (List Directive))) (a : Answer BadUnit) (ss : List (State BadUnit)) → AllTold i (u ∷ us) (o ∷ os) (d ∷ ds) (Answered a ∷ ss) → Head i u o d a
  head_of i u us o os d ds a ss told =
      let t = told 0 a refl in
      let e : i ≡ i + 0 = omega arith in
      record {
        fault = t.fault ∙ ap fault_in (sym (injective t.is));
        lines = t.lines i e ∙ ap (λ (x : Planned). unit_lines project x (is_started es i) (messages_in t.outcome)) (sym (injective t.there)) ∙ ap (λ x. unit_lines project u (is_started es i) (messages_in x)) (sym (injective t.is));
        noted = injective t.noted ∙ ap directives_in (sym (injective t.is));
      }

  none_of : (o : Outcome) → is_none (fault_in o) ≡ (if is_bad o then false else true)
  none_of Waiting = refl
  none_of (Good files directives messages) = refl
  none_of (Bad bad messages) = refl

  -- if the lines of k units are due, they are the lines of the first k rows
  pub due_told : (i : ℕ) (us : List Planned) (os : List Outcome) (ds : List (Option (List Directive))) (ss : List (State BadUnit)) → AllTold i us os ds ss → due ss ≡ said_from project es i (take (count_due ss) (to_first_bad us os))
  due_told i us os ds [] told = refl
  due_told i us os ds (Untouched ∷ ss) told = refl
  due_told i us os ds (Begun ∷ ss) told = refl
  due_told i [] os ds (Answered a ∷ ss) told = absurd (clash (told 0 a refl).there)
  due_told i (u ∷ us) [] ds (Answered a ∷ ss) told = absurd (clash (told 0 a refl).is)
  due_told i (u ∷ us) (o ∷ os) [] (Answered a ∷ ss) told = absurd (clash (told 0 a refl).noted)
  due_told i (u ∷ us) (o ∷ os) (d ∷ ds) (Answered a ∷ ss) told =
      let h = head_of i u us o os d ds a ss told in
      by o (ap is_none h.fault) h.lines (due_told (suc i) us os ds ss (told_on i u us o os d ds (Answered a) ss told))
    where
      by : (o : Outcome) → is_none a.fault ≡ is_none (fault_in o) → a.lines ≡ unit_lines project u (is_started es i) (messages_in o) → due ss ≡ said_from project es (suc i) (take (count_due ss) (to_first_bad us os))
          → a.lines ++ (if is_none a.fault then due ss else [])
          ≡ said_from project es i (take (suc (if is_none a.fault then count_due ss else 0)) (record { unit = u; outcome = o } ∷ (if is_bad o then [] else to_first_bad us os)))
      by Waiting none lines more = subst (λ b. a.lines ++ (if b then due ss else []) ≡ said_from project es i (take (suc (if b then count_due ss else 0)) (record { unit = u; outcome = Waiting } ∷ to_first_bad us os))) (sym none)
          (ap (λ l. l ++ due ss) lines ∙ ap (λ l. unit_lines project u (is_started es i) [] ++ l) more)
      by (Good files directives messages) none lines more = subst (λ b. a.lines ++ (if b then due ss else []) ≡ said_from project es i (take (suc (if b then count_due ss else 0)) (record { unit = u; outcome = Good files directives messages } ∷ to_first_bad us os))) (sym none)
          (ap (λ l. l ++ due ss) lines ∙ ap (λ l. unit_lines project u (is_started es i) messages ++ l) more)
      by (Bad bad messages) none lines more = subst (λ b. a.lines ++ (if b then due ss else []) ≡ said_from project es i (take (suc (if b then count_due ss else 0)) (record { unit = u; outcome = Bad bad messages } ∷ []))) (sym none)
          (ap (λ l. l ++ []) lines)

  -- and so are the first so many of them
  pub first_told : (n i : ℕ) (us : List Planned) (os : List Outcome) (ds : List (Option (List Directive))) (ss : List (State BadUnit)) → AllTold i us os ds ss → due_first n ss ≡ said_from project es i (take n (take (count_due ss) (to_first_bad us os)))
  first_told zero i us os ds ss told = refl
  first_told (suc n) i us os ds [] told = refl
  first_told (suc n) i us os ds (Untouched ∷ ss) told = refl
  first_told (suc n) i us os ds (Begun ∷ ss) told = refl
  first_told (suc n) i [] os ds (Answered a ∷ ss) told = absurd (clash (told 0 a refl).there)
  first_told (suc n) i (u ∷ us) [] ds (Answered a ∷ ss) told = absurd (clash (told 0 a refl).is)
  first_told (suc n) i (u ∷ us) (o ∷ os) [] (Answered a ∷ ss) told = absurd (clash (told 0 a refl).noted)
  first_told (suc n) i (u ∷ us) (o ∷ os) (d ∷ ds) (Answered a ∷ ss) told =
      let h = head_of i u us o os d ds a ss told in
      by o (ap is_none h.fault) h.lines (first_told n (suc i) us os ds ss (told_on i u us o os d ds (Answered a) ss told))
    where
      none_more : (m : ℕ) (j : ℕ) → said_from project es j (take m []) ≡ []
      none_more zero j = refl
      none_more (suc m) j = refl

      by : (o : Outcome) → is_none a.fault ≡ is_none (fault_in o) → a.lines ≡ unit_lines project u (is_started es i) (messages_in o) → due_first n ss ≡ said_from project es (suc i) (take n (take (count_due ss) (to_first_bad us os)))
          → a.lines ++ (if is_none a.fault then due_first n ss else [])
          ≡ said_from project es i (take (suc n) (take (suc (if is_none a.fault then count_due ss else 0)) (record { unit = u; outcome = o } ∷ (if is_bad o then [] else to_first_bad us os))))
      by Waiting none lines more = subst (λ b. a.lines ++ (if b then due_first n ss else []) ≡ said_from project es i (take (suc n) (take (suc (if b then count_due ss else 0)) (record { unit = u; outcome = Waiting } ∷ to_first_bad us os)))) (sym none)
          (ap (λ l. l ++ due_first n ss) lines ∙ ap (λ l. unit_lines project u (is_started es i) [] ++ l) more)
      by (Good files directives messages) none lines more = subst (λ b. a.lines ++ (if b then due_first n ss else []) ≡ said_from project es i (take (suc n) (take (suc (if b then count_due ss else 0)) (record { unit = u; outcome = Good files directives messages } ∷ to_first_bad us os)))) (sym none)
          (ap (λ l. l ++ due_first n ss) lines ∙ ap (λ l. unit_lines project u (is_started es i) messages ++ l) more)
      by (Bad bad messages) none lines more = subst (λ b. a.lines ++ (if b then due_first n ss else []) ≡ said_from project es i (take (suc n) (take (suc (if b then count_due ss else 0)) (record { unit = u; outcome = Bad bad messages } ∷ [])))) (sym none)
          (ap (λ l. l ++ []) lines ∙ ap (λ l. unit_lines project u (is_started es i) messages ++ l) (sym (none_more n (suc i))))

  -- where units came to their end: all rows, their directives, and the first bad one
  pub record Ended (us : List Planned) (os : List Outcome) (ds : List (Option (List Directive))) (ss : List (State BadUnit)) : Type 0 where
    pub all : count_due ss ≡ length (to_first_bad us os)
    pub count : count_told (length us) (first_bad ss) ≡ count_due ss
    pub noted : noted_of (take (count_due ss) us) (take (count_due ss) ds) ≡ directives_told (to_first_bad us os)
    pub bad : bad_told us ss (first_bad ss) ≡ bad_of (to_first_bad us os)

  shift : (n : ℕ) (ss : List (State BadUnit)) → first_bad_from (suc n) ss ≡ option_map suc (first_bad_from n ss)
  shift n [] = refl
  shift n (Untouched ∷ ss) = refl
  shift n (Begun ∷ ss) = refl
  shift n (Answered a ∷ ss) = by (is_none a.fault) (shift (suc n) ss)
    where
      by : (b : Bool) → first_bad_from (suc (suc n)) ss ≡ option_map suc (first_bad_from (suc n) ss) → (if b then first_bad_from (suc (suc n)) ss else Some (suc n)) ≡ option_map suc (if b then first_bad_from (suc n) ss else Some n)
      by true more = more
      by false more = refl

  bad_past : (u : Planned) (us : List Planned) (s : State BadUnit) (ss : List (State BadUnit)) (o : Option ℕ) → bad_told (u ∷ us) (s ∷ ss) (option_map suc o) ≡ bad_told us ss o
  bad_past u us s ss None = refl
  bad_past u us s ss (Some index) = refl

  count_past : (n : ℕ) (o : Option ℕ) → count_told (suc n) (option_map suc o) ≡ suc (count_told n o)
  count_past n None = refl
  count_past n (Some index) = omega arith

  -- where none is bad at the end, each is good
  pub all_good_at : (us : List Planned) (ss : List (State BadUnit)) → length ss ≡ length us → is_finished ss ≡ true → is_none (bad_told us ss (first_bad ss)) ≡ true
      → (index : ℕ) (u : Planned) → slice_get us index ≡ Some u → is_good_at (slice_get ss index) ≡ true
  all_good_at [] ss long finished none index u at = absurd (clash at)
  all_good_at (v ∷ us) [] long finished none index u at = absurd (omega (arith, long))
  all_good_at (v ∷ us) (Untouched ∷ ss) long finished none index u at = absurd (false≢true finished)
  all_good_at (v ∷ us) (Begun ∷ ss) long finished none index u at = absurd (false≢true finished)
  all_good_at (v ∷ us) (Answered a ∷ ss) long finished none index u at = by a.fault refl index at (λ more well k there. all_good_at us ss (omega (arith, long)) more well k u there)
    where
      by : (f : Option BadUnit) → a.fault ≡ f → (k : ℕ) → slice_get (v ∷ us) k ≡ Some u
          → (is_finished ss ≡ true → is_none (bad_told us ss (first_bad ss)) ≡ true → (n : ℕ) → slice_get us n ≡ Some u → is_good_at (slice_get ss n) ≡ true) → is_good_at (slice_get (Answered a ∷ ss) k) ≡ true
      by (Some e) fault k there rest = absurd (false≢true (sym (ap (λ f. is_none (with_key v.key f)) fault) ∙ subst (λ f. is_none (bad_told (v ∷ us) (Answered a ∷ ss) (if is_none f then first_bad_from 1 ss else Some 0)) ≡ true) fault none))
      by None fault zero there rest = ap is_none fault
      by None fault (suc n) there rest = rest (subst (λ f. (if is_none f then is_finished ss else true) ≡ true) fault finished)
          (sym (ap is_none (ap (bad_told (v ∷ us) (Answered a ∷ ss)) (shift 0 ss) ∙ bad_past v us (Answered a) ss (first_bad ss)))
          ∙ subst (λ f. is_none (bad_told (v ∷ us) (Answered a ∷ ss) (if is_none f then first_bad_from 1 ss else Some 0)) ≡ true) fault none) n there

  pub ended_of : (i : ℕ) (us : List Planned) (os : List Outcome) (ds : List (Option (List Directive))) (ss : List (State BadUnit)) → length ss ≡ length us → is_finished ss ≡ true → AllTold i us os ds ss → Ended us os ds ss
  ended_of i [] os ds [] long finished told = record { all = refl; count = refl; noted = refl; bad = refl }
  ended_of i (u ∷ us) os ds [] long finished told = absurd (omega (arith, long))
  ended_of i us os ds (Untouched ∷ ss) long finished told = absurd (false≢true finished)
  ended_of i us os ds (Begun ∷ ss) long finished told = absurd (false≢true finished)
  ended_of i [] os ds (Answered a ∷ ss) long finished told = absurd (clash (told 0 a refl).there)
  ended_of i (u ∷ us) [] ds (Answered a ∷ ss) long finished told = absurd (clash (told 0 a refl).is)
  ended_of i (u ∷ us) (o ∷ os) [] (Answered a ∷ ss) long finished told = absurd (clash (told 0 a refl).noted)
  ended_of i (u ∷ us) (o ∷ os) (d ∷ ds) (Answered a ∷ ss) long finished told =
      let h = head_of i u us o os d ds a ss told in
      by o h.fault h.noted (λ more. ended_of (suc i) us os ds ss (omega (arith, long)) more (told_on i u us o os d ds (Answered a) ss told)) finished
    where
      go_on : (o : Outcome) → a.fault ≡ None → is_bad o ≡ false → d ≡ directives_in o → (bad : (rest : Option (List ℕ × BadUnit)) → bad_or u.key o rest ≡ rest) → Ended us os ds ss → Ended (u ∷ us) (o ∷ os) (d ∷ ds) (Answered a ∷ ss)
      go_on o fault good noted bad rest = record {
        all = subst (λ f. suc (if is_none f then count_due ss else 0) ≡ suc (length (if is_bad o then [] else to_first_bad us os))) (sym fault) (subst (λ b. suc (count_due ss) ≡ suc (length (if b then [] else to_first_bad us os))) (sym good) (ap suc rest.all));
        count = subst (λ f. count_told (suc (length us)) (if is_none f then first_bad_from 1 ss else Some 0) ≡ suc (if is_none f then count_due ss else 0)) (sym fault)
            (ap (count_told (suc (length us))) (shift 0 ss) ∙ count_past (length us) (first_bad ss) ∙ ap suc rest.count);
        noted = subst (λ f. noted_of (take (suc (if is_none f then count_due ss else 0)) (u ∷ us)) (take (suc (if is_none f then count_due ss else 0)) (d ∷ ds)) ≡ keyed u.key (directives_in o) ++ directives_told (if is_bad o then [] else to_first_bad us os)) (sym fault)
            (subst (λ b. keyed u.key d ++ noted_of (take (count_due ss) us) (take (count_due ss) ds) ≡ keyed u.key (directives_in o) ++ directives_told (if b then [] else to_first_bad us os)) (sym good)
            (ap (λ x. keyed u.key x ++ noted_of (take (count_due ss) us) (take (count_due ss) ds)) noted ∙ ap (λ l. keyed u.key (directives_in o) ++ l) rest.noted));
        bad = subst (λ f. bad_told (u ∷ us) (Answered a ∷ ss) (if is_none f then first_bad_from 1 ss else Some 0) ≡ bad_or u.key o (bad_of (if is_bad o then [] else to_first_bad us os))) (sym fault)
            (subst (λ b. bad_told (u ∷ us) (Answered a ∷ ss) (first_bad_from 1 ss) ≡ bad_or u.key o (bad_of (if b then [] else to_first_bad us os))) (sym good)
            (ap (bad_told (u ∷ us) (Answered a ∷ ss)) (shift 0 ss) ∙ bad_past u us (Answered a) ss (first_bad ss) ∙ rest.bad ∙ sym (bad (bad_of (to_first_bad us os)))));
      }

      stop : (e : BadUnit) (messages : _) → a.fault ≡ Some e → d ≡ None → Ended (u ∷ us) (Bad e messages ∷ os) (d ∷ ds) (Answered a ∷ ss)
      stop e messages fault noted = record {
        all = subst (λ f. suc (if is_none f then count_due ss else 0) ≡ 1) (sym fault) refl;
        count = subst (λ f. count_told (suc (length us)) (if is_none f then first_bad_from 1 ss else Some 0) ≡ suc (if is_none f then count_due ss else 0)) (sym fault) refl;
        noted = subst (λ f. noted_of (take (suc (if is_none f then count_due ss else 0)) (u ∷ us)) (take (suc (if is_none f then count_due ss else 0)) (d ∷ ds)) ≡ []) (sym fault) (ap (λ x. keyed u.key x ++ []) noted);
        bad = subst (λ f. bad_told (u ∷ us) (Answered a ∷ ss) (if is_none f then first_bad_from 1 ss else Some 0) ≡ Some (u.key, e)) (sym fault) (ap (with_key u.key) fault);
      }

      by : (o : Outcome) → a.fault ≡ fault_in o → d ≡ directives_in o → (is_finished ss ≡ true → Ended us os ds ss) → (if is_none a.fault then is_finished ss else true) ≡ true → Ended (u ∷ us) (o ∷ os) (d ∷ ds) (Answered a ∷ ss)
      by Waiting fault noted rest finished = go_on Waiting fault refl noted (λ r. refl) (rest (subst (λ f. (if is_none f then is_finished ss else true) ≡ true) fault finished))
      by (Good files directives messages) fault noted rest finished = go_on (Good files directives messages) fault refl noted (λ r. refl) (rest (subst (λ f. (if is_none f then is_finished ss else true) ≡ true) fault finished))
      by (Bad e messages) fault noted rest finished = stop e messages fault noted

bad_within : (n : ℕ) (ss : List (State BadUnit)) (p : ℕ) → first_bad_from n ss ≡ Some p → p < n + length ss
bad_within n [] p is = absurd (clash is)
bad_within n (Untouched ∷ ss) p is = absurd (clash is)
bad_within n (Begun ∷ ss) p is = absurd (clash is)
bad_within n (Answered a ∷ ss) p is = by (is_none a.fault) (λ more. bad_within (suc n) ss p more) is
  where
    by : (b : Bool) → (first_bad_from (suc n) ss ≡ Some p → p < suc n + length ss) → (if b then first_bad_from (suc n) ss else Some n) ≡ Some p → p < n + length (Answered a ∷ ss)
    by true more found = let less : p < suc n + length ss = more found in omega (arith, less)
    by false more found = let same : n ≡ p = injective found in omega (arith, same)

-- the place of the first bad one is one of the plan
pub bad_fits : (ss : List (State BadUnit)) (n : ℕ) (o : Option ℕ) → length ss ≡ n → o ≡ first_bad ss → IfSome o (λ index. index < n)
bad_fits ss n None long is = tt
bad_fits ss n (Some p) long is = let less : p < 0 + length ss = bad_within 0 ss p (sym is) in omega (arith, less, long)

pub success_of : (bad : Option (List ℕ × BadUnit)) → is_none bad ≡ is_success bad
success_of None = refl
success_of (Some bad) = refl
