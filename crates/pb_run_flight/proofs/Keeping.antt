-- What the table keeps beside its states, from call to call.
use Rattle.std.proofs.Common.{max, ◌≡◌, ◌∙◌, ◌<◌, ◌+◌, ◌==◌, inl, inr, true, List, [], ◌∷◌, ℕ, zero, suc, Some, refl, sym, ap, subst, arith, slice_get, drop, map, length, Contains}
use Rattle.std.specs.Prelude.{slice_set, slice_index}
use Rattle.std.proofs.lemmas.Bool.{cases_eq}
use Rattle.std.proofs.lemmas.Option.{slice_get_within, get_or_from_slice_get}
use Rattle.std.proofs.Math.Seq.{drop-cons}
use Rattle.pb_run_flight.specs.declared.flight.State.{State}
use Rattle.pb_run_flight.specs.declared.flight.State.TheVariants.{Untouched, Begun, Answered}
use Rattle.pb_run_flight.specs.Table.{is_untouched, is_good_at, is_open}
use Rattle.pb_run_flight.specs.Working.{IsFar, count_met, units_at, AreListed, AreKnown, IsStored}
use Rattle.pb_run_flight.proofs.Lists.{index_set_same, index_set_other, length_set, map_same, is_among, contains_none, contains_cases, get_set_other}
use Rattle.pb_run_flight.proofs.Meeting.{met_all, met_as, met_grows, met_fresh, good_begun, good_answered}
use Rattle.pb_run_flight.proofs.Ending.{due_begun, count_grows}

pub index_map : (f : List ℕ → ℕ) (ns : List (List ℕ)) (u : ℕ) → u < length ns → slice_index (map f ns) u ≡ f (units_at ns u)
index_map f [] u lt = absurd (omega (arith, lt))
index_map f (n ∷ ns) zero lt = refl
index_map f (n ∷ ns) (suc u) lt = index_map f ns u (omega (arith, lt))

map_from : (f : List ℕ → ℕ) (ns : List (List ℕ)) (ms : List ℕ) → length ms ≡ length ns → ((u : ℕ) → u < length ns → slice_index ms u ≡ f (units_at ns u)) → ms ≡ map f ns
map_from f [] [] long each = refl
map_from f [] (m ∷ ms) long each = absurd (omega (arith, long))
map_from f (n ∷ ns) [] long each = absurd (omega (arith, long))
map_from f (n ∷ ns) (m ∷ ms) long each =
    let here : m ≡ f n = each 0 (omega arith) in
    let more : ms ≡ map f ns = map_from f ns ms (omega (arith, long)) (λ u lt. each (suc u) (omega (arith, lt))) in
    cc

-- one count anew: where it is full, units up to the next may have all they need
pub far_full : (needs : List (List ℕ)) (met : List ℕ) (v c reach : ℕ) → IsFar needs met reach → IsFar needs (slice_set met v c) (max reach (v + 1))
far_full needs met v c reach far = record { each = λ u le lt. subst (λ n. n < length (units_at needs u)) (sym (index_set_other met v u c (λ e. omega (arith, le, e)))) (far.each u (omega (arith, le)) lt) }

pub far_less : (needs : List (List ℕ)) (met : List ℕ) (v c reach : ℕ) → length met ≡ length needs → c < length (units_at needs v) → IsFar needs met reach → IsFar needs (slice_set met v c) reach
far_less needs met v c reach long less far = record {
  each = λ u le lt. elim (cases_eq v u) [
    | inl same ↦ subst (λ w. slice_index (slice_set met v c) w < length (units_at needs w)) same (subst (λ n. n < length (units_at needs v)) (sym (index_set_same met v c (omega (arith, long, lt, same)))) less)
    | inr ne ↦ subst (λ n. n < length (units_at needs u)) (sym (index_set_other met v u c ne)) (far.each u le lt)
  ];
}

module _ {F : Type 0} where
  -- a unit that has not begun is open where all its needs are counted
  pub open_met : (states : List (State F)) (s : State F) (wanted met : List ℕ) (u : ℕ) → is_untouched s ≡ true → slice_get met u ≡ Some (count_met states wanted) → (slice_index met u == length wanted) ≡ is_open states s wanted
  open_met states Untouched wanted met u h at = ap (λ n. n == length wanted) (get_or_from_slice_get met u (count_met states wanted) 0 at) ∙ sym (met_all states wanted)
  open_met states Begun wanted met u h at = absurd (cc)
  open_met states (Answered a) wanted met u h at = absurd (cc)

  -- the first of the units that are left has been counted anew
  pub known_more : (needs : List (List ℕ)) (states : List (State F)) (units : List ℕ) (k : ℕ) (old new : List ℕ) → k < length units → length old ≡ length needs → AreKnown needs states (drop k units) old
      → new ≡ slice_set old (slice_index units k) (count_met states (units_at needs (slice_index units k))) → AreKnown needs states (drop (k + 1) units) new
  known_more needs states units k old new lt long known is = record {
    each = λ u within. elim (cases_eq one u) [
      | inl same ↦ omega (arith, here u within same)
      | inr ne ↦ omega (arith, there u ne, known.each u within)
    ];
    right = λ u within. elim (cases_eq one u) [
      | inl same ↦ inl (here u within same)
      | inr ne ↦ elim (known.right u within) [
        | inl e ↦ inl (there u ne ∙ e)
        | inr left ↦ elim (contains_cases one (drop (suc k) units) u (subst (λ us. Contains us u) (drop-cons units k 0 lt) left)) [
          | inl e ↦ absurd (ne e)
          | inr rest ↦ inr (subst (λ n. Contains (drop n units) u) one-more rest)
        ]
      ]
    ];
  }
    where
      one : ℕ
      one = slice_index units k

      one-more : suc k ≡ k + 1
      one-more = omega arith

      here : (u : ℕ) → u < length needs → slice_index units k ≡ u → slice_index new u ≡ count_met states (units_at needs u)
      here u within same = ap (λ xs. slice_index xs u) is ∙ subst (λ w. slice_index (slice_set old w (count_met states (units_at needs w))) u ≡ count_met states (units_at needs u)) (sym same) (index_set_same old u (count_met states (units_at needs u)) (omega (arith, long, within)))

      there : (u : ℕ) → (slice_index units k ≡ u → ⊥) → slice_index new u ≡ slice_index old u
      there u ne = ap (λ xs. slice_index xs u) is ∙ index_set_other old (slice_index units k) u (count_met states (units_at needs (slice_index units k))) ne

  -- where none is left, all counts are right
  pub known_all : (needs : List (List ℕ)) (states : List (State F)) (met : List ℕ) → length met ≡ length needs → AreKnown needs states [] met → met ≡ map (count_met states) needs
  known_all needs states met long known = map_from (count_met states) needs met long (λ u lt. elim (known.right u lt) [ inl e ↦ e | inr none ↦ absurd (contains_none u none) ])

  module _ (needs needed_by : List (List ℕ)) (met : List ℕ) (reach : ℕ) (states : List (State F)) (given : ℕ) (kept : IsStored needs needed_by met reach states given) where
    pub kept_begun : (u : ℕ) → slice_get states u ≡ Some Untouched → IsStored needs needed_by met reach (slice_set states u Begun) given
    kept_begun u at = record {
      states_long = length_set states u Begun ∙ kept.states_long;
      lists_long = kept.lists_long;
      listed = kept.listed;
      counted = kept.counted ∙ map_same (count_met states) (count_met (slice_set states u Begun)) needs (λ ns. met_as states (slice_set states u Begun) ns (λ v _. good_begun states u v at));
      far = kept.far;
      less = omega (arith, kept.less, (due_begun states u at).1);
    }

    -- of a unit that answers, those that need it are listed
    pub known_answered : (u : ℕ) (s : State F) → slice_get states u ≡ Some Begun → AreKnown needs (slice_set states u s) (units_at needed_by u) met
    known_answered u s at = record {
      each = λ v lt. omega (arith, counts v lt, met_grows states (slice_set states u s) (units_at needs v) (λ w. good_answered states u w s at));
      right = λ v lt. elim (is_among (units_at needs v) u) [
        | inl need ↦ inr (kept.listed.each v u lt need (omega (arith, slice_get_within states u Begun at, kept.states_long, kept.lists_long)))
        | inr none ↦ inl (counts v lt ∙ met_as states (slice_set states u s) (units_at needs v) (λ w h. ap is_good_at (sym (get_set_other states u w s (λ e. none (subst (Contains (units_at needs v)) (sym e) h))))))
      ];
    }
      where
        counts : (v : ℕ) → v < length needs → slice_index met v ≡ count_met states (units_at needs v)
        counts v lt = ap (λ ms. slice_index ms v) kept.counted ∙ index_map (count_met states) needs v lt

    pub kept_answered : (u : ℕ) (s : State F) (now : List ℕ) (further : ℕ) → slice_get states u ≡ Some Begun → now ≡ map (count_met (slice_set states u s)) needs → IsFar needs now further → IsStored needs needed_by now further (slice_set states u s) given
    kept_answered u s now further at counted far = record {
      states_long = length_set states u s ∙ kept.states_long;
      lists_long = kept.lists_long;
      listed = kept.listed;
      counted = counted;
      far = far;
      less = omega (arith, kept.less, count_grows states u s at);
    }

  length_all : (needs : List (List ℕ)) (states : List (State F)) → states ≡ map (λ _. Untouched) needs → length states ≡ length needs
  length_all [] [] e = refl
  length_all [] (s ∷ ss) e = absurd (cc)
  length_all (n ∷ ns) [] e = absurd (cc)
  length_all (n ∷ ns) (s ∷ ss) e = ap suc (length_all ns ss (cc))

  pub known_as : (needs needs' : List (List ℕ)) (states states' : List (State F)) (units units' met : List ℕ) → needs' ≡ needs → states' ≡ states → units' ≡ units → AreKnown needs states units met → AreKnown needs' states' units' met
  known_as needs needs' states states' units units' met e f h known =
      subst (λ ns. AreKnown ns states' units' met) (sym e) (subst (λ ss. AreKnown needs ss units' met) (sym f) (subst (λ us. AreKnown needs states us met) (sym h) known))

  pub kept_fresh : (needs needed_by : List (List ℕ)) (met : List ℕ) (reach : ℕ) (states : List (State F)) → length needed_by ≡ length needs → AreListed needs (length needs) needed_by → met ≡ map (λ _. 0) needs → states ≡ map (λ _. Untouched) needs
      → IsFar needs met reach → IsStored needs needed_by met reach states 0
  kept_fresh needs needed_by met reach states long listed none fresh far = record {
    states_long = length_all needs states fresh;
    lists_long = long;
    listed = listed;
    counted = none ∙ map_same (λ _. 0) (count_met states) needs (λ ns. sym (met_fresh needs states fresh ns));
    far = far;
    less = omega arith;
  }
