-- The last value that pairs give a name.
use Rattle.std.proofs.Common.{◌≡◌, ℕ, Bool, true, false, cond, List, [], ◌∷◌, ◌++◌, Option, Some, None, unwrap_or, refl, reverse, sym, ◌∙◌, ap}
use Rattle.std.proofs.lemmas.List.{reverse-append}
use Rattle.std.specs.Option.{option_or}
use Rattle.std.specs.Str.{bytes_eq}
use Rattle.pb_command.proofs.Ordered.{first_off, second_off}
use Rattle.pb_data.specs.OrderedSet.{is_mentioned}
use Rattle.pb_data.specs.Table.{names_of, last_value, value_at}
use Rattle.pb_command_laws.proofs.Pairs.{Pair}

or_none : (o : Option (List ℕ)) → option_or o None ≡ o
or_none None = refl
or_none (Some v) = refl

pub last-append : (name : List ℕ) (a b : List Pair) → last_value name (a ++ b) ≡ option_or (last_value name b) (last_value name a)
last-append name [] b = sym (or_none (last_value name b))
last-append name (pair ∷ a) b = ap (λ l. cond (bytes_eq name pair.0) (Some (unwrap_or l pair.1)) l) (last-append name a b) ∙ by (bytes_eq name pair.0) (last_value name b)
  where
    by : (r : Bool) (l : Option (List ℕ)) → cond r (Some (unwrap_or (option_or l (last_value name a)) pair.1)) (option_or l (last_value name a)) ≡ option_or l (cond r (Some (unwrap_or (last_value name a) pair.1)) (last_value name a))
    by true None = refl
    by true (Some v) = refl
    by false l = refl

-- what counts in two tables alike counts so behind more rows
pub last_behind : (name : List ℕ) (a b c : List Pair) → last_value name b ≡ last_value name c → last_value name (a ++ b) ≡ last_value name (a ++ c)
last_behind name a b c same = last-append name a b ∙ ap (λ l. option_or l (last_value name a)) same ∙ sym (last-append name a c)

-- a name that is not there
pub last_none : (name : List ℕ) (pairs : List Pair) → is_mentioned (names_of pairs) name ≡ false → last_value name pairs ≡ None
last_none name [] off = refl
last_none name (pair ∷ pairs) off =
    ap (λ r. cond r (Some (unwrap_or (last_value name pairs) pair.1)) (last_value name pairs)) (first_off (bytes_eq name pair.0) (is_mentioned (names_of pairs) name) off)
    ∙ last_none name pairs (second_off (bytes_eq name pair.0) (is_mentioned (names_of pairs) name) off)

-- it is the first from behind
at_behind : (name : List ℕ) (pairs : List Pair) (pair : Pair) → value_at name (pairs ++ pair ∷ []) ≡ option_or (value_at name pairs) (cond (bytes_eq name pair.0) (Some pair.1) None)
at_behind name [] pair = refl
at_behind name (first ∷ pairs) pair = by (bytes_eq name first.0) (at_behind name pairs pair)
  where
    by : (b : Bool) → value_at name (pairs ++ pair ∷ []) ≡ option_or (value_at name pairs) (cond (bytes_eq name pair.0) (Some pair.1) None)
        → cond b (Some first.1) (value_at name (pairs ++ pair ∷ [])) ≡ option_or (cond b (Some first.1) (value_at name pairs)) (cond (bytes_eq name pair.0) (Some pair.1) None)
    by true rest = refl
    by false rest = rest

pub from_behind : (name : List ℕ) (pairs : List Pair) → last_value name pairs ≡ value_at name (reverse pairs)
from_behind name [] = refl
from_behind name (pair ∷ pairs) =
    ap (λ o. cond (bytes_eq name pair.0) (Some (unwrap_or o pair.1)) o) (from_behind name pairs) ∙ by (bytes_eq name pair.0) (value_at name (reverse pairs))
    ∙ sym (at_behind name (reverse pairs) pair) ∙ ap (value_at name) (sym (reverse-append (pair ∷ []) pairs))
  where
    by : (b : Bool) (o : Option (List ℕ)) → cond b (Some (unwrap_or o pair.1)) o ≡ option_or o (cond b (Some pair.1) None)
    by true None = refl
    by true (Some v) = refl
    by false None = refl
    by false (Some v) = refl
