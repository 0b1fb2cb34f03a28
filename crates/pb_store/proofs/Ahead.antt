-- The next run number of a folder is above all that its records name.
use Rattle.std.proofs.Common.{◌≡◌, ◌<◌, ◌≤◌, ◌+◌, ◌==◌, ◌&&◌, ◌∙◌, ◌++◌, max, not, suc, ℕ, true, cond, codes, List, [], ◌∷◌, length, drop, get_or, Option, Some, None, Contains, refl, sym, ap, subst, inl, inr, arith, length-append}
use Rattle.std.proofs.lemmas.Bool.{cases_Bool}
use Rattle.std.proofs.Math.Nat.{le-max_left, le-max_right}
use Rattle.std.proofs.Math.Seq.{drop-append_seam, drop-cons}
use Rattle.std.specs.FinMap.{get, retain_keys}
use Rattle.std.specs.List.{fold, list_any}
use Rattle.std.specs.Option.{is_some}
use Rattle.std.specs.Str.{bytes_eq}
use Rattle.pb_place_types.specs.Paths.{stem}
use Rattle.pb_place_types.specs.World.{World, Map, is_directly_in, listed_directly, is_same_path}
use Rattle.pb_place_types.proofs.MapLemmas.{among_keys, get-kept}
use Rattle.pb_place_types.proofs.Worlds.{same_path}
use Rattle.pb_record.proofs.ReadingLemmas.{reading}
use Rattle.pb_record.specs.declared.record.Needed.{Needed}
use Rattle.pb_record.specs.declared.record.Needed.TheVariants.{Copies, Numbers}
use Rattle.pb_record.specs.declared.record.Record.{Record}
use Rattle.pb_store_soundness.specs.Numbers.{after, IsBefore, IsAhead}
use Rattle.pb_store_soundness.specs.Records.{is_key, ends_as_record, record_path, record_at, read_text, if_of_key, number_in, numbered_in}
use Rattle.pb_store_soundness.proofs.Becoming.{one, none_some}
use Rattle.pb_store_soundness.proofs.Elements.{any_at}
use Rattle.pb_store_soundness.proofs.RecordPaths.{key_facts, record_plain, ends_so, record_below, its_key, text_at}
use Rattle.pb_store.specs.Folder.{greatest_named, greatest_if, greatest_at, greatest_of, next_in}
use Rattle.pb_store.proofs.Earned.{contains_none, contains_cases}

-- the greatest is at least each
le_trans : (a b c : ℕ) → a ≤ b → b ≤ c → a ≤ c
le_trans a b c p q = omega (arith, p, q)

fold_more : {X : Type 0} (f : X → ℕ) (g : ℕ) (xs : List X) → g ≤ fold (λ m x. max m (f x)) g xs
fold_more f g [] = omega arith
fold_more f g (x ∷ xs) = le_trans g (max g (f x)) (fold (λ m y. max m (f y)) (max g (f x)) xs) (le-max_left g (f x)) (fold_more f (max g (f x)) xs)

fold_each : {X : Type 0} (f : X → ℕ) (g : ℕ) (xs : List X) (x : X) → Contains xs x → f x ≤ fold (λ m y. max m (f y)) g xs
fold_each f g [] x has = absurd (contains_none x has)
fold_each f g (y ∷ xs) x has = elim (contains_cases y xs x has) [
  | inl same ↦ subst (λ z. f z ≤ fold (λ m v. max m (f v)) (max g (f y)) xs) same (le_trans (f y) (max g (f y)) (fold (λ m v. max m (f v)) (max g (f y)) xs) (le-max_right g (f y)) (fold_more f (max g (f y)) xs))
  | inr more ↦ fold_each f (max g (f y)) xs x more
]

-- one item more
pub most_step : {X : Type 0} (f : X → ℕ) (g next n : ℕ) (xs : List X) (i : ℕ) (x : X) (all : ℕ) → i < length xs → x ≡ get_or xs i x → next ≡ max g n → n ≡ f x
    → fold (λ m y. max m (f y)) g (drop i xs) ≡ all → fold (λ m y. max m (f y)) next (drop (i + 1) xs) ≡ all
most_step f g next n xs i x all less is taken number before =
    let e : i + 1 ≡ suc i = omega arith in
    ap (λ k. fold (λ m y. max m (f y)) next (drop k xs)) e ∙ ap (λ k. fold (λ m y. max m (f y)) k (drop (suc i) xs)) (taken ∙ ap (max g) number)
    ∙ ap (λ z. fold (λ m y. max m (f y)) (max g (f z)) (drop (suc i) xs)) is ∙ sym (ap (fold (λ m y. max m (f y)) g) (drop-cons xs i x less)) ∙ before

-- what a record has and names
pub greatest_is : (needed : Needed) (number : ℕ) (needs passed : List (List ℕ × ℕ)) (named result : ℕ) → needed ≡ Numbers number needs → passed ≡ needs → named ≡ fold (λ g (pair : List ℕ × ℕ). max g pair.1) 0 passed → result ≡ max number named → result ≡ greatest_named needed
greatest_is needed number needs passed named result is given named_is result_is =
    result_is ∙ ap (max number) (named_is ∙ ap (fold (λ g (pair : List ℕ × ℕ). max g pair.1) 0) given) ∙ sym (ap greatest_named is)

own_most : (needed : Needed) (n : ℕ) → number_in needed ≡ Some n → n ≤ greatest_named needed
own_most (Copies copies) n is = absurd (none_some n is)
own_most (Numbers number needs) n is = subst (λ m. m ≤ greatest_named (Numbers number needs)) (one number n is) (le-max_left number (fold (λ g (pair : List ℕ × ℕ). max g pair.1) 0 needs))

named_most : (needed : Needed) (need : List ℕ) (n : ℕ) → Contains (numbered_in needed) (need, n) → n ≤ greatest_named needed
named_most (Copies copies) need n has = absurd (contains_none (need, n) has)
named_most (Numbers number needs) need n has =
    le_trans n (fold (λ g (pair : List ℕ × ℕ). max g pair.1) 0 needs) (greatest_named (Numbers number needs))
    (fold_each (λ (pair : List ℕ × ℕ). pair.1) 0 needs (need, n) has) (le-max_right number (fold (λ g (pair : List ℕ × ℕ). max g pair.1) 0 needs))

before_le : (n g : ℕ) → n ≤ g → IsBefore (after g) n
before_le n g less = elim (cases_Bool (g == 0xffff_ffff_ffff_ffff)) [
  | inl last ↦ subst (λ b. IsBefore (cond b None (Some (g + 1))) n) (sym last) tt
  | inr more ↦ let lt : n < g + 1 = omega (arith, less) in subst (λ b. IsBefore (cond b None (Some (g + 1))) n) (sym more) lt
]

-- the place of a record ends as the name of one
pub record_ends : (folder key : List ℕ) → ends_as_record (record_path folder key) ≡ true
record_ends folder key =
    let same : record_path folder key ≡ (stem folder ++ 47 ∷ key) ++ codes ".record" = joined (stem folder) in
    ap ends_as_record same ∙ ends_so (stem folder ++ 47 ∷ key)
  where
    joined : (s : List ℕ) → s ++ 47 ∷ (key ++ codes ".record") ≡ (s ++ 47 ∷ key) ++ codes ".record"
    joined [] = refl
    joined (c ∷ s) = ap (λ x. c ∷ x) (joined s)

module _ (folder : List ℕ) (w : World) where
  -- a record that counts is a text in its key's place
  text_there : (m : Map) (key : List ℕ) (r : Record) (o : Option (List ℕ)) → is_key key ≡ true → get m (record_path folder key) ≡ o → if_of_key key (read_text reading o) ≡ Some r
      → (text : List ℕ) × (get m (record_path folder key) ≡ Some text) × (read_text reading o ≡ Some r)
  text_there m key r None is at there = absurd (none_some r there)
  text_there m key r (Some text) is at there = (text, at, of_some (reading text) there)
    where
      of_some : (found : Option Record) → if_of_key key found ≡ Some r → found ≡ Some r
      of_some None h = absurd (none_some r h)
      of_some (Some t) h = elim (cases_Bool (bytes_eq t.key key)) [
        | inl same ↦ sym (ap (λ b. cond b (Some t) None) same) ∙ h
        | inr apart ↦ absurd (none_some r (sym (ap (λ b. cond b (Some t) None) apart) ∙ h))
      ]

  name_of_record : (key : List ℕ) → drop (length (stem folder) + 1) (record_path folder key) ≡ key ++ codes ".record"
  name_of_record key =
      let long : length (stem folder ++ 47 ∷ []) ≡ length (stem folder) + 1 = length-append (stem folder) (47 ∷ []) in
      ap (λ n. drop n (record_path folder key)) (sym long) ∙ ap (drop (length (stem folder ++ 47 ∷ []))) (joined (stem folder) (key ++ codes ".record")) ∙ drop-append_seam (stem folder ++ 47 ∷ []) (key ++ codes ".record")
    where
      joined : (s t : List ℕ) → s ++ 47 ∷ t ≡ (s ++ 47 ∷ []) ++ t
      joined [] t = refl
      joined (c ∷ s) t = ap (λ x. c ∷ x) (joined s t)

  -- its place is directly in the folder
  record_directly_in : (key : List ℕ) → is_key key ≡ true → is_directly_in folder (record_path folder key) ≡ true
  record_directly_in key is =
      ap (λ b. b && not (list_any (λ c. c == 47) (drop (length (stem folder) + 1) (record_path folder key)))) (record_below folder key is)
      ∙ ap (λ name. not (list_any (λ c. c == 47) name)) (name_of_record key) ∙ ap not (record_plain key (key_facts key is).plain)

  -- so it is among the files that are listed
  pub record_listed : (key text : List ℕ) → is_key key ≡ true → get w.files (record_path folder key) ≡ Some text → Contains (listed_directly folder w) (record_path folder key)
  record_listed key text is at =
      let found : get (retain_keys w.files (is_directly_in folder)) (record_path folder key) ≡ Some text =
      get-kept w.files (is_directly_in folder) (record_path folder key) ∙ ap (λ b. cond b (get w.files (record_path folder key)) None) (record_directly_in key is) ∙ at in
      let (path, has, same) = any_at (is_same_path (record_path folder key)) (listed_directly folder w) (among_keys (retain_keys w.files (is_directly_in folder)) (record_path folder key) ∙ ap is_some found) in
      subst (Contains (listed_directly folder w)) (same_path (record_path folder key) path same) has

  named_below : (key : List ℕ) (r : Record) → record_at reading folder w.files key ≡ Some r → greatest_named r.needed ≤ greatest_of w.files (listed_directly folder w)
  named_below key r there =
      let is = its_key reading folder w.files key r there in
      let (text, at, reads) = text_there w.files key r (get w.files (record_path folder key)) is refl (sym (text_at reading folder w.files key (get w.files (record_path folder key)) is refl) ∙ there) in
      let here : greatest_at w.files (record_path folder key) ≡ greatest_named r.needed =
      ap (λ b. cond b (greatest_if (read_text reading (get w.files (record_path folder key)))) 0) (record_ends folder key) ∙ ap greatest_if reads in
      subst (λ n. n ≤ greatest_of w.files (listed_directly folder w)) here
      (fold_each (greatest_at w.files) 0 (listed_directly folder w) (record_path folder key) (record_listed key text is at))

  pub open_ahead : IsAhead (record_at reading folder w.files) (next_in folder w)
  open_ahead key r there =
      let most = named_below key r there in
      let g = greatest_of w.files (listed_directly folder w) in
      record {
        own = λ n is. before_le n g (le_trans n (greatest_named r.needed) g (own_most r.needed n is) most);
        named = λ need n has. before_le n g (le_trans n (greatest_named r.needed) g (named_most r.needed need n has) most);
      }

pub opened_ahead : (folder : List ℕ) (w : World) (next : Option ℕ) → next ≡ next_in folder w → IsAhead (record_at reading folder w.files) next
opened_ahead folder w next is = subst (IsAhead (record_at reading folder w.files)) (sym is) (open_ahead folder w)

pub opened_next : (folder : List ℕ) (old mid : World) (paths : List (List ℕ)) (greatest : ℕ) (next : Option ℕ) → mid ≡ old → paths ≡ listed_directly folder old
    → greatest ≡ greatest_of mid.files paths → next ≡ after greatest → next ≡ next_in folder old
opened_next folder old mid paths greatest next same are most is =
    is ∙ ap after (most ∙ ap (λ (w : World). greatest_of w.files paths) same ∙ ap (greatest_of old.files) are)
