-- Where the files of units and their records are: apart.
use Rattle.std.proofs.Common.{◌≡◌, ◌≢◌, ◌⊎◌, ◌==◌, ◌||◌, ◌∙◌, ◌++◌, ◌+◌, ◌-◌, ◌<◌, ℕ, Bool, true, false, not, cond, codes, List, [], ◌∷◌, length, drop, Option, Some, None, refl, sym, ap, inl, inr, arith, length-append}
use Rattle.std.proofs.lemmas.Bool.{cases_Bool, false≢true}
use Rattle.std.proofs.lemmas.List.{append_cancel_left, append_cancel_right}
use Rattle.std.proofs.lemmas.List.Folds.{list_any-append}
use Rattle.std.proofs.Math.Seq.{drop-append_seam}
use Rattle.std.proofs.lemmas.Slice.Eq.{bytes_eq-Decides}
use Rattle.std.specs.FinMap.{get}
use Rattle.std.specs.List.{list_any}
use Rattle.std.specs.Str.{bytes_eq}
use Rattle.pb_place_types.specs.Folders.{files_in, LieApart}
use Rattle.pb_place_types.specs.Paths.{stem, is_name, is_path, has_byte_0, stays, leads_up, is_below, is_at_or_below}
use Rattle.pb_place_types.specs.World.{Map, AgreeBut}
use Rattle.pb_place_types.proofs.Folders.{named_folders_lie_apart, files_alike}
use Rattle.pb_place_types.proofs.PathLemmas.{and_left, and_right}
use Rattle.pb_place_types.proofs.Within.{at_below, goes_below, names_lie_apart, share_no_path}
use Rattle.pb_record.specs.declared.record.Record.{Record}
use Rattle.pb_store_soundness.specs.Records.{RecordParser, is_key, ends_as_record, out_of, record_path, record_at, read_text, if_of_key}

pub is_same : (k l : List ℕ) → (k ≡ l) ⊎ (k ≢ l)
is_same k l = elim (cases_Bool (bytes_eq k l)) [
  | inl same ↦ inl ((bytes_eq-Decides k l).0 same)
  | inr apart ↦ inr (λ e. false≢true (sym apart ∙ (bytes_eq-Decides k l).1 e))
]

pub is_not : (b : Bool) → not b ≡ true → b ≡ false
is_not true h = absurd (false≢true h)
is_not false h = refl

-- what a key is
pub record KeyFacts (key : List ℕ) : Type 0 where
  pub named : is_name key ≡ true
  pub plain : list_any (λ b. b == 47) key ≡ false
  pub other : ends_as_record key ≡ false

pub key_facts : (key : List ℕ) → is_key key ≡ true → KeyFacts key
unfolding is_key
key_facts key is = record {
  named = and_left _ _ is;
  plain = is_not _ (and_left _ _ (and_right _ _ is));
  other = is_not _ (and_right _ _ (and_right _ _ is));
}

two_false : (a b : Bool) → a ≡ false → b ≡ false → a || b ≡ false
two_false a b p q = ap (λ x. x || b) p ∙ q

-- a longer text is another
longer : (x y : List ℕ) → length y < length x → bytes_eq x y ≡ false
longer x y more = elim (cases_Bool (bytes_eq x y)) [
  | inl same ↦ let long : length x ≡ length y = ap length ((bytes_eq-Decides x y).0 same) in absurd (omega arith)
  | inr apart ↦ apart
]

or_third : (a b c : Bool) → not (a || b || c) ≡ true → c ≡ false
or_third true b c h = absurd (false≢true h)
or_third false true c h = absurd (false≢true h)
or_third false false true h = absurd (false≢true h)
or_third false false false h = refl

all_three : (a b c : Bool) → a ≡ false → b ≡ false → c ≡ false → not (a || b || c) ≡ true
all_three a b c p q r = ap not (ap (λ x. x || b || c) p ∙ ap (λ x. x || c) q ∙ r)

-- the name of a record is a name
pub record_named : (key : List ℕ) → is_name key ≡ true → is_name (key ++ codes ".record") ≡ true
record_named key named =
    let long : length (key ++ codes ".record") ≡ length key + length (codes ".record") = length-append key (codes ".record") in
    let seven : length (codes ".record") ≡ 7 = refl in
    let none : length (codes ".") ≡ 1 = refl in
    let up : length (codes "..") ≡ 2 = refl in
    let zero_length : length {A = ℕ} [] ≡ 0 = refl in
    all_three _ _ _
    (two_false _ _ (longer (key ++ codes ".record") [] (omega arith)) (longer (key ++ codes ".record") (codes ".") (omega arith)))
    (longer (key ++ codes ".record") (codes "..") (omega arith))
    (list_any-append (λ b. b == 0) key (codes ".record") ∙ two_false _ _ (or_third (stays key) (leads_up key) (has_byte_0 key) named) refl)

pub record_plain : (key : List ℕ) → list_any (λ b. b == 47) key ≡ false → list_any (λ b. b == 47) (key ++ codes ".record") ≡ false
record_plain key plain = list_any-append (λ b. b == 47) key (codes ".record") ∙ two_false _ _ plain refl

pub name_some : (name : List ℕ) → is_name name ≡ true → name ≢ []
name_some name named e = absurd (false≢true (sym (ap is_name e) ∙ named))

-- the name of a record ends as one
pub ends_so : (key : List ℕ) → ends_as_record (key ++ codes ".record") ≡ true
ends_so key =
    let long : length (key ++ codes ".record") ≡ length key + length (codes ".record") = length-append key (codes ".record") in
    let seven : length (codes ".record") ≡ 7 = refl in
    let cut : length (key ++ codes ".record") - 7 ≡ length key = omega arith in
    (bytes_eq-Decides (drop (length (key ++ codes ".record") - 7) (key ++ codes ".record")) (codes ".record")).1
    (ap (λ n. drop n (key ++ codes ".record")) cut ∙ drop-append_seam key (codes ".record"))

pub no_record_name : (k l : List ℕ) → is_key k ≡ true → k ≢ l ++ codes ".record"
no_record_name k l is same = absurd (false≢true (sym (key_facts k is).other ∙ ap ends_as_record same ∙ ends_so l))

module _ (folder : List ℕ) where
  -- one folder, one key
  pub one_key : (k l : List ℕ) → out_of folder k ≡ out_of folder l → k ≡ l
  one_key k l same = let tails : 47 ∷ k ≡ 47 ∷ l = append_cancel_left (stem folder) (47 ∷ k) (47 ∷ l) same in cc

  pub out_in : (key : List ℕ) → is_key key ≡ true → is_below folder (out_of folder key) ≡ true
  out_in key is = goes_below folder key (name_some key (key_facts key is).named)

  pub record_below : (key : List ℕ) → is_key key ≡ true → is_below folder (record_path folder key) ≡ true
  record_below key is = goes_below folder (key ++ codes ".record") (name_some (key ++ codes ".record") (record_named key (key_facts key is).named))

  -- another unit's record is no part of a unit's folder, nor is its own; and records have places of their own
  pub record_outside : (k l : List ℕ) → is_key k ≡ true → is_key l ≡ true → is_at_or_below (out_of folder k) (record_path folder l) ≡ false
  record_outside k l is is_l = names_lie_apart folder k (l ++ codes ".record") (name_some k (key_facts k is).named) (record_plain l (key_facts l is_l).plain) (no_record_name k l is)

  pub records_differ : (k l : List ℕ) → is_key k ≡ true → is_key l ≡ true → k ≢ l → is_at_or_below (record_path folder k) (record_path folder l) ≡ false
  records_differ k l is is_l apart = names_lie_apart folder (k ++ codes ".record") (l ++ codes ".record") (name_some (k ++ codes ".record") (record_named k (key_facts k is).named)) (record_plain l (key_facts l is_l).plain)
      (λ e. apart (append_cancel_right k l (codes ".record") e))

  pub outs_apart : (k l : List ℕ) → is_path folder ≡ true → is_key k ≡ true → is_key l ≡ true → k ≢ l → LieApart (out_of folder k) (out_of folder l)
  outs_apart k l path is is_l apart = named_folders_lie_apart folder k l path (key_facts k is).named (key_facts l is_l).named (key_facts k is).plain (key_facts l is_l).plain apart

  pub out_record_apart : (k l : List ℕ) → is_path folder ≡ true → is_key k ≡ true → is_key l ≡ true → LieApart (out_of folder k) (record_path folder l)
  out_record_apart k l path is is_l = named_folders_lie_apart folder k (l ++ codes ".record") path (key_facts k is).named (record_named l (key_facts l is_l).named) (key_facts k is).plain (record_plain l (key_facts l is_l).plain) (no_record_name k l is)

-- what changes only in one of two folders that lie apart leaves the other
pub folder_still : (f g : List ℕ) (old new : Map) → LieApart f g → AgreeBut (is_at_or_below g) old new → files_in f new ≡ files_in f old
folder_still f g old new apart only = files_alike f new old (λ q inside. only q (share_no_path f g q apart.first apart.second apart.not_below_first apart.not_below_second (at_below f q inside)))

module _ (read : RecordParser) (folder : List ℕ) where
  pub record_same : (old new : Map) (key : List ℕ) → get new (record_path folder key) ≡ get old (record_path folder key) → record_at read folder new key ≡ record_at read folder old key
  unfolding record_at
  record_same old new key same = ap (λ o. cond (is_key key) (if_of_key key (read_text read o)) None) same

  pub no_key : (m : Map) (key : List ℕ) → is_key key ≡ false → record_at read folder m key ≡ None
  unfolding record_at
  no_key m key is = ap (λ b. cond b (if_of_key key (read_text read (get m (record_path folder key)))) None) is

  pub its_key : (m : Map) (key : List ℕ) (r : Record) → record_at read folder m key ≡ Some r → is_key key ≡ true
  its_key m key r at = elim (cases_Bool (is_key key)) [
    | inl is ↦ is
    | inr wrong ↦ let none : record_at read folder m key ≡ None = no_key m key wrong in cc
  ]

  -- the record of a text in its key's place
  pub text_at : (m : Map) (key : List ℕ) (o : Option (List ℕ)) → is_key key ≡ true → get m (record_path folder key) ≡ o → record_at read folder m key ≡ if_of_key key (read_text read o)
  unfolding record_at
  text_at m key o is at = ap (λ b. cond b (if_of_key key (read_text read (get m (record_path folder key)))) None) is ∙ ap (λ x. if_of_key key (read_text read x)) at
