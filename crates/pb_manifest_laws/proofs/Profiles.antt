-- `[profile.*]` is read as what it says.
use Rattle.std.proofs.Common.{inl, inr, ◌≡◌, ◌↔◌, ◌∙◌, ◌&&◌, ◌||◌, ◌==◌, not, ℕ, pos, negsuc, Bool, true, false, if◌then◌else◌, nat_le, nat_lt, List, [], ◌∷◌, Contains, Option, Some, None, Ok, Err, length, map, drop, get_or, slice_get, zero, suc, ◌+◌, refl, sym, ap, subst, arith}
use Rattle.std.proofs.lemmas.Bool.{and_parts, eqb-true, false≢true}
use Rattle.std.proofs.lemmas.Bool.Decides.{Decides-int_eq, nat_tests}
use Rattle.std.proofs.lemmas.Slice.Eq.{bytes_eq-Decides}
use Rattle.std.specs.Prelude.{option_and_then}
use Rattle.std.specs.List.{AllByRecursion, list_all, list_any}
use Rattle.std.specs.Option.{option_map, option_or}
use Rattle.std.specs.Ordering.{int_eq}
use Rattle.std.specs.Str.{bytes_eq}
use Rattle.pb_graph.proofs.Membership.{none, head, tail, cases}
use Rattle.toml.specs.Data.{Data, string, integer, boolean, table, Members, get_member, as_str, as_table}
use Rattle.pb_data.specs.UnlessOom.{◌>>=◌, some_or}
use Rattle.pb_profile_keys.specs.First.{first_some}
use Rattle.pb_profile_keys.specs.Keys.{Said, says}
use Rattle.pb_profile_keys.specs.Setting.{spelled, words, if_spelled, word_of, same, between, accepted, meaning}
use Rattle.pb_profile_keys.specs.Table.{keys, row, index, choices, meaning_at}
use Rattle.pb_profile_keys.specs.declared.key.ProfileKey.{ProfileKey}
use Rattle.pb_profile_keys.specs.declared.key.ProfileKey.TheVariants as key
use Rattle.pb_profile_keys.specs.declared.setting.Choice.{Choice}
use Rattle.pb_profile_keys.specs.declared.setting.Choice.TheVariants.{Is, Means, Between}
use Rattle.pb_profile_keys.specs.declared.setting.Setting.{Setting}
use Rattle.pb_profile_keys.specs.declared.setting.Setting.TheVariants.{Truth, Number, Word}
use Rattle.pb_profile_keys.specs.declared.setting.Word.{Word as AWord}
use Rattle.pb_profile_keys.specs.declared.setting.Word.TheVariants as word
use Rattle.pb_manifest_types.specs.Keys.{spelled as spelled_key}
use Rattle.pb_manifest.specs.Profiles.{written, setting_in, settings_at, profile_value, profile_keys, profile_table, override_of, overrides_at, build_override_in, build_override_at, may_be_profile, profile_of_table, profile_of}
use Rattle.pb_manifest.specs.Values.{optional, value_at}
use Rattle.pb_manifest_types.specs.declared.fault.ManifestFault.TheVariants.{BadProfile}
use Rattle.pb_manifest_types.specs.declared.key.Key.TheVariants as key_name
use Rattle.pb_manifest_types.specs.declared.profile.ProfileOverride.{ProfileOverride}
use Rattle.pb_manifest_types.specs.declared.profile.Profile.{Profile}
use Rattle.pb_profile_keys.proofs.Indexed.{at_index}
use Rattle.pb_manifest.proofs.Came.{came}
use Rattle.pb_manifest_laws.specs.Laws.{ReadsSettings, ReadsProfiles}
use Rattle.pb_manifest_laws.specs.Profiles.{name_of, forms, HoldsOne, AreSettings, IsOverrideEntry, IsProfileEntry}
use Rattle.pb_manifest_laws.specs.Values.{OfTable}
use Rattle.pb_manifest_laws.proofs.Chains.{four_on}
use Rattle.pb_manifest_laws.proofs.Packages.{some_any}
use Rattle.pb_manifest_laws.proofs.Reading.{IsWrittenAs, Any, table_is, optional_only, optional_back}
use Rattle.pb_manifest_laws.proofs.Tables.{entries_at_only, entries_at_back, table_at_only, table_at_back}

-- what is written for a value
abbrev pub data_of : Setting → Data
data_of (Truth b) = boolean b
data_of (Number n) = integer (pos n)
data_of (Word w) = string (spelled w)

spelled_is : (text : List ℕ) (ws : List AWord) (w : AWord) → first_some (if_spelled text) ws ≡ Some w → text ≡ spelled w
spelled_is text [] w h = cc
spelled_is text (v ∷ ws) w h = by (bytes_eq (spelled v) text) refl (spelled_is text ws w) h
  where
    by : (b : Bool) → bytes_eq (spelled v) text ≡ b → (first_some (if_spelled text) ws ≡ Some w → text ≡ spelled w) → option_or (if b then Some v else None) (first_some (if_spelled text) ws) ≡ Some w → text ≡ spelled w
    by true same later at = let one : v ≡ w = cc in sym ((bytes_eq-Decides (spelled v) text).0 same) ∙ ap spelled one
    by false other later at = later at

word_written : (text : List ℕ) (x : Setting) → option_map Word (word_of text) ≡ Some x → string text ≡ data_of x
unfolding word_of
word_written text x h = by (word_of text) refl h
  where
    by : (o : Option AWord) → word_of text ≡ o → option_map Word o ≡ Some x → string text ≡ data_of x
    by None is at = cc
    by (Some w) is at = let one : Word w ≡ x = cc in ap string (spelled_is text words w is) ∙ ap data_of one

number_written : (n : ℕ) (x : Setting) (b : Bool) → (if b then Some (Number n) else None) ≡ Some x → integer (pos n) ≡ data_of x
number_written n x true h = let one : Number n ≡ x = cc in ap data_of one
number_written n x false h = cc

-- a written value is written so
written_is : (d : Data) (x : Setting) → written d ≡ Some x → d ≡ data_of x
unfolding written
written_is (boolean b) x h = let one : Truth b ≡ x = cc in ap data_of one
written_is (integer (pos n)) x h = number_written n x (nat_lt n 4294967296) h
written_is (integer (negsuc n)) x h = cc
written_is (string text) x h = word_written text x h
written_is _ x h = cc

same_data : (a b : Setting) → same a b ≡ true → data_of a ≡ data_of b
same_data (Truth true) (Truth true) h = refl
same_data (Truth false) (Truth false) h = refl
same_data (Number a) (Number b) h = ap (λ n. integer (pos n)) (eqb-true a b h)
same_data (Word a) (Word b) h = ap string ((bytes_eq-Decides (spelled a) (spelled b)).0 h)
same_data _ _ h = absurd (false≢true h)

-- a form among others
is_form : Data → Data → Bool
is_form (boolean a) (boolean b) = if a then b else not b
is_form (integer a) (integer b) = int_eq a b
is_form (string a) (string b) = bytes_eq a b
is_form _ _ = false

form_is : (a b : Data) → is_form a b ≡ true → a ≡ b
unfolding is_form
form_is (boolean true) (boolean true) h = refl
form_is (boolean false) (boolean false) h = refl
form_is (integer a) (integer b) h = ap integer ((Decides-int_eq a b).0 h)
form_is (string a) (string b) h = ap string ((bytes_eq-Decides a b).0 h)
form_is _ _ h = absurd (false≢true h)

among : (ds : List Data) (d : Data) → list_any (λ e. is_form e d) ds ≡ true → Contains ds d
among [] d h = absurd (false≢true h)
among (e ∷ ds) d h = by (is_form e d) refl (among ds d) h
  where
    by : (b : Bool) → is_form e d ≡ b → (list_any (λ e. is_form e d) ds ≡ true → Contains ds d) → (b || list_any (λ e. is_form e d) ds) ≡ true → Contains (e ∷ ds) d
    by true same later at = subst (Contains (e ∷ ds)) (form_is e d same) (head e ds)
    by false other later at = tail e ds d (later at)

-- each value of a choice is a form of what it means
fits : ProfileKey → Choice → Bool
fits k (Is v) = list_any (λ e. is_form e (data_of v)) (forms k v)
fits k (Means v meant) = list_any (λ e. is_form e (data_of v)) (forms k meant)
fits key.CodegenUnits (Between low high) = (low == 1) && (high == 65536)
fits _ (Between low high) = false

all_fit : (k : ProfileKey) → list_all (fits k) (choices k) ≡ true
unfolding choices fits is_form
all_fit key.CodegenUnits = refl
all_fit _ = refl

units_allowed : (low high n : ℕ) (x : Setting) → low ≡ 1 → high ≡ 65536 → between low high (Number n) ≡ Some x → Contains (forms key.CodegenUnits x) (integer (pos n))
units_allowed low high n x one most h = by (nat_le 1 n && nat_le n 65536) refl ((λ i. if nat_le (sym one i) n && nat_le n (sym most i) then Some (Number n) else None) ∙ h)
  where
    by : (b : Bool) → (nat_le 1 n && nat_le n 65536) ≡ b → (if b then Some (Number n) else None) ≡ Some x → Contains (forms key.CodegenUnits x) (integer (pos n))
    by true is at =
        let same : Number n ≡ x = cc in
        subst (λ y. Contains (forms key.CodegenUnits y) (integer (pos n))) same (subst (λ b. Contains (if b then integer (pos n) ∷ [] else []) (integer (pos n))) (sym is) (head (integer (pos n)) []))
    by false is at = cc

allowed : (k : ProfileKey) (c : Choice) (w x : Setting) → fits k c ≡ true → accepted w c ≡ Some x → Contains (forms k x) (data_of w)
unfolding fits
allowed k (Is v) w x fit h = by (same w v) refl h
  where
    by : (b : Bool) → same w v ≡ b → (if b then Some v else None) ≡ Some x → Contains (forms k x) (data_of w)
    by true is at = let one : v ≡ x = cc in subst (λ y. Contains (forms k y) (data_of w)) one (subst (Contains (forms k v)) (sym (same_data w v is)) (among (forms k v) (data_of v) fit))
    by false is at = cc
allowed k (Means v meant) w x fit h = by (same w v) refl h
  where
    by : (b : Bool) → same w v ≡ b → (if b then Some meant else None) ≡ Some x → Contains (forms k x) (data_of w)
    by true is at = let one : meant ≡ x = cc in subst (λ y. Contains (forms k y) (data_of w)) one (subst (Contains (forms k meant)) (sym (same_data w v is)) (among (forms k meant) (data_of v) fit))
    by false is at = cc
allowed key.CodegenUnits (Between low high) (Number n) x fit h =
    let (one, most) = and_parts (low == 1) (high == 65536) fit in units_allowed low high n x (eqb-true low 1 one) (eqb-true high 65536 most) h
allowed key.CodegenUnits (Between low high) _ x fit h = cc
allowed _ (Between low high) w x fit h = absurd (false≢true fit)

meant_so : (k : ProfileKey) (cs : List Choice) (w x : Setting) → list_all (fits k) cs ≡ true → meaning cs w ≡ Some x → Contains (forms k x) (data_of w)
meant_so k [] w x fit h = cc
meant_so k (c ∷ cs) w x fit h = let (one, others) = and_parts (fits k c) (list_all (fits k) cs) fit in by one (meant_so k cs w x others) (accepted w c) refl h
  where
    by : fits k c ≡ true → (meaning cs w ≡ Some x → Contains (forms k x) (data_of w)) → (o : Option Setting) → accepted w c ≡ o → option_or o (first_some (accepted w) cs) ≡ Some x → Contains (forms k x) (data_of w)
    by one later (Some y) is at = let same : y ≡ x = cc in allowed k c w x one (is ∙ ap (λ z. Some z) same)
    by one later None is at = later at

-- a value that is read is in one of its forms
setting_only : (k : ProfileKey) (d : Data) (x : Setting) → setting_in k d ≡ Some x → Contains (forms k x) d
unfolding setting_in
setting_only k d x h = by (written d) refl h
  where
    by : (o : Option Setting) → written d ≡ o → option_and_then (meaning_at k) o ≡ Some x → Contains (forms k x) d
    by None is at = cc
    by (Some w) is at = subst (Contains (forms k x)) (sym (written_is d w is)) (meant_so k (choices k) w x (all_fit k) at)

-- a test that stands each word stands all
spelled_back : (w : AWord) → word_of (spelled w) ≡ Some w
unfolding word_of
spelled_back word.Abort = refl
spelled_back _ = refl

along_words : (test : AWord → Bool) (w : AWord) (ws : List AWord) → list_all test ws ≡ true → first_some (if_spelled (spelled w)) ws ≡ Some w → test w ≡ true
along_words test w [] all at = cc
along_words test w (v ∷ ws) all at = let (one, others) = and_parts (test v) (list_all test ws) all in by one (along_words test w ws others) (bytes_eq (spelled v) (spelled w)) at
  where
    by : test v ≡ true → (first_some (if_spelled (spelled w)) ws ≡ Some w → test w ≡ true) → (b : Bool) → option_or (if b then Some v else None) (first_some (if_spelled (spelled w)) ws) ≡ Some w → test w ≡ true
    by one later true at = let same : v ≡ w = cc in subst (λ u. test u ≡ true) same one
    by one later false at = later at

each_word : (test : AWord → Bool) (w : AWord) → list_all test words ≡ true → test w ≡ true
unfolding word_of
each_word test w all = along_words test w words all (spelled_back w)

same_is : (a b : Setting) → same a b ≡ true → a ≡ b
same_is (Truth true) (Truth true) h = refl
same_is (Truth false) (Truth false) h = refl
same_is (Number a) (Number b) h = ap (λ n. Number n) (eqb-true a b h)
same_is (Word a) (Word b) h =
    let text : spelled a ≡ spelled b = (bytes_eq-Decides (spelled a) (spelled b)).0 h in
    let found : Some a ≡ Some b = sym (spelled_back a) ∙ ap word_of text ∙ spelled_back b in
    let one : a ≡ b = cc in ap (λ w. Word w) one
same_is _ _ h = absurd (false≢true h)

reads_same : Setting → Option Setting → Bool
reads_same x None = false
reads_same x (Some y) = same y x

-- whether a form is read as the value
is_read : ProfileKey → Setting → Data → Bool
is_read k x d = reads_same x (setting_in k d)

truths_read : (k : ProfileKey) (b : Bool) → list_all (is_read k (Truth b)) (forms k (Truth b)) ≡ true
unfolding is_read reads_same setting_in written choices word_of
truths_read key.CodegenUnits true = refl
truths_read key.CodegenUnits false = refl
truths_read _ true = refl
truths_read _ false = refl

words_read : (k : ProfileKey) → list_all (λ w. list_all (is_read k (Word w)) (forms k (Word w))) words ≡ true
unfolding is_read reads_same setting_in written choices word_of
words_read key.CodegenUnits = refl
words_read _ = refl

units_read : (n : ℕ) (b : Bool) → (nat_le 1 n && nat_le n 65536) ≡ b → AllByRecursion (λ d. setting_in key.CodegenUnits d ≡ Some (Number n)) (if b then integer (pos n) ∷ [] else [])
unfolding setting_in written choices
units_read n false is = tt
units_read n true is =
    let small : nat_lt n 4294967296 ≡ true = grind (arith, nat_tests, (and_parts (nat_le 1 n) (nat_le n 65536) is).1) in
    (rw (small, is) refl, tt)

all_read : (k : ProfileKey) (x : Setting) (ds : List Data) → list_all (is_read k x) ds ≡ true → AllByRecursion (λ d. setting_in k d ≡ Some x) ds
unfolding is_read reads_same
all_read k x [] all = tt
all_read k x (d ∷ ds) all = let (one, others) = and_parts (is_read k x d) (list_all (is_read k x) ds) all in (by (setting_in k d) refl one, all_read k x ds others)
  where
    by : (o : Option Setting) → setting_in k d ≡ o → reads_same x o ≡ true → setting_in k d ≡ Some x
    by None is h = absurd (false≢true h)
    by (Some y) is h = is ∙ ap (λ z. Some z) (same_is y x h)

-- each form of a value is read as it
pub setting_back : (k : ProfileKey) (x : Setting) → AllByRecursion (λ d. setting_in k d ≡ Some x) (forms k x)
setting_back k (Truth b) = all_read k (Truth b) (forms k (Truth b)) (truths_read k b)
setting_back k (Word w) = all_read k (Word w) (forms k (Word w)) (each_word (λ w. list_all (is_read k (Word w)) (forms k (Word w))) w (words_read k))
setting_back key.CodegenUnits (Number n) = units_read n (nat_le 1 n && nat_le n 65536) refl
setting_back _ (Number n) = tt

-- a form is a truth value, a number or a text
pub form_data : (k : ProfileKey) (x : Setting) (d : Data) → setting_in k d ≡ Some x → (w : Setting) × (d ≡ data_of w)
unfolding setting_in
form_data k x d h = by (written d) refl h
  where
    by : (o : Option Setting) → written d ≡ o → option_and_then (meaning_at k) o ≡ Some x → (w : Setting) × (d ≡ data_of w)
    by None is at = cc
    by (Some w) is at = (w, written_is d w is)

-- such a key
all_at : {A : Type 0} (P : A → Type 0) (xs : List A) (x : A) → AllByRecursion P xs → Contains xs x → P x
all_at P [] x all is = absurd (none x is)
all_at P (w ∷ xs) x all is = elim (cases w xs x is) [ inl here ↦ subst P here all.0 | inr there ↦ all_at P xs x all.1 there ]

some_ok : {A : Type 0} (found : Option A) (x : A) → some_or BadProfile found ≡ Ok x → found ≡ Some x
some_ok None x h = cc
some_ok (Some y) x h = let same : y ≡ x = cc in ap (λ z. Some z) same

module _ (k : ProfileKey) where
  form_only : (found : Option Data) (o : Option Setting) → optional (λ d. some_or BadProfile (setting_in k d)) found ≡ Ok o → HoldsOne (forms k) found o
  form_only None o h = let same : None ≡ o = cc in subst (HoldsOne (forms k) None) same tt
  form_only (Some d) o h =
      let c = came (some_or BadProfile (setting_in k d)) (λ x. Ok (Some x)) o h in
      let same : Some c.value ≡ o = cc (c.more) in
      subst (HoldsOne (forms k) (Some d)) same (setting_only k d c.value (some_ok (setting_in k d) c.value c.was), tt)

  form_back : (found : Option Data) (o : Option Setting) → HoldsOne (forms k) found o → optional (λ d. some_or BadProfile (setting_in k d)) found ≡ Ok o
  form_back None None is = refl
  form_back None (Some x) is = absurd is
  form_back (Some d) None is = absurd is
  form_back (Some d) (Some x) is = ap (λ q. some_or BadProfile q >>= (λ y. Ok (Some y))) (all_at (λ e. setting_in k e ≡ Some x) (forms k x) d (setting_back k x) is.0)

-- the names of the table are those of the law
named_so : (k : ProfileKey) → spelled_key (key_name.OfProfile k) ≡ name_of k
unfolding spelled_key row
named_so key.CodegenUnits = refl
named_so _ = refl

found_at : (k : ProfileKey) (ms : Members) → value_at (key_name.OfProfile k) ms ≡ get_member (name_of k) ms
found_at k ms = ap (λ name. get_member name ms) (named_so k)

text_form : IsWrittenAs (λ d. some_or BadProfile (as_str d)) (λ t. string t) Any
text_form = record { only = only; back = λ x valid. refl; plain = λ x. refl }
  where
    only : (d : Data) (x : List ℕ) → some_or BadProfile (as_str d) ≡ Ok x → (d ≡ string x) × Any x
    only (string t) x h = let same : t ≡ x = cc in (ap (λ q. string q) same, tt)
    only _ x h = cc

-- the values that were read, key by key
lengths_only : (ks : List ProfileKey) (ms : Members) (said : Said) → settings_at ks ms ≡ Ok said → length said ≡ length ks
lengths_only [] ms said h = let same : [] ≡ said = cc in ap (λ (vs : Said). length vs) (sym same)
lengths_only (k ∷ ks) ms said h =
    let a = came (profile_value (setting_in k) (key_name.OfProfile k) ms) (λ value. settings_at ks ms >>= (λ values. Ok (value ∷ values))) said h in
    let b = came (settings_at ks ms) (λ values. Ok (a.value ∷ values)) said a.more in
    let same : a.value ∷ b.value ≡ said = cc (b.more) in
    ap (λ (vs : Said). length vs) (sym same) ∙ ap suc (lengths_only ks ms b.value b.was)

keys_only : (ks : List ProfileKey) (ms : Members) (said : Said) → settings_at ks ms ≡ Ok said → (i : ℕ) (k : ProfileKey) → slice_get ks i ≡ Some k → profile_value (setting_in k) (key_name.OfProfile k) ms ≡ Ok (get_or said i None)
keys_only [] ms said h i k at = cc
keys_only (l ∷ ks) ms said h i k at =
    let a = came (profile_value (setting_in l) (key_name.OfProfile l) ms) (λ value. settings_at ks ms >>= (λ values. Ok (value ∷ values))) said h in
    let b = came (settings_at ks ms) (λ values. Ok (a.value ∷ values)) said a.more in
    let same : a.value ∷ b.value ≡ said = cc (b.more) in
    subst (λ (vs : Said). profile_value (setting_in k) (key_name.OfProfile k) ms ≡ Ok (get_or vs i None)) same (by a.value b.value a.was (λ n there. keys_only ks ms b.value b.was n k there) i at)
  where
    by : (value : Option Setting) (values : Said) → profile_value (setting_in l) (key_name.OfProfile l) ms ≡ Ok value
        → ((n : ℕ) → slice_get ks n ≡ Some k → profile_value (setting_in k) (key_name.OfProfile k) ms ≡ Ok (get_or values n None))
        → (i : ℕ) → slice_get (l ∷ ks) i ≡ Some k → profile_value (setting_in k) (key_name.OfProfile k) ms ≡ Ok (get_or (value ∷ values) i None)
    by value values was later zero at = let same : l ≡ k = cc in subst (λ m. profile_value (setting_in m) (key_name.OfProfile m) ms ≡ Ok value) same was
    by value values was later (suc n) at = later n at

keys_back : (ks : List ProfileKey) (ms : Members) (said : Said) → length said ≡ length ks → ((i : ℕ) (k : ProfileKey) → slice_get ks i ≡ Some k → profile_value (setting_in k) (key_name.OfProfile k) ms ≡ Ok (get_or said i None)) → settings_at ks ms ≡ Ok said
keys_back [] ms [] same each = refl
keys_back [] ms (value ∷ said) same each = absurd (omega arith)
keys_back (k ∷ ks) ms [] same each = absurd (omega arith)
keys_back (k ∷ ks) ms (value ∷ said) same each =
    let fewer : length said ≡ length ks = omega arith in
    λ i. each 0 k refl i >>= (λ value. keys_back ks ms said fewer (λ n l at. each (suc n) l at) i >>= (λ values. Ok (value ∷ values)))

-- the numbers from the first on
up_from : ℕ → ℕ → List ℕ
up_from n zero = []
up_from n (suc m) = n ∷ up_from (suc n) m

counted : (n : ℕ) (ks : List ProfileKey) → map index ks ≡ up_from n (length ks) → (i : ℕ) (k : ProfileKey) → slice_get ks i ≡ Some k → index k ≡ n + i
unfolding up_from
counted n [] same i k at = cc
counted n (l ∷ ks) same zero k at =
    let one : l ≡ k = cc in
    let first : index l ≡ n = ap (λ ns. get_or ns 0 0) same in
    let none : n ≡ n + 0 = omega arith in
    ap index (sym one) ∙ first ∙ none
counted n (l ∷ ks) same (suc i) k at =
    let rest : map index ks ≡ up_from (suc n) (length ks) = ap (λ ns. drop 1 ns) same in
    let moved : suc n + i ≡ n + suc i = omega arith in
    counted (suc n) ks rest i k at ∙ moved

-- a key at an index has it as its own
placed : (i : ℕ) (k : ProfileKey) → slice_get keys i ≡ Some k → i ≡ index k
unfolding up_from
placed i k at = let none : i ≡ 0 + i = omega arith in none ∙ sym (counted 0 keys refl i k at)

settings_only : (ms : Members) (said : Said) → profile_keys ms ≡ Ok said → AreSettings ms said
unfolding profile_keys
settings_only ms said h = record {
  one_each = lengths_only keys ms said h;
  each = λ k. subst (λ found. HoldsOne (forms k) found (says said k)) (found_at k ms) (form_only k (value_at (key_name.OfProfile k) ms) (says said k) (keys_only keys ms said h (index k) k (at_index k)));
}

settings_back : (ms : Members) (said : Said) → AreSettings ms said → profile_keys ms ≡ Ok said
unfolding profile_keys
settings_back ms said is = keys_back keys ms said is.one_each each
  where
    here : (i : ℕ) (k : ProfileKey) → i ≡ index k → profile_value (setting_in k) (key_name.OfProfile k) ms ≡ Ok (get_or said i None)
    here i k at = subst (λ n. profile_value (setting_in k) (key_name.OfProfile k) ms ≡ Ok (get_or said n None)) (sym at) (form_back k (value_at (key_name.OfProfile k) ms) (says said k) (subst (λ found. HoldsOne (forms k) found (says said k)) (sym (found_at k ms)) (is.each k)))

    each : (i : ℕ) (k : ProfileKey) → slice_get keys i ≡ Some k → profile_value (setting_in k) (key_name.OfProfile k) ms ≡ Ok (get_or said i None)
    each i k at = here i k (placed i k at)

pub settings_read : ReadsSettings
settings_read ms k = (settings_only ms k, settings_back ms k)

-- overrides
table_ok : (d : Data) (ms : Members) → profile_table d ≡ Ok ms → d ≡ table ms
table_ok d ms h = table_is d ms (some_ok (as_table d) ms h)

override_only : (name : List ℕ) (d : Data) (o : ProfileOverride) → override_of name d ≡ Ok o → OfTable (IsOverrideEntry name) d o
unfolding override_of
override_only name d o h =
    let a = came (profile_table d) (λ ms. profile_keys ms >>= (λ keys. Ok record { name = name; keys = keys })) o h in
    let b = came (profile_keys a.value) (λ keys. Ok record { name = name; keys = keys }) o a.more in
    let made : ProfileOverride = record { name = name; keys = b.value } in
    let same : made ≡ o = cc (b.more) in
    subst (OfTable (IsOverrideEntry name) d) same (a.value, table_ok d a.value a.was, record { name_is = refl; keys = settings_only a.value b.value b.was })

override_back : (name : List ℕ) (d : Data) (o : ProfileOverride) → OfTable (IsOverrideEntry name) d o → override_of name d ≡ Ok o
unfolding override_of
override_back name d o says =
    (λ i. profile_table (says.1 i) >>= (λ ms. profile_keys ms >>= (λ keys. Ok record { name = name; keys = keys })))
    ∙ (λ i. settings_back says.0 o.keys says.2.keys i >>= (λ keys. Ok record { name = sym says.2.name_is i; keys = keys }))

override_reads : (name : List ℕ) (d : Data) (o : ProfileOverride) → (override_of name d ≡ Ok o) ↔ OfTable (IsOverrideEntry name) d o
override_reads name d o = (override_only name d o, override_back name d o)

build_none : build_override_in None ≡ Ok None
build_none = refl

build_some : (ms : Members) → build_override_in (Some ms) ≡ (profile_keys ms >>= (λ keys. Ok (Some keys)))
build_some ms = refl

profile_only : (name : List ℕ) (d : Data) (p : Profile) → profile_of name d ≡ Ok p → OfTable (IsProfileEntry name) d p
unfolding profile_of spelled_key
profile_only name d p h =
    let a = came (profile_table d) (profile_of_table name) p h in
    let t = four_on p (build_override_at a.value) (profile_keys a.value) (profile_value as_str key_name.Inherits a.value) (overrides_at a.value)
    (λ build_override keys inherits packages. if may_be_profile name inherits then Ok record { name = name; keys = keys; inherits = inherits; packages = packages; build_override = build_override } else Err BadProfile) a.more in
    by a.value t.0 t.1 t.2 t.3 (table_ok d a.value a.was) t.4 t.5 t.6 t.7 (may_be_profile name t.2) refl t.8
  where
    by : (ms : Members) (build_override : Option Said) (keys : Said) (inherits : Option (List ℕ)) (packages : List ProfileOverride) → d ≡ table ms → build_override_at ms ≡ Ok build_override → profile_keys ms ≡ Ok keys
        → profile_value as_str key_name.Inherits ms ≡ Ok inherits → overrides_at ms ≡ Ok packages → (b : Bool) → may_be_profile name inherits ≡ b
        → (if b then Ok record { name = name; keys = keys; inherits = inherits; packages = packages; build_override = build_override } else Err BadProfile) ≡ Ok p → OfTable (IsProfileEntry name) d p
    by ms build_override keys inherits packages is one two three four true may h =
        let made : Profile = record { name = name; keys = keys; inherits = inherits; packages = packages; build_override = build_override } in
        let same : made ≡ p = cc (h) in
        subst (OfTable (IsProfileEntry name) d) same (
          ms,
          is,
          record {
            name_is = refl;
            keys = settings_only ms keys two;
            inherits = (optional_only (λ d. some_or BadProfile (as_str d)) (λ t. string t) Any text_form (value_at key_name.Inherits ms) inherits three).0;
            may_be = may;
            packages = entries_at_only override_of (λ name. OfTable (IsOverrideEntry name)) override_reads BadProfile (value_at key_name.Package ms) packages four;
            build_override = table_at_only profile_keys AreSettings settings_read build_override_in build_none build_some BadProfile (value_at key_name.BuildOverride ms) build_override one;
          },
        )
    by ms build_override keys inherits packages is one two three four false may h = cc

profile_back : (name : List ℕ) (d : Data) (p : Profile) → OfTable (IsProfileEntry name) d p → profile_of name d ≡ Ok p
unfolding profile_of spelled_key
profile_back name d p says =
    let ms = says.0 in
    let one : build_override_at ms ≡ Ok p.build_override = table_at_back profile_keys AreSettings settings_read build_override_in build_none build_some BadProfile (value_at key_name.BuildOverride ms) p.build_override says.2.build_override in
    let two : profile_keys ms ≡ Ok p.keys = settings_back ms p.keys says.2.keys in
    let three : profile_value as_str key_name.Inherits ms ≡ Ok p.inherits = optional_back (λ d. some_or BadProfile (as_str d)) (λ t. string t) Any text_form (value_at key_name.Inherits ms) p.inherits says.2.inherits (some_any p.inherits) in
    let four : overrides_at ms ≡ Ok p.packages = entries_at_back override_of (λ name. OfTable (IsOverrideEntry name)) override_reads BadProfile (value_at key_name.Package ms) p.packages says.2.packages in
    (λ i. profile_table (says.1 i) >>= profile_of_table name)
    ∙ (λ i. one i >>= (λ build_override. two i >>= (λ keys. three i >>= (λ inherits. four i >>= (λ packages. if may_be_profile name inherits then Ok record { name = name; keys = keys; inherits = inherits; packages = packages; build_override = build_override } else Err BadProfile)))))
    ∙ (λ i. if says.2.may_be i then Ok record { name = sym says.2.name_is i; keys = p.keys; inherits = p.inherits; packages = p.packages; build_override = p.build_override } else Err BadProfile)

pub profiles_read : ReadsProfiles
profiles_read name d p = (profile_only name d p, profile_back name d p)
