-- The numbers of records and the next run number are what the laws say.
use Rattle.std.proofs.Common.{◌≡◌, ◌∙◌, ◌++◌, ◌∷◌, [], ℕ, Bool, true, false, max, fold, List, map, Option, Some, None, is_none, is_some, not, refl, slice_get, sym, ap, arith}
use Rattle.std.proofs.lemmas.Slice.Eq.{bytes_eq-Decides}
use Rattle.std.specs.FinMap as finite
use Rattle.std.specs.List.{flat_map}
use Rattle.std.specs.Option.{option_map_or}
use Rattle.std.specs.Prelude.{if◌then◌else◌, option_and_then}
use Rattle.std.specs.Str.{bytes_eq}
use Rattle.pb_place_types.specs.World.{Map, listed_directly}
use Rattle.pb_record.specs.declared.record.Needed.{Needed}
use Rattle.pb_record.specs.declared.record.Needed.TheVariants.{Copies, Numbers}
use Rattle.pb_record.specs.declared.record.Record.{Record}
use Rattle.pb_store_soundness.specs.Numbers.{after}
use Rattle.pb_store_soundness.specs.Records.{RecordParser, reading, ends_as_record, if_of_key, is_key, number_in, number_of, record_path, read_text, record_at}
use Rattle.pb_store_soundness.specs.Reuse.{number_if}
use Rattle.pb_store.specs.Folder.{lacks_number, greatest_at, greatest_if, greatest_named}
use Rattle.pb_build_laws.specs.Numbers.{NextIsAbove, RecordsAreNumbered, RecordsCount, numbers_at, numbers_in}

-- the greatest of some numbers

from_some : (g : ℕ) (ns : List ℕ) → fold max g ns ≡ max g (fold max 0 ns)
from_some g [] = omega arith
from_some g (n ∷ ns) =
    let here : fold max (max g n) ns ≡ max (max g n) (fold max 0 ns) = from_some (max g n) ns in
    let there : fold max (max 0 n) ns ≡ max (max 0 n) (fold max 0 ns) = from_some (max 0 n) ns in
    let joined : max (max g n) (fold max 0 ns) ≡ max g (max (max 0 n) (fold max 0 ns)) = omega arith in
    here ∙ joined ∙ ap (max g) (sym there)

both : (g : ℕ) (ns more : List ℕ) → fold max g (ns ++ more) ≡ fold max (fold max g ns) more
both g [] more = refl
both g (n ∷ ns) more = both (max g n) ns more

named : (g : ℕ) (needs : List (List ℕ × ℕ)) → fold (λ (g : ℕ) (need : List ℕ × ℕ). max g need.1) g needs ≡ fold max g (map (λ (need : List ℕ × ℕ). need.1) needs)
named g [] = refl
named g (need ∷ needs) = named (max g need.1) needs

greatest_is : (needed : Needed) → greatest_named needed ≡ fold max 0 (numbers_in needed)
greatest_is (Copies copies) = refl
greatest_is (Numbers number needs) =
    let rest : List ℕ = map (λ (need : List ℕ × ℕ). need.1) needs in
    let least : max number (fold max 0 rest) ≡ max (max 0 number) (fold max 0 rest) = omega arith in
    ap (max number) (named 0 needs) ∙ least ∙ sym (from_some (max 0 number) rest)

read_is : (text : Option (List ℕ)) → greatest_if (read_text reading text) ≡ fold max 0 (option_map_or (λ (r : Record). numbers_in r.needed) (option_and_then reading text) [])
read_is None = refl
read_is (Some text) = by (reading text)
  where
    by : (r : Option Record) → greatest_if r ≡ fold max 0 (option_map_or (λ (r : Record). numbers_in r.needed) r [])
    by None = refl
    by (Some r) = greatest_is r.needed

at_is : (files : Map) (path : List ℕ) → greatest_at files path ≡ fold max 0 (numbers_at files path)
at_is files path = by (ends_as_record path)
  where
    by : (b : Bool) → (if b then greatest_if (read_text reading (finite.get files path)) else 0) ≡ fold max 0 (if b then option_map_or (λ (r : Record). numbers_in r.needed) (option_and_then reading (finite.get files path)) [] else [])
    by true = read_is (finite.get files path)
    by false = refl

all_are : (files : Map) (g : ℕ) (paths : List (List ℕ)) → fold (λ (g : ℕ) (path : List ℕ). max g (greatest_at files path)) g paths ≡ fold max g (flat_map (numbers_at files) paths)
all_are files g [] = refl
all_are files g (path ∷ paths) =
    all_are files (max g (greatest_at files path)) paths
    ∙ ap (λ n. fold max n (flat_map (numbers_at files) paths)) (ap (max g) (at_is files path) ∙ sym (from_some g (numbers_at files path)))
    ∙ sym (both g (numbers_at files path) (flat_map (numbers_at files) paths))

pub next_is_above : NextIsAbove
next_is_above folder w = ap after (all_are w.files 0 (listed_directly folder w))

own_is : (needed : Needed) → number_in needed ≡ slice_get (numbers_in needed) 0
own_is (Copies copies) = refl
own_is (Numbers number needs) = refl

if_is : (o : Option Record) → number_if o ≡ option_and_then number_of o
if_is None = refl
if_is (Some r) = refl

lacks_is : (o : Option Record) → lacks_number o ≡ option_map_or (λ (r : Record). is_none (number_of r)) o false
lacks_is None = refl
lacks_is (Some r) = by (number_of r)
  where
    by : (n : Option ℕ) → not (is_some n) ≡ is_none n
    by None = refl
    by (Some n) = refl

pub records_are_numbered : RecordsAreNumbered
records_are_numbered = (λ r. own_is r.needed, λ o. (if_is o, lacks_is o))

-- the record of a key

module _ (read : RecordParser) (key : List ℕ) (found : Option (List ℕ)) (r : Record) where
  Counts : Bool → Type 0
  Counts so = (text : List ℕ) × (found ≡ Some text) × (read text ≡ Some r) × (r.key ≡ key) × (so ≡ true)

  of_key : (text : List ℕ) → found ≡ Some text → (o : Option Record) → read text ≡ o → if_of_key key o ≡ Some r → Counts true
  unfolding Counts
  of_key text at None reads is = absurd (cc)
  of_key text at (Some s) reads is = by (bytes_eq s.key key) refl is
    where
      by : (b : Bool) → bytes_eq s.key key ≡ b → (if b then Some s else None) ≡ Some r → (text : List ℕ) × (found ≡ Some text) × (read text ≡ Some r) × (r.key ≡ key) × (true ≡ true)
      by true same is = let one : s ≡ r = cc in (text, at, reads ∙ is, ap (λ (s : Record). s.key) (sym one) ∙ (bytes_eq-Decides s.key key).0 same, refl)
      by false other is = absurd (cc)

  counts_only : (so : Bool) (o : Option (List ℕ)) → found ≡ o → (if so then if_of_key key (read_text read o) else None) ≡ Some r → Counts so
  counts_only false o at is = absurd (cc)
  counts_only true None at is = absurd (cc)
  counts_only true (Some text) at is = of_key text at (read text) refl is

  counts_back : (so : Bool) → Counts so → (if so then if_of_key key (read_text read found) else None) ≡ Some r
  unfolding Counts
  counts_back so (text, at, reads, same, is) =
      ap (λ b. if b then if_of_key key (read_text read found) else None) is ∙ ap (λ o. if_of_key key (read_text read o)) at ∙ ap (if_of_key key) reads
      ∙ ap (λ b. if b then Some r else None) ((bytes_eq-Decides r.key key).1 same)

pub records_count : RecordsCount
unfolding Counts record_at
records_count folder key files r =
    (counts_only reading key (finite.get files (record_path folder key)) r (is_key key) (finite.get files (record_path folder key)) refl, counts_back reading key (finite.get files (record_path folder key)) r (is_key key))
