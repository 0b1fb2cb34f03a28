-- What is kept may be put.
use Rattle.std.proofs.Common.{◌≡◌, ◌⊎◌, ◌<◌, ◌∙◌, zero, suc, ℕ, Bool, true, cond, List, [], ◌∷◌, map, Option, Some, None, Contains, refl, sym, ap, subst, inl, inr, arith}
use Rattle.std.specs.FinMap.{get}
use Rattle.pb_place_types.specs.Folders.{files_in}
use Rattle.pb_place_types.specs.Paths.{is_path}
use Rattle.pb_place_types.specs.World.{World, Map, Answers, from_nothing}
use Rattle.pb_place_types.specs.declared.command.Command.{Command}
use Rattle.pb_place_types.specs.declared.command.Ended.{Ended}
use Rattle.pb_record.specs.declared.record.InputName.{InputName}
use Rattle.pb_record.specs.declared.record.InputName.TheVariants.{Path, Variable}
use Rattle.pb_record.specs.Commands.{asked_in, asked_with, command_of, of_parts}
use Rattle.pb_record.specs.Sorted.{are_sorted}
use Rattle.pb_record.specs.declared.recorded_command.RecordedCommand.{RecordedCommand}
use Rattle.pb_record.specs.declared.record.Input.{Input}
use Rattle.pb_record.specs.declared.record.Record.{Record}
use Rattle.pb_store_soundness.specs.Grounded.{RecordMap}
use Rattle.pb_store_soundness.specs.Inputs.{Judge, Agrees, IsHonest, input_in, name_of, path_input, reply_in}
use Rattle.pb_store_soundness.specs.Laws.{Unnamed}
use Rattle.pb_store_soundness.specs.Numbers.{NoneNames, IsBefore, NamesBefore}
use Rattle.pb_store_soundness.specs.Records.{is_key, out_of, reading, records, needs_of, number_of}
use Rattle.pb_store_soundness.specs.Reuse.{number_if, NamesNeeds, ReadByNeeds, own, beyond}
use Rattle.pb_store_soundness.specs.Sound.{Backs, replied_files}
use Rattle.pb_store_soundness.proofs.Becoming.{one}
use Rattle.pb_store_soundness.proofs.Flying.{contains_head, contains_tail}
use Rattle.pb_store.specs.Folder.{ReadBy, itself, further, HasNeeds, IsEarned, IsKept, MayPut, kept_of, numbered, or_zero}

pub contains_none : {X : Type 0} (v : X) → Contains [] v → ⊥
contains_none v (k, lt, at) = omega (arith, lt)

pub contains_cases : {X : Type 0} (x : X) (xs : List X) (v : X) → Contains (x ∷ xs) v → (x ≡ v) ⊎ Contains xs v
contains_cases x xs v (zero, lt, at) = inl at
contains_cases x xs v (suc k, lt, at) = inr (k, omega arith, at)

contains_map : {X Y : Type 0} (f : X → Y) (xs : List X) (x : X) → Contains xs x → Contains (map f xs) (f x)
contains_map f [] x h = absurd (contains_none x h)
contains_map f (y ∷ xs) x h = elim (contains_cases y xs x h) [
  | inl e ↦ subst (λ z. Contains (f y ∷ map f xs) (f z)) e (contains_head (f y) (map f xs))
  | inr more ↦ contains_tail (f y) (map f xs) (f x) (contains_map f xs x more)
]

map_contains : {X Y : Type 0} (f : X → Y) (xs : List X) (v : Y) → Contains (map f xs) v → (x : X) × Contains xs x × (f x ≡ v)
map_contains f [] v h = absurd (contains_none v h)
map_contains f (y ∷ xs) v h = elim (contains_cases (f y) (map f xs) v h) [
  | inl e ↦ (y, contains_head y xs, e)
  | inr more ↦ let (x, in', e) = map_contains f xs v more in (x, contains_tail y xs x in', e)
]

-- the needed units with their numbers
pair_is : (p q : List ℕ × ℕ) → p ≡ q → (p.0 ≡ q.0) × (p.1 ≡ q.1)
pair_is p q e = (ap (λ (x : List ℕ × ℕ). x.0) e, ap (λ (x : List ℕ × ℕ). x.1) e)

module _ (at : RecordMap) (folder : List ℕ) (needs : List (List ℕ)) (r : Record) (number : ℕ) (has : HasNeeds at folder r.asked.reads needs number) (same : needs_of r ≡ numbered at needs) where
  named_of : (need : List ℕ) (n : ℕ) → Contains (needs_of r) (need, n) → Contains needs need × (or_zero (number_if (at need)) ≡ n)
  named_of need n names =
      let (k, there, pair) = map_contains (λ (x : List ℕ). (x, or_zero (number_if (at x)))) needs (need, n) (subst (λ (l : List (List ℕ × ℕ)). Contains l (need, n)) same names) in
      let (key_is, number_is) = pair_is (k, or_zero (number_if (at k))) (need, n) pair in
      (subst (Contains needs) key_is there, ap (λ x. or_zero (number_if (at x))) (sym key_is) ∙ number_is)

  names_of : (need : List ℕ) → Contains needs need → Contains (needs_of r) (need, or_zero (number_if (at need)))
  names_of need there = subst (λ (l : List (List ℕ × ℕ)). Contains l (need, or_zero (number_if (at need)))) (sym same) (contains_map (λ (x : List ℕ). (x, or_zero (number_if (at x)))) needs need there)

  stands_with : (need : List ℕ) (n : ℕ) → Contains (needs_of r) (need, n) → (s : Record) × (at need ≡ Some s) × (number_of s ≡ Some n) × (n < number)
  stands_with need n names =
      let (there, is) = named_of need n names in
      let (s, at_s, (m, numbered_s, less)) = has.stand need there in
      let one : m ≡ n = sym (ap (λ o. or_zero (number_if o)) at_s ∙ ap or_zero numbered_s) ∙ is in
      (s, at_s, numbered_s ∙ ap Some one, subst (λ i. i < number) one less)

  pub names_stand : NamesNeeds at folder r number
  names_stand = record {
    stand = λ need n names. let (s, at_s, numbered_s, less) = stands_with need n names in (s, at_s, numbered_s);
    less = λ need n names. let (s, at_s, numbered_s, less) = stands_with need n names in less;
    reads = λ f. (λ there. to_named f ((has.reads_are f).0 there), λ by. (has.reads_are f).1 (from_named f by));
  }
    where
      to_named : (f : List ℕ) → ReadBy at folder needs f → ReadByNeeds at folder (needs_of r) f
      to_named f (itself need there is) = own need (or_zero (number_if (at need))) (names_of need there) is
      to_named f (further need s there at_s more) = beyond need (or_zero (number_if (at need))) s (names_of need there) at_s more

      from_named : (f : List ℕ) → ReadByNeeds at folder (needs_of r) f → ReadBy at folder needs f
      from_named f (own need n names is) = itself need (named_of need n names).0 is
      from_named f (beyond need n s names at_s more) = further need s (named_of need n names).0 at_s more

pub unnamed_of : (at : RecordMap) (key : List ℕ) (number : ℕ) → NoneNames at number → Unnamed at key number
unnamed_of at key number none other r there has = (none other r there).1 key has

-- what a command asks
asked_by : (c : Command) (out : List ℕ) (here : Option (List ℕ)) (b : Bool) → here ≡ Some out → are_sorted c.pairs ≡ b → b ≡ true → asked_with c here ≡ Some (of_parts c out)
asked_by c out here b there is sorted = ap (asked_with c) there ∙ ap (λ x. cond x (Some (of_parts c out)) None) (is ∙ sorted)

asked_is : (c : Command) (out : List ℕ) → c.out ≡ Some out → are_sorted c.pairs ≡ true → asked_in c ≡ Some (of_parts c out)
asked_is c out there sorted = asked_by c out c.out (are_sorted c.pairs) there refl sorted

pub asked_some : (c passed : Command) (out : List ℕ) (found : Option RecordedCommand) (a : RecordedCommand) → found ≡ asked_in passed → passed ≡ c → found ≡ Some a → c.out ≡ Some out → are_sorted c.pairs ≡ true → a ≡ of_parts c out
asked_some c passed out found a is given some there sorted = some_same a (of_parts c out) (sym some ∙ is ∙ ap asked_in given ∙ asked_is c out there sorted)
  where
    some_same : (x y : RecordedCommand) → Some x ≡ Some y → x ≡ y
    some_same x y e = cc

pub asked_none : (c passed : Command) (out : List ℕ) (found : Option RecordedCommand) → found ≡ asked_in passed → passed ≡ c → found ≡ None → c.out ≡ Some out → are_sorted c.pairs ≡ true → ⊥
asked_none c passed out found is given none there sorted = none_same (of_parts c out) (sym none ∙ is ∙ ap asked_in given ∙ asked_is c out there sorted)
  where
    none_same : (x : RecordedCommand) → None ≡ Some x → ⊥
    none_same x e = cc

pub ruleset asked_laws = (asked_some, asked_none)

command_back : (c : Command) (out : List ℕ) → c.out ≡ Some out → command_of (of_parts c out) ≡ c
command_back c out there = ap (λ o. record c { out = o }) (sym there)

-- what is read has the names that were asked for, and its present value
path_name : (path : List ℕ) (m : Map) (found : Option (List ℕ)) → name_of (path_input path m found) ≡ Path path
path_name path m None = refl
path_name path m (Some bytes) = refl

name_back : (target : List ℕ) (w : World) (name : InputName) → name_of (input_in target w name) ≡ name
name_back target w (Path path) = path_name path (from_nothing target w).files (get (from_nothing target w).files path)
name_back target w (Variable name) = refl

names_back : (target : List ℕ) (w : World) (names : List InputName) → map name_of (map (input_in target w) names) ≡ names
names_back target w [] = refl
names_back target w (name ∷ names) = cc (name_back target w name, names_back target w names)

present_agree : (target : List ℕ) (w : World) (names : List InputName) → Agrees target (map (input_in target w) names) w
present_agree target w [] = tt
present_agree target w (name ∷ names) = (ap (input_in target w) (name_back target w name), present_agree target w names)

-- so its reply backs the record
earned_backs : (judge : Judge) (child : Answers) (folder key : List ℕ) (c : Command) (names : List InputName) (number : ℕ) (needs : List (List ℕ)) (ended : Ended) (w : World)
    → c.out ≡ Some (out_of folder key) → IsEarned judge child folder key c names ended w
    → Backs judge (kept_of folder key c (map (input_in c.target w) names) number (numbered (records folder w) needs) ended) (out_of folder key) (files_in (out_of folder key) w.files) (reply_in child (command_of (of_parts c (out_of folder key))) w)
earned_backs judge child folder key c names number needs ended w there earned =
    let back = command_back c (out_of folder key) there in
    record {
      good = ap (λ (d : Command). judge d (reply_in child d w)) back ∙ earned.good ∙ ap Some (sym (names_back c.target w names));
      status = ap (λ (d : Command). (reply_in child d w).status) back ∙ earned.status;
      stdout = ap (λ (d : Command). (reply_in child d w).stdout) back ∙ earned.stdout;
      stderr = ap (λ (d : Command). (reply_in child d w).stderr) back ∙ earned.stderr;
      files = ap (λ (d : Command). replied_files (out_of folder key) (reply_in child d w)) back ∙ earned.files;
    }

pub may_keep : (judge : Judge) (child : Answers) (folder key : List ℕ) (c : Command) (names : List InputName) (number : ℕ) (needs : List (List ℕ)) (ended : Ended) (old now : World) (r : Record)
    → now ≡ old → is_path folder ≡ true → is_key key ≡ true → c.out ≡ Some (out_of folder key) → IsKept judge child folder key c needs names ended number old
    → r ≡ kept_of folder key c (map (input_in c.target old) names) number (numbered (records folder old) needs) ended → MayPut reading judge child folder key now r number
may_keep judge child folder key c names number needs ended old now r same path is there may kept =
    let made = kept_of folder key c (map (input_in c.target old) names) number (numbered (records folder old) needs) ended in
    subst (λ (w : World). MayPut reading judge child folder key w r number) (sym same)
    (subst (λ (s : Record). MayPut reading judge child folder key old s number) (sym kept) record {
      honest = subst (λ (d : Command). IsHonest judge child d old) (sym (command_back c (out_of folder key) there)) may.earned.honest;
      agree = present_agree c.target old names;
      backs = earned_backs judge child folder key c names number needs ended old there may.earned;
      names = names_stand (records folder old) folder needs made number may.needs_stand refl;
      path = path;
      key_is = is;
      its_key = refl;
      numbered = refl;
      unnamed = unnamed_of (records folder old) key number may.unnamed;
    })

-- it names only numbers below the next one
pub before_less : (next : Option ℕ) (n number : ℕ) → n < number → IsBefore next number → IsBefore next n
before_less None n number less before = tt
before_less (Some m) n number less before = omega (arith, less, before)

pub kept_before : (at : RecordMap) (folder key : List ℕ) (next : Option ℕ) (c : Command) (inputs : List Input) (number : ℕ) (needs : List (List ℕ)) (ended : Ended) (r : Record)
    → IsBefore next number → HasNeeds at folder c.reads needs number → r ≡ kept_of folder key c inputs number (numbered at needs) ended → NamesBefore next r
kept_before at folder key next c inputs number needs ended r before has kept =
    subst (NamesBefore next) (sym kept) record {
      own = λ n is. subst (IsBefore next) (one number n is) before;
      named = λ need n named. before_less next n number ((names_stand at folder needs (kept_of folder key c inputs number (numbered at needs) ended) number has refl).less need n named) before;
    }
