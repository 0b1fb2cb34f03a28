-- A unit has one first difference, and none where nothing differs.
use Rattle.std.proofs.Common.{◌≡◌, ◌∙◌, ◌++◌, ℕ, true, List, [], ◌∷◌, Contains, Option, Some, None, refl, sym, ap, subst}
use Rattle.std.specs.List.{AllByRecursion}
use Rattle.pb_place_types.specs.Paths.{is_relative}
use Rattle.pb_place_types.specs.World.{World, Map}
use Rattle.pb_place_types.specs.declared.command.Command as commands
use Rattle.pb_record.specs.Commands.{AsksAs, command_of}
use Rattle.pb_record.specs.declared.recorded_command.RecordedCommand.{RecordedCommand}
use Rattle.pb_record.specs.declared.record.Needed.{Needed}
use Rattle.pb_record.specs.declared.record.Needed.TheVariants.{Copies, Numbers}
use Rattle.pb_record.specs.declared.record.Record.{Record}
use Rattle.pb_record.proofs.ReadingLemmas.{reading}
use Rattle.pb_store_soundness.specs.Grounded.{RecordMap}
use Rattle.pb_store_soundness.specs.Inputs.{name_of}
use Rattle.pb_store_soundness.specs.Records.{records}
use Rattle.pb_store_soundness.specs.Reuse.{IsSame, NeededNow}
use Rattle.pb_store_soundness.proofs.Flying.{contains_head, contains_tail}
use Rattle.pb_store.specs.Asking.{IsFirstName, SamePart, parts}
use Rattle.pb_store.specs.Differences.{AreNeeded, DifferencesAreOne, UnchangedIsSame, DiffersFrom, FirstDifference, FirstFrom, FirstNeed, FirstOf, HasFiles, HasNumber, IsAsRecorded, IsFirst, IsPresent, NamesPaths}
use Rattle.pb_store.specs.declared.difference.CommandPart.{CommandPart}
use Rattle.pb_store.specs.declared.difference.Difference.{Difference}
use Rattle.pb_store.specs.declared.difference.Difference.TheVariants.{NoRecord, Command, Pair, Input, Dependency}
use Rattle.pb_store.proofs.Names.{names_apart, one_name}
use Rattle.pb_store.proofs.Firsts.{none_is_same}

-- the first of a row of which something does not hold

head_of : {A : Type 0} (x y : A) (xs ys : List A) → x ∷ xs ≡ y ∷ ys → x ≡ y
head_of x y xs ys e = cc

tail_of : {A : Type 0} (x y : A) (xs ys : List A) → x ∷ xs ≡ y ∷ ys → xs ≡ ys
tail_of x y xs ys e = cc

module _ {A B : Type 0} (Holds : A → Type 0) (told : A → B) where
  all_here : (before : List A) (here : A) (after : List A) → AllByRecursion Holds (before ++ here ∷ after) → Holds here
  all_here [] here after (holds, all) = holds
  all_here (x ∷ before) here after (holds, all) = all_here before here after all

  pub none_fails : (row : List A) (b : B) → AllByRecursion Holds row → IsFirst Holds told row b → ⊥
  none_fails row b all first = first.fails (all_here first.before first.here first.after (subst (AllByRecursion Holds) first.split all))

  one_here : (before other : List A) (here there : A) (after behind : List A) → before ++ here ∷ after ≡ other ++ there ∷ behind → AllByRecursion Holds before → AllByRecursion Holds other → (Holds here → ⊥) → (Holds there → ⊥) → here ≡ there
  one_here [] [] here there after behind same all more fails wrong = head_of here there after behind same
  one_here [] (y ∷ other) here there after behind same all (holds, more) fails wrong = absurd (fails (subst Holds (sym (head_of here y after (other ++ there ∷ behind) same)) holds))
  one_here (x ∷ before) [] here there after behind same (holds, all) more fails wrong = absurd (wrong (subst Holds (head_of x there (before ++ here ∷ after) behind same) holds))
  one_here (x ∷ before) (y ∷ other) here there after behind same (holds, all) (passes, more) fails wrong =
      one_here before other here there after behind (tail_of x y (before ++ here ∷ after) (other ++ there ∷ behind) same) all more fails wrong

  one_first : (row : List A) (b d : B) → IsFirst Holds told row b → IsFirst Holds told row d → b ≡ d
  one_first row b d first other =
      first.tells ∙ ap told (one_here first.before other.before first.here other.here first.after other.after (sym first.split ∙ other.split) first.hold other.hold first.fails other.fails) ∙ sym other.tells

-- the command that was asked asks the same

pub asks_of : (a : RecordedCommand) (c : commands.Command) → command_of a ≡ c → AsksAs a c
asks_of a c same = record {
  program = ap (λ (d : commands.Command). d.program) same;
  words = ap (λ (d : commands.Command). d.words) same;
  folder = ap (λ (d : commands.Command). d.folder) same;
  out = ap (λ (d : commands.Command). d.out) same;
  target = ap (λ (d : commands.Command). d.target) same;
  toolchain = ap (λ (d : commands.Command). d.toolchain) same;
  reads = ap (λ (d : commands.Command). d.reads) same;
}

pub sets_of : (a : RecordedCommand) (c : commands.Command) → command_of a ≡ c → a.pairs ≡ c.pairs
sets_of a c same = ap (λ (d : commands.Command). d.pairs) same

asks_all : (a : RecordedCommand) (c : commands.Command) → AsksAs a c → AllByRecursion (SamePart a c) parts
asks_all a c asks = (asks.program, (asks.words, (asks.folder, (asks.out, (asks.target, (asks.toolchain, (asks.reads, tt)))))))

pub part_apart : (a : RecordedCommand) (c : commands.Command) (part : CommandPart) → AsksAs a c → IsFirst (SamePart a c) (λ p. p) parts part → ⊥
part_apart a c part asks first = none_fails (SamePart a c) (λ p. p) parts part (asks_all a c asks) first

pub name_apart : (a : RecordedCommand) (c : commands.Command) (name : List ℕ) → command_of a ≡ c → IsFirstName a.pairs c.pairs name → ⊥
name_apart a c name same first = names_apart a.pairs c.pairs name first (sets_of a c same)

-- what is told of a record is one

module _ (folder : List ℕ) (at : RecordMap) (c : commands.Command) (w : World) where
  need_fails : (needed : Needed) (need : List ℕ) → AreNeeded folder at w.files needed → FirstNeed folder at w.files needed need → ⊥
  need_fails (Copies copies) need all first = none_fails (HasFiles folder w.files) (λ x. x.0) copies need all first
  need_fails (Numbers number needs) need all first = none_fails (HasNumber at) (λ x. x.0) needs need all first

  one_need : (needed : Needed) (need other : List ℕ) → FirstNeed folder at w.files needed need → FirstNeed folder at w.files needed other → need ≡ other
  one_need (Copies copies) need other first second = one_first (HasFiles folder w.files) (λ x. x.0) copies need other first second
  one_need (Numbers number needs) need other first second = one_first (HasNumber at) (λ x. x.0) needs need other first second

  nothing_differs : (r : Record) (d : Difference) → IsAsRecorded folder at c w r → DiffersFrom folder at c w r d → ⊥
  nothing_differs r NoRecord is told = told
  nothing_differs r (Command part) is told = part_apart r.asked c part (asks_of r.asked c is.asked) told
  nothing_differs r (Pair name) is told = name_apart r.asked c name is.asked told.1
  nothing_differs r (Input name) is told = none_fails (IsPresent c.target w) name_of r.inputs name is.inputs told.1
  nothing_differs r (Dependency need) is told = need_fails r.needed need is.needed told.2

  one_differs : (r : Record) (d e : Difference) → DiffersFrom folder at c w r d → DiffersFrom folder at c w r e → d ≡ e
  one_differs r NoRecord e told other = absurd told
  one_differs r (Command part) NoRecord told other = absurd other
  one_differs r (Command part) (Command second) told other = ap Command (one_first (SamePart r.asked c) (λ p. p) parts part second told other)
  one_differs r (Command part) (Pair name) told other = absurd (part_apart r.asked c part other.0 told)
  one_differs r (Command part) (Input name) told other = absurd (part_apart r.asked c part (asks_of r.asked c other.0) told)
  one_differs r (Command part) (Dependency need) told other = absurd (part_apart r.asked c part (asks_of r.asked c other.0) told)
  one_differs r (Pair name) NoRecord told other = absurd other
  one_differs r (Pair name) (Command part) told other = absurd (part_apart r.asked c part told.0 other)
  one_differs r (Pair name) (Pair second) told other = ap Pair (one_name r.asked.pairs c.pairs name second told.1 other.1)
  one_differs r (Pair name) (Input second) told other = absurd (name_apart r.asked c name other.0 told.1)
  one_differs r (Pair name) (Dependency need) told other = absurd (name_apart r.asked c name other.0 told.1)
  one_differs r (Input name) NoRecord told other = absurd other
  one_differs r (Input name) (Command part) told other = absurd (part_apart r.asked c part (asks_of r.asked c told.0) other)
  one_differs r (Input name) (Pair second) told other = absurd (name_apart r.asked c second told.0 other.1)
  one_differs r (Input name) (Input second) told other = ap Input (one_first (IsPresent c.target w) name_of r.inputs name second told.1 other.1)
  one_differs r (Input name) (Dependency need) told other = absurd (none_fails (IsPresent c.target w) name_of r.inputs name other.1 told.1)
  one_differs r (Dependency need) NoRecord told other = absurd other
  one_differs r (Dependency need) (Command part) told other = absurd (part_apart r.asked c part (asks_of r.asked c told.0) other)
  one_differs r (Dependency need) (Pair name) told other = absurd (name_apart r.asked c name told.0 other.1)
  one_differs r (Dependency need) (Input name) told other = absurd (none_fails (IsPresent c.target w) name_of r.inputs name told.1 other.1)
  one_differs r (Dependency need) (Dependency second) told other = ap Dependency (one_need r.needed need second told.2 other.2)

  one_from : (r : Record) (found other : Option Difference) → FirstFrom folder at c w r found → FirstFrom folder at c w r other → found ≡ other
  one_from r None None told second = refl
  one_from r None (Some e) told second = absurd (nothing_differs r e told second)
  one_from r (Some d) None told second = absurd (nothing_differs r d second told)
  one_from r (Some d) (Some e) told second = ap Some (one_differs r d e told second)

  one_of : (o : Option Record) (found other : Option Difference) → FirstOf folder at c w o found → FirstOf folder at c w o other → found ≡ other
  one_of None found other told second = told ∙ sym second
  one_of (Some r) found other told second = one_from r found other told second

pub one_difference : DifferencesAreOne
one_difference folder key c w found other told second = one_of folder (records folder w) c w (records folder w key) found other told second

-- it is none where nothing differs

all_of : {A : Type 0} (P Q : A → Type 0) (xs : List A) → ((x : A) → Contains xs x → P x → Q x) → AllByRecursion P xs → AllByRecursion Q xs
all_of P Q [] is all = tt
all_of P Q (x ∷ xs) is (here, all) = (is x (contains_head x xs) here, all_of P Q xs (λ y there. is y (contains_tail x xs y there)) all)

each_of : {A : Type 0} (P : A → Type 0) (xs : List A) → ((x : A) → Contains xs x → P x) → AllByRecursion P xs
each_of P [] is = tt
each_of P (x ∷ xs) is = (is x (contains_head x xs), each_of P xs (λ y there. is y (contains_tail x xs y there)))

needed_still : (folder : List ℕ) (at : RecordMap) (files : Map) (needed : Needed) → NamesPaths needed → NeededNow folder at files needed → AreNeeded folder at files needed
needed_still folder at files (Copies copies) named now = all_of (λ c. is_relative c.0 ≡ true) (HasFiles folder files) copies (λ c there relative. (relative, now c.0 c.1 there)) named
needed_still folder at files (Numbers number needs) named now = each_of (HasNumber at) needs (λ n there. now n.0 n.1 there)

none_first : (folder key : List ℕ) (c : commands.Command) (w : World) (r : Record) → IsSame reading folder key c w r → NamesPaths r.needed → FirstDifference folder key c w None
none_first folder key c w r same named =
    subst (λ o. FirstOf folder (records folder w) c w o None) (sym same.stands) record {
      asked = same.asked;
      inputs = same.inputs;
      needed = needed_still folder (records folder w) w.files r.needed named same.needed;
    }

pub unchanged_is_same : UnchangedIsSame
unchanged_is_same = record {
  same = λ folder key c w told. none_is_same folder key c w (records folder w key) refl told;
  none = none_first;
}
