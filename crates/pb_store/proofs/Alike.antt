-- What a comparison tells apart: the tests by which it is said where it looks decide just that.
use Rattle.std.proofs.Common.{◌≡◌, ◌∙◌, ◌+◌, ◌<◌, drop, length, get_or, ℕ, Bool, true, false, List, [], ◌∷◌, Option, Some, None, refl, ap, subst}
use Rattle.std.specs.Prelude.{Decides}
use Rattle.std.specs.List.{AllByRecursion, list_all}
use Rattle.std.proofs.lemmas.Bool.Decides.{Decides-and, Decides-like, same_from_decides}
use Rattle.std.proofs.lemmas.Slice.Eq.{bytes_eq-Decides}
use Rattle.pb_place_types.specs.CallsInTurn.{past_calls}
use Rattle.pb_place_types.specs.declared.call.Call.{Call}
use Rattle.pb_place_types.specs.Counts.{Counts}
use Rattle.pb_place_types.specs.Paths.{is_relative}
use Rattle.pb_place_types.specs.World.{World, Map}
use Rattle.pb_place_types.specs.declared.command.Command as commands
use Rattle.pb_record.proofs.CommandLemmas.{same_asked, texts_same}
use Rattle.pb_record.specs.Commands.{command_of}
use Rattle.pb_record.specs.declared.recorded_command.RecordedCommand.{RecordedCommand}
use Rattle.pb_record.specs.declared.record.Input.{Input}
use Rattle.pb_record.specs.declared.record.Input.TheVariants.{File, Tree, Value}
use Rattle.pb_store_soundness.specs.Inputs.{contents, input_in, name_of}
use Rattle.pb_store_soundness.specs.Records.{out_of}
use Rattle.pb_store.specs.Differences.{HasFiles, IsPresent, same_files}
use Rattle.pb_store.specs.Looking.{TestsDecide, has_files, is_asked, is_present, looked_up_to, same_input, same_text, same_texts}
use Rattle.pb_store.proofs.Firsts.{files_same}
use Rattle.pb_store.proofs.Looking.{Reached, row_ends, row_on}
use Rattle.pb_store.proofs.Once.{asks_of, sets_of}

files_decide : (xs ys : List (List ℕ × List ℕ)) → Decides (same_files xs ys) (xs ≡ ys)
files_decide xs ys = files_same (same_files xs ys) xs ys refl

text_decides : (x y : Option (List ℕ)) → Decides (same_text x y) (x ≡ y)
text_decides None None = ((λ e. refl), (λ e. refl))
text_decides None (Some b) = ((λ e. cc), (λ e. cc))
text_decides (Some a) None = ((λ e. cc), (λ e. cc))
text_decides (Some a) (Some b) = Decides-like _ (λ e. ap Some e) (λ e. cc) (bytes_eq-Decides a b)

texts_decide : (xs ys : List (List ℕ)) → Decides (same_texts xs ys) (xs ≡ ys)
texts_decide xs ys = texts_same xs ys (same_texts xs ys) refl

input_decides : (i j : Input) → Decides (same_input i j) (i ≡ j)
input_decides (File p b) (File q c) = Decides-like _ (λ e. cc (e.0, e.1)) (λ e. (cc, cc)) (Decides-and _ _ (bytes_eq-Decides p q) (bytes_eq-Decides b c))
input_decides (File p b) (Tree q g) = ((λ e. cc), (λ e. cc))
input_decides (File p b) (Value n t) = ((λ e. cc), (λ e. cc))
input_decides (Tree p f) (File q c) = ((λ e. cc), (λ e. cc))
input_decides (Tree p f) (Tree q g) = Decides-like _ (λ e. cc (e.0, e.1)) (λ e. (cc, cc)) (Decides-and _ _ (bytes_eq-Decides p q) (files_decide f g))
input_decides (Tree p f) (Value n t) = ((λ e. cc), (λ e. cc))
input_decides (Value n t) (File q c) = ((λ e. cc), (λ e. cc))
input_decides (Value n t) (Tree q g) = ((λ e. cc), (λ e. cc))
input_decides (Value n t) (Value m u) = Decides-like _ (λ e. cc (e.0, e.1)) (λ e. (cc, cc)) (Decides-and _ _ (bytes_eq-Decides n m) (text_decides t u))

pub present_decides : (target : List ℕ) (w : World) (i : Input) → Decides (is_present target w i) (IsPresent target w i)
unfolding is_present
present_decides target w i = input_decides (input_in target w (name_of i)) i

true_decides : (b : Bool) → Decides b (b ≡ true)
true_decides b = ((λ e. e), (λ e. e))

pub has_files_decides : (folder : List ℕ) (files : Map) (need : List ℕ × List (List ℕ × List ℕ)) → Decides (has_files folder files need) (HasFiles folder files need)
unfolding has_files
has_files_decides folder files need = Decides-and _ _ (true_decides (is_relative need.0)) (files_decide (contents (out_of folder need.0) files) need.1)

-- a command

abbrev SameAll : RecordedCommand → commands.Command → Type 0
SameAll a c = (a.program ≡ c.program) × ((a.words ≡ c.words) × ((a.folder ≡ c.folder) × ((Some a.out ≡ c.out) × ((a.target ≡ c.target) × ((a.toolchain ≡ c.toolchain) × ((a.reads ≡ c.reads) × (a.pairs ≡ c.pairs)))))))

all_asked : (a : RecordedCommand) (c : commands.Command) → SameAll a c → command_of a ≡ c
all_asked a c (program, (words, (folder, (out, (target, (toolchain, (reads, pairs))))))) =
    same_asked a c record { program = program; words = words; folder = folder; out = out; target = target; toolchain = toolchain; reads = reads } pairs

asked_all : (a : RecordedCommand) (c : commands.Command) → command_of a ≡ c → SameAll a c
asked_all a c same = let asks = asks_of a c same in (asks.program, (asks.words, (asks.folder, (asks.out, (asks.target, (asks.toolchain, (asks.reads, sets_of a c same)))))))

pub asked_decides : (a : RecordedCommand) (c : commands.Command) → Decides (is_asked a c) (command_of a ≡ c)
unfolding is_asked
asked_decides a c = Decides-like _ (all_asked a c) (asked_all a c)
    (Decides-and _ _ (bytes_eq-Decides a.program c.program) (Decides-and _ _ (texts_decide a.words c.words) (Decides-and _ _ (bytes_eq-Decides a.folder c.folder) (Decides-and _ _ (text_decides (Some a.out) c.out)
    (Decides-and _ _ (bytes_eq-Decides a.target c.target) (Decides-and _ _ (bytes_eq-Decides a.toolchain c.toolchain) (Decides-and _ _ (texts_decide a.reads c.reads) (files_decide a.pairs c.pairs))))))))

-- a test that was made in a world tells what it is in the same world
pub test_same : {A : Type 0} (Holds : World → A → Type 0) (is_same : World → A → Bool) (w now : World) (here : A) → ((v : World) (x : A) → Decides (is_same v x) (Holds v x)) → now ≡ w → (b : Bool) → Decides b (Holds now here) → is_same w here ≡ b
test_same Holds is_same w now here decides same b test = same_from_decides (is_same w here) b (decides w here) (subst (λ v. Decides b (Holds v here)) same test)

-- of all of a row

pub all_decided : {A : Type 0} (Holds : A → Type 0) (is_same : A → Bool) → ((x : A) → Decides (is_same x) (Holds x)) → (xs : List A) → Decides (list_all is_same xs) (AllByRecursion Holds xs)
all_decided Holds is_same decides [] = ((λ e. tt), (λ e. refl))
all_decided Holds is_same decides (x ∷ xs) = Decides-and _ _ (decides x) (all_decided Holds is_same decides xs)

-- what is found of the next item of a row
module _ {A : Type 0} (Holds : World → A → Type 0) (is_same : World → A → Bool) (look : World → A → List Call) (decides : (v : World) (x : A) → Decides (is_same v x) (Holds v x)) (w now : World) (row : List A) (i : ℕ) (here : A) (within : i < length row) (is : here ≡ get_or row i here) (same : now ≡ w) (whole : List Call) (old mid new : Counts) (b : Bool) where
  pub differs_here : Reached whole (looked_up_to (is_same w) (look w) (drop i row)) old mid → new ≡ past_calls (look now here) mid → Decides b (Holds now here) → b ≡ false → new ≡ past_calls whole old
  differs_here reached made test wrong = row_ends is_same look w now row i here within is same whole old mid new reached made (test_same Holds is_same w now here decides same b test ∙ wrong)

  pub same_here : Reached whole (looked_up_to (is_same w) (look w) (drop i row)) old mid → new ≡ past_calls (look now here) mid → Decides b (Holds now here) → b ≡ true → Reached whole (looked_up_to (is_same w) (look w) (drop (i + 1) row)) old new
  same_here reached made test passes = row_on is_same look w now row i here within is same whole old mid new reached made (test_same Holds is_same w now here decides same b test ∙ passes)

pub tests_decide_so : TestsDecide
tests_decide_so = record { input = present_decides; copies = has_files_decides; command = asked_decides }
