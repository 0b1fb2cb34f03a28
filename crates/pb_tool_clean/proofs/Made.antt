-- What is chosen is below the target folder, and has the name of a record or of a unit's folder.
use Rattle.std.proofs.Common.{◌≡◌, ◌&&◌, inl, inr, ℕ, Bool, true, false, if◌then◌else◌, List, [], ◌∷◌, All, refl}
use Rattle.std.proofs.lemmas.Bool.{false≢true}
use Rattle.std.proofs.lemmas.List.Elements.{All-append, All-cons, All-nil}
use Rattle.pb_place_types.specs.Paths.{is_below, last_part}
use Rattle.pb_tool_clean.specs.Cleaning.{chosen_of}
use Rattle.pb_tool_clean.specs.Laws.{ChosenAreMade, IsMadeByBuild}
use Rattle.pb_tool_clean.specs.Names.{folders_among, is_chosen, is_chosen_folder, is_chosen_record, is_named, is_record, is_unit, is_within, package_in, records_among, words_in}
use Rattle.pb_tool_clean.specs.declared.choice.Choice.{Choice}

first : (a b : Bool) → a && b ≡ true → a ≡ true
first true b both = refl
first false b both = absurd (false≢true both)

second : (a b : Bool) → a && b ≡ true → b ≡ true
second true b both = both
second false b both = absurd (false≢true both)

inside : (choice : Choice) (words : List (List ℕ)) (path : List ℕ) → is_chosen choice words path ≡ true → is_below choice.target path ≡ true
inside choice words path chosen = first (is_below choice.target path) (is_named choice.packages (package_in words) && is_within choice.profile path) chosen

records_are_made : (choice : Choice) (paths : List (List ℕ)) → All (IsMadeByBuild choice.target) (records_among choice paths)
records_are_made choice [] = All-nil (IsMadeByBuild choice.target)
records_are_made choice (path ∷ paths) = step (is_chosen_record choice path) refl (records_are_made choice paths)
  where
    step : (is : Bool) → is_chosen_record choice path ≡ is → All (IsMadeByBuild choice.target) (records_among choice paths) → All (IsMadeByBuild choice.target) (if is then path ∷ records_among choice paths else records_among choice paths)
    step false passed rest = rest
    step true kept rest =
        let words = words_in (last_part path) in
        All-cons (IsMadeByBuild choice.target) path (records_among choice paths) record {
          inside = inside choice words path (second (is_record words) (is_chosen choice words path) kept);
          name = inl (first (is_record words) (is_chosen choice words path) kept);
        } rest

folders_are_made : (choice : Choice) (paths : List (List ℕ)) → All (IsMadeByBuild choice.target) (folders_among choice paths)
folders_are_made choice [] = All-nil (IsMadeByBuild choice.target)
folders_are_made choice (path ∷ paths) = step (is_chosen_folder choice path) refl (folders_are_made choice paths)
  where
    step : (is : Bool) → is_chosen_folder choice path ≡ is → All (IsMadeByBuild choice.target) (folders_among choice paths) → All (IsMadeByBuild choice.target) (if is then path ∷ folders_among choice paths else folders_among choice paths)
    step false passed rest = rest
    step true kept rest =
        let words = words_in (last_part path) in
        All-cons (IsMadeByBuild choice.target) path (folders_among choice paths) record {
          inside = inside choice words path (second (is_unit words) (is_chosen choice words path) kept);
          name = inr (first (is_unit words) (is_chosen choice words path) kept);
        } rest

pub chosen_are_made : ChosenAreMade
chosen_are_made choice listed =
    All-append (IsMadeByBuild choice.target) (records_among choice listed.files) (folders_among choice listed.folders) (records_are_made choice listed.files) (folders_are_made choice listed.folders)
