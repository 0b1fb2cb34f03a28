-- The files of the libraries that a compile is given lie where its words say.
use Rattle.std.proofs.Common.{◌≡◌, ℕ, Bool, true, false, cond, List, [], ◌∷◌, Option, Some, None, is_some, subst, map}
use Rattle.std.specs.List.{AllByRecursion}
use Rattle.std.specs.Str.{bytes_eq}
use Rattle.pb_data.specs.Table.{value_at, with_entry}
use Rattle.pb_mini.specs.Honesty.{is_below_some, GivenBelow}
use Rattle.pb_mini.specs.Lines.{value_in}
use Rattle.pb_mini.specs.Lookups.{path_of}
use Rattle.pb_mini.specs.Scope.{library_of, with_first, with_firsts, libraries_of}
use Rattle.pb_mini.specs.declared.command_line.CommandLine.{CommandLine}
use Rattle.pb_mini.specs.declared.request.Request.TheVariants.{Compile}

module _ (folders : List (List ℕ)) where
  -- where a text is a path, it lies strictly below one of the folders
  abbrev pub LiesBelow : List ℕ → Type 0
  LiesBelow text = (path : List ℕ) → path_of text ≡ Some path → is_below_some folders path ≡ true

  -- a word `NAME=PATH` whose path does
  abbrev pub NamesBelow : List ℕ → Type 0
  NamesBelow word = LiesBelow (value_in word)

  abbrev HoldBelow : List (List ℕ × List ℕ) → Type 0
  HoldBelow entries = AllByRecursion (λ entry. LiesBelow entry.1) entries

  found_below : (name file : List ℕ) (entries : List (List ℕ × List ℕ)) → HoldBelow entries → value_at name entries ≡ Some file → LiesBelow file
  found_below name file [] hold is = absurd (cc)
  found_below name file (entry ∷ entries) hold is = by (bytes_eq name entry.0) is (found_below name file entries hold.1)
    where
      by : (r : Bool) → cond r (Some entry.1) (value_at name entries) ≡ Some file → (value_at name entries ≡ Some file → LiesBelow file) → LiesBelow file
      by true is later = let same : entry.1 ≡ file = cc in subst LiesBelow same hold.0
      by false is later = later is

  entry_below : (name value : List ℕ) (entries : List (List ℕ × List ℕ)) → HoldBelow entries → LiesBelow value → HoldBelow (with_entry entries name value)
  entry_below name value [] hold lies = (lies, tt)
  entry_below name value (entry ∷ entries) hold lies = by (bytes_eq name entry.0) (entry_below name value entries hold.1 lies)
    where
      by : (r : Bool) → HoldBelow (with_entry entries name value) → HoldBelow (cond r ((entry.0, value) ∷ entries) (entry ∷ with_entry entries name value))
      by true later = (lies, hold.1)
      by false later = (hold.0, later)

  firsts_below : (entries more : List (List ℕ × List ℕ)) → HoldBelow entries → HoldBelow more → HoldBelow (with_firsts entries more)
  firsts_below entries [] hold later = hold
  firsts_below entries (entry ∷ more) hold later = firsts_below (with_first entries entry) more (by (value_at entry.0 entries)) later.1
    where
      by : (r : Option (List ℕ)) → HoldBelow (cond (is_some r) entries (with_entry entries entry.0 entry.1))
      by (Some value) = hold
      by None = entry_below entry.0 entry.1 entries hold later.0

  libraries_below : (words : List (List ℕ)) → AllByRecursion NamesBelow words → HoldBelow (map library_of words)
  libraries_below [] all = tt
  libraries_below (word ∷ words) all = (all.0, libraries_below words all.1)

  pub given_below : (line : CommandLine) → AllByRecursion NamesBelow line.externs → GivenBelow folders (Compile line)
  given_below line all name file path found is = found_below name file (libraries_of line.externs) (firsts_below [] (map library_of line.externs) tt (libraries_below line.externs all)) found path is
