-- The effects of lines. A line may add bytes to the image, report a diagnostic, and name what it
-- reads.
use Rattle.std.specs.Prelude.{◌≡◌, ℕ, List, [], ◌∷◌, ◌++◌, Option, Some, None}
use Rattle.pb_data.specs.OrderedSet.{mentioned_all}
use Rattle.pb_data.specs.Table.{with_entries}
use Rattle.pb_mini.specs.Lines.{ended, quoted}
use Rattle.pb_mini.specs.declared.dep_info.Names.{Names}
use Rattle.pb_mini.specs.declared.diagnostic.Level.{Level}
use Rattle.pb_mini.specs.declared.effects.Effects.{Effects}

abbrev pub no_names : Names
no_names = record { paths = []; variables = [] }

abbrev pub no_effects : Effects
no_effects = record { image = []; diagnostics = []; names = no_names }

-- the effect of adding bytes to the image
abbrev pub in_image : List ℕ → Effects
in_image bytes = record no_effects { image = bytes }

-- the effect of adding a line, unchanged, to the image
abbrev pub copied : List ℕ → Effects
copied line = in_image (ended line)

-- the effect of adding the lines of a file to the image, with a mark before each line
abbrev pub copied_file : List ℕ → List ℕ → Effects
copied_file mark bytes = in_image (quoted mark bytes)

-- the effect of reporting a diagnostic
abbrev pub diagnosed : Level → List ℕ → ℕ → Effects
diagnosed level message number = record no_effects { diagnostics = record { level = level; message = message; line = number } ∷ [] }

-- the effect of reading the file at a path, if there is a path
abbrev pub reads : Option (List ℕ) → Effects
reads None = no_effects
reads (Some path) = record no_effects { names = record no_names { paths = path ∷ [] } }

-- the effect of reading a variable that has this value or is not set
abbrev pub asks : List ℕ → Option (List ℕ) → Effects
asks name value = record no_effects { names = record no_names { variables = (name, value) ∷ [] } }

-- The names of `a`, followed by the names of `b`. `joined` does this for all effects.
abbrev pub joined_names : Names → Names → Names
joined_names a b = record { paths = a.paths ++ b.paths; variables = a.variables ++ b.variables }

abbrev pub joined : Effects → Effects → Effects
joined a b = record { image = a.image ++ b.image; diagnostics = a.diagnostics ++ b.diagnostics; names = joined_names a.names b.names }

-- The names of `kept`, to which the names of `more` are added. No name is added twice.
-- `followed_by` does this for all effects.
abbrev pub with_names : Names → Names → Names
with_names kept more = record { paths = mentioned_all kept.paths more.paths; variables = with_entries kept.variables more.variables }

abbrev pub followed_by : Effects → Effects → Effects
followed_by kept more = record { image = kept.image ++ more.image; diagnostics = kept.diagnostics ++ more.diagnostics; names = with_names kept.names more.names }

-- the effects, with each name once, in order of first mention
abbrev pub names_once : Effects → Effects
names_once done = followed_by no_effects done

-- The new effects are the old effects followed by `effect`. More exactly, the two sides are equal
-- after any effects `later` are appended to both.
abbrev pub AddsEffect : Effects → Effects → Effects → Type 0
AddsEffect new old effect = (later : Effects) → followed_by new later ≡ followed_by old (joined effect later)
