-- What the program writes about the name of an error.
use Rattle.std.specs.Prelude.{◌≡◌, ◌⊎◌, ℕ, Bool, if◌then◌else◌, codes, List, [], ◌++◌, Option, Some, None, Err}
use Rattle.pb_build_result.specs.declared.fault.BuildFault.TheVariants as build_fault
use Rattle.pb_tool_explain.specs.Entries.{near_in, text_in}
use Rattle.pb_tool_explain.specs.declared.entry.Page.{Page}
use Rattle.pb_place_types.specs.Sinks.{SinkState}
use Rattle.pb_tool_program.specs.Building.{error_of}
use Rattle.pb_tool_program.specs.Writing.{Writes, Tells}

-- the text is written as output; the status is 0, or 1 if the write fails
abbrev pub Prints : List ℕ → ℕ → SinkState → SinkState → Type 0
Prints text status old new = (whole : Bool) × Writes whole text old new × (status ≡ (if whole then 0 else 1))

-- the text about the most similar name, if there is such a name
abbrev pub near_told : Option (List ℕ) → List ℕ
near_told None = []
near_told (Some near) = codes " (near: " ++ near ++ codes ")"

-- what is written if no error has this name
abbrev pub no_such_name : Option (List ℕ) → List ℕ → List ℕ
no_such_name near name = codes "error: no error has the name " ++ name ++ near_told near ++ codes "\n"

-- No error has this name. Either `no_such_name` is written, or a line says that memory ran out for
-- this text.
abbrev pub Unmeant : Option (List ℕ) → List ℕ → ℕ → SinkState → SinkState → Type 0
Unmeant near name status said_before said_after =
    (status ≡ 1) × Tells (no_such_name near name) said_before said_after ⊎ (status ≡ 101) × Tells (error_of (Err build_fault.OutOfMemory)) said_before said_after

-- The page's text about the name is output. If the page has no text about the name, this fact is
-- written beside the output.
abbrev pub MeansText : Option (List ℕ) → Option (List ℕ) → List ℕ → ℕ → SinkState → SinkState → SinkState → SinkState → Type 0
MeansText (Some text) near name status old new said_before said_after = (said_after ≡ said_before) × Prints text status old new
MeansText None near name status old new said_before said_after = (new ≡ old) × Unmeant near name status said_before said_after

abbrev pub Means : Page → List ℕ → ℕ → SinkState → SinkState → SinkState → SinkState → Type 0
Means page name status old new said_before said_after = MeansText (text_in page name) (near_in page name) name status old new said_before said_after
