-- What a session file contains: a JSON list of objects with one key each. The form of a session
-- file is our own choice.
use Rattle.std.specs.Prelude.{ℕ, if◌then◌else◌, codes, List, [], ◌∷◌, Ok, Err}
use Rattle.std.specs.Str.{bytes_eq, is_utf8}
use Rattle.serde_json.specs.Data.{Data, Items, no_items, item}
use Rattle.serde_json.specs.Find.{get, as_object}
use Rattle.serde_json.specs.Read.{read}
use Rattle.pb_data.specs.UnlessOom.{◌>>=◌, some_or}
use Rattle.pb_build_session.specs.Deaths.{death_named}
use Rattle.pb_build_session.specs.Faults.{Read}
use Rattle.pb_build_session.specs.Values.{text_of, number_of, path_in, path_of, pair_of, array_of, only_member}
use Rattle.pb_build_session.specs.declared.fault.BadSession.TheVariants.{BadForm}
use Rattle.pb_build_session.specs.Options.{options_of, pick_or_first}
use Rattle.pb_build_session.specs.declared.step.SessionStep.{SessionStep}
use Rattle.pb_build_session.specs.declared.step.SessionStep.TheVariants.{Write, Remove, Set, Unset, Build, Die, Fuse}

abbrev pub write_of : Data → Read SessionStep
write_of d = pair_of d >>= (λ p. path_in p.0 >>= (λ path. Ok (Write path p.1)))

abbrev pub set_of : Data → Read SessionStep
set_of d = pair_of d >>= (λ p. Ok (Set p.0 p.1))

abbrev pub build_of : Data → Read SessionStep
build_of d = options_of d >>= (λ options. pick_or_first (get (codes "pick") d) >>= (λ pick. Ok (Build options pick)))

abbrev pub die_of : Data → Read SessionStep
die_of d = pair_of d >>= (λ p. death_named p.1 >>= (λ death. Ok (Die p.0 death)))

-- the step that has this name and this value
abbrev pub step_named : List ℕ → Data → Read SessionStep
step_named name d =
    if bytes_eq name (codes "write") then write_of d
    else if bytes_eq name (codes "remove") then (path_of d >>= (λ path. Ok (Remove path)))
    else if bytes_eq name (codes "set") then set_of d
    else if bytes_eq name (codes "unset") then (text_of d >>= (λ text. Ok (Unset text)))
    else if bytes_eq name (codes "build") then build_of d
    else if bytes_eq name (codes "die") then die_of d
    else if bytes_eq name (codes "fuse") then (number_of d >>= (λ number. Ok (Fuse number)))
    else Err BadForm

-- a step, which is an object with one key; the key is the step's name
abbrev pub step_of : Data → Read SessionStep
step_of d = some_or BadForm (as_object d) >>= (λ ms. some_or BadForm (only_member ms) >>= (λ m. step_named m.0 m.1))

-- the steps of a list, in the order of the list
abbrev pub steps_of : Items → Read (List SessionStep)
steps_of no_items = Ok []
steps_of (item d ds) = step_of d >>= (λ step. steps_of ds >>= (λ steps. Ok (step ∷ steps)))

-- the JSON value that bytes contain
abbrev pub document_in : List ℕ → Read Data
document_in bytes = if is_utf8 bytes then some_or BadForm (read bytes) else Err BadForm

-- the steps that the bytes of a session file contain
abbrev pub session_of : List ℕ → Read (List SessionStep)
session_of bytes = document_in bytes >>= (λ d. array_of d >>= steps_of)
