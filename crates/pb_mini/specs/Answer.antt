-- The reply of the small compiler to any arguments.
use Rattle.std.specs.Prelude.{ℕ, pos, if◌then◌else◌, codes, List, [], ◌∷◌, Result, Ok, Err}
use Rattle.std.specs.Str.{bytes_eq}
use Rattle.pb_data.specs.UnlessOom.{◌>>=◌}
use Rattle.pb_data.specs.Table.{table_of}
use Rattle.pb_place_types.specs.World.{World}
use Rattle.pb_place_types.specs.declared.child.Reply.{Reply}
use Rattle.pb_mini.specs.CommandLine.{command_line_of}
use Rattle.pb_mini.specs.Compile.{compiled}
use Rattle.pb_mini.specs.Script.{ran}
use Rattle.pb_mini.specs.declared.command_line.CommandLineFault.{CommandLineFault}
use Rattle.pb_mini.specs.declared.request.Request.{Request}
use Rattle.pb_mini.specs.declared.request.Request.TheVariants.{Version, Run, Compile}

abbrev pub compile_in : List (List ℕ) → Result Request CommandLineFault
compile_in words = command_line_of words >>= (λ line. Ok (Compile line))

-- What these arguments request. `-vV` alone requests the version. `--run` and a path request a run.
-- All other arguments request a compile, if they are valid.
abbrev pub request_of : List (List ℕ) → Result Request CommandLineFault
request_of [] = compile_in []
request_of (word ∷ []) = if bytes_eq word (codes "-vV") then Ok Version else compile_in (word ∷ [])
request_of (word ∷ path ∷ []) = if bytes_eq word (codes "--run") then Ok (Run path) else compile_in (word ∷ path ∷ [])
request_of (word ∷ other ∷ next ∷ words) = compile_in (word ∷ other ∷ next ∷ words)

abbrev pub version : Reply
version = record { status = pos 0; stdout = codes "mini 0.1.0\nhost: mini-unknown-none\n"; stderr = []; files = [] }

abbrev pub bad_command_line : Reply
bad_command_line = record { status = pos 2; stdout = []; stderr = codes "mini: bad command line\n"; files = [] }

abbrev pub replied_to : Request → List (List ℕ × List ℕ) → World → Reply
replied_to Version pairs w = version
replied_to (Run path) pairs w = ran path pairs w
replied_to (Compile line) pairs w = compiled line pairs w

abbrev pub replied_if : Result Request CommandLineFault → List (List ℕ × List ℕ) → World → Reply
replied_if (Ok request) pairs w = replied_to request pairs w
replied_if (Err e) pairs w = bad_command_line

-- the reply to these arguments and this environment; if the environment has a name twice, the last
-- value counts
abbrev pub answered : List (List ℕ) → List (List ℕ × List ℕ) → World → Reply
answered words pairs w = replied_if (request_of words) (table_of pairs) w
