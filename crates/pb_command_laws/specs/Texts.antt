-- What a whole text says, line by line. The text is the output of a script, or dep-info (The Cargo
-- Book, Build Scripts, Build Cache).
use Rattle.std.specs.Prelude.{◌≡◌, ◌<◌, ◌+◌, ◌-◌, ℕ, true, is_ok, drop, length, List, Result, Ok, Err, Some, slice_get, take}
use Rattle.std.specs.List.{AllZip, flat_map, prefix_len, suffix_len}
use Rattle.pb_data.specs.OrderedSet.{once}
use Rattle.pb_directive.specs.DepInfo.{dep_info_of, line_info}
use Rattle.pb_directive.specs.Directives.{directives_of, line_directives}
use Rattle.pb_directive.specs.Faults.{fault_at}
use Rattle.pb_directive.specs.Lines.{is_blank, lines_of, trimmed}
use Rattle.pb_directive.specs.declared.dep_info.DepInfo.{DepInfo}
use Rattle.pb_directive.specs.declared.fault.LineFault.{LineFault}
use Rattle.pb_directive.specs.declared.fault.Problem.{Problem}

-- The blanks at the front of a line are removed first, and then the blanks at its end. The result
-- is the trimmed line.
abbrev pub LinesAreTrimmed : Type 0
LinesAreTrimmed = (line : List ℕ) → let rest = drop (prefix_len is_blank line) line in trimmed line ≡ take (length rest - suffix_len is_blank rest) rest

-- The result of reading lines is what each line yields, in order. If some line has a problem, the
-- result is the problem of the first such line, with the line's number. The first line has the
-- number 1.
pub data LinesAreRead {T U : Type 0} (read : List ℕ → Result T Problem) (all : List T → U) (lines : List (List ℕ)) : Result U LineFault → Type 0 where
  each : (parts : List T) (are : AllZip (λ line part. read line ≡ Ok part) lines parts) → LinesAreRead read all lines (Ok (all parts))
  first : (index : ℕ) (line : List ℕ) (problem : Problem) (there : slice_get lines index ≡ Some line) (wrong : read line ≡ Err problem)
      (before : (n : ℕ) (other : List ℕ) → n < index → slice_get lines n ≡ Some other → is_ok (read other) ≡ true) → LinesAreRead read all lines (Err (fault_at (index + 1) problem))

-- The directives of an output are the directives of the output's lines, line after line.
abbrev pub OutputsAreRead : Type 0
OutputsAreRead = (bytes : List ℕ) → LinesAreRead line_directives (flat_map (λ said. said)) (lines_of bytes) (directives_of bytes)

-- Dep-info names the words and variables that its lines name, each once, in order of first mention.
abbrev pub InfosAreRead : Type 0
InfosAreRead = (bytes : List ℕ)
    → LinesAreRead line_info (λ infos. record { words = once (flat_map (λ (info : DepInfo). info.words) infos); variables = once (flat_map (λ (info : DepInfo). info.variables) infos) }) (lines_of bytes) (dep_info_of bytes)
