-- A record as nested pairs, in the order of its text. Only private functions need these
-- definitions.
use Rattle.std.specs.Prelude.{◌≡◌, ◌++◌, ℕ, List, codes}
use Rattle.std.specs.List.{AllByRecursion}
use Rattle.std.specs.Str.{IsUtf8}
use Rattle.pb_record.specs.Grammar.{asked_bytes, block, both, input_bytes, line, listed, number}
use Rattle.pb_record.specs.Parts.{AreBoth, IsAny, IsAsked, IsInput, IsNumber}
use Rattle.pb_record.specs.declared.recorded_command.RecordedCommand.{RecordedCommand}
use Rattle.pb_record.specs.declared.record.Input.{Input}
use Rattle.pb_record.specs.declared.record.Needed.TheVariants.{Copies, Numbers}
use Rattle.pb_record.specs.declared.record.Record.{Record}

abbrev pub Files : Type 0
Files = List (List ℕ × List ℕ)

abbrev pub AskedParts : Type 0
AskedParts = List ℕ × (List (List ℕ) × (List ℕ × (List (List ℕ × List ℕ) × (List ℕ × (List ℕ × (List ℕ × List (List ℕ)))))))

abbrev pub asked_of : AskedParts → RecordedCommand
asked_of (program, (words, (folder, (pairs, (out, (target, (toolchain, reads))))))) = record {
  program = program;
  words = words;
  folder = folder;
  pairs = pairs;
  out = out;
  target = target;
  toolchain = toolchain;
  reads = reads;
}

-- all parts of a record of format 2
abbrev pub NumberedParts : Type 0
NumberedParts = ℕ × (List ℕ × (RecordedCommand × (List Input × (List (List ℕ × ℕ) × (List ℕ × List ℕ)))))

abbrev pub numbered_of : NumberedParts → Record
numbered_of (own, (key, (asked, (inputs, (needs, (stdout, stderr)))))) = record {
  key = key;
  asked = asked;
  inputs = inputs;
  needed = Numbers own needs;
  stdout = stdout;
  stderr = stderr;
}

-- all parts of a record of format 1
abbrev pub CopiedParts : Type 0
CopiedParts = List ℕ × (RecordedCommand × (List Input × (List (List ℕ × Files) × (List ℕ × List ℕ))))

abbrev pub copied_of : CopiedParts → Record
copied_of (key, (asked, (inputs, (copies, (stdout, stderr))))) = record {
  key = key;
  asked = asked;
  inputs = inputs;
  needed = Copies copies;
  stdout = stdout;
  stderr = stderr;
}

-- The parts that follow the key in a record of format 2. The command and the inputs come first,
-- then the needed units with their numbers, then the two streams.
abbrev pub RestParts : Type 0
RestParts = (RecordedCommand × List Input) × (List (List ℕ × ℕ) × (List ℕ × List ℕ))

abbrev pub rest_spelled : RestParts → List ℕ
rest_spelled = both (both asked_bytes (listed input_bytes)) (both (listed (both block number)) (both block block))

abbrev pub AreRest : RestParts → Type 0
AreRest = AreBoth (AreBoth IsAsked (AllByRecursion IsInput)) (AreBoth (AllByRecursion (AreBoth IsUtf8 IsNumber)) (AreBoth IsAny IsAny))

-- the text consists of these parts and the last line
abbrev pub IsRest : List ℕ → RestParts → Type 0
IsRest text p = AreRest p × (text ≡ rest_spelled p ++ line (codes "end"))

-- the text consists of `RestParts` and the last line, and `needs` are the needed units in these
-- parts
pub record EndsInNeeds (text : List ℕ) (needs : List (List ℕ × ℕ)) : Type 0 where
  pub parts : RestParts
  pub is : IsRest text parts
  pub same : needs ≡ parts.1.0

-- the text consists of two streams and the last line
pub record IsEnd (text : List ℕ) : Type 0 where
  pub streams : List ℕ × List ℕ
  pub is : text ≡ both block block streams ++ line (codes "end")
