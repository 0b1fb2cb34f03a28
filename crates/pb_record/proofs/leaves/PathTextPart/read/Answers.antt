use Rattle.std.proofs.Common.{◌∙◌, ap}
use Rattle.pb_place_types.specs.Paths.{is_path}
use Rattle.pb_record.specs.Parts.{IsUtf8Path}
use Rattle.pb_record.proofs.BlockLemmas.{block_spelling, refused}
use Rattle.pb_record.proofs.PartLemmas.{none_but}
use Rattle.pb_record.proofs.leaves.PathTextPart.read.Goals as goal

pub returns-in-None-of : goal.returns-in-None-of
returns-in-None-of c =
    none_but IsUtf8Path block_spelling c.in-Some.ensures (λ is.
    refused is_path c.in_ok-made-in-Some.made c.of.result c.of.ensures c.in-None-of.is (ap is_path c.in_ok-made-in-Some.ensures ∙ is.0))
