use Rattle.pb_manifest.proofs.Came.{edition_default}
use Rattle.pb_manifest.proofs.laws.default_edition.Goals as goal

pub returns : goal.returns
returns c ms p none h = edition_default ms p none h
