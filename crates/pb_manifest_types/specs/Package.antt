-- How editions are spelled (The Cargo Book, Manifest Format).
use Rattle.std.specs.Prelude.{ℕ, List, codes}
use Rattle.pb_manifest_types.specs.declared.package.Edition.{Edition}
use Rattle.pb_manifest_types.specs.declared.package.Edition.TheVariants.{E2015, E2018, E2021, E2024}

-- an edition as a manifest and the compiler's option `--edition` spell it
abbrev pub edition_text : Edition → List ℕ
edition_text E2015 = codes "2015"
edition_text E2018 = codes "2018"
edition_text E2021 = codes "2021"
edition_text E2024 = codes "2024"
