-- A compile: its source, its image and its reply.
use Rattle.std.specs.Prelude.{ℕ, ℤ, pos, Bool, if◌then◌else◌, codes, List, [], ◌∷◌, ◌++◌, Option, Some, None, option_and_then}
use Rattle.std.specs.Str.{is_utf8}
use Rattle.pb_place_types.specs.Paths.{below}
use Rattle.pb_place_types.specs.World.{World}
use Rattle.pb_place_types.specs.declared.child.Reply.{Reply}
use Rattle.pb_mini.specs.Diagnostics.{has_error, diagnostics_text}
use Rattle.pb_mini.specs.DepInfo.{dep_info_text}
use Rattle.pb_mini.specs.Effects.{joined, diagnosed, reads, names_once}
use Rattle.pb_mini.specs.Lines.{lines_of, ended}
use Rattle.pb_mini.specs.Lookups.{path_of, file_at}
use Rattle.pb_mini.specs.Scope.{scope_of}
use Rattle.pb_mini.specs.Verbs.{effects_from}
use Rattle.pb_mini.specs.declared.command_line.CrateType.{CrateType}
use Rattle.pb_mini.specs.declared.command_line.CrateType.TheVariants.{Bin, Lib}
use Rattle.pb_mini.specs.declared.command_line.CommandLine.{CommandLine}
use Rattle.pb_mini.specs.declared.compile.Source.{Source}
use Rattle.pb_mini.specs.declared.dep_info.Names.{Names}
use Rattle.pb_mini.specs.declared.diagnostic.Level.TheVariants.{Error}
use Rattle.pb_mini.specs.declared.effects.Effects.{Effects}

-- the bytes as a text, if they are UTF-8
abbrev pub text_of : List ℕ → Option (List ℕ)
text_of bytes = if is_utf8 bytes then Some bytes else None

-- the text of the file at a path, if there is a path and a file, and the file is UTF-8
abbrev pub text_at : World → Option (List ℕ) → Option (List ℕ)
text_at w path = option_and_then text_of (file_at w path)

-- the path of the source of a compile, and the source's text if it can be read
abbrev pub source_of : CommandLine → World → Source
source_of line w = record { path = path_of line.source; text = text_at w (path_of line.source) }

-- the effects of a source that has no path, no file or no text: an error, reported at line 0
abbrev pub no_source : Effects
no_source = diagnosed Error (codes "no source") 0

-- the effects of all lines of a source with this path and this text
abbrev pub source_effects : CommandLine → List (List ℕ × List ℕ) → World → Option (List ℕ) → Option (List ℕ) → Effects
source_effects line pairs w None text = no_source
source_effects line pairs w (Some source) None = no_source
source_effects line pairs w (Some source) (Some text) = effects_from (scope_of line pairs source) w 0 (lines_of text)

-- all effects of a compile: the compile reads the source, and carries out the lines of the source
abbrev pub effects_of : CommandLine → List (List ℕ × List ℕ) → World → Effects
effects_of line pairs w = joined (reads (path_of line.source)) (source_effects line pairs w (path_of line.source) (text_at w (path_of line.source)))

abbrev pub title : CrateType → List ℕ
title Bin = codes "mini bin "
title Lib = codes "mini lib "

-- the content of the image: the line `mini bin NAME` or `mini lib NAME`, and then the lines that
-- were added
abbrev pub image_text : CommandLine → List ℕ → List ℕ
image_text line lines = ended (title line.crate_type ++ line.crate_name) ++ lines

-- the status of a compile, which is 1 if there is an error, and 0 otherwise
abbrev pub status_of : Bool → ℤ
status_of is_bad = if is_bad then pos 1 else pos 0

abbrev pub image_file : CommandLine → Bool → List ℕ → List (List ℕ × List ℕ)
image_file line is_bad lines = if is_bad then [] else (line.image, image_text line lines) ∷ []

abbrev pub files_of : CommandLine → Bool → List ℕ → Names → List (List ℕ × List ℕ)
files_of line is_bad lines names = image_file line is_bad lines ++ (line.dep_info, dep_info_text (below line.out_dir line.image) names) ∷ []

abbrev pub replied : CommandLine → Effects → Reply
replied line effects = record {
  status = status_of (has_error effects.diagnostics);
  stdout = [];
  stderr = diagnostics_text effects.diagnostics;
  files = files_of line (has_error effects.diagnostics) effects.image effects.names;
}

-- the reply to a compile; the reply's dep-info lists everything that was read, each name once
abbrev pub compiled : CommandLine → List (List ℕ × List ℕ) → World → Reply
compiled line pairs w = replied line (names_once (effects_of line pairs w))
