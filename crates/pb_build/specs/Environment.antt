-- What the variables and the options say about a build before any file is read (The Cargo Book,
-- Environment Variables).
use Rattle.std.specs.Prelude.{ℕ, ◌==◌, if◌then◌else◌, codes, List, [], length, Option, Some, None, unwrap_or, Result, Ok, Err}
use Rattle.std.specs.FinMap as finite
use Rattle.pb_directive.specs.Directives as line
use Rattle.pb_place_types.specs.Paths.{joined, below, folder_of}
use Rattle.pb_place_types.specs.declared.path.PathFault.{PathFault}
use Rattle.pb_place_types.specs.World.{Map}
use Rattle.pb_workspace_types.specs.declared.options.Options.{Options}
use Rattle.pb_build.specs.declared.environment.Environment.{Environment}

-- the text of a variable; an empty text counts as no text
abbrev pub set_text : Option (List ℕ) → Option (List ℕ)
set_text None = None
set_text (Some text) = if length text == 0 then None else Some text

-- the compiler: the value of `RUSTC`, or else `rustc`
abbrev pub rustc_of : Option (List ℕ) → List ℕ
rustc_of found = unwrap_or found (codes "rustc")

-- the user's own arguments for the compiler: the words of `RUSTFLAGS`, separated by spaces
abbrev pub flags_of : Option (List ℕ) → List (List ℕ)
flags_of None = []
flags_of (Some text) = line.words_of text

-- the path that a text spells, or the path `other` if the text has byte 0
abbrev pub path_or : List ℕ → Result (List ℕ) PathFault → List ℕ
path_or other (Ok path) = path
path_or other (Err fault) = other

-- The path that a text spells; a relative text starts at the root. If there is no text, or the text
-- has byte 0, the result is the path `other`.
abbrev pub told_or : List ℕ → List ℕ → Option (List ℕ) → List ℕ
told_or root other None = other
told_or root other (Some text) = path_or other (joined root text)

-- the target folder: that of `--target-dir`, or else that of `CARGO_TARGET_DIR`, or else `target`
-- in the root
abbrev pub target_of : List ℕ → Option (List ℕ) → Option (List ℕ) → List ℕ
target_of root asked variable = told_or root (told_or root (below root (codes "target")) variable) asked

abbrev pub environment_with : Options → Option (List ℕ) → Option (List ℕ) → Option (List ℕ) → Environment
environment_with options rustc flags target = record {
  rustc = rustc_of rustc;
  flags = flags_of flags;
  target = target_of (folder_of options.manifest) options.target_dir target;
}

abbrev pub environment_of : Options → Map → Environment
environment_of options variables =
    environment_with options (set_text (finite.get variables (codes "RUSTC"))) (set_text (finite.get variables (codes "RUSTFLAGS"))) (set_text (finite.get variables (codes "CARGO_TARGET_DIR")))
