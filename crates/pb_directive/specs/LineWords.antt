-- What a line of a build script's output means, key by key. The definitions do not follow the code
-- (The Cargo Book, "Build Scripts", "Outputs of the Build Script").
use Rattle.std.specs.Prelude.{◌≡◌, ◌≢◌, ◌↔◌, ℕ, true, false, not, ◌&&◌, if◌then◌else◌, codes, List, [], ◌∷◌, ◌++◌, Result, Ok, Err}
use Rattle.std.specs.Str.{bytes_eq, is_utf8}
use Rattle.pb_data.specs.Ascii.{colon, equals}
use Rattle.pb_directive.specs.Directives.{line_directives, words_of}
use Rattle.pb_directive.specs.Lines.{has_byte, trimmed}
use Rattle.pb_directive.specs.declared.directive.Directive.{Directive}
use Rattle.pb_directive.specs.declared.directive.Directive.TheVariants as says
use Rattle.pb_directive.specs.declared.fault.Problem.{Problem}
use Rattle.pb_directive.specs.declared.fault.Problem.TheVariants as problem

-- A text is plain if it has no byte 0. A text is filled if it is plain and not empty. A text is
-- uncut if it has no `=`.
abbrev pub IsPlain : List ℕ → Type 0
IsPlain text = has_byte 0 text ≡ false

abbrev pub IsFilled : List ℕ → Type 0
IsFilled text = (text ≢ []) × IsPlain text

abbrev pub IsUncut : List ℕ → Type 0
IsUncut text = has_byte 61 text ≡ false

-- These words mean these flags of `rustc-flags`. A flag is one word `-lX` or `-LX`, or two words.
pub data AreFlags : List (List ℕ) → List Directive → Type 0 where
  none : AreFlags [] []
  library : (name : List ℕ) (some : name ≢ []) (words : List (List ℕ)) (more : List Directive) (behind : AreFlags words more) → AreFlags ((codes "-l" ++ name) ∷ words) (says.LinkLib name ∷ more)
  search : (name : List ℕ) (some : name ≢ []) (words : List (List ℕ)) (more : List Directive) (behind : AreFlags words more) → AreFlags ((codes "-L" ++ name) ∷ words) (says.LinkSearch name ∷ more)
  library_next : (name : List ℕ) (words : List (List ℕ)) (more : List Directive) (behind : AreFlags words more) → AreFlags (codes "-l" ∷ name ∷ words) (says.LinkLib name ∷ more)
  search_next : (name : List ℕ) (words : List (List ℕ)) (more : List Directive) (behind : AreFlags words more) → AreFlags (codes "-L" ∷ name ∷ words) (says.LinkSearch name ∷ more)

-- a key with this value means these directives, both after `cargo::` and after `cargo:`
pub data IsSaid : List ℕ → List ℕ → List Directive → Type 0 where
  rerun_if_changed : (path : List ℕ) (is : IsFilled path) → IsSaid (codes "rerun-if-changed") path (says.RerunIfChanged path ∷ [])
  rerun_if_env_changed : (name : List ℕ) (is : IsFilled name) (whole : IsUncut name) → IsSaid (codes "rerun-if-env-changed") name (says.RerunIfEnvChanged name ∷ [])
  link_arg : (flag : List ℕ) (is : IsPlain flag) → IsSaid (codes "rustc-link-arg") flag (says.LinkArg flag ∷ [])
  link_arg_bins : (flag : List ℕ) (is : IsPlain flag) → IsSaid (codes "rustc-link-arg-bins") flag (says.LinkArgBins flag ∷ [])
  link_arg_cdylib : (flag : List ℕ) (is : IsPlain flag) → IsSaid (codes "rustc-link-arg-cdylib") flag (says.LinkArgCdylib flag ∷ [])
  link_arg_tests : (flag : List ℕ) (is : IsPlain flag) → IsSaid (codes "rustc-link-arg-tests") flag (says.LinkArgTests flag ∷ [])
  link_arg_examples : (flag : List ℕ) (is : IsPlain flag) → IsSaid (codes "rustc-link-arg-examples") flag (says.LinkArgExamples flag ∷ [])
  link_arg_benches : (flag : List ℕ) (is : IsPlain flag) → IsSaid (codes "rustc-link-arg-benches") flag (says.LinkArgBenches flag ∷ [])
  link_arg_bin : (binary flag : List ℕ) (whole : IsUncut binary) (is : IsPlain (binary ++ equals ∷ flag)) → IsSaid (codes "rustc-link-arg-bin") (binary ++ equals ∷ flag) (says.LinkArgBin binary flag ∷ [])
  link_lib : (name : List ℕ) (is : IsFilled name) → IsSaid (codes "rustc-link-lib") name (says.LinkLib name ∷ [])
  link_search : (folder : List ℕ) (is : IsFilled folder) → IsSaid (codes "rustc-link-search") folder (says.LinkSearch folder ∷ [])
  cfg : (condition : List ℕ) (is : IsFilled condition) → IsSaid (codes "rustc-cfg") condition (says.Cfg condition ∷ [])
  check_cfg : (condition : List ℕ) (is : IsFilled condition) → IsSaid (codes "rustc-check-cfg") condition (says.CheckCfg condition ∷ [])
  flags : (text : List ℕ) (is : IsPlain text) (said : List Directive) (are : AreFlags (words_of text) said) → IsSaid (codes "rustc-flags") text said
  env : (name value : List ℕ) (some : name ≢ []) (whole : IsUncut name) (is : IsPlain (name ++ equals ∷ value)) → IsSaid (codes "rustc-env") (name ++ equals ∷ value) (says.Env name value ∷ [])
  warning : (text : List ℕ) → IsSaid (codes "warning") text (says.Warning text ∷ [])

-- A key with this value means these directives after `cargo::`. After `cargo::`, the keys
-- `metadata` and `error` have a meaning, too.
pub data IsSaidNew (key value : List ℕ) (said : List Directive) : Type 0 where
  known : (is : IsSaid key value said) → IsSaidNew key value said
  metadata : (is_key : key ≡ codes "metadata") (name text : List ℕ) (some : name ≢ []) (whole : IsUncut name) (is : IsPlain value) (parts : value ≡ name ++ equals ∷ text) (same : said ≡ says.Metadata name text ∷ []) → IsSaidNew key value said
  error : (is_key : key ≡ codes "error") (same : said ≡ says.Error value ∷ []) → IsSaidNew key value said

-- the key has no meaning with any value
abbrev pub IsUnknown : (List ℕ → List ℕ → List Directive → Type 0) → List ℕ → Type 0
IsUnknown Says key = (value : List ℕ) (said : List Directive) → Says key value said → ⊥

-- A key with this value means these directives after `cargo:`. After `cargo:`, a key without
-- another meaning is metadata.
pub data IsSaidOld (key value : List ℕ) (said : List Directive) : Type 0 where
  known : (is : IsSaid key value said) → IsSaidOld key value said
  metadata : (other : IsUnknown IsSaid key) (is : IsFilled key) (plain : IsPlain value) (same : said ≡ says.Metadata key value ∷ []) → IsSaidOld key value said

-- the key does not begin with `:`, so that it is a key after `cargo:` and not after `cargo::`
abbrev pub IsOld : List ℕ → Type 0
IsOld key = (rest : List ℕ) → key ≢ colon ∷ rest

-- the fault of a value that its key does not accept
abbrev pub problem_at : List ℕ → List ℕ → Problem
problem_at key value = if bytes_eq key (codes "rustc-flags") && not (has_byte 0 value) then problem.BadFlag else problem.BadValue

-- Without the blanks at its ends, the line is UTF-8, and consists of this prefix, this key, `=` and
-- this value. The key has no `=`.
pub record IsSetting (line prefix key value : List ℕ) : Type 0 where
  pub text : is_utf8 (trimmed line) ≡ true
  pub whole : trimmed line ≡ prefix ++ key ++ equals ∷ value
  pub first : IsUncut key

-- What a line means. The line `cargo::KEY=VALUE` or `cargo:KEY=VALUE` means what its key means. A
-- line with `cargo::` must have `=` and a value. Any other line means nothing.
pub data MeansLine (line : List ℕ) : Result (List Directive) Problem → Type 0 where
  new : (key value : List ℕ) (said : List Directive) (at : IsSetting line (codes "cargo::") key value) (is : IsSaidNew key value said) → MeansLine line (Ok said)
  new_unknown : (key value : List ℕ) (at : IsSetting line (codes "cargo::") key value) (unknown : IsUnknown IsSaidNew key) → MeansLine line (Err problem.UnknownKey)
  new_refused : (key value : List ℕ) (at : IsSetting line (codes "cargo::") key value) (known : IsUnknown IsSaidNew key → ⊥) (unsaid : (said : List Directive) → IsSaidNew key value said → ⊥) → MeansLine line (Err (problem_at key value))
  new_without_value : (setting : List ℕ) (text : is_utf8 (trimmed line) ≡ true) (whole : trimmed line ≡ codes "cargo::" ++ setting) (first : IsUncut setting) → MeansLine line (Err problem.BadValue)
  old : (key value : List ℕ) (said : List Directive) (at : IsSetting line (codes "cargo:") key value) (is_old : IsOld key) (is : IsSaidOld key value said) → MeansLine line (Ok said)
  old_refused : (key value : List ℕ) (at : IsSetting line (codes "cargo:") key value) (is_old : IsOld key) (unsaid : (said : List Directive) → IsSaidOld key value said → ⊥) → MeansLine line (Err (problem_at key value))
  silent : (no_new : (setting : List ℕ) → is_utf8 (trimmed line) ≡ true → trimmed line ≡ codes "cargo::" ++ setting → ⊥) (no_old : (key value : List ℕ) → IsSetting line (codes "cargo:") key value → ⊥) → MeansLine line (Ok [])

-- the reader has this answer for a line if and only if `MeansLine` is true of the line and this
-- answer
abbrev pub LinesSay : Type 0
LinesSay = (line : List ℕ) (answer : Result (List Directive) Problem) → (line_directives line ≡ answer) ↔ MeansLine line answer
