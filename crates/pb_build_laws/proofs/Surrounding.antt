-- The environment, the compiler's version and its host are what the laws say.
use Rattle.std.proofs.Common.{◌≡◌, ◌∙◌, ◌↔◌, ◌++◌, ◌∷◌, ◌-◌, ◌≤◌, [], ℕ, Bool, true, false, ◌&&◌, ◌||◌, if◌then◌else◌, codes, eqb, ltb, List, length, drop, take, Option, Some, None, Result, Ok, Err, is_none, is_some, refl, sym, ap, subst, slice_get, unwrap_or, pos, arith}
use borrow.Author.Tests.{ltb-false, ltb-true}
use Rattle.std.proofs.Math.ListN.{length-drop}
use Rattle.std.proofs.lemmas.Bool.Decides.{Decides-int_eq}
use Rattle.std.specs.FinMap as finite
use Rattle.std.specs.List.{cons_option, filter_map, flat_map, list_any, starts_with}
use Rattle.std.specs.Option.{option_map_or, option_to_list}
use Rattle.std.specs.Ordering.{int_eq}
use Rattle.std.specs.Prelude.{option_and_then}
use Rattle.std.specs.Result.{result_ok}
use Rattle.std.specs.Str.{is_utf8}
use Rattle.pb_build.specs.Environment.{flags_of, path_or, rustc_of, set_text, target_of, told_or}
use Rattle.pb_build.specs.Result.{is_host, toolchain_in}
use Rattle.pb_command_reply.specs.Answers.{is_too_long}
use Rattle.pb_command.specs.Command.{query_of}
use Rattle.pb_command.specs.Judge.{ended_by}
use Rattle.pb_command_environment.specs.Pairs as pairs
use Rattle.pb_command_environment.specs.Pairs.{first_host, host_in_text, or_else, unless_empty}
use Rattle.pb_command_laws.proofs.Judged.{both_so, so_both}
use Rattle.pb_command_laws.specs.Judged.{path_said}
use Rattle.pb_directive.specs.Directives.{is_empty, words_of}
use Rattle.pb_directive.specs.Lines.{after_prefix, lines_of}
use Rattle.pb_place_types.specs.Paths.{below, folder_of, joined}
use Rattle.pb_place_types.specs.declared.child.Reply.{Reply}
use Rattle.pb_place_types.specs.declared.command.Ended.{Ended}
use Rattle.pb_place_types.specs.declared.path.PathFault.{PathFault}
use Rattle.pb_command_types.specs.declared.fault.UnitFault.TheVariants as unit_fault
use Rattle.pb_build_laws.specs.Environments.{EnvironmentsAreThese, HostsComeFirst, IsToolchain, ToolchainsAreSaid, host_in, set_in}

-- the environment

set_is : (o : Option (List ℕ)) → set_text o ≡ option_and_then (λ text. if is_empty text then None else Some text) o
set_is None = refl
set_is (Some text) = refl

rustc_is : (o : Option (List ℕ)) → rustc_of o ≡ unwrap_or o (codes "rustc")
rustc_is o = refl

flags_are : (o : Option (List ℕ)) → flags_of o ≡ option_map_or words_of o []
flags_are None = refl
flags_are (Some text) = refl

one_path : (root other : List ℕ) (r : Result (List ℕ) PathFault) (paths : List (List ℕ)) → path_or (unwrap_or (slice_get paths 0) other) r ≡ unwrap_or (slice_get (option_to_list (result_ok r) ++ paths) 0) other
one_path root other (Ok path) paths = refl
one_path root other (Err fault) paths = refl

told_is : (root other : List ℕ) (o : Option (List ℕ)) (paths : List (List ℕ)) → told_or root (unwrap_or (slice_get paths 0) other) o ≡ unwrap_or (slice_get (flat_map (path_said root) (option_to_list o) ++ paths) 0) other
told_is root other None paths = refl
told_is root other (Some text) paths = one_path root other (joined root text) paths ∙ ap (λ here. unwrap_or (slice_get (here ++ paths) 0) other) (nil_behind (path_said root text))
  where
    nil_behind : (xs : List (List ℕ)) → xs ≡ xs ++ []
    nil_behind [] = refl
    nil_behind (x ∷ xs) = ap (λ ys. x ∷ ys) (nil_behind xs)

both_paths : (root : List ℕ) (asked variable : Option (List ℕ)) → flat_map (path_said root) (option_to_list asked ++ option_to_list variable) ≡ flat_map (path_said root) (option_to_list asked) ++ flat_map (path_said root) (option_to_list variable)
both_paths root None variable = refl
both_paths root (Some text) variable = ap (λ here. here ++ flat_map (path_said root) (option_to_list variable)) (nil_behind (path_said root text))
  where
    nil_behind : (xs : List (List ℕ)) → xs ≡ xs ++ []
    nil_behind [] = refl
    nil_behind (x ∷ xs) = ap (λ ys. x ∷ ys) (nil_behind xs)

target_is : (root : List ℕ) (asked variable : Option (List ℕ)) → target_of root asked variable ≡ unwrap_or (slice_get (flat_map (path_said root) (option_to_list asked ++ option_to_list variable)) 0) (below root (codes "target"))
target_is root asked variable =
    let other = below root (codes "target") in
    ap (λ there. told_or root there asked) (told_is root other variable [] ∙ ap (λ paths. unwrap_or (slice_get paths 0) other) (sym (nil_behind (flat_map (path_said root) (option_to_list variable)))))
    ∙ told_is root other asked (flat_map (path_said root) (option_to_list variable))
    ∙ ap (λ paths. unwrap_or (slice_get paths 0) other) (sym (both_paths root asked variable))
  where
    nil_behind : (xs : List (List ℕ)) → xs ≡ xs ++ []
    nil_behind [] = refl
    nil_behind (x ∷ xs) = ap (λ ys. x ∷ ys) (nil_behind xs)

pub environments_are_these : EnvironmentsAreThese
environments_are_these options variables =
    let root = folder_of options.manifest in
    λ i. record {
      rustc = unwrap_or (set_is (finite.get variables (codes "RUSTC")) i) (codes "rustc");
      flags = (ap flags_of (set_is (finite.get variables (codes "RUSTFLAGS"))) ∙ flags_are (set_in variables (codes "RUSTFLAGS"))) i;
      target = (ap (target_of root options.target_dir) (set_is (finite.get variables (codes "CARGO_TARGET_DIR"))) ∙ target_is root options.target_dir (set_in variables (codes "CARGO_TARGET_DIR"))) i;
    }

-- the compiler's version

module _ (e : Ended) (toolchain : List ℕ) where
  record IsSaid (long ended text says : Bool) : Type 0 where
    short : long ≡ false
    well : ended ≡ true
    utf8 : text ≡ true
    host : says ≡ true
    is : toolchain ≡ e.stdout

  abbrev answer : Bool → Bool → Bool → Bool → Option (List ℕ)
  answer long ended text says =
      if is_none (if long then Some unit_fault.OutputTooLong else (if ended then None else Some (unit_fault.Status e.status))) && (is_some (if text then Some e.stdout else None) && says) then Some e.stdout else None

  said_only : (long ended text says : Bool) → answer long ended text says ≡ Some toolchain → IsSaid long ended text says
  said_only false true true true same = record { short = refl; well = refl; utf8 = refl; host = refl; is = cc }
  said_only true ended text says same = absurd (cc)
  said_only false false text says same = absurd (cc)
  said_only false true false says same = absurd (cc)
  said_only false true true false same = absurd (cc)

  said_back : (long ended text says : Bool) → IsSaid long ended text says → answer long ended text says ≡ Some toolchain
  said_back long ended text says is =
      (λ i. answer (is.short i) (is.well i) (is.utf8 i) (is.host i)) ∙ ap Some (sym is.is)

pub toolchains_are_said : ToolchainsAreSaid
toolchains_are_said child environment project sources toolchain = (only, back)
  where
    only : toolchain_in (ended_by (child (query_of environment.rustc project.workspace.root project.workspace.target) sources)) ≡ Some toolchain → IsToolchain (child (query_of environment.rustc project.workspace.root project.workspace.target) sources) toolchain
    only same =
        let r = child (query_of environment.rustc project.workspace.root project.workspace.target) sources in
        let is = said_only (ended_by r) toolchain (is_too_long r.stdout || is_too_long r.stderr) (int_eq r.status (pos 0)) (is_utf8 r.stdout) (list_any is_host (lines_of r.stdout)) same in
        let short = so_both (ended_by r) is.short in
        ((short.0, short.1, (Decides-int_eq r.status (pos 0)).0 is.well), is.utf8, is.host, is.is)

    back : IsToolchain (child (query_of environment.rustc project.workspace.root project.workspace.target) sources) toolchain → toolchain_in (ended_by (child (query_of environment.rustc project.workspace.root project.workspace.target) sources)) ≡ Some toolchain
    back (well, utf8, host, is) =
        let r = child (query_of environment.rustc project.workspace.root project.workspace.target) sources in
        said_back (ended_by r) toolchain (is_too_long r.stdout || is_too_long r.stderr) (int_eq r.status (pos 0)) (is_utf8 r.stdout) (list_any is_host (lines_of r.stdout))
        (record { short = both_so (ended_by r) well.0 well.1; well = (Decides-int_eq r.status (pos 0)).1 well.2; utf8 = utf8; host = host; is = is })

-- the host

prefix_is : (prefix bytes : List ℕ) → after_prefix prefix bytes ≡ (if starts_with eqb bytes prefix then Some (drop (length prefix) bytes) else None)
prefix_is [] bytes = refl
prefix_is (a ∷ prefix) [] = refl
prefix_is (a ∷ prefix) (b ∷ bytes) = by (eqb a b) (prefix_is prefix bytes)
  where
    by : (same : Bool) → after_prefix prefix bytes ≡ (if starts_with eqb bytes prefix then Some (drop (length prefix) bytes) else None)
        → (if same then after_prefix prefix bytes else None) ≡ (if same && starts_with eqb bytes prefix then Some (drop (length prefix) bytes) else None)
    by true rest = rest
    by false rest = refl

filled_is : (line : List ℕ) (begins : Bool) → unless_empty (if begins then Some (drop 6 line) else None) ≡ (if ltb 6 (length line) && begins then Some (drop 6 line) else None)
filled_is line false = none (ltb 6 (length line))
  where
    none : (b : Bool) → None ≡ (if b && false then Some (drop 6 line) else None)
    none true = refl
    none false = refl
filled_is line true = by (ltb 6 (length line)) refl (drop 6 line) refl
  where
    by : (b : Bool) → ltb 6 (length line) ≡ b → (rest : List ℕ) → drop 6 line ≡ rest → unless_empty (Some rest) ≡ (if b && true then Some rest else None)
    by true more [] is = let none : length line - 6 ≡ 0 = sym (length-drop 6 line) ∙ ap length is in absurd (omega (arith, ltb-true))
    by true more (b ∷ rest) is = refl
    by false few [] is = refl
    by false few (b ∷ rest) is = let some : length line - 6 ≡ length (b ∷ rest) = sym (length-drop 6 line) ∙ ap length is in absurd (omega (arith, ltb-false))

line_is : (line : List ℕ) → pairs.host_in line ≡ host_in line
line_is line = by (is_utf8 line)
  where
    by : (text : Bool) → host_in_text (if text then Some line else None) ≡ (if text && is_host line then Some (drop 6 line) else None)
    by true = ap unless_empty (prefix_is (codes "host: ") line) ∙ filled_is line (starts_with eqb line (codes "host: "))
    by false = refl

first_is : (lines : List (List ℕ)) → first_host lines ≡ unwrap_or (slice_get (filter_map host_in lines) 0) []
first_is [] = refl
first_is (line ∷ lines) = ap (λ o. or_else o (first_host lines)) (line_is line) ∙ by (host_in line) (first_is lines)
  where
    by : (o : Option (List ℕ)) → first_host lines ≡ unwrap_or (slice_get (filter_map host_in lines) 0) [] → or_else o (first_host lines) ≡ unwrap_or (slice_get (cons_option o (filter_map host_in lines)) 0) []
    by None rest = rest
    by (Some host) rest = refl

pub hosts_come_first : HostsComeFirst
hosts_come_first toolchain = first_is (lines_of toolchain)
