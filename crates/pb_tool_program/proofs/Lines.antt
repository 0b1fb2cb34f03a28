-- The lines of a session that were written, and where it was stopped.
use Rattle.std.proofs.Common.{◌≡◌, ◌≢◌, ◌⊎◌, ◌==◌, inl, inr, ℕ, Bool, true, false, List, [], ◌∷◌, ◌++◌, codes, length, Option, Some, None, is_some, IsTrue, Ok, Result, refl, sym, subst, arith}
use Rattle.std.proofs.lemmas.Bool.{false≢true}
use Rattle.std.proofs.lemmas.Bool.Decides.{Decides-eqb}
use Rattle.std.specs.Io.KnownBytes.{Appends}
use Rattle.pb_build_result.specs.Said.{ended, said_by_bad}
use Rattle.pb_place_types.specs.Counts.{up}
use Rattle.pb_place_types.specs.Sinks.{SinkState, TakesPart}
use Rattle.pb_place.specs.Memory.{Held, no_held}
use Rattle.pb_command_types.specs.declared.fault.UnitFault.{UnitFault}
use Rattle.pb_build_session.specs.Sessions.{session_of}
use Rattle.pb_build_session.specs.declared.step.SessionStep.{SessionStep}
use Rattle.pb_build.specs.Session.{Breaks, Course, Point, point}
use Rattle.pb_build_result.specs.declared.fault.BuildFault.{BuildFault}
use Rattle.pb_build_result.specs.declared.summary.Summary.{Summary}
use Rattle.pb_tool_program.specs.Session.{SessionStopped, SessionWritten, small_compiler, lines_of}
use Rattle.pb_place_types.specs.declared.moved.Moved.{Moved}
use Rattle.pb_tool_notes_pages.specs.Notes.{lines_of as note_lines}
use Rattle.pb_tool_program.specs.Building.{moved_notes}
use Rattle.pb_tool_sentences.specs.Libraries.{notes_of}
use Rattle.pb_tool_program.specs.Writing.{Tells, TellsOr, Writes}
use Rattle.pb_workspace_types.specs.declared.package.Package.{Package}

pub session_written : (whole : Bool) (bytes : List ℕ) (read steps : List SessionStep) (first last : Held) (old mid new : SinkState) (answers told : List (Result Summary BuildFault))
    → session_of bytes ≡ Ok read → steps ≡ read
    → first ≡ no_held
    → Course small_compiler steps (point first old []) (point last mid answers) → told ≡ answers → Writes whole (lines_of told) mid new
    → SessionWritten whole bytes old new
session_written whole bytes read steps first last old mid new answers told is_read is_steps is_first course is_told writes = (
  read,
  is_read,
  (
    point last mid answers,
    subst (λ (h : Held). Course small_compiler read (point h old []) (point last mid answers)) is_first
        (subst (λ (s : List SessionStep). Course small_compiler s (point first old []) (point last mid answers)) is_steps course),
    subst (λ (a : List (Result Summary BuildFault)). Writes whole (lines_of a) mid new) is_told writes,
  ),
)

pub session_broken : (bytes : List ℕ) (read steps : List SessionStep) (first : Held) (old : SinkState) (left : Point)
    → session_of bytes ≡ Ok read → steps ≡ read → first ≡ no_held → Breaks small_compiler steps (point first old []) left → SessionStopped bytes old left.moment.heard
session_broken bytes read steps first old left is_read is_steps is_first breaks = inr (
  read,
  is_read,
  inl (
    left,
    subst (λ (h : Held). Breaks small_compiler read (point h old []) left) is_first (subst (λ (s : List SessionStep). Breaks small_compiler s (point first old []) left) is_steps breaks),
    refl,
  ),
)

pub session_untold : (bytes : List ℕ) (read steps : List SessionStep) (first last : Held) (old mid new : SinkState) (answers : List (Result Summary BuildFault))
    → session_of bytes ≡ Ok read → steps ≡ read → first ≡ no_held → Course small_compiler steps (point first old []) (point last mid answers) → new ≡ mid
    → SessionStopped bytes old new
session_untold bytes read steps first last old mid new answers is_read is_steps is_first course is_new = inr (
  read,
  is_read,
  inr (
    point last mid answers,
    subst (λ (h : Held). Course small_compiler read (point h old []) (point last mid answers)) is_first
        (subst (λ (s : List SessionStep). Course small_compiler s (point first old []) (point last mid answers)) is_steps course),
    is_new,
  ),
)

-- What a sink was given, by the clauses of the call that gave it.
pub tells_by : (result : Bool) (bytes told : List ℕ) (old new : SinkState) → told ≡ bytes
    → (IsTrue result → Appends old.taken new.taken told) → (IsTrue result → new.faults ≡ old.faults) → (result ≡ false → TakesPart told old.taken new.taken) → (result ≡ false → new.faults ≡ up old.faults)
    → Tells bytes old new
tells_by true bytes told old new same all whole part fault = (true, (subst (Appends old.taken new.taken) same (all refl), whole refl))
tells_by false bytes told old new same all whole part fault =
    (false, (subst (λ (bs : List ℕ). TakesPart bs old.taken new.taken) same (part refl), fault refl))

-- There is something to tell.
pub tells_some : (lost bytes : List ℕ) (old new : SinkState) → bytes ≢ [] → Tells bytes old new ⊎ Tells lost old new → TellsOr lost bytes old new
tells_some lost [] old new some tells = absurd (some refl)
tells_some lost (byte ∷ bytes) old new some tells = tells

pub notes_some : (packages : List Package) (names : List (List ℕ)) → length names == 0 ≡ false → notes_of packages names ≢ []
notes_some packages [] none = absurd (false≢true (sym none))
notes_some packages (name ∷ names) some = λ e. cc

pub moved_some : (moved : List Moved) → length moved == 0 ≡ false → moved_notes moved ≢ []
moved_some [] none = absurd (false≢true (sym none))
moved_some (one ∷ others) some = λ e. cc

pub lines_some : (notes : List (List ℕ)) → length notes == 0 ≡ false → note_lines notes ≢ []
lines_some [] none = absurd (false≢true (sym none))
lines_some (one ∷ others) some = λ e. cc

pub lines_none : (notes : List (List ℕ)) → length notes == 0 ≡ true → note_lines notes ≡ []
lines_none [] none = refl
lines_none (one ∷ others) none = let same : length (one ∷ others) ≡ 0 = (Decides-eqb (length (one ∷ others)) 0).0 none in absurd (omega (arith, same))

pub said_some : (bad : Option (List ℕ × UnitFault)) (said : List ℕ) → is_some bad ≡ true → length said == 0 ≡ false → said_by_bad bad said ≢ []
said_some None said is_bad some = absurd (false≢true is_bad)
said_some (Some bad) [] is_bad some = absurd (false≢true (sym some))
said_some (Some bad) (b ∷ said) is_bad some = λ e. before bad.0 (ended (b ∷ said)) e
  where
    before : (key rest : List ℕ) → key ++ codes " said:\n" ++ rest ≡ [] → ⊥
    before [] rest e = cc
    before (k ∷ key) rest e = cc
