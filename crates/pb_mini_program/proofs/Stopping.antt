-- At what the program stops.
use Rattle.std.proofs.Common.{◌≡◌, ◌≢◌, ◌==◌, ◌∙◌, ℕ, Bool, false, List, [], length, IfErr, Option, Some, Result, Ok, Err, refl, sym, ap, subst, inl}
use Rattle.std.proofs.lemmas.Bool.{false≢true}
use Rattle.std.specs.Io.KnownBytes.{Appends}
use Rattle.pb_data.specs.Table.{table_of}
use Rattle.pb_place_types.specs.Counts.{up}
use Rattle.pb_place_types.specs.Sinks.{SinkState, TakesPart}
use Rattle.pb_place_types.specs.World.{World}
use Rattle.pb_place_types.specs.declared.child.Reply.{Reply}
use Rattle.pb_place_types.specs.declared.place.PlaceFault.{PlaceFault}
use Rattle.pb_place_types.specs.declared.place.PlaceFault.TheVariants as place
use Rattle.pb_mini.specs.Answer.{request_of, replied_if, answered}
use Rattle.pb_mini.specs.declared.command_line.CommandLine.{CommandLine}
use Rattle.pb_mini.specs.declared.command_line.CommandLineFault.{CommandLineFault}
use Rattle.pb_mini.specs.declared.request.Request.{Request}
use Rattle.pb_mini.specs.declared.request.Request.TheVariants.{Version, Run, Compile}
use Rattle.pb_mini_program.specs.Faults.{of_place}
use Rattle.pb_mini_program.specs.OutFolder.{folder_for, out_folder, out_dir_variable}
use Rattle.pb_mini_program.specs.Writing.{SinkFailsAt, FailsToPut, IsFolder, IsReply, Kept, Outside, Puts, PutsIn, WriteFails, Writes}
use Rattle.pb_mini_program.specs.declared.fault.Fault.TheVariants.{Write, OutOfMemory}

-- what holds of the error that is known
pub at_err : {T E : Type 0} (Q : E → Type 0) (r : Result T E) (e : E) → r ≡ Err e → Q e → IfErr r Q
at_err Q r e is holds = subst (λ x. IfErr x Q) (sym is) holds

-- and of any
pub at_any : {T E X : Type 0} (P : E → Type 0) (r : Result T E) → X → IfErr r (λ e. P e → X)
at_any P (Ok x) holds = tt
at_any P (Err e) holds = λ _. holds

pub not_memory : (e : PlaceFault) → of_place e ≡ Write → e ≢ place.OutOfMemory
not_memory e tells is = let no : OutOfMemory ≡ Write = sym (ap of_place is) ∙ tells in cc

pub is_memory : (e : PlaceFault) → of_place e ≡ OutOfMemory → e ≡ place.OutOfMemory
is_memory place.OutOfMemory tells = refl
is_memory place.Read tells = absurd (cc)
is_memory place.List tells = absurd (cc)
is_memory place.Write tells = absurd (cc)
is_memory place.Remove tells = absurd (cc)
is_memory place.Variable tells = absurd (cc)

-- a reply with files is that of a compile or a run, so the folder that was found is the out folder
pub found_is : (words : List (List ℕ)) (w : World) (found : Option (List ℕ)) (files : List (List ℕ × List ℕ))
    → ((line : CommandLine) → request_of words ≡ Ok (Compile line) → found ≡ Some line.out_dir)
    → ((path : List ℕ) → request_of words ≡ Ok (Run path) → found ≡ out_dir_variable w)
    → length files == 0 ≡ false → files ≡ (answered words [] w).files → out_folder words w ≡ found
found_is words w found files compile run some has = by (request_of words) refl
  where
    empty : {r : Result Request CommandLineFault} → request_of words ≡ r → (replied_if r (table_of []) w).files ≡ [] → ⊥
    empty asked none = false≢true (sym some ∙ ap (λ fs. length fs == 0) (has ∙ ap (λ r. (replied_if r (table_of []) w).files) asked ∙ none))

    by : (r : Result Request CommandLineFault) → request_of words ≡ r → out_folder words w ≡ found
    by (Ok Version) asked = absurd (empty asked refl)
    by (Ok (Run path)) asked = ap (λ r. folder_for r w) asked ∙ sym (run path asked)
    by (Ok (Compile line)) asked = ap (λ r. folder_for r w) asked ∙ sym (compile line asked)
    by (Err e) asked = absurd (empty asked refl)

-- the write of a file of the reply failed
pub file_fails : (shows tells : Bool) (words : List (List ℕ)) (shown : World) (reply : Reply) (files : List (List ℕ × List ℕ)) (old new : Outside)
    → IsReply shows words shown reply → files ≡ reply.files → new.out ≡ old.out → new.err ≡ old.err
    → ((folder : List ℕ) × (files ≡ (answered words [] shown).files → IsFolder shows words shown (Some folder)) × FailsToPut tells folder files old.kept new.kept)
    → WriteFails shows tells words shown reply old new
file_fails shows tells words shown reply files old new is has out err fails =
    inl (fails.0, (λ told. fails.1 (has ∙ ap (λ r. r.files) (is told)) told), subst (λ fs. FailsToPut tells fails.0 fs old.kept new.kept) has fails.2, out, err)

-- all its files were put
pub files_put : (shows tells : Bool) (words : List (List ℕ)) (shown : World) (reply : Reply) (files : List (List ℕ × List ℕ)) (old new : Kept)
    → IsReply shows words shown reply → files ≡ reply.files
    → ((folder : Option (List ℕ)) × (files ≡ (answered words [] shown).files → IsFolder shows words shown folder) × PutsIn tells folder files old new)
    → Puts shows tells words shown reply old new
files_put shows tells words shown reply files old new is has put =
    (put.0, (λ told. put.1 (has ∙ ap (λ r. r.files) (is told)) told), subst (λ fs. PutsIn tells put.0 fs old new) has put.2)

-- a sink failed at these bytes
pub sink_fails : (told bytes : List ℕ) (old new : SinkState) → told ≡ bytes → TakesPart told old.taken new.taken → new.faults ≡ up old.faults → SinkFailsAt bytes old new
sink_fails told bytes old new is part rose = (subst (λ b. TakesPart b old.taken new.taken) is part, rose)

-- a sink took them all
pub sink_takes : (told bytes : List ℕ) (old new : SinkState) → told ≡ bytes → Appends old.taken new.taken told → new.faults ≡ old.faults → Writes bytes old new
sink_takes told bytes old new is all stays = (subst (λ b. Appends old.taken new.taken b) is all, stays)
