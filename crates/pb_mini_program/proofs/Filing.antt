-- Files that are put in a folder in turn, up to one at which that ended.
use Rattle.std.proofs.Common.{◌≡◌, ◌∙◌, ◌<◌, ◌+◌, ◌==◌, ℕ, Bool, true, List, [], ◌∷◌, ◌++◌, length, take, drop, get_or, IsTrue, Option, Some, None, refl, sym, ap, ap₂, subst, inl, inr, arith}
use Rattle.std.proofs.lemmas.List.{drop_more, take_more, take-append-drop}
use Rattle.std.proofs.lemmas.Bool.Decides.{Decides-eqb}
use Rattle.std.specs.FinMap as map
use Rattle.pb_place_types.specs.CallsInTurn.{past_calls}
use Rattle.pb_place_types.specs.declared.call.Call.TheVariants as call
use Rattle.pb_place_types.specs.Counts.{Counts, past_call, past_place_fault}
use Rattle.pb_place_types.specs.Paths.{below}
use Rattle.pb_place_types.specs.World.{World, Map, Torn, put_files, put_reply, written}
use Rattle.pb_place_types.specs.declared.place.PlaceFault.{PlaceFault}
use Rattle.pb_place_types.specs.declared.place.PlaceFault.TheVariants as place
use Rattle.pb_place_types.proofs.CallsInTurn.{made_both}
use Rattle.pb_mini_program.specs.Writing.{FailsToPut, Kept, PutsIn, StopsPutting, writes_in}

-- one file more
put_last : (folder : List ℕ) (done : List (List ℕ × List ℕ)) (file : List ℕ × List ℕ) (m : Map)
    → put_files folder (done ++ file ∷ []) m ≡ map.insert (put_files folder done m) (below folder file.0) file.1
put_last folder [] file m = refl
put_last folder (f ∷ done) file m = put_last folder done file (map.insert m (below folder f.0) f.1)

pub put_more : (folder : List ℕ) (files : List (List ℕ × List ℕ)) (i : ℕ) (file : List ℕ × List ℕ) (path bytes : List ℕ) (old mid new : World)
    → i < length files → file ≡ get_or files i file → path ≡ below folder file.0 → bytes ≡ file.1
    → mid ≡ put_reply (Some folder) (take i files) old → new ≡ written path bytes mid → new ≡ put_reply (Some folder) (take (i + 1) files) old
put_more folder files i file path bytes old mid new on is is_path is_bytes put one =
    one ∙ ap₂ (λ p b. written p b mid) is_path is_bytes ∙ ap (written (below folder file.0) file.1) put
    ∙ sym (ap (λ m. record old { files = m }) (put_last folder (take i files) file old.files))
    ∙ sym (ap (λ fs. put_reply (Some folder) fs old) (take_more files i file on ∙ ap (λ f. take i files ++ f ∷ []) (sym is)))

-- the files before one, it, and those behind it
parts : (files : List (List ℕ × List ℕ)) (i : ℕ) (file : List ℕ × List ℕ) → i < length files → file ≡ get_or files i file → files ≡ take i files ++ file ∷ drop (i + 1) files
parts files i file on is = sym (take-append-drop i files) ∙ ap (λ r. take i files ++ r) (drop_more files i file on ∙ ap (λ f. f ∷ drop (i + 1) files) (sym is))

-- one call more, for the file behind these
writes_last : (folder : List ℕ) (done : List (List ℕ × List ℕ)) (file : List ℕ × List ℕ) → writes_in folder (done ++ file ∷ []) ≡ writes_in folder done ++ call.Write (below folder file.0) ∷ []
writes_last folder [] file = refl
writes_last folder (f ∷ done) file = ap (λ calls. call.Write (below folder f.0) ∷ calls) (writes_last folder done file)

past_last : (folder : List ℕ) (done : List (List ℕ × List ℕ)) (file : List ℕ × List ℕ) (old mid new : Counts)
    → mid ≡ past_calls (writes_in folder done) old → new ≡ past_call mid → new ≡ past_calls (writes_in folder (done ++ file ∷ [])) old
past_last folder done file old mid new so is =
    made_both (writes_in folder done) (call.Write (below folder file.0) ∷ []) old mid new so is ∙ ap (λ calls. past_calls calls old) (sym (writes_last folder done file))

pub past_more : (folder : List ℕ) (files : List (List ℕ × List ℕ)) (i : ℕ) (file : List ℕ × List ℕ) (old mid new : Counts)
    → i < length files → file ≡ get_or files i file
    → mid ≡ past_calls (writes_in folder (take i files)) old → new ≡ past_call mid → new ≡ past_calls (writes_in folder (take (i + 1) files)) old
past_more folder files i file old mid new on here so is =
    past_last folder (take i files) file old mid new so is
    ∙ sym (ap (λ fs. past_calls (writes_in folder fs) old) (take_more files i file on ∙ ap (λ f. take i files ++ f ∷ []) (sym here)))

torn : (path bytes path' bytes' : List ℕ) (mid mid' new : World) → path ≡ path' → bytes ≡ bytes' → mid ≡ mid' → Torn path bytes mid new → Torn path' bytes' mid' new
torn path bytes path' bytes' mid mid' new p b m t =
    subst (λ w. Torn path' bytes' w new) m (subst (λ x. Torn path' x mid new) b (subst (λ x. Torn x bytes mid new) p t))

-- the write of this file failed
pub fails_at : (is_modelled : Bool) (folder : List ℕ) (files : List (List ℕ × List ℕ)) (i : ℕ) (file : List ℕ × List ℕ) (path bytes : List ℕ) (e : PlaceFault) (old mid new : Kept)
    → i < length files → file ≡ get_or files i file → path ≡ below folder file.0 → bytes ≡ file.1
    → mid.counts ≡ past_calls (writes_in folder (take i files)) old.counts → (IsTrue is_modelled → mid.world ≡ put_reply (Some folder) (take i files) old.world)
    → e ≡ place.Write → new.counts ≡ past_place_fault (call.Write path) e mid.counts → (IsTrue is_modelled → Torn path bytes mid.world new.world) → FailsToPut is_modelled folder files old new
fails_at is_modelled folder files i file path bytes e old mid new on is is_path is_bytes so put is_write counts tears = (
  take i files,
  file,
  drop (i + 1) files,
  parts files i file on is,
  counts ∙ ap₂ (λ p f. past_place_fault (call.Write p) f mid.counts) is_path is_write ∙ ap (past_place_fault (call.Write (below folder file.0)) place.Write) so,
  λ told. torn path bytes (below folder file.0) file.1 mid.world (put_reply (Some folder) (take i files) old.world) new.world is_path is_bytes (put told) (tears told),
)

-- memory was refused at its write
pub stops_at : (is_modelled : Bool) (folder : List ℕ) (files : List (List ℕ × List ℕ)) (i : ℕ) (file : List ℕ × List ℕ) (path bytes : List ℕ) (e : PlaceFault) (old mid new : Kept)
    → i < length files → file ≡ get_or files i file → path ≡ below folder file.0 → bytes ≡ file.1
    → mid.counts ≡ past_calls (writes_in folder (take i files)) old.counts → (IsTrue is_modelled → mid.world ≡ put_reply (Some folder) (take i files) old.world)
    → e ≡ place.OutOfMemory → new.counts ≡ past_place_fault (call.Write path) e mid.counts → (IsTrue is_modelled → Torn path bytes mid.world new.world) → StopsPutting is_modelled folder files old new
stops_at is_modelled folder files i file path bytes e old mid new on is is_path is_bytes so put is_memory counts tears = (
  take i files,
  file,
  drop (i + 1) files,
  parts files i file on is,
  inr (
    past_last folder (take i files) file old.counts mid.counts new.counts so (counts ∙ ap (λ f. past_place_fault (call.Write path) f mid.counts) is_memory),
    λ told. torn path bytes (below folder file.0) file.1 mid.world (put_reply (Some folder) (take i files) old.world) new.world is_path is_bytes (put told) (tears told),
  ),
)

-- or before it
pub stops_before : (is_modelled : Bool) (folder : List ℕ) (files : List (List ℕ × List ℕ)) (i : ℕ) (file : List ℕ × List ℕ) (old new : Kept)
    → i < length files → file ≡ get_or files i file
    → new.counts ≡ past_calls (writes_in folder (take i files)) old.counts → (IsTrue is_modelled → new.world ≡ put_reply (Some folder) (take i files) old.world) → StopsPutting is_modelled folder files old new
stops_before is_modelled folder files i file old new on is so put = (
  take i files,
  file,
  drop (i + 1) files,
  parts files i file on is,
  inl (so, put),
)

-- no files are put anywhere
put_none : (folder : Option (List ℕ)) (is_modelled : Bool) (old : Kept) → PutsIn is_modelled folder [] old old
put_none None is_modelled old = (refl, λ told. refl)
put_none (Some folder) is_modelled old = (refl, λ told. refl)

pub no_files : (is_modelled : Bool) (folder : Option (List ℕ)) (files : List (List ℕ × List ℕ)) (old : Kept) → length files == 0 ≡ true → PutsIn is_modelled folder files old old
no_files is_modelled folder [] old none = put_none folder is_modelled old
no_files is_modelled folder (f ∷ files) old none = let empty : length (f ∷ files) ≡ 0 = (Decides-eqb _ _).0 none in absurd (omega arith)
