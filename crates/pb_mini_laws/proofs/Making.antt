-- A file that a reply names stands in the output folder.
use Rattle.std.proofs.Common.{◌≡◌, ℕ, Bool, true, false, cond, List, [], ◌∷◌, Option, Some, None, refl, sym, ◌∙◌, ap}
use Rattle.std.proofs.lemmas.List.{append_cancel_left}
use Rattle.std.proofs.lemmas.Map.Text.{is_eq-slice_cmp}
use Rattle.std.proofs.lemmas.Slice.Eq.{bytes_eq-Decides}
use Rattle.std.specs.Cmp.Lexicographic.{slice_cmp, nat_list_cmp_total}
use Rattle.std.specs.FinMap as finite
use Rattle.std.specs.FinMap.{get-insert, get-empty}
use Rattle.std.specs.Ordering.{nat_cmp, eq_by_cmp}
use Rattle.std.specs.Str.{bytes_eq}
use Rattle.pb_place_types.specs.Folders.{files_in}
use Rattle.pb_place_types.specs.Paths.{below, is_relative, stem}
use Rattle.pb_place_types.specs.World.{Map, put_files}
use Rattle.pb_place_types.proofs.Folders.{get-files_in}
use Rattle.pb_place_types.proofs.PathLemmas.{below_is_below}
use Rattle.pb_mini.specs.Honesty.{file_named, later_of}

-- two names in one folder make one path only where they are one name
one_name : (out name other : List ℕ) → below out name ≡ below out other → name ≡ other
one_name out name other is =
    let rest : 47 ∷ name ≡ 47 ∷ other = append_cancel_left (stem out) (47 ∷ name) (47 ∷ other) is in
    cc

same_path : (out name other : List ℕ) → eq_by_cmp (slice_cmp nat_cmp) (below out name) (below out other) ≡ bytes_eq other name
same_path out name other = is_eq-slice_cmp (below out name) (below out other) ∙ by (bytes_eq other name) refl
  where
    by : (r : Bool) → bytes_eq other name ≡ r → bytes_eq (below out name) (below out other) ≡ bytes_eq other name
    by true is = (bytes_eq-Decides (below out name) (below out other)).1 (ap (below out) (sym ((bytes_eq-Decides other name).0 is))) ∙ sym is
    by false is = apart (bytes_eq (below out name) (below out other)) refl ∙ sym is
      where
        apart : (s : Bool) → bytes_eq (below out name) (below out other) ≡ s → s ≡ false
        apart false e = refl
        apart true e =
            let same : bytes_eq other name ≡ true = (bytes_eq-Decides other name).1 (sym (one_name out name other ((bytes_eq-Decides (below out name) (below out other)).0 e))) in
            absurd (cc)

chosen : (r : Bool) (earlier found : Option (List ℕ)) (bytes : List ℕ) → later_of (cond r (Some bytes) earlier) found ≡ later_of earlier (later_of (cond r (Some bytes) None) found)
chosen true earlier None bytes = refl
chosen true earlier (Some b) bytes = refl
chosen false earlier None bytes = refl
chosen false earlier (Some b) bytes = refl

-- what stands at a name after files were put: the last file of that name, or what stood there before
put_found : (out name : List ℕ) (files : List (List ℕ × List ℕ)) (m : Map) → finite.get (put_files out files m) (below out name) ≡ later_of (finite.get m (below out name)) (file_named name files)
put_found out name [] m = refl
put_found out name (file ∷ files) m =
    put_found out name files (finite.insert m (below out file.0) file.1)
    ∙ ap (λ found. later_of found (file_named name files)) (get-insert nat_list_cmp_total m (below out file.0) file.1 (below out name) ∙ ap (λ r. cond r (Some file.1) (finite.get m (below out name))) (same_path out name file.0))
    ∙ chosen (bytes_eq file.0 name) (finite.get m (below out name)) (file_named name files) file.1

later_none : (found : Option (List ℕ)) → later_of None found ≡ found
later_none None = refl
later_none (Some bytes) = refl

-- the files of a reply, put in an empty folder
pub reply_found : (out name : List ℕ) (files : List (List ℕ × List ℕ)) → is_relative name ≡ true → finite.get (files_in out (put_files out files finite.empty)) (below out name) ≡ file_named name files
reply_found out name files relative =
    get-files_in out (put_files out files finite.empty) (below out name)
    ∙ ap (λ r. cond r (finite.get (put_files out files finite.empty) (below out name)) None) (below_is_below out name (below out name) relative refl)
    ∙ put_found out name files finite.empty
    ∙ ap (λ found. later_of found (file_named name files)) (get-empty (slice_cmp nat_cmp) (below out name))
    ∙ later_none (file_named name files)
