-- Files that are shown, by their paths.
use Rattle.std.proofs.Common.{◌≡◌, ℕ, suc, ◌+◌, ◌<◌, true, false, cond, List, ◌∷◌, length, drop, get_or, drop-cons, add-one, Some, None, sym, ap, ◌∙◌}
use Rattle.std.specs.FinMap as finite
use Rattle.std.specs.FinMap.{find, get-empty, get-from_entries}
use Rattle.std.specs.Ordering.{nat_cmp}
use Rattle.std.specs.Cmp.Lexicographic.{slice_cmp, nat_list_cmp_total}
use Rattle.std.specs.Str.{bytes_eq}
use Rattle.std.proofs.lemmas.Map.Text.{is_eq-slice_cmp}

-- the file is here
find-here : (path : List ℕ) (file : List ℕ × List ℕ) (files : List (List ℕ × List ℕ)) → bytes_eq path file.0 ≡ true → find (slice_cmp nat_cmp) path (file ∷ files) ≡ Some file.1
find-here path file files same = ap (λ b. cond b (Some file.1) (find (slice_cmp nat_cmp) path files)) (is_eq-slice_cmp path file.0 ∙ same)

-- the file is another
find-later : (path : List ℕ) (file : List ℕ × List ℕ) (files : List (List ℕ × List ℕ)) → bytes_eq path file.0 ≡ false → find (slice_cmp nat_cmp) path (file ∷ files) ≡ find (slice_cmp nat_cmp) path files
find-later path file files other = ap (λ b. cond b (Some file.1) (find (slice_cmp nat_cmp) path files)) (is_eq-slice_cmp path file.0 ∙ other)

-- the files from one of them on
from_file : (files : List (List ℕ × List ℕ)) (i : ℕ) (file : List ℕ × List ℕ) → i < length files → file ≡ get_or files i file → drop i files ≡ file ∷ drop (i + 1) files
from_file files i file below is = drop-cons files i file below ∙ ap (λ f. f ∷ drop (suc i) files) (sym is) ∙ ap (λ n. file ∷ drop n files) (sym (add-one i))

pub found-here : (path : List ℕ) (files : List (List ℕ × List ℕ)) (i : ℕ) (file : List ℕ × List ℕ) (bytes : List ℕ) → i < length files → file ≡ get_or files i file → bytes_eq path file.0 ≡ true → bytes ≡ file.1
    → find (slice_cmp nat_cmp) path (drop i files) ≡ find (slice_cmp nat_cmp) path files → Some bytes ≡ find (slice_cmp nat_cmp) path files
found-here path files i file bytes below is same copied so_far =
    ap (λ b. Some b) copied ∙ sym (find-here path file (drop (i + 1) files) same) ∙ ap (find (slice_cmp nat_cmp) path) (sym (from_file files i file below is)) ∙ so_far

pub found-later : (path : List ℕ) (files : List (List ℕ × List ℕ)) (i : ℕ) (file : List ℕ × List ℕ) → i < length files → file ≡ get_or files i file → bytes_eq path file.0 ≡ false
    → find (slice_cmp nat_cmp) path (drop i files) ≡ find (slice_cmp nat_cmp) path files → find (slice_cmp nat_cmp) path (drop (i + 1) files) ≡ find (slice_cmp nat_cmp) path files
found-later path files i file below is other so_far =
    sym (find-later path file (drop (i + 1) files) other) ∙ ap (find (slice_cmp nat_cmp) path) (sym (from_file files i file below is)) ∙ so_far

-- a map of files, and none
pub get-files : (files : List (List ℕ × List ℕ)) (path : List ℕ) → finite.get (finite.from_entries {R = slice_cmp nat_cmp} files) path ≡ find (slice_cmp nat_cmp) path files
get-files files path = get-from_entries nat_list_cmp_total files path

pub get-nothing : (name : List ℕ) → finite.get (finite.empty {K = List ℕ} {X = List ℕ} {R = slice_cmp nat_cmp}) name ≡ None
get-nothing name = get-empty (slice_cmp nat_cmp) name

pub ruleset finds = (get-files, get-nothing)
