-- Lemmas on inputs and variables as parts of a record.
use Rattle.std.proofs.Common.{◌≡◌, ◌<◌, ℕ, List, ◌∷◌, ◌++◌, length, refl, sym, ◌∙◌, ap, arith, Option, Some, None, true, false, ◌==◌, codes}
use Rattle.std.proofs.lemmas.Bool.Decides.{Decides-eqb}
use Rattle.std.specs.Str.{IsUtf8}
use Rattle.std.specs.List.{AllByRecursion}
use Rattle.pb_record.specs.Grammar.{line, block, listed, both, files, perhaps, input_bytes}
use Rattle.pb_record.specs.Parts.{IsAny, IsUtf8Path, AreFiles, AreBoth, IsPerhaps, ArePairs, IsInput}
use Rattle.pb_record.specs.Sorted.{are_sorted}
use Rattle.pb_record.specs.Reading.{BeginsWith, StandsNone, IsSpelling}
use Rattle.pb_record.specs.declared.record.Input.{Input}
use Rattle.pb_record.specs.declared.record.Input.TheVariants.{File, Tree, Value}
use Rattle.pb_record.proofs.BlockLemmas.{block_spelling}
use Rattle.pb_record.proofs.PartLemmas.{both_spelling, list_spelling, stands_by, none_but}

-- texts that begin with different bytes are not the same
pub clash : {A : Type 0} (a b : ℕ) (x y : List ℕ) → (a == b) ≡ false → a ∷ x ≡ b ∷ y → A
clash a b x y other e =
    let heads : a ≡ b = cc in
    let same = (Decides-eqb a b).1 heads in
    absurd (cc)

pub files_spelling : IsSpelling files
files_spelling = list_spelling (both block block) (both_spelling block block block_spelling block_spelling)

pub pairs_spelling : IsSpelling (listed (both block block))
pairs_spelling = files_spelling

-- a value that may be absent

perhaps_some : (x : Option (List ℕ)) → 0 < length (perhaps x)
perhaps_some None = omega arith
perhaps_some (Some text) = omega arith

perhaps_apart : (x y : Option (List ℕ)) (rest more : List ℕ) → perhaps x ++ rest ≡ perhaps y ++ more → (x ≡ y) × (rest ≡ more)
perhaps_apart None None rest more e = (refl, cc)
perhaps_apart None (Some y) rest more e = clash 48 49 _ _ refl e
perhaps_apart (Some x) None rest more e = clash 49 48 _ _ refl e
perhaps_apart (Some x) (Some y) rest more e =
    let tails : block x ++ rest ≡ block y ++ more = cc in
    let parts = block_spelling.apart x y rest more tails in
    (ap Some parts.0, parts.1)

pub perhaps_spelling : IsSpelling perhaps
perhaps_spelling = record { some = perhaps_some; apart = perhaps_apart }

pub absent : (text rest : List ℕ) → text ≡ line (codes "0") ++ rest → BeginsWith IsPerhaps perhaps text None rest
absent text rest e = record { is = tt; here = e }

pub present : (text behind rest : List ℕ) (x : List ℕ) → text ≡ line (codes "1") ++ behind → BeginsWith IsUtf8 block behind x rest → BeginsWith IsPerhaps perhaps text (Some x) rest
present text behind rest x e there = record { is = there.is; here = e ∙ ap (λ t. line (codes "1") ++ t) there.here }

none_perhaps : (x : Option (List ℕ)) (text rest : List ℕ) → ((rest : List ℕ) → text ≡ line (codes "0") ++ rest → ⊥) → ((rest : List ℕ) → text ≡ line (codes "1") ++ rest → ⊥) → text ≡ perhaps x ++ rest → ⊥
none_perhaps None text rest zero' one e = zero' rest e
none_perhaps (Some x) text rest zero' one e = one (block x ++ rest) e

pub neither : (text : List ℕ) → ((rest : List ℕ) → text ≡ line (codes "0") ++ rest → ⊥) → ((rest : List ℕ) → text ≡ line (codes "1") ++ rest → ⊥) → StandsNone IsPerhaps perhaps text
neither text zero' one = record { never = λ x rest stands. none_perhaps x text rest zero' one stands.here }

none_present : (x : Option (List ℕ)) (text behind rest : List ℕ) → text ≡ line (codes "1") ++ behind → StandsNone IsUtf8 block behind → IsPerhaps x → text ≡ perhaps x ++ rest → ⊥
none_present None text behind rest front none is e = clash 49 48 _ _ refl (sym front ∙ e)
none_present (Some x) text behind rest front none is e =
    let whole = sym front ∙ e in
    let tails : behind ≡ block x ++ rest = cc in none.never x rest (record { is = is; here = tails })

pub not_present : (text behind : List ℕ) → text ≡ line (codes "1") ++ behind → StandsNone IsUtf8 block behind → StandsNone IsPerhaps perhaps text
not_present text behind front none = record { never = λ x rest stands. none_present x text behind rest front none stands.is stands.here }

-- pairs

pub not_sorted : {text rest : List ℕ} {x : List (List ℕ × List ℕ)} → BeginsWith (AllByRecursion (AreBoth IsUtf8 IsUtf8)) (listed (both block block)) text x rest → (are_sorted x ≡ true → ⊥) → StandsNone ArePairs (listed (both block block)) text
not_sorted there bad = none_but ArePairs pairs_spelling there (λ is. bad is.1)

-- inputs

input_some : (x : Input) → 0 < length (input_bytes x)
input_some (File path bytes) = omega arith
input_some (Tree path below) = omega arith
input_some (Value name text) = omega arith

file_spelling : IsSpelling (both block block)
file_spelling = both_spelling block block block_spelling block_spelling

tree_spelling : IsSpelling (both block files)
tree_spelling = both_spelling block files block_spelling files_spelling

value_spelling : IsSpelling (both block perhaps)
value_spelling = both_spelling block perhaps block_spelling perhaps_spelling

input_apart : (x y : Input) (rest more : List ℕ) → input_bytes x ++ rest ≡ input_bytes y ++ more → (x ≡ y) × (rest ≡ more)
input_apart (File path bytes) (File other others) rest more e =
    let tails : both block block (path, bytes) ++ rest ≡ both block block (other, others) ++ more = cc in
    let parts = file_spelling.apart (path, bytes) (other, others) rest more tails in
    (ap (λ (p : List ℕ × List ℕ). File p.0 p.1) parts.0, parts.1)
input_apart (File path bytes) (Tree other others) rest more e = clash 102 116 _ _ refl e
input_apart (File path bytes) (Value other others) rest more e = clash 102 118 _ _ refl e
input_apart (Tree path below) (File other others) rest more e = clash 116 102 _ _ refl e
input_apart (Tree path below) (Tree other others) rest more e =
    let tails : both block files (path, below) ++ rest ≡ both block files (other, others) ++ more = cc in
    let parts = tree_spelling.apart (path, below) (other, others) rest more tails in
    (ap (λ (p : List ℕ × List (List ℕ × List ℕ)). Tree p.0 p.1) parts.0, parts.1)
input_apart (Tree path below) (Value other others) rest more e = clash 116 118 _ _ refl e
input_apart (Value name text) (File other others) rest more e = clash 118 102 _ _ refl e
input_apart (Value name text) (Tree other others) rest more e = clash 118 116 _ _ refl e
input_apart (Value name text) (Value other others) rest more e =
    let tails : both block perhaps (name, text) ++ rest ≡ both block perhaps (other, others) ++ more = cc in
    let parts = value_spelling.apart (name, text) (other, others) rest more tails in
    (ap (λ (p : List ℕ × Option (List ℕ)). Value p.0 p.1) parts.0, parts.1)

pub input_spelling : IsSpelling input_bytes
input_spelling = record { some = input_some; apart = input_apart }

pub file_stands : {text rest : List ℕ} {p : List ℕ × List ℕ} → BeginsWith (AreBoth IsUtf8Path IsAny) (both block block) text p rest → BeginsWith IsInput input_bytes (line (codes "f") ++ text) (File p.0 p.1) rest
file_stands {p = p} there = stands_by IsInput input_bytes (line (codes "f")) (File p.0 p.1) there there.is.0 refl

pub tree_stands : {text rest : List ℕ} {p : List ℕ × List (List ℕ × List ℕ)} → BeginsWith (AreBoth IsUtf8Path AreFiles) (both block files) text p rest → BeginsWith IsInput input_bytes (line (codes "t") ++ text) (Tree p.0 p.1) rest
tree_stands {p = p} there = stands_by IsInput input_bytes (line (codes "t")) (Tree p.0 p.1) there there.is refl

pub value_stands : {text rest : List ℕ} {p : List ℕ × Option (List ℕ)} → BeginsWith (AreBoth IsUtf8 IsPerhaps) (both block perhaps) text p rest → BeginsWith IsInput input_bytes (line (codes "v") ++ text) (Value p.0 p.1) rest
value_stands {p = p} there = stands_by IsInput input_bytes (line (codes "v")) (Value p.0 p.1) there there.is refl

no_file_at : (x : Input) (text rest : List ℕ) → StandsNone (AreBoth IsUtf8Path IsAny) (both block block) text → IsInput x → line (codes "f") ++ text ≡ input_bytes x ++ rest → ⊥
no_file_at (File path bytes) text rest none is e = let tails : text ≡ both block block (path, bytes) ++ rest = cc in none.never (path, bytes) rest (record { is = (is, tt); here = tails })
no_file_at (Tree path below) text rest none is e = clash 102 116 _ _ refl e
no_file_at (Value name value) text rest none is e = clash 102 118 _ _ refl e

pub no_file : {text : List ℕ} → StandsNone (AreBoth IsUtf8Path IsAny) (both block block) text → StandsNone IsInput input_bytes (line (codes "f") ++ text)
no_file {text = text} none = record { never = λ x rest stands. no_file_at x text rest none stands.is stands.here }

no_tree_at : (x : Input) (text rest : List ℕ) → StandsNone (AreBoth IsUtf8Path AreFiles) (both block files) text → IsInput x → line (codes "t") ++ text ≡ input_bytes x ++ rest → ⊥
no_tree_at (File path bytes) text rest none is e = clash 116 102 _ _ refl e
no_tree_at (Tree path below) text rest none is e = let tails : text ≡ both block files (path, below) ++ rest = cc in none.never (path, below) rest (record { is = is; here = tails })
no_tree_at (Value name value) text rest none is e = clash 116 118 _ _ refl e

pub no_tree : {text : List ℕ} → StandsNone (AreBoth IsUtf8Path AreFiles) (both block files) text → StandsNone IsInput input_bytes (line (codes "t") ++ text)
no_tree {text = text} none = record { never = λ x rest stands. no_tree_at x text rest none stands.is stands.here }

no_value_at : (x : Input) (text rest : List ℕ) → StandsNone (AreBoth IsUtf8 IsPerhaps) (both block perhaps) text → IsInput x → line (codes "v") ++ text ≡ input_bytes x ++ rest → ⊥
no_value_at (File path bytes) text rest none is e = clash 118 102 _ _ refl e
no_value_at (Tree path below) text rest none is e = clash 118 116 _ _ refl e
no_value_at (Value name value) text rest none is e = let tails : text ≡ both block perhaps (name, value) ++ rest = cc in none.never (name, value) rest (record { is = is; here = tails })

pub no_value : {text : List ℕ} → StandsNone (AreBoth IsUtf8 IsPerhaps) (both block perhaps) text → StandsNone IsInput input_bytes (line (codes "v") ++ text)
no_value {text = text} none = record { never = λ x rest stands. no_value_at x text rest none stands.is stands.here }

no_letter_at : (x : Input) (text rest : List ℕ) → ((rest : List ℕ) → text ≡ line (codes "f") ++ rest → ⊥) → ((rest : List ℕ) → text ≡ line (codes "t") ++ rest → ⊥) → ((rest : List ℕ) → text ≡ line (codes "v") ++ rest → ⊥) → text ≡ input_bytes x ++ rest → ⊥
no_letter_at (File path bytes) text rest f t v e = f (both block block (path, bytes) ++ rest) e
no_letter_at (Tree path below) text rest f t v e = t (both block files (path, below) ++ rest) e
no_letter_at (Value name value) text rest f t v e = v (both block perhaps (name, value) ++ rest) e

pub no_letter : (text : List ℕ) → ((rest : List ℕ) → text ≡ line (codes "f") ++ rest → ⊥) → ((rest : List ℕ) → text ≡ line (codes "t") ++ rest → ⊥) → ((rest : List ℕ) → text ≡ line (codes "v") ++ rest → ⊥) → StandsNone IsInput input_bytes text
no_letter text f t v = record { never = λ x rest stands. no_letter_at x text rest f t v stands.here }
