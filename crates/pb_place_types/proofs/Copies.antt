-- What stands at a path after files were taken over.
use Rattle.std.proofs.Common.{◌≡◌, ℕ, Bool, true, false, not, ◌&&◌, ◌||◌, ◌+◌, ◌<◌, List, [], ◌∷◌, Option, Some, None, zero, suc, take, drop, length, get_or, drop-cons, add-one, ◌⊎◌, is_some, inl, inr, refl, sym, subst, ap, ◌∙◌, cond}
use Rattle.std.specs.List.{filter, list_all, list_any}
use Rattle.std.specs.FinMap.{get, empty, keys, retain_keys, from_entries, get-empty, same_map}
use Rattle.std.specs.List.Sorted.{IsStrictlySortedBy}
use Rattle.std.specs.Cmp.Lexicographic.{slice_cmp, nat_list_cmp_total}
use Rattle.std.specs.Ordering.{nat_cmp}
use Rattle.std.proofs.lemmas.Bool.{cases_Bool, false≢true}
use Rattle.std.specs.Map.{keys_of}
use Rattle.pb_place_types.specs.Paths.{is_below, is_at_or_below}
use Rattle.pb_place_types.specs.World.{Map, AgreeBut, PartlyRemovedAt, is_same_path}
use Rattle.pb_place_types.specs.Folders.{first_of, files_in, over}
use Rattle.pb_place_types.specs.Copies.{put_one, put_from, PutsSome, first_half, half_removed}
use Rattle.pb_place_types.proofs.MapLemmas.{Entries, exact, symm, among_keys, get-kept, keys-filter}
use Rattle.pb_place_types.proofs.Folders.{get-over, get-files_in}
use Rattle.pb_place_types.proofs.Worlds.{get-same, get-other, same_path, apart_by}

one_spares : (may : List ℕ → Bool) (path : List ℕ) (o : Option (List ℕ)) (m : Map) → may path ≡ true → AgreeBut may m (put_one path o m)
one_spares may path None m inside q outside = refl
one_spares may path (Some bytes) m inside q outside = get-other m path bytes q (apart_by may path q inside outside)

pub one_safe : (may : List ℕ → Bool) (path : List ℕ) (from m n : Map) → n ≡ put_one path (get from path) m → AgreeBut may empty from → AgreeBut may m n
one_safe may path from m n is alone q outside =
    ap (λ x. get x q) is ∙ elim (cases_Bool (may path)) [
      | inl inside ↦ one_spares may path (get from path) m inside q outside
      | inr out ↦ ap (λ o. get (put_one path o m) q) (alone path out ∙ get-empty (slice_cmp nat_cmp) path)
    ]

-- the files of a folder taken away
pub below_gone : (folder : List ℕ) (m n : Map) → n ≡ retain_keys m (λ q. not (is_below folder q)) → AgreeBut (is_below folder) m n
below_gone folder m n is q outside = ap (λ x. get x q) is ∙ get-kept m (λ p. not (is_below folder p)) q ∙ ap (λ b. cond (not b) (get m q) None) outside

pub agree_same : (may : List ℕ → Bool) (m n : Map) → n ≡ m → AgreeBut may m n
agree_same may m n is q outside = ap (λ x. get x q) is

-- the first few of the files at some paths, by the paths that are left
rest_at : (paths : List (List ℕ)) (i : ℕ) (path : List ℕ) → i < length paths → path ≡ get_or paths i path → drop i paths ≡ path ∷ drop (i + 1) paths
rest_at paths i path below is = drop-cons paths i path below ∙ ap (λ n. get_or paths i path ∷ drop n paths) (sym (add-one i)) ∙ ap (λ p. p ∷ drop (i + 1) paths) (sym is)

pub some_on : (from : Map) (paths : List (List ℕ)) (i : ℕ) (path : List ℕ) (now next m : Map) → i < length paths → path ≡ get_or paths i path
    → next ≡ put_one path (get from path) now → PutsSome from (drop (i + 1) paths) next m → PutsSome from (drop i paths) now m
some_on from paths i path now next m below is put some =
    subst (λ ps. PutsSome from ps now m) (sym (rest_at paths i path below is)) (inr (subst (λ x. PutsSome from (drop (i + 1) paths) x m) put some))

pub some_none : (from : Map) (paths : List (List ℕ)) (i : ℕ) (path : List ℕ) (now m : Map) → i < length paths → path ≡ get_or paths i path → m ≡ now → PutsSome from (drop i paths) now m
some_none from paths i path now m below is same = subst (λ ps. PutsSome from ps now m) (sym (rest_at paths i path below is)) (inl same)

-- what stands at a path after one file, and after some files, were taken over
first_at : (q : List ℕ) (o : Option (List ℕ)) (m : Map) → get (put_one q o m) q ≡ first_of o (get m q)
first_at q None m = refl
first_at q (Some b) m = get-same m q b

other_at : (q path : List ℕ) (o : Option (List ℕ)) (m : Map) → is_same_path path q ≡ false → get (put_one path o m) q ≡ get m q
other_at q path None m apart = refl
other_at q path (Some b) m apart = get-other m path b q apart

first_in : (q path : List ℕ) (from m : Map) → get (put_one path (get from path) m) q ≡ cond (is_same_path q path) (first_of (get from q) (get m q)) (get m q)
first_in q path from m = elim (cases_Bool (is_same_path q path)) [
  | inl same ↦ ap (λ p. get (put_one p (get from p) m) q) (same_path q path same) ∙ first_at q (get from q) m ∙ sym (ap (λ b. cond b (first_of (get from q) (get m q)) (get m q)) same)
  | inr apart ↦ other_at q path (get from path) m (symm q path ∙ apart) ∙ sym (ap (λ b. cond b (first_of (get from q) (get m q)) (get m q)) apart)
]

twice : {A : Type 0} (a b : Bool) (x y : Option A) → cond b (first_of x (cond a (first_of x y) y)) (cond a (first_of x y) y) ≡ cond (a || b) (first_of x y) y
twice true true None y = refl
twice true true (Some x) y = refl
twice true false x y = refl
twice false b x y = refl

pub get-put_from : (q : List ℕ) (from : Map) (paths : List (List ℕ)) (m : Map) → get (put_from from paths m) q ≡ cond (list_any (is_same_path q) paths) (first_of (get from q) (get m q)) (get m q)
get-put_from q from [] m = refl
get-put_from q from (path ∷ paths) m =
    get-put_from q from paths (put_one path (get from path) m)
    ∙ ap (λ x. cond (list_any (is_same_path q) paths) (first_of (get from q) x) x) (first_in q path from m)
    ∙ twice (is_same_path q path) (list_any (is_same_path q) paths) (get from q) (get m q)

some_or : {A : Type 0} (o : Option A) → cond (is_some o) (first_of o None) None ≡ o
some_or None = refl
some_or (Some x) = refl

first_kept : {A : Type 0} (b : Bool) (o y : Option A) → cond (is_some (cond b o None)) (first_of o y) y ≡ first_of (cond b o None) y
first_kept true None y = refl
first_kept true (Some x) y = refl
first_kept false o y = refl

-- all files of a folder taken over
pub get-folder_from : (out : List ℕ) (from m : Map) (q : List ℕ) → get (put_from from (keys (retain_keys from (is_below out))) m) q ≡ first_of (cond (is_below out q) (get from q) None) (get m q)
get-folder_from out from m q =
    get-put_from q from (keys (retain_keys from (is_below out))) m
    ∙ ap (λ b. cond b (first_of (get from q) (get m q)) (get m q)) (among_keys (retain_keys from (is_below out)) q ∙ ap is_some (get-kept from (is_below out) q))
    ∙ first_kept (is_below out q) (get from q) (get m q)

first_none : {A : Type 0} (x : Option A) → first_of x None ≡ x
first_none None = refl
first_none (Some x) = refl

pub folder_alone : (out : List ℕ) (from : Map) → put_from from (keys (retain_keys from (is_below out))) empty ≡ files_in out from
folder_alone out from = same_map nat_list_cmp_total exact _ _ (λ q.
    get-folder_from out from empty q ∙ ap (first_of (cond (is_below out q) (get from q) None)) (get-empty (slice_cmp nat_cmp) q) ∙ first_none (cond (is_below out q) (get from q) None) ∙ sym (get-files_in out from q))

-- a folder that holds nothing outside, put over the rest
whole : {A : Type 0} (b : Bool) (o : Option A) → (b ≡ false → o ≡ None) → cond b o None ≡ o
whole true o h = refl
whole false o h = sym (h refl)

pub folder_over : (out : List ℕ) (from m : Map) → AgreeBut (is_below out) empty from → put_from from (keys (retain_keys from (is_below out))) m ≡ over from m
folder_over out from m inside = same_map nat_list_cmp_total exact _ _ (λ q.
    get-folder_from out from m q ∙ ap (λ x. first_of x (get m q)) (whole (is_below out q) (get from q) (λ outside. inside q outside ∙ get-empty (slice_cmp nat_cmp) q)) ∙ sym (get-over from m q))

pub ruleset copied_laws = (folder_alone)

pub ruleset landing_laws = (folder_over)

-- the files of a folder alone hold nothing outside it, and are the same taken twice
pub inner_alone : (out : List ℕ) (m n : Map) → n ≡ files_in out m → AgreeBut (is_below out) empty n
inner_alone out m n is q outside = ap (λ x. get x q) is ∙ get-files_in out m q ∙ ap (λ b. cond b (get m q) None) outside ∙ sym (get-empty (slice_cmp nat_cmp) q)

pub ruleset alone_laws = (inner_alone)

-- keys that pass a test
pub all_inside : {A : Type 0} (path : List ℕ) (es : List (List ℕ × A)) → list_all (is_at_or_below path) (keys_of (filter (λ e. is_at_or_below path e.0) es)) ≡ true
all_inside path [] = refl
all_inside path (e ∷ es) = elim (cases_Bool (is_at_or_below path e.0)) [
  | inl inside ↦ ap (λ b. list_all (is_at_or_below path) (keys_of (cond b (e ∷ filter (λ x. is_at_or_below path x.0) es) (filter (λ x. is_at_or_below path x.0) es)))) inside ∙ ap (λ b. b && list_all (is_at_or_below path) (keys_of (filter (λ x. is_at_or_below path x.0) es))) inside ∙ all_inside path es
  | inr out ↦ ap (λ b. list_all (is_at_or_below path) (keys_of (cond b (e ∷ filter (λ x. is_at_or_below path x.0) es) (filter (λ x. is_at_or_below path x.0) es)))) out ∙ all_inside path es
]

pub all_inside_of : {A : Type 0} (path : List ℕ) (es : List (List ℕ × A)) (names : List (List ℕ)) → names ≡ keys_of (filter (λ e. is_at_or_below path e.0) es) → list_all (is_at_or_below path) names ≡ true
all_inside_of path es names is = ap (list_all (is_at_or_below path)) is ∙ all_inside path es

and_left : (a b : Bool) → a && b ≡ true → a ≡ true
and_left true b h = refl
and_left false b h = h

and_right : (a b : Bool) → a && b ≡ true → b ≡ true
and_right true b h = h
and_right false b h = absurd (false≢true h)

all_take : (may : List ℕ → Bool) (n : ℕ) (names : List (List ℕ)) → list_all may names ≡ true → list_all may (take n names) ≡ true
all_take may zero names all = refl
all_take may (suc n) [] all = refl
all_take may (suc n) (x ∷ xs) all = ap (λ b. b && list_all may (take n xs)) (and_left (may x) _ all) ∙ all_take may n xs (and_right (may x) _ all)

not_among : (path q : List ℕ) (names : List (List ℕ)) → list_all (is_at_or_below path) names ≡ true → is_at_or_below path q ≡ false → list_any (is_same_path q) names ≡ false
not_among path q [] all outside = refl
not_among path q (x ∷ xs) all outside =
    ap (λ b. b || list_any (is_same_path q) xs) (sym (symm q x) ∙ apart_by (is_at_or_below path) x q (and_left (is_at_or_below path x) _ all) outside)
    ∙ not_among path q xs (and_right (is_at_or_below path x) _ all) outside

none_or_kept : (b : Bool) (old new : Option (List ℕ)) → new ≡ cond b None old → (new ≡ old) ⊎ (new ≡ None)
none_or_kept true old new is = inr is
none_or_kept false old new is = inl is

-- some of the files at or below a path taken away
pub half_gone : (path : List ℕ) (names : List (List ℕ)) (n : ℕ) (old new : Map) → list_all (is_at_or_below path) names ≡ true → ((q : List ℕ) → get new q ≡ cond (list_any (is_same_path q) (take n names)) None (get old q)) → PartlyRemovedAt path old new
half_gone path names n old new all gone = record {
  only = λ q outside. gone q ∙ ap (λ b. cond b None (get old q)) (not_among path q (take n names) (all_take (is_at_or_below path) n names all) outside);
  there = λ q. none_or_kept (list_any (is_same_path q) (take n names)) (get old q) _ (gone q);
}

but_none : (b : Bool) (o : Option (List ℕ)) → cond b None o ≡ cond (not b) o None
but_none true o = refl
but_none false o = refl

-- and the first half of them, where they are all keys there
pub half_removed_by : (path : List ℕ) (names : List (List ℕ)) (old new : Map) → names ≡ keys (retain_keys old (is_at_or_below path)) → ((q : List ℕ) → get new q ≡ cond (list_any (is_same_path q) (first_half names)) None (get old q)) → new ≡ half_removed path old
half_removed_by path names old new are gone = same_map nat_list_cmp_total exact _ _ (λ q.
    gone q ∙ but_none (list_any (is_same_path q) (first_half names)) (get old q)
    ∙ ap (λ (paths : List (List ℕ)). cond (not (list_any (is_same_path q) (first_half paths))) (get old q) None) are
    ∙ sym (get-kept old (λ p. not (list_any (is_same_path p) (first_half (keys (retain_keys old (is_at_or_below path)))))) q))

-- keys of which a test leaves some
pub filter_keys : (p : List ℕ → Bool) (es : Entries) → filter p (keys_of es) ≡ keys_of (filter (λ e. p e.0) es)
filter_keys p [] = refl
filter_keys p (e ∷ es) = elim (cases_Bool (p e.0)) [
  | inl is ↦ ap (λ b. cond b (e.0 ∷ filter p (keys_of es)) (filter p (keys_of es))) is ∙ ap (λ ks. e.0 ∷ ks) (filter_keys p es) ∙ sym (ap (λ b. keys_of (cond b (e ∷ filter (λ x. p x.0) es) (filter (λ x. p x.0) es))) is)
  | inr is ↦ ap (λ b. cond b (e.0 ∷ filter p (keys_of es)) (filter p (keys_of es))) is ∙ filter_keys p es ∙ sym (ap (λ b. keys_of (cond b (e ∷ filter (λ x. p x.0) es) (filter (λ x. p x.0) es))) is)
]

-- the keys that pass one test, and then another
pub filter_twice : (p q : List ℕ → Bool) (es : Entries) → filter (λ e. q e.0) (filter (λ e. p e.0) es) ≡ filter (λ e. p e.0 && q e.0) es
filter_twice p q [] = refl
filter_twice p q (e ∷ es) = at (p e.0) (filter_twice p q es)
  where
    at : (a : Bool) → filter (λ x. q x.0) (filter (λ x. p x.0) es) ≡ filter (λ x. p x.0 && q x.0) es
        → filter (λ x. q x.0) (cond a (e ∷ filter (λ x. p x.0) es) (filter (λ x. p x.0) es)) ≡ cond (a && q e.0) (e ∷ filter (λ x. p x.0 && q x.0) es) (filter (λ x. p x.0 && q x.0) es)
    at true same = ap (λ (more : Entries). cond (q e.0) (e ∷ more) more) same
    at false same = same

kept_both : (p q : List ℕ → Bool) (m : Map) → retain_keys m (λ x. p x && q x) ≡ retain_keys (retain_keys m q) p
kept_both p q m = same_map nat_list_cmp_total exact _ _ (λ x.
    get-kept m (λ y. p y && q y) x ∙ split (p x) (q x) (get m x) ∙ ap (λ o. cond (p x) o None) (sym (get-kept m q x)) ∙ sym (get-kept (retain_keys m q) p x))
  where
    split : (a b : Bool) (o : Option (List ℕ)) → cond (a && b) o None ≡ cond a (cond b o None) None
    split true b o = refl
    split false b o = refl

-- the keys that pass two tests in turn
pub names_twice_kept : (p q : List ℕ → Bool) (es : Entries) (names : List (List ℕ)) → names ≡ keys_of (filter (λ e. p e.0) es) → IsStrictlySortedBy (slice_cmp nat_cmp) (keys_of es)
    → filter q names ≡ keys (retain_keys (from_entries {R = slice_cmp nat_cmp} es) (λ x. p x && q x))
names_twice_kept p q es names are ordered =
    ap (filter q) are ∙ filter_keys q (filter (λ e. p e.0) es) ∙ ap keys_of (filter_twice p q es) ∙ keys-filter (λ x. p x && q x) es ordered

-- the keys below a folder, but those that a test leaves out
pub names_kept : (p q : List ℕ → Bool) (es : Entries) (names : List (List ℕ)) → names ≡ keys_of (filter (λ e. p e.0) es) → IsStrictlySortedBy (slice_cmp nat_cmp) (keys_of es)
    → filter q names ≡ keys (retain_keys (retain_keys (from_entries {R = slice_cmp nat_cmp} es) q) p)
names_kept p q es names are ordered = names_twice_kept p q es names are ordered ∙ ap keys (kept_both p q (from_entries es))

-- texts that pass a test, of texts that pass one
pub all_filter : (p q : List ℕ → Bool) (xs : List (List ℕ)) → list_all p xs ≡ true → list_all p (filter q xs) ≡ true
all_filter p q [] all = refl
all_filter p q (x ∷ xs) all = chosen (q x) (and_left (p x) _ all) (all_filter p q xs (and_right (p x) _ all))
  where
    chosen : (b : Bool) → p x ≡ true → list_all p (filter q xs) ≡ true → list_all p (cond b (x ∷ filter q xs) (filter q xs)) ≡ true
    chosen true is rest = ap (λ b. b && list_all p (filter q xs)) is ∙ rest
    chosen false is rest = rest
