-- A `BTreeMap` of bytes by texts, beside the finite map that it stands for.
use Rattle.std.proofs.Common.{◌≡◌, ℕ, Bool, true, false, not, cond, List, [], ◌∷◌, map as map_list, T, ◌&&◌, Option, Some, None, refl, sym, ap, ◌∙◌, arith, is_some, ◌++◌, ◌==◌, ◌<◌, ◌||◌}
use Rattle.std.specs.BTreeMap.{is_at, insert_entry}
use Rattle.std.specs.Map.{lookup, keys_of, remove_entry}
use Rattle.std.specs.List.{filter, AllByRecursion, list_any, list_all}
use Rattle.std.specs.List.Sorted.{IsStrictlySortedBy}
use Rattle.std.specs.Ordering.{nat_cmp, eq_by_cmp, is_lt, is_le, ordering_then, match_ordering}
use Rattle.std.specs.declared.cmp.Ordering.{Ordering}
use Rattle.std.specs.declared.cmp.Ordering.TheVariants.{Less, Equal, Greater}
use Rattle.std.specs.Cmp.{eq_by_cmp_equiv, ranked, unsigned_ties}
use Rattle.std.specs.Str.{bytes_eq}
use Rattle.std.specs.BTreeMap.Range.{entries_between, range_contains}
use Rattle.std.specs.declared.ops.Bound.TheVariants.{Excluded}
use Rattle.std.proofs.lemmas.Bool.Decides.{nat_tests}
use Rattle.pb_place_types.specs.Paths.{stem, leads_below, is_below, is_at_or_below}
use Rattle.std.specs.Cmp.Lexicographic.{slice_cmp, nat_list_cmp_total, lists_ties}
use Rattle.std.specs.FinMap.{IsAntisymmetric, nat_cmp-IsAntisymmetric, slice_cmp-IsAntisymmetric, get, insert, retain_keys, remove, get-remove, from_entries, find, get-from_entries, get-insert, get-retain_keys, same_map, keys, entries, from_sorted, get-from_sorted, entries-from_sorted, contains_key-keys}
use Rattle.std.specs.FinMap.Entries.{is_sorted, is_sorted-where_key, below_all, where_key, find-where_key}
use Rattle.pb_place_types.specs.World.{Map, is_same_path}
use Rattle.pb_place_types.proofs.PathLemmas.{and_left, and_right}

-- bytes by texts
abbrev pub Entries : Type 0
Entries = List (List ℕ × List ℕ)

pub exact : IsAntisymmetric (slice_cmp nat_cmp)
exact = slice_cmp-IsAntisymmetric nat_cmp-IsAntisymmetric

-- what is found among the entries
pub find-lookup : (q : List ℕ) (es : Entries) → find (slice_cmp nat_cmp) q es ≡ lookup (is_at (slice_cmp nat_cmp q)) es
find-lookup q [] = refl
find-lookup q (e ∷ es) = ap (cond (is_at (slice_cmp nat_cmp q) e.0) (Some e.1)) (find-lookup q es)

pub get-lookup : (es : Entries) (q : List ℕ) → get (from_entries {R = slice_cmp nat_cmp} es) q ≡ lookup (is_at (slice_cmp nat_cmp q)) es
get-lookup es q = get-from_entries nat_list_cmp_total es q ∙ find-lookup q es

pub ruleset map_laws = (get-lookup)

pub symm : (p q : List ℕ) → eq_by_cmp (slice_cmp nat_cmp) p q ≡ eq_by_cmp (slice_cmp nat_cmp) q p
symm p q = (eq_by_cmp_equiv nat_list_cmp_total).symm p q

-- entries that differ at one text
pub one_given : (es fs : Entries) (p b : List ℕ) → ((q : List ℕ) → lookup (is_at (slice_cmp nat_cmp q)) fs ≡ cond (is_at (slice_cmp nat_cmp p) q) (Some b) (lookup (is_at (slice_cmp nat_cmp q)) es)) → from_entries {R = slice_cmp nat_cmp} fs ≡ insert (from_entries es) p b
one_given es fs p b given = same_map nat_list_cmp_total exact _ _ (λ q.
    get-lookup fs q ∙ given q ∙ ap (λ t. cond t (Some b) (lookup (is_at (slice_cmp nat_cmp q)) es)) (symm p q)
    ∙ sym (get-insert nat_list_cmp_total (from_entries es) p b q ∙ ap (cond (eq_by_cmp (slice_cmp nat_cmp) q p) (Some b)) (get-lookup es q)))

-- the same entries make the same map
pub same_entries : (es fs : Entries) → fs ≡ es → from_entries {R = slice_cmp nat_cmp} fs ≡ from_entries es
same_entries es fs same = ap from_entries same

keeps_all : (p : List ℕ → Bool) (o : Ordering) (k v : List ℕ) (e : List ℕ × List ℕ) (es more : Entries) → p k ≡ true → list_all (λ f. p f.0) (e ∷ es) ≡ true → list_all (λ f. p f.0) more ≡ true
    → list_all (λ f. p f.0) (match_ordering o ((k, v) ∷ e ∷ es) ((e.0, v) ∷ es) (e ∷ more)) ≡ true
keeps_all p Less k v e es more is all then = ap (λ b. b && (p e.0 && list_all (λ f. p f.0) es)) is ∙ all
keeps_all p Equal k v e es more is all then = all
keeps_all p Greater k v e es more is all then = ap (λ b. b && list_all (λ f. p f.0) more) (and_left _ _ all) ∙ then

-- a test on the keys still passes after an insertion, and after a removal
pub all-insert_entry : (p : List ℕ → Bool) (es : Entries) (k v : List ℕ) → p k ≡ true → list_all (λ e. p e.0) es ≡ true → list_all (λ e. p e.0) (insert_entry (slice_cmp nat_cmp) es k v) ≡ true
all-insert_entry p [] k v is all = ap (λ b. b && true) is
all-insert_entry p (e ∷ es) k v is all = keeps_all p (slice_cmp nat_cmp k e.0) k v e es (insert_entry (slice_cmp nat_cmp) es k v) is all (all-insert_entry p es k v is (and_right _ _ all))

pub all-remove_entry : (p : List ℕ → Bool) (at : List ℕ → Bool) (es : Entries) → list_all (λ e. p e.0) es ≡ true → list_all (λ e. p e.0) (remove_entry at es) ≡ true
all-remove_entry p at [] all = refl
all-remove_entry p at (e ∷ es) all = chosen (at e.0) p e es (remove_entry at es) all (all-remove_entry p at es (and_right _ _ all))
  where
    chosen : (b : Bool) (p : List ℕ → Bool) (e : List ℕ × List ℕ) (es more : Entries) → list_all (λ f. p f.0) (e ∷ es) ≡ true → list_all (λ f. p f.0) more ≡ true → list_all (λ f. p f.0) (cond b es (e ∷ more)) ≡ true
    chosen true p e es more all then = and_right _ _ all
    chosen false p e es more all then = ap (λ b. b && list_all (λ f. p f.0) more) (and_left _ _ all) ∙ then

pub ruleset insert_laws = (one_given, same_entries, all-insert_entry)

-- one more byte of two bounds and of what lies between them
step : (o : Ordering) (a b : ℕ) (low high : Ordering) (deep : Bool) → o ≡ nat_cmp a b → is_lt low && not (is_le high) ≡ deep → is_lt (ordering_then o low) && not (is_le (ordering_then o high)) ≡ (a == b) && deep
step Less a b low high deep is same = let apart : a < b = ranked a b Less is in grind (arith, nat_tests)
step Equal a b low high deep is same = let alike : a ≡ b = ranked a b Equal is in let tied : a == b ≡ true = grind (arith, nat_tests) in same ∙ sym (ap (λ t. t && deep) tied)
step Greater a b low high deep is same = let apart : b < a = ranked a b Greater is in grind (arith, nat_tests)

alone : (b : ℕ) → is_lt (ordering_then (nat_cmp 47 b) Equal) && not (is_le (ordering_then (nat_cmp 48 b) Equal)) ≡ false
alone b = alone_at (nat_cmp 47 b) (nat_cmp 48 b) b refl refl
  where
    alone_at : (p q : Ordering) (b : ℕ) → p ≡ nat_cmp 47 b → q ≡ nat_cmp 48 b → is_lt (ordering_then p Equal) && not (is_le (ordering_then q Equal)) ≡ false
    alone_at Less Less b i j = refl
    alone_at Less Equal b i j = refl
    alone_at Less Greater b i j = let above : 47 < b = ranked 47 b Less i in let under : b < 48 = ranked 48 b Greater j in absurd (omega arith)
    alone_at Equal q b i j = refl
    alone_at Greater q b i j = refl

-- after the slash
more_than_one : (b : ℕ) → is_lt (ordering_then (nat_cmp 47 b) Less) && not (is_le (ordering_then (nat_cmp 48 b) Less)) ≡ (b == 47)
more_than_one b = more_at (nat_cmp 47 b) (nat_cmp 48 b) b refl refl
  where
    more_at : (p q : Ordering) (b : ℕ) → p ≡ nat_cmp 47 b → q ≡ nat_cmp 48 b → is_lt (ordering_then p Less) && not (is_le (ordering_then q Less)) ≡ (b == 47)
    more_at Less Less b i j = let above : 47 < b = ranked 47 b Less i in grind (arith, nat_tests)
    more_at Less Equal b i j = let above : 47 < b = ranked 47 b Less i in grind (arith, nat_tests)
    more_at Less Greater b i j = let above : 47 < b = ranked 47 b Less i in let under : b < 48 = ranked 48 b Greater j in absurd (omega arith)
    more_at Equal Less b i j = let at : 47 ≡ b = ranked 47 b Equal i in let under : 48 < b = ranked 48 b Less j in absurd (omega arith)
    more_at Equal Equal b i j = let at : 47 ≡ b = ranked 47 b Equal i in let under : 48 ≡ b = ranked 48 b Equal j in absurd (omega arith)
    more_at Equal Greater b i j = let at : 47 ≡ b = ranked 47 b Equal i in grind (arith, nat_tests)
    more_at Greater Less b i j = let under : b < 47 = ranked 47 b Greater i in grind (arith, nat_tests)
    more_at Greater Equal b i j = let under : b < 47 = ranked 47 b Greater i in grind (arith, nat_tests)
    more_at Greater Greater b i j = let under : b < 47 = ranked 47 b Greater i in grind (arith, nat_tests)

-- what lies between a stem with a slash and the stem with a `0` is what the stem leads to
between : (stem q : List ℕ) → is_lt (slice_cmp nat_cmp (stem ++ 47 ∷ []) q) && not (is_le (slice_cmp nat_cmp (stem ++ 48 ∷ []) q)) ≡ leads_below stem q
unfolding leads_below
between [] [] = refl
between [] (b ∷ []) = alone b
between [] (b ∷ c ∷ rest) = more_than_one b
between (a ∷ stem) [] = refl
between (a ∷ stem) (b ∷ q) = step (nat_cmp a b) a b _ _ _ refl (between stem q)

below_between : (folder q : List ℕ) → range_contains (slice_cmp nat_cmp) (Excluded (stem folder ++ 47 ∷ [])) (Excluded (stem folder ++ 48 ∷ [])) q ≡ is_below folder q
unfolding is_below
below_between folder q = between (stem folder) q

filter_alike : (p q : List ℕ → Bool) → ((x : List ℕ) → p x ≡ q x) → (es : Entries) → filter (λ e. p e.0) es ≡ filter (λ e. q e.0) es
filter_alike p q alike [] = refl
filter_alike p q alike (e ∷ es) = ap (λ b. cond b (e ∷ filter (λ x. p x.0) es) (filter (λ x. p x.0) es)) (alike e.0) ∙ ap (λ more. cond (q e.0) (e ∷ more) more) (filter_alike p q alike es)

-- the entries below a folder
pub between_is_below : (folder low high : List ℕ) (es : Entries) → low ≡ stem folder ++ 47 ∷ [] → high ≡ stem folder ++ 48 ∷ [] → entries_between (slice_cmp nat_cmp) (Excluded low) (Excluded high) es ≡ filter (λ e. is_below folder e.0) es
between_is_below folder low high es is_low is_high =
    ap (λ l. entries_between (slice_cmp nat_cmp) (Excluded l) (Excluded high) es) is_low ∙ ap (λ h. entries_between (slice_cmp nat_cmp) (Excluded (stem folder ++ 47 ∷ [])) (Excluded h) es) is_high
    ∙ filter_alike _ (is_below folder) (below_between folder) es

same_byte : (a : ℕ) → nat_cmp a a ≡ Equal
same_byte a = grind (arith, nat_tests)

-- the two bounds are apart
pub bounds_rise : (stem : List ℕ) → slice_cmp nat_cmp (stem ++ 47 ∷ []) (stem ++ 48 ∷ []) ≡ Less
bounds_rise [] = refl
bounds_rise (a ∷ stem) = ap (λ o. ordering_then o (slice_cmp nat_cmp (stem ++ 47 ∷ []) (stem ++ 48 ∷ []))) (same_byte a) ∙ bounds_rise stem

-- a filter by the keys is what a finite map keeps
where_key-filter : (p : List ℕ → Bool) (es : Entries) → where_key (slice_cmp nat_cmp) p es ≡ filter (λ e. p e.0) es
where_key-filter p [] = refl
where_key-filter p (e ∷ es) = ap (λ more. cond (p e.0) (e ∷ more) more) (where_key-filter p es)

below-all : (k : List ℕ) (es : Entries) → AllByRecursion (λ y. slice_cmp nat_cmp k y ≡ Less) (keys_of es) → T (below_all (slice_cmp nat_cmp) k es)
below-all k [] h = tt
below-all k (e ∷ es) h = rw h.0 (below-all k es h.1)

both : (a b : Bool) → T a → T b → T (a && b)
both true b p q = q
both false b p q = p

sorted_entries : (es : Entries) → IsStrictlySortedBy (slice_cmp nat_cmp) (keys_of es) → T (is_sorted (slice_cmp nat_cmp) es)
unfolding IsStrictlySortedBy
sorted_entries [] h = tt
sorted_entries (e ∷ es) h = both _ _ (below-all e.0 es h.0) (sorted_entries es h.1)

-- a test sees only the key
alike : (p : List ℕ → Bool) (q x : List ℕ) → slice_cmp nat_cmp q x ≡ Equal → p x ≡ p q
alike p q x tied = ap p (sym (exact q x tied))

-- what is kept of a finite map
pub get-kept : (m : Map) (p : List ℕ → Bool) (q : List ℕ) → get (retain_keys m p) q ≡ cond (p q) (get m q) None
get-kept m p q = get-retain_keys m p q (alike p q)

-- the keys that pass a test, in order, as the finite map tells them
pub keys-filter : (p : List ℕ → Bool) (es : Entries) → IsStrictlySortedBy (slice_cmp nat_cmp) (keys_of es) → keys_of (filter (λ e. p e.0) es) ≡ keys (retain_keys (from_entries {R = slice_cmp nat_cmp} es) p)
keys-filter p es ordered =
    let kept = where_key (slice_cmp nat_cmp) p es in
    let h : T (is_sorted (slice_cmp nat_cmp) kept) = is_sorted-where_key (slice_cmp nat_cmp) p es (sorted_entries es ordered) in
    let same : from_sorted {R = slice_cmp nat_cmp} kept ≡ retain_keys (from_entries es) p =
    same_map nat_list_cmp_total exact _ _ (λ q. get-from_sorted (slice_cmp nat_cmp) kept q h ∙ find-where_key (slice_cmp nat_cmp) p q (alike p q) es
    ∙ sym (get-kept _ p q ∙ ap (λ o. cond (p q) o None) (get-from_entries nat_list_cmp_total es q))) in
    ap keys_of (sym (where_key-filter p es)) ∙ ap (map_list (λ e. e.0)) (sym (entries-from_sorted (slice_cmp nat_cmp) kept h)) ∙ ap keys same

-- keys that pass a test that all keys pass
pub all_keys : (p keep : List ℕ → Bool) (es : Entries) → list_all (λ e. p e.0) es ≡ true → list_all p (keys_of (filter (λ e. keep e.0) es)) ≡ true
all_keys p keep [] all = refl
all_keys p keep (e ∷ es) all = chosen (keep e.0) p e (filter (λ x. keep x.0) es) (and_left _ _ all) (all_keys p keep es (and_right _ _ all))
  where
    chosen : (b : Bool) (p : List ℕ → Bool) (e : List ℕ × List ℕ) (more : Entries) → p e.0 ≡ true → list_all p (keys_of more) ≡ true → list_all p (keys_of (cond b (e ∷ more) more)) ≡ true
    chosen true p e more is all = ap (λ b. b && list_all p (keys_of more)) is ∙ all
    chosen false p e more is all = all

-- after the file at one text was taken away
pub removed_one : (es fs : Entries) (name : List ℕ) → ((q : List ℕ) → lookup (is_at (slice_cmp nat_cmp q)) fs ≡ cond (is_at (slice_cmp nat_cmp name) q) None (lookup (is_at (slice_cmp nat_cmp q)) es))
    → (q : List ℕ) → get (from_entries {R = slice_cmp nat_cmp} fs) q ≡ cond (is_same_path q name) None (get (from_entries {R = slice_cmp nat_cmp} es) q)
removed_one es fs name given q = get-lookup fs q ∙ given q ∙ ap (cond (is_same_path q name) None) (sym (get-lookup es q))

pub cond_two : {A : Type 0} (a b : Bool) (x y : A) → cond b x (cond a x y) ≡ cond (a || b) x y
cond_two true true x y = refl
cond_two true false x y = refl
cond_two false b x y = refl

-- the test for one path in two forms
pub same_bytes : (p q : List ℕ) → bytes_eq p q ≡ is_same_path q p
same_bytes p q = lists_ties nat_cmp unsigned_ties p q

any_alike : (p q : List ℕ → Bool) → ((x : List ℕ) → p x ≡ q x) → (xs : List (List ℕ)) → list_any p xs ≡ list_any q xs
any_alike p q same [] = refl
any_alike p q same (x ∷ xs) = ap (λ b. b || list_any p xs) (same x) ∙ ap (λ b. q x || b) (any_alike p q same xs)

-- whether a path is among the keys
pub among_keys : (m : Map) (q : List ℕ) → list_any (is_same_path q) (keys m) ≡ is_some (get m q)
among_keys m q = any_alike _ _ (λ x. symm x q) (keys m) ∙ sym (contains_key-keys m q)

left_out : {A : Type 0} (here inside : Bool) (o : Option A) → cond here None (cond (is_some (cond inside o None)) None o) ≡ cond (not (here || inside)) o None
left_out true inside o = refl
left_out false true None = refl
left_out false true (Some x) = refl
left_out false false o = refl

-- the file at a path and the files below it are taken away
pub removed_tree : (es ms fs : Entries) (path at : List ℕ) (names : List (List ℕ)) → at ≡ path → names ≡ keys (retain_keys (from_entries {R = slice_cmp nat_cmp} es) (is_below path))
    → ((q : List ℕ) → get (from_entries {R = slice_cmp nat_cmp} ms) q ≡ cond (list_any (is_same_path q) names) None (get (from_entries {R = slice_cmp nat_cmp} es) q))
    → ((q : List ℕ) → lookup (is_at (slice_cmp nat_cmp q)) fs ≡ cond (is_at (slice_cmp nat_cmp at) q) None (lookup (is_at (slice_cmp nat_cmp q)) ms))
    → from_entries {R = slice_cmp nat_cmp} fs ≡ retain_keys (from_entries {R = slice_cmp nat_cmp} es) (λ q. not (is_at_or_below path q))
unfolding is_at_or_below
removed_tree es ms fs path at names here are gone last = same_map nat_list_cmp_total exact _ _ (λ q.
    let old : Option (List ℕ) = get (from_entries {R = slice_cmp nat_cmp} es) q in
    let inside : list_any (is_same_path q) names ≡ is_some (cond (is_below path q) old None) =
    ap (list_any (is_same_path q)) are ∙ among_keys _ q ∙ ap is_some (get-kept (from_entries es) (is_below path) q) in
    removed_one ms fs at last q ∙ ap (λ p. cond (is_same_path q p) None (get (from_entries {R = slice_cmp nat_cmp} ms) q)) here ∙ ap (cond (is_same_path q path) None) (gone q ∙ ap (λ b. cond b None old) inside)
    ∙ left_out (is_same_path q path) (is_below path q) old
    ∙ ap (λ b. cond (not (b || is_below path q)) old None) (sym (same_bytes path q))
    ∙ sym (get-kept (from_entries es) (λ x. not (is_at_or_below path x)) q))

left_below : {A : Type 0} (inside : Bool) (o : Option A) → cond (is_some (cond inside o None)) None o ≡ cond (not inside) o None
left_below true None = refl
left_below true (Some x) = refl
left_below false o = refl

-- the files below a folder are taken away
pub removed_below : (es ms : Entries) (folder : List ℕ) (names : List (List ℕ)) → names ≡ keys (retain_keys (from_entries {R = slice_cmp nat_cmp} es) (is_below folder))
    → ((q : List ℕ) → get (from_entries {R = slice_cmp nat_cmp} ms) q ≡ cond (list_any (is_same_path q) names) None (get (from_entries {R = slice_cmp nat_cmp} es) q))
    → from_entries {R = slice_cmp nat_cmp} ms ≡ retain_keys (from_entries {R = slice_cmp nat_cmp} es) (λ q. not (is_below folder q))
removed_below es ms folder names are gone = same_map nat_list_cmp_total exact _ _ (λ q.
    let old : Option (List ℕ) = get (from_entries {R = slice_cmp nat_cmp} es) q in
    let inside : list_any (is_same_path q) names ≡ is_some (cond (is_below folder q) old None) =
    ap (list_any (is_same_path q)) are ∙ among_keys _ q ∙ ap is_some (get-kept (from_entries es) (is_below folder) q) in
    gone q ∙ ap (λ b. cond b None old) inside ∙ left_below (is_below folder q) old ∙ sym (get-kept (from_entries es) (λ x. not (is_below folder x)) q))

pub ruleset kept_laws = (get-kept)

-- a variable that was taken away
pub unset_one : (es fs : Entries) (name : List ℕ) → ((q : List ℕ) → lookup (is_at (slice_cmp nat_cmp q)) fs ≡ cond (is_at (slice_cmp nat_cmp name) q) None (lookup (is_at (slice_cmp nat_cmp q)) es))
    → from_entries {R = slice_cmp nat_cmp} fs ≡ remove (from_entries {R = slice_cmp nat_cmp} es) name
unset_one es fs name given = same_map nat_list_cmp_total exact _ _ (λ q.
    removed_one es fs name given q ∙ ap (λ t. cond t None (get (from_entries {R = slice_cmp nat_cmp} es) q)) (symm name q) ∙ sym (get-remove nat_list_cmp_total (from_entries {R = slice_cmp nat_cmp} es) name q))

pub ruleset unset_laws = (unset_one)

-- a map of ordered entries has just these
pub entries-ordered : (es : Entries) → IsStrictlySortedBy (slice_cmp nat_cmp) (keys_of es) → entries (from_entries {R = slice_cmp nat_cmp} es) ≡ es
entries-ordered es ordered =
    let h : T (is_sorted (slice_cmp nat_cmp) es) = sorted_entries es ordered in
    let same : from_sorted {R = slice_cmp nat_cmp} es ≡ from_entries es = same_map nat_list_cmp_total exact _ _ (λ q. get-from_sorted (slice_cmp nat_cmp) es q h ∙ sym (get-from_entries nat_list_cmp_total es q)) in
    ap entries (sym same) ∙ entries-from_sorted (slice_cmp nat_cmp) es h

pub ruleset ordered_laws = (entries-ordered)
