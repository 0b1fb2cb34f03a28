-- A glob takes just the folders that it matches, that have a manifest, and that `exclude` does not leave out.
use Rattle.std.proofs.Common.{◌≡◌, ◌≢◌, inl, inr, ◌∙◌, ◌++◌, ◌∷◌, ◌==◌, ◌||◌, ◌&&◌, ◌-◌, [], ℕ, zero, suc, Bool, true, false, not, cond, codes, length, take, List, Contains, fold, refl, sym, ap, subst, arith, append_assoc}
use Rattle.std.proofs.lemmas.Bool.{false≢true}
use Rattle.std.proofs.lemmas.Bool.Decides.{nat_tests}
use Rattle.std.proofs.lemmas.List.{append-nil}
use Rattle.std.proofs.lemmas.Slice.Eq.{bytes_eq-Decides}
use Rattle.std.specs.List.{AllByRecursion, filter, flat_map, list_all}
use Rattle.std.specs.Str.{bytes_eq}
use Rattle.pb_graph.proofs.Membership.{none, single, head, tail, cases}
use Rattle.pb_place_types.proofs.PathLemmas.{and_left, and_right, parts_joined}
use Rattle.pb_place_types.proofs.TakenApart.{parts_lone}
use Rattle.pb_place_types.proofs.Towards.{plain_parts as parts_whole}
use Rattle.pb_place_types.proofs.Within.{at_below, at_then_below, goes_below, or_second}
use Rattle.pb_place_types.specs.Paths.{below, is_absolute, is_at_or_below, is_name, is_path, last_of, last_part, leads_up, parts_of, path_of, slashed, stays, stem}
use Rattle.pb_place_types.specs.World.{FilesHavePaths, World, has_file, listed_folders}
use Rattle.pb_workspace_package.specs.Between.{names_in, is_word}
use Rattle.pb_workspace_package.specs.Sources.{resolved}
use Rattle.pb_workspace.proofs.FoldersListed.{file_path, folders_each, folders_only}
use Rattle.pb_workspace.proofs.FoldersPut.{Path}
use Rattle.pb_workspace.proofs.GlobRelation.{says, shows}
use Rattle.pb_workspace.proofs.NamesOfPaths.{IsWhole, path_named}
use Rattle.pb_workspace.proofs.WholeWorkspace.{flat_each, flat_only}
use Rattle.pb_workspace.specs.GlobWords as glob
use Rattle.pb_workspace.specs.GlobWords.{Matches}
use Rattle.pb_workspace.specs.Globs.{is_glob, matches}
use Rattle.pb_workspace.specs.MemberFolders.{folders_taken, has_manifest, is_fixed, is_kept, kept_step, led_to, one_step}
use Rattle.pb_workspace.specs.Members.{further, is_excluded, part_matches, parts_match, parts_meant, plain_parts, start_of}
use Rattle.pb_workspace.specs.declared.workspace_root.WorkspaceRoot.{WorkspaceRoot}
use Rattle.pb_workspace.specs.declared.member.Part.{Part}

-- what a filter keeps
module _ {A : Type 0} (p : A → Bool) where
  pub kept_only : (xs : List A) (x : A) → Contains (filter p xs) x → Contains xs x × (p x ≡ true)
  kept_only [] x h = absurd (none x h)
  kept_only (y ∷ ys) x h = by (p y) refl h (λ k. kept_only ys x k)
    where
      by : (b : Bool) → p y ≡ b → Contains (cond b (y ∷ filter p ys) (filter p ys)) x → (Contains (filter p ys) x → Contains ys x × (p x ≡ true)) → Contains (y ∷ ys) x × (p x ≡ true)
      by true at h rest = elim (cases y (filter p ys) x h) [
        | inl same ↦ (subst (Contains (y ∷ ys)) same (head y ys), ap p (sym same) ∙ at)
        | inr later ↦ (tail y ys x (rest later).0, (rest later).1)
      ]
      by false at h rest = (tail y ys x (rest h).0, (rest h).1)

  pub kept_each : (xs : List A) (x : A) → Contains xs x → p x ≡ true → Contains (filter p xs) x
  kept_each [] x h on = absurd (none x h)
  kept_each (y ∷ ys) x h on = by (p y) refl (λ k. kept_each ys x k on)
    where
      by : (b : Bool) → p y ≡ b → (Contains ys x → Contains (filter p ys) x) → Contains (cond b (y ∷ filter p ys) (filter p ys)) x
      by true at rest = elim (cases y ys x h) [
        | inl same ↦ subst (Contains (y ∷ filter p ys)) same (head y (filter p ys))
        | inr later ↦ tail y (filter p ys) x (rest later)
      ]
      by false at rest = elim (cases y ys x h) [
        | inl same ↦ absurd (false≢true (sym at ∙ ap p same ∙ on))
        | inr later ↦ rest later
      ]

-- words: texts without a slash that are not empty

pub record IsWord (name : List ℕ) : Type 0 where
  pub whole : IsWhole name
  pub some : is_word name ≡ true

abbrev Words : List (List ℕ) → Type 0
Words names = AllByRecursion IsWord names

no_zero : (n : ℕ) → (suc n == 0) ≡ false
no_zero n = grind (arith, nat_tests)

some_word : (part : List ℕ) → stays part ≡ false → is_word part ≡ true
some_word [] moves = absurd (false≢true (sym moves))
some_word (b ∷ part) moves = ap not (no_zero (length part))

named_word : (name : List ℕ) → is_name name ≡ true → is_word name ≡ true
named_word [] is = absurd (false≢true is)
named_word (b ∷ name) is = ap not (no_zero (length name))

named_words : (names : List (List ℕ)) → list_all is_name names ≡ true → AllByRecursion IsWhole names → Words names
named_words [] named whole = tt
named_words (name ∷ names) named whole = (record { whole = whole.0; some = named_word name (and_left _ _ named) }, named_words names (and_right _ _ named) whole.1)

-- so are the parts of a text of `members`

abbrev PartsAreWords : List Part → Type 0
PartsAreWords parts = AllByRecursion (λ (part : Part). IsWord part.text) parts

plain_words : (parts : List (List ℕ)) → AllByRecursion IsWhole parts → PartsAreWords (plain_parts (filter is_word parts))
plain_words [] whole = tt
plain_words (part ∷ parts) whole = by (is_word part) refl (plain_words parts whole.1)
  where
    by : (b : Bool) → is_word part ≡ b → PartsAreWords (plain_parts (filter is_word parts)) → PartsAreWords (plain_parts (cond b (part ∷ filter is_word parts) (filter is_word parts)))
    by true at rest = (record { whole = whole.0; some = at }, rest)
    by false at rest = rest

start_words : (root text : List ℕ) → PartsAreWords (start_of root text)
start_words root text = by (is_absolute text)
  where
    by : (b : Bool) → PartsAreWords (cond b [] (plain_parts (names_in root)))
    by true = tt
    by false = plain_words (parts_of root) (parts_whole root)

fewer_words : (n : ℕ) (parts : List Part) → PartsAreWords parts → PartsAreWords (take n parts)
fewer_words zero parts all = tt
fewer_words (suc n) [] all = tt
fewer_words (suc n) (part ∷ parts) all = (all.0, fewer_words n parts all.1)

one_word_more : (parts : List Part) (part : Part) → PartsAreWords parts → IsWord part.text → PartsAreWords (parts ++ part ∷ [])
one_word_more [] part all is = (is, tt)
one_word_more (first ∷ parts) part all is = (all.0, one_word_more parts part all.1 is)

further_words : (parts : List Part) (part : List ℕ) → PartsAreWords parts → IsWhole part → PartsAreWords (further parts part)
further_words parts part all whole = by (stays part) refl (leads_up part)
  where
    by : (s : Bool) → stays part ≡ s → (u : Bool) → PartsAreWords (cond s parts (cond u (take (length parts - 1) parts) (parts ++ record { text = part; is_pattern = true } ∷ [])))
    by true at u = all
    by false at true = fewer_words (length parts - 1) parts all
    by false at false = one_word_more parts (record { text = part; is_pattern = true }) all (record { whole = whole; some = some_word part at })

walked_words : (written : List (List ℕ)) (parts : List Part) → PartsAreWords parts → AllByRecursion IsWhole written → PartsAreWords (fold further parts written)
walked_words [] parts all whole = all
walked_words (part ∷ written) parts all whole = walked_words written (further parts part) (further_words parts part all whole.0) whole.1

parts_are_words : (root text : List ℕ) → PartsAreWords (parts_meant root text)
parts_are_words root text = walked_words (parts_of text) (start_of root text) (start_words root text) (parts_whole text)

-- a part that only one name matches

plain_matches : (pattern name : List ℕ) → Matches pattern name → is_glob pattern ≡ false → pattern ≡ name
plain_matches _ _ glob.empty plain = refl
plain_matches _ _ (glob.any pattern text rest behind) plain = absurd (cc)
plain_matches _ _ (glob.one pattern first more rest further whole behind) plain = absurd (cc)
plain_matches _ _ (glob.itself pattern b rest same behind) plain = ap (λ xs. b ∷ xs) (plain_matches pattern rest behind (or_right (b == 42 || b == 63) (is_glob pattern) plain))
  where
    or_right : (r s : Bool) → r || s ≡ false → s ≡ false
    or_right true s h = absurd (cc)
    or_right false s h = h

matches_itself : (pattern : List ℕ) → is_glob pattern ≡ false → Matches pattern pattern
matches_itself [] plain = glob.empty
matches_itself (b ∷ pattern) plain = let (here, later) = neither (b == 42 || b == 63) (is_glob pattern) plain in glob.itself pattern b pattern here (matches_itself pattern later)
  where
    neither : (r s : Bool) → r || s ≡ false → (r ≡ false) × (s ≡ false)
    neither true s h = absurd (cc)
    neither false s h = (refl, h)

off : (b : Bool) → not b ≡ true → b ≡ false
off true h = absurd (cc)
off false h = refl

part_is : (part : Part) (name : List ℕ) → is_fixed part ≡ true → part_matches part name ≡ true → part.text ≡ name
part_is part name fixed is = by part.is_pattern fixed is
  where
    by : (pattern : Bool) → not (pattern && is_glob part.text) ≡ true → cond pattern (matches part.text name) (bytes_eq part.text name) ≡ true → part.text ≡ name
    by true fixed is = plain_matches part.text name (says part.text name is) (off (is_glob part.text) fixed)
    by false fixed is = (bytes_eq-Decides part.text name).0 is

matches_its_text : (part : Part) → is_fixed part ≡ true → part_matches part part.text ≡ true
matches_its_text part fixed = by part.is_pattern fixed
  where
    by : (pattern : Bool) → not (pattern && is_glob part.text) ≡ true → cond pattern (matches part.text part.text) (bytes_eq part.text part.text) ≡ true
    by true fixed = shows part.text part.text (matches_itself part.text (off (is_glob part.text) fixed))
    by false fixed = (bytes_eq-Decides part.text part.text).1 refl

-- any other is a pattern
pattern_matches : (part : Part) (name : List ℕ) → is_fixed part ≡ false → part_matches part name ≡ matches part.text name
pattern_matches part name loose = by part.is_pattern loose
  where
    by : (pattern : Bool) → not (pattern && is_glob part.text) ≡ false → cond pattern (matches part.text name) (bytes_eq part.text name) ≡ matches part.text name
    by true loose = refl
    by false loose = absurd (false≢true (sym loose))

-- from a folder down through names

abbrev pub down : Path → List (List ℕ) → Path
down folder [] = folder
down folder (name ∷ names) = down (below folder name) names

-- the names, a slash behind each, and then a path
joined : List (List ℕ) → List ℕ → List ℕ
joined [] rest = rest
joined (name ∷ names) rest = name ++ 47 ∷ joined names rest

both : (a b : Bool) → a ≡ true → b ≡ true → a && b ≡ true
both a b p q = ap (λ x. x && b) p ∙ q

no_root : (s : List ℕ) (c : ℕ) (rest : List ℕ) → bytes_eq (s ++ 47 ∷ c ∷ rest) (codes "/") ≡ false
no_root [] c rest = refl
no_root (b ∷ []) c rest = neither (b == 47)
  where
    neither : (a : Bool) → a && false ≡ false
    neither true = refl
    neither false = refl
no_root (b ∷ d ∷ s) c rest = neither (b == 47)
  where
    neither : (a : Bool) → a && false ≡ false
    neither true = refl
    neither false = refl

stem_below : (folder name : List ℕ) → is_word name ≡ true → stem (below folder name) ≡ below folder name
stem_below folder [] some = absurd (false≢true some)
stem_below folder (c ∷ name) some = ap (λ b. cond b [] (below folder (c ∷ name))) (no_root (stem folder) c name)

below_twice : (folder name rest : List ℕ) → is_word name ≡ true → below (below folder name) rest ≡ below folder (name ++ 47 ∷ rest)
below_twice folder name rest some = ap (λ s. s ++ 47 ∷ rest) (stem_below folder name some) ∙ append_assoc (stem folder) (47 ∷ name) (47 ∷ rest)

down_joined : (names : List (List ℕ)) (folder rest : List ℕ) → Words names → below (down folder names) rest ≡ below folder (joined names rest)
unfolding joined
down_joined [] folder rest all = refl
down_joined (name ∷ names) folder rest all = down_joined names (below folder name) rest all.1 ∙ below_twice folder name (joined names rest) all.0.some

down_slashed : (name : List ℕ) (names : List (List ℕ)) (folder : List ℕ) → Words (name ∷ names) → down folder (name ∷ names) ≡ stem folder ++ slashed (name ∷ names)
down_slashed name [] folder all = ap (λ t. stem folder ++ 47 ∷ t) (sym (append-nil name))
down_slashed name (next ∷ names) folder all =
    down_slashed next names (below folder name) all.1 ∙ ap (λ s. s ++ slashed (next ∷ names)) (stem_below folder name all.0.some) ∙ append_assoc (stem folder) (47 ∷ name) (slashed (next ∷ names))

-- from the root it is the path of the names
down_path : (names : List (List ℕ)) → Words names → down (codes "/") names ≡ path_of names
down_path [] all = refl
down_path (name ∷ names) all = down_slashed name names (codes "/") all

parts_slashed : (name : List ℕ) (names : List (List ℕ)) → Words (name ∷ names) → parts_of (name ++ slashed names) ≡ name ∷ names
parts_slashed name [] all = ap parts_of (append-nil name) ∙ parts_lone name all.0.whole
parts_slashed name (next ∷ names) all = parts_joined name (next ++ slashed names) ∙ ap (λ ps. ps ++ parts_of (next ++ slashed names)) (parts_lone name all.0.whole) ∙ ap (λ ps. name ∷ ps) (parts_slashed next names all.1)

all_some : (names : List (List ℕ)) → Words names → filter is_word names ≡ names
all_some [] all = refl
all_some (name ∷ names) all = ap (λ b. cond b (name ∷ filter is_word names) (filter is_word names)) all.0.some ∙ ap (λ rest. name ∷ rest) (all_some names all.1)

-- and has these names
names_again : (names : List (List ℕ)) → Words names → names_in (path_of names) ≡ names
names_again [] all = refl
names_again (name ∷ names) all = ap (filter is_word) (parts_slashed name names all) ∙ all_some (name ∷ names) all

all_front : (xs ys : List (List ℕ)) → list_all is_name (xs ++ ys) ≡ true → list_all is_name xs ≡ true
all_front [] ys all = refl
all_front (x ∷ xs) ys all = both (is_name x) (list_all is_name xs) (and_left _ _ all) (all_front xs ys (and_right _ _ all))

-- where the path of something in it is one, so is its own
path_before : (names : List (List ℕ)) (rest : List ℕ) → Words names → is_path (below (path_of names) rest) ≡ true → is_path (path_of names) ≡ true
path_before [] rest all is = refl
path_before ([] ∷ names) rest all is = absurd (false≢true all.0.some)
path_before ((c ∷ name) ∷ names) rest all is =
    all_front (parts_of (c ∷ name ++ slashed names)) (parts_of rest) (ap (list_all is_name) (sym (parts_joined (c ∷ name ++ slashed names) rest)) ∙ is)

-- where parts lead

last_behind : (text : List ℕ) (parts : List (List ℕ)) (part : List ℕ) → last_of text (parts ++ part ∷ []) ≡ part
last_behind text [] part = refl
last_behind text (next ∷ parts) part = last_behind next parts part

last_below : (folder name : List ℕ) → IsWhole name → last_part (below folder name) ≡ name
last_below folder name whole = ap (last_of []) (parts_joined (stem folder) name ∙ ap (λ ps. parts_of (stem folder) ++ ps) (parts_lone name whole)) ∙ last_behind [] (parts_of (stem folder)) name

record Led (parts : List Part) (from to : Path) : Type 0 where
  names : List (List ℕ)
  words : Words names
  match : parts_match parts names ≡ true
  is : down from names ≡ to

record Stepped (part : Part) (from to : Path) : Type 0 where
  name : List ℕ
  word : IsWord name
  match : part_matches part name ≡ true
  is : below from name ≡ to

-- a folder in a folder that `exclude` leaves out is left out too

word_some : (name : List ℕ) → is_word name ≡ true → name ≢ []
word_some [] is = absurd (false≢true is)
word_some (b ∷ name) is = λ same. cc

excluded_below : (root : List ℕ) (exclude : List (List ℕ)) (folder name : List ℕ) → name ≢ [] → is_excluded root exclude folder ≡ true → is_excluded root exclude (below folder name) ≡ true
excluded_below root [] folder name some out = absurd (false≢true out)
excluded_below root (text ∷ exclude) folder name some out = by (is_at_or_below (resolved root text) folder) refl out (λ h. excluded_below root exclude folder name some h)
  where
    by : (b : Bool) → is_at_or_below (resolved root text) folder ≡ b → b || is_excluded root exclude folder ≡ true
        → (is_excluded root exclude folder ≡ true → is_excluded root exclude (below folder name) ≡ true)
        → is_at_or_below (resolved root text) (below folder name) || is_excluded root exclude (below folder name) ≡ true
    by true at h later = ap (λ b. b || is_excluded root exclude (below folder name)) (at_below (resolved root text) (below folder name) (at_then_below (resolved root text) folder (below folder name) at (goes_below folder name some)))
    by false at h later = or_second (is_at_or_below (resolved root text) (below folder name)) _ (later h)

kept_above : (f : WorkspaceRoot) (folder : Path) (names : List (List ℕ)) → Words names → is_kept f (down folder names) ≡ true → is_kept f folder ≡ true
kept_above f folder [] all kept = kept
kept_above f folder (name ∷ names) all kept = by (is_excluded f.root f.exclude folder) refl (kept_above f (below folder name) names all.1 kept)
  where
    by : (b : Bool) → is_excluded f.root f.exclude folder ≡ b → is_kept f (below folder name) ≡ true → not b ≡ true
    by true out below_kept = absurd (false≢true (sym (ap not (excluded_below f.root f.exclude folder name (word_some name all.0.some) out)) ∙ below_kept))
    by false kept below_kept = refl

module _ (sources : World) where
  module _ (paths : FilesHavePaths sources) where
    step_only : (part : Part) (from to : Path) → IsWord part.text → Contains (one_step sources part from) to → Stepped part from to
    step_only part from to word there = by (is_fixed part) refl there
      where
        by : (b : Bool) → is_fixed part ≡ b → Contains (cond b (below from part.text ∷ []) (filter (λ found. matches part.text (last_part found)) (listed_folders from sources))) to → Stepped part from to
        by true fixed h = record { name = part.text; word = word; match = matches_its_text part fixed; is = single (below from part.text) to h }
        by false loose h =
            let (among, match) = kept_only (λ found. matches part.text (last_part found)) (listed_folders from sources) to h in
            let t = folders_only sources paths from to among in
            record {
              name = t.name;
              word = record { whole = t.whole; some = named_word t.name t.named };
              match = pattern_matches part t.name loose ∙ ap (matches part.text) (sym (last_below from t.name t.whole) ∙ ap last_part t.is) ∙ match;
              is = t.is;
            }

    kept_only_steps : (f : WorkspaceRoot) (part : Part) (from to : Path) → IsWord part.text → Contains (kept_step sources f part from) to → Stepped part from to
    kept_only_steps f part from to word there = step_only part from to word (kept_only (is_kept f) (one_step sources part from) to there).0

    led_only : (f : WorkspaceRoot) (parts : List Part) (folders : List Path) (to : Path) → PartsAreWords parts → Contains (led_to sources f parts folders) to → (from : Path) × Contains folders from × Led parts from to
    led_only f [] folders to all there = (to, there, record { names = []; words = tt; match = refl; is = refl })
    led_only f (part ∷ parts) folders to all there =
        let (mid, among, led) = led_only f parts (flat_map (kept_step sources f part) folders) to all.1 there in
        let (from, first, steps) = flat_only (kept_step sources f part) folders mid among in
        let s = kept_only_steps f part from mid all.0 steps in
        (from, first, record { names = s.name ∷ led.names; words = (s.word, led.words); match = both _ _ s.match led.match; is = ap (λ folder. down folder led.names) s.is ∙ led.is })

  module _ (rest : List ℕ) (some : rest ≢ []) where
    some_joined : (names : List (List ℕ)) → joined names rest ≢ []
    unfolding joined
    some_joined [] = some
    some_joined ([] ∷ names) = λ same. cc
    some_joined ((b ∷ name) ∷ names) = λ same. cc

    step_each : (part : Part) (folder name : List ℕ) (names : List (List ℕ)) → part_matches part name ≡ true → Words (name ∷ names) → has_file (below (down folder (name ∷ names)) rest) sources ≡ true → Contains (one_step sources part folder) (below folder name)
    unfolding joined
    step_each part folder name names match all file = by (is_fixed part) refl
      where
        found : below (down folder (name ∷ names)) rest ≡ below folder (name ++ 47 ∷ joined names rest)
        found = down_joined (name ∷ names) folder rest all

        by : (b : Bool) → is_fixed part ≡ b → Contains (cond b (below folder part.text ∷ []) (filter (λ found. matches part.text (last_part found)) (listed_folders folder sources))) (below folder name)
        by true fixed = subst (λ text. Contains (below folder text ∷ []) (below folder name)) (sym (part_is part name fixed match)) (head (below folder name) [])
        by false loose =
            kept_each (λ found. matches part.text (last_part found)) (listed_folders folder sources) (below folder name)
            (folders_each sources folder name (joined names rest) all.0.whole (goes_below folder (name ++ 47 ∷ joined names rest) (some_joined (name ∷ names))) (ap (λ q. has_file q sources) (sym found) ∙ file))
            (ap (matches part.text) (last_below folder name all.0.whole) ∙ sym (pattern_matches part name loose) ∙ match)

    led_each : (f : WorkspaceRoot) (parts : List Part) (names : List (List ℕ)) (folders : List Path) (from : Path) → is_kept f (down from names) ≡ true → Contains folders from → parts_match parts names ≡ true → Words names → has_file (below (down from names) rest) sources ≡ true → Contains (led_to sources f parts folders) (down from names)
    led_each f [] [] folders from kept there match all file = there
    led_each f [] (name ∷ names) folders from kept there match all file = absurd (false≢true match)
    led_each f (part ∷ parts) [] folders from kept there match all file = absurd (false≢true match)
    led_each f (part ∷ parts) (name ∷ names) folders from kept there match all file =
        led_each f parts names (flat_map (kept_step sources f part) folders) (below from name) kept
        (flat_each (kept_step sources f part) folders from (below from name) there
        (kept_each (is_kept f) (one_step sources part from) (below from name) (step_each part from name names (and_left _ _ match) all file) (kept_above f (below from name) names all.1 kept)))
        (and_right _ _ match) all.1 file

-- a folder that a glob takes
pub record IsTaken (sources : World) (f : WorkspaceRoot) (parts : List Part) (folder : Path) : Type 0 where
  pub path : is_path folder ≡ true
  pub file : has_file (below folder (codes "Cargo.toml")) sources ≡ true
  pub match : parts_match parts (names_in folder) ≡ true
  pub kept : is_excluded f.root f.exclude folder ≡ false

module _ (sources : World) (paths : FilesHavePaths sources) (f : WorkspaceRoot) (text folder : List ℕ) where
  pub taken_only : Contains (folders_taken sources f (parts_meant f.root text)) folder → IsTaken sources f (parts_meant f.root text) folder
  taken_only among =
      let parts = parts_meant f.root text in
      let (before, file) = kept_only (has_manifest sources) (filter (is_kept f) (led_to sources f parts (codes "/" ∷ []))) folder among in
      let (there, kept) = kept_only (is_kept f) (led_to sources f parts (codes "/" ∷ [])) folder before in
      let (from, first, led) = led_only sources paths f parts (codes "/" ∷ []) folder (parts_are_words f.root text) there in
      let whole : folder ≡ path_of led.names = sym led.is ∙ ap (λ s. down s led.names) (sym (single (codes "/") from first)) ∙ down_path led.names led.words in
      record {
        path = ap is_path whole ∙ path_before led.names (codes "Cargo.toml") led.words (ap (λ x. is_path (below x (codes "Cargo.toml"))) (sym whole) ∙ file_path sources paths folder folder (below folder (codes "Cargo.toml")) _ refl file);
        file = file;
        match = ap (λ x. parts_match parts (names_in x)) whole ∙ ap (parts_match parts) (names_again led.names led.words) ∙ led.match;
        kept = off (is_excluded f.root f.exclude folder) kept;
      }

  pub taken_each : IsTaken sources f (parts_meant f.root text) folder → Contains (folders_taken sources f (parts_meant f.root text)) folder
  taken_each is =
      let parts = parts_meant f.root text in
      let (whole, are) = path_named folder is.path in
      let words = named_words (names_in folder) are.named are.whole in
      let same : folder ≡ down (codes "/") (names_in folder) = whole ∙ sym (down_path (names_in folder) words) in
      let led : Contains (led_to sources f parts (codes "/" ∷ [])) folder =
      subst (Contains (led_to sources f parts (codes "/" ∷ []))) (sym same)
      (led_each sources (codes "Cargo.toml") (λ none. cc) f parts (names_in folder) (codes "/" ∷ []) (codes "/") (ap (is_kept f) (sym same) ∙ ap not is.kept) (head (codes "/") []) is.match words (ap (λ x. has_file (below x (codes "Cargo.toml")) sources) (sym same) ∙ is.file)) in
      kept_each (has_manifest sources) (filter (is_kept f) (led_to sources f parts (codes "/" ∷ []))) folder
      (kept_each (is_kept f) (led_to sources f parts (codes "/" ∷ [])) folder led (ap not is.kept)) is.file
