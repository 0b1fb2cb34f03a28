-- The world over many folders.
use Rattle.std.proofs.Common.{◌≡◌, ◌≢◌, ◌==◌, ◌&&◌, ◌∙◌, ◌++◌, ◌||◌, Bool, true, false, not, List, [], ◌∷◌, ℕ, cond, Option, Some, None, refl, sym, ap, subst, inl, inr}
use Rattle.std.proofs.lemmas.Bool.{cases_Bool, false≢true}
use Rattle.std.specs.FinMap.{get, insert, empty, entries, get-empty, get-insert, get-entries, get-from_entries, find, same_map}
use Rattle.std.specs.Cmp.Lexicographic.{slice_cmp, nat_list_cmp_total}
use Rattle.std.specs.Ordering.{nat_cmp, eq_by_cmp}
use Rattle.std.specs.List.{list_any, list_all}
use Rattle.std.specs.Str.{bytes_eq}
use Rattle.pb_place_types.specs.Paths.{below, is_name, is_relative, is_below, is_at_or_below}
use Rattle.pb_place_types.specs.World.{World, Map, ChangesOnly, ChangesOnlyIn, ChangesOnlyInSome, PartlyRemoved, Torn, is_shown, removed, written, from_nothing, put_files}
use Rattle.pb_place_types.specs.Folders.{files_in, over, first_of, folders_over, NamedFoldersLieApart, FoldersAgree, FolderStays, SourcesStayed, ChangesJoin, ChangesWiden, LooksOver, LooksIn, LooksAtSources, LooksThrough, SeesSources, SeesFolders, SeesAlike, StandAlone}
use Rattle.pb_place_types.specs.declared.command.Command.{Command}
use Rattle.pb_place_types.proofs.MapLemmas.{exact, get-kept}
use Rattle.pb_place_types.proofs.PathLemmas.{below_is_path}
use Rattle.pb_place_types.proofs.TakenApart.{parts_lone}
use Rattle.pb_place_types.proofs.Within.{at_below, names_lie_apart, share_no_path, outside_within}
use Rattle.pb_place_types.proofs.Worlds.{AgreeBut-removed, AgreeBut-written, apart_by}

-- two worlds with the same files and variables are one
pub same_world : (v w : World) → v.files ≡ w.files → v.variables ≡ w.variables → v ≡ w
same_world v w files variables = ap (λ (m : Map). record { files = m; variables = v.variables }) files ∙ ap (λ (n : Map). record { files = w.files; variables = n }) variables

-- the same look-ups make the same files in a folder
pub files_alike : (folder : List ℕ) (m n : Map) → ((q : List ℕ) → is_below folder q ≡ true → get m q ≡ get n q) → files_in folder m ≡ files_in folder n
files_alike folder m n alike = same_map nat_list_cmp_total exact _ _ (λ q.
    get-kept m (is_below folder) q ∙ elim (cases_Bool (is_below folder q)) [
      | inl inside ↦ ap (λ x. cond (is_below folder q) x None) (alike q inside)
      | inr outside ↦ ap (λ b. cond b (get m q) None) outside ∙ sym (ap (λ b. cond b (get n q) None) outside)
    ] ∙ sym (get-kept n (is_below folder) q))

-- and the same sources
pub sources_alike : (target : List ℕ) (old new : World) → ((q : List ℕ) → is_at_or_below target q ≡ false → get new.files q ≡ get old.files q) → new.variables ≡ old.variables → from_nothing target new ≡ from_nothing target old
sources_alike target old new alike variables = same_world _ _ (same_map nat_list_cmp_total exact _ _ (λ q.
    get-kept new.files (λ p. not (is_at_or_below target p)) q ∙ elim (cases_Bool (is_at_or_below target q)) [
      | inl at ↦ ap (λ b. cond (not b) (get new.files q) None) at ∙ sym (ap (λ b. cond (not b) (get old.files q) None) at)
      | inr outside ↦ ap (λ x. cond (not (is_at_or_below target q)) x None) (alike q outside)
    ] ∙ sym (get-kept old.files (λ p. not (is_at_or_below target p)) q))) variables

-- a name without a slash is a relative path
name_relative : (name : List ℕ) → is_name name ≡ true → list_any (λ b. b == 47) name ≡ false → is_relative name ≡ true
name_relative name named plain = ap (list_all is_name) (parts_lone name plain) ∙ ap (λ b. b && true) named

name_some : (name : List ℕ) → is_name name ≡ true → name ≢ []
name_some name named e = absurd (false≢true (sym (ap is_name e) ∙ named))

pub named_folders_lie_apart : NamedFoldersLieApart
named_folders_lie_apart folder name other is named other_named plain other_plain apart = record {
  first = below_is_path folder name (below folder name) is (name_relative name named plain) refl;
  second = below_is_path folder other (below folder other) is (name_relative other other_named other_plain) refl;
  not_below_first = names_lie_apart folder name other (name_some name named) other_plain apart;
  not_below_second = names_lie_apart folder other name (name_some other other_named) plain (λ e. apart (sym e));
}

pub folder_stays : FolderStays
folder_stays f g old new apart only = files_alike f new.files old.files (λ q inside.
    only.files q (share_no_path f g q apart.first apart.second apart.not_below_first apart.not_below_second (at_below f q inside)))

pub sources_stayed : SourcesStayed
sources_stayed target folder old new inside only = sources_alike target old new (λ q outside. only.files q (outside_within target folder q inside outside)) only.variables

pub changes_join : ChangesJoin
changes_join folder old mid new one two = record { variables = two.variables ∙ one.variables; files = λ q outside. two.files q outside ∙ one.files q outside }

pub changes_widen : ChangesWiden
changes_widen above folder old new inside only = record { variables = only.variables; files = λ q outside. only.files q (outside_within above folder q inside outside) }

-- where nothing, a write, a removal, one of either that failed, and a start change files
pub only_same : (may : List ℕ → Bool) (w : World) → ChangesOnly may w w
only_same may w = record { variables = refl; files = λ q outside. refl }

pub only_removed : (folder : List ℕ) (old new : World) → new ≡ removed folder old → ChangesOnly (is_at_or_below folder) old new
only_removed folder old new is = record { variables = ap (λ w. w.variables) is; files = AgreeBut-removed folder old new is }

pub only_partly : (folder : List ℕ) (old new : World) → PartlyRemoved folder old new → ChangesOnly (is_at_or_below folder) old new
only_partly folder old new partly = record { variables = partly.variables; files = partly.files.only }

pub only_written : (folder path bytes : List ℕ) (old new : World) → is_at_or_below folder path ≡ true → new ≡ written path bytes old → ChangesOnly (is_at_or_below folder) old new
only_written folder path bytes old new inside is = record {
  variables = ap (λ w. w.variables) is;
  files = λ q outside. AgreeBut-written path bytes old new is q (apart_by (is_at_or_below folder) path q inside outside);
}

pub only_torn : (folder path bytes : List ℕ) (old new : World) → is_at_or_below folder path ≡ true → Torn path bytes old new → ChangesOnly (is_at_or_below folder) old new
only_torn folder path bytes old new inside torn = record {
  variables = torn.variables;
  files = λ q outside. torn.files.only q (apart_by (is_at_or_below folder) path q inside outside);
}

or_second : (a b : Bool) → a || b ≡ false → b ≡ false
or_second true b h = absurd (false≢true (sym h))
or_second false b h = h

pub only_inside : (folder : List ℕ) (old new : World) → ChangesOnlyIn folder old new → ChangesOnly (is_at_or_below folder) old new
unfolding is_at_or_below
only_inside folder old new only = record { variables = only.variables; files = λ q outside. only.files q (or_second (bytes_eq folder q) (is_below folder q) outside) }

pub only_started : (folder : List ℕ) (out : Option (List ℕ)) (old new : World) → out ≡ Some folder → ChangesOnlyInSome out old new → ChangesOnly (is_at_or_below folder) old new
only_started folder out old new is only = only_inside folder old new (subst (λ (o : Option (List ℕ)). ChangesOnlyInSome o old new) is only)

pub ruleset change_laws = (only_same, only_removed, only_partly, only_written, only_torn, only_inside, only_started, changes_join, changes_widen)

-- one map over another
find-append : (q : List ℕ) (xs ys : List (List ℕ × List ℕ)) → find (slice_cmp nat_cmp) q (xs ++ ys) ≡ first_of (find (slice_cmp nat_cmp) q xs) (find (slice_cmp nat_cmp) q ys)
find-append q [] ys = refl
find-append q (e ∷ xs) ys = chosen (eq_by_cmp (slice_cmp nat_cmp) q e.0) e.1 _ _ _ (find-append q xs ys)
  where
    chosen : (b : Bool) (v : List ℕ) (whole front back : Option (List ℕ)) → whole ≡ first_of front back → cond b (Some v) whole ≡ first_of (cond b (Some v) front) back
    chosen true v whole front back is = refl
    chosen false v whole front back is = is

pub get-over : LooksOver
get-over m n q =
    get-from_entries nat_list_cmp_total (entries m ++ entries n) q ∙ find-append q (entries m) (entries n)
    ∙ ap (λ (x : Option (List ℕ)). first_of x (find (slice_cmp nat_cmp) q (entries n))) (sym (get-entries m q)) ∙ ap (first_of (get m q)) (sym (get-entries n q))

pub get-files_in : LooksIn
get-files_in folder m q = get-kept m (is_below folder) q

unless : {A : Type 0} (b : Bool) (x y : A) → cond (not b) x y ≡ cond b y x
unless true x y = refl
unless false x y = refl

pub get-sources : LooksAtSources
get-sources target w q = get-kept w.files (λ p. not (is_at_or_below target p)) q ∙ unless (is_at_or_below target q) (get w.files q) None

pub get-seen : LooksThrough
get-seen c w q = get-kept w.files (is_shown c) q

-- what is shown
shown_alone : (c : Command) (q : List ℕ) → c.reads ≡ [] → is_shown c q ≡ not (is_at_or_below c.target q)
unfolding is_shown
shown_alone c q none = ap (λ (fs : List (List ℕ)). not (is_at_or_below c.target q) || list_any (λ folder. is_below folder q) fs) none ∙ or_false (not (is_at_or_below c.target q))
  where
    or_false : (b : Bool) → b || false ≡ b
    or_false true = refl
    or_false false = refl

pub sees_sources : SeesSources
sees_sources c w none = same_world _ _ (same_map nat_list_cmp_total exact _ _ (λ q.
    get-kept w.files (is_shown c) q ∙ ap (λ b. cond b (get w.files q) None) (shown_alone c q none) ∙ sym (get-kept w.files (λ p. not (is_at_or_below c.target p)) q))) refl

-- two parts of one map are a part of it
parts : {A : Type 0} (b outside more : Bool) (x : Option A) → first_of (cond b x None) (cond (outside || more) x None) ≡ cond (outside || (b || more)) x None
parts true true more (Some x) = refl
parts true false more (Some x) = refl
parts true true more None = refl
parts true false true None = refl
parts true false false None = refl
parts false outside more x = refl

or_false : (b : Bool) → b ≡ b || false
or_false true = refl
or_false false = refl

get-folders : (target : List ℕ) (folders : List (List ℕ)) (w : World) (q : List ℕ)
    → get (folders_over folders w.files (from_nothing target w).files) q ≡ cond (not (is_at_or_below target q) || list_any (λ folder. is_below folder q) folders) (get w.files q) None
get-folders target [] w q = get-kept w.files (λ x. not (is_at_or_below target x)) q ∙ ap (λ b. cond b (get w.files q) None) (or_false (not (is_at_or_below target q)))
get-folders target (f ∷ folders) w q =
    get-over (files_in f w.files) (folders_over folders w.files (from_nothing target w).files) q
    ∙ ap (λ (x : Option (List ℕ)). first_of x (get (folders_over folders w.files (from_nothing target w).files) q)) (get-kept w.files (is_below f) q)
    ∙ ap (first_of (cond (is_below f q) (get w.files q) None)) (get-folders target folders w q)
    ∙ parts (is_below f q) (not (is_at_or_below target q)) (list_any (λ folder. is_below folder q) folders) (get w.files q)

pub sees_folders : SeesFolders
unfolding is_shown
sees_folders c w = same_world _ _ (same_map nat_list_cmp_total exact _ _ (λ q. get-kept w.files (is_shown c) q ∙ sym (get-folders c.target c.reads w q))) refl

folders_alike : (folders : List (List ℕ)) (v w : World) (m n : Map) → m ≡ n → FoldersAgree folders v w → folders_over folders v.files m ≡ folders_over folders w.files n
folders_alike [] v w m n same agree = same
folders_alike (f ∷ folders) v w m n same agree =
    ap (λ (x : Map). over x (folders_over folders v.files m)) agree.0 ∙ ap (over (files_in f w.files)) (folders_alike folders v w m n same agree.1)

pub sees_alike : SeesAlike
sees_alike c v w sources agree =
    sees_folders c v
    ∙ same_world _ _ (folders_alike c.reads v w _ _ (ap (λ (x : World). x.files) sources) agree) (ap (λ (x : World). x.variables) sources)
    ∙ sym (sees_folders c w)

-- files put over two worlds that agree at a path
put_alike : (folder q : List ℕ) (files : List (List ℕ × List ℕ)) (m n : Map) → get m q ≡ get n q → get (put_files folder files m) q ≡ get (put_files folder files n) q
put_alike folder q [] m n same = same
put_alike folder q (f ∷ files) m n same = put_alike folder q files (insert m (below folder f.0) f.1) (insert n (below folder f.0) f.1)
    (get-insert nat_list_cmp_total m (below folder f.0) f.1 q ∙ ap (cond (eq_by_cmp (slice_cmp nat_cmp) q (below folder f.0)) (Some f.1)) same
    ∙ sym (get-insert nat_list_cmp_total n (below folder f.0) f.1 q))

pub stand_alone : StandAlone
stand_alone out files w = files_alike out (put_files out files (removed out w).files) (put_files out files empty) (λ q inside.
    put_alike out q files (removed out w).files empty
    (get-kept w.files (λ x. not (is_at_or_below out x)) q ∙ ap (λ b. cond (not b) (get w.files q) None) (at_below out q inside) ∙ sym (get-empty (slice_cmp nat_cmp) q)))

pub ruleset look_laws = (get-over, get-files_in, get-sources, get-seen)
