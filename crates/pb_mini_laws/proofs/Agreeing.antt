-- Where two worlds are the same at the inputs that were found, they are the same at all that was read.
use Rattle.std.proofs.Common.{◌≡◌, ◌==◌, ℕ, Bool, true, false, not, ◌&&◌, cond, List, [], ◌∷◌, ◌++◌, Option, Some, None, Ok, refl, sym, ◌∙◌, ap, subst, map}
use Rattle.std.proofs.lemmas.Slice.Eq.{bytes_eq-Decides}
use Rattle.std.specs.FinMap as finite
use Rattle.std.specs.Str.{bytes_eq}
use Rattle.std.specs.List.{AllByRecursion, filter, find, list_any, flat_map}
use Rattle.pb_data.specs.OrderedSet.{is_mentioned}
use Rattle.pb_data.specs.Table.{value_at, table_of}
use Rattle.pb_data.proofs.MentionLemmas.{is_mentioned-once}
use Rattle.pb_data.proofs.TableLemmas.{value-table_of}
use Rattle.pb_place_types.specs.Paths.{is_path, is_relative, is_absolute, joined, parsed, is_below, is_at_or_below}
use Rattle.pb_place_types.specs.World.{World}
use Rattle.pb_place_types.specs.declared.command.Command.{Command}
use Rattle.pb_place_types.proofs.PathLemmas.{parsed_path}
use Rattle.pb_command_reply.specs.Answers.{path_or_none, path_said, paths_from, is_foreign, is_source, unless_foreign, sources_in, inputs_of, inherited}
use Rattle.pb_record.specs.declared.record.InputName.{InputName}
use Rattle.pb_record.specs.declared.record.InputName.TheVariants.{Path, Variable}
use Rattle.pb_mini.specs.Honesty.{SameFile}
use Rattle.pb_mini_laws.proofs.Mentioning.{or_left, among_kept, one_among, among_each, not_named}
use Rattle.pb_mini_laws.proofs.Parsing.{opened}

all_first : {A : Type 0} (P : A → Type 0) (xs ys : List A) → AllByRecursion P (xs ++ ys) → AllByRecursion P xs
all_first P [] ys all = tt
all_first P (x ∷ xs) ys all = (all.0, all_first P xs ys all.1)

all_second : {A : Type 0} (P : A → Type 0) (xs ys : List A) → AllByRecursion P (xs ++ ys) → AllByRecursion P ys
all_second P [] ys all = all
all_second P (x ∷ xs) ys all = all_second P xs ys all.1

all_mapped : {A B : Type 0} (P : B → Type 0) (f : A → B) (xs : List A) → AllByRecursion P (map f xs) → AllByRecursion (λ x. P (f x)) xs
all_mapped P f [] all = tt
all_mapped P f (x ∷ xs) all = (all.0, all_mapped P f xs all.1)

not_false : (x : Bool) → x ≡ false → not x ≡ true
not_false x is = ap not is

false_not : (x : Bool) → not x ≡ false → x ≡ true
false_not true is = refl
false_not false is = absurd (cc)

both_false : (x y : Bool) → x ≡ true → (x && y) ≡ false → y ≡ false
both_false x y is none = ap (λ r. r && y) (sym is) ∙ none

-- two views have the same at an input: the same file at a path, the same value of a variable
abbrev pub SameInput : World → World → InputName → Type 0
SameInput v w (Path path) = SameFile v w path
SameInput v w (Variable name) = finite.get w.variables name ≡ finite.get v.variables name

-- and the same in the target folder, of which each shows what lies below the folders that the command may read
pub record SameAround (c : Command) (v w : World) : Type 0 where
  pub target : (path : List ℕ) → is_at_or_below c.target path ≡ true → SameFile v w path
  pub below : (path : List ℕ) → list_any (λ folder. is_below folder path) c.reads ≡ true → SameFile v w path

module _ (c : Command) (v w : World) (around : SameAround c v w) where
  abbrev Same : InputName → Type 0
  Same = SameInput v w

  sources_told : (paths sources : List (List ℕ)) → sources_in c paths ≡ Ok sources → (find (is_foreign c) paths ≡ None) × (filter (is_source c) paths ≡ sources)
  sources_told paths sources is = by (find (is_foreign c) paths) refl is
    where
      by : (r : Option (List ℕ)) → find (is_foreign c) paths ≡ r → unless_foreign r (filter (is_source c) paths) ≡ Ok sources → (find (is_foreign c) paths ≡ None) × (filter (is_source c) paths ≡ sources)
      by None none is = (none, cc)
      by (Some path) none is = absurd (cc)

  is_source_there : (path : List ℕ) → is_at_or_below c.target path ≡ false → is_source c path ≡ true
  unfolding is_source
  is_source_there path outside = not_false (is_at_or_below c.target path) outside

  pub same_paths : (paths variables : List (List ℕ)) (inputs : List InputName) → inputs_of c paths variables ≡ Ok inputs → AllByRecursion Same inputs → (path : List ℕ) → is_mentioned paths path ≡ true → SameFile v w path
  same_paths paths variables inputs is same path among =
      let (sources, told, made) = opened (sources_in c paths) (λ sources. Ok (map Path sources ++ map Variable variables)) inputs is in
      let (none, kept) = sources_told paths sources told in
      let listed : map Path sources ++ map Variable variables ≡ inputs = cc in
      let all : AllByRecursion (λ p. Same (Path p)) sources = all_mapped Same Path sources (all_first Same (map Path sources) (map Variable variables) (subst (AllByRecursion Same) (sym listed) same)) in
      by sources none kept all (is_at_or_below c.target path) refl
    where
      by : (sources : List (List ℕ)) → find (is_foreign c) paths ≡ None → filter (is_source c) paths ≡ sources → AllByRecursion (λ p. Same (Path p)) sources → (r : Bool) → is_at_or_below c.target path ≡ r → SameFile v w path
      by sources none kept all true inside = around.target path inside
      by sources none kept all false outside =
          one_among (λ p. Same (Path p)) sources path all (ap (λ ts. is_mentioned ts path) (sym kept) ∙ among_kept (is_source c) paths path among (is_source_there path outside))

  pub same_variables : (paths variables : List (List ℕ)) (inputs : List InputName) → inputs_of c paths variables ≡ Ok inputs → AllByRecursion Same inputs
      → (name : List ℕ) → is_mentioned variables name ≡ true → finite.get w.variables name ≡ finite.get v.variables name
  same_variables paths variables inputs is same name among =
      let (sources, told, made) = opened (sources_in c paths) (λ sources. Ok (map Path sources ++ map Variable variables)) inputs is in
      let listed : map Path sources ++ map Variable variables ≡ inputs = cc in
      one_among (λ n. finite.get w.variables n ≡ finite.get v.variables n) variables name
      (all_mapped Same Variable variables (all_second Same (map Path sources) (map Variable variables) (subst (AllByRecursion Same) (sym listed) same))) among

-- an absolute path among some texts is among the paths that they say
pub said_itself : (folder path : List ℕ) → is_path path ≡ true → is_mentioned (path_said folder path) path ≡ true
unfolding path_said
said_itself folder path is = ap (λ r. is_mentioned (path_or_none r) path) (whole ∙ parsed_path path is) ∙ same
  where
    begins : (p : List ℕ) → is_path p ≡ true → is_absolute p ≡ true
    begins [] e = absurd (cc)
    begins (b ∷ []) e = e
    begins (b ∷ d ∷ rest) e = first (b == 47) (is_relative (d ∷ rest)) e
      where
        first : (r s : Bool) → (r && s) ≡ true → r ≡ true
        first true s e = refl
        first false s e = absurd (cc)

    whole : joined folder path ≡ parsed path
    whole = ap (λ r. parsed (cond r path (folder ++ 47 ∷ path))) (begins path is)

    same : is_mentioned (path ∷ []) path ≡ true
    same = or_left (bytes_eq path path) false ((bytes_eq-Decides path path).1 refl)

pub among_paths : (folder : List ℕ) (words : List (List ℕ)) (path : List ℕ) → is_path path ≡ true → is_mentioned words path ≡ true → is_mentioned (paths_from folder words) path ≡ true
among_paths folder words path is among = is_mentioned-once (flat_map (path_said folder) words) path ∙ among_each (path_said folder) words path path among (said_itself folder path is)

-- a variable that is no pair of the command is asked of the world
pub among_inherited : (c : Command) (names : List (List ℕ)) (name : List ℕ) → is_mentioned names name ≡ true → value_at name (table_of c.pairs) ≡ None → is_mentioned (inherited c names) name ≡ true
among_inherited c names name among none =
    among_kept (λ other. not (is_mentioned (map (λ (pair : List ℕ × List ℕ). pair.0) c.pairs) other)) names name among
    (not_false (is_mentioned (map (λ (pair : List ℕ × List ℕ). pair.0) c.pairs) name) (not_named name c.pairs (sym (value-table_of c.pairs name) ∙ none)))
