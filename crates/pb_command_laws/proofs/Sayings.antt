-- What words say that stand in groups.
use Rattle.std.proofs.Common.{◌≡◌, ℕ, Bool, true, false, cond, List, [], ◌∷◌, ◌++◌, map, refl, sym, ◌∙◌, ap, append_assoc}
use Rattle.std.proofs.lemmas.List.{append-nil, map-append}
use Rattle.std.proofs.lemmas.Grind.{flat_map-append}
use Rattle.std.specs.List.{flat_map}
use Rattle.std.specs.Str.{bytes_eq}
use Rattle.pb_mini.specs.CommandLine.{takes_value}
use Rattle.pb_command_laws.specs.Reading.{said_by, values, words_of_saying, SayingsKeepWords}

-- what words say gives them again
pub sayings_keep_words : SayingsKeepWords
sayings_keep_words [] = refl
sayings_keep_words (word ∷ []) = refl
sayings_keep_words (word ∷ value ∷ words) = by word (takes_value word) refl (sayings_keep_words words) (sayings_keep_words (value ∷ words))
  where
    again : List (List ℕ × List ℕ) → List (List ℕ)
    again said = flat_map (λ (saying : List ℕ × List ℕ). words_of_saying saying.0 saying.1) said

    by : (option : List ℕ) (r : Bool) → takes_value option ≡ r → again (said_by words) ≡ words → again (said_by (value ∷ words)) ≡ value ∷ words
        → again (cond r ((option, value) ∷ said_by words) (([], option) ∷ said_by (value ∷ words))) ≡ option ∷ value ∷ words
    by option false is behind one = ap (λ more. option ∷ more) one
    by [] true is behind one = absurd (cc)
    by (byte ∷ option) true is behind one = ap (λ more. (byte ∷ option) ∷ value ∷ more) behind

-- the values of one option
abbrev pub under : List ℕ → List (List ℕ) → List (List ℕ × List ℕ)
under option given = map (λ value. (option, value)) given

-- options, each with values
abbrev pub Group : Type 0
Group = List ℕ × List (List ℕ)

abbrev pub all_under : List Group → List (List ℕ × List ℕ)
all_under groups = flat_map (λ (group : Group). under group.0 group.1) groups

-- words that, whatever follows them, say this
abbrev pub Reads : List (List ℕ) → List (List ℕ × List ℕ) → Type 0
Reads words said = (rest : List (List ℕ)) → said_by (words ++ rest) ≡ said ++ said_by rest

pub reads_both : (a b : List (List ℕ)) (s t : List (List ℕ × List ℕ)) → Reads a s → Reads b t → Reads (a ++ b) (s ++ t)
reads_both a b s t one other rest =
    ap said_by (append_assoc a b rest) ∙ one (b ++ rest) ∙ ap (λ more. s ++ more) (other rest) ∙ sym (append_assoc s t (said_by rest))

reads_option : (option value : List ℕ) → takes_value option ≡ true → Reads (option ∷ value ∷ []) ((option, value) ∷ [])
reads_option option value takes rest = ap (λ r. cond r ((option, value) ∷ said_by rest) (([], option) ∷ said_by (value ∷ rest))) takes

reads_alone : (word : List ℕ) → takes_value word ≡ false → Reads (word ∷ []) (([], word) ∷ [])
reads_alone word takes [] = refl
reads_alone word takes (value ∷ rest) = ap (λ r. cond r ((word, value) ∷ said_by rest) (([], word) ∷ said_by (value ∷ rest))) takes

-- words that give an option these values, and say nothing else
pub record Gives (words : List (List ℕ)) (option : List ℕ) (given : List (List ℕ)) : Type 0 where
  pub reads : Reads words (under option given)

pub gives_none : (option : List ℕ) → Gives [] option []
gives_none option = record { reads = λ rest. refl }

pub gives_one : (option value : List ℕ) → takes_value option ≡ true → Gives (option ∷ value ∷ []) option (value ∷ [])
gives_one option value takes = record { reads = reads_option option value takes }

pub gives_alone : (word : List ℕ) → takes_value word ≡ false → Gives (word ∷ []) [] (word ∷ [])
gives_alone word takes = record { reads = reads_alone word takes }

pub gives_both : (a b : List (List ℕ)) (option : List ℕ) (x y : List (List ℕ)) → Gives a option x → Gives b option y → Gives (a ++ b) option (x ++ y)
gives_both a b option x y one other = record {
  reads = λ rest. reads_both a b (under option x) (under option y) one.reads other.reads rest ∙ ap (λ said. said ++ said_by rest) (sym (map-append (λ value. (option, value)) x y));
}

pub gives_each : {A : Type 0} (option : List ℕ) (f g : A → List (List ℕ)) (xs : List A) → ((x : A) → Gives (f x) option (g x)) → Gives (flat_map f xs) option (flat_map g xs)
gives_each option f g [] each = gives_none option
gives_each option f g (x ∷ xs) each = gives_both (f x) (flat_map f xs) option (g x) (flat_map g xs) (each x) (gives_each option f g xs each)

pub gives_same : (words : List (List ℕ)) (option : List ℕ) (x y : List (List ℕ)) → x ≡ y → Gives words option x → Gives words option y
gives_same words option x y same gives = record { reads = λ rest. gives.reads rest ∙ ap (λ given. under option given ++ said_by rest) same }

-- words that say these groups
pub record Says (words : List (List ℕ)) (groups : List Group) : Type 0 where
  pub reads : Reads words (all_under groups)

pub says_none : Says [] []
says_none = record { reads = λ rest. refl }

pub says_one : (words : List (List ℕ)) (option : List ℕ) (given : List (List ℕ)) → Gives words option given → Says words ((option, given) ∷ [])
says_one words option given gives = record { reads = λ rest. gives.reads rest ∙ ap (λ said. said ++ said_by rest) (sym (append-nil (under option given))) }

pub says_both : (a b : List (List ℕ)) (x y : List Group) → Says a x → Says b y → Says (a ++ b) (x ++ y)
says_both a b x y one other = record {
  reads = λ rest. reads_both a b (all_under x) (all_under y) one.reads other.reads rest ∙ ap (λ said. said ++ said_by rest) (sym (flat_map-append (λ (group : Group). under group.0 group.1) x y));
}

-- and nothing of one option more
pub says_nothing : (words : List (List ℕ)) (groups : List Group) (option : List ℕ) → Says words groups → Says words (groups ++ (option, []) ∷ [])
says_nothing words groups option says = record {
  reads = λ rest.
      says.reads rest
      ∙ ap (λ said. said ++ said_by rest) (sym (append-nil (all_under groups)) ∙ sym (flat_map-append (λ (group : Group). under group.0 group.1) groups ((option, []) ∷ [])));
}

-- what an option is given by groups
values-append : (option : List ℕ) (a b : List (List ℕ × List ℕ)) → values option (a ++ b) ≡ values option a ++ values option b
values-append option [] b = refl
values-append option (saying ∷ a) b = by (bytes_eq option saying.0) (values-append option a b)
  where
    by : (r : Bool) → values option (a ++ b) ≡ values option a ++ values option b
        → cond r (saying.1 ∷ values option (a ++ b)) (values option (a ++ b)) ≡ cond r (saying.1 ∷ values option a) (values option a) ++ values option b
    by true later = ap (λ vs. saying.1 ∷ vs) later
    by false later = later

values-under : (option other : List ℕ) (given : List (List ℕ)) → values option (under other given) ≡ cond (bytes_eq option other) given []
values-under option other given = by (bytes_eq option other) refl
  where
    all : (vs : List (List ℕ)) → bytes_eq option other ≡ true → values option (under other vs) ≡ vs
    all [] is = refl
    all (v ∷ vs) is = ap (λ r. cond r (v ∷ values option (under other vs)) (values option (under other vs))) is ∙ ap (λ ws. v ∷ ws) (all vs is)

    none : (vs : List (List ℕ)) → bytes_eq option other ≡ false → values option (under other vs) ≡ []
    none [] is = refl
    none (v ∷ vs) is = ap (λ r. cond r (v ∷ values option (under other vs)) (values option (under other vs))) is ∙ none vs is

    by : (r : Bool) → bytes_eq option other ≡ r → values option (under other given) ≡ cond (bytes_eq option other) given []
    by true is = all given is ∙ ap (λ r. cond r given []) (sym is)
    by false is = none given is ∙ ap (λ r. cond r given []) (sym is)

-- the values of those groups that are of the option
abbrev pub values_in : List ℕ → List Group → List (List ℕ)
values_in option groups = flat_map (λ (group : Group). cond (bytes_eq option group.0) group.1 []) groups

pub values-groups : (option : List ℕ) (groups : List Group) → values option (all_under groups) ≡ values_in option groups
values-groups option [] = refl
values-groups option (group ∷ groups) =
    values-append option (under group.0 group.1) (all_under groups)
    ∙ ap (λ vs. vs ++ values option (all_under groups)) (values-under option group.0 group.1)
    ∙ ap (λ vs. cond (bytes_eq option group.0) group.1 [] ++ vs) (values-groups option groups)
