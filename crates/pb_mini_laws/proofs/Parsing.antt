-- What the small compiler takes for libraries among words that stand in groups.
use Rattle.std.proofs.Common.{◌≡◌, ℕ, Bool, true, false, cond, List, [], ◌∷◌, ◌++◌, Option, Some, None, Result, Ok, Err, refl, sym, ◌∙◌, ap, subst, codes, append_assoc}
use Rattle.std.specs.List.{flat_map, AllByRecursion}
use Rattle.std.specs.Str.{bytes_eq}
use Rattle.pb_command.proofs.Ordered.{first_off, second_off}
use Rattle.pb_data.specs.UnlessOom.{◌>>=◌}
use Rattle.pb_data.specs.OrderedSet.{is_mentioned}
use Rattle.pb_data.proofs.MentionLemmas.{bytes_eq_comm}
use Rattle.pb_mini.specs.CommandLine.{takes_value, role_of, role_alone, is_setting, with_value, no_arguments, arguments_after}
use Rattle.pb_mini.specs.declared.command_line.Arguments.{Arguments}
use Rattle.pb_mini.specs.declared.command_line.Role.{Role}
use Rattle.pb_mini.specs.declared.command_line.Role.TheVariants.{CrateName, CrateType, OutDir, Source, Extern, Condition, Unused}

-- what went well at a step went well before it
pub opened : {A B E : Type 0} (first : Result A E) (next : A → Result B E) (y : B) → (first >>= next) ≡ Ok y → (x : A) × (first ≡ Ok x) × (next x ≡ Ok y)
opened (Ok x) next y is = (x, refl, is)
opened (Err e) next y is = absurd (cc)

-- the value of no other option is a library
role_extern : (a b c d e : Bool) → cond a CrateName (cond b CrateType (cond c OutDir (cond d Extern (cond e Condition Unused)))) ≡ Extern → d ≡ true
role_extern true b c d e is = absurd (cc)
role_extern false true c d e is = absurd (cc)
role_extern false false true d e is = absurd (cc)
role_extern false false false true e is = refl
role_extern false false false false true is = absurd (cc)
role_extern false false false false false is = absurd (cc)

module _ (P : List ℕ → Type 0) where
  -- words that, whatever follows them, bring only libraries that are so
  pub record Brings (group : List (List ℕ)) : Type 0 where
    pub tail : (rest : List (List ℕ)) (said : Arguments) → arguments_after None (group ++ rest) ≡ Ok said
        → (later : Arguments) × (arguments_after None rest ≡ Ok later) × (AllByRecursion P later.externs → AllByRecursion P said.externs)

  pub brings_none : Brings []
  brings_none = record { tail = λ rest said is. (said, is, λ all. all) }

  pub brings_both : (a b : List (List ℕ)) → Brings a → Brings b → Brings (a ++ b)
  brings_both a b one other = record {
    tail = λ rest said is.
        let (middle, first, held) = one.tail (b ++ rest) said (ap (arguments_after None) (sym (append_assoc a b rest)) ∙ is) in
        let (later, second, more) = other.tail rest middle first in
        (later, second, λ all. held (more all));
  }

  pub brings_each : {A : Type 0} (f : A → List (List ℕ)) (xs : List A) → ((x : A) → Brings (f x)) → Brings (flat_map f xs)
  brings_each f [] each = brings_none
  brings_each f (x ∷ xs) each = brings_both (f x) (flat_map f xs) (each x) (brings_each f xs each)

  -- a value of one role
  externs_with : (role : Role) (value : List ℕ) (later : Arguments) → (role ≡ Extern → P value) → AllByRecursion P later.externs → AllByRecursion P (with_value role value later).externs
  externs_with Extern value later holds all = (holds refl, all)
  externs_with _ value later holds all = all

  -- an option and its value
  pub brings_option : (name value : List ℕ) → takes_value name ≡ true → (role_of name ≡ Extern → P value) → Brings (name ∷ value ∷ [])
  brings_option name value takes holds = record {
    tail = λ rest said is.
        let after : arguments_after None (name ∷ value ∷ rest) ≡ (arguments_after None rest >>= (λ later. Ok (with_value (role_of name) value later))) =
        ap (λ r. cond r (arguments_after (Some (role_of name)) (value ∷ rest)) (arguments_after None (value ∷ rest) >>= (λ later. Ok (with_value (role_alone name) name later)))) takes in
        let (later, first, made) = opened (arguments_after None rest) (λ later. Ok (with_value (role_of name) value later)) said (sym after ∙ is) in
        let same : with_value (role_of name) value later ≡ said = cc in
        (later, first, λ all. subst (λ (a : Arguments). AllByRecursion P a.externs) same (externs_with (role_of name) value later holds all));
  }

  role_alone_of : (word : List ℕ) → role_alone word ≡ Extern → P word
  role_alone_of word is = by (is_setting word) is
    where
      by : (r : Bool) → cond r Unused Source ≡ Extern → P word
      by true is = absurd (cc)
      by false is = absurd (cc)

  -- a word that is no option
  pub brings_alone : (word : List ℕ) → takes_value word ≡ false → Brings (word ∷ [])
  brings_alone word takes = record {
    tail = λ rest said is.
        let after : arguments_after None (word ∷ rest) ≡ (arguments_after None rest >>= (λ later. Ok (with_value (role_alone word) word later))) =
        ap (λ r. cond r (arguments_after (Some (role_of word)) rest) (arguments_after None rest >>= (λ later. Ok (with_value (role_alone word) word later)))) takes in
        let (later, first, made) = opened (arguments_after None rest) (λ later. Ok (with_value (role_alone word) word later)) said (sym after ∙ is) in
        let same : with_value (role_alone word) word later ≡ said = cc in
        (later, first, λ all. subst (λ (a : Arguments). AllByRecursion P a.externs) same (externs_with (role_alone word) word later (role_alone_of word) all));
  }

  -- words among which `--extern` is not: no libraries
  no_extern : (role : Option Role) (words : List (List ℕ)) (said : Arguments) → (role ≡ Some Extern → ⊥) → is_mentioned words (codes "--extern") ≡ false → arguments_after role words ≡ Ok said → AllByRecursion P said.externs
  no_extern None [] said plain absent is = subst (λ (a : Arguments). AllByRecursion P a.externs) same tt
    where
      same : no_arguments ≡ said
      same = cc
  no_extern (Some role) [] said plain absent is = absurd (cc)
  no_extern (Some role) (value ∷ words) said plain absent is =
      let (later, first, made) = opened (arguments_after None words) (λ later. Ok (with_value role value later)) said is in
      let same : with_value role value later ≡ said = cc in
      subst (λ (a : Arguments). AllByRecursion P a.externs) same
      (externs_with role value later (λ e. absurd (plain (ap Some e))) (no_extern None words later (λ e. cc) (second_off (bytes_eq (codes "--extern") value) (is_mentioned words (codes "--extern")) absent) first))
  no_extern None (word ∷ words) said plain absent is =
      by (takes_value word) refl is (λ role other. no_extern role words said other absent_later) (λ later. no_extern None words later (λ e. cc) absent_later)
    where
      absent_later : is_mentioned words (codes "--extern") ≡ false
      absent_later = second_off (bytes_eq (codes "--extern") word) (is_mentioned words (codes "--extern")) absent

      not_extern : Some (role_of word) ≡ Some Extern → ⊥
      not_extern e =
          let named : bytes_eq word (codes "--extern") ≡ true = role_extern (bytes_eq word (codes "--crate-name")) (bytes_eq word (codes "--crate-type")) (bytes_eq word (codes "--out-dir")) (bytes_eq word (codes "--extern")) (bytes_eq word (codes "--cfg")) cc in
          let other : bytes_eq word (codes "--extern") ≡ false = bytes_eq_comm word (codes "--extern") ∙ first_off (bytes_eq (codes "--extern") word) (is_mentioned words (codes "--extern")) absent in
          absurd (cc)

      by : (r : Bool) → takes_value word ≡ r → cond r (arguments_after (Some (role_of word)) words) (arguments_after None words >>= (λ later. Ok (with_value (role_alone word) word later))) ≡ Ok said
          → ((role : Option Role) → (role ≡ Some Extern → ⊥) → arguments_after role words ≡ Ok said → AllByRecursion P said.externs)
          → ((later : Arguments) → arguments_after None words ≡ Ok later → AllByRecursion P later.externs) → AllByRecursion P said.externs
      by true takes is waiting rest = waiting (Some (role_of word)) not_extern is
      by false takes is waiting rest =
          let (later, first, made) = opened (arguments_after None words) (λ later. Ok (with_value (role_alone word) word later)) said is in
          let same : with_value (role_alone word) word later ≡ said = cc in
          subst (λ (a : Arguments). AllByRecursion P a.externs) same (externs_with (role_alone word) word later (role_alone_of word) (rest later first))

  -- groups, and then words among which `--extern` is not
  pub all_so : (group flags : List (List ℕ)) (said : Arguments) → Brings group → is_mentioned flags (codes "--extern") ≡ false → arguments_after None (group ++ flags) ≡ Ok said → AllByRecursion P said.externs
  all_so group flags said brings absent is =
      let (later, first, held) = brings.tail flags said is in
      held (no_extern None flags later (λ e. cc) absent first)
