-- Each key says what it says, or refuses its value.
use Rattle.std.proofs.Common.{inl, inr, ◌≡◌, ◌≢◌, ◌⊎◌, ℕ, not, Bool, true, false, List, [], ◌∷◌, Option, None, Some, Ok, Err, Result, refl, sym, ◌∙◌, ap, subst, if◌then◌else◌, codes}
use Rattle.std.proofs.lemmas.Slice.Eq.{bytes_eq-Decides}
use Rattle.std.specs.Str.{bytes_eq}
use Rattle.pb_data.specs.UnlessOom.{◌>>=◌}
use Rattle.pb_directive.proofs.SettingLemmas.{plain_so, plain_view, filled_so, filled_view, variable_so, variable_view, halves_so, halves_view, named_so, named_view, flags_so, flags_view}
use Rattle.pb_directive.specs.Directives.{plain, filled, variable, named_value, words_of, flags_of, key_of, new_key_of, one, directives_at}
use Rattle.pb_directive.specs.LineWords as words
use Rattle.pb_directive.specs.LineWords.{IsPlain, IsSaid, IsSaidNew, problem_at}
use Rattle.pb_directive.specs.declared.directive.Directive.{Directive}
use Rattle.pb_directive.specs.declared.directive.Directive.TheVariants as says
use Rattle.pb_directive.specs.declared.directive.Key.{Key}
use Rattle.pb_directive.specs.declared.directive.Key.TheVariants as key
use Rattle.pb_directive.specs.declared.fault.Problem.{Problem}
use Rattle.pb_directive.specs.declared.fault.Problem.TheVariants as problem

abbrev Answer : Type 0
Answer = Result (List Directive) Problem

-- the name of a key
abbrev pub name_of : Key → List ℕ
name_of key.RerunIfChanged = codes "rerun-if-changed"
name_of key.RerunIfEnvChanged = codes "rerun-if-env-changed"
name_of key.LinkArg = codes "rustc-link-arg"
name_of key.LinkArgBins = codes "rustc-link-arg-bins"
name_of key.LinkArgCdylib = codes "rustc-link-arg-cdylib"
name_of key.LinkArgTests = codes "rustc-link-arg-tests"
name_of key.LinkArgExamples = codes "rustc-link-arg-examples"
name_of key.LinkArgBenches = codes "rustc-link-arg-benches"
name_of key.LinkArgBin = codes "rustc-link-arg-bin"
name_of key.LinkLib = codes "rustc-link-lib"
name_of key.LinkSearch = codes "rustc-link-search"
name_of key.Cfg = codes "rustc-cfg"
name_of key.CheckCfg = codes "rustc-check-cfg"
name_of key.Flags = codes "rustc-flags"
name_of key.Env = codes "rustc-env"
name_of key.Metadata = codes "metadata"
name_of key.Warning = codes "warning"
name_of key.Error = codes "error"

-- What is said is read.

pub record IsKeySaid (name value : List ℕ) (said : List Directive) : Type 0 where
  pub k : Key
  pub old : key_of name ≡ Some k
  pub new : new_key_of name ≡ Some k
  pub read : directives_at k value ≡ Ok said

abbrev then_one : (List ℕ → Directive) → Result (List ℕ) Problem → Answer
then_one make form = form >>= (λ x. one (make x))

abbrev then_pair : (List ℕ → List ℕ → Directive) → Result (List ℕ × List ℕ) Problem → Answer
then_pair make form = form >>= (λ p. one (make p.0 p.1))

pub said_at : (name value : List ℕ) (said : List Directive) → IsSaid name value said → IsKeySaid name value said
said_at _ _ _ (words.rerun_if_changed path is) = record { k = key.RerunIfChanged; old = refl; new = refl; read = ap (then_one says.RerunIfChanged) (filled_so path is) }
said_at _ _ _ (words.rerun_if_env_changed name is whole) = record { k = key.RerunIfEnvChanged; old = refl; new = refl; read = ap (then_one says.RerunIfEnvChanged) (variable_so name is whole) }
said_at _ _ _ (words.link_arg flag is) = record { k = key.LinkArg; old = refl; new = refl; read = ap (then_one says.LinkArg) (plain_so flag is) }
said_at _ _ _ (words.link_arg_bins flag is) = record { k = key.LinkArgBins; old = refl; new = refl; read = ap (then_one says.LinkArgBins) (plain_so flag is) }
said_at _ _ _ (words.link_arg_cdylib flag is) = record { k = key.LinkArgCdylib; old = refl; new = refl; read = ap (then_one says.LinkArgCdylib) (plain_so flag is) }
said_at _ _ _ (words.link_arg_tests flag is) = record { k = key.LinkArgTests; old = refl; new = refl; read = ap (then_one says.LinkArgTests) (plain_so flag is) }
said_at _ _ _ (words.link_arg_examples flag is) = record { k = key.LinkArgExamples; old = refl; new = refl; read = ap (then_one says.LinkArgExamples) (plain_so flag is) }
said_at _ _ _ (words.link_arg_benches flag is) = record { k = key.LinkArgBenches; old = refl; new = refl; read = ap (then_one says.LinkArgBenches) (plain_so flag is) }
said_at _ _ _ (words.link_arg_bin binary flag whole is) = record { k = key.LinkArgBin; old = refl; new = refl; read = ap (then_pair says.LinkArgBin) (halves_so binary flag whole is) }
said_at _ _ _ (words.link_lib name is) = record { k = key.LinkLib; old = refl; new = refl; read = ap (then_one says.LinkLib) (filled_so name is) }
said_at _ _ _ (words.link_search folder is) = record { k = key.LinkSearch; old = refl; new = refl; read = ap (then_one says.LinkSearch) (filled_so folder is) }
said_at _ _ _ (words.cfg condition is) = record { k = key.Cfg; old = refl; new = refl; read = ap (then_one says.Cfg) (filled_so condition is) }
said_at _ _ _ (words.check_cfg condition is) = record { k = key.CheckCfg; old = refl; new = refl; read = ap (then_one says.CheckCfg) (filled_so condition is) }
said_at _ _ _ (words.flags text is said are) =
    record { k = key.Flags; old = refl; new = refl; read = ap (λ (r : Result (List ℕ) Problem). r >>= (λ t. flags_of (words_of t))) (plain_so text is) ∙ flags_so (words_of text) said are }
said_at _ _ _ (words.env name value some whole is) = record { k = key.Env; old = refl; new = refl; read = ap (then_pair says.Env) (named_so name value some whole is) }
said_at _ _ _ (words.warning text) = record { k = key.Warning; old = refl; new = refl; read = refl }

pub record IsNewSaid (name value : List ℕ) (said : List Directive) : Type 0 where
  pub k : Key
  pub new : new_key_of name ≡ Some k
  pub read : directives_at k value ≡ Ok said

pub new_said_at : (name value : List ℕ) (said : List Directive) → IsSaidNew name value said → IsNewSaid name value said
new_said_at name value said (words.known is) = let s = said_at name value said is in record { k = s.k; new = s.new; read = s.read }
new_said_at name value said (words.metadata is_key word text some whole is parts same) = record {
  k = key.Metadata;
  new = ap new_key_of is_key;
  read = ap (λ v. then_pair says.Metadata (named_value v)) parts ∙ ap (then_pair says.Metadata) (named_so word text some whole (subst IsPlain parts is)) ∙ ap Ok (sym same);
}
new_said_at name value said (words.error is_key same) = record { k = key.Error; new = ap new_key_of is_key; read = ap Ok (sym same) }

-- of the keys after `cargo:` nothing else is said
pub common : (name value : List ℕ) (said : List Directive) (k : Key) → key_of name ≡ Some k → IsSaidNew name value said → IsSaid name value said
common name value said k at (words.known is) = is
common name value said k at (words.metadata is_key word text some whole is parts same) = let no : None ≡ Some k = sym (ap key_of is_key) ∙ at in cc
common name value said k at (words.error is_key same) = let no : None ≡ Some k = sym (ap key_of is_key) ∙ at in cc

-- What is read is said.

abbrev pub View : List ℕ → List ℕ → Answer → Type 0
View name value answer = ((said : List Directive) × (answer ≡ Ok said) × IsSaidNew name value said) ⊎ (answer ≡ Err (problem_at name value))

single : (P : Type 0) (name value : List ℕ) (form : Result (List ℕ) Problem) (make : List ℕ → Directive) → problem_at name value ≡ problem.BadValue → (P × (form ≡ Ok value)) ⊎ (form ≡ Err problem.BadValue)
    → (P → IsSaid name value (make value ∷ [])) → View name value (then_one make form)
single P name value form make wrong (inl is) says_it = inl (make value ∷ [], ap (then_one make) is.1, words.known (says_it is.0))
single P name value form make wrong (inr bad) says_it = inr (ap (then_one make) bad ∙ ap Err (sym wrong))

plainly : (name value : List ℕ) (make : List ℕ → Directive) → problem_at name value ≡ problem.BadValue → (IsPlain value → IsSaid name value (make value ∷ [])) → View name value (then_one make (plain value))
plainly name value make bad says_it = single (IsPlain value) name value (plain value) make bad (elim (plain_view value) [ inl is ↦ inl is | inr bad ↦ inr bad.1 ]) says_it

pub key_view : (k : Key) (value : List ℕ) → View (name_of k) value (directives_at k value)
key_view key.RerunIfChanged value = single _ (name_of key.RerunIfChanged) value (filled value) says.RerunIfChanged refl (filled_view value) (λ is. words.rerun_if_changed value is)
key_view key.RerunIfEnvChanged value = single _ (name_of key.RerunIfEnvChanged) value (variable value) says.RerunIfEnvChanged refl (variable_view value) (λ is. words.rerun_if_env_changed value is.0 is.1)
key_view key.LinkArg value = plainly (name_of key.LinkArg) value says.LinkArg refl (λ is. words.link_arg value is)
key_view key.LinkArgBins value = plainly (name_of key.LinkArgBins) value says.LinkArgBins refl (λ is. words.link_arg_bins value is)
key_view key.LinkArgCdylib value = plainly (name_of key.LinkArgCdylib) value says.LinkArgCdylib refl (λ is. words.link_arg_cdylib value is)
key_view key.LinkArgTests value = plainly (name_of key.LinkArgTests) value says.LinkArgTests refl (λ is. words.link_arg_tests value is)
key_view key.LinkArgExamples value = plainly (name_of key.LinkArgExamples) value says.LinkArgExamples refl (λ is. words.link_arg_examples value is)
key_view key.LinkArgBenches value = plainly (name_of key.LinkArgBenches) value says.LinkArgBenches refl (λ is. words.link_arg_benches value is)
key_view key.LinkArgBin value = elim (halves_view value) [
  | inl h ↦ inl (
    says.LinkArgBin h.name h.text ∷ [],
    ap (then_pair says.LinkArgBin) h.read,
    words.known (subst (λ v. IsSaid (name_of key.LinkArgBin) v (says.LinkArgBin h.name h.text ∷ [])) (sym h.whole) (words.link_arg_bin h.name h.text h.first (subst IsPlain h.whole h.clean))),
  )
  | inr bad ↦ inr (ap (then_pair says.LinkArgBin) bad)
]
key_view key.LinkLib value = single _ (name_of key.LinkLib) value (filled value) says.LinkLib refl (filled_view value) (λ is. words.link_lib value is)
key_view key.LinkSearch value = single _ (name_of key.LinkSearch) value (filled value) says.LinkSearch refl (filled_view value) (λ is. words.link_search value is)
key_view key.Cfg value = single _ (name_of key.Cfg) value (filled value) says.Cfg refl (filled_view value) (λ is. words.cfg value is)
key_view key.CheckCfg value = single _ (name_of key.CheckCfg) value (filled value) says.CheckCfg refl (filled_view value) (λ is. words.check_cfg value is)
key_view key.Flags value = elim (plain_view value) [
  | inl is ↦ (elim (flags_view (words_of value)) [
    | inl read ↦ inl (read.0, ap (λ (r : Result (List ℕ) Problem). r >>= (λ t. flags_of (words_of t))) is.1 ∙ read.1, words.known (words.flags value is.0 read.0 read.2))
    | inr bad ↦ inr (ap (λ (r : Result (List ℕ) Problem). r >>= (λ t. flags_of (words_of t))) is.1 ∙ bad ∙ ap (λ b. Err (if not b then problem.BadFlag else problem.BadValue)) (sym is.0))
  ])
  | inr bad ↦ inr (ap (λ (r : Result (List ℕ) Problem). r >>= (λ t. flags_of (words_of t))) bad.1 ∙ ap (λ b. Err (if not b then problem.BadFlag else problem.BadValue)) (sym bad.0))
]
key_view key.Env value = elim (named_view value) [
  | inl n ↦ inl (
    says.Env n.0.name n.0.text ∷ [],
    ap (then_pair says.Env) n.2,
    words.known (subst (λ v. IsSaid (name_of key.Env) v (says.Env n.0.name n.0.text ∷ [])) (sym n.0.whole) (words.env n.0.name n.0.text n.1 n.0.first (subst IsPlain n.0.whole n.0.clean))),
  )
  | inr bad ↦ inr (ap (then_pair says.Env) bad)
]
key_view key.Metadata value = elim (named_view value) [
  | inl n ↦ inl (says.Metadata n.0.name n.0.text ∷ [], ap (then_pair says.Metadata) n.2, words.metadata refl n.0.name n.0.text n.1 n.0.first n.0.clean n.0.whole refl)
  | inr bad ↦ inr (ap (then_pair says.Metadata) bad)
]
key_view key.Warning value = inl (says.Warning value ∷ [], refl, words.known (words.warning value))
key_view key.Error value = inl (says.Error value ∷ [], refl, words.error refl refl)

-- each key says something with some value
pub sample : (k : Key) → (value : List ℕ) × (said : List Directive) × IsSaidNew (name_of k) value said
sample k = by k
  where
    a : List ℕ
    a = codes "a"

    some : codes "a" ≢ []
    some e = cc

    by : (k : Key) → (value : List ℕ) × (said : List Directive) × IsSaidNew (name_of k) value said
    by key.RerunIfChanged = (codes "a", says.RerunIfChanged (codes "a") ∷ [], words.known (words.rerun_if_changed (codes "a") (some, refl)))
    by key.RerunIfEnvChanged = (codes "a", says.RerunIfEnvChanged (codes "a") ∷ [], words.known (words.rerun_if_env_changed (codes "a") (some, refl) refl))
    by key.LinkArg = (codes "a", says.LinkArg (codes "a") ∷ [], words.known (words.link_arg (codes "a") refl))
    by key.LinkArgBins = (codes "a", says.LinkArgBins (codes "a") ∷ [], words.known (words.link_arg_bins (codes "a") refl))
    by key.LinkArgCdylib = (codes "a", says.LinkArgCdylib (codes "a") ∷ [], words.known (words.link_arg_cdylib (codes "a") refl))
    by key.LinkArgTests = (codes "a", says.LinkArgTests (codes "a") ∷ [], words.known (words.link_arg_tests (codes "a") refl))
    by key.LinkArgExamples = (codes "a", says.LinkArgExamples (codes "a") ∷ [], words.known (words.link_arg_examples (codes "a") refl))
    by key.LinkArgBenches = (codes "a", says.LinkArgBenches (codes "a") ∷ [], words.known (words.link_arg_benches (codes "a") refl))
    by key.LinkArgBin = (codes "a=a", says.LinkArgBin (codes "a") (codes "a") ∷ [], words.known (words.link_arg_bin (codes "a") (codes "a") refl refl))
    by key.LinkLib = (codes "a", says.LinkLib (codes "a") ∷ [], words.known (words.link_lib (codes "a") (some, refl)))
    by key.LinkSearch = (codes "a", says.LinkSearch (codes "a") ∷ [], words.known (words.link_search (codes "a") (some, refl)))
    by key.Cfg = (codes "a", says.Cfg (codes "a") ∷ [], words.known (words.cfg (codes "a") (some, refl)))
    by key.CheckCfg = (codes "a", says.CheckCfg (codes "a") ∷ [], words.known (words.check_cfg (codes "a") (some, refl)))
    by key.Flags = ([], [], words.known (words.flags [] refl [] words.none))
    by key.Env = (codes "a=a", says.Env (codes "a") (codes "a") ∷ [], words.known (words.env (codes "a") (codes "a") some refl refl))
    by key.Metadata = (codes "a=a", says.Metadata (codes "a") (codes "a") ∷ [], words.metadata refl (codes "a") (codes "a") some refl refl refl refl)
    by key.Warning = ([], says.Warning [] ∷ [], words.known (words.warning []))
    by key.Error = ([], says.Error [] ∷ [], words.error refl refl)

-- a key that is read has its name
pick : (name word : List ℕ) (k found : Key) (rest : Option Key) → word ≡ name_of k → (if bytes_eq name word then Some k else rest) ≡ Some found → (rest ≡ Some found → name ≡ name_of found) → name ≡ name_of found
pick name word k found rest called is later = by (bytes_eq name word) refl is
  where
    by : (b : Bool) → bytes_eq name word ≡ b → (if b then Some k else rest) ≡ Some found → name ≡ name_of found
    by true at h = let same : k ≡ found = cc in (bytes_eq-Decides name word).0 at ∙ called ∙ ap name_of same
    by false at h = later h

pub old_named : (name : List ℕ) (k : Key) → key_of name ≡ Some k → name ≡ name_of k
old_named name k is =
    pick name (codes "rerun-if-changed") key.RerunIfChanged k _ refl is (λ h. pick name (codes "rerun-if-env-changed") key.RerunIfEnvChanged k _ refl h
    (λ h. pick name (codes "rustc-link-arg") key.LinkArg k _ refl h (λ h. pick name (codes "rustc-link-arg-bins") key.LinkArgBins k _ refl h
    (λ h. pick name (codes "rustc-link-arg-cdylib") key.LinkArgCdylib k _ refl h (λ h. pick name (codes "rustc-link-arg-tests") key.LinkArgTests k _ refl h
    (λ h. pick name (codes "rustc-link-arg-examples") key.LinkArgExamples k _ refl h (λ h. pick name (codes "rustc-link-arg-benches") key.LinkArgBenches k _ refl h
    (λ h. pick name (codes "rustc-link-arg-bin") key.LinkArgBin k _ refl h (λ h. pick name (codes "rustc-link-lib") key.LinkLib k _ refl h
    (λ h. pick name (codes "rustc-link-search") key.LinkSearch k _ refl h (λ h. pick name (codes "rustc-cfg") key.Cfg k _ refl h
    (λ h. pick name (codes "rustc-check-cfg") key.CheckCfg k _ refl h (λ h. pick name (codes "rustc-flags") key.Flags k _ refl h
    (λ h. pick name (codes "rustc-env") key.Env k _ refl h (λ h. pick name (codes "warning") key.Warning k None refl h (λ h. cc))))))))))))))))

pub new_named : (name : List ℕ) (k : Key) → new_key_of name ≡ Some k → name ≡ name_of k
new_named name k is = pick name (codes "metadata") key.Metadata k _ refl is (λ h. pick name (codes "error") key.Error k (key_of name) refl h (λ h. old_named name k h))
