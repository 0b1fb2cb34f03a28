-- Whatever the run of a script reads, the builder finds among the directives of its output.
use Rattle.std.proofs.Common.{◌≡◌, ℕ, ◌+◌, ◌<◌, ◌≤◌, ◌⊎◌, inl, inr, Bool, true, false, cond, codes, List, [], ◌∷◌, ◌++◌, length, get_or, Option, Some, None, unwrap_or, Ok, refl, sym, ◌∙◌, ap, subst, append_assoc, eqb, ltb, arith}
use Rattle.std.proofs.Math.ListN.{drop_of_length-le}
use Rattle.std.proofs.lemmas.Bool.{ltb-true, ltb-false}
use Rattle.std.proofs.lemmas.Bool.Decides.{Decides-eqb}
use Rattle.std.proofs.lemmas.List.{append-nil}
use Rattle.std.proofs.lemmas.List.Sums.{passes_at_first}
use Rattle.std.proofs.lemmas.List.Folds.{list_any-append}
use Rattle.std.proofs.lemmas.Slice.Eq.{bytes_eq-Decides}
use Rattle.std.proofs.lemmas.Str.{IsUtf8-drop, IsUtf8-nil, IsUtf8-from_is_utf8, IsCharBoundary-after_ascii}
use Rattle.std.specs.List.{flat_map, position_or_len, AllByRecursion}
use Rattle.std.specs.Str.{is_utf8, IsUtf8, bytes_eq}
use Rattle.pb_data.specs.OrderedSet.{is_mentioned}
use Rattle.pb_directive.specs.Directives.{directives_of}
use Rattle.pb_directive.specs.Laws.{followed_by}
use Rattle.pb_directive.specs.declared.directive.Directive.{Directive}
use Rattle.pb_directive.specs.declared.directive.Directive.TheVariants.{RerunIfChanged, RerunIfEnvChanged}
use Rattle.pb_place_types.specs.Paths.{is_absolute}
use Rattle.pb_place_types.specs.World.{World}
use Rattle.pb_place_types.specs.declared.child.Reply.{Reply}
use Rattle.pb_command_reply.specs.Answers.{changed_path, changed_variable}
use Rattle.pb_mini.specs.Effects.{no_names, joined_names}
use Rattle.pb_mini.specs.Honesty.{path_read, variable_read, base_read, names_by, names_in, names_after, names_of_lines}
use Rattle.pb_mini.specs.Lines.{word_in, rest_of, ended}
use Rattle.pb_mini.specs.Lookups.{path_of, value_of}
use Rattle.pb_mini.specs.Script.{Step, Writes, Ends, full_path, text_read, shown_text, read_text, first_line, is_file_name, was_put, deed_of, step_by, step_in, after_step, lines_run}
use Rattle.pb_mini.specs.declared.dep_info.Names.{Names}
use Rattle.pb_mini.specs.declared.script.Deed.{Deed}
use Rattle.pb_mini.specs.declared.script.Deed.TheVariants.{Print, Show, Read, Put, Exit, Skip}
use Rattle.pb_mini_laws.specs.Said.{CanBeSaid, declared_by, declared_in, declared_after, declared_of}
use Rattle.pb_mini_laws.proofs.Mentioning.{or_left, or_right}
use Rattle.pb_mini_laws.proofs.Saying.{parts, says_changed, says_env_changed, changed, env_changed}

-- ---- what is said first or later is said

module _ (f : Directive → List (List ℕ)) where
  said_later : (first more : List Directive) (text : List ℕ) → is_mentioned (flat_map f more) text ≡ true → is_mentioned (flat_map f (first ++ more)) text ≡ true
  said_later [] more text is = is
  said_later (d ∷ first) more text is = list_any-append (bytes_eq text) (f d) (flat_map f (first ++ more)) ∙ or_right (is_mentioned (f d) text) (is_mentioned (flat_map f (first ++ more)) text) (said_later first more text is)

  said_first : (d : Directive) (more : List Directive) (text : List ℕ) → is_mentioned (f d) text ≡ true → is_mentioned (flat_map f (d ∷ more)) text ≡ true
  said_first d more text is = list_any-append (bytes_eq text) (f d) (flat_map f more) ∙ or_left (is_mentioned (f d) text) (is_mentioned (flat_map f more) text) is

pub itself : (text : List ℕ) → is_mentioned (text ∷ []) text ≡ true
itself text = or_left (bytes_eq text text) false ((bytes_eq-Decides text text).1 refl)

-- ---- what stands behind the first space of a text is a text

rest_is_text : (line : List ℕ) → IsUtf8 line → IsUtf8 (rest_of line)
rest_is_text line text = by (ltb (position_or_len (λ b. eqb b 32) line) (length line)) refl
  where
    by : (r : Bool) → ltb (position_or_len (λ b. eqb b 32) line) (length line) ≡ r → IsUtf8 (rest_of line)
    by true inside =
        let found : position_or_len (λ b. eqb b 32) line < length line = ltb-true _ _ inside in
        let space : get_or line (position_or_len (λ b. eqb b 32) line) 0 ≡ 32 = (Decides-eqb _ 32).0 (passes_at_first (λ b. eqb b 32) line 0 found) in
        IsUtf8-drop line (position_or_len (λ b. eqb b 32) line + 1) text (IsCharBoundary-after_ascii line (position_or_len (λ b. eqb b 32) line) text found (subst (λ c. c < 128) (sym space) (omega arith)))
    by false past =
        let none : length line ≤ position_or_len (λ b. eqb b 32) line = ltb-false _ _ past in
        subst IsUtf8 (sym (drop_of_length-le line (omega (arith, none)))) IsUtf8-nil

module _ (pairs : List (List ℕ × List ℕ)) (v : World) where
  -- a path is that of a text that is said; a variable is said, or it is the one at which relative paths begin
  abbrev pub PathSaid : List Directive → List ℕ → Type 0
  PathSaid said path = (text : List ℕ) × (is_mentioned (flat_map changed_path said) text ≡ true) × (path_of (full_path pairs v text) ≡ Some path)

  abbrev pub VariableSaid : List Directive → List ℕ × Option (List ℕ) → Type 0
  VariableSaid said variable = (variable.0 ≡ codes "CARGO_MANIFEST_DIR") ⊎ (is_mentioned (flat_map changed_variable said) variable.0 ≡ true)

  pub record Declares (said : List Directive) (names : Names) : Type 0 where
    pub paths : AllByRecursion (PathSaid said) names.paths
    pub variables : AllByRecursion (VariableSaid said) names.variables

  later_paths : (first more : List Directive) (paths : List (List ℕ)) → AllByRecursion (PathSaid more) paths → AllByRecursion (PathSaid (first ++ more)) paths
  later_paths first more [] all = tt
  later_paths first more (path ∷ paths) all = let (text, is, leads) = all.0 in ((text, said_later changed_path first more text is, leads), later_paths first more paths all.1)

  later_variables : (first more : List Directive) (variables : List (List ℕ × Option (List ℕ))) → AllByRecursion (VariableSaid more) variables → AllByRecursion (VariableSaid (first ++ more)) variables
  later_variables first more [] all = tt
  later_variables first more (variable ∷ variables) all =
      (elim all.0 [ inl base ↦ inl base | inr is ↦ inr (said_later changed_variable first more variable.0 is) ], later_variables first more variables all.1)

  later : (first more said : List Directive) (names : Names) → said ≡ first ++ more → Declares more names → Declares said names
  later first more said names is declares =
      subst (λ s. Declares s names) (sym is) (record { paths = later_paths first more names.paths declares.paths; variables = later_variables first more names.variables declares.variables })

  both_paths : (said : List Directive) (a b : List (List ℕ)) → AllByRecursion (PathSaid said) a → AllByRecursion (PathSaid said) b → AllByRecursion (PathSaid said) (a ++ b)
  both_paths said [] b one other = other
  both_paths said (path ∷ a) b one other = (one.0, both_paths said a b one.1 other)

  both_variables : (said : List Directive) (a b : List (List ℕ × Option (List ℕ))) → AllByRecursion (VariableSaid said) a → AllByRecursion (VariableSaid said) b → AllByRecursion (VariableSaid said) (a ++ b)
  both_variables said [] b one other = other
  both_variables said (variable ∷ a) b one other = (one.0, both_variables said a b one.1 other)

  both : (said : List Directive) (a b : Names) → Declares said a → Declares said b → Declares said (joined_names a b)
  both said a b one other = record { paths = both_paths said a.paths b.paths one.paths other.paths; variables = both_variables said a.variables b.variables one.variables other.variables }

  none : (said : List Directive) → Declares said no_names
  none said = record { paths = tt; variables = tt }

  -- the file of a path that is said, and the variable at which it may begin
  path_declared : (text : List ℕ) (more : List Directive) → Declares (RerunIfChanged text ∷ more) (joined_names (base_read pairs v text) (path_read (path_of (full_path pairs v text))))
  path_declared text more = both (RerunIfChanged text ∷ more) (base_read pairs v text) (path_read (path_of (full_path pairs v text))) (base (is_absolute text)) (file (path_of (full_path pairs v text)) refl)
    where
      base : (r : Bool) → Declares (RerunIfChanged text ∷ more) (cond r no_names (variable_read (codes "CARGO_MANIFEST_DIR") (value_of pairs v (codes "CARGO_MANIFEST_DIR"))))
      base true = record { paths = tt; variables = tt }
      base false = record { paths = tt; variables = (inl refl, tt) }

      file : (path : Option (List ℕ)) → path_of (full_path pairs v text) ≡ path → Declares (RerunIfChanged text ∷ more) (path_read path)
      file None is = record { paths = tt; variables = tt }
      file (Some path) is = record { paths = ((text, said_first changed_path (RerunIfChanged text) more text (itself text), is), tt); variables = tt }

  module _ (lines : List (List ℕ)) (below : AllByRecursion CanBeSaid (declared_of pairs v lines) → (more : List Directive) → directives_of (lines_run pairs v lines).stdout ≡ Ok more → Declares more (names_of_lines pairs v lines)) where
    abbrev L : Reply
    L = lines_run pairs v lines

    abbrev N : Names
    N = names_of_lines pairs v lines

    by_show : (rest value : List ℕ) (found : Option (List ℕ)) → IsUtf8 rest → AllByRecursion CanBeSaid (rest ∷ declared_of pairs v lines) → (said : List Directive) → directives_of (shown_text rest value ++ L.stdout) ≡ Ok said
        → Declares said (joined_names (variable_read rest found) N)
    by_show rest value found text can said is =
        let other : List ℕ = codes "cargo::rustc-env=SHOW_" ++ rest ++ codes "=" ++ value in
        let lined : shown_text rest value ++ L.stdout ≡ followed_by (env_changed rest) (followed_by other L.stdout) =
        append_assoc (ended (env_changed rest)) (ended other) L.stdout ∙ append_assoc (env_changed rest) (10 ∷ []) (ended other ++ L.stdout) ∙ ap (followed_by (env_changed rest)) (append_assoc other (10 ∷ []) L.stdout) in
        let one = parts (env_changed rest) (followed_by other L.stdout) said (sym (ap directives_of lined) ∙ is) in
        let two = parts other L.stdout one.more one.other_says in
        let here : one.first ≡ RerunIfEnvChanged rest ∷ [] = says_env_changed rest one.first can.0 text one.one_says in
        let whole : said ≡ RerunIfEnvChanged rest ∷ (two.first ++ two.more) = one.both ∙ ap (λ f. f ++ one.more) here ∙ ap (λ m. RerunIfEnvChanged rest ∷ m) two.both in
        both said (variable_read rest found) N
        (subst (λ s. Declares s (variable_read rest found)) (sym whole) (record { paths = tt; variables = (inr (said_first changed_variable (RerunIfEnvChanged rest) (two.first ++ two.more) rest (itself rest)), tt) }))
        (later (RerunIfEnvChanged rest ∷ two.first) two.more said N whole (below can.1 two.more two.other_says))

    by_read : (rest : List ℕ) (found : Option (List ℕ)) → IsUtf8 rest → AllByRecursion CanBeSaid (rest ∷ declared_of pairs v lines) → (said : List Directive) → directives_of (read_text rest found ++ L.stdout) ≡ Ok said
        → Declares said (joined_names (joined_names (base_read pairs v rest) (path_read (path_of (full_path pairs v rest)))) N)
    by_read rest None text can said is =
        let lined : read_text rest None ++ L.stdout ≡ followed_by (changed rest) L.stdout = ap (λ t. t ++ L.stdout) (append-nil (ended (changed rest))) ∙ append_assoc (changed rest) (10 ∷ []) L.stdout in
        let one = parts (changed rest) L.stdout said (sym (ap directives_of lined) ∙ is) in
        let here : one.first ≡ RerunIfChanged rest ∷ [] = says_changed rest one.first can.0 text one.one_says in
        let whole : said ≡ RerunIfChanged rest ∷ one.more = one.both ∙ ap (λ f. f ++ one.more) here in
        both said (joined_names (base_read pairs v rest) (path_read (path_of (full_path pairs v rest)))) N
        (subst (λ s. Declares s (joined_names (base_read pairs v rest) (path_read (path_of (full_path pairs v rest))))) (sym whole) (path_declared rest one.more))
        (later (RerunIfChanged rest ∷ []) one.more said N whole (below can.1 one.more one.other_says))
    by_read rest (Some found) text can said is =
        let other : List ℕ = codes "cargo::rustc-env=READ=" ++ first_line found in
        let lined : read_text rest (Some found) ++ L.stdout ≡ followed_by (changed rest) (followed_by other L.stdout) =
        append_assoc (ended (changed rest)) (ended other) L.stdout ∙ append_assoc (changed rest) (10 ∷ []) (ended other ++ L.stdout) ∙ ap (followed_by (changed rest)) (append_assoc other (10 ∷ []) L.stdout) in
        let one = parts (changed rest) (followed_by other L.stdout) said (sym (ap directives_of lined) ∙ is) in
        let two = parts other L.stdout one.more one.other_says in
        let here : one.first ≡ RerunIfChanged rest ∷ [] = says_changed rest one.first can.0 text one.one_says in
        let whole : said ≡ RerunIfChanged rest ∷ (two.first ++ two.more) = one.both ∙ ap (λ f. f ++ one.more) here ∙ ap (λ m. RerunIfChanged rest ∷ m) two.both in
        both said (joined_names (base_read pairs v rest) (path_read (path_of (full_path pairs v rest)))) N
        (subst (λ s. Declares s (joined_names (base_read pairs v rest) (path_read (path_of (full_path pairs v rest))))) (sym whole) (path_declared rest (two.first ++ two.more)))
        (later (RerunIfChanged rest ∷ two.first) two.more said N whole (below can.1 two.more two.other_says))

    by_put : (r : Bool) (name text : List ℕ) (here : Step) → here ≡ cond r (Writes record { stdout = []; files = (name, text) ∷ [] }) (Ends 2) → AllByRecursion CanBeSaid (declared_after here (declared_of pairs v lines))
        → (said : List Directive) → directives_of (after_step here L).stdout ≡ Ok said → Declares said (joined_names no_names (names_after here N))
    by_put true name text here same can said is = subst (λ (s : Step). AllByRecursion CanBeSaid (declared_after s (declared_of pairs v lines)) → directives_of (after_step s L).stdout ≡ Ok said → Declares said (joined_names no_names (names_after s N))) (sym same) (λ can is. below can said is) can is
    by_put false name text here same can said is = subst (λ (s : Step). Declares said (joined_names no_names (names_after s N))) (sym same) (none said)

    by_deed : (deed : Deed) (rest : List ℕ) → IsUtf8 rest → AllByRecursion CanBeSaid (declared_by deed rest ++ declared_after (step_by deed pairs v rest) (declared_of pairs v lines))
        → (said : List Directive) → directives_of (after_step (step_by deed pairs v rest) L).stdout ≡ Ok said → Declares said (joined_names (names_by deed pairs v rest) (names_after (step_by deed pairs v rest) N))
    by_deed Print rest text can said is =
        let one = parts rest L.stdout said (sym (ap directives_of (append_assoc rest (10 ∷ []) L.stdout)) ∙ is) in
        later one.first one.more said N one.both (below can one.more one.other_says)
    by_deed Show rest text can said is = by_show rest (unwrap_or (value_of pairs v rest) []) (value_of pairs v rest) text can said is
    by_deed Read rest text can said is = by_read rest (text_read pairs v rest) text can said is
    by_deed Put rest text can said is = by_put (is_file_name (word_in rest)) (word_in rest) (ended (rest_of rest)) (was_put (word_in rest) (rest_of rest)) refl can said is
    by_deed Exit rest text can said is = none said
    by_deed Skip rest text can said is = below can said is

  pub run_declares : (lines : List (List ℕ)) → AllByRecursion CanBeSaid (declared_of pairs v lines) → (said : List Directive) → directives_of (lines_run pairs v lines).stdout ≡ Ok said → Declares said (names_of_lines pairs v lines)
  run_declares [] can said is = none said
  run_declares (line ∷ lines) can said is = by (is_utf8 line) refl (run_declares lines) can is
    where
      by : (r : Bool) → is_utf8 line ≡ r → (AllByRecursion CanBeSaid (declared_of pairs v lines) → (more : List Directive) → directives_of (lines_run pairs v lines).stdout ≡ Ok more → Declares more (names_of_lines pairs v lines))
          → AllByRecursion CanBeSaid (declared_in (cond r (Some line) None) ++ declared_after (step_in pairs v (cond r (Some line) None)) (declared_of pairs v lines))
          → directives_of (after_step (step_in pairs v (cond r (Some line) None)) (lines_run pairs v lines)).stdout ≡ Ok said
          → Declares said (joined_names (names_in pairs v (cond r (Some line) None)) (names_after (step_in pairs v (cond r (Some line) None)) (names_of_lines pairs v lines)))
      by false text below can is = below can said is
      by true text below can is = by_deed lines below (deed_of (word_in line)) (rest_of line) (rest_is_text line (IsUtf8-from_is_utf8 line text)) can said is
