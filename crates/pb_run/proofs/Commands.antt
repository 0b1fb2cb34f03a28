-- A unit's command rests on what the runs that it reaches have said alone.
use Rattle.std.proofs.Common.{◌≡◌, ◌∙◌, ◌++◌, ℕ, Bool, true, false, cond, List, [], ◌∷◌, Option, Some, None, Contains, refl, sym, ap, subst}
use Rattle.std.specs.List.{find, flat_map, slice_get}
use Rattle.pb_directive.specs.declared.directive.Directive.{Directive}
use Rattle.pb_workspace_types.specs.declared.package.Package.{Package}
use Rattle.pb_command_types.specs.Targets.{package_of, unit_at, is_one_of, is_run, own_run, own_said, said_at, said_in, said_there}
use Rattle.pb_command_types.specs.declared.project.Project.{Project}
use Rattle.pb_command_types.specs.declared.project.Setup.{Setup}
use Rattle.pb_unit.specs.declared.plan.Planned.{Planned}
use Rattle.pb_unit.specs.declared.unit.What.{What}
use Rattle.pb_unit.specs.declared.unit.What.TheVariants.{Lib, Bin, Script, Run}
use Rattle.pb_command.specs.Command.{command_by, command_for, command_of, compile_of, run_of, words_of, asked_part, crate_part}
use Rattle.pb_command_types.specs.NamedTexts.{in_order}
use Rattle.pb_command_arguments.specs.Externs.{library_words}
use Rattle.pb_command_environment.specs.Pairs.{about_pairs, binary_pairs, building_pairs, crate_pairs, described_pairs, env_pair, out_pairs, own_pairs, package_pairs, pairs_of, passed_at, passed_by, passed_pairs, run_there, version_pairs}
use Rattle.pb_command_arguments.specs.Said.{own_words, said_words, search_word, search_words, searched_words}
use Rattle.pb_store_soundness.proofs.Flying.{contains_head, contains_tail}

flat_same : {A B : Type 0} (f g : A → List B) (xs : List A) → ((x : A) → Contains xs x → f x ≡ g x) → flat_map f xs ≡ flat_map g xs
flat_same f g [] same = refl
flat_same f g (x ∷ xs) same = ap (λ y. y ++ flat_map f xs) (same x (contains_head x xs)) ∙ ap (λ r. g x ++ r) (flat_same f g xs (λ y has. same y (contains_tail x xs y has)))

-- what is found is there
some_same : {A : Type 0} (x y : A) → Some x ≡ Some y → x ≡ y
some_same x y e = cc

by_test : {A : Type 0} (test : A → Bool) (y : A) (xs : List A) (x : A) (b : Bool) → test y ≡ b → find test (y ∷ xs) ≡ Some x → (find test xs ≡ Some x → Contains xs x) → Contains (y ∷ xs) x
by_test test y xs x true t is more = subst (Contains (y ∷ xs)) (some_same y x (sym (ap (λ b. cond b (Some y) (find test xs)) t) ∙ is)) (contains_head y xs)
by_test test y xs x false t is more = contains_tail y xs x (more (sym (ap (λ b. cond b (Some y) (find test xs)) t) ∙ is))

found_in : {A : Type 0} (test : A → Bool) (xs : List A) (x : A) → find test xs ≡ Some x → Contains xs x
found_in test [] x is = cc
found_in test (y ∷ xs) x is = by_test test y xs x (test y) refl is (λ more. found_in test xs x more)

module _ (setup : Setup) (project : Project) (u : Planned) (done other : List (Option (List Directive))) (reached : (index : ℕ) → Contains u.needs index → Contains u.reaches index)
    (same : (index : ℕ) → Contains u.reaches index → slice_get done index ≡ slice_get other index) where
  said_same : (index : ℕ) → Contains u.reaches index → said_at done index ≡ said_at other index
  said_same index has = ap said_in (same index has)

  there_same : (o : Option ℕ) → own_run project u ≡ o → said_there done o ≡ said_there other o
  there_same None is = refl
  there_same (Some index) is = said_same index (reached index (found_in (λ v. is_one_of is_run u.unit.package (unit_at project v)) u.needs index is))

  own_same : own_said project u done ≡ own_said project u other
  own_same = there_same (own_run project u) refl

  search_same : search_words u done ≡ search_words u other
  search_same = flat_same (searched_words done) (searched_words other) u.reaches (λ index has. ap (flat_map search_word) (said_same index has))

  run_same : (o : Option ℕ) → own_run project u ≡ o → run_there project done o ≡ run_there project other o
  run_same None is = refl
  run_same (Some index) is = ap (λ said. out_pairs (unit_at project index) ++ flat_map env_pair said) (there_same (Some index) is)

  passed_one : (index : ℕ) → Contains u.needs index → passed_at project done index ≡ passed_at project other index
  unfolding passed_at
  passed_one index has = ap (passed_by project (unit_at project index)) (said_same index (reached index has))

  passed_same : passed_pairs project u done ≡ passed_pairs project u other
  passed_same = flat_same (passed_at project done) (passed_at project other) u.needs passed_one

  module _ (p : Package) where
    own_pairs_same : (w : What) → own_pairs setup project u done p w ≡ own_pairs setup project u other p w
    own_pairs_same Lib = ap (λ pairs. crate_pairs project u ++ pairs) (run_same (own_run project u) refl)
    own_pairs_same (Bin name) = ap (λ pairs. crate_pairs project u ++ binary_pairs name ++ pairs) (run_same (own_run project u) refl)
    own_pairs_same Script = refl
    own_pairs_same Run = ap (λ pairs. described_pairs project u p ++ building_pairs setup project u ++ pairs) passed_same

    pairs_same : pairs_of setup project u done p ≡ pairs_of setup project u other p
    pairs_same = ap (λ own. in_order (package_pairs setup p ++ about_pairs p.about ++ version_pairs p.version ++ own)) (own_pairs_same u.unit.what)

    said_words_same : said_words project u done p ≡ said_words project u other p
    said_words_same = ap (λ search. search ++ own_words u.unit.what p.library (own_said project u done)) search_same ∙ ap (λ said. search_words u other ++ own_words u.unit.what p.library said) own_same

    asked_same : asked_part setup project u done p ≡ asked_part setup project u other p
    asked_same = ap (λ said. library_words project u p ++ said ++ setup.flags) said_words_same

    words_same : words_of setup project u done p ≡ words_of setup project u other p
    words_same = ap (λ asked. crate_part project u p ++ asked) asked_same

    compile_same : compile_of setup project u done p ≡ compile_of setup project u other p
    compile_same =
        ap (λ (words : List (List ℕ)). record (compile_of setup project u done p) { words = words }) words_same
        ∙ ap (λ (pairs : List (List ℕ × List ℕ)). record (compile_of setup project u other p) { pairs = pairs }) pairs_same

    runs_same : run_of setup project u done p ≡ run_of setup project u other p
    runs_same = ap (λ (pairs : List (List ℕ × List ℕ)). record (run_of setup project u done p) { pairs = pairs }) pairs_same

    by_same : (w : What) → command_by w setup project u done p ≡ command_by w setup project u other p
    by_same Run = runs_same
    by_same _ = compile_same

  for_same : (o : Option Package) → command_for setup project u done o ≡ command_for setup project u other o
  for_same None = refl
  for_same (Some p) = by_same p u.unit.what

  pub command_same : command_of setup project u done ≡ command_of setup project u other
  command_same = for_same (package_of project u)
