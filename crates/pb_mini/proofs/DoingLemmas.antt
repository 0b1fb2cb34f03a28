-- One thing done after another.
use Rattle.std.proofs.Common.{◌≡◌, ℕ, ◌+◌, ◌<◌, true, false, cond, List, ◌∷◌, map, drop, length, get_or, Option, refl, sym, ap, ◌∙◌, subst, append_assoc}
use Rattle.std.proofs.lemmas.List.{append-nil, drop_more}
use Rattle.std.specs.Borrow.{Bor}
use Rattle.pb_place_types.specs.World.{World}
use Rattle.pb_mini.specs.Effects.{no_effects, joined, followed_by, AddsEffect, copied, asks}
use Rattle.pb_mini.specs.Lines.{word_in, rest_of}
use Rattle.pb_mini.specs.Verbs.{line_meant, env_line, told, verb_of, is_passed_over, effect_by, effect_meant, effect_of, effects_from}
use Rattle.pb_mini.specs.declared.scope.Scope.{Scope}
use Rattle.pb_mini.specs.declared.verbs.Verb.{Verb}
use Rattle.pb_mini.specs.declared.effects.Effects.{Effects}

pub joined_nothing : (e : Effects) → joined e no_effects ≡ e
joined_nothing e = simp append-nil

pub joined_assoc : (a b c : Effects) → joined (joined a b) c ≡ joined a (joined b c)
joined_assoc a b c = simp append_assoc

-- two things were done
pub does_both : (old middle new a b : Effects) → AddsEffect middle old a → AddsEffect new middle b → AddsEffect new old (joined a b)
does_both old middle new a b first second later = second later ∙ first (joined b later) ∙ ap (followed_by old) (sym (joined_assoc a b later))

-- three things
pub does_thrice : (old one two new a b c : Effects) → AddsEffect one old a → AddsEffect two one b → AddsEffect new two c → AddsEffect new old (joined a (joined b c))
does_thrice old one two new a b c first second third = does_both old one new a (joined b c) first (does_both one two new b c second third)

pub followed_nothing : (e : Effects) → followed_by e no_effects ≡ e
followed_nothing e = simp append-nil

-- all that was done
pub done_whole : (old new done : Effects) → AddsEffect new old done → new ≡ followed_by old done
done_whole old new done does = sym (followed_nothing new) ∙ does no_effects ∙ ap (followed_by old) (joined_nothing done)

-- a variable was named, and its line put in
pub told_done : (old one new : Effects) (name n line l : List ℕ) (value : Option (List ℕ)) → AddsEffect one old (asks n value) → n ≡ name → AddsEffect new one (copied l) → l ≡ line → line ≡ env_line name value → AddsEffect new old (told name value)
told_done old one new name n line l value first is_n second is_l is_line =
    does_both old one new (asks name value) (copied (env_line name value))
    (subst (λ m. AddsEffect one old (asks m value)) is_n first) (subst (λ m. AddsEffect new one (copied m)) (is_l ∙ is_line) second)

-- a line was done by its verb
pub line_done : (scope : Scope) (w : World) (number : ℕ) (line meant word rest : List ℕ) (verb : Verb) (old new : Effects) → meant ≡ line_meant scope.conditions line → is_passed_over meant ≡ false → word ≡ word_in meant
    → rest ≡ rest_of meant → verb ≡ verb_of word → AddsEffect new old (effect_by verb scope w number meant rest) → AddsEffect new old (effect_of scope w number line)
line_done scope w number line meant word rest verb old new is counts is_word is_rest is_verb does =
    subst (λ m. AddsEffect new old (effect_meant scope w number m)) is
    (subst (λ r. AddsEffect new old (cond r no_effects (effect_by (verb_of (word_in meant)) scope w number meant (rest_of meant)))) (sym counts)
    (subst (λ v. AddsEffect new old (effect_by v scope w number meant (rest_of meant))) (is_verb ∙ ap verb_of is_word)
    (subst (λ r. AddsEffect new old (effect_by verb scope w number meant r)) is_rest does)))

-- a line that does nothing
pub line_passed : (scope : Scope) (w : World) (number : ℕ) (line meant : List ℕ) (e : Effects) → meant ≡ line_meant scope.conditions line → is_passed_over meant ≡ true → AddsEffect e e (effect_of scope w number line)
line_passed scope w number line meant e is passes =
    subst (λ m. AddsEffect e e (effect_meant scope w number m)) is
    (subst (λ r. AddsEffect e e (cond r no_effects (effect_by (verb_of (word_in meant)) scope w number meant (rest_of meant)))) (sym passes) (λ later. refl))

-- a step over a line
pub line_step : (scope : Scope) (w : World) (whole old new : Effects) (before number : ℕ) (lines : List (Bor (List ℕ))) (line : Bor (List ℕ)) → before < length lines → line ≡ get_or lines before line → number ≡ before + 1
    → AddsEffect new old (effect_of scope w number line.now) → followed_by old (effects_from scope w before (map (λ l. l.now) (drop before lines))) ≡ whole
    → followed_by new (effects_from scope w (before + 1) (map (λ l. l.now) (drop (before + 1) lines))) ≡ whole
line_step scope w whole old new before number lines line inside is counted does so_far =
    does (effects_from scope w (before + 1) (map (λ l. l.now) (drop (before + 1) lines)))
    ∙ ap (λ n. followed_by old (joined (effect_of scope w n line.now) (effects_from scope w (before + 1) (map (λ l. l.now) (drop (before + 1) lines))))) counted
    ∙ ap (λ ls. followed_by old (effects_from scope w before (map (λ l. l.now) ls))) (sym here) ∙ so_far
  where
    here : drop before lines ≡ line ∷ drop (before + 1) lines
    here = drop_more lines before line inside ∙ ap (λ l. l ∷ drop (before + 1) lines) (sym is)

pub ruleset doing_laws = (does_both)
