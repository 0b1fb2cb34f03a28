-- The loop over the steps of a session: whatever the rest of the steps comes to, all of them come to; and where the rest breaks off, all of them do.
use Rattle.std.proofs.Common.{◌≡◌, ◌∙◌, ◌<◌, ◌≤◌, ◌+◌, ℕ, List, [], ◌∷◌, length, drop, refl, sym, ap, subst}
use Rattle.std.proofs.Math.ListN.{get_or}
use Rattle.std.proofs.lemmas.List.{drop_more, drop_all}
use Rattle.pb_place_types.specs.World.{Answers}
use Rattle.pb_build_session.specs.declared.step.SessionStep.{SessionStep}
use Rattle.pb_build.specs.Session.{Point, Carries, Course, Loses, Breaks}

-- whatever the rest of the steps comes to, all of them come to
abbrev pub Reaches : Answers → List SessionStep → List SessionStep → Point → Point → Type 0
Reaches child steps rest start now = (end : Point) → Course child rest now end → Course child steps start end

one_more : (steps : List SessionStep) (i : ℕ) (step : SessionStep) → i < length steps → step ≡ get_or steps i step → drop i steps ≡ step ∷ drop (i + 1) steps
one_more steps i step here is = drop_more steps i step here ∙ ap (λ (s : SessionStep). s ∷ drop (i + 1) steps) (sym is)

pub step_taken : (child : Answers) (steps : List SessionStep) (i : ℕ) (step : SessionStep) (start before after : Point) → i < length steps → step ≡ get_or steps i step
    → Reaches child steps (drop i steps) start before → Carries child step before after → Reaches child steps (drop (i + 1) steps) start after
step_taken child steps i step start before after here is reaches taken end rest =
    reaches end (subst (λ (s : List SessionStep). Course child s before end) (sym (one_more steps i step here is)) (after, taken, rest))

pub steps_taken : (child : Answers) (steps : List SessionStep) (i : ℕ) (start now : Point) → length steps ≤ i → Reaches child steps (drop i steps) start now → Course child steps start now
steps_taken child steps i start now past reaches = reaches now (subst (λ (s : List SessionStep). Course child s now now) (sym (drop_all i steps past)) refl)

pub none_taken : (child : Answers) (steps : List SessionStep) (start begun : Point) → begun ≡ start → Reaches child steps steps start begun
none_taken child steps start begun is end course = subst (λ (m : Point). Course child steps m end) is course

-- where the rest of the steps breaks off, all of them do
abbrev pub BreaksOff : Answers → List SessionStep → List SessionStep → Point → Point → Type 0
BreaksOff child steps rest start now = (left : Point) → Breaks child rest now left → Breaks child steps start left

pub step_passed : (child : Answers) (steps : List SessionStep) (i : ℕ) (step : SessionStep) (start before after : Point) → i < length steps → step ≡ get_or steps i step
    → BreaksOff child steps (drop i steps) start before → Carries child step before after → BreaksOff child steps (drop (i + 1) steps) start after
step_passed child steps i step start before after here is breaks taken left rest =
    breaks left
    (subst (λ (s : List SessionStep). Breaks child s before left) (sym (one_more steps i step here is))
    (step ∷ rest.0, rest.1, rest.2, ap (λ (s : List SessionStep). step ∷ s) rest.3, rest.4, (after, taken, rest.5), rest.6))

pub step_lost : (child : Answers) (steps : List SessionStep) (i : ℕ) (step : SessionStep) (start before left : Point) → i < length steps → step ≡ get_or steps i step
    → BreaksOff child steps (drop i steps) start before → Loses child step before left → Breaks child steps start left
step_lost child steps i step start before left here is breaks loses =
    breaks left (subst (λ (s : List SessionStep). Breaks child s before left) (sym (one_more steps i step here is)) ([], step, drop (i + 1) steps, refl, before, refl, loses))

pub none_passed : (child : Answers) (steps : List SessionStep) (start begun : Point) → begun ≡ start → BreaksOff child steps steps start begun
none_passed child steps start begun is left breaks = subst (λ (m : Point). Breaks child steps m left) is breaks
