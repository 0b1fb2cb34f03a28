-- The sources after a session's steps are what its edits have made of them, however its builds have ended.
use Rattle.std.proofs.Common.{◌≡◌, ◌∙◌, ℕ, Bool, true, false, not, cond, List, [], ◌∷◌, Option, Some, None, refl, sym, ap, subst}
use Rattle.std.specs.FinMap.{get, insert, remove, get-insert}
use Rattle.std.specs.Cmp.Lexicographic.{nat_list_cmp_total}
use Rattle.pb_place.specs.Memory.{set, unset}
use Rattle.pb_place_types.specs.Paths.{is_at_or_below}
use Rattle.pb_place_types.specs.World.{World, Map, Answers, written, removed, from_nothing, is_same_path}
use Rattle.pb_place_types.proofs.Folders.{sources_alike}
use Rattle.pb_place_types.proofs.MapLemmas.{get-kept}
use Rattle.pb_build_session.specs.declared.step.SessionStep.{SessionStep}
use Rattle.pb_build_session.specs.declared.step.SessionStep.TheVariants.{Write, Remove, Set, Unset, Build, Die, Fuse}
use Rattle.pb_build_turns.specs.Executor.{BuildState}
use Rattle.pb_build.specs.Kept.{SourcesStay}
use Rattle.pb_build.specs.Environment.{environment_of}
use Rattle.pb_build.specs.Session.{Point, Course, edit, edited, OneTarget, Unaffected}
use Rattle.pb_build.proofs.LookingAt.{looks_at_sources}

-- two worlds have the same sources where they agree outside the target folder
stay_by : (target : List ℕ) (old new : World) → ((q : List ℕ) → cond (not (is_at_or_below target q)) (get new.files q) None ≡ cond (not (is_at_or_below target q)) (get old.files q) None)
    → new.variables ≡ old.variables → SourcesStay target old new
stay_by target old new there variables = sources_alike target old new (λ q outside.
    sym (ap (λ b. cond (not b) (get new.files q) None) outside) ∙ there q ∙ ap (λ b. cond (not b) (get old.files q) None) outside) variables

stay_at : (target : List ℕ) (old new : World) → SourcesStay target old new → (q : List ℕ)
    → cond (not (is_at_or_below target q)) (get new.files q) None ≡ cond (not (is_at_or_below target q)) (get old.files q) None
stay_at target old new stay q =
    sym (get-kept new.files (λ p. not (is_at_or_below target p)) q) ∙ ap (λ (w : World). get w.files q) stay ∙ get-kept old.files (λ p. not (is_at_or_below target p)) q

same_variables : (target : List ℕ) (v w : World) → SourcesStay target v w → w.variables ≡ v.variables
same_variables target v w stay = ap (λ (x : World). x.variables) stay

inserted : {A : Type 0} (keep here : Bool) (b x y : Option A) → cond keep x None ≡ cond keep y None → cond keep (cond here b x) None ≡ cond keep (cond here b y) None
inserted true true b x y h = refl
inserted true false b x y h = h
inserted false here b x y h = refl

retained : {A : Type 0} (keep left : Bool) (x y : Option A) → cond keep x None ≡ cond keep y None → cond keep (cond left x None) None ≡ cond keep (cond left y None) None
retained true true x y h = h
retained true false x y h = refl
retained false left x y h = refl

-- an edit of worlds with the same sources
edit_alike : (target : List ℕ) (step : SessionStep) (v w : World) → SourcesStay target v w → SourcesStay target (edit step v) (edit step w)
edit_alike target (Write path text) v w stay =
    stay_by target (written path text v) (written path text w) (λ q.
    ap (λ (x : Option (List ℕ)). cond (not (is_at_or_below target q)) x None) (get-insert nat_list_cmp_total w.files path text q)
    ∙ inserted (not (is_at_or_below target q)) (is_same_path path q) (Some text) _ _ (stay_at target v w stay q)
    ∙ sym (ap (λ (x : Option (List ℕ)). cond (not (is_at_or_below target q)) x None) (get-insert nat_list_cmp_total v.files path text q))) (same_variables target v w stay)
edit_alike target (Remove path) v w stay =
    stay_by target (removed path v) (removed path w) (λ q.
    ap (λ (x : Option (List ℕ)). cond (not (is_at_or_below target q)) x None) (get-kept w.files (λ p. not (is_at_or_below path p)) q)
    ∙ retained (not (is_at_or_below target q)) (not (is_at_or_below path q)) _ _ (stay_at target v w stay q)
    ∙ sym (ap (λ (x : Option (List ℕ)). cond (not (is_at_or_below target q)) x None) (get-kept v.files (λ p. not (is_at_or_below path p)) q))) (same_variables target v w stay)
edit_alike target (Set name value) v w stay =
    stay_by target (set name value v) (set name value w) (stay_at target v w stay) (ap (λ (m : Map). insert m name value) (same_variables target v w stay))
edit_alike target (Unset name) v w stay = stay_by target (unset name v) (unset name w) (stay_at target v w stay) (ap (λ (m : Map). remove m name) (same_variables target v w stay))
edit_alike target _ v w stay = stay

-- the sources are those of the edits
sources_edited : (child : Answers) (target : List ℕ) (steps : List SessionStep) (v : World) (before after : Point) → SourcesStay target v before.moment.world → OneTarget target steps v → Course child steps before after
    → SourcesStay target (edited steps v) after.moment.world
sources_edited child target [] v before after stay one is = ap (λ (p : Point). from_nothing target p.moment.world) is ∙ stay
sources_edited child target (Write path text ∷ steps) v before after stay one (mid, e, rest) =
    sources_edited child target steps (edit (Write path text) v) mid after (ap (λ (p : Point). from_nothing target p.moment.world) e ∙ edit_alike target (Write path text) v before.moment.world stay) one.1 rest
sources_edited child target (Remove path ∷ steps) v before after stay one (mid, e, rest) =
    sources_edited child target steps (edit (Remove path) v) mid after (ap (λ (p : Point). from_nothing target p.moment.world) e ∙ edit_alike target (Remove path) v before.moment.world stay) one.1 rest
sources_edited child target (Set name value ∷ steps) v before after stay one (mid, e, rest) =
    sources_edited child target steps (edit (Set name value) v) mid after (ap (λ (p : Point). from_nothing target p.moment.world) e ∙ edit_alike target (Set name value) v before.moment.world stay) one.1 rest
sources_edited child target (Unset name ∷ steps) v before after stay one (mid, e, rest) =
    sources_edited child target steps (edit (Unset name) v) mid after (ap (λ (p : Point). from_nothing target p.moment.world) e ∙ edit_alike target (Unset name) v before.moment.world stay) one.1 rest
sources_edited child target (Die key death ∷ steps) v before after stay one (mid, same, rest) =
    sources_edited child target steps v mid after (ap (λ (p : Point). from_nothing target p.moment.world) same ∙ stay) one.1 rest
sources_edited child target (Fuse number ∷ steps) v before after stay one (mid, same, rest) =
    sources_edited child target steps v mid after (ap (λ (p : Point). from_nothing target p.moment.world) same ∙ stay) one.1 rest
sources_edited child target (Build o pick ∷ steps) v before after stay one (mid, built, rest) =
    let is : (environment_of o before.moment.world.variables).target ≡ target = ap (λ (m : Map). (environment_of o m).target) (same_variables target v before.moment.world stay) ∙ one.0 in
    let stays : SourcesStay target before.moment.world mid.moment.world =
    subst (SourcesStay target before.moment.world) (sym (ap (λ (m : BuildState). m.world) built.behind)) (subst (λ (t : List ℕ). SourcesStay t before.moment.world built.ended.world) is built.kept) in
    sources_edited child target steps v mid after (stays ∙ stay) one.1 rest

pub unaffected : Unaffected
unaffected child o steps before after r one course =
    let target : List ℕ = (environment_of o (edited steps before.moment.world).variables).target in
    let stay : SourcesStay target (edited steps before.moment.world) after.moment.world = sources_edited child target steps before.moment.world before after refl one course in
    let variables : after.moment.world.variables ≡ (edited steps before.moment.world).variables = same_variables target (edited steps before.moment.world) after.moment.world stay in
    let there : (environment_of o after.moment.world.variables).target ≡ target = ap (λ (m : Map). (environment_of o m).target) variables in (
      looks_at_sources child o after.moment.world (edited steps before.moment.world) r variables stay,
      looks_at_sources child o (edited steps before.moment.world) after.moment.world r (sym variables)
          (subst (λ (t : List ℕ). from_nothing t (edited steps before.moment.world) ≡ from_nothing t after.moment.world) (sym there) (sym stay)),
    )
