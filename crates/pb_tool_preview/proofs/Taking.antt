-- The fates of some first units, one unit more.
use Rattle.std.proofs.Common.{◌≡◌, ◌∙◌, ◌+◌, ◌<◌, ◌++◌, ℕ, List, [], ◌∷◌, Option, Some, ap, get_or, length, refl, slice_get, subst, sym, take}
use Rattle.std.proofs.lemmas.List.{take_more}
use Rattle.std.proofs.lemmas.Option.{slice_get_read}
use Rattle.pb_command_types.specs.declared.project.Project.{Project}
use Rattle.pb_command_types.specs.declared.project.Setup.{Setup}
use Rattle.pb_directive.specs.declared.directive.Directive.{Directive}
use Rattle.pb_place_types.specs.World.{World}
use Rattle.pb_tool_preview.specs.Foreseeing.{Foresees, IsFate, more, nothing}
use Rattle.pb_tool_preview.specs.declared.fate.Fate.{Fate}
use Rattle.pb_unit.specs.declared.plan.Planned.{Planned}

pub one_more : (setup : Setup) (project : Project) (first now : World) (units : List Planned) (i : ℕ) (u : Planned) (fates : List Fate) (done : List (Option (List Directive))) (fate : Fate) (said : Option (List Directive))
    → i < length units → u ≡ get_or units i u → now ≡ first → Foresees setup project first (take i units) fates done → IsFate setup project now fates done u fate said
    → Foresees setup project first (take (i + 1) units) (fates ++ fate ∷ []) (done ++ said ∷ [])
one_more setup project first now units i u fates done fate said within is same before seen =
    subst (λ some. Foresees setup project first some (fates ++ fate ∷ []) (done ++ said ∷ []))
    (ap (λ (x : Planned). take i units ++ x ∷ []) is ∙ sym (take_more units i u within))
    (more (take i units) fates done u fate said before (subst (λ (w : World). IsFate setup project w fates done u fate said) same seen))

-- the same, of the lists that calls returned
pub one_more_as : (setup : Setup) (project : Project) (first now : World) (units : List Planned) (i : ℕ) (u : Planned) (fates shown fates' : List Fate) (done known done' : List (Option (List Directive))) (fate : Fate) (said : Option (List Directive))
    → i < length units → u ≡ get_or units i u → now ≡ first → shown ≡ fates → known ≡ done → fates' ≡ fates ++ fate ∷ [] → done' ≡ done ++ said ∷ []
    → Foresees setup project first (take i units) fates done → IsFate setup project now shown known u fate said → Foresees setup project first (take (i + 1) units) fates' done'
one_more_as setup project first now units i u fates shown fates' done known done' fate said within is same shows knows longer more_done before seen =
    subst (λ (fs : List Fate). Foresees setup project first (take (i + 1) units) fs done') (sym longer)
    (subst (λ (ds : List (Option (List Directive))). Foresees setup project first (take (i + 1) units) (fates ++ fate ∷ []) ds) (sym more_done)
    (one_more setup project first now units i u fates done fate said within is same before
    (subst (λ (fs : List Fate). IsFate setup project now fs done u fate said) shows
    (subst (λ (ds : List (Option (List Directive))). IsFate setup project now shown ds u fate said) knows seen))))

pub none_yet : (setup : Setup) (project : Project) (w : World) (fates : List Fate) (done : List (Option (List Directive))) → fates ≡ [] → done ≡ [] → Foresees setup project w [] fates done
none_yet setup project w fates done no_fates none_done =
    subst (λ (fs : List Fate). Foresees setup project w [] fs done) (sym no_fates) (subst (λ (ds : List (Option (List Directive))). Foresees setup project w [] [] ds) (sym none_done) nothing)

-- the unit that a loop over the units of a plan is at
pub unit_there : (planned units : List Planned) (i : ℕ) (u : Planned) → units ≡ planned → i < length units → u ≡ get_or units i u → slice_get planned i ≡ Some u
unit_there planned units i u same within is = subst (λ (us : List Planned). slice_get us i ≡ Some u) same (slice_get_read units (length units) i u refl within is)
