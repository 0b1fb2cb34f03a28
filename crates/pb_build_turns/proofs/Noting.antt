-- What is noted of the first units, one more.
use Rattle.std.proofs.Common.{◌≡◌, ◌∙◌, ◌++◌, List, [], ◌∷◌, ℕ, zero, suc, Option, Some, sym, ap, slice_get, take, append_assoc, append-nil}
use Rattle.pb_directive.specs.declared.directive.Directive.{Directive}
use Rattle.pb_run_flight.proofs.Lists.{injective, clash}
use Rattle.pb_build_turns.specs.Rows.{keyed, Reasons, kept_key, kept_of, noted_of}
use Rattle.pb_unit.specs.declared.plan.Planned.{Planned}
use Rattle.pb_store.specs.declared.difference.Difference.{Difference}

pub noted_more : (us : List Planned) (ds : List (Option (List Directive))) (k : ℕ) (u : Planned) (d : Option (List Directive)) → slice_get us k ≡ Some u → slice_get ds k ≡ Some d
    → noted_of (take (suc k) us) (take (suc k) ds) ≡ noted_of (take k us) (take k ds) ++ keyed u.key d
noted_more [] ds k u d at_u at_d = absurd (clash at_u)
noted_more (v ∷ us) [] k u d at_u at_d = absurd (clash at_d)
noted_more (v ∷ us) (e ∷ ds) zero u d at_u at_d = append-nil (keyed v.key e) ∙ ap (λ (x : Planned). keyed x.key e) (injective at_u) ∙ ap (keyed u.key) (injective at_d)
noted_more (v ∷ us) (e ∷ ds) (suc k) u d at_u at_d = ap (λ l. keyed v.key e ++ l) (noted_more us ds k u d at_u at_d) ∙ sym (append_assoc (keyed v.key e) (noted_of (take k us) (take k ds)) (keyed u.key d))

pub kept_more : (us : List Planned) (rs : Reasons) (k : ℕ) (u : Planned) (r : Option (Option Difference)) → slice_get us k ≡ Some u → slice_get rs k ≡ Some r
    → kept_of (take (suc k) us) (take (suc k) rs) ≡ kept_of (take k us) (take k rs) ++ kept_key u.key r
kept_more [] rs k u r at_u at_r = absurd (clash at_u)
kept_more (v ∷ us) [] k u r at_u at_r = absurd (clash at_r)
kept_more (v ∷ us) (e ∷ rs) zero u r at_u at_r = append-nil (kept_key v.key e) ∙ ap (λ (x : Planned). kept_key x.key e) (injective at_u) ∙ ap (kept_key u.key) (injective at_r)
kept_more (v ∷ us) (e ∷ rs) (suc k) u r at_u at_r = ap (λ l. kept_key v.key e ++ l) (kept_more us rs k u r at_u at_r) ∙ sym (append_assoc (kept_key v.key e) (kept_of (take k us) (take k rs)) (kept_key u.key r))
