use Rattle.std.proofs.Common.{◌≡◌, ◌++◌, ◌∷◌, ◌∙◌, List, [], All, suc, map, true, ap, sym, subst, arith, append_assoc}
use Rattle.pb_manifest_types.specs.Letters.{is_name}
use Rattle.std.specs.List.{AllByRecursion}
use Rattle.pb_workspace_package.specs.Drafted.{IsBinaryNamed}
use Rattle.pb_workspace_package.proofs.Naming.{both_all}
use Rattle.pb_workspace_package.proofs.binaries.written_binaries.Goals as goal

-- one item more is made, and put behind those that are made already
made_step : {A B : Type 0} (f : A → B) (whole made now_made : List B) (old rest : List A) (x : A) (y : B) → old ≡ x ∷ rest → y ≡ f x → now_made ≡ made ++ y ∷ [] → made ++ map f old ≡ whole → now_made ++ map f rest ≡ whole
made_step f whole made now_made old rest x y cut is pushed before =
    ap (λ b. b ++ map f rest) (pushed ∙ ap (λ z. made ++ z ∷ []) is) ∙ append_assoc made (f x ∷ []) (map f rest) ∙ ap (λ xs. made ++ map f xs) (sym cut) ∙ before

-- what holds of all holds of the rest
rest_all : {A : Type 0} (P : A → Type 0) (old rest : List A) (x : A) → old ≡ x ∷ rest → All P old → All P rest
rest_all P old rest x cut all =
    let whole : All P (x ∷ rest) = subst (λ xs. All P xs) cut all in
    λ k d lt. whole (suc k) d (omega arith)

pub loop-binary-preserved : goal.loop-binary-preserved
loop-binary-preserved c = record {
  names = rest_all (λ b. is_name b.name ≡ true) _ _ _ c.in-Some.ensures.steps.0 c.loop-binary.invariant.names;
  made = λ sources are. made_step _ _ _ _ _ _ _ _ c.in-Some.ensures.steps.0 (c.in_ok-made.ensures.ok sources are) c.in_ok-push.ensures.ok (c.loop-binary.invariant.made sources are);
  good = subst (AllByRecursion IsBinaryNamed) (sym c.in_ok-push.ensures.ok) (both_all IsBinaryNamed _ _ c.loop-binary.invariant.good (c.in_ok-made.ensures.named, tt));
}
