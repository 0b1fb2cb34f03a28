-- A walk over packages in which no entry so far leads to a package that fails a test.
use Rattle.std.proofs.Common.{◌≡◌, ℕ, ◌+◌, ◌<◌, Bool, false, ◌||◌, List, ◌∷◌, Option, add-one, length, get_or, drop, sym, ap, ◌∙◌}
use Rattle.std.proofs.Math.Seq.{drop-cons}
use Rattle.std.specs.List.{list_any}
use Rattle.pb_workspace_package.specs.declared.unresolved_package.UnresolvedPackage.{UnresolvedPackage}
use Rattle.pb_workspace_package.specs.declared.wanted.Wanted.{Wanted}
use Rattle.pb_workspace.specs.Indices.{draft_in}

module _ (test : Wanted → Option UnresolvedPackage → Bool) (drafts : List UnresolvedPackage) where
  abbrev leads : UnresolvedPackage → Bool
  leads d = list_any (λ (w : Wanted). test w (draft_in drafts w.folder)) d.wanted

  pub none_leads : (i : ℕ) (d : UnresolvedPackage) (wanted : List Wanted) (found whole : Bool) → i < length drafts → d ≡ get_or drafts i d → wanted ≡ d.wanted
      → found ≡ list_any (λ (w : Wanted). test w (draft_in drafts w.folder)) wanted → found ≡ false → list_any leads (drop i drafts) ≡ whole → list_any leads (drop (i + 1) drafts) ≡ whole
  none_leads i d wanted found whole lt is lent says none before =
      let rest : List UnresolvedPackage = drop (i + 1) drafts in
      let here : leads d ≡ false = ap (list_any (λ (w : Wanted). test w (draft_in drafts w.folder))) (sym lent) ∙ sym says ∙ none in
      sym (ap (list_any leads) (drop-cons drafts i d lt ∙ ap (λ n. get_or drafts i d ∷ drop n drafts) (sym (add-one i)) ∙ ap (λ x. x ∷ rest) (sym is)) ∙ ap (λ b. b || list_any leads rest) here) ∙ before
