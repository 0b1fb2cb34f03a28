-- Elements of lists and files in folders.
use Rattle.std.proofs.Common.{◌≡◌, ◌∙◌, ℕ, Bool, true, List, None, Contains, sym, ap, cond}
use Rattle.std.specs.List.{list_any}
use Rattle.std.proofs.lemmas.List.Folds.{Any-from_list_any, list_any_at}
use Rattle.std.specs.FinMap.{get}
use Rattle.pb_place_types.specs.Folders.{files_in}
use Rattle.pb_place_types.specs.Paths.{is_below}
use Rattle.pb_place_types.specs.World.{Map}
use Rattle.pb_place_types.proofs.MapLemmas.{get-kept}

pub any_at : {X : Type 0} (p : X → Bool) (xs : List X) → list_any p xs ≡ true → (x : X) × Contains xs x × (p x ≡ true)
any_at p xs e = let h = Any-from_list_any p xs e in (h.1, (h.0, h.2, h.3), h.4)

pub any_of : {X : Type 0} (p : X → Bool) (xs : List X) (x : X) → Contains xs x → p x ≡ true → list_any p xs ≡ true
any_of p xs x is e = list_any_at p xs is.0 x is.1 (ap p is.2 ∙ e)

-- the same files in a folder: the same at each path in it
pub inside_same : (folder : List ℕ) (m n : Map) → files_in folder n ≡ files_in folder m → (q : List ℕ) → is_below folder q ≡ true → get n q ≡ get m q
inside_same folder m n same q inside =
    sym (ap (λ b. cond b (get n q) None) inside) ∙ sym (get-kept n (is_below folder) q) ∙ ap (λ (x : Map). get x q) same ∙ get-kept m (is_below folder) q ∙ ap (λ b. cond b (get m q) None) inside
