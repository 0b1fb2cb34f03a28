-- What is found below a folder.
use Rattle.std.proofs.Common.{◌≡◌, true, false, ℕ, List, [], ◌∷◌, ◌++◌, Option, Some, IfSome, All, sym, subst}
use Rattle.std.proofs.lemmas.List.Elements.{All-nil, All-push, All-pop}
use Rattle.std.specs.Option.{option_to_list}
use Rattle.pb_place_types.specs.Paths.{is_below, is_at_or_below}
use Rattle.pb_place_types.proofs.Within.{at_itself, at_then_below, at_below}
use Rattle.pb_place_host.specs.declared.listing.Waiting.{Waiting}
use Rattle.pb_place_host.specs.Listing.{AreBelow, AreOutside, is_left_out}

-- one file more
pub file_found : (above folder path : List ℕ) (old new : List (List ℕ)) → is_at_or_below above folder ≡ true → is_below folder path ≡ true → AreBelow above old → new ≡ old ++ path ∷ [] → AreBelow above new
file_found above folder path old new at inside all is = subst (AreBelow above) (sym is) (All-push (λ p. is_below above p ≡ true) old path all (at_then_below above folder path at inside))

-- one folder more
pub folder_found : (above folder : List ℕ) (waiting : Waiting) (old new : List Waiting) → is_at_or_below above folder ≡ true → is_below folder waiting.folder ≡ true → All (λ w. is_at_or_below above w.folder ≡ true) old → new ≡ old ++ waiting ∷ [] → All (λ (w : Waiting). is_at_or_below above w.folder ≡ true) new
folder_found above folder waiting old new at inside all is =
    subst (All (λ (w : Waiting). is_at_or_below above w.folder ≡ true)) (sym is) (All-push (λ (w : Waiting). is_at_or_below above w.folder ≡ true) old waiting all (at_below above waiting.folder (at_then_below above folder waiting.folder at inside)))

-- before the first folder is taken
pub none_found : (above : List ℕ) (files : List (List ℕ)) → files ≡ [] → AreBelow above files
none_found above files is = subst (AreBelow above) (sym is) (All-nil (λ p. is_below above p ≡ true))

pub none_waits : (above : List ℕ) (waiting : List Waiting) → waiting ≡ [] → All (λ (w : Waiting). is_at_or_below above w.folder ≡ true) waiting
none_waits above waiting is = subst (All (λ (w : Waiting). is_at_or_below above w.folder ≡ true)) (sym is) (All-nil (λ (w : Waiting). is_at_or_below above w.folder ≡ true))

pub none_outside : (left_out : Option (List ℕ)) (files : List (List ℕ)) → files ≡ [] → AreOutside left_out files
none_outside left_out files is = subst (AreOutside left_out) (sym is) (All-nil (λ p. is_left_out left_out p ≡ false))

pub first_waits : (folder : List ℕ) (waiting : Waiting) (old new : List Waiting) → folder ≡ waiting.folder → old ≡ [] → new ≡ old ++ waiting ∷ [] → All (λ (w : Waiting). is_at_or_below folder w.folder ≡ true) new
first_waits folder waiting old new same none is =
    subst (All (λ (w : Waiting). is_at_or_below folder w.folder ≡ true)) (sym is)
    (All-push (λ (w : Waiting). is_at_or_below folder w.folder ≡ true) old waiting (subst (All (λ (w : Waiting). is_at_or_below folder w.folder ≡ true)) (sym none) (All-nil (λ (w : Waiting). is_at_or_below folder w.folder ≡ true))) (at_itself folder waiting.folder same))

-- the folder that is taken, and those that still wait
pub one_taken : (folder : List ℕ) (here : Waiting) (old new : List Waiting) (taken : Option Waiting) → taken ≡ Some here → old ≡ new ++ option_to_list taken → All (λ (w : Waiting). is_at_or_below folder w.folder ≡ true) old
    → All (λ (w : Waiting). is_at_or_below folder w.folder ≡ true) new × (is_at_or_below folder here.folder ≡ true)
one_taken folder here old new taken one is all =
    let both : All (λ (w : Waiting). is_at_or_below folder w.folder ≡ true) new × IfSome taken (λ w. is_at_or_below folder w.folder ≡ true) = All-pop (λ (w : Waiting). is_at_or_below folder w.folder ≡ true) old new taken is all in
    (both.0, subst (λ (t : Option Waiting). IfSome t (λ w. is_at_or_below folder w.folder ≡ true)) one both.1)
