-- How a part at the beginning of a text is read. Only private functions need these definitions.
use Rattle.std.specs.Prelude.{◌≡◌, ◌≢◌, ◌<◌, ◌==◌, ℕ, Bool, false, not, ◌&&◌, List, [], ◌∷◌, ◌++◌, length}
use Rattle.std.proofs.Common.{get_or}
use Rattle.std.specs.List.{AllByRecursion}
use Rattle.pb_data.specs.Ascii.{plus, digit_zero}

-- the text begins with the bytes of the part `x`, and `rest` follows
pub record BeginsWith {A : Type 0} (Is : A → Type 0) (spelled : A → List ℕ) (text : List ℕ) (x : A) (rest : List ℕ) : Type 0 where
  pub is : Is x
  pub here : text ≡ spelled x ++ rest

-- the text begins with the bytes of some allowed part, and `rest` follows
pub record StandsSome {A : Type 0} (Is : A → Type 0) (spelled : A → List ℕ) (text : List ℕ) (rest : List ℕ) : Type 0 where
  pub part : A
  pub stands : BeginsWith Is spelled text part rest

-- the text does not begin with the bytes of an allowed part
pub record StandsNone {A : Type 0} (Is : A → Type 0) (spelled : A → List ℕ) (text : List ℕ) : Type 0 where
  pub never : (x : A) (rest : List ℕ) → BeginsWith Is spelled text x rest → ⊥

-- The bytes of a part are not empty and say where they end. So a text that begins with a part
-- determines this part and the rest.
pub record IsSpelling {A : Type 0} (spelled : A → List ℕ) : Type 0 where
  pub some : (x : A) → 0 < length (spelled x)
  pub apart : (x y : A) (rest more : List ℕ) → spelled x ++ rest ≡ spelled y ++ more → (x ≡ y) × (rest ≡ more)

-- the list has `count` items, and all of them are allowed
abbrev pub HasCount : {A : Type 0} → (A → Type 0) → ℕ → List A → Type 0
HasCount Is count xs = AllByRecursion Is xs × (length xs ≡ count)

-- the text has no line feed
abbrev pub HasNoFeed : List ℕ → Type 0
HasNoFeed text = (k : ℕ) → k < length text → get_or text k 0 ≢ 10

-- The digits may begin a number: there is no sign, and a 0 at the beginning is the only digit.
abbrev pub begins_well : List ℕ → Bool
begins_well [] = false
begins_well (d ∷ []) = not (d == plus)
begins_well (d ∷ e ∷ digits) = not (d == plus) && not (d == digit_zero)
