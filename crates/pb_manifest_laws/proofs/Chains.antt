-- Readings one after another, none of which looks at what another gave.
use Rattle.std.proofs.Common.{◌≡◌, ◌∙◌, Ok, Err, refl, ap}
use Rattle.pb_data.specs.UnlessOom.{◌>>=◌}
use Rattle.pb_manifest_types.specs.Values.{Read}

pub three : {A B C D : Type 0} (y : D) (p : Read A) (q : Read B) (r : Read C) (f : A → B → C → D) → (p >>= (λ a. q >>= (λ b. r >>= (λ c. Ok (f a b c))))) ≡ Ok y
    → (a : A) × (b : B) × (c : C) × (p ≡ Ok a) × (q ≡ Ok b) × (r ≡ Ok c) × (f a b c ≡ y)
three y (Err e) q r f h = cc
three y (Ok a) (Err e) r f h = cc
three y (Ok a) (Ok b) (Err e) f h = cc
three y (Ok a) (Ok b) (Ok c) f h = (a, b, c, refl, refl, refl, cc)

pub four : {A B C D E : Type 0} (y : E) (p : Read A) (q : Read B) (r : Read C) (s : Read D) (f : A → B → C → D → E) → (p >>= (λ a. q >>= (λ b. r >>= (λ c. s >>= (λ d. Ok (f a b c d)))))) ≡ Ok y
    → (a : A) × (b : B) × (c : C) × (d : D) × (p ≡ Ok a) × (q ≡ Ok b) × (r ≡ Ok c) × (s ≡ Ok d) × (f a b c d ≡ y)
four y (Err e) q r s f h = cc
four y (Ok a) q r s f h = let t = three y q r s (f a) h in (a, t.0, t.1, t.2, refl, t.3, t.4, t.5, t.6)

pub five : {A B C D E F : Type 0} (y : F) (p : Read A) (q : Read B) (r : Read C) (s : Read D) (t : Read E) (f : A → B → C → D → E → F)
    → (p >>= (λ a. q >>= (λ b. r >>= (λ c. s >>= (λ d. t >>= (λ e. Ok (f a b c d e))))))) ≡ Ok y
    → (a : A) × (b : B) × (c : C) × (d : D) × (e : E) × (p ≡ Ok a) × (q ≡ Ok b) × (r ≡ Ok c) × (s ≡ Ok d) × (t ≡ Ok e) × (f a b c d e ≡ y)
five y (Err e) q r s t f h = cc
five y (Ok a) q r s t f h = let u = four y q r s t (f a) h in (a, u.0, u.1, u.2, u.3, refl, u.4, u.5, u.6, u.7, u.8)

pub then_back : {A B : Type 0} (first : Read A) (next : A → Read B) (x : A) (y : B) → first ≡ Ok x → next x ≡ Ok y → (first >>= next) ≡ Ok y
then_back first next x y was more = ap (λ r. r >>= next) was ∙ more

pub four_on : {A B C D E : Type 0} (y : E) (p : Read A) (q : Read B) (r : Read C) (s : Read D) (f : A → B → C → D → Read E) → (p >>= (λ a. q >>= (λ b. r >>= (λ c. s >>= (λ d. f a b c d))))) ≡ Ok y
    → (a : A) × (b : B) × (c : C) × (d : D) × (p ≡ Ok a) × (q ≡ Ok b) × (r ≡ Ok c) × (s ≡ Ok d) × (f a b c d ≡ Ok y)
four_on y (Err e) q r s f h = cc
four_on y (Ok a) (Err e) r s f h = cc
four_on y (Ok a) (Ok b) (Err e) s f h = cc
four_on y (Ok a) (Ok b) (Ok c) (Err e) f h = cc
four_on y (Ok a) (Ok b) (Ok c) (Ok d) f h = (a, b, c, d, refl, refl, refl, refl, h)
