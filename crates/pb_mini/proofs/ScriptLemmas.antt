-- Steps of a script.
use Rattle.std.proofs.Common.{◌≡◌, ℕ, false, cond, List, [], ◌∷◌, ◌++◌, Option, Some, None, codes, sym, ap, ◌∙◌, append_assoc}
use Rattle.std.proofs.lemmas.List.{append-nil}
use Rattle.pb_place_types.specs.Paths.{is_absolute}
use Rattle.pb_place_types.specs.World.{World}
use Rattle.pb_mini.specs.Lines.{ended}
use Rattle.pb_mini.specs.Lookups.{value_of}
use Rattle.pb_mini.specs.Script.{before, after_step, Goes, Wrote, shown, first_line, first_line_set, below_text, full_path, step_by}
use Rattle.pb_mini.specs.declared.output.Output.{Output}
use Rattle.pb_mini.specs.declared.script.Deed.{Deed}
use Rattle.pb_mini.specs.declared.script.Deed.TheVariants.{Show}

-- a relative path
pub relative_path : (pairs : List (List ℕ × List ℕ)) (w : World) (path text : List ℕ) (folder : Option (List ℕ)) → is_absolute path ≡ false → text ≡ below_text folder path → folder ≡ value_of pairs w (codes "CARGO_MANIFEST_DIR")
    → text ≡ full_path pairs w path
relative_path pairs w path text folder relative is value =
    is ∙ ap (λ f. below_text f path) value ∙ ap (λ r. cond r path (below_text (value_of pairs w (codes "CARGO_MANIFEST_DIR")) path)) (sym relative)

-- two lines, the second in parts
pub shown_pushed : (old one two three new key other name value n m v : List ℕ) → one ≡ old ++ ended (key ++ n) → n ≡ name → two ≡ one ++ other → three ≡ two ++ m → m ≡ name → new ≡ three ++ ended (61 ∷ [] ++ v) → v ≡ value
    → new ≡ old ++ (ended (key ++ name) ++ ended (other ++ name ++ 61 ∷ [] ++ value))
shown_pushed old one two three new key other name value n m v first is_n second third is_m last is_v =
    last ∙ ap (λ b. b ++ ended (61 ∷ [] ++ v)) (third ∙ ap (λ b. b ++ m) (second ∙ ap (λ b. b ++ other) first))
    ∙ (λ i. (((old ++ ended (key ++ is_n i)) ++ other) ++ is_m i) ++ ended (61 ∷ [] ++ is_v i))
    ∙ parts
  where
    parts : (((old ++ ended (key ++ name)) ++ other) ++ name) ++ ended (61 ∷ [] ++ value) ≡ old ++ (ended (key ++ name) ++ ended (other ++ name ++ 61 ∷ [] ++ value))
    parts = simp append_assoc

-- a line and another, which is the first line of a text
pub read_pushed : (old one new key other path p line l : List ℕ) (text : Option (List ℕ)) (t : List ℕ) → one ≡ old ++ ended (key ++ p) → p ≡ path → new ≡ one ++ ended (other ++ l) → l ≡ line → line ≡ first_line t → text ≡ Some t
    → ((u : List ℕ) → first_line_set (Some u) ≡ ended (other ++ first_line u)) → new ≡ old ++ (ended (key ++ path) ++ first_line_set text)
read_pushed old one new key other path p line l text t first is_p second is_l is_line is sets =
    second ∙ ap (λ b. b ++ ended (other ++ l)) first ∙ (λ i. (old ++ ended (key ++ is_p i)) ++ ended (other ++ (is_l ∙ is_line) i))
    ∙ append_assoc old (ended (key ++ path)) (ended (other ++ first_line t))
    ∙ ap (λ b. old ++ (ended (key ++ path) ++ b)) (sym (sets t) ∙ ap first_line_set (sym is))

-- a line alone
pub read_alone : (old one key path p : List ℕ) (text : Option (List ℕ)) → one ≡ old ++ ended (key ++ p) → p ≡ path → text ≡ None → one ≡ old ++ (ended (key ++ path) ++ first_line_set text)
read_alone old one key path p text first is_p is =
    first ∙ (λ i. old ++ ended (key ++ is_p i)) ∙ ap (λ b. old ++ b) (sym (append-nil (ended (key ++ path)))) ∙ ap (λ t. old ++ (ended (key ++ path) ++ first_line_set t)) (sym is)

pub show_done : (pairs : List (List ℕ × List ℕ)) (w : World) (rest : List ℕ) (deed : Deed) (value : Option (List ℕ)) (old new : Output) → deed ≡ Show → Wrote new old (shown rest value) → value ≡ value_of pairs w rest
    → Goes None new old (step_by deed pairs w rest)
show_done pairs w rest deed value old new is wrote same later =
    wrote later ∙ ap (λ v. before old (after_step (shown rest v) later)) same ∙ ap (λ d. before old (after_step (step_by d pairs w rest) later)) (sym is)
