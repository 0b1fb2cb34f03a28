-- A loop over the entries of a table, or over the values of a list: one more is read.
use Rattle.std.proofs.Common.{◌≡◌, ℕ, suc, ◌+◌, ◌<◌, List, [], ◌∷◌, ◌++◌, length, drop, get_or, ap, sym, ◌∙◌, refl, Ok, Err, String, string_bytes, append_assoc, add-one, drop-cons}
use Rattle.std.specs.declared.alloc.Global.{Global}
use Rattle.toml.specs.Data.{Data, Items, Members, item, member}
use Rattle.toml.specs.View.{view, items_view, members_view}
use Rattle.toml.specs.declared.value.Value.{Value}
use Rattle.pb_data.specs.UnlessOom.{◌>>=◌}
use Rattle.pb_manifest_types.specs.Values.{Text, Read}
use Rattle.pb_manifest.specs.Values.{each, each_entry, keys_of}

-- what is read of the rest, behind what is read already
abbrev pub behind : {A : Type 0} → List A → Read (List A) → Read (List A)
behind made rest = rest >>= (λ xs. Ok (made ++ xs))

moved : {A : Type 0} (made : List A) (x : A) (rest : Read (List A)) → behind (made ++ x ∷ []) rest ≡ behind made (rest >>= (λ xs. Ok (x ∷ xs)))
moved made x (Ok xs) = ap Ok (append_assoc made (x ∷ []) xs)
moved made x (Err e) = refl

next_member : {A : Type 0} (read : Text → Data → Read A) (made : List A) (name : Text) (d : Data) (ms : Members) (x : A) → read name d ≡ Ok x
    → behind (made ++ x ∷ []) (each_entry read ms) ≡ behind made (each_entry read (member name d ms))
next_member {A} read made name d ms x one = moved made x (each_entry read ms) ∙ ap (λ (r : Read A). behind made (r >>= (λ y. each_entry read ms >>= (λ ys. Ok (y ∷ ys))))) (sym one)

-- one entry more is read, and put behind what is read already
pub next_entry : {A : Type 0} (read : Text → Data → Read A) (whole : Read (List A)) (made now_made : List A) (entries rest : List (String Global × Value)) (name : String Global) (text : Text) (v : Value) (x : A)
    → entries ≡ (name, v) ∷ rest → text ≡ string_bytes name → read text (view v) ≡ Ok x → now_made ≡ made ++ x ∷ []
    → behind made (each_entry read (members_view entries)) ≡ whole → behind now_made (each_entry read (members_view rest)) ≡ whole
next_entry {A} read whole made now_made entries rest name text v x are is one pushed before =
    ap (λ (m : List A). behind m (each_entry read (members_view rest))) pushed
    ∙ next_member read made (string_bytes name) (view v) (members_view rest) x (ap (λ t. read t (view v)) (sym is) ∙ one)
    ∙ ap (λ (es : List (String Global × Value)). behind made (each_entry read (members_view es))) (sym are)
    ∙ before

next_of : {A : Type 0} (read : Data → Read A) (made : List A) (d : Data) (ds : Items) (x : A) → read d ≡ Ok x → behind (made ++ x ∷ []) (each read ds) ≡ behind made (each read (item d ds))
next_of {A} read made d ds x one = moved made x (each read ds) ∙ ap (λ (r : Read A). behind made (r >>= (λ y. each read ds >>= (λ ys. Ok (y ∷ ys))))) (sym one)

cut_at : (values : List Value) (i : ℕ) (v : Value) → i < length values → v ≡ get_or values i v → drop i values ≡ v ∷ drop (i + 1) values
cut_at values i v within is = drop-cons values i v within ∙ ap (λ y. y ∷ drop (suc i) values) (sym is) ∙ ap (λ n. v ∷ drop n values) (sym (add-one i))

-- one value more is read, and put behind what is read already
pub next_item : {A : Type 0} (read : Data → Read A) (whole : Read (List A)) (made now_made : List A) (values : List Value) (i : ℕ) (v : Value) (x : A)
    → i < length values → v ≡ get_or values i v → read (view v) ≡ Ok x → now_made ≡ made ++ x ∷ []
    → behind made (each read (items_view (drop i values))) ≡ whole → behind now_made (each read (items_view (drop (i + 1) values))) ≡ whole
next_item {A} read whole made now_made values i v x within is one pushed before =
    ap (λ (m : List A). behind m (each read (items_view (drop (i + 1) values)))) pushed
    ∙ next_of read made (view v) (items_view (drop (i + 1) values)) x one
    ∙ ap (λ (vs : List Value). behind made (each read (items_view vs))) (sym (cut_at values i v within is))
    ∙ before

-- one key more is put behind those that are there
pub next_key : (whole made now_made : List Text) (entries rest : List (String Global × Value)) (name : String Global) (text : Text) (v : Value)
    → entries ≡ (name, v) ∷ rest → text ≡ string_bytes name → now_made ≡ made ++ text ∷ []
    → made ++ keys_of (members_view entries) ≡ whole → now_made ++ keys_of (members_view rest) ≡ whole
next_key whole made now_made entries rest name text v are is pushed before =
    ap (λ m. m ++ keys_of (members_view rest)) (pushed ∙ ap (λ t. made ++ t ∷ []) is)
    ∙ append_assoc made (string_bytes name ∷ []) (keys_of (members_view rest))
    ∙ ap (λ (es : List (String Global × Value)). made ++ keys_of (members_view es)) (sym are)
    ∙ before
