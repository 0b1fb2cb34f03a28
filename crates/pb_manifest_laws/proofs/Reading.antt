-- How values are read from a document, and how they stand there.
use Rattle.std.proofs.Common.{◌≡◌, ◌∙◌, ℕ, Bool, true, false, if◌then◌else◌, List, [], ◌∷◌, map, Option, Some, None, Ok, Err, IfSome, unwrap_or, refl, sym, ap, subst}
use Rattle.std.specs.List.{AllByRecursion}
use Rattle.std.specs.Str.{bytes_eq}
use Rattle.std.proofs.lemmas.Slice.Eq.{bytes_eq-Decides}
use Rattle.toml.specs.Data.{Data, string, boolean, array, table, Items, no_items, item, Members, get_member, as_table}
use Rattle.toml.specs.View.{items_of}
use Rattle.pb_data.specs.UnlessOom.{◌>>=◌}
use Rattle.pb_manifest_types.specs.Keys.{spelled}
use Rattle.pb_manifest_types.specs.Letters.{has_zero}
use Rattle.pb_manifest_types.specs.Values.{Read}
use Rattle.pb_manifest.specs.Values.{optional, each, text_of, truth_of, array_of, path_of, zero_free, value_at, listed, is_true, truth_in, takes_workspace, is_taken, inheritable_in, or_default}
use Rattle.pb_manifest_types.specs.declared.fault.ManifestFault.TheVariants.{BadKind}
use Rattle.pb_manifest_types.specs.declared.inherited.Inheritable.{Inheritable}
use Rattle.pb_manifest_types.specs.declared.inherited.Inheritable.TheVariants.{Written, Workspace, Absent}
use Rattle.pb_manifest_types.specs.declared.inherited.Inherited.{Inherited}
use Rattle.pb_manifest_types.specs.declared.inherited.Inherited.TheVariants as inherited
use Rattle.pb_manifest_types.specs.declared.key.Key.{Key}
use Rattle.pb_manifest_types.specs.declared.key.Key.TheVariants as key
use Rattle.pb_manifest.proofs.Came.{came}
use Rattle.pb_manifest_laws.specs.Values.{IsPath, OptionalMeans, HoldsOr, Lists, HoldsOrTakes, HasOrTakes}

-- a value is read just where it stands, written so
pub record IsWrittenAs {A : Type 0} (read : Data → Read A) (write : A → Data) (Valid : A → Type 0) : Type 0 where
  pub only : (d : Data) (x : A) → read d ≡ Ok x → (d ≡ write x) × Valid x
  pub back : (x : A) → Valid x → read (write x) ≡ Ok x
  pub plain : (x : A) → as_table (write x) ≡ None

abbrev pub Any : {A : Type 0} → A → Type 0
Any x = Unit {0}

-- texts, truth values, paths
text_is : (k : Key) (d : Data) (x : List ℕ) → text_of k d ≡ Ok x → d ≡ string x
text_is k (string s) x h = let same : s ≡ x = cc in ap (λ t. string t) same
text_is k _ x h = cc

truth_is : (k : Key) (d : Data) (x : Bool) → truth_of k d ≡ Ok x → d ≡ boolean x
truth_is k (boolean s) x h = let same : s ≡ x = cc in ap (λ t. boolean t) same
truth_is k _ x h = cc

pub array_is : (k : Key) (d : Data) (x : Items) → array_of k d ≡ Ok x → d ≡ array x
array_is k (array s) x h = let same : s ≡ x = cc in ap (λ t. array t) same
array_is k _ x h = cc

pub table_is : (d : Data) (ms : Members) → as_table d ≡ Some ms → d ≡ table ms
table_is (table ns) ms h = let same : ns ≡ ms = cc in ap (λ t. table t) same
table_is _ ms h = cc

pub text_written : (k : Key) → IsWrittenAs (text_of k) (λ x. string x) Any
text_written k = record { only = λ d x h. (text_is k d x h, tt); back = λ x valid. refl; plain = λ x. refl }

pub truth_written : (k : Key) → IsWrittenAs (truth_of k) (λ x. boolean x) Any
truth_written k = record { only = λ d x h. (truth_is k d x h, tt); back = λ x valid. refl; plain = λ x. refl }

-- a text that says a value
pub spelled_so : {A : Type 0} (k : Key) (next : List ℕ → Read A) (spell : A → List ℕ) (Valid : A → Type 0) → ((text : List ℕ) (x : A) → next text ≡ Ok x → (text ≡ spell x) × Valid x)
    → ((x : A) → Valid x → next (spell x) ≡ Ok x) → IsWrittenAs (λ d. text_of k d >>= next) (λ x. string (spell x)) Valid
spelled_so k next spell Valid only back = record {
  only = λ d x h. let c = came (text_of k d) next x h in let v = only c.value x c.more in (text_is k d c.value c.was ∙ ap (λ t. string t) v.0, v.1);
  back = back;
  plain = λ x. refl;
}

zero_only : (k : Key) (text x : List ℕ) → zero_free k text ≡ Ok x → (text ≡ x) × IsPath x
unfolding has_zero
zero_only k text x h = by (has_zero text) refl h
  where
    by : (b : Bool) → has_zero text ≡ b → (if b then Err (BadKind k) else Ok text) ≡ Ok x → (text ≡ x) × IsPath x
    by true on h = cc
    by false on h = let same : text ≡ x = cc in (same, ap has_zero (sym same) ∙ on)

zero_back : (k : Key) (x : List ℕ) → IsPath x → zero_free k x ≡ Ok x
unfolding has_zero
zero_back k x is = ap (λ b. if b then Err (BadKind k) else Ok x) is

pub path_written : (k : Key) → IsWrittenAs (path_of k) (λ x. string x) IsPath
path_written k = spelled_so k (zero_free k) (λ x. x) IsPath (zero_only k) (zero_back k)

-- one of several words
pub chosen : {A : Type 0} (spell : A → List ℕ) (text word : List ℕ) (x : A) (rest : Read A) (y : A) → word ≡ spell x → (rest ≡ Ok y → text ≡ spell y) → (if bytes_eq text word then Ok x else rest) ≡ Ok y → text ≡ spell y
chosen {A} spell text word x rest y is later h = by (bytes_eq text word) refl h
  where
    by : (b : Bool) → bytes_eq text word ≡ b → (if b then Ok x else rest) ≡ Ok y → text ≡ spell y
    by true on h = let same : x ≡ y = cc in (bytes_eq-Decides text word).0 on ∙ is ∙ ap spell same
    by false on h = later h

-- `workspace = true`
pub truly : (found : Option Data) → is_true (truth_in found) ≡ true → found ≡ Some (boolean true)
truly (Some (boolean b)) h = ap (λ c. Some (boolean c)) h
truly None h = cc
truly (Some _) h = cc

pub says_so : (ms : Members) → takes_workspace ms ≡ true → get_member (spelled key.Workspace) ms ≡ Some (boolean true)
says_so ms h = truly (value_at key.Workspace ms) h

module _ {A : Type 0} (read : Data → Read A) (write : A → Data) (Valid : A → Type 0) (w : IsWrittenAs read write Valid) where
  -- a value that may be left out
  pub optional_only : (found : Option Data) (o : Option A) → optional read found ≡ Ok o → OptionalMeans write found o × IfSome o Valid
  optional_only None o h = let same : None ≡ o = cc in subst (λ q. OptionalMeans write None q × IfSome q Valid) same (refl, tt)
  optional_only (Some d) o h =
      let c = came (read d) (λ x. Ok (Some x)) o h in
      let v = w.only d c.value c.was in
      let same : Some c.value ≡ o = cc (c.more) in
      subst (λ q. OptionalMeans write (Some d) q × IfSome q Valid) same (ap (λ e. Some e) v.0, v.1)

  pub optional_back : (found : Option Data) (o : Option A) → OptionalMeans write found o → IfSome o Valid → optional read found ≡ Ok o
  optional_back found None holds valid = ap (optional read) holds
  optional_back found (Some x) holds valid = ap (optional read) holds ∙ ap (λ r. r >>= (λ y. Ok (Some y))) (w.back x valid)

  -- a default
  pub or_from : (default : A) (found : Option Data) (o : Option A) → OptionalMeans write found o → HoldsOr default write found (unwrap_or o default)
  or_from default found None holds = subst (λ f. HoldsOr default write f default) (sym holds) refl
  or_from default found (Some x) holds = subst (λ f. HoldsOr default write f x) (sym holds) refl

  pub or_to : (default : A) (found : Option Data) (x : A) → HoldsOr default write found x → (o : Option A) × OptionalMeans write found o × (unwrap_or o default ≡ x)
  or_to default None x h = (None, refl, sym h)
  or_to default (Some d) x h = (Some x, ap (λ e. Some e) h, refl)

  -- a list
  each_only : (ds : Items) (xs : List A) → each read ds ≡ Ok xs → (ds ≡ items_of (map write xs)) × AllByRecursion Valid xs
  each_only no_items xs h = let same : [] ≡ xs = cc in subst (λ ys. (no_items ≡ items_of (map write ys)) × AllByRecursion Valid ys) same (refl, tt)
  each_only (item d ds) xs h =
      let a = came (read d) (λ x. each read ds >>= (λ rest. Ok (x ∷ rest))) xs h in
      let b = came (each read ds) (λ rest. Ok (a.value ∷ rest)) xs a.more in
      let v = w.only d a.value a.was in
      let r = each_only ds b.value b.was in
      let same : a.value ∷ b.value ≡ xs = cc (b.more) in
      let whole : item d ds ≡ items_of (map write (a.value ∷ b.value)) = λ i. item (v.0 i) (r.0 i) in
      subst (λ ys. (item d ds ≡ items_of (map write ys)) × AllByRecursion Valid ys) same (whole, (v.1, r.1))

  each_back : (xs : List A) → AllByRecursion Valid xs → each read (items_of (map write xs)) ≡ Ok xs
  each_back [] all = refl
  each_back (x ∷ xs) all = λ i. w.back x all.0 i >>= (λ y. each_back xs all.1 i >>= (λ rest. Ok (y ∷ rest)))

  abbrev pub write_list : List A → Data
  write_list xs = array (items_of (map write xs))

  pub list_written : (k : Key) → IsWrittenAs (λ d. array_of k d >>= each read) write_list (AllByRecursion Valid)
  list_written k = record {
    only = λ d xs h. let c = came (array_of k d) (each read) xs h in let v = each_only c.value xs c.more in (array_is k d c.value c.was ∙ ap (λ ds. array ds) v.0, v.1);
    back = each_back;
    plain = λ xs. refl;
  }

  -- a value that may be taken from the workspace
  abbrev pub IfWritten : Inheritable A → Type 0
  IfWritten (Written x) = Valid x
  IfWritten _ = Unit {0}

  pub taken_only : (k : Key) (found : Option Data) (x : Inheritable A) → inheritable_in k read found ≡ Ok x → HoldsOrTakes write found x × IfWritten x
  unfolding spelled
  taken_only k None x h = let same : Absent ≡ x = cc in subst (λ q. HoldsOrTakes write None q × IfWritten q) same (refl, tt)
  taken_only k (Some d) x h = by (as_table d) refl h
    where
      on : (ms : Members) (b : Bool) → as_table d ≡ Some ms → takes_workspace ms ≡ b → ((if b then Ok true else Err (BadKind k)) >>= (λ taken. if taken then Ok Workspace else (read d >>= (λ y. Ok (Written y))))) ≡ Ok x
          → HoldsOrTakes write (Some d) x × IfWritten x
      on ms true at takes h =
          let same : Workspace ≡ x = cc in
          subst (λ q. HoldsOrTakes write (Some d) q × IfWritten q) same ((ms, ap (λ e. Some e) (table_is d ms at), says_so ms takes), tt)
      on ms false at takes h = cc

      by : (found : Option Members) → as_table d ≡ found → (is_taken k found >>= (λ taken. if taken then Ok Workspace else (read d >>= (λ y. Ok (Written y))))) ≡ Ok x → HoldsOrTakes write (Some d) x × IfWritten x
      by None at h =
          let c = came (read d) (λ y. Ok (Written y)) x h in
          let v = w.only d c.value c.was in
          let same : Written c.value ≡ x = cc (c.more) in
          subst (λ q. HoldsOrTakes write (Some d) q × IfWritten q) same (ap (λ e. Some e) v.0, v.1)
      by (Some ms) at h = on ms (takes_workspace ms) at refl h

  pub taken_back : (k : Key) (found : Option Data) (x : Inheritable A) → HoldsOrTakes write found x → IfWritten x → inheritable_in k read found ≡ Ok x
  unfolding spelled
  taken_back k found (Written y) holds valid =
      ap (inheritable_in k read) holds ∙ ap (λ t. is_taken k t >>= (λ taken. if taken then Ok Workspace else (read (write y) >>= (λ z. Ok (Written z))))) (w.plain y) ∙ ap (λ r. r >>= (λ z. Ok (Written z))) (w.back y valid)
  taken_back k found Workspace takes valid =
      let true_there : takes_workspace takes.0 ≡ true = ap (λ f. is_true (truth_in f)) takes.2 in
      ap (inheritable_in k read) takes.1 ∙ ap (λ b. (if b then Ok true else Err (BadKind k)) >>= (λ taken. if taken then Ok Workspace else (read (table takes.0) >>= (λ z. Ok (Written z))))) true_there
  taken_back k found Absent holds valid = ap (inheritable_in k read) holds

  -- and that has a default
  abbrev pub IfOwn : Inherited A → Type 0
  IfOwn (inherited.Written x) = Valid x
  IfOwn inherited.Workspace = Unit {0}

  with_default : (default : A) → Valid default → (found : Option Data) (x : Inheritable A) → HoldsOrTakes write found x → IfWritten x → HasOrTakes default write found (or_default default x) × IfOwn (or_default default x)
  with_default default fine found (Written y) holds valid = (subst (λ f. HoldsOr default write f y) (sym holds) refl, valid)
  with_default default fine found Workspace takes valid = (takes, tt)
  with_default default fine found Absent holds valid = (subst (λ f. HoldsOr default write f default) (sym holds) refl, fine)

  without_default : (default : A) (found : Option Data) (x : Inherited A) → HasOrTakes default write found x → IfOwn x → (y : Inheritable A) × HoldsOrTakes write found y × IfWritten y × (or_default default y ≡ x)
  without_default default None (inherited.Written y) holds valid = (Absent, refl, tt, ap (λ z. inherited.Written z) (sym holds))
  without_default default (Some d) (inherited.Written y) holds valid = (Written y, ap (λ e. Some e) holds, valid, refl)
  without_default default found inherited.Workspace takes valid = (Workspace, takes, tt, refl)

  pub inherited_only : (k : Key) (default : A) → Valid default → (found : Option Data) (x : Inherited A) → (inheritable_in k read found >>= (λ y. Ok (or_default default y))) ≡ Ok x → HasOrTakes default write found x × IfOwn x
  inherited_only k default fine found x h =
      let c = came (inheritable_in k read found) (λ y. Ok (or_default default y)) x h in
      let t = taken_only k found c.value c.was in
      let same : or_default default c.value ≡ x = cc (c.more) in
      subst (λ q. HasOrTakes default write found q × IfOwn q) same (with_default default fine found c.value t.0 t.1)

  pub inherited_back : (k : Key) (default : A) (found : Option Data) (x : Inherited A) → HasOrTakes default write found x → IfOwn x → (inheritable_in k read found >>= (λ y. Ok (or_default default y))) ≡ Ok x
  inherited_back k default found x holds valid =
      let t = without_default default found x holds valid in
      ap (λ r. r >>= (λ y. Ok (or_default default y))) (taken_back k found t.0 t.1 t.2) ∙ ap (λ z. Ok z) t.3

-- a list that may be left out
module _ {A : Type 0} (read : Data → Read A) (write : A → Data) (Valid : A → Type 0) (w : IsWrittenAs read write Valid) where
  all_listed : (o : Option (List A)) → IfSome o (AllByRecursion Valid) → AllByRecursion Valid (unwrap_or o [])
  all_listed None all = tt
  all_listed (Some xs) all = all

  pub lists_only : (k : Key) (found : Option Data) (xs : List A) → (optional (λ d. array_of k d >>= each read) found >>= (λ o. Ok (listed o))) ≡ Ok xs → Lists write found xs × AllByRecursion Valid xs
  lists_only k found xs h =
      let whole = list_written read write Valid w k in
      let c = came (optional (λ d. array_of k d >>= each read) found) (λ o. Ok (listed o)) xs h in
      let v = optional_only (λ d. array_of k d >>= each read) (write_list read write Valid w) (AllByRecursion Valid) whole found c.value c.was in
      let same : listed c.value ≡ xs = cc (c.more) in
      subst (λ ys. Lists write found ys × AllByRecursion Valid ys) same (or_from (λ d. array_of k d >>= each read) (write_list read write Valid w) (AllByRecursion Valid) whole [] found c.value v.0, all_listed c.value v.1)

  pub lists_back : (k : Key) (found : Option Data) (xs : List A) → Lists write found xs → AllByRecursion Valid xs → (optional (λ d. array_of k d >>= each read) found >>= (λ o. Ok (listed o))) ≡ Ok xs
  lists_back k None xs h all = ap (λ ys. Ok ys) (sym h)
  lists_back k (Some d) xs h all =
      ap (λ e. (array_of k e >>= each read) >>= (λ ys. Ok (Some ys)) >>= (λ o. Ok (listed o))) h ∙ ap (λ r. (r >>= (λ ys. Ok (Some ys))) >>= (λ o. Ok (listed o))) ((list_written read write Valid w k).back xs all)
