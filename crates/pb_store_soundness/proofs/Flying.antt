-- Records while other units' children are in flight.
use Rattle.std.proofs.Common.{◌≡◌, ◌≢◌, ◌∙◌, ◌||◌, ℕ, Bool, true, false, List, [], ◌∷◌, Some, Contains, refl, sym, ap, subst, inl, inr, arith}
use Rattle.std.proofs.lemmas.Bool.{cases_Bool}
use Rattle.std.proofs.lemmas.List.Elements.{Contains-append_right}
use Rattle.pb_place_types.specs.Folders.{files_in, FoldersAgree, LieApart}
use Rattle.pb_place_types.specs.Paths.{is_path, is_at_or_below}
use Rattle.pb_place_types.specs.World.{World, ChangesOnly, seen_by}
use Rattle.pb_place_types.specs.declared.command.Command.{Command}
use Rattle.pb_place_types.proofs.Folders.{files_alike, sources_alike, sees_alike}
use Rattle.pb_place_types.proofs.Within.{at_below, at_or_below_on, outside_within, share_no_path}
use Rattle.pb_store_soundness.specs.Records.{RecordParser, is_key, out_of, record_path, record_at}
use Rattle.pb_store_soundness.specs.Apart.{is_of, ReadsOthers, OthersLaw}
use Rattle.pb_store_soundness.specs.Numbers.{NumberWaitsLaw}
use Rattle.pb_store_soundness.proofs.RecordPaths.{is_same, no_key, out_in, record_below, record_outside, records_differ, outs_apart, out_record_apart, record_same}

pub contains_head : {X : Type 0} (x : X) (xs : List X) → Contains (x ∷ xs) x
contains_head x xs = (0, omega arith, refl)

pub contains_tail : {X : Type 0} (x : X) (xs : List X) (v : X) → Contains xs v → Contains (x ∷ xs) v
contains_tail x xs v h = Contains-append_right (x ∷ []) xs v h

neither : (a b : Bool) → a ≡ false → b ≡ false → a || b ≡ false
neither a b p q = ap (λ x. x || b) p ∙ q

module _ (folder key : List ℕ) (old new : World) (path : is_path folder ≡ true) (is : is_key key ≡ true) (only : ChangesOnly (is_of folder key) old new) where
  -- what lies apart from both of the unit's paths
  folder_apart : (f : List ℕ) → LieApart f (out_of folder key) → LieApart f (record_path folder key) → files_in f new.files ≡ files_in f old.files
  folder_apart f out place = files_alike f new.files old.files (λ q inside. only.files q (neither (is_at_or_below (out_of folder key) q) (is_at_or_below (record_path folder key) q)
      (share_no_path f (out_of folder key) q out.first out.second out.not_below_first out.not_below_second (at_below f q inside))
      (share_no_path f (record_path folder key) q place.first place.second place.not_below_first place.not_below_second (at_below f q inside))))

  pub unit_files : (l : List ℕ) → is_key l ≡ true → l ≢ key → files_in (out_of folder l) new.files ≡ files_in (out_of folder l) old.files
  unit_files l is_l apart = folder_apart (out_of folder l) (outs_apart folder l key path is_l is apart) (out_record_apart folder l key path is_l is)

  pub unit_record : (read : RecordParser) (l : List ℕ) → l ≢ key → record_at read folder new.files l ≡ record_at read folder old.files l
  unit_record read l apart = elim (cases_Bool (is_key l)) [
    | inl is_l ↦ record_same read folder old.files new.files l (only.files (record_path folder l) (neither (is_at_or_below (out_of folder key) (record_path folder l)) (is_at_or_below (record_path folder key) (record_path folder l))
        (record_outside folder key l is is_l) (records_differ folder key l is is_l (λ e. apart (sym e)))))
    | inr wrong ↦ no_key read folder new.files l wrong ∙ sym (no_key read folder old.files l wrong)
  ]

  folders_agree : (fs : List (List ℕ)) → ((f : List ℕ) → Contains fs f → (v : List ℕ) × (is_key v ≡ true) × (v ≢ key) × (f ≡ out_of folder v)) → FoldersAgree fs new old
  folders_agree [] others = tt
  folders_agree (f ∷ fs) others =
      let (v, is_v, apart, same) = others f (contains_head f fs) in
      (subst (λ x. files_in x new.files ≡ files_in x old.files) (sym same) (unit_files v is_v apart), folders_agree fs (λ g has. others g (contains_tail f fs g has)))

  pub unit_seen : (c : Command) → is_at_or_below c.target folder ≡ true → ReadsOthers folder key c → seen_by c new ≡ seen_by c old
  unit_seen c inside others = sees_alike c new old
      (sources_alike c.target old new (λ q outside. only.files q (neither (is_at_or_below (out_of folder key) q) (is_at_or_below (record_path folder key) q)
      (outside_within c.target (out_of folder key) q (at_or_below_on c.target folder (out_of folder key) inside (at_below folder (out_of folder key) (out_in folder key is))) outside)
      (outside_within c.target (record_path folder key) q (at_or_below_on c.target folder (record_path folder key) inside (at_below folder (record_path folder key) (record_below folder key is))) outside))) only.variables)
      (folders_agree c.reads others)

pub others : OthersLaw
others read folder key c old new path is inside apart only =
    (unit_seen folder key old new path is only c inside apart, λ l ne. unit_record folder key old new path is only read l ne, λ l is_l ne. unit_files folder key old new path is only l is_l ne)

-- numbers
pub number_waits : NumberWaitsLaw
number_waits old new key number same none put_there other r at = elim (is_same other key) [
  | inl this ↦ let (mine, theirs) = put_there r (subst (λ k. new k ≡ Some r) this at) in
      (mine, λ need names. let (s, stands, numbered_s) = theirs need number names in (none need s stands).0 numbered_s)
  | inr apart ↦ none other r (sym (same other apart) ∙ at)
]
