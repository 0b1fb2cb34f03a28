-- The packages without a library to which enabled entries lead.
use Rattle.std.proofs.Common.{◌≡◌, ◌⊎◌, inl, inr, ℕ, Bool, true, false, not, ◌&&◌, List, [], ◌∷◌, refl, sym, subst, slice_get, Contains}
use Rattle.std.specs.Prelude.{◌||◌}
use Rattle.std.proofs.lemmas.Bool.{false≢true, and_parts}
use Rattle.pb_graph.proofs.Placed.{placed_from, placed_to, where_true, at_true}
use Rattle.pb_graph.proofs.Membership.{single, head}
use Rattle.pb_workspace_types.specs.Workspace.{HasEntry}
use Rattle.pb_workspace_types.specs.declared.package.Side.{Side}
use Rattle.pb_workspace_types.specs.declared.package.Side.TheVariants.{Target, Host}
use Rattle.pb_workspace_types.specs.declared.package.Entry.{Entry}
use Rattle.pb_workspace_types.specs.declared.workspace.Workspace.{Workspace}
use Rattle.pb_feature_types.specs.declared.features.Features.{Features}
use Rattle.pb_feature_types.specs.Features.{is_enabled}
use Rattle.pb_unit.specs.Units.{name_at, has_library}
use Rattle.pb_unit.specs.Drawing.{missing_by, missing_at, all_missing}

-- an enabled entry that leads to a package of this name without a library
abbrev pub IsMissing : Workspace → Features → List ℕ → Type 0
IsMissing ws features name = (p : ℕ) × (s : Side) × (n : ℕ) × (e : Entry) × (is_enabled features p s n ≡ true) × HasEntry ws p n e × (has_library (slice_get ws.packages e.to) ≡ false) × (name ≡ name_at ws e.to)

off : (b : Bool) → not b ≡ true → b ≡ false
off true h = absurd (false≢true h)
off false h = refl

on : (b : Bool) → b ≡ false → not b ≡ true
on true h = absurd (false≢true (sym h))
on false h = refl

one_of : (a b : Bool) → a || b ≡ true → (a ≡ true) ⊎ (b ≡ true)
one_of true b h = inl refl
one_of false b h = inr h

or_left : (a b : Bool) → a ≡ true → a || b ≡ true
or_left true b h = refl
or_left false b h = absurd (false≢true h)

or_right : (a b : Bool) → b ≡ true → a || b ≡ true
or_right true b h = refl
or_right false b h = h

both : (a b : Bool) → a ≡ true → b ≡ true → a && b ≡ true
both true b p q = q
both false b p q = absurd (false≢true p)

pub missing_to : (ws : Workspace) (features : Features) (name : List ℕ) → Contains (all_missing ws features) name → IsMissing ws features name
missing_to ws features name has =
    let (p, owner, at, has') = placed_from (missing_at ws features) ws.packages name has in
    let (n, e, index, has'') = placed_from (missing_by ws features p) owner.entries name has' in
    let (test, one) = where_true _ (name_at ws e.to ∷ []) name has'' in
    let (enabled, none) = and_parts _ _ test in
    let there : HasEntry ws p n e = record { owner = owner; package_at = at; entry_at = index } in
    let is : name ≡ name_at ws e.to = sym (single (name_at ws e.to) name one) in
    elim (one_of _ _ enabled) [
      | inl target ↦ (p, Target, n, e, target, there, off _ none, is)
      | inr host ↦ (p, Host, n, e, host, there, off _ none, is)
    ]

on_side : (features : Features) (p n : ℕ) (s : Side) → is_enabled features p s n ≡ true → is_enabled features p Target n || is_enabled features p Host n ≡ true
on_side features p n Target h = or_left (is_enabled features p Target n) (is_enabled features p Host n) h
on_side features p n Host h = or_right (is_enabled features p Target n) (is_enabled features p Host n) h

pub missing_from : (ws : Workspace) (features : Features) (name : List ℕ) → IsMissing ws features name → Contains (all_missing ws features) name
missing_from ws features name (p, s, n, e, enabled, there, none, is) =
    let test = both (is_enabled features p Target n || is_enabled features p Host n) (not (has_library (slice_get ws.packages e.to))) (on_side features p n s enabled) (on (has_library (slice_get ws.packages e.to)) none) in
    let one : Contains (missing_by ws features p n e) name = at_true _ (name_at ws e.to ∷ []) name test (subst (Contains (name_at ws e.to ∷ [])) (sym is) (head (name_at ws e.to) [])) in
    placed_to (missing_at ws features) ws.packages p there.owner name there.package_at (placed_to (missing_by ws features p) there.owner.entries n e name there.entry_at one)
