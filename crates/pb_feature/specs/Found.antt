-- What an entry at an index yields, if there is such an entry. Only private functions need these
-- definitions.
use Rattle.std.specs.Prelude.{ℕ, Bool, List, Option, Some, None, slice_get}
use Rattle.pb_manifest_types.specs.declared.feature.FeatureItem.{FeatureItem}
use Rattle.pb_manifest_types.specs.declared.feature.FeatureItem.TheVariants.{Own, Dependency, Of, OfEnabled}
use Rattle.pb_workspace_types.specs.declared.package.Entry.{Entry}

-- the name of the entries that an item names, if the item names entries
abbrev pub entry_named : FeatureItem → Option (List ℕ)
entry_named (Own feature) = None
entry_named (Dependency name) = Some name
entry_named (Of name feature) = Some name
entry_named (OfEnabled name feature) = Some name

-- what `g` makes of the index and the value, or the default if there is no value
abbrev pub given_by : {A B : Type 0} → (ℕ → A → B) → B → ℕ → Option A → B
given_by g none n None = none
given_by g none n (Some x) = g n x

-- what `g` makes of this index and the value there, or the default if there is no index or no value
abbrev pub found : {A B : Type 0} → (ℕ → A → B) → B → List A → Option ℕ → B
found g none xs None = none
found g none xs (Some n) = given_by g none n (slice_get xs n)

abbrev pub is_optional : ℕ → Entry → Bool
is_optional n e = e.optional
