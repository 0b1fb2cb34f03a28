-- The facts have numbers. Here are the rules that a workspace's packages make about these numbers,
-- and the numbers of the facts that are true from the start. Only private functions need these
-- definitions.
use Rattle.std.specs.Prelude.{ℕ, ◌+◌, ◌==◌, Bool, not, ◌||◌, ◌&&◌, codes, List, [], ◌∷◌, ◌++◌, Option, Some, None, length, slice_get, if◌then◌else◌}
use Rattle.std.specs.List.{list_any}
use Rattle.std.specs.Str.{bytes_eq}
use Rattle.pb_manifest_types.specs.declared.feature.Feature.{Feature}
use Rattle.pb_manifest_types.specs.declared.feature.FeatureItem.{FeatureItem}
use Rattle.pb_manifest_types.specs.declared.feature.FeatureItem.TheVariants.{Own, Dependency, Of, OfEnabled}
use Rattle.pb_workspace_types.specs.declared.package.Side.{Side}
use Rattle.pb_workspace_types.specs.declared.package.Side.TheVariants.{Target, Host}
use Rattle.pb_workspace_types.specs.declared.package.Package.{Package}
use Rattle.pb_workspace_types.specs.declared.package.Entry.{Entry}
use Rattle.pb_workspace_types.specs.declared.options.Selection.{Selection}
use Rattle.pb_workspace_types.specs.Workspace.{side_of}
use Rattle.pb_graph.specs.declared.table.Rule.{Rule}
use Rattle.pb_graph.specs.Placed.{placed}
use Rattle.pb_feature.specs.Numbers.{slot, slot_at, on, has, enabled}
use Rattle.pb_feature.specs.Facts.{of_package}

abbrev pub pair : ℕ → ℕ → ℕ → Rule
pair x y z = record { first = x; second = y; gives = z }

abbrev pub alone : ℕ → ℕ → Rule
alone x z = pair x x z

-- the rule by which `from` turns on the feature of a slot, if the test is true and the slot is not
-- 0
abbrev pub there_rules : List ℕ → ℕ → ℕ → Side → Bool → ℕ → List Rule
there_rules bs from q t test k = if test then (if k == 0 then [] else alone from (has bs q t k) ∷ []) else []

-- the rule by which `from` turns on the feature with this name; the package may lack this feature
abbrev pub given_rules : List Package → List ℕ → ℕ → ℕ → Side → ℕ → List ℕ → List Rule
given_rules ps bs from q t _ f = alone from (has bs q t (slot_at ps q f)) ∷ []

-- the rules of an enabled entry: the entry turns on the package to which it leads, and the features
-- that the entry requests
abbrev pub enabled_rules : List Package → List ℕ → ℕ → Side → Entry → List Rule
enabled_rules ps bs from t e =
    (alone from (on bs e.to t) ∷ [])
    ++ there_rules bs from e.to t e.default_features (slot_at ps e.to (codes "default"))
    ++ placed (given_rules ps bs from e.to t) 0 e.features

-- the rules of an entry; if a package is on, each entry of the package that is not optional is
-- enabled
abbrev pub entry_rules : List Package → List ℕ → Side → ℕ → ℕ → ℕ → Entry → List Rule
entry_rules ps bs s p features n e =
    (if e.optional then [] else alone (on bs p s) (enabled bs p s features n) ∷ [])
    ++ enabled_rules ps bs (enabled bs p s features n) (side_of e.kind s) e

-- the rules that an item `N/F` makes for an entry N
abbrev pub of_rules : List ℕ → ℕ → ℕ → Side → ℕ → ℕ → ℕ → Entry → List Rule
of_rules bs from p s own asked en e =
    (alone from en ∷ alone from (has bs e.to (side_of e.kind s) asked) ∷ [])
    ++ there_rules bs from p s e.optional own

-- the rules that an item makes for an entry, if the item names this entry
abbrev pub item_rules : List Package → List ℕ → Side → ℕ → List Feature → ℕ → FeatureItem → ℕ → Entry → List Rule
item_rules ps bs s p fs k (Own g) n e = []
item_rules ps bs s p fs k (Dependency name) n e =
    if bytes_eq name e.key then alone (has bs p s k) (enabled bs p s (length fs) n) ∷ [] else []
item_rules ps bs s p fs k (Of name g) n e =
    if bytes_eq name e.key then of_rules bs (has bs p s k) p s (slot fs name) (slot_at ps e.to g) (enabled bs p s (length fs) n) e else []
item_rules ps bs s p fs k (OfEnabled name g) n e =
    if bytes_eq name e.key then pair (has bs p s k) (enabled bs p s (length fs) n) (has bs e.to (side_of e.kind s) (slot_at ps e.to g)) ∷ [] else []

-- the rules that an item makes for an entry on both sides
abbrev pub both_item_rules : List Package → List ℕ → ℕ → List Feature → ℕ → FeatureItem → ℕ → Entry → List Rule
both_item_rules ps bs p fs k item n e = item_rules ps bs Target p fs k item n e ++ item_rules ps bs Host p fs k item n e

-- the rule of an item that names a feature of the item's own package
abbrev pub own_rules : List ℕ → Side → ℕ → List Feature → ℕ → FeatureItem → List Rule
own_rules bs s p fs k (Own g) = alone (has bs p s k) (has bs p s (slot fs g)) ∷ []
own_rules bs s p fs k _ = []

abbrev pub both_own_rules : List ℕ → ℕ → List Feature → ℕ → FeatureItem → List Rule
both_own_rules bs p fs k item = own_rules bs Target p fs k item ++ own_rules bs Host p fs k item

abbrev pub one_item_rules : List Package → List ℕ → ℕ → Package → ℕ → ℕ → FeatureItem → List Rule
one_item_rules ps bs p owner k _ item = both_own_rules bs p owner.features k item ++ placed (both_item_rules ps bs p owner.features k item) 0 owner.entries

abbrev pub feature_rules : List Package → List ℕ → ℕ → Package → ℕ → Feature → List Rule
feature_rules ps bs p owner i f = placed (one_item_rules ps bs p owner (i + 1)) 0 f.items

abbrev pub both_entry_rules : List Package → List ℕ → ℕ → Package → List Rule
both_entry_rules ps bs p owner =
    placed (entry_rules ps bs Target p (length owner.features)) 0 owner.entries ++ placed (entry_rules ps bs Host p (length owner.features)) 0 owner.entries

abbrev pub package_rules : List Package → List ℕ → ℕ → Package → List Rule
package_rules ps bs p owner = both_entry_rules ps bs p owner ++ placed (feature_rules ps bs p owner) 0 owner.features

abbrev pub rules_of : List Package → List ℕ → List Rule
rules_of ps bs = placed (package_rules ps bs) 0 ps

-- the requested text means this feature of the package with this name
abbrev pub is_text_of : List ℕ → List ℕ → List ℕ → Bool
is_text_of name feature text = bytes_eq text feature || bytes_eq text (of_package name feature)

-- the options choose this feature for the package with this name
abbrev pub is_chosen : Selection → List ℕ → List ℕ → Bool
is_chosen selection name feature =
    selection.all_features || (not selection.no_default_features && bytes_eq feature (codes "default")) || list_any (is_text_of name feature) selection.features

-- The number of a feature, if the feature is chosen. The next definitions collect the numbers of
-- all facts that are true from the start.
abbrev pub chosen_seeds : List ℕ → Selection → ℕ → List ℕ → ℕ → Feature → List ℕ
chosen_seeds bs selection p name i f = if is_chosen selection name f.name then has bs p Target (i + 1) ∷ [] else []

abbrev pub owner_seeds : List ℕ → Selection → ℕ → Option Package → List ℕ
owner_seeds bs selection p None = []
owner_seeds bs selection p (Some owner) = on bs p Target ∷ placed (chosen_seeds bs selection p owner.name) 0 owner.features

abbrev pub selected_seeds : List Package → List ℕ → Selection → ℕ → ℕ → List ℕ
selected_seeds ps bs selection _ p = owner_seeds bs selection p (slice_get ps p)

abbrev pub seeds_of : List Package → List ℕ → Selection → List ℕ
seeds_of ps bs selection = placed (selected_seeds ps bs selection) 0 selection.packages
