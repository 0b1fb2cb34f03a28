-- Which packages, features and entries are on. This is the least set of facts that is closed under
-- the rules of The Cargo Book, Features (resolver 2).
use Rattle.std.specs.Prelude.{◌≡◌, ℕ, true, false, codes, List, ◌∷◌, ◌++◌, Contains}
use Rattle.pb_data.specs.Ascii.{slash}
use Rattle.pb_manifest_types.specs.declared.feature.FeatureItem.TheVariants.{Own, Dependency, Of, OfEnabled}
use Rattle.pb_workspace_types.specs.declared.package.Side.{Side}
use Rattle.pb_workspace_types.specs.declared.package.Side.TheVariants.{Target}
use Rattle.pb_workspace_types.specs.declared.package.Entry.{Entry}
use Rattle.pb_workspace_types.specs.declared.options.Selection.{Selection}
use Rattle.pb_workspace_types.specs.declared.workspace.Workspace.{Workspace}
use Rattle.pb_workspace_types.specs.Workspace.{side_of, HasEntry, ListsItem, HasFeature}

-- A fact about the package with the index `p`, on a side.
-- - `On`: the package is on.
-- - `Has`: the package has this feature.
-- - `Enabled`: the package's entry with this index is enabled.
-- - `Asked`: this entry requests this feature of the package to which it leads.
pub data Fact : Type 0 where
  On : (p : ℕ) (s : Side) → Fact
  Has : (p : ℕ) (s : Side) (feature : List ℕ) → Fact
  Enabled : (p : ℕ) (s : Side) (entry : ℕ) → Fact
  Asked : (p : ℕ) (s : Side) (entry : ℕ) (feature : List ℕ) → Fact

-- the text `PACKAGE/FEATURE`
abbrev pub of_package : List ℕ → List ℕ → List ℕ
of_package name feature = name ++ slash ∷ feature

-- The package has this feature, and the feature is chosen. A feature is chosen if all features, the
-- feature's name or the text `PACKAGE/FEATURE` are requested. If `--no-default-features` is not
-- given, `default` is also chosen.
pub data IsChosen (ws : Workspace) (selection : Selection) (p : ℕ) : List ℕ → Type 0 where
  all : (feature : List ℕ) (asked : selection.all_features ≡ true) (there : HasFeature ws p feature) → IsChosen ws selection p feature
  asked : (feature : List ℕ) (is : Contains selection.features feature) (there : HasFeature ws p feature) → IsChosen ws selection p feature
  asked_of : (feature : List ℕ) (there : HasFeature ws p feature) (is : Contains selection.features (of_package there.owner.name feature)) → IsChosen ws selection p feature
  default : (kept : selection.no_default_features ≡ false) (there : HasFeature ws p (codes "default")) → IsChosen ws selection p (codes "default")

pub data Holds (ws : Workspace) (selection : Selection) : Fact → Type 0 where
  -- A selected package is on for the target's side. For this side, the package has the features
  -- that are chosen for the package.
  selected : (p : ℕ) (is : Contains selection.packages p) → Holds ws selection (On p Target)
  chosen : (p : ℕ) (feature : List ℕ) (is : Contains selection.packages p) (chosen : IsChosen ws selection p feature) → Holds ws selection (Has p Target feature)
  -- a package that is on enables its entries that are not optional
  required : (p : ℕ) (s : Side) (n : ℕ) (e : Entry) (on : Holds ws selection (On p s)) (has : HasEntry ws p n e) (needed : e.optional ≡ false) → Holds ws selection (Enabled p s n)
  -- if a package has a feature, the package also has its own features that this feature lists
  listed : (p : ℕ) (s : Side) (f g : List ℕ) (on : Holds ws selection (Has p s f)) (lists : ListsItem ws p f (Own g)) → Holds ws selection (Has p s g)
  -- The item `dep:N` of a feature enables the entries N. An optional entry makes a feature with
  -- this item.
  named : (p : ℕ) (s : Side) (f : List ℕ) (n : ℕ) (e : Entry) (on : Holds ws selection (Has p s f)) (lists : ListsItem ws p f (Dependency e.key)) (has : HasEntry ws p n e) → Holds ws selection (Enabled p s n)
  -- The item `N/F` of a feature enables the entries N and requests the feature F of the packages to
  -- which these entries lead. If an entry N is optional and there is a feature N, the package also
  -- has the feature N.
  of_enables : (p : ℕ) (s : Side) (f g : List ℕ) (n : ℕ) (e : Entry) (on : Holds ws selection (Has p s f)) (lists : ListsItem ws p f (Of e.key g)) (has : HasEntry ws p n e) → Holds ws selection (Enabled p s n)
  of_asks : (p : ℕ) (s : Side) (f g : List ℕ) (n : ℕ) (e : Entry) (on : Holds ws selection (Has p s f)) (lists : ListsItem ws p f (Of e.key g)) (has : HasEntry ws p n e) → Holds ws selection (Asked p s n g)
  of_gives : (p : ℕ) (s : Side) (f g : List ℕ) (n : ℕ) (e : Entry) (on : Holds ws selection (Has p s f)) (lists : ListsItem ws p f (Of e.key g)) (has : HasEntry ws p n e) (is_optional : e.optional ≡ true) (there : HasFeature ws p e.key) → Holds ws selection (Has p s e.key)
  -- the item `N?/F` of a feature requests the feature F of the package to which an enabled entry N
  -- leads
  of_enabled : (p : ℕ) (s : Side) (f g : List ℕ) (n : ℕ) (e : Entry) (on : Holds ws selection (Has p s f)) (lists : ListsItem ws p f (OfEnabled e.key g)) (has : HasEntry ws p n e) (enabled : Holds ws selection (Enabled p s n)) → Holds ws selection (Asked p s n g)
  -- An enabled entry turns on the package to which it leads. A build entry leads to the host's
  -- side, any other entry to the same side. The package has the features that the entry lists, and
  -- those that features request through this entry. If the package has a feature `default`, this
  -- feature is on, too, unless the entry turns default features off.
  leads : (p : ℕ) (s : Side) (n : ℕ) (e : Entry) (enabled : Holds ws selection (Enabled p s n)) (has : HasEntry ws p n e) → Holds ws selection (On e.to (side_of e.kind s))
  with_listed : (p : ℕ) (s : Side) (n : ℕ) (e : Entry) (f : List ℕ) (enabled : Holds ws selection (Enabled p s n)) (has : HasEntry ws p n e) (is : Contains e.features f) → Holds ws selection (Has e.to (side_of e.kind s) f)
  with_asked : (p : ℕ) (s : Side) (n : ℕ) (e : Entry) (f : List ℕ) (enabled : Holds ws selection (Enabled p s n)) (asked : Holds ws selection (Asked p s n f)) (has : HasEntry ws p n e) → Holds ws selection (Has e.to (side_of e.kind s) f)
  with_default : (p : ℕ) (s : Side) (n : ℕ) (e : Entry) (enabled : Holds ws selection (Enabled p s n)) (has : HasEntry ws p n e) (takes : e.default_features ≡ true) (there : HasFeature ws e.to (codes "default")) → Holds ws selection (Has e.to (side_of e.kind s) (codes "default"))
