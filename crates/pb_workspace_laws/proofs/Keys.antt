-- The keys of a package, its library and its script.
use Rattle.std.proofs.Common.{◌≡◌, ◌∙◌, ℕ, Bool, true, false, if◌then◌else◌, List, [], ◌∷◌, ◌++◌, codes, Option, Some, None, Ok, Err, Result, unwrap_or, refl, sym, ap, subst}
use Rattle.std.specs.List.{flat_map}
use Rattle.std.specs.Option.{option_map, option_map_or}
use Rattle.std.specs.Result.{result_ok}
use Rattle.pb_data.specs.UnlessOom.{◌>>=◌, some_or}
use Rattle.pb_manifest_types.specs.Letters.{underscored}
use Rattle.pb_manifest_types.specs.Library.{named_or}
use Rattle.pb_manifest_types.specs.declared.inherited.Inheritable.{Inheritable}
use Rattle.pb_manifest_types.specs.declared.inherited.Inheritable.TheVariants as text
use Rattle.pb_manifest_types.specs.declared.inherited.Inherited.{Inherited}
use Rattle.pb_manifest_types.specs.declared.inherited.Inherited.TheVariants as key
use Rattle.pb_manifest_types.specs.declared.manifest.WorkspacePackage.{WorkspacePackage}
use Rattle.pb_manifest_types.specs.declared.package.Build.{Build}
use Rattle.pb_manifest_types.specs.declared.package.Build.TheVariants as build
use Rattle.pb_manifest_types.specs.declared.package.Package.{Package as Written}
use Rattle.pb_manifest_types.specs.declared.package.Readme.{Readme}
use Rattle.pb_manifest_types.specs.declared.package.Readme.TheVariants as readme
use Rattle.pb_manifest_types.specs.declared.target.CrateType.{CrateType}
use Rattle.pb_manifest_types.specs.declared.target.CrateType.TheVariants.{Lib}
use Rattle.pb_manifest_types.specs.declared.target.Library.{Library as WrittenLibrary}
use Rattle.pb_workspace_types.specs.declared.fault.LoadFault.TheVariants.{NoInherited}
use Rattle.pb_workspace_types.specs.declared.package.About.{About}
use Rattle.pb_workspace_types.specs.declared.package.Library.{Library}
use Rattle.pb_place_types.specs.Paths.{below, joined}
use Rattle.pb_place_types.specs.declared.path.PathFault.{PathFault}
use Rattle.pb_place_types.specs.World.{World}
use Rattle.pb_workspace_package.specs.Between.{text_between}
use Rattle.pb_workspace_package.specs.Settling.{readme_found}
use Rattle.pb_workspace_package.specs.Sources.{has_own_file, own_source, found_readme, library_of, library_source, resolved, served_types, script_of}
use Rattle.pb_workspace_package.specs.Taken as taken
use Rattle.pb_workspace_package.specs.Taken.{own_or_given, text_of, authors_of, between_or, further_authors, joined_authors, license_file_of, readme_of, readme_text, given_readme, about_of}
use Rattle.pb_workspace.proofs.FoldersPut.{opened}
use Rattle.pb_workspace_laws.specs.Files.{is_file, first_file, first_path}
use Rattle.pb_workspace_laws.specs.Packages.{IsOwnOrTaken, IsText, IsPlainText, from_member, readme_path, with_colons, kinds_or_lib, library, script}

-- a value that has to be there
given_some : {A : Type 0} (given : Option A) (x : A) → some_or NoInherited given ≡ Ok x → given ≡ Some x
given_some None x h = cc
given_some (Some y) x h = let same : y ≡ x = cc in ap (λ z. Some z) same

pub own_or_taken : {A : Type 0} (written : Inherited A) (given : Option A) (x : A) → own_or_given written given ≡ Ok x → IsOwnOrTaken written given x
own_or_taken (key.Written y) given x h = let same : y ≡ x = cc in sym same
own_or_taken key.Workspace given x h = given_some given x h

-- texts
pub text_is : (written : Inheritable (List ℕ)) (given : Option (List ℕ)) (x : List ℕ) → text_of written given ≡ Ok x → IsPlainText written given x
text_is (text.Written y) given x h = let same : y ≡ x = cc in sym same
text_is text.Workspace given x h = (x, given_some given x h, refl)
text_is text.Absent given x h = let same : [] ≡ x = cc in sym same

further : (authors : List (List ℕ)) → further_authors authors ≡ flat_map (λ author. codes ":" ++ author) authors
further [] = refl
further (author ∷ authors) = ap (λ rest. codes ":" ++ author ++ rest) (further authors)

joined_so : (authors : List (List ℕ)) → joined_authors authors ≡ with_colons authors
joined_so [] = refl
joined_so (author ∷ authors) = ap (λ rest. author ++ rest) (further authors)

pub authors_are : (written : Inheritable (List (List ℕ))) (given : Option (List (List ℕ))) (x : List ℕ) → authors_of written given ≡ Ok x → IsText with_colons with_colons [] written given x
authors_are (text.Written authors) given x h = let same : joined_authors authors ≡ x = cc in sym same ∙ joined_so authors
authors_are text.Workspace given x h =
    let o = opened (some_or NoInherited given) (λ authors. Ok (joined_authors authors)) x h in
    let same : joined_authors o.0 ≡ x = cc (o.2) in
    (o.0, given_some given o.0 o.1, sym same ∙ joined_so o.0)
authors_are text.Absent given x h = let same : [] ≡ x = cc in sym same

member_is : (root folder text : List ℕ) → taken.from_member root folder text ≡ from_member root folder text
member_is root folder text = by (joined root text)
  where
    by : (r : Result (List ℕ) PathFault) → between_or folder text r ≡ option_map_or (text_between folder) (result_ok r) text
    by (Ok path) = refl
    by (Err fault) = refl

pub license_file_is : (root folder : List ℕ) (written : Inheritable (List ℕ)) (given : Option (List ℕ)) (x : List ℕ) → license_file_of root folder written given ≡ Ok x → IsText (λ path. path) (from_member root folder) [] written given x
license_file_is root folder (text.Written y) given x h = let same : y ≡ x = cc in sym same
license_file_is root folder text.Workspace given x h =
    let o = opened (some_or NoInherited given) (λ path. Ok (taken.from_member root folder path)) x h in
    let same : taken.from_member root folder o.0 ≡ x = cc (o.2) in
    (o.0, given_some given o.0 o.1, sym same ∙ member_is root folder o.0)
license_file_is root folder text.Absent given x h = let same : [] ≡ x = cc in sym same

-- the first README
abbrev readmes : List (List ℕ)
readmes = codes "README.md" ∷ codes "README.txt" ∷ codes "README" ∷ []

readme_first : (folder : List ℕ) (sources : World) → found_readme folder sources ≡ unwrap_or (first_file sources folder readmes) []
readme_first folder sources = by (has_own_file folder sources (codes "README.md")) (has_own_file folder sources (codes "README.txt")) (has_own_file folder sources (codes "README"))
  where
    by : (a b c : Bool) → (if a then codes "README.md" else (if b then codes "README.txt" else (if c then codes "README" else [])))
        ≡ unwrap_or (if a then Some (codes "README.md") else (if b then Some (codes "README.txt") else (if c then Some (codes "README") else None))) []
    by true b c = refl
    by false true c = refl
    by false false true = refl
    by false false false = refl

abbrev pub own_readme : Readme → List ℕ
own_readme readme = unwrap_or (readme_path readme) []

abbrev pub taken_readme : List ℕ → List ℕ → Readme → List ℕ
taken_readme root folder readme = option_map_or (from_member root folder) (readme_path readme) []

own_is : (r : Readme) → readme_text r ≡ own_readme r
own_is readme.Standard = refl
own_is readme.Never = refl
own_is (readme.At path) = refl

taken_is : (root folder : List ℕ) (r : Readme) → given_readme root folder r ≡ taken_readme root folder r
taken_is root folder readme.Standard = member_is root folder (codes "README.md")
taken_is root folder readme.Never = refl
taken_is root folder (readme.At path) = member_is root folder path

pub readme_is : (root folder : List ℕ) (sources : World) (written : Inheritable Readme) (given : Option Readme) (x : List ℕ) → readme_of root folder (readme_found folder sources written) written given ≡ Ok x
    → IsText own_readme (taken_readme root folder) (unwrap_or (first_file sources folder readmes) []) written given x
readme_is root folder sources (text.Written y) given x h = let same : readme_text y ≡ x = cc in sym same ∙ own_is y
readme_is root folder sources text.Workspace given x h =
    let o = opened (some_or NoInherited given) (λ readme. Ok (given_readme root folder readme)) x h in
    let same : given_readme root folder o.0 ≡ x = cc (o.2) in
    (o.0, given_some given o.0 o.1, sym same ∙ taken_is root folder o.0)
readme_is root folder sources text.Absent given x h = let same : found_readme folder sources ≡ x = cc in sym same ∙ readme_first folder sources

-- one file
one_path : (sources : World) (folder name : List ℕ) → own_source folder sources name ≡ first_path sources folder (name ∷ [])
one_path sources folder name = by (is_file sources folder name)
  where
    by : (b : Bool) → (if b then Some (below folder name) else None) ≡ option_map (below folder) (if b then Some name else None)
    by true = refl
    by false = refl

pub script_so : (sources : World) (folder : List ℕ) (b : Build) → script_of folder sources b ≡ script sources folder b
script_so sources folder build.Discovered = one_path sources folder (codes "build.rs")
script_so sources folder _ = refl

-- the library
pub library_so : (sources : World) (folder name : List ℕ) (l : Option WrittenLibrary) → library_of folder sources name l ≡ library sources folder name l
unfolding underscored
library_so sources folder name None = by (is_file sources folder (codes "src/lib.rs"))
  where
    by : (b : Bool) → if◌then◌else◌ {A = Option Library} b (Some record { name = underscored name; crate_types = Lib ∷ []; source = below folder (codes "src/lib.rs") }) None
        ≡ option_map (λ path. record { name = underscored name; crate_types = Lib ∷ []; source = path }) (option_map (below folder) (if b then Some (codes "src/lib.rs") else None))
    by true = refl
    by false = refl
library_so sources folder name (Some l) = λ i. Some record { name = called l.name i; crate_types = kinds l.crate_types i; source = at l.path i }
  where
    called : (o : Option (List ℕ)) → named_or o (underscored name) ≡ unwrap_or o (underscored name)
    called None = refl
    called (Some own) = refl

    kinds : (ts : List CrateType) → served_types ts ≡ kinds_or_lib ts
    kinds [] = refl
    kinds (t ∷ ts) = refl

    at : (o : Option (List ℕ)) → library_source folder o ≡ option_map_or (resolved folder) o (below folder (codes "src/lib.rs"))
    at None = refl
    at (Some path) = refl

-- what a package says of itself to people
pub record IsAbout (sources : World) (root folder : List ℕ) (w : Written) (given : WorkspacePackage) (a : About) : Type 0 where
  pub authors : IsText with_colons with_colons [] w.authors given.authors a.authors
  pub description : IsPlainText w.description given.description a.description
  pub homepage : IsPlainText w.homepage given.homepage a.homepage
  pub license : IsPlainText w.license given.license a.license
  pub license_file : IsText (λ path. path) (from_member root folder) [] w.license_file given.license_file a.license_file
  pub readme : IsText own_readme (taken_readme root folder) (unwrap_or (first_file sources folder readmes) []) w.readme given.readme a.readme
  pub repository : IsPlainText w.repository given.repository a.repository
  pub rust_version : IsPlainText w.rust_version given.rust_version a.rust_version

four : {A B C D F E : Type 0} (y : F) (p : Result A E) (q : Result B E) (r : Result C E) (s : Result D E) (f : A → B → C → D → Result F E) → (p >>= (λ a. q >>= (λ b. r >>= (λ c. s >>= (λ d. f a b c d))))) ≡ Ok y
    → (a : A) × (b : B) × (c : C) × (d : D) × (p ≡ Ok a) × (q ≡ Ok b) × (r ≡ Ok c) × (s ≡ Ok d) × (f a b c d ≡ Ok y)
four y (Err e) q r s f h = cc
four y (Ok a) (Err e) r s f h = cc
four y (Ok a) (Ok b) (Err e) s f h = cc
four y (Ok a) (Ok b) (Ok c) (Err e) f h = cc
four y (Ok a) (Ok b) (Ok c) (Ok d) f h = (a, b, c, d, refl, refl, refl, refl, h)

pub about_is : (sources : World) (root folder : List ℕ) (w : Written) (given : WorkspacePackage) (a : About) → about_of root folder (readme_found folder sources w.readme) w given ≡ Ok a → IsAbout sources root folder w given a
about_is sources root folder w given a h =
    let t = four a (authors_of w.authors given.authors) (text_of w.description given.description) (text_of w.homepage given.homepage) (text_of w.license given.license)
    (λ authors description homepage license. license_file_of root folder w.license_file given.license_file >>= (λ license_file. readme_of root folder (readme_found folder sources w.readme) w.readme given.readme >>= (λ readme.
    text_of w.repository given.repository >>= (λ repository. text_of w.rust_version given.rust_version >>= (λ rust_version.
    Ok record { authors = authors; description = description; homepage = homepage; license = license; license_file = license_file; readme = readme; repository = repository; rust_version = rust_version }))))) h in
    let u = four a (license_file_of root folder w.license_file given.license_file) (readme_of root folder (readme_found folder sources w.readme) w.readme given.readme) (text_of w.repository given.repository) (text_of w.rust_version given.rust_version)
    (λ license_file readme repository rust_version.
    Ok record { authors = t.0; description = t.1; homepage = t.2; license = t.3; license_file = license_file; readme = readme; repository = repository; rust_version = rust_version }) t.8 in
    let same : record { authors = t.0; description = t.1; homepage = t.2; license = t.3; license_file = u.0; readme = u.1; repository = u.2; rust_version = u.3 } ≡ a = cc (u.8) in
    subst (IsAbout sources root folder w given) same (record {
      authors = authors_are w.authors given.authors t.0 t.4;
      description = text_is w.description given.description t.1 t.5;
      homepage = text_is w.homepage given.homepage t.2 t.6;
      license = text_is w.license given.license t.3 t.7;
      license_file = license_file_is root folder w.license_file given.license_file u.0 u.4;
      readme = readme_is root folder sources w.readme given.readme u.1 u.5;
      repository = text_is w.repository given.repository u.2 u.6;
      rust_version = text_is w.rust_version given.rust_version u.3 u.7;
    })
