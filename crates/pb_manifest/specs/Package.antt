-- How the table `[package]` is read (The Cargo Book, Manifest Format).
use Rattle.std.specs.Prelude.{Bool, true, false, ◌||◌, if◌then◌else◌, Option, Some, None, Ok, Err, codes, unwrap_or}
use Rattle.std.specs.Str.{bytes_eq}
use Rattle.toml.specs.Data.{Data, Members, as_str, as_bool}
use Rattle.pb_data.specs.UnlessOom.{◌>>=◌}
use Rattle.pb_manifest_types.specs.Letters.{is_name}
use Rattle.pb_manifest_types.specs.Values.{Text, Read}
use Rattle.pb_manifest.specs.Values.{text_of, optional, value_at, zero_free, text_at, truth_at, inheritable_at, inheritable_text_at, inheritable_texts_at, or_default}
use Rattle.pb_manifest.specs.Versions.{inherited_version_at}
use Rattle.pb_manifest_types.specs.declared.key.Key.TheVariants as key
use Rattle.pb_manifest_types.specs.declared.fault.ManifestFault.TheVariants.{BadKind, BadName}
use Rattle.pb_manifest_types.specs.declared.inherited.Inherited.{Inherited}
use Rattle.pb_manifest_types.specs.declared.inherited.Inheritable.{Inheritable}
use Rattle.pb_manifest_types.specs.declared.package.Edition.{Edition}
use Rattle.pb_manifest_types.specs.declared.package.Edition.TheVariants.{E2015, E2018, E2021, E2024}
use Rattle.pb_manifest_types.specs.declared.package.Build.{Build}
use Rattle.pb_manifest_types.specs.declared.package.Build.TheVariants as build
use Rattle.pb_manifest_types.specs.declared.package.Readme.{Readme}
use Rattle.pb_manifest_types.specs.declared.package.Readme.TheVariants as readme
use Rattle.pb_manifest_types.specs.declared.package.Package.{Package}
use Rattle.pb_manifest.specs.declared.package.FirstKeys.{FirstKeys}
use Rattle.pb_manifest.specs.declared.package.MiddleKeys.{MiddleKeys}
use Rattle.pb_manifest.specs.declared.package.LastKeys.{LastKeys}

-- the name of a package or of a binary, which must be written and valid
abbrev pub name_in : Option Text → Read Text
name_in None = Err BadName
name_in (Some text) = if is_name text then Ok text else Err BadName

abbrev pub name_at : Members → Read Text
name_at ms = text_at key.Name ms >>= name_in

abbrev pub edition_in : Text → Read Edition
edition_in text =
    if bytes_eq text (codes "2015") then Ok E2015
    else if bytes_eq text (codes "2018") then Ok E2018
    else if bytes_eq text (codes "2021") then Ok E2021
    else if bytes_eq text (codes "2024") then Ok E2024
    else Err (BadKind key.Edition)

abbrev pub edition_of : Data → Read Edition
edition_of d = text_of key.Edition d >>= edition_in

abbrev pub edition_at : Members → Read (Option Edition)
edition_at ms = optional edition_of (value_at key.Edition ms)

-- a package's edition, which is written or inherited, or else is 2015
abbrev pub inherited_edition_at : Members → Read (Inherited Edition)
inherited_edition_at ms = inheritable_at key.Edition edition_of ms >>= (λ found. Ok (or_default E2015 found))

-- the value of `build`, which is `true`, `false` or a path
abbrev pub build_from : Option Text → Option Bool → Read Build
build_from (Some text) truth = zero_free key.Build text >>= (λ path. Ok (build.At path))
build_from None (Some true) = Ok build.Standard
build_from None (Some false) = Ok build.Never
build_from None None = Err (BadKind key.Build)

abbrev pub build_in : Option Data → Read Build
build_in None = Ok build.Discovered
build_in (Some d) = build_from (as_str d) (as_bool d)

abbrev pub build_at : Members → Read Build
build_at ms = build_in (value_at key.Build ms)

-- the value of `readme`, which is a truth value or a text
abbrev pub readme_from : Option Text → Option Bool → Read Readme
readme_from (Some text) truth = Ok (readme.At text)
readme_from None (Some true) = Ok readme.Standard
readme_from None (Some false) = Ok readme.Never
readme_from None None = Err (BadKind key.Readme)

abbrev pub readme_of : Data → Read Readme
readme_of d = readme_from (as_str d) (as_bool d)

abbrev pub readme_at : Members → Read (Option Readme)
readme_at ms = optional readme_of (value_at key.Readme ms)

abbrev pub inheritable_readme_at : Members → Read (Inheritable Readme)
inheritable_readme_at ms = inheritable_at key.Readme readme_of ms

-- a resolver is refused unless it is `"2"` or `"3"`; we treat `"3"` as `"2"`
abbrev pub resolver_in : Option Text → Read (Unit {0})
resolver_in None = Ok tt
resolver_in (Some text) = if bytes_eq text (codes "2") || bytes_eq text (codes "3") then Ok tt else Err (BadKind key.Resolver)

-- a table is refused if it writes a resolver that we do not support
abbrev pub resolver_at : Members → Read (Unit {0})
resolver_at ms = text_at key.Resolver ms >>= resolver_in

-- the values of the keys of `[package]` from `authors` to `edition`, in byte order
abbrev pub first_keys : Members → Read FirstKeys
first_keys ms =
    inheritable_texts_at key.Authors ms >>= (λ authors.
    truth_at key.Autobins ms >>= (λ autobins.
    build_at ms >>= (λ build.
    inheritable_text_at key.Description ms >>= (λ description.
    inherited_edition_at ms >>= (λ edition.
    Ok record { authors = authors; autobins = unwrap_or autobins true; build = build; description = description; edition = edition })))))

-- the values of the keys of `[package]` from `homepage` to `name`, in byte order
abbrev pub middle_keys : Members → Read MiddleKeys
middle_keys ms =
    inheritable_text_at key.Homepage ms >>= (λ homepage.
    inheritable_text_at key.License ms >>= (λ license.
    inheritable_text_at key.LicenseFile ms >>= (λ license_file.
    text_at key.Links ms >>= (λ links.
    name_at ms >>= (λ name.
    Ok record { homepage = homepage; license = license; license_file = license_file; links = links; name = name })))))

-- the values of the keys of `[package]` from `readme` to `version`, in byte order
abbrev pub last_keys : Members → Read LastKeys
last_keys ms =
    inheritable_readme_at ms >>= (λ readme.
    inheritable_text_at key.Repository ms >>= (λ repository.
    resolver_at ms >>= (λ resolver.
    inheritable_text_at key.RustVersion ms >>= (λ rust_version.
    inherited_version_at ms >>= (λ version.
    Ok record { readme = readme; repository = repository; rust_version = rust_version; version = version })))))

-- the package that has the values of all of these keys
abbrev pub package_from : FirstKeys → MiddleKeys → LastKeys → Package
package_from a b c = record {
  authors = a.authors;
  autobins = a.autobins;
  build = a.build;
  description = a.description;
  edition = a.edition;
  homepage = b.homepage;
  license = b.license;
  license_file = b.license_file;
  links = b.links;
  name = b.name;
  readme = c.readme;
  repository = c.repository;
  rust_version = c.rust_version;
  version = c.version;
}

-- the table `[package]`, whose keys are read in byte order
abbrev pub package_of : Members → Read Package
package_of ms =
    first_keys ms >>= (λ first.
    middle_keys ms >>= (λ middle.
    last_keys ms >>= (λ last.
    Ok (package_from first middle last))))
