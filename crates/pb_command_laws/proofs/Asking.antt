-- What the lines of scripts ask for, by their keys.
use Rattle.std.proofs.Common.{◌≡◌, ◌≢◌, ℕ, if◌then◌else◌, Bool, true, false, cond, codes, List, [], ◌∷◌, ◌++◌, map, refl, sym, ◌∙◌, ap}
use Rattle.std.specs.List.{flat_map, list_any}
use Rattle.std.specs.Str.{bytes_eq}
use Rattle.pb_data.proofs.MentionLemmas.{bytes_eq_comm}
use Rattle.pb_command_reply.specs.Answers.{changed_path, changed_variable, is_error}
use Rattle.pb_directive.specs.declared.directive.Directive.{Directive}
use Rattle.pb_directive.specs.declared.directive.Directive.TheVariants.{LinkSearch, LinkLib, Cfg, CheckCfg, LinkArg, LinkArgBins, LinkArgBin, RerunIfChanged, RerunIfEnvChanged, Error}
use Rattle.pb_command_laws.specs.Compiles.{as_line, asked}
use Rattle.pb_command_laws.specs.Reading.{values}

abbrev pub folder_searched : Directive → List (List ℕ)
folder_searched (LinkSearch folder) = folder ∷ []
folder_searched _ = []

abbrev pub library_linked : Directive → List (List ℕ)
library_linked (LinkLib name) = name ∷ []
library_linked _ = []

abbrev pub condition_set : Directive → List (List ℕ)
condition_set (Cfg condition) = condition ∷ []
condition_set _ = []

abbrev pub condition_expected : Directive → List (List ℕ)
condition_expected (CheckCfg condition) = condition ∷ []
condition_expected _ = []

abbrev pub flag_for_all : Directive → List (List ℕ)
flag_for_all (LinkArg flag) = flag ∷ []
flag_for_all _ = []

abbrev pub flag_for_binaries : Directive → List (List ℕ)
flag_for_binaries (LinkArgBins flag) = flag ∷ []
flag_for_binaries _ = []

abbrev pub flag_for : List ℕ → Directive → List (List ℕ)
flag_for name (LinkArgBin binary flag) = if bytes_eq binary name then flag ∷ [] else []
flag_for name _ = []

-- what one line gives, and then the others
abbrev Picks : List ℕ → (Directive → List (List ℕ)) → Type 0
Picks key pick = (d : Directive) (rest : List (List ℕ × List ℕ)) → values key (as_line d ∷ rest) ≡ pick d ++ values key rest

all_picked : (key : List ℕ) (pick : Directive → List (List ℕ)) → Picks key pick → (said : List Directive) → flat_map pick said ≡ asked key said
all_picked key pick one [] = refl
all_picked key pick one (d ∷ said) = ap (λ later. pick d ++ later) (all_picked key pick one said) ∙ sym (one d (map as_line said))

searches : Picks (codes "rustc-link-search") folder_searched
searches (LinkSearch folder) rest = refl
searches _ rest = refl

links : Picks (codes "rustc-link-lib") library_linked
links (LinkLib name) rest = refl
links _ rest = refl

conditions : Picks (codes "rustc-cfg") condition_set
conditions (Cfg condition) rest = refl
conditions _ rest = refl

checks : Picks (codes "rustc-check-cfg") condition_expected
checks (CheckCfg condition) rest = refl
checks _ rest = refl

flags : Picks (codes "rustc-link-arg") flag_for_all
flags (LinkArg flag) rest = refl
flags _ rest = refl

binaries : Picks (codes "rustc-link-arg-bins") flag_for_binaries
binaries (LinkArgBins flag) rest = refl
binaries _ rest = refl

one_binary : (name : List ℕ) → Picks (codes "rustc-link-arg-bin=" ++ name) (flag_for name)
one_binary name (LinkArgBin binary flag) rest = ap (λ r. cond r (flag ∷ values (codes "rustc-link-arg-bin=" ++ name) rest) (values (codes "rustc-link-arg-bin=" ++ name) rest)) (bytes_eq_comm name binary) ∙ by (bytes_eq binary name)
  where
    by : (r : Bool) → cond r (flag ∷ values (codes "rustc-link-arg-bin=" ++ name) rest) (values (codes "rustc-link-arg-bin=" ++ name) rest) ≡ cond r (flag ∷ []) [] ++ values (codes "rustc-link-arg-bin=" ++ name) rest
    by true = refl
    by false = refl
one_binary name _ rest = refl

paths : Picks (codes "rerun-if-changed") changed_path
paths (RerunIfChanged path) rest = refl
paths _ rest = refl

variables : Picks (codes "rerun-if-env-changed") changed_variable
variables (RerunIfEnvChanged name) rest = refl
variables _ rest = refl

pub searches_asked : (said : List Directive) → flat_map folder_searched said ≡ asked (codes "rustc-link-search") said
searches_asked said = all_picked (codes "rustc-link-search") folder_searched searches said

pub links_asked : (said : List Directive) → flat_map library_linked said ≡ asked (codes "rustc-link-lib") said
links_asked said = all_picked (codes "rustc-link-lib") library_linked links said

pub conditions_asked : (said : List Directive) → flat_map condition_set said ≡ asked (codes "rustc-cfg") said
conditions_asked said = all_picked (codes "rustc-cfg") condition_set conditions said

pub checks_asked : (said : List Directive) → flat_map condition_expected said ≡ asked (codes "rustc-check-cfg") said
checks_asked said = all_picked (codes "rustc-check-cfg") condition_expected checks said

pub flags_asked : (said : List Directive) → flat_map flag_for_all said ≡ asked (codes "rustc-link-arg") said
flags_asked said = all_picked (codes "rustc-link-arg") flag_for_all flags said

pub binaries_asked : (said : List Directive) → flat_map flag_for_binaries said ≡ asked (codes "rustc-link-arg-bins") said
binaries_asked said = all_picked (codes "rustc-link-arg-bins") flag_for_binaries binaries said

pub one_binary_asked : (name : List ℕ) (said : List Directive) → flat_map (flag_for name) said ≡ asked (codes "rustc-link-arg-bin=" ++ name) said
one_binary_asked name said = all_picked (codes "rustc-link-arg-bin=" ++ name) (flag_for name) (one_binary name) said

pub paths_asked : (said : List Directive) → flat_map changed_path said ≡ asked (codes "rerun-if-changed") said
paths_asked said = all_picked (codes "rerun-if-changed") changed_path paths said

pub variables_asked : (said : List Directive) → flat_map changed_variable said ≡ asked (codes "rerun-if-env-changed") said
variables_asked said = all_picked (codes "rerun-if-env-changed") changed_variable variables said

-- an error is told where the list of those that are is not empty
abbrev some_told : List (List ℕ) → Bool
some_told [] = false
some_told (text ∷ texts) = true

one_error : (d : Directive) (said : List Directive) → list_any is_error said ≡ some_told (asked (codes "error") said) → list_any is_error (d ∷ said) ≡ some_told (asked (codes "error") (d ∷ said))
one_error (Error text) said more = refl
one_error _ said more = more

errors_told : (said : List Directive) → list_any is_error said ≡ some_told (asked (codes "error") said)
errors_told [] = refl
errors_told (d ∷ said) = one_error d said (errors_told said)

some_is : (texts : List (List ℕ)) → some_told texts ≡ true → texts ≢ []
some_is [] on = absurd (cc)
some_is (text ∷ texts) on = λ same. cc

none_is : (texts : List (List ℕ)) → some_told texts ≡ false → texts ≡ []
none_is [] off = refl
none_is (text ∷ texts) off = absurd (cc)

is_some_told : (texts : List (List ℕ)) → texts ≢ [] → some_told texts ≡ true
is_some_told [] some = absurd (some refl)
is_some_told (text ∷ texts) some = refl

pub errors_asked : (said : List Directive) → list_any is_error said ≡ true → asked (codes "error") said ≢ []
errors_asked said on = some_is (asked (codes "error") said) (sym (errors_told said) ∙ on)

pub none_asked : (said : List Directive) → list_any is_error said ≡ false → asked (codes "error") said ≡ []
none_asked said off = none_is (asked (codes "error") said) (sym (errors_told said) ∙ off)

pub asked_errors : (said : List Directive) → asked (codes "error") said ≢ [] → list_any is_error said ≡ true
asked_errors said some = errors_told said ∙ is_some_told (asked (codes "error") said) some

pub asked_none : (said : List Directive) → asked (codes "error") said ≡ [] → list_any is_error said ≡ false
asked_none said none = errors_told said ∙ ap some_told none
