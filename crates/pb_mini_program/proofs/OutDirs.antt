-- The out folder of a compile.
use Rattle.std.proofs.Common.{◌≡◌, ◌≢◌, ◌∙◌, ◌||◌, ℕ, Bool, true, false, cond, List, [], ◌∷◌, codes, Option, Some, None, option_and_then, Result, Ok, Err, refl, sym, ap}
use Rattle.std.proofs.lemmas.Bool.{false≢true}
use Rattle.std.proofs.lemmas.Slice.Eq.{bytes_eq-Decides}
use Rattle.std.specs.Str.{bytes_eq}
use Rattle.pb_data.specs.UnlessOom.{◌>>=◌}
use Rattle.pb_place_types.specs.Paths.{parsed}
use Rattle.pb_place_types.specs.declared.path.PathFault.{PathFault}
use Rattle.pb_mini.specs.Answer.{request_of, compile_in}
use Rattle.pb_mini.specs.CommandLine.{takes_value, role_of, role_alone, is_setting, no_arguments, with_value, arguments_after, only, first, file_named, image_name, dep_info_name, crate_type_of, settled_by, command_line_of, folder_in}
use Rattle.pb_mini.specs.declared.command_line.Role.{Role}
use Rattle.pb_mini.specs.declared.command_line.Role.TheVariants.{CrateName, CrateType, OutDir, Source, Extern, Condition, Unused}
use Rattle.pb_mini.specs.declared.command_line.Arguments.{Arguments}
use Rattle.pb_mini.specs.declared.command_line.CommandLine.{CommandLine}
use Rattle.pb_mini.specs.declared.command_line.Settled.{Settled}
use Rattle.pb_mini.specs.declared.command_line.CommandLineFault.{CommandLineFault}
use Rattle.pb_mini.specs.declared.request.Request.{Request}
use Rattle.pb_mini.specs.declared.request.Request.TheVariants.{Version, Run, Compile}
use Rattle.pb_mini.specs.Lookups.{path_said, path_of}
use Rattle.pb_mini_program.specs.OutFolder.{waiting_after, asks_run, first_out_dir}
use Rattle.pb_mini_program.specs.declared.out_folder.Waiting.{Waiting}
use Rattle.pb_mini_program.specs.declared.out_folder.Waiting.TheVariants.{Folder, Other}

-- an answer that went on
bind_ok : {A B E : Type 0} (r : Result A E) (f : A → Result B E) (x : B) → (r >>= f) ≡ Ok x → (a : A) × ((r ≡ Ok a) × (f a ≡ Ok x))
bind_ok (Ok a) f x h = (a, (refl, h))
bind_ok (Err e) f x h = absurd (cc)

-- the option that waits, as the out folder sees it
abbrev state_of : Option Role → Option Waiting
state_of None = None
state_of (Some CrateName) = Some Other
state_of (Some CrateType) = Some Other
state_of (Some OutDir) = Some Folder
state_of (Some Source) = Some Other
state_of (Some Extern) = Some Other
state_of (Some Condition) = Some Other
state_of (Some Unused) = Some Other

or_false : (a b : Bool) → a || b ≡ false → (a ≡ false) × (b ≡ false)
or_false true b h = absurd (false≢true (sym h))
or_false false b h = (refl, h)

-- the option that waits after a word that takes a value
chosen : (a b d e : Bool) → state_of (Some (cond a CrateName (cond b CrateType (cond false OutDir (cond d Extern (cond e Condition Unused)))))) ≡ Some Other
chosen true b d e = refl
chosen false true d e = refl
chosen false false true e = refl
chosen false false false true = refl
chosen false false false false = refl

waits : (word : List ℕ) → takes_value word ≡ true → waiting_after word ≡ state_of (Some (role_of word))
waits word takes = by (bytes_eq word (codes "--out-dir")) refl
  where
    by : (r : Bool) → bytes_eq word (codes "--out-dir") ≡ r → waiting_after word ≡ state_of (Some (role_of word))
    by true is =
        let one : word ≡ codes "--out-dir" = (bytes_eq-Decides word (codes "--out-dir")).0 is in
        ap waiting_after one ∙ sym (ap (λ w. state_of (Some (role_of w))) one)
    by false is =
        ap (λ r. cond r (Some Folder) (cond (takes_value word) (Some Other) None)) is ∙ ap (λ r. cond r (Some Other) None) takes
        ∙ sym (ap (λ r. state_of (Some (cond (bytes_eq word (codes "--crate-name")) CrateName (cond (bytes_eq word (codes "--crate-type")) CrateType (cond r OutDir (cond (bytes_eq word (codes "--extern")) Extern (cond (bytes_eq word (codes "--cfg")) Condition Unused))))))) is
        ∙ chosen (bytes_eq word (codes "--crate-name")) (bytes_eq word (codes "--crate-type")) (bytes_eq word (codes "--extern")) (bytes_eq word (codes "--cfg")))

-- and after one that does not
waits_not : (word : List ℕ) → takes_value word ≡ false → waiting_after word ≡ None
waits_not word takes = by (bytes_eq word (codes "--out-dir")) refl
  where
    by : (r : Bool) → bytes_eq word (codes "--out-dir") ≡ r → waiting_after word ≡ None
    by true is = absurd (false≢true (sym takes ∙ ap takes_value ((bytes_eq-Decides word (codes "--out-dir")).0 is)))
    by false is = ap (λ r. cond r (Some Folder) (cond (takes_value word) (Some Other) None)) is ∙ ap (λ r. cond r (Some Other) None) takes

-- what stands alone stands first
one_alone : (v : List ℕ) (vs : List (List ℕ)) (folder : List ℕ) → only (v ∷ vs) ≡ Ok folder → v ≡ folder
one_alone v [] folder h = cc
one_alone v (u ∷ vs) folder h = absurd (cc)

-- the values of `--out-dir` stay where another value is filed
alone_keeps : (word value : List ℕ) (rest : Arguments) → (with_value (role_alone word) value rest).out_dirs ≡ rest.out_dirs
alone_keeps word value rest = by (is_setting word)
  where
    by : (r : Bool) → (with_value (cond r Unused Source) value rest).out_dirs ≡ rest.out_dirs
    by true = refl
    by false = refl

abbrev said_ok : Arguments → Result Arguments CommandLineFault
said_ok said = Ok said

same_said : (a b : Arguments) → said_ok a ≡ said_ok b → a ≡ b
same_said a b h = cc

-- one word further, the value of an option
value_taken : (r : Role) (v : List ℕ) (ws : List (List ℕ)) (rest : Arguments) (folder : List ℕ) → (only rest.out_dirs ≡ Ok folder → first_out_dir None ws ≡ Some folder) → only (with_value r v rest).out_dirs ≡ Ok folder → first_out_dir (state_of (Some r)) (v ∷ ws) ≡ Some folder
value_taken CrateName v ws rest folder further one = further one
value_taken CrateType v ws rest folder further one = further one
value_taken OutDir v ws rest folder further one = ap Some (one_alone v rest.out_dirs folder one)
value_taken Source v ws rest folder further one = further one
value_taken Extern v ws rest folder further one = further one
value_taken Condition v ws rest folder further one = further one
value_taken Unused v ws rest folder further one = further one

-- one word further, an option or a word alone
word_taken : (word : List ℕ) (ws : List (List ℕ)) (said : Arguments) (folder : List ℕ) (takes : Bool) → takes_value word ≡ takes
    → ((s : Arguments) → arguments_after (Some (role_of word)) ws ≡ Ok s → only s.out_dirs ≡ Ok folder → first_out_dir (state_of (Some (role_of word))) ws ≡ Some folder)
    → ((s : Arguments) → arguments_after None ws ≡ Ok s → only s.out_dirs ≡ Ok folder → first_out_dir None ws ≡ Some folder)
    → cond takes (arguments_after (Some (role_of word)) ws) (arguments_after None ws >>= (λ rest. Ok (with_value (role_alone word) word rest))) ≡ Ok said → only said.out_dirs ≡ Ok folder → first_out_dir (waiting_after word) ws ≡ Some folder
word_taken word ws said folder true takes value alone after one = ap (λ s. first_out_dir s ws) (waits word takes) ∙ value said after one
word_taken word ws said folder false takes value alone after one =
    let went : (rest : Arguments) × ((arguments_after None ws ≡ Ok rest) × (said_ok (with_value (role_alone word) word rest) ≡ said_ok said)) = bind_ok (arguments_after None ws) (λ rest. said_ok (with_value (role_alone word) word rest)) said after in
    let same : with_value (role_alone word) word went.0 ≡ said = same_said _ _ went.1.1 in
    ap (λ s. first_out_dir s ws) (waits_not word takes) ∙ alone went.0 went.1.0 (ap only (sym (alone_keeps word word went.0) ∙ ap (λ s. s.out_dirs) same) ∙ one)

-- the one value of `--out-dir` is the first
first_is : (waiting : Option Role) (words : List (List ℕ)) (said : Arguments) (folder : List ℕ) → arguments_after waiting words ≡ Ok said → only said.out_dirs ≡ Ok folder → first_out_dir (state_of waiting) words ≡ Some folder
first_is None [] said folder after alone = absurd (none_said said folder after alone)
  where
    none_said : (said : Arguments) (folder : List ℕ) → said_ok no_arguments ≡ said_ok said → only said.out_dirs ≡ Ok folder → ⊥
    none_said said folder h one = none_alone (ap (λ s. only s.out_dirs) (same_said _ _ h) ∙ one)
      where
        none_alone : only [] ≡ Ok folder → ⊥
        none_alone h = cc
first_is (Some r) [] said folder after alone = absurd (cc)
first_is (Some r) (v ∷ ws) said folder after alone =
    let went : (rest : Arguments) × ((arguments_after None ws ≡ Ok rest) × (said_ok (with_value r v rest) ≡ said_ok said)) = bind_ok (arguments_after None ws) (λ rest. said_ok (with_value r v rest)) said after in
    let same : with_value r v went.0 ≡ said = same_said _ _ went.1.1 in
    value_taken r v ws went.0 folder (first_is None ws went.0 folder went.1.0) (ap (λ s. only s.out_dirs) same ∙ alone)
first_is None (word ∷ ws) said folder after alone =
    word_taken word ws said folder (takes_value word) refl (λ s. first_is (Some (role_of word)) ws s folder) (λ s. first_is None ws s folder) after alone

-- the out folder of a compile is the path of that value
folder_path : (r : Result (List ℕ) PathFault) (out : List ℕ) → folder_in r ≡ Ok out → path_said r ≡ Some out
folder_path (Ok p) out h = cc
folder_path (Err e) out h = absurd (cc)

abbrev line_ok : CommandLine → Result CommandLine CommandLineFault
line_ok line = Ok line

same_line : (a b : CommandLine) → line_ok a ≡ line_ok b → a ≡ b
same_line a b h = cc

abbrev settled_ok : Settled → Result Settled CommandLineFault
settled_ok settled = Ok settled

same_settled : (a b : Settled) → settled_ok a ≡ settled_ok b → a ≡ b
same_settled a b h = cc

compile_line : (words : List (List ℕ)) (line : CommandLine) → command_line_of words ≡ Ok line → option_and_then path_of (first_out_dir None words) ≡ Some line.out_dir
compile_line words line is =
    let said = bind_ok (arguments_after None words) _ line is in
    let settled = bind_ok (settled_by said.0) _ line said.1.1 in
    let name = bind_ok (only said.0.crate_names) _ settled.0 settled.1.0 in
    let type = bind_ok (first said.0.crate_types) _ settled.0 name.1.1 in
    let folder = bind_ok (only said.0.out_dirs) _ settled.0 type.1.1 in
    let source = bind_ok (only said.0.sources) _ settled.0 folder.1.1 in
    let image = bind_ok (file_named (image_name (crate_type_of type.0) name.0)) _ settled.0 source.1.1 in
    let dep_info = bind_ok (file_named (dep_info_name name.0)) _ settled.0 image.1.1 in
    let out_dir = bind_ok (folder_in (parsed folder.0)) _ settled.0 dep_info.1.1 in
    ap (option_and_then path_of) (first_is None words said.0 folder.0 said.1.0 folder.1.0) ∙ folder_path (parsed folder.0) out_dir.0 out_dir.1.0
    ∙ ap (λ s. Some s.out_dir) (same_settled _ settled.0 out_dir.1.1) ∙ ap (λ l. Some l.out_dir) (same_line _ line settled.1.1)

-- words that ask for a compile
abbrev asked : CommandLine → Result Request CommandLineFault
asked made = Ok (Compile made)

in_compile : (words : List (List ℕ)) (line : CommandLine) → compile_in words ≡ Ok (Compile line) → option_and_then path_of (first_out_dir None words) ≡ Some line.out_dir
in_compile words line is =
    let made : (made : CommandLine) × ((command_line_of words ≡ Ok made) × (asked made ≡ asked line)) = bind_ok (command_line_of words) (λ made. asked made) (Compile line) is in
    compile_line words line (made.1.0 ∙ ap Ok (told _ _ made.1.1))
  where
    asked : CommandLine → Result Request CommandLineFault
    asked made = Ok (Compile made)

    told : (a b : CommandLine) → asked a ≡ asked b → a ≡ b
    told a b h = cc

compile_folder : (words : List (List ℕ)) (line : CommandLine) → request_of words ≡ Ok (Compile line) → (asks_run words ≡ false) × (option_and_then path_of (first_out_dir None words) ≡ Some line.out_dir)
compile_folder [] line is = (refl, in_compile [] line is)
compile_folder (word ∷ []) line is = (refl, by (bytes_eq word (codes "-vV")) is)
  where
    by : (r : Bool) → cond r (Ok Version) (compile_in (word ∷ [])) ≡ Ok (Compile line) → option_and_then path_of (first_out_dir None (word ∷ [])) ≡ Some line.out_dir
    by true h = absurd (cc)
    by false h = in_compile (word ∷ []) line h
compile_folder (word ∷ path ∷ []) line is = by (bytes_eq word (codes "--run")) is
  where
    by : (r : Bool) → cond r (Ok (Run path)) (compile_in (word ∷ path ∷ [])) ≡ Ok (Compile line) → (r ≡ false) × (option_and_then path_of (first_out_dir None (word ∷ path ∷ [])) ≡ Some line.out_dir)
    by true h = absurd (cc)
    by false h = (refl, in_compile (word ∷ path ∷ []) line h)
compile_folder (word ∷ other ∷ next ∷ words) line is = (refl, in_compile (word ∷ other ∷ next ∷ words) line is)

-- words that ask for a run
no_run : (words : List (List ℕ)) (path : List ℕ) → compile_in words ≡ Ok (Run path) → ⊥
no_run words path is = by (command_line_of words) is
  where
    by : (r : Result CommandLine CommandLineFault) → (r >>= (λ line. Ok (Compile line))) ≡ Ok (Run path) → ⊥
    by (Ok line) h = cc
    by (Err e) h = cc

run_asks : (words : List (List ℕ)) (path : List ℕ) → request_of words ≡ Ok (Run path) → asks_run words ≡ true
run_asks [] path is = absurd (no_run [] path is)
run_asks (word ∷ []) path is = by (bytes_eq word (codes "-vV")) is
  where
    by : (r : Bool) → cond r (Ok Version) (compile_in (word ∷ [])) ≡ Ok (Run path) → asks_run (word ∷ []) ≡ true
    by true h = absurd (cc)
    by false h = absurd (no_run (word ∷ []) path h)
run_asks (word ∷ other ∷ []) path is = by (bytes_eq word (codes "--run")) is
  where
    by : (r : Bool) → cond r (Ok (Run other)) (compile_in (word ∷ other ∷ [])) ≡ Ok (Run path) → r ≡ true
    by true h = refl
    by false h = absurd (no_run (word ∷ other ∷ []) path h)
run_asks (word ∷ other ∷ next ∷ words) path is = absurd (no_run (word ∷ other ∷ next ∷ words) path is)

-- what is found where words ask for a run, and where they do not
pub run_compiles_not : (words : List (List ℕ)) (line : CommandLine) (found : Option (List ℕ)) → asks_run words ≡ true → request_of words ≡ Ok (Compile line) → found ≡ Some line.out_dir
run_compiles_not words line found asks is = absurd (false≢true (sym (compile_folder words line is).0 ∙ asks))

pub compile_finds : (words : List (List ℕ)) (line : CommandLine) (found : Option (List ℕ)) → found ≡ option_and_then path_of (first_out_dir None words) → request_of words ≡ Ok (Compile line) → found ≡ Some line.out_dir
compile_finds words line found made is = made ∙ (compile_folder words line is).1

pub compile_runs_not : (words : List (List ℕ)) (path : List ℕ) (found wanted : Option (List ℕ)) → asks_run words ≡ false → request_of words ≡ Ok (Run path) → found ≡ wanted
compile_runs_not words path found wanted asks is = absurd (false≢true (sym asks ∙ run_asks words path is))

pub ruleset folder_laws = (run_compiles_not, compile_finds, compile_runs_not)

pub none_of : {A : Type 0} (found : Option A) → ((x : A) → found ≢ Some x) → found ≡ None
none_of None lacks = refl
none_of (Some x) lacks = absurd (lacks x refl)
