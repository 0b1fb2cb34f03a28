-- The small compiler is honest on the compiles of units.
use Rattle.std.proofs.Common.{◌≡◌, ◌==◌, ℕ, ◌&&◌, Bool, true, false, cond, codes, List, [], ◌∷◌, ◌++◌, Option, Some, None, Result, Ok, Err, refl, sym, ◌∙◌, ap, subst}
use Rattle.std.specs.FinMap as finite
use Rattle.std.specs.List.{AllByRecursion}
use Rattle.std.specs.Str.{bytes_eq}
use Rattle.pb_data.specs.OrderedSet.{is_mentioned, once}
use Rattle.pb_data.specs.Table.{value_at, table_of, names_of}
use Rattle.pb_data.proofs.MentionLemmas.{is_mentioned-once}
use Rattle.pb_data.proofs.TableLemmas.{names-table_of}
use Rattle.pb_directive.specs.DepInfo as written
use Rattle.pb_directive.specs.Lines.{has_byte}
use Rattle.pb_directive.specs.declared.dep_info.DepInfo.{DepInfo}
use Rattle.pb_directive.specs.declared.directive.Directive.{Directive}
use Rattle.pb_directive.specs.declared.fault.LineFault.{LineFault}
use Rattle.pb_place_types.specs.Paths.{below, is_path, is_absolute, is_relative, parsed}
use Rattle.pb_place_types.specs.World.{World}
use Rattle.pb_place_types.specs.declared.child.Reply.{Reply}
use Rattle.pb_place_types.specs.declared.command.Command.{Command}
use Rattle.pb_place_types.specs.declared.path.PathFault.{PathFault}
use Rattle.pb_unit.specs.declared.plan.Planned.{Planned}
use Rattle.pb_workspace_types.specs.declared.package.Entry.{Entry}
use Rattle.pb_workspace_types.specs.declared.package.Package.{Package}
use Rattle.pb_manifest_types.specs.Letters.{is_name}
use Rattle.pb_command_reply.specs.Answers.{is_too_long, read_or_none, info_in, read_info, info_inputs, paths_from, inherited, compile_answered, unless_fault}
use Rattle.pb_command.specs.Command.{crate_part, asked_part, words_of, compile_of}
use Rattle.pb_command_types.specs.Targets.{crate_name_of, dep_info_of, file_in, source_by}
use Rattle.pb_command_arguments.specs.Externs.{library_words}
use Rattle.pb_command_arguments.specs.Said.{said_words}
use Rattle.pb_command_arguments.specs.Words.{option, name_words, edition_word, format_words, output_words, settings_words, feature_words}
use Rattle.pb_command_types.specs.declared.checked_reply.CheckedReply.{CheckedReply}
use Rattle.pb_command_types.specs.declared.fault.UnitFault.{UnitFault}
use Rattle.pb_command_types.specs.declared.fault.UnitFault.TheVariants.{NoDepInfo}
use Rattle.pb_command_types.specs.declared.project.Project.{Project}
use Rattle.pb_command_types.specs.declared.project.Setup.{Setup}
use Rattle.pb_command.specs.Judge.{replied_files, file_at}
use Rattle.pb_mini.specs.Answer.{request_of, replied_if}
use Rattle.pb_mini.specs.CommandLine as line
use Rattle.pb_mini.specs.DepInfo.{dep_info_text}
use Rattle.pb_mini.specs.Honesty.{SameFile, GivenBelow, names_if, names_read, file_named, each_once}
use Rattle.pb_mini.specs.declared.command_line.Arguments.{Arguments}
use Rattle.pb_mini.specs.declared.command_line.CommandLine.{CommandLine}
use Rattle.pb_mini.specs.declared.command_line.Settled.{Settled}
use Rattle.pb_mini.specs.declared.command_line.CommandLineFault.{CommandLineFault}
use Rattle.pb_mini.specs.declared.command_line.CommandLineFault.TheVariants.{Bad}
use Rattle.pb_mini.specs.declared.command_line.Role.TheVariants.{CrateName}
use Rattle.pb_mini.specs.declared.dep_info.Names.{Names}
use Rattle.pb_mini.specs.declared.request.Request.{Request}
use Rattle.pb_mini.specs.declared.request.Request.TheVariants.{Compile}
use Rattle.pb_mini.proofs.HonestyLemmas.{honest, tells}
use Rattle.pb_mini_laws.specs.ReadBack.{CanBeTold, CanBeAsked, AreAmong}
use Rattle.pb_mini_laws.proofs.Reading.{reads_back}
use Rattle.pb_mini_laws.proofs.Agreeing.{SameInput, SameAround}
use Rattle.pb_mini_laws.specs.Honest.{small_compiler, CanBeSpelled, CanTellOf, CanTell, IsOfProject}
use Rattle.pb_mini_laws.proofs.Agreeing.{same_paths, same_variables, among_paths, among_inherited}
use Rattle.pb_mini_laws.proofs.Given.{NamesBelow, given_below}
use Rattle.pb_mini_laws.proofs.Grouping.{in_fixed, with_flags}
use Rattle.pb_mini_laws.proofs.Libraries.{externs_hold}
use Rattle.pb_mini_laws.proofs.Making.{reply_found}
use Rattle.pb_mini_laws.proofs.Mentioning.{all_among, one_among}
use Rattle.pb_mini_laws.proofs.Named.{ArePaths, compile_paths, parsed_path_is}
use Rattle.pb_mini_laws.proofs.Parsing.{opened, all_so}

-- ---- what a command line says

pub record Says (words : List (List ℕ)) (l : CommandLine) : Type 0 where
  pub arguments : Arguments
  pub parsed_so : line.arguments_after None words ≡ Ok arguments
  pub one_name : line.only arguments.crate_names ≡ Ok l.crate_name
  pub dep_info_is : l.dep_info ≡ line.dep_info_name l.crate_name
  pub dep_info_relative : is_relative l.dep_info ≡ true
  pub folder_is : is_path l.out_dir ≡ true
  pub externs_are : l.externs ≡ arguments.externs

relative_file : (name file : List ℕ) → line.file_named name ≡ Ok file → (name ≡ file) × (is_relative name ≡ true)
relative_file name file is = by (is_relative name) refl is
  where
    by : (r : Bool) → is_relative name ≡ r → cond r (Ok name) (Err Bad) ≡ Ok file → (name ≡ file) × (is_relative name ≡ true)
    by true relative is = (cc, relative)
    by false relative is = absurd (cc)

folder_path : (said : Result (List ℕ) PathFault) (path : List ℕ) → line.folder_in said ≡ Ok path → said ≡ Ok path
folder_path (Ok found) path is = let same : found ≡ path = cc in ap Ok same
folder_path (Err e) path is = absurd (cc)

pub same_ok : {A E : Type 0} (x y : A) (first : Result A E) → first ≡ Ok x → first ≡ Ok y → x ≡ y
same_ok x y first one other = let both : Ok x ≡ Ok y = sym one ∙ other in cc

-- what was settled, with the libraries and the conditions
abbrev with_lists : Arguments → Settled → CommandLine
with_lists said settled = record {
  crate_type = settled.crate_type;
  crate_name = settled.crate_name;
  image = settled.image;
  dep_info = settled.dep_info;
  out_dir = settled.out_dir;
  source = settled.source;
  externs = said.externs;
  conditions = said.conditions;
}

says : (words : List (List ℕ)) (l : CommandLine) → line.command_line_of words ≡ Ok l → Says words l
says words l is =
    let (said, first, is_1) = opened (line.arguments_after None words) _ l is in
    let (settled, of_settled, is_whole) = opened (line.settled_by said) _ l is_1 in
    let (name, second, is_2) = opened (line.only said.crate_names) _ settled of_settled in
    let (type, third, is_3) = opened (line.first said.crate_types) _ settled is_2 in
    let (folder, fourth, is_4) = opened (line.only said.out_dirs) _ settled is_3 in
    let (source, fifth, is_5) = opened (line.only said.sources) _ settled is_4 in
    let (image, sixth, is_6) = opened (line.file_named (line.image_name (line.crate_type_of type) name)) _ settled is_5 in
    let (dep_info, seventh, is_7) = opened (line.file_named (line.dep_info_name name)) _ settled is_6 in
    let (out_dir, eighth, is_8) = opened (line.folder_of folder) _ settled is_7 in
    let made : record { crate_type = line.crate_type_of type; crate_name = name; image = image; dep_info = dep_info; out_dir = out_dir; source = source } ≡ settled = same_ok {E = CommandLineFault} _ settled _ refl is_8 in
    let whole : with_lists said record { crate_type = line.crate_type_of type; crate_name = name; image = image; dep_info = dep_info; out_dir = out_dir; source = source } ≡ l =
    ap (with_lists said) made ∙ same_ok {E = CommandLineFault} _ l _ refl is_whole in
    let (same, relative) = relative_file (line.dep_info_name name) dep_info seventh in
    record {
      arguments = said;
      parsed_so = first;
      one_name = second ∙ ap (λ (x : CommandLine). Ok x.crate_name) whole;
      dep_info_is = sym (ap (λ (x : CommandLine). x.dep_info) whole) ∙ sym same ∙ ap (λ (x : CommandLine). line.dep_info_name x.crate_name) whole;
      dep_info_relative = ap (λ (x : CommandLine). is_relative x.dep_info) (sym whole) ∙ ap is_relative (sym same) ∙ relative;
      folder_is = ap (λ (x : CommandLine). is_path x.out_dir) (sym whole) ∙ parsed_path_is folder out_dir (folder_path (parsed folder) out_dir eighth);
      externs_are = sym (ap (λ (x : CommandLine). x.externs) whole);
    }

-- ---- names

all_named : {V : Type 0} (R : List ℕ → Type 0) (entries : List (List ℕ × V)) → ((name : List ℕ) → is_mentioned (names_of entries) name ≡ true → R name) → AllByRecursion (λ entry. R entry.0) entries
all_named R [] each = tt
all_named R (entry ∷ entries) each =
    let both = all_among R (names_of (entry ∷ entries)) each in
    (both.0, all_named R entries (λ name among. one_among R (names_of entries) name both.1 among))

abbrev Askable : List ℕ → Type 0
Askable name = CanBeTold name × (has_byte 61 name ≡ false)

askable : (entries : List (List ℕ × Option (List ℕ))) → AllByRecursion CanBeAsked entries → AllByRecursion Askable (names_of entries)
askable [] all = tt
askable (entry ∷ entries) all = ((all.0.told, all.0.no_equals), askable entries all.1)

asked : (entries : List (List ℕ × Option (List ℕ))) → AllByRecursion Askable (names_of entries) → AllByRecursion CanBeAsked entries
asked [] all = tt
asked (entry ∷ entries) all = (record { told = all.0.0; no_equals = all.0.1 }, asked entries all.1)

told_once : (paths : List (List ℕ)) → AllByRecursion CanBeTold paths → AllByRecursion CanBeTold (once paths)
told_once paths all = all_among CanBeTold (once paths) (λ text among. one_among CanBeTold paths text all (sym (is_mentioned-once paths text) ∙ among))

asked_once : (entries : List (List ℕ × Option (List ℕ))) → AllByRecursion CanBeAsked entries → AllByRecursion CanBeAsked (table_of entries)
asked_once entries all =
    let names = askable entries all in
    asked (table_of entries) (all_among Askable (names_of (table_of entries)) (λ name among.
    one_among Askable (names_of entries) name names (sym (is_mentioned-once (names_of entries) name) ∙ ap (λ ns. is_mentioned ns name) (sym (names-table_of entries)) ∙ among)))

-- ---- the judgement

too_long : (bytes : List ℕ) (info : DepInfo) → read_info (Some bytes) ≡ Ok info → written.dep_info_of bytes ≡ Ok info
too_long bytes info is = by (is_too_long bytes) is
  where
    at : (r : Result DepInfo LineFault) → read_or_none r ≡ Ok info → r ≡ Ok info
    at (Ok found) is = let same : found ≡ info = cc in ap Ok same
    at (Err fault) is = absurd (cc)

    by : (r : Bool) → cond r (Err NoDepInfo) (info_in bytes) ≡ Ok info → written.dep_info_of bytes ≡ Ok info
    by true is = absurd (cc)
    by false is = at (written.dep_info_of bytes) is

record Judged (c : Command) (text : List ℕ) (a : CheckedReply) : Type 0 where
  info : DepInfo
  reads : written.dep_info_of text ≡ Ok info
  found : info_inputs c info ≡ Ok a.inputs

judged : (c : Command) (text : List ℕ) (a : CheckedReply) → compile_answered c (Some text) ≡ Ok a → Judged c text a
judged c text a is =
    let (info, first, is_1) = opened (read_info (Some text)) _ a is in
    let (inputs, second, is_2) = opened (info_inputs c info) _ a is_1 in
    let whole : record { directives = None; inputs = inputs } ≡ a = cc in
    record { info = info; reads = too_long text info first; found = second ∙ ap (λ (x : CheckedReply). Ok x.inputs) whole }

pub unless : (fault : Option UnitFault) (rest : Result CheckedReply UnitFault) (a : CheckedReply) → unless_fault fault rest ≡ Ok a → rest ≡ Ok a
unless None rest a is = is
unless (Some fault) rest a is = absurd (cc)

-- ---- the crate's name

first_named : (name : List ℕ) (rest : List (List ℕ)) (said : Arguments) (only : List ℕ) → line.arguments_after None (codes "--crate-name" ∷ name ∷ rest) ≡ Ok said → line.only said.crate_names ≡ Ok only → only ≡ name
first_named name rest said only is one =
    let (later, first, made) = opened (line.arguments_after None rest) (λ later. Ok (line.with_value CrateName name later)) said is in
    let whole : line.with_value CrateName name later ≡ said = cc in
    by later.crate_names (ap (λ (x : Arguments). line.only x.crate_names) whole ∙ one)
  where
    by : (names : List (List ℕ)) → line.only (name ∷ names) ≡ Ok only → only ≡ name
    by [] is = cc
    by (other ∷ names) is = absurd (cc)

begins : (path : List ℕ) → is_path path ≡ true → is_absolute path ≡ true
begins [] is = absurd (cc)
begins (b ∷ []) is = is
begins (b ∷ c ∷ rest) is = first (b == 47) (is_relative (c ∷ rest)) is
  where
    first : (r s : Bool) → (r && s) ≡ true → r ≡ true
    first true s e = refl
    first false s e = absurd (cc)

below_absolute : (folder name : List ℕ) → is_path folder ≡ true → is_absolute (below folder name) ≡ true
below_absolute folder name is = by (bytes_eq folder (codes "/")) folder (begins folder is)
  where
    by : (r : Bool) (f : List ℕ) → is_absolute f ≡ true → is_absolute (cond r [] f ++ 47 ∷ name) ≡ true
    by true f absolute = refl
    by false [] absolute = absurd (cc)
    by false (b ∷ rest) absolute = absolute

-- ---- a compile

dep_there : (out name text : List ℕ) (r : Reply) → is_relative name ≡ true → file_named name r.files ≡ Some text → file_at (file_in out name) (replied_files out r) ≡ Some text
dep_there out name text r relative found = ap (λ s. file_at (cond s (Some (below out name)) None) (replied_files out r)) relative ∙ reply_found out name r.files relative ∙ found

module _ (setup : Setup) (project : Project) (u : Planned) (done : List (Option (List Directive))) (p : Package) (is_of : IsOfProject project u)
    (plain : is_mentioned setup.flags (codes "--extern") ≡ false) (source : is_path (source_by p u.unit.what) ≡ true) (keys : AllByRecursion (λ (entry : Entry). is_name entry.key ≡ true) p.entries) where
  abbrev c : Command
  c = compile_of setup project u done p

  given : (l : CommandLine) → Says c.words l → GivenBelow c.reads (Compile l)
  given l said =
      given_below c.reads l (subst (AllByRecursion (NamesBelow c.reads)) (sym said.externs_are)
      (all_so (NamesBelow c.reads) (crate_part project u p ++ library_words project u p ++ said_words project u done p) setup.flags said.arguments (in_fixed (NamesBelow c.reads) project u done p source (externs_hold project u is_of p keys)) plain
      (ap (line.arguments_after None) (sym (with_flags setup project u done p)) ∙ said.parsed_so)))

  named : (l : CommandLine) → Says c.words l → l.crate_name ≡ crate_name_of project u
  unfolding name_words option
  named l said = first_named (crate_name_of project u) (edition_word p.edition ∷ source_by p u.unit.what ∷ (format_words ++ output_words u p ++ settings_words u.unit.what u.settings ++ feature_words project u p ++ asked_part setup project u done p)) said.arguments l.crate_name said.parsed_so said.one_name

  -- what was asked for is a compile
  request : (r : Request) → request_of c.words ≡ Ok r → (l : CommandLine) × (r ≡ Compile l) × Says c.words l
  unfolding name_words option
  request r is =
      let (l, first, made) = opened (line.command_line_of c.words) (λ l. Ok (Compile l)) r is in
      (l, sym (cc), says c.words l first)

  module _ (v w : World) (l : CommandLine) (tell : CanBeSpelled l (names_read c.words c.pairs v)) (asked : request_of c.words ≡ Ok (Compile l)) (a : CheckedReply)
      (judged : Judged c (dep_info_text (below l.out_dir l.image) (each_once (names_read c.words c.pairs v))) a) (same : AllByRecursion (SameInput v w) a.inputs) (folders : SameAround c v w) where
    abbrev names : Names
    names = names_read c.words c.pairs v

    said : Says c.words l
    said = let (other, is, said) = request (Compile l) asked in let equal : l ≡ other = cc in subst (Says c.words) (sym equal) said

    read : AreAmong (once names.paths) judged.info.words × AreAmong (names_of (table_of names.variables)) judged.info.variables
    read =
        reads_back (below l.out_dir l.image) (each_once names) judged.info (below_absolute l.out_dir l.image said.folder_is) tell.output (told_once names.paths tell.paths) (asked_once names.variables tell.variables) judged.reads

    are_paths : ArePaths names.paths
    are_paths = subst (λ r. ArePaths (names_if r (table_of c.pairs) v).paths) (sym asked) (compile_paths l (table_of c.pairs) v)

    same_path : (path : List ℕ) → is_mentioned names.paths path ≡ true → SameFile v w path
    same_path path among =
        same_paths c v w folders (paths_from c.folder judged.info.words) (inherited c judged.info.variables) a.inputs judged.found same path
        (among_paths c.folder judged.info.words path (one_among (λ q. is_path q ≡ true) names.paths path are_paths among) (read.0 path (is_mentioned-once names.paths path ∙ among)))

    same_variable : (name : List ℕ) → is_mentioned (names_of names.variables) name ≡ true → value_at name (table_of c.pairs) ≡ None → finite.get w.variables name ≡ finite.get v.variables name
    same_variable name among none =
        same_variables c v w folders (paths_from c.folder judged.info.words) (inherited c judged.info.variables) a.inputs judged.found same name
        (among_inherited c judged.info.variables name (read.1 name (ap (λ ns. is_mentioned ns name) (names-table_of names.variables) ∙ is_mentioned-once (names_of names.variables) name ∙ among)) none)

    given_again : small_compiler c w ≡ small_compiler c v
    given_again =
        honest c v w (λ r is. let (other, equal, told) = request r is in subst (GivenBelow c.reads) (sym equal) (given other told))
        (record { files = all_among (SameFile v w) names.paths same_path; variables = all_named (λ name. value_at name (table_of c.pairs) ≡ None → finite.get w.variables name ≡ finite.get v.variables name) names.variables same_variable })
        folders.below

  compile_honest : (v : World) → CanTell c v → (w : World) (a : CheckedReply)
      → ((l : CommandLine) → Says c.words l → (text : List ℕ) → file_named l.dep_info (small_compiler c v).files ≡ Some text → Judged c text a)
      → AllByRecursion (SameInput v w) a.inputs → SameAround c v w → small_compiler c w ≡ small_compiler c v
  compile_honest v tell w a judge same folders = by (request_of c.words) refl
    where
      by : (r : Result Request CommandLineFault) → request_of c.words ≡ r → small_compiler c w ≡ small_compiler c v
      by (Err e) is = ap (λ r. replied_if r (table_of c.pairs) w) is ∙ sym (ap (λ r. replied_if r (table_of c.pairs) v) is)
      by (Ok r) is =
          let (l, equal, said) = request r is in
          let asked : request_of c.words ≡ Ok (Compile l) = is ∙ ap Ok equal in
          given_again v w l (subst (λ r. CanTellOf r c v) asked tell) asked a (judge l said (dep_info_text (below l.out_dir l.image) (each_once (names_read c.words c.pairs v))) (tells c.words c.pairs v l asked)) same folders

-- what is found in a good reply to a compile: dep-info that reads
compile_judged : (setup : Setup) (project : Project) (u : Planned) (done : List (Option (List Directive))) (p : Package) (is_of : IsOfProject project u)
    (plain : is_mentioned setup.flags (codes "--extern") ≡ false) (source : is_path (source_by p u.unit.what) ≡ true) (keys : AllByRecursion (λ (entry : Entry). is_name entry.key ≡ true) p.entries)
    (v : World) (a : CheckedReply) → dep_info_of project u ≡ file_in u.out (crate_name_of project u ++ codes ".d")
    → compile_answered (compile_of setup project u done p) (file_at (dep_info_of project u) (replied_files u.out (small_compiler (compile_of setup project u done p) v))) ≡ Ok a
    → (l : CommandLine) → Says (words_of setup project u done p) l → (text : List ℕ) → file_named l.dep_info (small_compiler (compile_of setup project u done p) v).files ≡ Some text → Judged (compile_of setup project u done p) text a
compile_judged setup project u done p is_of plain source keys v a where_it_is found l said text file =
    let name : l.dep_info ≡ crate_name_of project u ++ codes ".d" = said.dep_info_is ∙ ap line.dep_info_name (named setup project u done p is_of plain source keys l said) in
    let there : file_at (file_in u.out (crate_name_of project u ++ codes ".d")) (replied_files u.out (small_compiler (compile_of setup project u done p) v)) ≡ Some text =
    dep_there u.out (crate_name_of project u ++ codes ".d") text (small_compiler (compile_of setup project u done p) v) (ap is_relative (sym name) ∙ said.dep_info_relative)
    (ap (λ n. file_named n (small_compiler (compile_of setup project u done p) v).files) (sym name) ∙ file) in
    judged (compile_of setup project u done p) text a
    (ap (compile_answered (compile_of setup project u done p)) (sym (ap (λ index. file_at index (replied_files u.out (small_compiler (compile_of setup project u done p) v))) where_it_is ∙ there)) ∙ found)

-- the small compiler is honest on every compile
pub on_compiles : (setup : Setup) (project : Project) (u : Planned) (done : List (Option (List Directive))) (p : Package) → IsOfProject project u → is_mentioned setup.flags (codes "--extern") ≡ false
    → is_path (source_by p u.unit.what) ≡ true → AllByRecursion (λ (entry : Entry). is_name entry.key ≡ true) p.entries
    → (v w : World) (a : CheckedReply) → dep_info_of project u ≡ file_in u.out (crate_name_of project u ++ codes ".d")
    → compile_answered (compile_of setup project u done p) (file_at (dep_info_of project u) (replied_files u.out (small_compiler (compile_of setup project u done p) v))) ≡ Ok a
    → CanTell (compile_of setup project u done p) v → AllByRecursion (SameInput v w) a.inputs → SameAround (compile_of setup project u done p) v w
    → small_compiler (compile_of setup project u done p) w ≡ small_compiler (compile_of setup project u done p) v
on_compiles setup project u done p is_of plain source keys v w a where_it_is found tell same folders =
    compile_honest setup project u done p is_of plain source keys v tell w a (compile_judged setup project u done p is_of plain source keys v a where_it_is found) same folders
