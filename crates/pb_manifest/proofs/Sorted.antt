-- The tables of a document that `toml` reads are in byte order of their keys, each key once.
use Rattle.std.proofs.Common.{◌≡◌, ℕ, zero, suc, Ordering, Less, Equal, Greater, nat_cmp, is_lt, Bool, true, false, ◌&&◌, ◌==◌, if◌then◌else◌, List, [], ◌∷◌, length, drop, Option, Some, None, option_map, option_and_then, refl, ap, ◌∙◌, subst}
use Rattle.std.proofs.lemmas.Bool.{and_parts}
use Rattle.std.proofs.lemmas.Cmp.{nat_list_cmp_total}
use Rattle.std.proofs.lemmas.Option.{none-some, same_Some}
use Rattle.std.specs.Cmp.Lexicographic.{slice_cmp}
use Rattle.std.specs.Ordering.{match_ordering, ordering_reverse}
use Rattle.std.specs.Str.{is_utf8}
use Rattle.std.proofs.Common.{Ok, Err}
use Rattle.pb_data.specs.UnlessOom.{some_or}
use Rattle.pb_manifest.specs.Document.{document_in}
use Rattle.pb_manifest_types.specs.declared.fault.ManifestFault.TheVariants.{NotToml}
use Rattle.toml_parser.specs.Lexical.{Read, skip_blank, skip_ws, first, right_bracket, right_brace}
use Rattle.toml_parser.specs.Strings.{Key, quoted, starts_string, recursion_limit}
use Rattle.toml_parser.specs.Numbers.{unquoted}
use Rattle.toml_parser.specs.declared.scalar.Scalar.{Scalar}
use Rattle.toml_parser.specs.declared.scalar.Scalar.TheVariants.{Boolean, Integer, Float, Datetime}
use Rattle.toml.specs.Data.{Data, table, Items, no_items, item, push_item, Members, is_before, is_sorted, items_are_sorted, members_are_sorted, same_key}
use Rattle.toml.specs.Tables.{implicit, dotted, header, Node, value, open_table, open_array, Nodes, no_nodes, node, get_node, insert, replace, close, close_node, Edit, header_node, dot_node, by_header, by_dot, along_header, along_dots, Definition, key_value, std_table, array_table, new_node, redefine, at_found, at_key, put, Document, define_as, define}
use Rattle.toml.specs.Parse.{after_byte, after_element, key_equals, keyval, items, members, scalar_data, atom, val, header_key, expression, ends_line, line, lines, skip_bom, parse_document}

-- whatever is found has the property
abbrev Gets : {A : Type 0} → (A → Type 0) → Option A → Type 0
Gets {A} P found = (x : A) → found ≡ Some x → P x

abbrev Any : {A : Type 0} → A → Type 0
Any x = Unit {0}

gets_some : {A : Type 0} (P : A → Type 0) (x : A) → P x → Gets P (Some x)
gets_some P x p y is = subst P (same_Some x y is) p

gets_none : {A : Type 0} (P : A → Type 0) → Gets P None
gets_none P y is = absurd (none-some y is)

gets_map : {A B : Type 0} (f : A → B) (P : A → Type 0) (Q : B → Type 0) (found : Option A) → Gets P found → ((x : A) → P x → Q (f x)) → Gets Q (option_map f found)
gets_map f P Q None all step y is = absurd (none-some y is)
gets_map f P Q (Some x) all step y is = subst Q (same_Some (f x) y is) (step x (all x refl))

gets_then : {A B : Type 0} (f : A → Option B) (P : A → Type 0) (Q : B → Type 0) (found : Option A) → Gets P found → ((x : A) → P x → Gets Q (f x)) → Gets Q (option_and_then f found)
gets_then f P Q None all step y is = absurd (none-some y is)
gets_then f P Q (Some x) all step y is = step x (all x refl) y is

gets_either : {A : Type 0} (P : A → Type 0) (b : Bool) (taken other : Option A) → Gets P taken → Gets P other → Gets P (if b then taken else other)
gets_either P true taken other a b = a
gets_either P false taken other a b = b

any : {A : Type 0} (found : Option A) → Gets Any found
any found x is = tt

three : (a b c : Bool) → a ≡ true → b ≡ true → c ≡ true → ((a && b) && c) ≡ true
three a b c p q r = rw (p, q, r) refl

two : (a b : Bool) → a ≡ true → b ≡ true → (a && b) ≡ true
two a b p q = rw (p, q) refl

-- the key comes before the first of the nodes
abbrev leads : List ℕ → Nodes → Bool
leads k no_nodes = true
leads k (node l x ns) = is_lt (slice_cmp nat_cmp k l)

abbrev mutual
  node_is_sorted : Node → Bool
  node_is_sorted (value d) = is_sorted d
  node_is_sorted (open_table origin ns) = nodes_are_sorted ns
  node_is_sorted (open_array done ns) = items_are_sorted done && nodes_are_sorted ns

  nodes_are_sorted : Nodes → Bool
  nodes_are_sorted no_nodes = true
  nodes_are_sorted (node k x ns) = (leads k ns && node_is_sorted x) && nodes_are_sorted ns

abbrev NodeSorted : Node → Type 0
NodeSorted x = node_is_sorted x ≡ true

abbrev Sorted : Nodes → Type 0
Sorted ns = nodes_are_sorted ns ≡ true

-- what is known of the first of some nodes
record Parts (k : List ℕ) (x : Node) (ns : Nodes) : Type 0 where
  pub first_key : leads k ns ≡ true
  pub here : NodeSorted x
  pub more : Sorted ns

parts_of : (k : List ℕ) (x : Node) (ns : Nodes) → Sorted (node k x ns) → Parts k x ns
parts_of k x ns h =
    let (front, more) = and_parts (leads k ns && node_is_sorted x) (nodes_are_sorted ns) h in
    let (first_key, here) = and_parts (leads k ns) (node_is_sorted x) front in
    record { first_key = first_key; here = here; more = more }

push_sorted : (ds : Items) (d : Data) → items_are_sorted ds ≡ true → is_sorted d ≡ true → items_are_sorted (push_item ds d) ≡ true
push_sorted no_items d a b = two (is_sorted d) true b refl
push_sorted (item c ds) d a b = let (here, more) = and_parts (is_sorted c) (items_are_sorted ds) a in two (is_sorted c) _ here (push_sorted ds d more b)

leads_close : (k : List ℕ) (ns : Nodes) → leads k ns ≡ true → is_before k (close ns) ≡ true
leads_close k no_nodes h = refl
leads_close k (node l x ns) h = h

mutual
  close_node_sorted : (x : Node) → NodeSorted x → is_sorted (close_node x) ≡ true
  close_node_sorted (value d) h = h
  close_node_sorted (open_table origin ns) h = close_sorted ns h
  close_node_sorted (open_array done ns) h = let (a, b) = and_parts (items_are_sorted done) (nodes_are_sorted ns) h in push_sorted done (table (close ns)) a (close_sorted ns b)

  close_sorted : (ns : Nodes) → Sorted ns → members_are_sorted (close ns) ≡ true
  close_sorted no_nodes h = refl
  close_sorted (node k x ns) h = let p = parts_of k x ns h in three _ _ _ (leads_close k ns p.first_key) (close_node_sorted x p.here) (close_sorted ns p.more)

leads_insert : (l k : List ℕ) (x : Node) (ns : Nodes) → is_lt (slice_cmp nat_cmp l k) ≡ true → leads l ns ≡ true → leads l (insert k x ns) ≡ true
leads_insert l k x no_nodes before h = before
leads_insert l k x (node m y ns) before h = by (slice_cmp nat_cmp k m)
  where
    by : (o : Ordering) → leads l (match_ordering o (node k x (node m y ns)) (node m x ns) (node m y (insert k x ns))) ≡ true
    by Less = before
    by Equal = h
    by Greater = h

after_is : (k l : List ℕ) → slice_cmp nat_cmp k l ≡ Greater → is_lt (slice_cmp nat_cmp l k) ≡ true
after_is k l h = ap is_lt (nat_list_cmp_total.antisymm l k ∙ ap ordering_reverse h)

insert_sorted : (k : List ℕ) (x : Node) (ns : Nodes) → NodeSorted x → Sorted ns → Sorted (insert k x ns)
insert_sorted k x no_nodes here more = three true _ true refl here refl
insert_sorted k x (node l y ns) here h = let p = parts_of l y ns h in by (slice_cmp nat_cmp k l) refl p (insert_sorted k x ns here p.more)
  where
    by : (o : Ordering) → slice_cmp nat_cmp k l ≡ o → Parts l y ns → Sorted (insert k x ns) → Sorted (match_ordering o (node k x (node l y ns)) (node l x ns) (node l y (insert k x ns)))
    by Less is p later = three _ _ _ (ap is_lt is) here h
    by Equal is p later = three _ _ _ p.first_key here p.more
    by Greater is p later = three _ _ _ (leads_insert l k x ns (after_is k l is) p.first_key) p.here later

leads_replace : (l k : List ℕ) (x : Node) (ns : Nodes) → leads l ns ≡ true → leads l (replace k x ns) ≡ true
leads_replace l k x no_nodes h = refl
leads_replace l k x (node m y ns) h = by (same_key k m)
  where
    by : (b : Bool) → leads l (if b then node m x ns else node m y (replace k x ns)) ≡ true
    by true = h
    by false = h

replace_sorted : (k : List ℕ) (x : Node) (ns : Nodes) → NodeSorted x → Sorted ns → Sorted (replace k x ns)
replace_sorted k x no_nodes here h = refl
replace_sorted k x (node l y ns) here h = let p = parts_of l y ns h in by (same_key k l) p (replace_sorted k x ns here p.more)
  where
    by : (b : Bool) → Parts l y ns → Sorted (replace k x ns) → Sorted (if b then node l x ns else node l y (replace k x ns))
    by true p later = three _ _ _ p.first_key here p.more
    by false p later = three _ _ _ (leads_replace l k x ns p.first_key) p.here later

get_sorted : (k : List ℕ) (ns : Nodes) → Sorted ns → Gets NodeSorted (get_node k ns)
get_sorted k no_nodes h = gets_none NodeSorted
get_sorted k (node l x ns) h = let p = parts_of l x ns h in gets_either NodeSorted (same_key k l) _ _ (gets_some NodeSorted x p.here) (get_sorted k ns p.more)

-- an edit that keeps the order
abbrev Keeps : Edit → Type 0
Keeps edit = (ns : Nodes) → Sorted ns → Gets Sorted (edit ns)

header_sorted : (edit : Edit) (x : Node) → Keeps edit → NodeSorted x → Gets NodeSorted (header_node edit x)
header_sorted edit (value d) keeps h = gets_none NodeSorted
header_sorted edit (open_table origin ns) keeps h = gets_map (open_table origin) Sorted NodeSorted (edit ns) (keeps ns h) (λ new s. s)
header_sorted edit (open_array done ns) keeps h =
    let (a, b) = and_parts (items_are_sorted done) (nodes_are_sorted ns) h in
    gets_map (open_array done) Sorted NodeSorted (edit ns) (keeps ns b) (λ new s. two _ _ a s)

dot_sorted : (edit : Edit) (x : Node) → Keeps edit → NodeSorted x → Gets NodeSorted (dot_node edit x)
dot_sorted edit (value d) keeps h = gets_none NodeSorted
dot_sorted edit (open_table header ns) keeps h = gets_none NodeSorted
dot_sorted edit (open_table implicit ns) keeps h = gets_map (open_table dotted) Sorted NodeSorted (edit ns) (keeps ns h) (λ new s. s)
dot_sorted edit (open_table dotted ns) keeps h = gets_map (open_table dotted) Sorted NodeSorted (edit ns) (keeps ns h) (λ new s. s)
dot_sorted edit (open_array done ns) keeps h = gets_none NodeSorted

by_header_sorted : (k : List ℕ) (edit : Edit) (ns : Nodes) (found : Option Node) → Keeps edit → Sorted ns → Gets NodeSorted found → Gets Sorted (by_header k edit ns found)
by_header_sorted k edit ns None keeps h all =
    gets_map (λ new. insert k (open_table implicit new) ns) Sorted Sorted (edit no_nodes) (keeps no_nodes refl) (λ new s. insert_sorted k (open_table implicit new) ns s h)
by_header_sorted k edit ns (Some x) keeps h all =
    gets_map (λ new. replace k new ns) NodeSorted Sorted (header_node edit x) (header_sorted edit x keeps (all x refl)) (λ new s. replace_sorted k new ns s h)

by_dot_sorted : (k : List ℕ) (edit : Edit) (ns : Nodes) (found : Option Node) → Keeps edit → Sorted ns → Gets NodeSorted found → Gets Sorted (by_dot k edit ns found)
by_dot_sorted k edit ns None keeps h all =
    gets_map (λ new. insert k (open_table dotted new) ns) Sorted Sorted (edit no_nodes) (keeps no_nodes refl) (λ new s. insert_sorted k (open_table dotted new) ns s h)
by_dot_sorted k edit ns (Some x) keeps h all =
    gets_map (λ new. replace k new ns) NodeSorted Sorted (dot_node edit x) (dot_sorted edit x keeps (all x refl)) (λ new s. replace_sorted k new ns s h)

along_header_keeps : (path : List (List ℕ)) (edit : Edit) → Keeps edit → Keeps (along_header path edit)
unfolding along_header
along_header_keeps [] edit keeps ns h = keeps ns h
along_header_keeps (k ∷ path) edit keeps ns h = by_header_sorted k (along_header path edit) ns (get_node k ns) (along_header_keeps path edit keeps) h (get_sorted k ns h)

along_dots_keeps : (path : List (List ℕ)) (edit : Edit) → Keeps edit → Keeps (along_dots path edit)
unfolding along_dots
along_dots_keeps [] edit keeps ns h = keeps ns h
along_dots_keeps (k ∷ path) edit keeps ns h = by_dot_sorted k (along_dots path edit) ns (get_node k ns) (along_dots_keeps path edit keeps) h (get_sorted k ns h)

-- what a definition brings is sorted
abbrev definition_is_sorted : Definition → Bool
definition_is_sorted (key_value d) = is_sorted d
definition_is_sorted std_table = true
definition_is_sorted array_table = true

abbrev DefinitionSorted : Definition → Type 0
DefinitionSorted what = definition_is_sorted what ≡ true

new_sorted : (what : Definition) → DefinitionSorted what → NodeSorted (new_node what)
new_sorted (key_value d) h = h
new_sorted std_table h = refl
new_sorted array_table h = refl

redefine_sorted : (what : Definition) (x : Node) → NodeSorted x → Gets NodeSorted (redefine what x)
redefine_sorted (key_value d) x h = gets_none NodeSorted
redefine_sorted std_table (value d) h = gets_none NodeSorted
redefine_sorted std_table (open_table implicit ns) h = gets_some NodeSorted (open_table header ns) h
redefine_sorted std_table (open_table dotted ns) h = gets_none NodeSorted
redefine_sorted std_table (open_table header ns) h = gets_none NodeSorted
redefine_sorted std_table (open_array done ns) h = gets_none NodeSorted
redefine_sorted array_table (value d) h = gets_none NodeSorted
redefine_sorted array_table (open_table origin ns) h = gets_none NodeSorted
redefine_sorted array_table (open_array done ns) h =
    let (a, b) = and_parts (items_are_sorted done) (nodes_are_sorted ns) h in
    gets_some NodeSorted _ (two _ true (push_sorted done (table (close ns)) a (close_sorted ns b)) refl)

at_found_sorted : (k : List ℕ) (what : Definition) (ns : Nodes) (found : Option Node) → DefinitionSorted what → Sorted ns → Gets NodeSorted found → Gets Sorted (at_found k what ns found)
at_found_sorted k what ns None brings h all = gets_some Sorted _ (insert_sorted k (new_node what) ns (new_sorted what brings) h)
at_found_sorted k what ns (Some x) brings h all =
    gets_map (λ y. replace k y ns) NodeSorted Sorted (redefine what x) (redefine_sorted what x (all x refl)) (λ y s. replace_sorted k y ns s h)

at_key_keeps : (k : List ℕ) (what : Definition) → DefinitionSorted what → Keeps (at_key k what)
unfolding at_key
at_key_keeps k what brings ns h = at_found_sorted k what ns (get_node k ns) brings h (get_sorted k ns h)

put_keeps : (key : Key) (d : Data) → is_sorted d ≡ true → Keeps (put key d)
put_keeps key d h = along_dots_keeps key.0 (at_key key.1 (key_value d)) (at_key_keeps key.1 (key_value d) h)

-- what is read of a value
abbrev ValueSorted : Data × List ℕ → Type 0
ValueSorted r = is_sorted r.0 ≡ true

abbrev ItemsSorted : Items × List ℕ → Type 0
ItemsSorted r = items_are_sorted r.0 ≡ true

abbrev MembersSorted : Members × List ℕ → Type 0
MembersSorted r = members_are_sorted r.0 ≡ true

abbrev PairSorted : (Key × Data) × List ℕ → Type 0
PairSorted r = is_sorted r.0.1 ≡ true

scalar_sorted : (s : Scalar) → is_sorted (scalar_data s) ≡ true
scalar_sorted (Boolean b) = refl
scalar_sorted (Integer z) = refl
scalar_sorted (Float x) = refl
scalar_sorted (Datetime dt) = refl

atom_sorted : (text : List ℕ) → Gets ValueSorted (atom text)
unfolding atom
atom_sorted text =
    gets_either ValueSorted (starts_string text) _ _
    (gets_map _ Any ValueSorted (quoted text) (any (quoted text)) (λ r t. refl))
    (gets_map _ Any ValueSorted (unquoted text) (any (unquoted text)) (λ r t. scalar_sorted r.0))

items_sorted : (value_of : List ℕ → Read Data) → ((text : List ℕ) → Gets ValueSorted (value_of text)) → (n : ℕ) (found : Items) (text : List ℕ) → items_are_sorted found ≡ true
    → Gets ItemsSorted (items value_of n found text)
unfolding items
items_sorted value_of each zero found text h = gets_none ItemsSorted
items_sorted value_of each (suc n) found text h =
    let start = skip_blank text in
    gets_either ItemsSorted (first start == right_bracket) _ _ (gets_some ItemsSorted (found, drop 1 start) h)
    (gets_then _ ValueSorted ItemsSorted (value_of start) (each start) (λ v s.
    gets_then _ Any ItemsSorted (after_element right_bracket v.1) (any (after_element right_bracket v.1)) (λ rest t.
    items_sorted value_of each n (push_item found v.0) rest (push_sorted found v.0 h s))))

keyval_sorted : (value_of : List ℕ → Read Data) → ((text : List ℕ) → Gets ValueSorted (value_of text)) → (text : List ℕ) → Gets PairSorted (keyval value_of text)
keyval_sorted value_of each text =
    gets_then _ Any PairSorted (key_equals text) (any (key_equals text)) (λ k t.
    gets_map _ ValueSorted PairSorted (value_of k.1) (each k.1) (λ r s. s))

members_sorted : (value_of : List ℕ → Read Data) → ((text : List ℕ) → Gets ValueSorted (value_of text)) → (n : ℕ) (found : Nodes) (text : List ℕ) → Sorted found
    → Gets MembersSorted (members value_of n found text)
unfolding members
members_sorted value_of each zero found text h = gets_none MembersSorted
members_sorted value_of each (suc n) found text h =
    let start = skip_blank text in
    gets_either MembersSorted (first start == right_brace) _ _ (gets_some MembersSorted (close found, drop 1 start) (close_sorted found h))
    (gets_then _ PairSorted MembersSorted (keyval value_of start) (keyval_sorted value_of each start) (λ e s.
    gets_then _ Sorted MembersSorted (put e.0.0 e.0.1 found) (put_keeps e.0.0 e.0.1 s found h) (λ more m.
    gets_then _ Any MembersSorted (after_element right_brace e.1) (any (after_element right_brace e.1)) (λ rest t.
    members_sorted value_of each n more rest m))))

val_sorted : (depth : ℕ) (text : List ℕ) → Gets ValueSorted (val depth text)
unfolding val
val_sorted zero text = atom_sorted text
val_sorted (suc depth) text =
    gets_either ValueSorted _ _ _
    (gets_map _ ItemsSorted ValueSorted (items (val depth) (length text) no_items (drop 1 text)) (items_sorted (val depth) (val_sorted depth) (length text) no_items (drop 1 text) refl) (λ r s. s))
    (gets_either ValueSorted _ _ _
    (gets_map _ MembersSorted ValueSorted (members (val depth) (length text) no_nodes (drop 1 text)) (members_sorted (val depth) (val_sorted depth) (length text) no_nodes (drop 1 text) refl) (λ r s. s))
    (atom_sorted text))

-- what is read of a line
abbrev LineSorted : (Key × Definition) × List ℕ → Type 0
LineSorted r = DefinitionSorted r.0.1

expression_sorted : (text : List ℕ) → Gets LineSorted (expression text)
unfolding expression
expression_sorted text =
    gets_either LineSorted _ _ _
    (gets_then _ Any LineSorted (header_key (drop 2 text)) (any (header_key (drop 2 text))) (λ k t.
    gets_map _ Any LineSorted (after_byte right_bracket k.1) (any (after_byte right_bracket k.1)) (λ rest u. refl)))
    (gets_either LineSorted _ _ _
    (gets_map _ Any LineSorted (header_key (drop 1 text)) (any (header_key (drop 1 text))) (λ k t. refl))
    (gets_map _ PairSorted LineSorted (keyval (val recursion_limit) text) (keyval_sorted (val recursion_limit) (val_sorted recursion_limit) text) (λ r s. s)))

line_sorted : (text : List ℕ) → Gets LineSorted (line text)
unfolding line
line_sorted text =
    gets_then _ LineSorted LineSorted (expression text) (expression_sorted text) (λ e s.
    gets_either LineSorted (ends_line (skip_ws e.1)) _ _ (gets_some LineSorted e s) (gets_none LineSorted))

abbrev DocumentSorted : Document → Type 0
DocumentSorted doc = Sorted doc.0

define_as_sorted : (doc : Document) (key : Key) (what : Definition) → DocumentSorted doc → DefinitionSorted what → Gets DocumentSorted (define_as doc key what)
define_as_sorted doc key (key_value d) h s =
    gets_map _ Sorted DocumentSorted (along_header doc.1 (put key d) doc.0) (along_header_keeps doc.1 (put key d) (put_keeps key d s) doc.0 h) (λ root r. r)
define_as_sorted doc key std_table h s =
    gets_map _ Sorted DocumentSorted (along_header key.0 (at_key key.1 std_table) doc.0) (along_header_keeps key.0 (at_key key.1 std_table) (at_key_keeps key.1 std_table refl) doc.0 h) (λ root r. r)
define_as_sorted doc key array_table h s =
    gets_map _ Sorted DocumentSorted (along_header key.0 (at_key key.1 array_table) doc.0) (along_header_keeps key.0 (at_key key.1 array_table) (at_key_keeps key.1 array_table refl) doc.0 h) (λ root r. r)

lines_sorted : (n : ℕ) (doc : Document) (text : List ℕ) → DocumentSorted doc → Gets DocumentSorted (lines n doc text)
unfolding lines define
lines_sorted zero doc text h = gets_none DocumentSorted
lines_sorted (suc n) doc text h =
    let start = skip_blank text in
    gets_either DocumentSorted (length start == 0) _ _ (gets_some DocumentSorted doc h)
    (gets_then _ LineSorted DocumentSorted (line start) (line_sorted start) (λ e s.
    gets_then _ DocumentSorted DocumentSorted (define_as doc e.0.0 e.0.1) (define_as_sorted doc e.0.0 e.0.1 h s) (λ next m.
    lines_sorted n next e.1 m)))

-- the keys of each table of a document ascend
pub document_sorted : (text : List ℕ) (ms : Members) → parse_document text ≡ Some ms → members_are_sorted ms ≡ true
unfolding parse_document
document_sorted text =
    gets_map _ DocumentSorted (λ ms. members_are_sorted ms ≡ true) (lines (suc (length text)) (no_nodes, []) (skip_bom text)) (lines_sorted (suc (length text)) (no_nodes, []) (skip_bom text) refl)
    (λ doc s. close_sorted doc.0 s)

text_sorted : (b : Bool) (found : Option Members) (ms : Members) → Gets (λ (t : Members). members_are_sorted t ≡ true) found → (if b then some_or NotToml found else Err NotToml) ≡ Ok ms → members_are_sorted ms ≡ true
text_sorted true None ms all h = cc
text_sorted true (Some t) ms all h = let same : t ≡ ms = cc in all ms (ap Some same)
text_sorted false found ms all h = cc

-- of what bytes say, too
pub bytes_sorted : (bytes : List ℕ) (ms : Members) → document_in bytes ≡ Ok ms → members_are_sorted ms ≡ true
unfolding document_in
bytes_sorted bytes ms h = text_sorted (is_utf8 bytes) (parse_document bytes) ms (document_sorted bytes) h
