-- What units need, as numbers.
use Rattle.std.proofs.Common.{◌≡◌, ℕ, ◌+◌, Bool, true, false, ◌&&◌, if◌then◌else◌, List, [], ◌∷◌, ◌++◌, map, slice_get, refl, sym, ap, ◌∙◌, append_assoc}
use Rattle.std.proofs.lemmas.List.{map-append}
use Rattle.pb_graph.specs.Placed.{placed}
use Rattle.pb_workspace_types.specs.declared.package.Side.{Side}
use Rattle.pb_workspace_types.specs.declared.package.Side.TheVariants.{Host}
use Rattle.pb_workspace_types.specs.declared.workspace.Workspace.{Workspace}
use Rattle.pb_feature_types.specs.declared.features.Features.{Features}
use Rattle.pb_feature_types.specs.Features.{is_enabled}
use Rattle.pb_unit.specs.declared.dependencies.Need.TheVariants as need
use Rattle.pb_unit.specs.declared.unit.Unit.{Unit}
use Rattle.pb_unit.specs.declared.unit.What.TheVariants.{Lib, Bin, Script, Run}
use Rattle.pb_unit.specs.Units.{unit, has_library, hands_on, is_normal, is_build, entries_at, library_by, tool_by, run_by, libraries, tools, runs, own_library, own_run, needs_of}
use Rattle.pb_unit.specs.Drawing.{number, numbers_by, all_numbers}

-- each of what is placed, mapped
map_placed : {A B C : Type 0} (h : B → C) (f : ℕ → A → List B) (g : ℕ → A → List C) → ((k : ℕ) (x : A) → map h (f k x) ≡ g k x) → (n : ℕ) (xs : List A) → map h (placed f n xs) ≡ placed g n xs
map_placed h f g same n [] = refl
map_placed h f g same n (x ∷ xs) = map-append h (f n x) (placed f (n + 1) xs) ∙ ap (λ l. map h (f n x) ++ l) (map_placed h f g same (n + 1) xs) ∙ ap (λ l. l ++ placed g (n + 1) xs) (same n x)

-- the number of a unit that is there where three tests pass
number_if : (a b c : Bool) (u : Unit) → map number (if a && b && c then u ∷ [] else []) ≡ (if a && (b && c) then number u ∷ [] else [])
number_if true true true u = refl
number_if true true false u = refl
number_if true false c u = refl
number_if false b c u = refl

module _ (ws : Workspace) (features : Features) (p : ℕ) (s : Side) where
  libraries_are : map number (libraries ws features p s) ≡ all_numbers need.Lib ws features p s
  libraries_are = map_placed number (library_by ws features p s) (numbers_by need.Lib ws features p s) (λ n e. number_if (is_enabled features p s n) (is_normal e.kind) (has_library (slice_get ws.packages e.to)) (unit e.to s Lib)) 0 (entries_at ws p)

  tools_are : map number (tools ws features p s) ≡ all_numbers need.Tool ws features p s
  tools_are = map_placed number (tool_by ws features p s) (numbers_by need.Tool ws features p s) (λ n e. number_if (is_enabled features p s n) (is_build e.kind) (has_library (slice_get ws.packages e.to)) (unit e.to Host Lib)) 0 (entries_at ws p)

  runs_are : map number (runs ws features p s) ≡ all_numbers need.Run ws features p s
  runs_are = map_placed number (run_by ws features p s) (numbers_by need.Run ws features p s) (λ n e. number_if (is_enabled features p s n) (is_normal e.kind) (hands_on (slice_get ws.packages e.to)) (unit e.to s Run)) 0 (entries_at ws p)

  pub library_needs : (a b c : List ℕ) → a ≡ [] → b ≡ a ++ all_numbers need.Lib ws features p s → c ≡ b ++ map number (own_run ws p s) → c ≡ map number (needs_of ws features p s Lib)
  library_needs a b c none first second =
      let b' : b ≡ map number (libraries ws features p s) = first ∙ ap (λ l. l ++ all_numbers need.Lib ws features p s) none ∙ sym libraries_are in
      second ∙ ap (λ l. l ++ map number (own_run ws p s)) b' ∙ sym (map-append number (libraries ws features p s) (own_run ws p s))

  pub binary_needs : (name : List ℕ) (a b c d : List ℕ) → a ≡ [] → b ≡ a ++ map number (own_library ws p s) → c ≡ b ++ all_numbers need.Lib ws features p s → d ≡ c ++ map number (own_run ws p s) → d ≡ map number (needs_of ws features p s (Bin name))
  binary_needs name a b c d none first second third =
      let own = own_library ws p s in
      let libs = libraries ws features p s in
      let run = own_run ws p s in
      let b' : b ≡ map number own = first ∙ ap (λ l. l ++ map number own) none in
      let c' : c ≡ map number own ++ map number libs = second ∙ ap (λ l. l ++ all_numbers need.Lib ws features p s) b' ∙ ap (λ l. map number own ++ l) (sym libraries_are) in
      let d' : d ≡ map number own ++ (map number libs ++ map number run) = third ∙ ap (λ l. l ++ map number run) c' ∙ append_assoc (map number own) (map number libs) (map number run) in
      d' ∙ ap (λ l. map number own ++ l) (sym (map-append number libs run)) ∙ sym (map-append number own (libs ++ run))

  pub script_needs : (a b : List ℕ) → a ≡ [] → b ≡ a ++ all_numbers need.Tool ws features p s → b ≡ map number (needs_of ws features p s Script)
  script_needs a b none first = first ∙ ap (λ l. l ++ all_numbers need.Tool ws features p s) none ∙ sym tools_are

  pub run_needs : (n : ℕ) (a b c : List ℕ) → a ≡ [] → n ≡ number (unit p s Script) → b ≡ a ++ n ∷ [] → c ≡ b ++ all_numbers need.Run ws features p s → c ≡ map number (needs_of ws features p s Run)
  run_needs n a b c none is first second =
      let b' : b ≡ number (unit p s Script) ∷ [] = first ∙ ap (λ l. l ++ n ∷ []) none ∙ ap (λ m. m ∷ []) is in
      second ∙ ap (λ l. l ++ all_numbers need.Run ws features p s) b' ∙ ap (λ l. number (unit p s Script) ∷ l) (sym runs_are)
