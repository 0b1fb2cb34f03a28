-- A start is a spawn and the end of its child in turn.
use Rattle.std.proofs.Common.{◌≡◌, ℕ, Bool, true, false, not, ◌∙◌, ◌++◌, List, [], ◌∷◌, Option, Some, None, Result, Ok, Err, refl, sym, ap, subst, cond, inl, inr}
use Rattle.std.specs.Prelude.{IfOk, IfSome}
use Rattle.std.proofs.lemmas.Bool.{cases_Bool}
use Rattle.std.specs.Cmp.Lexicographic.{nat_list_cmp_total}
use Rattle.std.specs.FinMap.{get, retain_keys, same_map}
use Rattle.pb_place_types.specs.Paths.{is_below}
use Rattle.pb_place_types.specs.World.{World, Map, Ends, AgreeBut, ChangesOnlyInSome, put_files, put_reply}
use Rattle.pb_place_types.specs.Folders.{files_in, first_of}
use Rattle.pb_place_types.specs.Children.{inside_out, put_back, landing, child_spawned, LandsAs}
use Rattle.pb_place_types.specs.declared.child.Reply.{Reply}
use Rattle.pb_place_types.specs.Counts.{Counts, up, past_call, past_fault, without, counted_finish, counted_spawn, counted_start}
use Rattle.pb_place_types.specs.declared.child_in_flight.ChildInFlight.{ChildInFlight}
use Rattle.pb_place_types.specs.declared.place.StartFault.{StartFault}
use Rattle.pb_place_types.specs.declared.place.StartFault.TheVariants as start
use Rattle.pb_place_types.specs.declared.place.Failure.TheVariants.{Started}
use Rattle.pb_place_types.specs.declared.command.Command.{Command}
use Rattle.pb_place_types.specs.declared.command.Ended.{Ended}
use Rattle.pb_place_types.proofs.MapLemmas.{exact, get-kept}
use Rattle.pb_place_types.proofs.Folders.{same_world, get-over, get-files_in}

first_alone : {A : Type 0} (x : Option A) → first_of x None ≡ x
first_alone None = refl
first_alone (Some x) = refl

pub back_as_it_was : (out : List ℕ) (m n : Map) → AgreeBut (is_below out) m n → put_back out (files_in out m) n ≡ m
back_as_it_was out m n agree = same_map nat_list_cmp_total exact _ _ (λ q.
    let inner : get (files_in out m) q ≡ cond (is_below out q) (get m q) None = get-files_in out m q in
    let outer : get (retain_keys n (λ p. not (is_below out p))) q ≡ cond (not (is_below out q)) (get n q) None = get-kept n (λ p. not (is_below out p)) q in
    get-over (files_in out m) (retain_keys n (λ p. not (is_below out p))) q
    ∙ ap (λ x. first_of x (get (retain_keys n (λ p. not (is_below out p))) q)) inner
    ∙ ap (λ x. first_of (cond (is_below out q) (get m q) None) x) outer
    ∙ elim (cases_Bool (is_below out q)) [
      | inl inside ↦ ap (λ b. first_of (cond b (get m q) None) (cond (not b) (get n q) None)) inside ∙ first_alone (get m q)
      | inr outside ↦ ap (λ b. first_of (cond b (get m q) None) (cond (not b) (get n q) None)) outside ∙ agree q outside
    ])

kept_twice : (b : Bool) (x : Option (List ℕ)) → cond b (cond b x None) None ≡ cond b x None
kept_twice true x = refl
kept_twice false x = refl

inside_twice : (out : List ℕ) (m : Map) → files_in out (files_in out m) ≡ files_in out m
inside_twice out m = same_map nat_list_cmp_total exact _ _ (λ q.
    get-files_in out (files_in out m) q ∙ ap (λ x. cond (is_below out q) x None) (get-files_in out m q) ∙ kept_twice (is_below out q) (get m q) ∙ sym (get-files_in out m q))

pub landed_as_started : (out : Option (List ℕ)) (files : List (List ℕ × List ℕ)) (w v : World) → ChangesOnlyInSome out w v → landing out files (inside_out out w.files) v ≡ put_reply out files w
landed_as_started None files w v only = only
landed_as_started (Some out) files w v only =
    same_world _ _ (ap (put_files out files) (ap (λ x. put_back out x v.files) (inside_twice out w.files) ∙ back_as_it_was out w.files v.files only.files)) only.variables

pub started_ends : (child : World → Reply) (command : Command) (w v u : World) (ticket : ℕ) (ended : Ended) → ChangesOnlyInSome command.out w v → LandsAs (child_spawned child command w ticket) v ended u → Ends child command w ended u
started_ends child command w v u ticket ended only lands = record {
  status = ap (λ (e : Ended). e.status) lands.answer;
  stdout = ap (λ (e : Ended). e.stdout) lands.answer;
  stderr = ap (λ (e : Ended). e.stderr) lands.answer;
  world = lands.world ∙ landed_as_started command.out _ w v only;
}

-- changes in a folder join
pub some_join : (out : Option (List ℕ)) (w v u : World) → ChangesOnlyInSome out w v → ChangesOnlyInSome out v u → ChangesOnlyInSome out w u
some_join None w v u one two = two ∙ one
some_join (Some out) w v u one two = record { variables = two.variables ∙ one.variables; files = λ q outside. two.files q outside ∙ one.files q outside }

-- what holds of each answer, and of what is there
pub each_ok : {T E : Type 0} (P Q : T → Type 0) (r : Result T E) → ((x : T) → P x → Q x) → IfOk r P → IfOk r Q
each_ok P Q (Ok x) f p = f x p
each_ok P Q (Err e) f p = p

pub of_some : {X : Type 0} (P : X → Type 0) (o : Option X) (x : X) → o ≡ Some x → IfSome o P → P x
of_some {X = X} P o x is h = subst (λ (y : Option X). IfSome y P) is h

-- a spawn, and the end of its child, are counted as one start
pub counted_both : {T : Type 0} (r : Result T StartFault) (t : ℕ) (f : ℕ → ChildInFlight) (c : Counts) → without t (c.starts.flying ++ f t ∷ []) ≡ c.starts.flying → counted_finish t r (counted_spawn f (Ok t) c) ≡ counted_start r c
counted_both (Ok x) t f c e = ap (λ (fs : List ChildInFlight). record (past_call c) { starts = record c.starts { count = up c.starts.count; flying = fs } }) e
counted_both (Err start.OutOfMemory) t f c e = ap (λ (fs : List ChildInFlight). record (past_call c) { starts = record c.starts { count = up c.starts.count; flying = fs } }) e
counted_both (Err start.CannotStart) t f c e = ap (λ (fs : List ChildInFlight). record (past_fault (Started start.CannotStart) c) { calls = up c.calls; starts = record c.starts { count = up c.starts.count; flying = fs } }) e
counted_both (Err start.Died) t f c e = ap (λ (fs : List ChildInFlight). record (past_fault (Started start.Died) c) { calls = up c.calls; starts = record c.starts { count = up c.starts.count; flying = fs } }) e
counted_both (Err start.Capture) t f c e = ap (λ (fs : List ChildInFlight). record (past_fault (Started start.Capture) c) { calls = up c.calls; starts = record c.starts { count = up c.starts.count; flying = fs } }) e
