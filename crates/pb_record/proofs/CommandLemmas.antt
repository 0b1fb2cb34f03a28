-- Lemmas on what was asked and commands.
use Rattle.std.proofs.Common.{◌≡◌, ℕ, Bool, true, false, if◌then◌else◌, ◌&&◌, ◌==◌, List, Option, Some, None, refl, sym, ◌∙◌, ap}
use Rattle.std.specs.Bool.{Decides}
use Rattle.std.specs.Cmp.Lexicographic.{pointwise}
use Rattle.std.specs.Str.{bytes_eq}
use Rattle.std.proofs.lemmas.Slice.Eq.{slice_eq-Decides, bytes_eq-Decides}
use Rattle.std.proofs.lemmas.Bool.Decides.{Decides-and, Decides-like}
use Rattle.pb_record.specs.Commands.{command_of, asked_with, of_parts, AsksAs, AskedIsCommand, CommandIsAsked, SameAsked}
use Rattle.pb_place_types.specs.declared.command.Command.{Command}
use Rattle.pb_record.specs.declared.recorded_command.RecordedCommand.{RecordedCommand}
use Rattle.pb_record.specs.Sorted.{are_sorted}

pub texts_same : (xs ys : List (List ℕ)) (r : Bool) → r ≡ pointwise (pointwise ◌==◌) xs ys → Decides r (xs ≡ ys)
texts_same xs ys r e = slice_eq-Decides bytes_eq-Decides xs ys r e

pair_same : (p q : List ℕ × List ℕ) → Decides (bytes_eq p.0 q.0 && bytes_eq p.1 q.1) (p ≡ q)
pair_same (a, b) (c, d) = Decides-like _ (λ e. cc) (λ e. (ap (λ (p : List ℕ × List ℕ). p.0) e, ap (λ (p : List ℕ × List ℕ). p.1) e)) (Decides-and _ _ (bytes_eq-Decides a c) (bytes_eq-Decides b d))

pub pairs_same : (xs ys : List (List ℕ × List ℕ)) (r : Bool) → r ≡ pointwise (λ p q. bytes_eq p.0 q.0 && bytes_eq p.1 q.1) xs ys → Decides r (xs ≡ ys)
pairs_same xs ys r e = slice_eq-Decides pair_same xs ys r e

asked_with_is : (c : Command) (a : RecordedCommand) (out : Option (List ℕ)) → c.out ≡ out → asked_with c out ≡ Some a → command_of a ≡ c
asked_with_is c a None at e = cc
asked_with_is c a (Some out) at e = elim (are_sorted c.pairs) as (λ b. (if b then Some (of_parts c out) else None) ≡ Some a → command_of a ≡ c) [
  | true ↦ λ e. let same : of_parts c out ≡ a = cc in ap command_of (sym same) ∙ ap (λ o. record c { out = o }) (sym at)
  | false ↦ λ e. cc
] e

pub asked_is : AskedIsCommand
asked_is c a e = asked_with_is c a c.out refl e

pub command_is : CommandIsAsked
command_is a sorted = ap (λ b. if b then Some a else None) sorted

-- a command of its parts
unfoldable made : List ℕ → List (List ℕ) → List ℕ → List (List ℕ × List ℕ) → Option (List ℕ) → List ℕ → List ℕ → List (List ℕ) → Command
made program words folder pairs out target toolchain reads = record {
  program = program;
  words = words;
  folder = folder;
  pairs = pairs;
  out = out;
  target = target;
  toolchain = toolchain;
  reads = reads;
}

made_same : (a : RecordedCommand) (c : Command) → AsksAs a c → a.pairs ≡ c.pairs
    → made a.program a.words a.folder a.pairs (Some a.out) a.target a.toolchain a.reads ≡ made c.program c.words c.folder c.pairs c.out c.target c.toolchain c.reads
made_same a c alike pairs = cc (alike.program, alike.words, alike.folder, alike.out, alike.target, alike.toolchain, alike.reads)

pub same_asked : SameAsked
unfolding made
same_asked a c alike pairs = made_same a c alike pairs
