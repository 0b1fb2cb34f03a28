use Rattle.std.proofs.Common.{◌≡◌, ℕ, List, max, drop}
use Rattle.std.specs.List.{fold}
use Rattle.pb_store.proofs.opening.greatest_among.Given as goal

abbrev pub invariant-loop-need : goal.invariant-loop-need
invariant-loop-need l = record {
  found : fold (λ m (pair : List ℕ × ℕ). max m pair.1) l.greatest (drop l.need-index l.needs) ≡ fold (λ m (pair : List ℕ × ℕ). max m pair.1) 0 l.needs;
}
