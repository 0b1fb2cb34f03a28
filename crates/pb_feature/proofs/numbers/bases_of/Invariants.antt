use Rattle.std.proofs.Common.{◌≡◌, ◌++◌, drop}
use Rattle.pb_feature.specs.Numbers.{bases_from, end_from}
use Rattle.pb_feature.proofs.numbers.bases_of.Given as goal

abbrev pub invariant-loop-owner : goal.invariant-loop-owner
invariant-loop-owner l = record {
  bases : l.bases.items ++ bases_from l.base (drop l.owner-index l.packages) ≡ bases_from 0 l.packages;
  end : end_from l.base (drop l.owner-index l.packages) ≡ end_from 0 l.packages;
}
