use Rattle.std.proofs.Common.{Some}
use Rattle.pb_manifest.proofs.Sorted.{bytes_sorted}
use Rattle.pb_manifest.proofs.Yields.{yields_table, ordered_ascend}
use Rattle.pb_manifest.proofs.laws.documents_are_in_order.Goals as goal

pub returns : goal.returns
returns c = record {
  document = λ bytes ms h. bytes_sorted bytes ms h;
  tables = λ k ms inner h at. yields_table k ms h (Some inner) at;
  keys = λ ms h. ordered_ascend ms h;
}
