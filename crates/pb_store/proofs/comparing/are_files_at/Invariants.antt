use Rattle.std.proofs.Common.{Ok, ℕ, ◌≡◌, drop, IsTrue}
use Rattle.std.specs.List.{filter_map}
use Rattle.pb_store.specs.Calls.{MayRead, OnlyLooks}
use Rattle.pb_store.specs.Differences.{same_files}
use Rattle.pb_store.specs.Matching.{matched}
use Rattle.pb_store.specs.Presence.{file_in, files_looked}
use Rattle.pb_store.proofs.Looking.{Reached}
use Rattle.pb_store.proofs.comparing.are_files_at.Given as goal

abbrev pub invariant-loop-path : goal.invariant-loop-path
invariant-loop-path g l = record {
  quiet : OnlyLooks {T = ℕ} MayRead (Ok 0) (g.P.Place.at l.fn.place) (g.P.Place.at l.place);
  same : IsTrue g.P.Place.is_modelled → matched l.matching (filter_map (file_in l.folder (g.P.Place.at l.fn.place).world.files) (drop l.path-index l.paths)) ≡ same_files (filter_map (file_in l.folder (g.P.Place.at l.fn.place).world.files) l.paths) l.recorded;
  looks : Reached (files_looked l.folder l.paths) (files_looked l.folder (drop l.path-index l.paths)) (g.P.Place.at l.fn.place).counts (g.P.Place.at l.place).counts;
}
