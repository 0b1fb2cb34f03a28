use Rattle.std.proofs.Common.{◌≡◌, Some, IsTrue, take}
use Rattle.pb_place_types.specs.CallsInTurn.{past_calls}
use Rattle.pb_place_types.specs.World.{put_reply}
use Rattle.pb_mini_program.specs.Writing.{writes_in}
use Rattle.pb_mini_program.proofs.program.write_files.Given as goal

abbrev pub invariant-loop-name : goal.invariant-loop-name
invariant-loop-name g l = record {
  written : IsTrue g.P.Place.is_modelled → (g.P.Place.at l.place).world ≡ put_reply (Some l.folder) (take l.name-index l.files) (g.P.Place.at l.fn.place).world;
  called : (g.P.Place.at l.place).counts ≡ past_calls (writes_in l.folder (take l.name-index l.files)) (g.P.Place.at l.fn.place).counts;
}
