-- A call that changes files changes those at or below its path alone, also where it failed.
use Rattle.std.proofs.Common.{◌≡◌, ℕ, List, refl}
use Rattle.pb_place_types.specs.Paths.{is_at_or_below}
use Rattle.pb_place_types.specs.World.{World, ChangesOnly, Torn, written}
use Rattle.pb_place_types.proofs.Folders.{only_same, only_removed, only_partly, only_written, only_torn}
use Rattle.pb_place_types.proofs.Within.{at_itself}

pub wrote_only : (path bytes : List ℕ) (old new : World) → new ≡ written path bytes old → ChangesOnly (is_at_or_below path) old new
wrote_only path bytes old new is = only_written path path bytes old new (at_itself path path refl) is

pub tore_only : (path bytes : List ℕ) (old new : World) → Torn path bytes old new → ChangesOnly (is_at_or_below path) old new
tore_only path bytes old new torn = only_torn path path bytes old new (at_itself path path refl) torn

pub ruleset changing_laws = (only_same, only_removed, only_partly, wrote_only, tore_only)
