use Rattle.std.proofs.Common.{◌≡◌, ◌++◌, map, true}
use Rattle.std.specs.Prelude.{All}
use Rattle.std.specs.Vec.Iter.{into_iter_items}
use Rattle.pb_place_types.specs.World.{World}
use Rattle.pb_manifest_types.specs.Letters.{is_name}
use Rattle.std.specs.List.{AllByRecursion}
use Rattle.pb_workspace_package.specs.Drafted.{IsBinaryNamed}
use Rattle.pb_workspace_package.specs.Binaries.{written_binary}
use Rattle.pb_workspace_package.specs.Listings.{AreListingsOf}
use Rattle.pb_workspace_package.proofs.binaries.written_binaries.Given as goal

abbrev pub invariant-loop-binary : goal.invariant-loop-binary
invariant-loop-binary l = record {
  names : All (λ b. is_name b.name ≡ true) (into_iter_items l.binary-iterator);
  made : (sources : World) → AreListingsOf l.folder sources l.listings → l.binaries ++ map (written_binary l.folder sources l.package_name) (into_iter_items l.binary-iterator) ≡ map (written_binary l.folder sources l.package_name) l.fn.written;
  good : AllByRecursion IsBinaryNamed l.binaries;
}
