-- A record that is put, told by the world before a look and by the record that it is.
use Rattle.std.proofs.Common.{◌≡◌, List, ℕ, Result, subst}
use Rattle.pb_place_types.specs.World.{World, Answers}
use Rattle.pb_record.specs.declared.record.Record.{Record}
use Rattle.pb_store.specs.Folder.{PutsRecord}
use Rattle.pb_store.specs.declared.fault.StoreFault.{StoreFault}

pub puts_on : (child : Answers) (folder key : List ℕ) (r kept : Record) (result : Result Unit StoreFault) (old mid new : World) → mid ≡ old → r ≡ kept → PutsRecord child folder key r result mid new → PutsRecord child folder key kept result old new
puts_on child folder key r kept result old mid new same is put = subst (λ (k : Record). PutsRecord child folder key k result old new) is (subst (λ (w : World). PutsRecord child folder key r result w new) same put)
