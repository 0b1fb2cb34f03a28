use Rattle.pb_place_host.proofs.Finding.{file_found, folder_found}
use Rattle.pb_place_host.proofs.listing.take_entry.Goals as goal

pub returns-in_ok-add_file-in-Ok-File-clause-below : goal.returns-in_ok-add_file-in-Ok-File-clause-below
returns-in_ok-add_file-in-Ok-File-clause-below g c = λ above at below. record {
  files = file_found above c.args.here.now.folder _ c.args.found.now.files.items _ at c.in_ok-path.ensures.below below.files c.in_ok-add_file-in-Ok-File.ensures.files;
  waiting = rw c.in_ok-add_file-in-Ok-File.ensures.waiting below.waiting;
}

pub returns-in_ok-add_folder-in-Ok-Folder-clause-below : goal.returns-in_ok-add_folder-in-Ok-Folder-clause-below
returns-in_ok-add_folder-in-Ok-Folder-clause-below g c = λ above at below. record {
  files = rw c.in_ok-add_folder-in-Ok-Folder.ensures.files below.files;
  waiting = folder_found above c.args.here.now.folder _ c.args.found.now.waiting.items _ at c.in_ok-path.ensures.below below.waiting c.in_ok-add_folder-in-Ok-Folder.ensures.waiting;
}
