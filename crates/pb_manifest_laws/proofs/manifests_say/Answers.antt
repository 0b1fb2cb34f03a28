use Rattle.pb_manifest_laws.proofs.Documents.{documents_read, manifests_read, say_one}
use Rattle.pb_manifest_laws.proofs.Printed.{printed_read}
use Rattle.pb_manifest_laws.proofs.Written.{written_read}
use Rattle.pb_manifest_laws.proofs.manifests_say.Goals as goal

pub returns : goal.returns
returns c = record { documents = documents_read; manifests = manifests_read; one = say_one; written = written_read; printed = printed_read }
