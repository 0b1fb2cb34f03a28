use Rattle.std.proofs.Common.{◌∙◌, ap, map}
use Rattle.std.specs.List.{list_all}
use Rattle.pb_place_types.specs.Paths.{parts_of}
use Rattle.pb_workspace.proofs.NamesOfPaths.{leads_on, one_of_all, parts_lead_on}
use Rattle.pb_workspace.proofs.member.parts_meant.Goals as goal

pub go_further-requires : goal.go_further-requires
go_further-requires c =
    one_of_all (λ part. part.now) leads_on c.as_slice-part-items.result.now c.loop-part.part-index _
    (ap (λ parts. list_all leads_on (map (λ part. part.now) parts)) c.as_slice-part-items.ensures.value ∙ ap (list_all leads_on) (c.in_ok-written.ensures ∙ ap parts_of c.as_str-2.ensures.text) ∙ parts_lead_on c.args.text.now c.as_str-2.ensures.whole)
    c.loop-part-test.true
