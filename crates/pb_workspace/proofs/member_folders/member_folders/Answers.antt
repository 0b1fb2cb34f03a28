use Rattle.std.proofs.Common.{◌≡◌, refl, rules, subst}
use Rattle.std.specs.List.{flat_map}
use Rattle.pb_place_types.specs.CallsInTurn.{past_calls}
use Rattle.pb_place_types.specs.World.{from_nothing}
use Rattle.pb_workspace_types.specs.declared.fault.LoadFault.TheVariants.{OutOfMemory}
use Rattle.pb_workspace_package.proofs.Looking.{looks_all}
use Rattle.pb_workspace.specs.LookedAt.{members_looked, text_looked}
use Rattle.pb_workspace.proofs.member_folders.member_folders.Goals as goal

pub returns-in_err-put_folders-clause-looks : goal.returns-in_err-put_folders-clause-looks
returns-in_err-put_folders-clause-looks g c told =
    let sources = from_nothing c.args.target.now (g.P.Place.at c.args.place.now).world in
    let old = (g.P.Place.at c.args.place.now).counts in
    let mid = (g.P.Place.at c.folders_of_texts.new.place).counts in
    let h = looks_all OutOfMemory (members_looked c.args.target.now sources c.args.frame.now) old mid refl
    (subst (λ texts. mid ≡ past_calls (flat_map (text_looked c.args.target.now sources c.args.frame.now) texts) old) c.as_slice.ensures (c.in_ok-folders.ensures.looks told)) in
    search (rules, h)
