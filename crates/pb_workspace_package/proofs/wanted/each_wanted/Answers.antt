use Rattle.std.proofs.Common.{◌≡◌, ℕ, ◌+◌, ◌<◌, List, [], ◌∷◌, ◌++◌, length, drop, get_or, add-one, append_assoc, Result, Ok, Err, refl, sym, ap, ◌∙◌}
use Rattle.std.proofs.Math.Seq.{drop-cons}
use Rattle.pb_data.specs.UnlessOom.{◌>>=◌}
use Rattle.pb_manifest_types.specs.declared.dependency.Dependency.{Dependency}
use Rattle.pb_workspace_types.specs.declared.fault.LoadFault.{LoadFault}
use Rattle.pb_workspace_package.specs.declared.wanted.Wanted.{Wanted}
use Rattle.pb_workspace_package.specs.Wanted.{each_wanted, wanted_of}
use Rattle.pb_workspace_package.proofs.wanted.each_wanted.Goals as goal

abbrev All : Type 0
All = Result (List Wanted) LoadFault

abbrev behind : List Wanted → All → All
behind made rest = rest >>= (λ ws. Ok (made ++ ws))

moved : (made : List Wanted) (w : Wanted) (rest : All) → behind (made ++ w ∷ []) rest ≡ behind made (rest >>= (λ ws. Ok (w ∷ ws)))
moved made w (Ok ws) = ap Ok (append_assoc made (w ∷ []) ws)
moved made w (Err e) = refl

-- one entry more is read, and put behind what is read already
next_entry : (one : Dependency → Result Wanted LoadFault) (whole : All) (made new : List Wanted) (ds : List Dependency) (i : ℕ) (d : Dependency) (w : Wanted)
    → i < length ds → d ≡ get_or ds i d → one d ≡ Ok w → new ≡ made ++ w ∷ [] → behind made (each_wanted one (drop i ds)) ≡ whole → behind new (each_wanted one (drop (i + 1) ds)) ≡ whole
next_entry one whole made new ds i d w within is read pushed before =
    let rest = each_wanted one (drop (i + 1) ds) in
    let cut = drop-cons ds i d within ∙ ap (λ n. get_or ds i d ∷ drop n ds) (sym (add-one i)) ∙ ap (λ x. x ∷ drop (i + 1) ds) (sym is) in
    ap (λ m. behind m rest) pushed ∙ moved made w rest ∙ ap (λ (r : Result Wanted LoadFault). behind made (r >>= (λ x. rest >>= (λ ws. Ok (x ∷ ws))))) (sym read)
    ∙ ap (λ xs. behind made (each_wanted one xs)) (sym cut) ∙ before

pub loop-entry-preserved : goal.loop-entry-preserved
loop-entry-preserved c =
    next_entry (wanted_of c.args.at.now.root c.args.at.now.folder c.args.at.now.manifest c.args.given.now c.args.kind) _ _ _ _ _ _ _
    c.loop-entry-test.true c.entry-item.is c.in_ok-wanted_of.ensures.told c.in_ok-push.ensures.ok c.loop-entry.invariant
