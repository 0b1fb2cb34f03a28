-- The folders that are read are the least set of those to which the packages lead.
use Rattle.std.proofs.Common.{◌≡◌, ◌⊎◌, inl, inr, ◌↔◌, ℕ, zero, suc, List, [], ◌∷◌, length, Contains, Bool, true, false, if◌then◌else◌, Result, Ok, Err, refl, sym, subst}
use Rattle.std.specs.Prelude.{nat_le}
use Rattle.std.specs.List.{AllByRecursion}
use Rattle.pb_graph.specs.Closure.{Reached, start, onward}
use Rattle.pb_graph.proofs.Membership.{none, head, tail, cases}
use Rattle.pb_data.specs.UnlessOom.{◌>>=◌}
use Rattle.pb_workspace_package.specs.declared.unresolved_package.UnresolvedPackage.{UnresolvedPackage}
use Rattle.pb_workspace_types.specs.declared.fault.LoadFault.{LoadFault}
use Rattle.pb_workspace_types.specs.declared.fault.LoadFault.TheVariants.{TooMany}
use Rattle.pb_workspace.specs.declared.rounds.LoadState.{LoadState}
use Rattle.pb_workspace.specs.ByFolder.{folders_of, has}
use Rattle.pb_workspace.specs.Rounds.{all_read, leads_to, one_read, round, rounds, with_draft}
use Rattle.pb_workspace_package.proofs.Puttings.{with_entry_all}
use Rattle.pb_workspace.proofs.FoldersPut.{Path, opened, has_there, put_only, put_old, put_new, with_only, with_old, with_new}

-- a folder whose package was read, that is still to be read in this round, or that is read in the next
abbrev pub IsKnown : LoadState → List Path → Path → Type 0
IsKnown r queue x = Contains (folders_of r.found) x ⊎ (Contains queue x ⊎ Contains (folders_of r.ahead) x)

-- `pack` is the package of a folder, and `Leads` says where it leads
module _ (pack : Path → Result UnresolvedPackage LoadFault) (First : Path → Type 0) (Leads : Path → Path → Type 0)
    (shows : (x y : Path) (d : UnresolvedPackage) → pack x ≡ Ok d → Leads x y ↔ Contains (leads_to d.wanted) y) where
  pub record Sofar (r : LoadState) (queue : List Path) : Type 0 where
    pub sound : (x : Path) → IsKnown r queue x → Reached First Leads x
    pub seeds : (x : Path) → First x → IsKnown r queue x
    pub closed : (x y : Path) → Contains (folders_of r.found) x → Leads x y → IsKnown r queue y
    pub packs : AllByRecursion (λ e. pack e.0 ≡ Ok e.1) r.found

  -- one package more
  pub with_one : (r : LoadState) (folder : Path) (queue : List Path) (d : UnresolvedPackage) → Sofar r (folder ∷ queue) → pack folder ≡ Ok d → Sofar (with_draft r folder d) queue
  with_one r folder queue d so is = record {
    sound = sound;
    seeds = λ x first. still x (so.seeds x first);
    closed = closed;
    packs = with_entry_all (λ e. pack e.0 ≡ Ok e.1) r.found folder d so.packs is;
  }
    where
      still : (x : Path) → IsKnown r (folder ∷ queue) x → IsKnown (with_draft r folder d) queue x
      still x (inl found) = inl (put_old r.found folder d x found)
      still x (inr (inl waits)) = elim (cases folder queue x waits) [
        | inl here ↦ inl (subst (Contains (folders_of (with_draft r folder d).found)) here (put_new r.found folder d))
        | inr there ↦ inr (inl there)
      ]
      still x (inr (inr ahead)) = inr (inr (with_old r.ahead (leads_to d.wanted) x ahead))

      here : Reached First Leads folder
      here = so.sound folder (inr (inl (head folder queue)))

      sound : (x : Path) → IsKnown (with_draft r folder d) queue x → Reached First Leads x
      sound x (inl found) = elim (put_only r.found folder d x found) [ inl same ↦ subst (Reached First Leads) same here | inr old ↦ so.sound x (inl old) ]
      sound x (inr (inl waits)) = so.sound x (inr (inl (tail folder queue x waits)))
      sound x (inr (inr ahead)) = elim (with_only r.ahead (leads_to d.wanted) x ahead) [
        | inl old ↦ so.sound x (inr (inr old))
        | inr new ↦ onward folder x here ((shows folder x d is).1 new)
      ]

      closed : (x y : Path) → Contains (folders_of (with_draft r folder d).found) x → Leads x y → IsKnown (with_draft r folder d) queue y
      closed x y found leads = elim (put_only r.found folder d x found) [
        | inl same ↦ inr (inr (with_new r.ahead (leads_to d.wanted) y ((shows folder y d is).0 (subst (λ z. Leads z y) (sym same) leads))))
        | inr old ↦ still y (so.closed x y old leads)
      ]

  -- one that was read before
  pub with_none : (r : LoadState) (folder : Path) (queue : List Path) → Sofar r (folder ∷ queue) → has folder r.found ≡ true → Sofar r queue
  with_none r folder queue so there = record {
    sound = λ x known. so.sound x (wider x known);
    seeds = λ x first. still x (so.seeds x first);
    closed = λ x y found leads. still y (so.closed x y found leads);
    packs = so.packs;
  }
    where
      wider : (x : Path) → IsKnown r queue x → IsKnown r (folder ∷ queue) x
      wider x (inl found) = inl found
      wider x (inr (inl waits)) = inr (inl (tail folder queue x waits))
      wider x (inr (inr ahead)) = inr (inr ahead)

      still : (x : Path) → IsKnown r (folder ∷ queue) x → IsKnown r queue x
      still x (inl found) = inl found
      still x (inr (inl waits)) = elim (cases folder queue x waits) [
        | inl same ↦ inl (subst (Contains (folders_of r.found)) same (has_there r.found folder there))
        | inr later ↦ inr (inl later)
      ]
      still x (inr (inr ahead)) = inr (inr ahead)

  module _ (read : Path → Result UnresolvedPackage LoadFault) (agrees : (x : Path) (d : UnresolvedPackage) → read x ≡ Ok d → pack x ≡ Ok d) where
    pub one_more : (r made : LoadState) (folder : Path) (queue : List Path) → Sofar r (folder ∷ queue) → one_read read r folder ≡ Ok made → Sofar made queue
    one_more r made folder queue so is = by (has folder r.found) refl is
      where
        full : (b : Bool) → (if b then Err TooMany else read folder >>= (λ d. Ok (with_draft r folder d))) ≡ Ok made → Sofar made queue
        full true h = cc
        full false h =
            let o = opened (read folder) (λ d. Ok (with_draft r folder d)) made h in
            let same : with_draft r folder o.0 ≡ made = cc (o.2) in
            subst (λ x. Sofar x queue) same (with_one r folder queue o.0 so (agrees folder o.0 o.1))

        by : (b : Bool) → has folder r.found ≡ b → (if b then Ok r else (if nat_le 256 (length r.found) then Err TooMany else read folder >>= (λ d. Ok (with_draft r folder d)))) ≡ Ok made → Sofar made queue
        by true at h = let same : r ≡ made = cc in subst (λ x. Sofar x queue) same (with_none r folder queue so at)
        by false at h = full (nat_le 256 (length r.found)) h

    pub all_more : (folders : List Path) (r made : LoadState) → Sofar r folders → all_read read r folders ≡ Ok made → Sofar made []
    all_more [] r made so is = let same : r ≡ made = cc in subst (λ x. Sofar x []) same so
    all_more (folder ∷ folders) r made so is =
        let o = opened (one_read read r folder) (λ now. all_read read now folders) made is in
        all_more folders o.0 made (one_more r o.0 folder folders so o.1) o.2

    -- the next round begins
    pub turned : (r : LoadState) → Sofar r [] → Sofar (record { found = r.found; ahead = [] }) (folders_of r.ahead)
    turned r so = record {
      sound = λ x known. so.sound x (back x known);
      seeds = λ x first. on x (so.seeds x first);
      closed = λ x y found leads. on y (so.closed x y found leads);
      packs = so.packs;
    }
      where
        back : (x : Path) → IsKnown (record { found = r.found; ahead = [] }) (folders_of r.ahead) x → IsKnown r [] x
        back x (inl found) = inl found
        back x (inr (inl waits)) = inr (inr waits)
        back x (inr (inr ahead)) = absurd (none x ahead)

        on : (x : Path) → IsKnown r [] x → IsKnown (record { found = r.found; ahead = [] }) (folders_of r.ahead) x
        on x (inl found) = inl found
        on x (inr (inl waits)) = absurd (none x waits)
        on x (inr (inr ahead)) = inr (inl ahead)

    pub rounds_more : (n : ℕ) (r made : LoadState) → Sofar r [] → rounds n read r ≡ Ok made → Sofar made []
    unfolding rounds
    rounds_more zero r made so is = let same : r ≡ made = cc in subst (λ x. Sofar x []) same so
    rounds_more (suc n) r made so is =
        let o = opened (round read r) (λ now. rounds n read now) made is in
        rounds_more n o.0 made (all_more (folders_of r.ahead) (record { found = r.found; ahead = [] }) o.0 (turned r so) o.1) o.2

  -- nothing is ahead
  pub at_end : (r : LoadState) → Sofar r [] → r.ahead ≡ [] → (x : Path) → Contains (folders_of r.found) x ↔ Reached First Leads x
  at_end r so nothing x = (λ found. so.sound x (inl found), whole x)
    where
      settled : (y : Path) → IsKnown r [] y → Contains (folders_of r.found) y
      settled y (inl found) = found
      settled y (inr (inl waits)) = absurd (none y waits)
      settled y (inr (inr ahead)) = absurd (none y (subst (λ (es : List (Path × Unit {0})). Contains (folders_of es) y) nothing ahead))

      whole : (y : Path) → Reached First Leads y → Contains (folders_of r.found) y
      whole _ (start y first) = settled y (so.seeds y first)
      whole _ (onward y z before leads) = settled z (so.closed y z (whole y before) leads)
