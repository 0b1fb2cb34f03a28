-- The state of a place in memory: its maps, its counters, its children in flight, and which calls
-- will fail.
use Rattle.std.specs.Prelude.{ℕ, ◌==◌, ◌||◌, Bool, true, false, not, List, [], ◌∷◌, Option, Some, None, refl, if◌then◌else◌}
use Rattle.std.specs.List.{list_any}
use Rattle.std.specs.FinMap as map
use Rattle.std.specs.Str.{bytes_eq}
use Rattle.std.specs.Coded.{Coded, code_by, coded×, coded_ℕ, coded_list, coded_option}
use Rattle.pb_place_types.specs.At.{At}
use Rattle.pb_place_types.specs.Paths.{last_part}
use Rattle.pb_place_types.specs.World.{World}
use Rattle.pb_place_types.specs.Counts.{Counts, no_calls}
use Rattle.pb_place.specs.Codes.{child_code, world_code, counts_code}
use Rattle.pb_place.specs.Private.{start_code}
use Rattle.pb_place.specs.InFlight.{children_in, entry_at}
use Rattle.pb_place.specs.Tallies.{with_children}
use Rattle.pb_place.specs.declared.in_flight.Flying.{Flying}
use Rattle.pb_place.specs.declared.in_flight.Death.{Death}
use Rattle.pb_place_types.specs.declared.place.StartFault.{StartFault}

-- The state of a place in memory.
pub record Held : Type 0 where
  -- the files and variables of the place
  pub world : World
  -- the counters of the place, except for the children in flight
  pub tally : Counts
  -- the children in flight; each entry has the fault that the child's end will return, if there is
  -- one
  pub flying : List (Flying (Option StartFault))
  -- the greatest number of children that were ever in flight at once
  pub most : ℕ
  -- n if the n-th call from now is to fail, or 0 if no call is to fail
  pub fuse : ℕ
  -- the deaths that still wait for a child
  pub deaths : List Death

-- the counters of the place, with the children in flight
abbrev pub counts_in : Held → Counts
counts_in h = with_children (children_in h.flying) h.tally

-- the place as clauses see it
abbrev pub at_in : Held → At
at_in h = record { world = h.world; counts = counts_in h; most = h.most; still = λ _. Unit {0}; moved = [] }

-- the state of an empty place in memory before any call
abbrev pub no_held : Held
no_held = record { world = record { files = map.empty; variables = map.empty }; tally = no_calls; flying = []; most = 0; fuse = 0; deaths = [] }

-- A call may fail if a fuse is set, if a death waits, or if a child in flight will end with a
-- fault.
abbrev pub is_doomed : Flying (Option StartFault) → Bool
is_doomed f = not (is_none f.kept)
  where
    is_none : Option StartFault → Bool
    is_none None = true
    is_none (Some e) = false

abbrev pub may_fail : Held → Bool
may_fail h = not (h.fuse == 0) || (has_some h.deaths || list_any is_doomed h.flying)
  where
    has_some : List Death → Bool
    has_some [] = false
    has_some (d ∷ ds) = true

-- the fault that the end of the ticket's child will return, if there is one
abbrev pub fate_in : Option (Flying (Option StartFault)) → Option StartFault
fate_in None = None
fate_in (Some f) = f.kept

abbrev pub fate_at : ℕ → List (Flying (Option StartFault)) → Option StartFault
fate_at ticket flying = fate_in (entry_at ticket flying)

-- The death waits for a child with this output folder. `fate_of` is the kind of the first death
-- that waits for such a child, and `other_deaths` are the other deaths.
abbrev pub is_for : Option (List ℕ) → Death → Bool
is_for None d = false
is_for (Some out) d = bytes_eq d.key (last_part out)

abbrev pub fate_of : Option (List ℕ) → List Death → Option StartFault
fate_of out [] = None
fate_of out (d ∷ ds) = if is_for out d then Some d.kind else fate_of out ds

abbrev pub other_deaths : Option (List ℕ) → List Death → List Death
other_deaths out [] = []
other_deaths out (d ∷ ds) = if is_for out d then ds else d ∷ other_deaths out ds

abbrev pub flying_code : Coded (Flying (Option StartFault))
flying_code = code_by _ (coded× child_code (coded_option start_code)) (λ f. (f.child, f.kept)) (λ t. record { child = t.0; kept = t.1 }) (λ _. refl)

abbrev pub death_code : Coded Death
death_code = code_by _ (coded× (coded_list coded_ℕ) start_code) (λ d. (d.key, d.kind)) (λ t. record { key = t.0; kind = t.1 }) (λ _. refl)

abbrev pub held_code : Coded Held
held_code = code_by _ (coded× world_code (coded× counts_code (coded× (coded_list flying_code) (coded× coded_ℕ (coded× coded_ℕ (coded_list death_code))))))
    (λ h. (h.world, (h.tally, (h.flying, (h.most, (h.fuse, h.deaths))))))
    (λ t. record { world = t.0; tally = t.1.0; flying = t.1.1.0; most = t.1.1.1.0; fuse = t.1.1.1.1.0; deaths = t.1.1.1.1.1 }) (λ _. refl)

-- The world after a variable is set. `unset` is the world after a variable is removed.
abbrev pub set : List ℕ → List ℕ → World → World
set name value w = record w { variables = map.insert w.variables name value }

abbrev pub unset : List ℕ → World → World
unset name w = record w { variables = map.remove w.variables name }
