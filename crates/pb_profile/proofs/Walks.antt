-- A line is made profile after profile: what is behind those so far is the line of the next.
use Rattle.std.proofs.Common.{◌≡◌, ℕ, suc, ◌+◌, ◌-◌, ◌<◌, List, [], ◌∷◌, ◌++◌, Some, None, Result, Ok, Err, refl, sym, ◌∙◌, ap, arith, append_assoc}
use Rattle.pb_data.specs.UnlessOom.{◌>>=◌}
use Rattle.pb_manifest_types.specs.declared.profile.Profile.{Profile}
use Rattle.pb_profile.specs.declared.fault.ProfileFault.{ProfileFault}
use Rattle.pb_profile.specs.Line.{Seen, above, then_above, line_within}
use Rattle.pb_profile.specs.Walking.{behind}

-- one profile is taken off
one_step : (k i : ℕ) → i < k → (ps : List Profile) (s : Seen) → line_within (k - i) ps s ≡ (above ps s >>= then_above (line_within (k - (i + 1)) ps) s)
one_step k i lt ps s = let e : k - i ≡ suc (k - (i + 1)) = omega arith in rw e refl

regroup : (so_far : List Seen) (s : Seen) (rest : Result (List Seen) ProfileFault) → behind so_far (rest >>= (λ line. Ok (s ∷ line))) ≡ behind (so_far ++ s ∷ []) rest
regroup so_far s (Ok line) = ap Ok (sym (append_assoc so_far (s ∷ []) line))
regroup so_far s (Err e) = refl

module _ (k i : ℕ) (lt : i < k) (ps : List Profile) (s : Seen) (so_far : List Seen) (whole : Result (List Seen) ProfileFault) (is : whole ≡ behind so_far (line_within (k - i) ps s)) where
  pub ends_badly : (e : ProfileFault) → above ps s ≡ Err e → whole ≡ Err e
  ends_badly e bad = is ∙ rw (one_step k i lt ps s, bad) refl

  pub ends_well : above ps s ≡ Ok None → whole ≡ Ok (so_far ++ s ∷ [])
  ends_well last = is ∙ rw (one_step k i lt ps s, last) refl

  pub goes_on : (p : Seen) → above ps s ≡ Ok (Some p) → whole ≡ behind (so_far ++ s ∷ []) (line_within (k - (i + 1)) ps p)
  goes_on p next = is ∙ rw (one_step k i lt ps s, next) (regroup so_far s (line_within (k - (i + 1)) ps p))
