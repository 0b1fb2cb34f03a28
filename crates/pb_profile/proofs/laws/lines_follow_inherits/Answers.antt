use Rattle.std.proofs.Common.{◌≡◌, suc, ◌+◌, List, length, refl, subst, arith}
use Rattle.pb_manifest_types.specs.declared.profile.Profile.{Profile}
use Rattle.pb_profile.specs.Line.{Seen, seen_at}
use Rattle.pb_profile.proofs.Lines.{GoesOn, is_line, is_missing, goes_on}
use Rattle.pb_profile.proofs.Rings.{comes_back}
use Rattle.pb_profile.proofs.laws.lines_follow_inherits.Goals as goal

more_by_two : (ps : List Profile) (s : Seen) → GoesOn ps (length ps + 2) s → GoesOn ps (suc (suc (length ps))) s
more_by_two ps s on = let e : length ps + 2 ≡ suc (suc (length ps)) = omega arith in subst (λ n. GoesOn ps n s) e on

pub returns : goal.returns
returns c = record {
  lines = λ ps name line e. is_line ps (length ps + 2) (seen_at ps name) line e;
  missing = λ ps name e. is_missing ps (length ps + 2) (seen_at ps name) e;
  cycles = λ ps name e. comes_back ps (seen_at ps name) refl (more_by_two ps (seen_at ps name) (goes_on ps (length ps + 2) (seen_at ps name) e));
}
