-- How the code builds a line, profile by profile. Only a private function needs these definitions.
use Rattle.std.specs.Prelude.{List, ◌++◌, Result, Ok}
use Rattle.pb_data.specs.UnlessOom.{◌>>=◌}
use Rattle.pb_profile.specs.Line.{Seen}
use Rattle.pb_profile.specs.declared.fault.ProfileFault.{ProfileFault}

-- the profiles found so far, followed by the rest of the line
abbrev pub behind : List Seen → Result (List Seen) ProfileFault → Result (List Seen) ProfileFault
behind so_far rest = rest >>= (λ line. Ok (so_far ++ line))
