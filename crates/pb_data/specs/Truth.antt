-- Truth values as the words `true` and `false`.
use Rattle.std.specs.Prelude.{ℕ, Bool, true, false, codes, List}

abbrev pub truth_text : Bool → List ℕ
truth_text true = codes "true"
truth_text false = codes "false"
