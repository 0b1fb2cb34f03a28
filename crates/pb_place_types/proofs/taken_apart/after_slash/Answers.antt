use Rattle.std.proofs.Common.{lit<}
use Rattle.std.proofs.lemmas.Str.Pattern.{strip_prefix_char}
use Rattle.pb_place_types.proofs.TakenApart.{after_slash-strips}
use Rattle.pb_place_types.proofs.taken_apart.after_slash.Goals as goal

pub returns : goal.returns
returns c = after_slash-strips c.args.text.now _ (strip_prefix_char 47 c.args.text.now _ c.strip_prefix.ensures.cases (lit< tt))
