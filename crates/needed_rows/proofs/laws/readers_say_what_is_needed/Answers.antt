use Rattle.needed_rows.proofs.OpenLemmas.{readers_say}
use Rattle.needed_rows.proofs.laws.readers_say_what_is_needed.Goals as goal

pub returns : goal.returns
returns c = λ streams queries marks n s at behind. readers_say streams n s at queries marks behind
