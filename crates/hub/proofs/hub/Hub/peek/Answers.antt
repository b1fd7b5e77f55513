use Rattle.std.proofs.Common.{w64}
use Rattle.std.proofs.lemmas.Int.{to_z-of_z}
use Rattle.hub.proofs.KnownLemmas.{peeked}
use Rattle.hub.proofs.hub.Hub.peek.Goals as goal

pub returns : goal.returns
returns g c = peeked _ _ _ _ _ (to_z-of_z w64 c.args.limit c.ranges.limit) c.peek.ensures
