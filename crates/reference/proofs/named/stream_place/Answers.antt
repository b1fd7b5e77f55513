use Rattle.std.proofs.Common.{◌∙◌, ap, position}
use Rattle.name_table.specs.Names.{bears}
use Rattle.reference.proofs.NamedLemmas.{stream-place}
use Rattle.reference.proofs.named.stream_place.Goals as goal

pub returns : goal.returns
returns c = λ streams is. c.number_of.ensures ∙ ap (position (bears c.args.name.now)) is ∙ stream-place c.args.name.now streams
