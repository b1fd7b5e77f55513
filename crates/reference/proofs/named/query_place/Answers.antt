use Rattle.std.proofs.Common.{◌∙◌, ap, position}
use Rattle.name_table.specs.Names.{bears}
use Rattle.reference.proofs.NamedLemmas.{registered-place}
use Rattle.reference.proofs.named.query_place.Goals as goal

pub returns : goal.returns
returns c = λ queries is. c.number_of.ensures ∙ ap (position (bears c.args.name.now)) is ∙ registered-place c.args.name.now queries
