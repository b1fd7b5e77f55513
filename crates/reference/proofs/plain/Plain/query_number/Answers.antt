use Rattle.std.proofs.Common.{◌∙◌, map}
use Rattle.reference.specs.Standing.{query_of}
use Rattle.reference.proofs.NamedLemmas.{registered-names}
use Rattle.reference.proofs.plain.Plain.query_number.Goals as goal

pub returns : goal.returns
returns c =
    let p = c.args.self.now in
    c.query_place.ensures (map query_of p.queries.items) (p.queries_are_named ∙ registered-names p.queries.items)
