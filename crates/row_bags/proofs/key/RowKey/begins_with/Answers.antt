use Rattle.row_bags.proofs.FrontLemmas.{starts-front}
use Rattle.row_bags.proofs.key.RowKey.begins_with.Goals as goal

pub returns : goal.returns
returns g c = rw (c.starts_with.ensures.value, c.values.ensures.value, c.as_slice.ensures.value) (starts-front c.args.self.now.items c.args.front.now.items)
