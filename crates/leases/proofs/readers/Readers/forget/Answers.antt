use Rattle.leases.specs.ByStream.{lists}
use Rattle.leases.proofs.ByStreamLemmas.{forgotten_by_stream}
use Rattle.leases.proofs.readers.Readers.forget.Goals as goal

pub invariant_of-self : goal.invariant_of-self
invariant_of-self c =
    forgotten_by_stream c.args.query (lists c.self.inside.by_stream.items) (lists c.forget_in_each.new.by_stream.items) c.self.inside.all.items c.forget_in.new.readers.items c.self.invariant c.forget_in_each.ensures c.forget_in.ensures
