use Rattle.leases.proofs.state.shares.run_share.Goals as goal

pub for_each_mut-requires-clause-accepts : goal.for_each_mut-requires-clause-accepts
for_each_mut-requires-clause-accepts g c κs within = λ i p lt is. (c.requires.quota, c.requires.may i p.now lt is)
