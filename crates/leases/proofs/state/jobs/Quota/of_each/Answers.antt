-- Equal shares are no more than the whole.
use Rattle.std.proofs.Common.{◌≤◌, ◌*◌, arith}
use Rattle.std.specs.Prelude.{◌/◌}
use Rattle.std.proofs.Math.Nat.{mul-div-le, mul-le-mul_left}
use Rattle.leases.proofs.state.jobs.Quota.of_each.Goals as goal

pub returns-clause-all : goal.returns-clause-all
returns-clause-all c =
    let less : c.min.result ≤ c.args.turns / c.args.jobs = omega (arith, c.min.ensures) in
    let shares : c.args.jobs * c.min.result ≤ c.args.jobs * (c.args.turns / c.args.jobs) = mul-le-mul_left c.args.jobs less in
    let whole : c.args.jobs * (c.args.turns / c.args.jobs) ≤ c.args.turns = mul-div-le c.args.turns c.args.jobs in
    omega (arith, shares, whole)
