use Rattle.std.proofs.Common.{◌≡◌, ◌≤◌, ◌∙◌, arith, max, unwrap_or, ℕ, ap, List}
use Rattle.std.specs.List.{AllByRecursion, reduce}
use Rattle.reference.proofs.InputLemmas.{greatest-early}
use Rattle.reference.proofs.standing.StandingQuery.new.Goals as goal

pub invariant_of-result-clause-begins : goal.invariant_of-result-clause-begins
invariant_of-result-clause-begins c =
    let first : c.first_instant-first.result ≡ unwrap_or (reduce max c.in_ok-opens.opens.items) 0 =
    rw c.deref-3.ensures.value at c.first_instant-first.ensures in
    omega (arith, first, greatest-early 1099511627777 c.in_ok-opens.opens.items c.in_ok-opens.ensures.range)

pub invariant_of-result-clause-reaches : goal.invariant_of-result-clause-reaches
invariant_of-result-clause-reaches c =
    let first : c.first_instant-first.result ≡ unwrap_or (reduce max c.in_ok-opens.opens.items) 0 =
    rw c.deref-3.ensures.value at c.first_instant-first.ensures in
    omega (arith, first, greatest-early 1099511627777 c.in_ok-opens.opens.items c.in_ok-opens.ensures.range)
