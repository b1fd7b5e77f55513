use Rattle.std.proofs.Common.{◌≡◌, IsTrue, false, true, subst}
use Rattle.run_queue.proofs.TournamentLemmas.{other_wins, there}
use Rattle.run_queue.proofs.tournament.better.Goals as goal

-- src/tournament.rt
pub returns-else-is_before : goal.returns-else-is_before
returns-else-is_before c =
    let slots = c.args.slots.now in
    let one = c.in-Some.ensures.lookup in
    let other = c.in-Some-get.ensures.lookup in
    other_wins slots c.args.left c.args.right c.in-Some.slot.now c.in-Some-get.other.now
    (there slots c.args.left c.in-Some.slot.now one.0 one.1) (there slots c.args.right c.in-Some-get.other.now other.0 other.1)
    (λ e. let never : false ≡ true = subst IsTrue c.if-is_before.false (c.is_before.ensures.1 e) in cc never)
