use Rattle.std.proofs.Common.{◌≡◌, ◌<◌, ℕ}
use Rattle.std.specs.Prelude.{count_by, ◌==◌}
use Rattle.hub.specs.Seats.{PlainSeat}
use Rattle.hub.proofs.audit.is_each_once.Given as goal

abbrev pub invariant-loop-number : goal.invariant-loop-number
invariant-loop-number l = (k : ℕ) → k < l.number → count_by (λ (s : PlainSeat). s.number == k) l.seats ≡ 1
