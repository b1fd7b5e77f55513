use Rattle.std.proofs.Common.{◌≡◌, ◌↔◌, length}
use Rattle.hub.specs.Ledgers.{numbers_of}
use Rattle.hub.proofs.audit.have_numbers.Given as goal

abbrev pub invariant-loop-receipt : goal.invariant-loop-receipt
invariant-loop-receipt l = (numbers_of l.receipts ≡ l.numbers) ↔ (numbers_of l.rest ≡ l.left)

abbrev pub decreases-loop-receipt : goal.decreases-loop-receipt
decreases-loop-receipt l = length l.rest
