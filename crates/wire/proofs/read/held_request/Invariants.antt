use Rattle.std.proofs.Common.{◌≤◌, ℕ, List, Option}
use Rattle.wire.specs.Held.{ahead, work}
use Rattle.wire.specs.Reading.{SameRequests}
use Rattle.wire.proofs.read.held_request.Given as goal

abbrev pub invariant-blanks : goal.invariant-blanks
invariant-blanks l = ((left : Option (List ℕ)) → SameRequests (ahead l.fn.lines left) (ahead l.lines left))
    × ((turns : ℕ) → work l.lines turns ≤ work l.fn.lines turns)

abbrev pub decreases-blanks : goal.decreases-blanks
decreases-blanks l = work l.lines 0
