use Rattle.std.proofs.Common.{◌≤◌, None, sym, subst, arith}
use Rattle.wire.specs.Held.{ahead, work}
use Rattle.wire.specs.Reading.{Keeps, SameRequests}
use Rattle.wire.proofs.Reading.{blank_line, same_same}
use Rattle.wire.proofs.read.held_request.Goals as goal

pub returns-in_default-clause-request : goal.returns-in_default-clause-request
returns-in_default-clause-request c = λ left.
    subst (λ s. SameRequests (ahead c.args.lines.now left) (ahead s left)) (sym (c.in_default.ensures.line left)) (c.blanks.invariant.0 left)

pub returns-in_default-clause-no_more : goal.returns-in_default-clause-no_more
returns-in_default-clause-no_more c = λ turns.
    subst (λ s. work s turns ≤ work c.args.lines.now turns) (sym (c.in_default.ensures.line None)) (c.blanks.invariant.1 turns)

pub returns-in-Some-request_of_line-clause-fewer : goal.returns-in-Some-request_of_line-clause-fewer
returns-in-Some-request_of_line-clause-fewer c = λ turns. omega (arith, c.in-Some.ensures.fewer turns, c.blanks.invariant.1 turns)

pub returns-in-Some-request_of_line-clause-no_more : goal.returns-in-Some-request_of_line-clause-no_more
returns-in-Some-request_of_line-clause-no_more c = λ turns. omega (arith, c.in-Some.ensures.fewer turns, c.blanks.invariant.1 turns)

pub blanks-smaller : goal.blanks-smaller
blanks-smaller c = c.in-Some.ensures.fewer 0

pub blanks-preserved : goal.blanks-preserved
blanks-preserved c = (
  λ left.
      same_same (ahead c.args.lines.now left) (ahead c.blanks.lines left) (ahead c.held_line.new.self left) (c.blanks.invariant.0 left)
      (blank_line (ahead c.blanks.lines left) (ahead c.held_line.new.self left) c.in-Some.fits c.held_line.new.self.line.items (c.in-Some.ensures.line left)
      (λ whole k. c.in_default-request_of_line.ensures whole (subst (λ l. Keeps c.in-Some.fits l whole) (sym c.line.ensures) k))),
  λ turns. omega (arith, c.in-Some.ensures.fewer turns, c.blanks.invariant.1 turns),
)
