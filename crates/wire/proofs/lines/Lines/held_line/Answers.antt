use Rattle.std.proofs.Common.{◌≤◌, [], length, take, slice_range, arith}
use Rattle.wire.specs.Held.{pending, ahead}
use Rattle.wire.proofs.Cuts.{reads_none, reads_feed}
use Rattle.wire.proofs.Windows.{piece_to_feed}
use Rattle.wire.proofs.lines.Lines.held_line.Goals as goal

pub returns-clause-line : goal.returns-clause-line
returns-clause-line c = λ left.
    let s = c.args.self.now in
    let v = c.deref.result.now in
    let at = c.in_ok-at.at in
    let within : s.end ≤ length v = omega (arith, s.within) in
    let cut = piece_to_feed s.chunk.items v s.start s.end at c.deref.ensures.value s.ordered within c.in_ok-at.ensures in
    reads_feed (ahead s left) left [] (pending s) _ (take at (slice_range v s.start s.end)) _ _ (reads_none (ahead s left)) cut.1 cut.0 (c.keep-fits.ensures.kept [] (c.clear.ensures.items, omega arith))
