use Rattle.windows.proofs.StillLemmas.{none_at_zero, none_before}
use Rattle.windows.proofs.held.HeldRows.first_instant.Goals as goal

pub returns-then-count_older-eq0 : goal.returns-then-count_older-eq0
returns-then-count_older-eq0 c k le =
    none_before c.args.self.now.held k c.match-front.first (rw c.if-count_older-eq0.true at c.count_older.ensures.older) le

pub returns : goal.returns
returns c k le = none_at_zero c.args.self.now.held k le
