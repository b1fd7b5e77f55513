use Rattle.std.proofs.Common.{◌≡◌, map, replicate}
use Rattle.hub.specs.LedgerViews.{account_in, fresh}
use Rattle.hub.proofs.ledger.Ledger.new.Given as goal

abbrev pub invariant-loop : goal.invariant-loop
invariant-loop l = map account_in l.accounts.items ≡ replicate l.counter fresh
