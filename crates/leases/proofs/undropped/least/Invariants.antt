use Rattle.std.proofs.Common.{◌≡◌, drop, fold}
use Rattle.leases.specs.Undropped.{least, tightened}
use Rattle.leases.proofs.undropped.least.Given as goal

-- with those that are left it becomes the least of all
abbrev pub invariant-loop-limit : goal.invariant-loop-limit
invariant-loop-limit l = fold (tightened l.stream) l.most (drop l.limit-index l.limits) ≡ least l.stream l.limits
