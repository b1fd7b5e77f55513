use Rattle.std.proofs.Common.{◌≡◌, drop}
use Rattle.row_bags.proofs.dated_rows.DatedRows.drop_first.Given as goal

-- as many are gone from the front as turns of the loop ran
abbrev pub invariant-loop : goal.invariant-loop
invariant-loop l = record { rest : l.self ≡ drop l.counter l.initial.self }
