use Rattle.std.proofs.Common.{arith}
use Rattle.column.proofs.ColumnLemmas.{length-column, same_length, number_there, some_there, none_there}
use Rattle.column.proofs.column.Column.get.Goals as goal

pub get-requires : goal.get-requires
get-requires c = omega (arith, c.requires, length-column _ _ _ c.self.invariant c.self.view_is)

pub index-requires : goal.index-requires
index-requires c = omega (arith, c.requires, c.self.inside.numbers.ok.0, same_length _ _ c.self.invariant, length-column _ _ _ c.self.invariant c.self.view_is)

pub answer-requires : goal.answer-requires
answer-requires c = number_there _ _ _ _ c.index.result.now c.self.invariant c.self.view_is c.requires c.index.ensures

pub returns-then-get : goal.returns-then-get
returns-then-get c = some_there _ _ _ _ _ c.index.result.now _ c.self.invariant c.self.view_is c.requires c.get.ensures c.if-get.true c.index.ensures c.answer.ensures

pub returns-else-get : goal.returns-else-get
returns-else-get c = none_there _ _ _ _ _ _ c.self.invariant c.self.view_is c.requires c.get.ensures c.if-get.false c.null.ensures
