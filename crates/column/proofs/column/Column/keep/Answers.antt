use Rattle.std.proofs.Common.{arith}
use Rattle.column.proofs.ColumnLemmas.{length-column, same_length}
use Rattle.column.proofs.KeptLemmas.{kept_cells}
use Rattle.column.proofs.column.Column.keep.Goals as goal

pub keep_numbers-requires : goal.keep_numbers-requires
keep_numbers-requires c = omega (arith, c.requires, length-column _ _ _ c.self.invariant c.self.view_is, same_length _ _ c.self.invariant)

pub keep-requires : goal.keep-requires
keep-requires c = omega (arith, c.requires, length-column _ _ _ c.self.invariant c.self.view_is)

pub invariant_of-self : goal.invariant_of-self
invariant_of-self c =
    (kept_cells c.self.inside.numbers.items c.self.inside.valid _ c.args.mask.now c.keep_numbers.new.numbers.items c.keep.new.self c.self.invariant c.self.view_is c.requires c.keep_numbers.ensures c.keep.ensures).column

pub returns : goal.returns
returns c =
    (kept_cells c.self.inside.numbers.items c.self.inside.valid _ c.args.mask.now c.keep_numbers.new.numbers.items c.keep.new.self c.self.invariant c.self.view_is c.requires c.keep_numbers.ensures c.keep.ensures).seen
