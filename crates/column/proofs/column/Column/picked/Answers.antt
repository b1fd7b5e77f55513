use Rattle.std.proofs.Common.{◌∙◌, ap, arith, pos}
use Rattle.column.specs.Bits.{at_places}
use Rattle.column.proofs.ColumnLemmas.{picked_cells, length-column, same_length}
use Rattle.column.proofs.column.Column.picked.Goals as goal

pub numbers_at-requires : goal.numbers_at-requires
numbers_at-requires c = λ k d h. omega (arith, c.requires.within k d h, length-column _ _ _ c.self.invariant c.self.view_is, same_length _ _ c.self.invariant)

pub picked-requires-clause-within : goal.picked-requires-clause-within
picked-requires-clause-within c = λ k d h. omega (arith, c.requires.within k d h, length-column _ _ _ c.self.invariant c.self.view_is)

pub invariant_of-result : goal.invariant_of-result
invariant_of-result c = (picked_cells _ _ _ _ _ _ c.self.invariant c.self.view_is c.requires.within (c.in_ok-numbers.ensures ∙ ap (at_places (pos 0) c.args.places.now) c.deref.ensures.value) c.in_ok-valid.ensures).column

pub returns : goal.returns
returns c = (picked_cells _ _ _ _ _ _ c.self.invariant c.self.view_is c.requires.within (c.in_ok-numbers.ensures ∙ ap (at_places (pos 0) c.args.places.now) c.deref.ensures.value) c.in_ok-valid.ensures).seen
