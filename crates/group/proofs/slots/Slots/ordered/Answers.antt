use Rattle.std.proofs.Common.{subst}
use Rattle.std.specs.Map.{keys_of}
use Rattle.std.specs.List.Sorted.{IsStrictlySortedBy}
use Rattle.group.specs.Places.{at_place}
use Rattle.group.specs.Cells.{held_cmp}
use Rattle.group.specs.Keys.{Short}
use Rattle.group.specs.Slots.{SlotsState}
use Rattle.group.proofs.SlotLemmas.{short-held, sorted-held}
use Rattle.group.proofs.slots.Slots.ordered.Goals as goal

pub returns-clause-sorted : goal.returns-clause-sorted
returns-clause-sorted g c =
    subst (λ (s : SlotsState). IsStrictlySortedBy held_cmp (keys_of s.entries)) c.self.view_is
    (sorted-held (at_place c.self.inside.slots) c.self.inside.places.entries c.self.invariant.sorted)

pub returns-clause-short : goal.returns-clause-short
returns-clause-short g c =
    subst (λ (s : SlotsState). Short g.row.N s.entries) c.self.view_is
    (short-held g.row.N (at_place c.self.inside.slots) c.self.inside.places.entries c.self.invariant.short)
