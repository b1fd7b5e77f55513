use Rattle.std.proofs.Common.{◌<◌, length, subst, sym, rules}
use Rattle.group.specs.Places.{at_place}
use Rattle.group.specs.Cells.{Held}
use Rattle.group.specs.Keys.{Short}
use Rattle.group.specs.Slots.{SlotsState}
use Rattle.group.proofs.ShortLemmas.{remove-longer}
use Rattle.group.proofs.SlotLemmas.{short-held}
use Rattle.group.proofs.slots.Slots.remove_row.Goals as goal

pub returns-in_default : goal.returns-in_default
returns-in_default g c =
    let k : Held = c.args.key.now in
    let longer : g.row.N < length k.items = search rules in
    sym (remove-longer g.row.N k c.args.self.now.entries longer
    (subst (λ (s : SlotsState). Short g.row.N s.entries) c.self.view_is
    (short-held g.row.N (at_place c.self.inside.slots) c.self.inside.places.entries c.self.invariant.short)))
