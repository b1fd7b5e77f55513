use Rattle.std.proofs.Common.{◌≡◌, ◌∙◌, Some, ap, sym, rules}
use Rattle.group.specs.Places.{at_place}
use Rattle.group.specs.Cells.{Held, held_cmp}
use Rattle.group.specs.Same.{held_ties}
use Rattle.group.specs.Slots.{key_at}
use Rattle.group.proofs.KeyLemmas.{held_order, same_key}
use Rattle.group.proofs.slots.has_key_at.Goals as goal

pub returns-in-Some : goal.returns-in-Some
returns-in-Some g c = λ t.
    let k : Held = c.args.key.now in
    let is : at_place c.args.slots.now c.args.place ≡ Some c.in-Some.slot.now = search rules in
    let same : c.in-Some.slot.now.0 ≡ k = same_key held_cmp held_order c.in-Some.slot.now.0 k (sym (held_ties c.in-Some.slot.now.0 k) ∙ sym c.has_key.ensures ∙ t) in
    ap key_at is ∙ ap Some same
