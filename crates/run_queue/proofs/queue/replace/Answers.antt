use Rattle.std.proofs.Common.{◌∙◌, ap, sym, subst}
use Rattle.std.specs.List.Sorted.{IsStrictlySortedBy}
use Rattle.run_queue.specs.Places.{in_order, place_cmp, IsFound, IsMissing}
use Rattle.run_queue.specs.Changes.{put}
use Rattle.run_queue.proofs.KeptLemmas.{put_found, put_missing}
use Rattle.run_queue.proofs.PlaceLemmas.{insert_ordered, remove_ordered}
use Rattle.run_queue.proofs.queue.replace.Goals as goal
use Rattle.run_queue.proofs.queue.replace.Goals.{After-deref}

ordered : (c : After-deref) → IsStrictlySortedBy place_cmp c.remove.new.self.items
ordered c = subst (IsStrictlySortedBy place_cmp) (sym c.remove.ensures.items) (remove_ordered c.args.slots.now.items c.args.at c.requires.ordered)

-- src/queue.rt
pub place_of-requires : goal.place_of-requires
place_of-requires c = subst (IsStrictlySortedBy place_cmp) (sym c.deref.ensures.value) (ordered c)

pub returns-in-Err-clause-ordered : goal.returns-in-Err-clause-ordered
returns-in-Err-clause-ordered c =
    let missing = subst (λ l. IsMissing l c.args.slot.now c.in-Err.to) c.deref.ensures.value c.in-Err.ensures.missing in
    subst (IsStrictlySortedBy place_cmp) (sym c.insert.ensures)
    (insert_ordered c.remove.new.self.items c.args.slot.now c.in-Err.to (ordered (goal.at.returns-in-Err-clause-ordered c).After-deref) missing)

pub returns-in-Err-clause-order : goal.returns-in-Err-clause-order
returns-in-Err-clause-order c =
    let missing = subst (λ l. IsMissing l c.args.slot.now c.in-Err.to) c.deref.ensures.value c.in-Err.ensures.missing in
    ap in_order c.insert.ensures ∙ put_missing c.remove.new.self.items c.args.slot.now c.in-Err.to missing
    ∙ ap (λ l. put (in_order l) c.args.slot.now) c.remove.ensures.items

pub returns-in_default-clause-ordered : goal.returns-in_default-clause-ordered
returns-in_default-clause-ordered c = ordered (goal.at.returns-in_default-clause-ordered c).After-deref

pub returns-in_default-clause-order : goal.returns-in_default-clause-order
returns-in_default-clause-order c =
    put_found c.remove.new.self.items c.args.slot.now c.in_default.field-0
    (subst (λ l. IsFound l c.args.slot.now c.in_default.field-0) c.deref.ensures.value c.in_default.ensures.found)
    ∙ ap (λ l. put (in_order l) c.args.slot.now) c.remove.ensures.items
