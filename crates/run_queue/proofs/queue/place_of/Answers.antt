use Rattle.std.proofs.Common.{rules, IfErr, IfOk}
use Rattle.std.proofs.lemmas.Fn.{always_returns_same}
use Rattle.run_queue.specs.Places.{place_cmp, IsFound, IsMissing}
use Rattle.run_queue.specs.declared.slots.Slot.{Slot}
use Rattle.run_queue.proofs.PlaceLemmas.{searched}
use Rattle.run_queue.proofs.queue.place_of.Goals as goal
use Rattle.run_queue.proofs.queue.place_of.Goals.{After-binary_search_by}

both : (c : After-binary_search_by) → IfOk c.binary_search_by.result (IsFound c.args.slots.now c.args.slot.now) × IfErr c.binary_search_by.result (IsMissing c.args.slots.now c.args.slot.now)
both c = searched c.args.slots.now c.args.slot.now c.binary_search_by.result c.requires c.binary_search_by.ensures.bound
    (c.binary_search_by.ensures.position (λ (t : Slot). place_cmp t c.args.slot.now) (always_returns_same _ _ _ (λ a r f' k. search rules)))

-- src/queue.rt
pub returns-clause-found : goal.returns-clause-found
returns-clause-found c = (both c).0

pub returns-clause-missing : goal.returns-clause-missing
returns-clause-missing c = (both c).1
