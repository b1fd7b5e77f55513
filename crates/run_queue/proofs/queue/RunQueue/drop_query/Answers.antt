use Rattle.std.proofs.Common.{rules, ◌≡◌, ◌==◌, ◌∙◌, ap, arith, length, not, sym, subst}
use Rattle.std.proofs.lemmas.Fn.{filter_same}
use Rattle.std.proofs.lemmas.List.{with_items_is}
use Rattle.run_queue.specs.Places.{in_order, IsKept, IsPlayed}
use Rattle.run_queue.specs.Changes.{without_query}
use Rattle.run_queue.specs.declared.slots.Slot.{Slot}
use Rattle.run_queue.proofs.KeptLemmas.{query_goes, query_kept}
use Rattle.run_queue.proofs.queue.RunQueue.drop_query.Goals as goal
use Rattle.run_queue.proofs.queue.RunQueue.drop_query.Goals.{After-retain}

left : (c : After-retain) → c.retain.new.self.items ≡ without_query c.args.query c.self.inside.slots.items
left c = filter_same _ (λ (s : Slot). not (s.query == c.args.query)) _ (λ x b f h. search rules) _ _ c.retain.ensures.filtered

-- src/queue.rt
pub returns : goal.returns
returns c =
    let slots = c.self.inside.slots.items in
    ap in_order (left (goal.at.returns c).After-retain) ∙ query_goes slots c.self.inside.winners.items c.args.query c.self.invariant ∙ ap (without_query c.args.query) c.self.view_is

pub invariant_of-self : goal.invariant_of-self
invariant_of-self c =
    let winners = c.self.inside.winners in
    let long : length c.play_all.new.winners ≡ winners.len = omega arith in
    subst (IsKept c.retain.new.self.items) (sym (with_items_is winners c.play_all.new.winners long))
    (query_kept c.self.inside.slots.items winners.items c.args.query c.self.invariant c.retain.new.self.items c.play_all.new.winners (left (goal.at.invariant_of-self c).After-retain) (omega arith)
    (subst (λ l. IsPlayed l c.play_all.new.winners) c.deref.ensures.value c.play_all.ensures))
