use Rattle.std.proofs.Common.{◌≡◌, ◌∙◌, None, Some, MatchOption, ap, subst, sym}
use Rattle.std.specs.List.{slice_get}
use Rattle.std.specs.List.Sorted.{IsStrictlySortedBy}
use Rattle.run_queue.specs.Places.{winner_at}
use Rattle.run_queue.specs.Slots.{first_of, slot_cmp}
use Rattle.run_queue.specs.Changes.{AreIdle, IsSteepest}
use Rattle.run_queue.proofs.FirstLemmas.{first_is_steepest}
use Rattle.run_queue.proofs.KeptLemmas.{leads, no_winner}
use Rattle.run_queue.proofs.OrderLemmas.{ordered}
use Rattle.run_queue.proofs.TournamentLemmas.{gone, there}
use Rattle.run_queue.proofs.queue.RunQueue.first.Goals as goal

pub returns-in-None-clause-value : goal.returns-in-None-clause-value
returns-in-None-clause-value c =
    let slots = c.self.inside.slots.items in
    let winners = c.self.inside.winners.items in
    let e = gone c.deref.result.now c.winner_at.result c.in-None.ensures.lookup.0 in
    let none : slice_get slots (winner_at winners 1) ≡ None = cc in
    ap first_of (sym (no_winner slots winners c.self.invariant none) ∙ c.self.view_is)

pub returns-in-None-clause-steepest : goal.returns-in-None-clause-steepest
returns-in-None-clause-steepest c =
    let sorted = subst (IsStrictlySortedBy slot_cmp) c.self.view_is (ordered c.self.inside.slots.items) in
    subst (λ r. MatchOption r (AreIdle c.args.self.now) (IsSteepest c.args.self.now)) (sym (returns-in-None-clause-value c)) (first_is_steepest c.args.self.now sorted)

pub returns-in-Some-clause-value : goal.returns-in-Some-clause-value
returns-in-Some-clause-value c =
    let slots = c.self.inside.slots.items in
    let winners = c.self.inside.winners.items in
    let read = c.in-Some.ensures.lookup in
    let e = there c.deref.result.now c.winner_at.result c.in-Some.slot.now read.0 read.1 in
    let some : slice_get slots (winner_at winners 1) ≡ Some c.in-Some.slot.now = cc in
    c.unless_idle.ensures ∙ sym (leads slots winners c.in-Some.slot.now c.self.invariant some) ∙ ap first_of c.self.view_is

pub returns-in-Some-clause-steepest : goal.returns-in-Some-clause-steepest
returns-in-Some-clause-steepest c =
    let sorted = subst (IsStrictlySortedBy slot_cmp) c.self.view_is (ordered c.self.inside.slots.items) in
    subst (λ r. MatchOption r (AreIdle c.args.self.now) (IsSteepest c.args.self.now)) (sym (returns-in-Some-clause-value c)) (first_is_steepest c.args.self.now sorted)
