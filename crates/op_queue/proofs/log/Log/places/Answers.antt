use Rattle.std.proofs.Common.{◌≡◌, ◌<◌, ◌≤◌, ℕ, ap, arith, get_or, length, slice_range, subst, ⊎_elim}
use Rattle.std.proofs.lemmas.Bool.{cases_lt}
use Rattle.op_queue.specs.Logs.{Closed, shown}
use Rattle.op_queue.specs.Tables.{lists}
use Rattle.op_queue.proofs.PlaceLemmas.{IsRising-instants, IsRising-numbers, shown-places}
use Rattle.op_queue.proofs.TableLemmas.{length-elements_in}
use Rattle.op_queue.proofs.log.Log.places.Goals as goal

pub tested_start-start-requires-clause-rising : goal.tested_start-start-requires-clause-rising
tested_start-start-requires-clause-rising c =
    let log = c.self.inside in
    rw c.deref.ensures.value (IsRising-instants log.instants.items log.numbers.items (lists log.columns.items) log.len 0 c.self.invariant.ordered)

pub near_bound-first-requires-clause-rising : goal.near_bound-first-requires-clause-rising
near_bound-first-requires-clause-rising c =
    let log = c.self.inside in
    rw c.deref-2.ensures.value (IsRising-instants log.instants.items log.numbers.items (lists log.columns.items) log.len c.tested_start-start.result c.self.invariant.ordered)

pub near_bound-end-requires-clause-rising : goal.near_bound-end-requires-clause-rising
near_bound-end-requires-clause-rising c =
    let log = c.self.inside in
    rw c.deref-3.ensures.value (IsRising-instants log.instants.items log.numbers.items (lists log.columns.items) log.len c.near_bound-first.result c.self.invariant.ordered)

pub near_bound-from-requires-clause-rising : goal.near_bound-from-requires-clause-rising
near_bound-from-requires-clause-rising c =
    let log = c.self.inside in
    rw c.deref-4.ensures.value
    (IsRising-numbers log.instants.items log.numbers.items (lists log.columns.items) log.len c.near_bound-first.result c.near_bound-end.result c.args.at c.near_bound-end.ensures.to c.self.invariant.ordered
    (rw c.deref-2.ensures.value at c.near_bound-first.ensures.above)
    (rw c.deref-3.ensures.value at c.near_bound-end.ensures.below))

pub returns-clause-within : goal.returns-clause-within
returns-clause-within c =
    let log = c.self.inside in
    omega (arith, c.near_bound-end.ensures.to, length-elements_in log.len log.instants.items log.numbers.items (lists log.columns.items), ap (λ (l : Closed). length l.elements) c.self.view_is)

pub returns-clause-shown : goal.returns-clause-shown
returns-clause-shown c =
    let log = c.self.inside in
    let start = c.tested_start-start.result in
    let from = c.near_bound-from.result in
    let end = c.near_bound-end.result in
    let tested = rw c.deref.ensures.value at c.tested_start-start.ensures.below in
    let near = rw c.deref-2.ensures.value at c.near_bound-first.ensures.below in
    let before : (i : ℕ) → 0 ≤ i → i < c.near_bound-first.result → get_or log.instants.items i 0 < c.args.at =
    λ i z h. ⊎_elim (λ (l : i < start). tested i l) (λ (l : start ≤ i). near i l h) (cases_lt i start) in
    let P : Closed → Type 0 = λ l. shown c.args.place c.args.at l.elements ≡ slice_range l.elements from end in
    subst P c.self.view_is
    (shown-places log.instants.items log.numbers.items (lists log.columns.items) log.len c.near_bound-first.result from end c.args.place c.args.at c.near_bound-from.ensures.from c.near_bound-from.ensures.to c.near_bound-end.ensures.to
    before
    (rw c.deref-2.ensures.value at c.near_bound-first.ensures.above)
    (rw c.deref-3.ensures.value at c.near_bound-end.ensures.below)
    (rw c.deref-3.ensures.value at c.near_bound-end.ensures.above)
    (rw c.deref-4.ensures.value at c.near_bound-from.ensures.below)
    (rw c.deref-4.ensures.value at c.near_bound-from.ensures.above))
