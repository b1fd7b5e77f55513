use Rattle.std.proofs.Common.{◌∙◌, ◌<◌, ◌≤◌, ℕ, arith, get_or, subst, ⊎_elim}
use Rattle.std.proofs.lemmas.Bool.{cases_lt}
use Rattle.std.proofs.lemmas.Grind.{get_or_default_zero}
use Rattle.op_queue.specs.Logs.{Closed}
use Rattle.op_queue.specs.Closings.{HasNoRows}
use Rattle.op_queue.specs.Tables.{lists}
use Rattle.op_queue.proofs.ClearLemmas.{none_shown}
use Rattle.op_queue.proofs.PlaceLemmas.{IsRising-instants}
use Rattle.op_queue.proofs.log.Log.next_row.Goals as goal

pub tested_start-start-requires-clause-rising : goal.tested_start-start-requires-clause-rising
tested_start-start-requires-clause-rising c =
    let log = c.self.inside in
    rw c.deref.ensures.value (IsRising-instants log.instants.items log.numbers.items (lists log.columns.items) log.len 0 c.self.invariant.ordered)

pub near_bound-first-requires-clause-rising : goal.near_bound-first-requires-clause-rising
near_bound-first-requires-clause-rising c =
    let log = c.self.inside in
    rw c.deref-2.ensures.value (IsRising-instants log.instants.items log.numbers.items (lists log.columns.items) log.len c.tested_start-start.result c.self.invariant.ordered)

pub returns-then-first-self : goal.returns-then-first-self
returns-then-first-self c =
    let log = c.self.inside in
    let start = c.tested_start-start.result in
    let first = c.near_bound-first.result in
    let tested = rw c.deref.ensures.value at c.tested_start-start.ensures.below in
    let near = rw c.deref-2.ensures.value at c.near_bound-first.ensures.below in
    let above = rw c.deref-2.ensures.value at c.near_bound-first.ensures.above in
    let rising = IsRising-instants log.instants.items log.numbers.items (lists log.columns.items) log.len 0 c.self.invariant.ordered in
    let before : (i : ℕ) → i < first → get_or log.instants.items i 0 < c.args.at =
    λ i h. ⊎_elim (λ (l : i < start). tested i l) (λ (l : start ≤ i). near i l h) (cases_lt i start) in
    let P : Closed → Type 0 = λ l. HasNoRows c.args.at c.index.result.now l in
    subst P c.self.view_is
    (record {
      none = none_shown log.instants.items log.numbers.items (lists log.columns.items) log.len first c.args.at c.index.result.now before
          (λ i a b.
          let here = c.index.ensures ∙ get_or_default_zero log.instants.items first c.index.result.now (omega (arith, a, b, c.self.invariant.table.has_instants)) in
          let later = rising first i (omega arith) a b in
          omega (arith, here, later));
    })

pub returns : goal.returns
returns c =
    let log = c.self.inside in
    let start = c.tested_start-start.result in
    let first = c.near_bound-first.result in
    let tested = rw c.deref.ensures.value at c.tested_start-start.ensures.below in
    let near = rw c.deref-2.ensures.value at c.near_bound-first.ensures.below in
    let before : (i : ℕ) → i < first → get_or log.instants.items i 0 < c.args.at =
    λ i h. ⊎_elim (λ (l : i < start). tested i l) (λ (l : start ≤ i). near i l h) (cases_lt i start) in
    let P : Closed → Type 0 = λ l. HasNoRows c.args.at log.until l in
    subst P c.self.view_is
    (record { none = none_shown log.instants.items log.numbers.items (lists log.columns.items) log.len first c.args.at log.until before (λ i a b. absurd (omega (arith, a, b, c.if-first-self.false))) })
