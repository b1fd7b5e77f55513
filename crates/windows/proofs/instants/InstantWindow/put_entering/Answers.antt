use Rattle.std.proofs.Common.{◌++◌, ◌-◌, ◌≡◌, List, [], arith, drop, length, map, max, subst, sym, take, ℕ}
use Rattle.values.specs.Row.{Row}
use Rattle.op_queue.specs.Entries.{RowAt}
use Rattle.op_queue.specs.Forward.{IsForward}
use Rattle.op_queue.specs.Queues.{HasGained}
use Rattle.op_queue.proofs.GainLemmas.{gained-none, gained-same}
use Rattle.std.specs.Prelude.{OnOk}
use Rattle.windows.specs.Instants.{InstantState, entering, near_at, past_count}
use Rattle.windows.proofs.InstantsLemmas.{enter_is, none_enters}
use Rattle.windows.proofs.instants.InstantWindow.put_entering.Goals as goal

pub put_held-requires-clause-forward : goal.put_held-requires-clause-forward
put_held-requires-clause-forward c =
    let s : InstantState = record { reach = c.self.inside.reach; width = c.self.inside.held.width; held = c.self.inside.held.held; shown = c.self.inside.shown } in
    let older : c.args.older ≡ past_count s c.args.at = subst (λ (x : InstantState). c.args.older ≡ past_count x c.args.at) (sym c.self.view_is) c.requires.older in
    let middle : c.max-middle.result ≡ max c.args.older s.shown = omega (arith, c.max-middle.ensures) in
    let count : c.len-len.result - c.max-middle.result ≡ length s.held - c.max-middle.result = omega (arith, c.len-len.ensures) in
    let shown : take (c.len-len.result - c.max-middle.result) (drop c.max-middle.result (map (λ h. h.1) s.held)) ≡ (near_at s c.args.at).enter =
    enter_is s c.args.at c.args.older c.max-middle.result (c.len-len.result - c.max-middle.result) c.self.invariant.order.ordered c.self.invariant.few older middle count in
    let P : List Row → Type 0 = λ rows. IsForward (c.args.queue.now.entries ++ map (RowAt c.args.at) (map entering rows)) in
    subst P (sym shown) (subst (λ (x : InstantState). P (near_at x c.args.at).enter) (sym c.self.view_is) c.requires.forward)

pub returns-then-middle-len-clause-gained : goal.returns-then-middle-len-clause-gained
returns-then-middle-len-clause-gained c =
    let s : InstantState = record { reach = c.self.inside.reach; width = c.self.inside.held.width; held = c.self.inside.held.held; shown = c.self.inside.shown } in
    let older : c.args.older ≡ past_count s c.args.at = subst (λ (x : InstantState). c.args.older ≡ past_count x c.args.at) (sym c.self.view_is) c.requires.older in
    let middle : c.max-middle.result ≡ max c.args.older s.shown = omega (arith, c.max-middle.ensures) in
    let count : c.len-len.result - c.max-middle.result ≡ length s.held - c.max-middle.result = omega (arith, c.len-len.ensures) in
    let shown : take (c.len-len.result - c.max-middle.result) (drop c.max-middle.result (map (λ h. h.1) s.held)) ≡ (near_at s c.args.at).enter =
    enter_is s c.args.at c.args.older c.max-middle.result (c.len-len.result - c.max-middle.result) c.self.invariant.order.ordered c.self.invariant.few older middle count in
    let P : List Row → Type 0 = λ rows. OnOk c.put_held.result (HasGained (map (RowAt c.args.at) (map entering rows)) c.args.queue.now c.put_held.new.queue) in
    subst (λ (x : InstantState). P (near_at x c.args.at).enter) c.self.view_is (subst P shown c.put_held.ensures.gained)

pub returns-clause-gained : goal.returns-clause-gained
returns-clause-gained c =
    let s : InstantState = record { reach = c.self.inside.reach; width = c.self.inside.held.width; held = c.self.inside.held.held; shown = c.self.inside.shown } in
    let older : c.args.older ≡ past_count s c.args.at = subst (λ (x : InstantState). c.args.older ≡ past_count x c.args.at) (sym c.self.view_is) c.requires.older in
    let middle : c.max-middle.result ≡ max c.args.older s.shown = omega (arith, c.max-middle.ensures) in
    let none : [] ≡ (near_at s c.args.at).enter = none_enters s c.args.at c.args.older c.max-middle.result c.self.invariant.order.ordered c.self.invariant.few older middle (omega (arith, c.len-len.ensures, c.if-middle-len.false)) in
    let P : List Row → Type 0 = λ rows. HasGained (map (RowAt c.args.at) (map entering rows)) c.args.queue.now c.args.queue.now in
    subst (λ (x : InstantState). P (near_at x c.args.at).enter) c.self.view_is (subst P none (gained-none c.args.queue.now))
