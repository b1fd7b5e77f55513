use Rattle.std.proofs.Common.{◌++◌, ◌≡◌, List, arith, length, map, min, subst, sym, take, ℕ}
use Rattle.values.specs.Row.{Row}
use Rattle.op_queue.specs.Entries.{RowAt}
use Rattle.op_queue.specs.Forward.{IsForward}
use Rattle.op_queue.specs.Queues.{HasGained}
use Rattle.std.specs.Prelude.{OnOk}
use Rattle.windows.specs.Instants.{InstantState, leaving, near_at, past_count}
use Rattle.windows.proofs.InstantsLemmas.{leave_is, past_few}
use Rattle.windows.proofs.instants.InstantWindow.put_leaving.Goals as goal

pub put_held-requires-clause-within : goal.put_held-requires-clause-within
put_held-requires-clause-within c = omega (arith, c.min.ensures, c.self.invariant.few, c.len-len.ensures)

pub put_held-requires-clause-forward : goal.put_held-requires-clause-forward
put_held-requires-clause-forward c =
    let s : InstantState = record { reach = c.self.inside.reach; width = c.self.inside.held.width; held = c.self.inside.held.held; shown = c.self.inside.shown } in
    let older : c.args.older ≡ past_count s c.args.at = subst (λ (x : InstantState). c.args.older ≡ past_count x c.args.at) (sym c.self.view_is) c.requires.older in
    let least : c.min.result ≡ min c.args.older s.shown = omega (arith, c.min.ensures) in
    let left : take c.min.result (map (λ h. h.1) s.held) ≡ (near_at s c.args.at).leave = leave_is s c.args.at c.args.older c.min.result c.self.invariant.order.ordered c.self.invariant.few older least in
    let P : List Row → Type 0 = λ rows. IsForward (c.args.queue.now.entries ++ map (RowAt c.args.at) (map leaving rows)) in
    subst P (sym left) (subst (λ (x : InstantState). P (near_at x c.args.at).leave) (sym c.self.view_is) c.requires.forward)

pub returns-clause-gained : goal.returns-clause-gained
returns-clause-gained c =
    let s : InstantState = record { reach = c.self.inside.reach; width = c.self.inside.held.width; held = c.self.inside.held.held; shown = c.self.inside.shown } in
    let older : c.args.older ≡ past_count s c.args.at = subst (λ (x : InstantState). c.args.older ≡ past_count x c.args.at) (sym c.self.view_is) c.requires.older in
    let least : c.min.result ≡ min c.args.older s.shown = omega (arith, c.min.ensures) in
    let left : take c.min.result (map (λ h. h.1) s.held) ≡ (near_at s c.args.at).leave = leave_is s c.args.at c.args.older c.min.result c.self.invariant.order.ordered c.self.invariant.few older least in
    let P : List Row → Type 0 = λ rows. OnOk c.put_held.result (HasGained (map (RowAt c.args.at) (map leaving rows)) c.args.queue.now c.put_held.new.queue) in
    subst (λ (x : InstantState). P (near_at x c.args.at).leave) c.self.view_is (subst P left c.put_held.ensures.gained)
