use Rattle.std.proofs.Common.{arith, subst, sym, ℕ}
use Rattle.windows.specs.Instants.{IsInOrder}
use Rattle.windows.proofs.OrderLemmas.{order_leave}
use Rattle.windows.proofs.instants.InstantWindow.leave.Goals as goal

pub invariant_of-self : goal.invariant_of-self
invariant_of-self c = record {
  order =
      subst (λ (w : ℕ). IsInOrder w c.leave.new.self.held) (sym c.leave.ensures.width)
      (order_leave c.self.inside.held.width c.args.older c.self.inside.held.held c.leave.new.self.held c.leave.ensures.held c.self.invariant.order);
  few = omega (arith, c.len-self-inside.ensures);
}
