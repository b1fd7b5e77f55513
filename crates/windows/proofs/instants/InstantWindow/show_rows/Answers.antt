use Rattle.std.proofs.Common.{◌∙◌, ap, arith, length, refl, subst, sym, ℕ}
use Rattle.op_queue.specs.declared.item.Item.TheVariants.{Rows}
use Rattle.op_queue.proofs.GainLemmas.{gained-item}
use Rattle.windows.specs.Instants.{InstantState, IsAfter, IsInOrder}
use Rattle.windows.proofs.LeavingLemmas.{ok_of}
use Rattle.windows.proofs.OrderLemmas.{order_enter}
use Rattle.windows.proofs.instants.InstantWindow.show_rows.Goals as goal

pub invariant_of-self-2 : goal.invariant_of-self-2
invariant_of-self-2 c =
    let after : IsAfter c.args.at c.self.inside.held.held = subst (IsAfter c.args.at) (sym (ap (λ (s : InstantState). s.held) c.self.view_is)) c.requires.after in
    record {
      order =
          subst (λ (w : ℕ). IsInOrder w c.enter.new.self.held) (sym c.enter.ensures.width)
          (order_enter c.args.at c.self.inside.held.width c.args.batch c.self.inside.held.held c.enter.new.self.held (c.requires.wide ∙ sym (ap (λ (s : InstantState). s.width) c.self.view_is)) c.in_ok-enter.ensures.held c.self.invariant.order after c.enter.ensures.table);
      few = omega (arith, c.len-self-inside.ensures);
    }

pub returns-clause-gained : goal.returns-clause-gained
returns-clause-gained c =
    gained-item (Rows c.args.at c.args.batch) c.args.queue.now c.push.new.self (ok_of c.push.result c.in_default.not-Err c.push.ensures.entries) (ok_of c.push.result c.in_default.not-Err c.push.ensures.begins)
