use Rattle.std.proofs.Common.{◌∙◌, ap, arith, length, length-append, map, subst, sym, ℕ}
use Rattle.windows.specs.Instants.{InstantState, IsAfter, IsInOrder, held_at}
use Rattle.windows.proofs.OrderLemmas.{order_enter}
use Rattle.windows.proofs.instants.InstantWindow.enter.Goals as goal

pub invariant_of-self-then-shows_at_once : goal.invariant_of-self-then-shows_at_once
invariant_of-self-then-shows_at_once c =
    let after : IsAfter c.args.at c.self.inside.held.held = subst (IsAfter c.args.at) (sym (ap (λ (s : InstantState). s.held) c.self.view_is)) c.requires.after in
    record {
      order =
          subst (λ (w : ℕ). IsInOrder w c.enter.new.self.held) (sym c.enter.ensures.width)
          (order_enter c.args.at c.self.inside.held.width c.args.batch.now c.self.inside.held.held c.enter.new.self.held (c.requires.wide ∙ sym (ap (λ (s : InstantState). s.width) c.self.view_is)) c.in_ok-enter.ensures.held c.self.invariant.order after c.enter.ensures.table);
      few = omega (arith, c.len-self-inside.ensures);
    }

pub invariant_of-self-else-shows_at_once : goal.invariant_of-self-else-shows_at_once
invariant_of-self-else-shows_at_once c =
    let after : IsAfter c.args.at c.self.inside.held.held = subst (IsAfter c.args.at) (sym (ap (λ (s : InstantState). s.held) c.self.view_is)) c.requires.after in
    record {
      order =
          subst (λ (w : ℕ). IsInOrder w c.enter.new.self.held) (sym c.enter.ensures.width)
          (order_enter c.args.at c.self.inside.held.width c.args.batch.now c.self.inside.held.held c.enter.new.self.held (c.requires.wide ∙ sym (ap (λ (s : InstantState). s.width) c.self.view_is)) c.in_ok-enter.ensures.held c.self.invariant.order after c.enter.ensures.table);
      few = omega (arith, c.self.invariant.few, ap length c.in_ok-enter.ensures.held, length-append c.self.inside.held.held (map (held_at c.args.at) c.args.batch.now));
    }
