use Rattle.std.proofs.Common.{◌≡◌, ◌≤◌, ℕ, arith, refl, subst}
use Rattle.op_queue.specs.Items.{item_instant}
use Rattle.windows.specs.Widths.{IsItemWide}
use Rattle.tests_in_place.proofs.TurnLemmas.{IsOf, begins_of, may_take, next_of}
use Rattle.tests_in_place.proofs.windowed.agree.Goals as goal

pub loop-came-init : goal.loop-came-init
loop-came-init c = record {
  placed = begins_of 2 _ c.in_ok-placed.placed c.in_ok-placed.ensures;
  stepped = begins_of 2 _ c.in_ok-stepped.stepped c.in_ok-stepped.ensures;
}

pub loop-came-preserved : goal.loop-came-preserved
loop-came-preserved c =
    let i = c.in_ok-item.item in
    let l = c.loop-came in
    let at : item_instant i ≡ c.max-last.result = omega (arith, c.in_ok-item.ensures, c.max.ensures, c.max-last.ensures) in
    let le : l.last ≤ item_instant i = omega (arith, c.in_ok-item.ensures, c.max.ensures) in
    let wide : IsItemWide 2 i = c.if-not-has_two_columns.ensures refl in
    record {
      placed = subst (λ (t : ℕ). IsOf 2 t c.agrees.new.placed) at (next_of 2 l.placed c.agrees.new.placed i c.in_ok-agrees.ensures.next (may_take 2 l.last l.placed i l.invariant.placed le wide) l.invariant.placed.wide);
      stepped = subst (λ (t : ℕ). IsOf 2 t c.agrees.new.stepped) at (next_of 2 l.stepped c.agrees.new.stepped i c.in_ok-agrees.ensures.next_other (may_take 2 l.last l.stepped i l.invariant.stepped le wide) l.invariant.stepped.wide);
    }
