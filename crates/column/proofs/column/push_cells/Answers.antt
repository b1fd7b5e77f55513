use Rattle.std.proofs.Common.{◌≡◌, ◌∙◌, ◌+◌, ◌*◌, ◌<◌, ◌==◌, arith, ap, sym, subst, ℤ, Option, get_or, length, refl}
use Rattle.column.proofs.StrideLemmas.{IsPushing-more, no_bit}
use Rattle.column.proofs.column.push_cells.Goals.{then-is_some, else-is_some}
use Rattle.column.proofs.column.push_cells.Goals as goal

pub loop-i-preserved : goal.loop-i-preserved
loop-i-preserved c =
    let values = c.args.values.now in
    let at = c.args.start + c.loop-i.i * c.args.stride in
    let h : at < length values = c.requires.within c.loop-i.i (omega arith) in
    let P : Option ℤ → Type 0 = λ x. x ≡ get_or values at x in
    let is : c.number-number.result ≡ get_or values at c.number-number.result = subst P (sym c.number-number.ensures.value) c.index-values-start.is in
    let cells = c.loop-i.invariant.cells in
    record {
      len = omega (arith, c.push_reserved.ensures.len, c.loop-i.invariant.len);
      room = c.push_reserved.ensures.capacity ∙ c.loop-i.invariant.room;
      cells = elim c.if-is_some.branch [
        | then-is_some w ↦
            rw w.word-is
            (IsPushing-more c.args.numbers.now.items values c.args.start c.args.stride c.loop-i.i c.loop-i.word c.loop-i.numbers.items c.number-number.result c.unwrap_or.result w.with_bit-word.result c.push_reserved.new.self.items
            cells h is c.number-number.ensures.range c.unwrap_or.ensures c.push_reserved.ensures.items w.with_bit-word.ensures.same (ap (λ n. n == 1) w.with_bit-word.ensures.set ∙ sym (sym c.is_some.ensures ∙ w.if-is_some.true)))
        | else-is_some w ↦
            rw w.word-is
            (IsPushing-more c.args.numbers.now.items values c.args.start c.args.stride c.loop-i.i c.loop-i.word c.loop-i.numbers.items c.number-number.result c.unwrap_or.result c.loop-i.word c.push_reserved.new.self.items
            cells h is c.number-number.ensures.range c.unwrap_or.ensures c.push_reserved.ensures.items (λ k d. refl) (no_bit c.loop-i.word c.loop-i.i c.number-number.result (cells.clear c.loop-i.i (omega arith)) (sym c.is_some.ensures ∙ w.if-is_some.false)))
      ];
    }
