use Rattle.std.proofs.Common.{◌≡◌, ◌+◌, ◌-◌, arith, sym, ◌∙◌, ap, w64}
use Rattle.reference.specs.Views.{pairs_of}
use Rattle.std.proofs.lemmas.Int.{to_z_pos}
use Rattle.reference.proofs.InputLemmas.{drop-next, moved, signed-first, signed-rest}
use Rattle.reference.proofs.standing.calls.move_front.Goals as goal

pub loop-preserved : goal.loop-preserved
loop-preserved c =
    let old = c.loop.waiting.items in
    let new = c.pop_front.new.self.items in
    let early = signed-first old new (c.in-Some.at, c.in-Some.row) c.in-Some.ensures.items c.loop.invariant.instants in
    let pushed = rw (to_z_pos w64 c.in-Some.at early) at c.push_reserved.ensures.items in
    let count : c.args.count - c.loop.counter ≡ c.args.count - (c.loop.counter + 1) + 1 = omega arith in
    record {
      rows =
          moved c.loop.rows.items c.push_reserved.new.self.items old new (c.in-Some.at, c.in-Some.row) (c.args.count - c.loop.counter) (c.args.count - (c.loop.counter + 1)) count
          c.in-Some.ensures.items pushed
          ∙ c.loop.invariant.rows;
      waiting = drop-next c.loop.counter (pairs_of c.args.waiting.now.items) _ (pairs_of new) (sym (ap pairs_of c.in-Some.ensures.items) ∙ c.loop.invariant.waiting);
      len = omega (arith, c.in-Some.ensures.cases);
      room = omega (arith, c.push_reserved.ensures.len, c.push_reserved.ensures.capacity, c.loop-test.true);
      instants = signed-rest old new (c.in-Some.at, c.in-Some.row) c.in-Some.ensures.items c.loop.invariant.instants;
    }
