use Rattle.std.proofs.Common.{◌≡◌, ◌+◌, ◌-◌, [], arith, sym, ◌∙◌, ap, drop, length, length-drop, w64, List, ℕ, rules}
use Rattle.std.proofs.lemmas.Int.{to_z_pos}
use Rattle.std.proofs.lemmas.List.{drop-drop, drop_all}
use Rattle.values.specs.Row.{Row}
use Rattle.query_runtime.proofs.WaitingLemmas.{moved, none_moved, signed-first, signed-rest}
use Rattle.query_runtime.proofs.waiting.move_front.Goals as goal

pub loop-preserved : goal.loop-preserved
loop-preserved c =
    let old : List (ℕ × Row) = c.loop.answers in
    let new : List (ℕ × Row) = c.pop_front.new.self in
    let row : Row = c.in-Some.row.items in
    let early = signed-first old new c.in-Some.at row c.in-Some.ensures.some c.loop.invariant.instants in
    let pushed = rw (to_z_pos w64 c.in-Some.at early) at c.push_reserved.ensures.items in
    let count : c.args.count - c.loop.counter ≡ c.args.count - (c.loop.counter + 1) + 1 = omega arith in
    record {
      rows =
          moved c.loop.rows.items c.push_reserved.new.self.items old new c.in-Some.at c.in-Some.row (c.args.count - c.loop.counter) (c.args.count - (c.loop.counter + 1)) count
          c.in-Some.ensures.some pushed
          ∙ c.loop.invariant.rows;
      rest = ap (λ (es : List (ℕ × Row)). drop 1 es) (sym c.in-Some.ensures.some ∙ c.loop.invariant.rest) ∙ drop-drop 1 c.loop.counter c.args.answers.now;
      room = omega (arith, c.push_reserved.ensures.len, c.push_reserved.ensures.capacity, c.loop-test.true);
      instants = signed-rest old new c.in-Some.at row c.in-Some.ensures.some c.loop.invariant.instants;
    }

pub returns-in_default-clause-rows : goal.returns-in_default-clause-rows
returns-in_default-clause-rows c =
    let none : c.loop.answers ≡ [] = search rules in
    none_moved c.loop.rows.items c.loop.answers (c.args.count - c.loop.counter) none ∙ c.loop.invariant.rows

pub returns-in_default-clause-rest : goal.returns-in_default-clause-rest
returns-in_default-clause-rest c =
    let none : c.loop.answers ≡ [] = search rules in
    let still : c.pop_front.new.self ≡ [] = search rules in
    let gone : drop c.loop.counter c.args.answers.now ≡ [] = sym c.loop.invariant.rest ∙ none in
    let short : length c.args.answers.now - c.loop.counter ≡ 0 = sym (length-drop c.loop.counter c.args.answers.now) ∙ ap (λ (es : List (ℕ × Row)). length es) gone in
    still ∙ sym (drop_all c.args.count c.args.answers.now (omega (arith, short, c.loop-test.true)))
