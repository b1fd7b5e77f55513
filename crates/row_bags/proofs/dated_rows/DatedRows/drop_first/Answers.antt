use Rattle.std.proofs.Common.{◌≡◌, ◌∙◌, ◌-◌, ap, sym, arith, length, drop, [], List, ℕ, length-drop}
use Rattle.std.proofs.lemmas.List.{drop-drop, drop_all}
use Rattle.values.specs.Row.{Row}
use Rattle.row_bags.proofs.dated_rows.DatedRows.drop_first.Goals as goal

pub returns-in-None : goal.returns-in-None
returns-in-None c =
    let gone : drop c.loop.counter c.args.self.now ≡ [] = sym c.loop.invariant.rest ∙ c.in-None.ensures.none in
    let short : length c.args.self.now - c.loop.counter ≡ 0 = sym (length-drop c.loop.counter c.args.self.now) ∙ ap (λ (es : List (ℕ × Row)). length es) gone in
    c.in-None.ensures.still.0 ∙ sym (drop_all c.args.count c.args.self.now (omega (arith, short, c.loop-test.true)))

pub loop-preserved : goal.loop-preserved
loop-preserved c = record {
  rest = ap (λ (es : List (ℕ × Row)). drop 1 es) (sym c.in-Some.ensures.some ∙ c.loop.invariant.rest) ∙ drop-drop 1 c.loop.counter c.args.self.now;
}
