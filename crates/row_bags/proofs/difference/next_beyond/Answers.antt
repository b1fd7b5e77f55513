use Rattle.std.proofs.Common.{ℕ, ◌≡◌, ◌∙◌, ◌<◌, ◌+◌, ◌∷◌, List, true, ap, sym, arith, drop, length}
use Rattle.values.specs.Row.{Row}
use Rattle.row_bags.specs.Lists.{is_first, beyond}
use Rattle.row_bags.specs.Piles.{pile_in}
use Rattle.row_bags.proofs.PileLemmas.{front, beyond-meets}
use Rattle.row_bags.proofs.difference.next_beyond.Goals as goal

pub loop-place-preserved : goal.loop-place-preserved
loop-place-preserved c =
    let i : ℕ = c.loop-place.place in
    let xs : List Row = pile_in c.args.rows.now in
    let ys : List Row = pile_in c.args.others.now in
    let x : Row = c.values-values.result.now in
    let few : i < length xs = omega arith in
    let first : drop i xs ≡ x ∷ drop (i + 1) xs = front i xs x few c.values-values.ensures.value in
    let meets : is_first x (drop c.first_not_below-next.result ys) ≡ true = sym c.stands_at.ensures.is ∙ c.if-stands_at.true in
    record {
      rest =
          sym (ap (λ (l : List Row). beyond l (drop c.loop-place.next ys)) first
          ∙ beyond-meets x (drop (i + 1) xs) ys c.loop-place.next c.first_not_below-next.result c.first_not_below-next.ensures.rows meets)
          ∙ c.loop-place.invariant.rest;
      within = omega (arith, c.if-stands_at.ensures.within);
    }
