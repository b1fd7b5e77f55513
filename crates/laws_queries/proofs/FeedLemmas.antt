-- What comes to the back of a queue: how wide and how many the rows are.
use Rattle.std.proofs.Common.{◌≡◌, ℕ, suc, ◌+◌, ◌≤◌, ◌-◌, true, false, List, [], ◌∷◌, ◌++◌, take, subst, arith}
use Rattle.values.specs.Row.{Row}
use Rattle.op_queue.specs.Entries.{Entry, RowAt, TickAt}
use Rattle.op_queue.specs.Paths.{Leads, rows_in}
use Rattle.op_queue.specs.Signed.{weigh, up, down}
use Rattle.laws_queries.specs.Widths.{AreEntries}
use Rattle.laws_queries.specs.Counts.{StaysWithin, count}

pub wide_append : (w : ℕ) (q r : List (Entry Row)) → AreEntries w q → AreEntries w r → AreEntries w (q ++ r)
wide_append w [] r h k = k
wide_append w (RowAt t s ∷ q) r h k = (h.0, wide_append w q r h.1 k)
wide_append w (TickAt t ∷ q) r h k = wide_append w q r h k

-- from n rows the queue leads to m, and none leaves that is not there
stays_append : (most n m : ℕ) (q r : List (Entry Row)) → ((k : ℕ) → down (λ x. 1) (take k (rows_in q)) ≤ up (λ x. 1) (take k (rows_in q)) + n) → n + up (λ x. 1) (rows_in q) ≡ down (λ x. 1) (rows_in q) + m
    → StaysWithin most n q → StaysWithin most m r → StaysWithin most n (q ++ r)
unfolding weigh rows_in
stays_append most n m [] r l e h k = let i : m ≡ n = omega (arith, e) in subst (λ j. StaysWithin most j r) i k
stays_append most n m (RowAt t (true, x) ∷ q) r l e h k = (h.0, stays_append most (n + 1) m q r (λ j. omega (arith, l (suc j))) (omega (arith, e)) h.1 k)
stays_append most n m (RowAt t (false, x) ∷ q) r l e h k = (h.0, stays_append most (n - 1) m q r (λ j. omega (arith, l (suc j), l 1)) (omega (arith, e, l 1)) h.1 k)
stays_append most n m (TickAt t ∷ q) r l e h k = (h.0, stays_append most n m q r l e h.1 k)

-- behind a path stands what stays within the bounds from the bag on to which it leads
pub few_append : (most : ℕ) (v : ℕ → List Row) (b c : List Row) (n m : ℕ) (q r : List (Entry Row)) → Leads v b n q c m → StaysWithin most (count b) q → StaysWithin most (count c) r → StaysWithin most (count b) (q ++ r)
few_append most v b c n m q r l h k = stays_append most (count b) (count c) q r (l.turns.legal.fits (λ x. 1)) (l.turns.adds.weighs (λ x. 1)) h k
