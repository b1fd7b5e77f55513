-- How many rows a bag has on the way through a queue: after the front of the queue, with more behind it, and through an operator that keeps some rows or
-- maps each.
use Rattle.std.proofs.Common.{ℕ, ◌+◌, ◌-◌, ◌≤◌, ◌≡◌, Bool, true, false, cond, List, [], ◌∷◌, ◌++◌, map, filter, sym, ◌∙◌, subst, arith}
use Rattle.values.specs.Row.{Row}
use Rattle.op_queue.specs.Entries.{Entry, RowAt, TickAt}
use Rattle.op_queue.specs.Paths.{rows_in}
use Rattle.op_queue.specs.Signed.{weigh, up, Adds, Legal, Turns}
use Rattle.op_queue.proofs.SignedLemmas.{Adds-rest, Legal-front, Legal-rest, Same-from_none}
use Rattle.group.proofs.BagLemmas.{after_row, weigh-filter}
use Rattle.laws_dataflow.specs.Nets.{batch}
use Rattle.laws_queries.specs.Counts.{count, StaysWithin}

-- NOW
pub stays_now : {most n : ℕ} (q : List (Entry Row)) → StaysWithin most n q → n ≤ most
stays_now [] h = h
stays_now (RowAt t (true, r) ∷ q) h = h.0
stays_now (RowAt t (false, r) ∷ q) h = h.0
stays_now (TickAt t ∷ q) h = h.0

-- one row more or less
pub count_entered : {b z : List Row} (r : Row) → Adds b ((true, r) ∷ []) z → count b + 1 ≡ count z
unfolding weigh
count_entered r a = omega (arith, a.weighs (λ x. 1))

pub count_left : {b z : List Row} (r : Row) → Adds b ((false, r) ∷ []) z → count b - 1 ≡ count z
unfolding weigh
count_left r a = omega (arith, a.weighs (λ x. 1))

-- AFTER the rows of a batch, which turn the bag b into c
pub stays_after : (most t : ℕ) (xs : List (Bool × Row)) (q : List (Entry Row)) (b c : List Row) → Legal b xs → Adds b xs c
    → StaysWithin most (count b) (batch t xs ++ q) → StaysWithin most (count c) q
stays_after most t [] q b c l a h = subst (λ n. StaysWithin most n q) ((Same-from_none a).weighs (λ x. 1)) h
stays_after most t ((true, r) ∷ xs) q b c l a h =
    let e : (z : List Row) × Adds b ((true, r) ∷ []) z = after_row b (true, r) (Legal-front ((true, r) ∷ []) xs l) in
    stays_after most t xs q e.0 c (Legal-rest e.1 l) (Adds-rest e.1 a) (subst (λ n. StaysWithin most n (batch t xs ++ q)) (count_entered r e.1) h.1)
stays_after most t ((false, r) ∷ xs) q b c l a h =
    let e : (z : List Row) × Adds b ((false, r) ∷ []) z = after_row b (false, r) (Legal-front ((false, r) ∷ []) xs l) in
    stays_after most t xs q e.0 c (Legal-rest e.1 l) (Adds-rest e.1 a) (subst (λ n. StaysWithin most n (batch t xs ++ q)) (count_left r e.1) h.1)

-- WITH MORE BEHIND, where the queue p turns b into c
pub stays_append : (most : ℕ) (p q : List (Entry Row)) (b c : List Row) → Turns b (rows_in p) c → StaysWithin most (count b) p → StaysWithin most (count c) q
    → StaysWithin most (count b) (p ++ q)
unfolding rows_in
stays_append most [] q b c m h k = subst (λ n. StaysWithin most n q) (sym ((Same-from_none m.adds).weighs (λ x. 1))) k
stays_append most (RowAt t (true, r) ∷ p) q b c m h k =
    let e : (z : List Row) × Adds b ((true, r) ∷ []) z = after_row b (true, r) (Legal-front ((true, r) ∷ []) (rows_in p) m.legal) in
    let n : Turns e.0 (rows_in p) c = record { adds = Adds-rest e.1 m.adds; legal = Legal-rest e.1 m.legal } in
    (h.0, subst (λ n. StaysWithin most n (p ++ q)) (sym (count_entered r e.1)) (stays_append most p q e.0 c n (subst (λ n. StaysWithin most n p) (count_entered r e.1) h.1) k))
stays_append most (RowAt t (false, r) ∷ p) q b c m h k =
    let e : (z : List Row) × Adds b ((false, r) ∷ []) z = after_row b (false, r) (Legal-front ((false, r) ∷ []) (rows_in p) m.legal) in
    let n : Turns e.0 (rows_in p) c = record { adds = Adds-rest e.1 m.adds; legal = Legal-rest e.1 m.legal } in
    (h.0, subst (λ n. StaysWithin most n (p ++ q)) (sym (count_left r e.1)) (stays_append most p q e.0 c n (subst (λ n. StaysWithin most n p) (count_left r e.1) h.1) k))
stays_append most (TickAt t ∷ p) q b c m h k = (h.0, stays_append most p q b c m h.1 k)

-- WHERE FEW ENTER: n rows, and those that enter, are no more than `most`
pub stays_entering : (most n t : ℕ) (xs : List (Bool × Row)) (q : List (Entry Row)) → n + up (λ x. 1) xs ≤ most → ((m : ℕ) → m ≤ most → StaysWithin most m q)
    → StaysWithin most n (batch t xs ++ q)
unfolding weigh
stays_entering most n t [] q h k = k n (omega (arith, h))
stays_entering most n t ((true, r) ∷ xs) q h k = (omega (arith, h), stays_entering most (n + 1) t xs q (omega (arith, h)) k)
stays_entering most n t ((false, r) ∷ xs) q h k = (omega (arith, h), stays_entering most (n - 1) t xs q (omega (arith, h)) k)

-- SOME ROWS KEPT, in the bag and in the batch
pub count_kept : (p : Row → Bool) (b : List Row) → count (filter p b) ≤ count b
unfolding weigh
count_kept p [] = omega arith
count_kept p (r ∷ b) = here (p r) (count_kept p b)
  where
    here : (t : Bool) → count (filter p b) ≤ count b → count (cond t (r ∷ filter p b) (filter p b)) ≤ 1 + count b
    here true i = omega (arith, i)
    here false i = omega (arith, i)

kept_entered : (p : Row → Bool) {b z : List Row} (r : Row) → Adds b ((true, r) ∷ []) z → count (filter p b) + cond (p r) 1 0 ≡ count (filter p z)
unfolding weigh
kept_entered p {b = b} {z = z} r a = omega (arith, a.weighs (λ x. cond (p x) 1 0), weigh-filter (λ x. 1) p b, weigh-filter (λ x. 1) p z)

kept_left : (p : Row → Bool) {b z : List Row} (r : Row) → Adds b ((false, r) ∷ []) z → count (filter p b) - cond (p r) 1 0 ≡ count (filter p z)
unfolding weigh
kept_left p {b = b} {z = z} r a = omega (arith, a.weighs (λ x. cond (p x) 1 0), weigh-filter (λ x. 1) p b, weigh-filter (λ x. 1) p z)

pub stays_kept : (p : Row → Bool) (most t : ℕ) (xs : List (Bool × Row)) (q : List (Entry Row)) (b : List Row) → Legal b xs
    → StaysWithin most (count b) (batch t xs ++ q) → StaysWithin most (count (filter p b)) (batch t (filter (λ s. p s.1) xs))
stays_kept p most t [] q b l h = omega (arith, count_kept p b, stays_now q h)
stays_kept p most t ((true, r) ∷ xs) q b l h =
    let e : (z : List Row) × Adds b ((true, r) ∷ []) z = after_row b (true, r) (Legal-front ((true, r) ∷ []) xs l) in
    here (p r) (kept_entered p r e.1)
    (stays_kept p most t xs q e.0 (Legal-rest e.1 l) (subst (λ n. StaysWithin most n (batch t xs ++ q)) (count_entered r e.1) h.1))
  where
    here : (t2 : Bool) {m : ℕ} → count (filter p b) + cond t2 1 0 ≡ m → StaysWithin most m (batch t (filter (λ s. p s.1) xs))
        → StaysWithin most (count (filter p b)) (batch t (cond t2 ((true, r) ∷ filter (λ s. p s.1) xs) (filter (λ s. p s.1) xs)))
    here true e i = (omega (arith, count_kept p b, h.0), subst (λ n. StaysWithin most n (batch t (filter (λ s. p s.1) xs))) (sym e) i)
    here false e i =
        let f : count (filter p b) ≡ count (filter p b) + 0 = omega arith in subst (λ n. StaysWithin most n (batch t (filter (λ s. p s.1) xs))) (sym (f ∙ e)) i
stays_kept p most t ((false, r) ∷ xs) q b l h =
    let e : (z : List Row) × Adds b ((false, r) ∷ []) z = after_row b (false, r) (Legal-front ((false, r) ∷ []) xs l) in
    here (p r) (kept_left p r e.1) (stays_kept p most t xs q e.0 (Legal-rest e.1 l) (subst (λ n. StaysWithin most n (batch t xs ++ q)) (count_left r e.1) h.1))
  where
    here : (t2 : Bool) {m : ℕ} → count (filter p b) - cond t2 1 0 ≡ m → StaysWithin most m (batch t (filter (λ s. p s.1) xs))
        → StaysWithin most (count (filter p b)) (batch t (cond t2 ((false, r) ∷ filter (λ s. p s.1) xs) (filter (λ s. p s.1) xs)))
    here true e i = (omega (arith, count_kept p b, h.0), subst (λ n. StaysWithin most n (batch t (filter (λ s. p s.1) xs))) (sym e) i)
    here false e i =
        let f : count (filter p b) ≡ count (filter p b) - 0 = omega arith in subst (λ n. StaysWithin most n (batch t (filter (λ s. p s.1) xs))) (sym (f ∙ e)) i

-- EACH ROW MAPPED
pub stays_mapped : (f : Row → Row) (most n t : ℕ) (xs : List (Bool × Row)) (q : List (Entry Row)) → StaysWithin most n (batch t xs ++ q)
    → StaysWithin most n (batch t (map (λ s. (s.0, f s.1)) xs))
stays_mapped f most n t [] q h = stays_now q h
stays_mapped f most n t ((true, r) ∷ xs) q h = (h.0, stays_mapped f most (n + 1) t xs q h.1)
stays_mapped f most n t ((false, r) ∷ xs) q h = (h.0, stays_mapped f most (n - 1) t xs q h.1)
