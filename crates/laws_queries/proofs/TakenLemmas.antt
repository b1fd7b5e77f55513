-- What an operator with one input has taken after a turn, and how many rows it takes and puts out on the way.
use Rattle.std.proofs.Common.{◌≡◌, ℕ, zero, suc, ◌+◌, ◌-◌, ◌<◌, ◌≤◌, ◌⊎◌, inl, inr, ⊎_elim, Bool, true, false, cond, List, [], ◌∷◌, ◌++◌, filter, get_or, length, map, take, refl, sym, ap, subst, arith}
use Rattle.std.specs.Cmp.{Equal-is}
use Rattle.std.specs.List.{All}
use Rattle.std.proofs.lemmas.List.Elements.{All-head, All-tail}
use Rattle.values.specs.Row.{Row, row_cmp}
use Rattle.values.specs.Bag.{is_same}
use Rattle.values.proofs.Bags.{same_itself}
use Rattle.values.proofs.Order.{row_order}
use Rattle.op_queue.specs.Entries.{Entry, RowAt, TickAt}
use Rattle.op_queue.specs.Paths.{Leads}
use Rattle.op_queue.specs.Signed.{weigh, up, down, Adds, Legal}
use Rattle.op_queue.proofs.PathLemmas.{Leads-front_legal}
use Rattle.laws_dataflow.specs.Nets.{World, Node, Cell, at_window, at_unary, at_join, batch, Turn, window_rows_turn, window_tick_turn, rows_turn, tick_turn, left_rows, right_rows, left_first, right_first, left_last, right_last}
use Rattle.laws_queries.specs.Widths.{IsRow, IsSideWide}
use Rattle.laws_queries.specs.Counts.{StaysWithin, count}
use Rattle.laws_queries.proofs.FirstLemmas.{batch_wide, behind_wide}

-- ROWS OF A BAG AND OF WHAT COMES

-- whether a row is this one
abbrev copy : Row → Row → ℕ
copy r y = cond (is_same row_cmp r y) 1 0

found : (P : Row → Type 0) (r : Row) (xs : List Row) → All P xs → 0 < weigh (copy r) xs → P r
unfolding weigh
found P r [] h k = absurd (omega (arith, k))
found P r (x ∷ xs) h k = here (is_same row_cmp r x) refl k (found P r xs (All-tail P x xs h))
  where
    here : (b : Bool) → is_same row_cmp r x ≡ b → 0 < cond b 1 0 + weigh (copy r) xs → (0 < weigh (copy r) xs → P r) → P r
    here true e l more = subst P (sym (row_order.exact r x ((Equal-is (row_cmp r x)).0 e))) (All-head P x xs h)
    here false e l more = more (omega (arith, l))

found_entering : (P : Row → Type 0) (r : Row) (xs : List (Bool × Row)) → All (λ s. P s.1) xs → 0 < up (copy r) xs → P r
unfolding weigh
found_entering P r [] h k = absurd (omega (arith, k))
found_entering P r ((true, x) ∷ xs) h k = here (is_same row_cmp r x) refl k (found_entering P r xs (All-tail (λ s. P s.1) (true, x) xs h))
  where
    here : (b : Bool) → is_same row_cmp r x ≡ b → 0 < cond b 1 0 + up (copy r) xs → (0 < up (copy r) xs → P r) → P r
    here true e l more = subst P (sym (row_order.exact r x ((Equal-is (row_cmp r x)).0 e))) (All-head (λ s. P s.1) (true, x) xs h)
    here false e l more = more (omega (arith, l))
found_entering P r ((false, x) ∷ xs) h k = found_entering P r xs (All-tail (λ s. P s.1) (false, x) xs h) (omega (arith, k))

its_own : (xs : List Row) (k : ℕ) (d : Row) → k < length xs → 0 < weigh (copy (get_or xs k d)) xs
unfolding weigh
its_own [] k d h = absurd (omega (arith, h))
its_own (x ∷ xs) zero d h = let e : copy x x ≡ 1 = ap (λ b. cond b 1 0) (same_itself row_cmp row_order x) in omega (arith, e)
its_own (x ∷ xs) (suc k) d h = omega (arith, its_own xs k d (omega (arith, h)))

either : (m n : ℕ) → 0 < m + n → (0 < m) ⊎ (0 < n)
either zero n h = inr (omega (arith, h))
either (suc m) n h = inl (omega arith)

-- what holds of a bag's rows and of the rows that come holds of the bag's rows then
pub All-adds : (P : Row → Type 0) {b c : List Row} {xs : List (Bool × Row)} → All P b → All (λ s. P s.1) xs → Adds b xs c → All P c
All-adds P {b = b} {c = c} {xs = xs} h k a = λ i d lt.
    let r : Row = get_or c i d in
    let some : 0 < weigh (copy r) b + up (copy r) xs = omega (arith, a.weighs (copy r), its_own c i d lt) in
    ⊎_elim (λ l. found P r b h l) (λ l. found_entering P r xs k l) (either (weigh (copy r) b) (up (copy r) xs) some)

-- COUNTS

-- rows of this weight may leave, one by one
pub record MayLeave (w : Row → ℕ) (n : ℕ) (xs : List (Bool × Row)) : Type 0 where
  pub fits : (k : ℕ) → down w (take k xs) ≤ up w (take k xs) + n

pub legal_leaves : (w : Row → ℕ) (b : List Row) (xs : List (Bool × Row)) → Legal b xs → MayLeave w (weigh w b) xs
legal_leaves w b xs h = record { fits = h.fits w }

entered : (w : Row → ℕ) (n m : ℕ) (r : Row) (xs : List (Bool × Row)) → n + w r ≡ m → MayLeave w n ((true, r) ∷ xs) → MayLeave w m xs
unfolding weigh
entered w n m r xs e h = record { fits = λ k. omega (arith, e, h.fits (suc k)) }

may_leave : (w : Row → ℕ) (n : ℕ) (r : Row) (xs : List (Bool × Row)) → MayLeave w n ((false, r) ∷ xs) → w r ≤ n
unfolding weigh
may_leave w n r xs h = omega (arith, h.fits 1)

left : (w : Row → ℕ) (n m : ℕ) (r : Row) (xs : List (Bool × Row)) → m + w r ≡ n → MayLeave w n ((false, r) ∷ xs) → MayLeave w m xs
unfolding weigh
left w n m r xs e h = record { fits = λ k. omega (arith, e, h.fits (suc k)) }

pub within_now : (most n : ℕ) (q : List (Entry Row)) → StaysWithin most n q → n ≤ most
within_now most n [] h = h
within_now most n (RowAt t (true, r) ∷ q) h = h.0
within_now most n (RowAt t (false, r) ∷ q) h = h.0
within_now most n (TickAt t ∷ q) h = h.0

-- behind a batch the bag has as many rows as the batch leaves
pub within_behind : (most t n m : ℕ) (xs : List (Bool × Row)) (q : List (Entry Row)) → MayLeave (λ r. 1) n xs
    → n + up (λ r. 1) xs ≡ down (λ r. 1) xs + m → StaysWithin most n (batch t xs ++ q) → StaysWithin most m q
unfolding weigh
within_behind most t n m [] q l e h = let same : n ≡ m = omega (arith, e) in subst (λ i. StaysWithin most i q) same h
within_behind most t n m ((true, r) ∷ xs) q l e h = within_behind most t (n + 1) m xs q (entered (λ r. 1) n (n + 1) r xs refl l) (omega (arith, e)) h.1
within_behind most t n m ((false, r) ∷ xs) q l e h =
    let some : 1 ≤ n = may_leave (λ r. 1) n r xs l in
    within_behind most t (n - 1) m xs q (left (λ r. 1) n (n - 1) r xs (omega (arith, some)) l) (omega (arith, e, some)) h.1

-- where all that enter are few enough
pub within_entering : (most t n : ℕ) (xs : List (Bool × Row)) (q : List (Entry Row)) → n + up (λ r. 1) xs ≤ most
    → ((m : ℕ) → m ≤ n + up (λ r. 1) xs → StaysWithin most m q) → StaysWithin most n (batch t xs ++ q)
unfolding weigh
within_entering most t n [] q h k = k n (omega arith)
within_entering most t n ((true, r) ∷ xs) q h k = (omega (arith, h), within_entering most t (n + 1) xs q (omega (arith, h)) (λ m l. k m (omega (arith, l))))
within_entering most t n ((false, r) ∷ xs) q h k = (omega (arith, h), within_entering most t (n - 1) xs q (omega (arith, h)) (λ m l. k m (omega (arith, l))))

-- of the rows of a batch those that pass
abbrev pub passing : (Row → Bool) → Row → ℕ
passing p r = cond (p r) 1 0

abbrev pub failing : (Row → Bool) → Row → ℕ
failing p r = cond (p r) 0 1

pub within_filter : (p : Row → Bool) (most t m u n : ℕ) (xs : List (Bool × Row)) (q : List (Entry Row)) → m + u ≡ n → MayLeave (passing p) m xs
    → MayLeave (failing p) u xs
    → StaysWithin most n (batch t xs ++ q) → StaysWithin most m (batch t (filter (λ s. p s.1) xs))
within_filter p most t m u n [] q same l k h = omega (arith, same, within_now most n q h)
within_filter p most t m u n ((true, r) ∷ xs) q same l k h = here (p r) refl (λ j i. within_filter p most t j i (n + 1) xs q)
  where
    here : (b : Bool) → p r ≡ b
        → ((j i : ℕ) → j + i ≡ n + 1 → MayLeave (passing p) j xs → MayLeave (failing p) i xs → StaysWithin most (n + 1) (batch t xs ++ q)
        → StaysWithin most j (batch t (filter (λ s. p s.1) xs)))
        → StaysWithin most m (batch t (cond b ((true, r) ∷ filter (λ s. p s.1) xs) (filter (λ s. p s.1) xs)))
    here true e more =
        let one : passing p r ≡ 1 = ap (λ b. cond b 1 0) e in
        let none : failing p r ≡ 0 = ap (λ b. cond b 0 1) e in (
          omega (arith, same, h.0),
          more (m + 1) u (omega (arith, same)) (entered (passing p) m (m + 1) r xs (omega (arith, one)) l)
              (entered (failing p) u u r xs (omega (arith, none)) k) h.1,
        )
    here false e more =
        let one : failing p r ≡ 1 = ap (λ b. cond b 0 1) e in
        let none : passing p r ≡ 0 = ap (λ b. cond b 1 0) e in
        more m (u + 1) (omega (arith, same)) (entered (passing p) m m r xs (omega (arith, none)) l)
        (entered (failing p) u (u + 1) r xs (omega (arith, one)) k) h.1
within_filter p most t m u n ((false, r) ∷ xs) q same l k h =
    here (p r) refl (may_leave (passing p) m r xs l) (may_leave (failing p) u r xs k) (λ j i. within_filter p most t j i (n - 1) xs q)
  where
    here : (b : Bool) → p r ≡ b → passing p r ≤ m → failing p r ≤ u
        → ((j i : ℕ) → j + i ≡ n - 1 → MayLeave (passing p) j xs → MayLeave (failing p) i xs → StaysWithin most (n - 1) (batch t xs ++ q)
        → StaysWithin most j (batch t (filter (λ s. p s.1) xs)))
        → StaysWithin most m (batch t (cond b ((false, r) ∷ filter (λ s. p s.1) xs) (filter (λ s. p s.1) xs)))
    here true e c d more =
        let one : passing p r ≡ 1 = ap (λ b. cond b 1 0) e in
        let none : failing p r ≡ 0 = ap (λ b. cond b 0 1) e in (
          omega (arith, same, h.0),
          more (m - 1) u (omega (arith, same, c, one)) (left (passing p) m (m - 1) r xs (omega (arith, c, one)) l)
              (left (failing p) u u r xs (omega (arith, none)) k) h.1,
        )
    here false e c d more =
        let one : failing p r ≡ 1 = ap (λ b. cond b 0 1) e in
        let none : passing p r ≡ 0 = ap (λ b. cond b 1 0) e in
        more m (u - 1) (omega (arith, same, d, one)) (left (passing p) m m r xs (omega (arith, none)) l)
        (left (failing p) u (u - 1) r xs (omega (arith, d, one)) k) h.1

pub weigh_passing : (p : Row → Bool) (xs : List Row) → weigh (λ r. 1) (filter p xs) ≡ weigh (passing p) xs
unfolding weigh
weigh_passing p [] = refl
weigh_passing p (x ∷ xs) = here (p x) (weigh_passing p xs)
  where
    here : (b : Bool) → weigh (λ r. 1) (filter p xs) ≡ weigh (passing p) xs
        → weigh (λ r. 1) (cond b (x ∷ filter p xs) (filter p xs)) ≡ cond b 1 0 + weigh (passing p) xs
    here true h = ap (λ n. 1 + n) h
    here false h = omega (arith, h)

pub weigh_parts : (p : Row → Bool) (xs : List Row) → weigh (λ r. 1) xs ≡ weigh (passing p) xs + weigh (failing p) xs
unfolding weigh
weigh_parts p [] = refl
weigh_parts p (x ∷ xs) = here (p x) (weigh_parts p xs)
  where
    here : (b : Bool) → weigh (λ r. 1) xs ≡ weigh (passing p) xs + weigh (failing p) xs
        → 1 + weigh (λ r. 1) xs ≡ (cond b 1 0 + weigh (passing p) xs) + (cond b 0 1 + weigh (failing p) xs)
    here true h = omega (arith, h)
    here false h = omega (arith, h)

-- of each row another
pub within_map : (f : Row → Row) (most t n : ℕ) (xs : List (Bool × Row)) (q : List (Entry Row)) → StaysWithin most n (batch t xs ++ q)
    → StaysWithin most n (batch t (map (λ s. (s.0, f s.1)) xs))
within_map f most t n [] q h = within_now most n q h
within_map f most t n ((true, r) ∷ xs) q h = (h.0, within_map f most t (n + 1) xs q h.1)
within_map f most t n ((false, r) ∷ xs) q h = (h.0, within_map f most t (n - 1) xs q h.1)

-- AFTER A TURN what was taken is as wide, and stays within as many rows

pub record TakenKept (w most : ℕ) (i : List Row) (q : List (Entry Row)) (i2 : List Row) (q2 : List (Entry Row)) : Type 0 where
  pub wide : IsSideWide w i q → IsSideWide w i2 q2
  pub few : StaysWithin most (count i) q → StaysWithin most (count i2) q2

pub rows_taken : (w most n : ℕ) (i i2 : List Row) (xs : List (Bool × Row)) (q : List (Entry Row)) → Legal i xs → Adds i xs i2
    → TakenKept w most i (batch n xs ++ q) i2 q
rows_taken w most n i i2 xs q l a = record {
  wide = λ h. record { taken = All-adds (IsRow w) h.taken (batch_wide w n xs q h.queue) a; queue = behind_wide w n xs q h.queue };
  few = λ h. within_behind most n (count i) (count i2) xs q (legal_leaves (λ r. 1) i xs l) (a.weighs (λ r. 1)) h;
}

abbrev pub OneKept : Cell → Cell → Type 0
OneKept (at_window h e b q n) d = Unit {0}
OneKept (at_unary q i o n) (at_window h e b r m) = Unit {0}
OneKept (at_unary q i o n) (at_unary q2 i2 o2 n2) =
    (v : ℕ → List Row) (below : List Row) (m : ℕ) → Leads v i n q below m → (w most : ℕ) → TakenKept w most i q i2 q2
OneKept (at_unary q i o n) (at_join r s l m p k a b) = Unit {0}
OneKept (at_join q r l m o n a b) d = Unit {0}

pub one_kept : (w : World) (node : Node) (c c2 : Cell) (outs : List (Entry Row)) → Turn w node c outs c2 → OneKept c c2
one_kept w node c c2 outs (window_rows_turn k n es ys h h2 e o o2 q law part) = tt
one_kept w node c c2 outs (window_tick_turn k n ys h h2 e o o2 q law part) = tt
one_kept w node c c2 outs (rows_turn f x n xs ys q i i2 o o2 law) = λ v below m edge wide most.
    let legal : Legal i xs = Leads-front_legal n xs q edge in
    rows_taken wide most n i i2 xs q legal (law.took legal)
one_kept w node c c2 outs (tick_turn f x n ys q i o o2 law) =
    λ v below m edge wide most. record { wide = λ h. record { taken = h.taken; queue = h.queue }; few = λ h. h.1 }
one_kept w node c c2 outs (left_rows f x y n xs ys q r l l2 m o b law) = tt
one_kept w node c c2 outs (right_rows f x y n xs ys q r l m m2 o a law) = tt
one_kept w node c c2 outs (left_first f x y n q r l m o) = tt
one_kept w node c c2 outs (right_first f x y n q r l m o) = tt
one_kept w node c c2 outs (left_last f x y n q r l m o) = tt
one_kept w node c c2 outs (right_last f x y n q r l m o) = tt
