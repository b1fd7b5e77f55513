-- Paths: how they compose, what a consumer takes off the front, what a producer puts at the back.
use Rattle.std.proofs.Common.{◌≡◌, ℕ, suc, ◌+◌, ◌<◌, ◌≤◌, Bool, List, [], ◌∷◌, ◌++◌, length, map, get_or, refl, ap, sym, ◌∙◌, subst, arith, append-nil, append_assoc, add_assoc, add-zero}
use Prim.Native.Nat.{zero}
use Rattle.op_queue.specs.Entries.{Entry, RowAt, TickAt}
use Rattle.op_queue.specs.Forward.{IsForward, instant_of}
use Rattle.op_queue.specs.Paths.{Leads, Synced, rows_in, ticks_in}
use Rattle.op_queue.specs.Signed.{Adds, Legal, Same, Turns}
use Rattle.op_queue.proofs.SignedLemmas.{Adds-append, Adds-none, Adds-rest, Adds-same, Legal-front, Same-from_none, Same-refl, Turns-append, Turns-none, Turns-rest, Turns-same}

pub rows_in-append : {X : Type 0} (p q : List (Entry X)) → rows_in (p ++ q) ≡ rows_in p ++ rows_in q
unfolding rows_in
rows_in-append [] q = refl
rows_in-append (RowAt t s ∷ p) q = ap (λ l. s ∷ l) (rows_in-append p q)
rows_in-append (TickAt t ∷ p) q = rows_in-append p q

pub ticks_in-append : {X : Type 0} (p q : List (Entry X)) → ticks_in (p ++ q) ≡ ticks_in p + ticks_in q
unfolding ticks_in
ticks_in-append [] q = omega arith
ticks_in-append (RowAt t s ∷ p) q = ticks_in-append p q
ticks_in-append (TickAt t ∷ p) q = omega (arith, ticks_in-append p q)

-- the rows of a batch, and no tick
pub rows_in-batch : {X : Type 0} (t : ℕ) (xs : List (Bool × X)) → rows_in (map (RowAt t) xs) ≡ xs
unfolding rows_in
rows_in-batch t [] = refl
rows_in-batch t (s ∷ xs) = ap (λ l. s ∷ l) (rows_in-batch t xs)

pub ticks_in-batch : {X : Type 0} (t : ℕ) (xs : List (Bool × X)) → ticks_in (map (RowAt t) xs) ≡ 0
unfolding ticks_in
ticks_in-batch t [] = refl
ticks_in-batch t (s ∷ xs) = ticks_in-batch t xs

-- rows that were taken move into the bag that stands
Synced-shift : {X : Type 0} (v : ℕ → List X) (b c : List X) (a : List (Bool × X)) → Adds b a c → (acc : List (Bool × X)) (n : ℕ) (q : List (Entry X)) → Synced v b (a ++ acc) n q → Synced v c acc n q
Synced-shift v b c a h acc n [] s = tt
Synced-shift v b c a h acc n (RowAt t x ∷ q) s = (s.0, Synced-shift v b c a h (acc ++ x ∷ []) n q (rw (← append_assoc a acc (x ∷ [])) s.1))
Synced-shift v b c a h acc n (TickAt t ∷ q) s = (s.0, Adds-rest h s.1, Synced-shift v b c a h acc (n + 1) q s.2)

Synced-unshift : {X : Type 0} (v : ℕ → List X) (b c : List X) (a : List (Bool × X)) → Adds b a c → (acc : List (Bool × X)) (n : ℕ) (q : List (Entry X)) → Synced v c acc n q → Synced v b (a ++ acc) n q
Synced-unshift v b c a h acc n [] s = tt
Synced-unshift v b c a h acc n (RowAt t x ∷ q) s = (s.0, rw append_assoc (Synced-unshift v b c a h (acc ++ x ∷ []) n q s.1))
Synced-unshift v b c a h acc n (TickAt t ∷ q) s = (s.0, Adds-append h s.1, Synced-unshift v b c a h acc (n + 1) q s.2)

Synced-append : {X : Type 0} (v : ℕ → List X) (b : List X) (acc : List (Bool × X)) (n : ℕ) (p q : List (Entry X)) → Synced v b acc n p → Synced v b (acc ++ rows_in p) (n + ticks_in p) q → Synced v b acc n (p ++ q)
unfolding rows_in ticks_in
Synced-append v b acc n [] q s r = subst (λ a. Synced v b a n q) (append-nil acc) (subst (λ m. Synced v b (acc ++ []) m q) (add-zero n) r)
Synced-append v b acc n (RowAt t x ∷ p) q s r = (s.0, Synced-append v b (acc ++ x ∷ []) n p q s.1 (rw append_assoc r))
Synced-append v b acc n (TickAt t ∷ p) q s r = (s.0, s.1, Synced-append v b acc (n + 1) p q s.2 (rw add_assoc r))

Synced-front : {X : Type 0} (v : ℕ → List X) (b : List X) (acc : List (Bool × X)) (n : ℕ) (p q : List (Entry X)) → Synced v b acc n (p ++ q) → Synced v b acc n p
Synced-front v b acc n [] q s = tt
Synced-front v b acc n (RowAt t x ∷ p) q s = (s.0, Synced-front v b (acc ++ x ∷ []) n p q s.1)
Synced-front v b acc n (TickAt t ∷ p) q s = (s.0, s.1, Synced-front v b acc (n + 1) p q s.2)

Synced-back : {X : Type 0} (v : ℕ → List X) (b : List X) (acc : List (Bool × X)) (n : ℕ) (p q : List (Entry X)) → Synced v b acc n (p ++ q) → Synced v b (acc ++ rows_in p) (n + ticks_in p) q
unfolding rows_in ticks_in
Synced-back v b acc n [] q s = subst (λ a. Synced v b a (n + 0) q) (sym (append-nil acc)) (subst (λ m. Synced v b acc m q) (sym (add-zero n)) s)
Synced-back v b acc n (RowAt t x ∷ p) q s = subst (λ a. Synced v b a (n + ticks_in p) q) (append_assoc acc (x ∷ []) (rows_in p)) (Synced-back v b (acc ++ x ∷ []) n p q s.1)
Synced-back v b acc n (TickAt t ∷ p) q s = subst (λ m. Synced v b (acc ++ rows_in p) m q) (add_assoc n 1 (ticks_in p)) (Synced-back v b acc (n + 1) p q s.2)

-- by other values that are the same at the instants of the queue
Synced-values : {X : Type 0} (v u : ℕ → List X) (b : List X) (acc : List (Bool × X)) (n : ℕ) (q : List (Entry X)) → ((t : ℕ) → n ≤ t → t < n + ticks_in q → Same (v t) (u t)) → Synced v b acc n q → Synced u b acc n q
unfolding ticks_in
Synced-values v u b acc n [] e s = tt
Synced-values v u b acc n (RowAt t x ∷ q) e s = (s.0, Synced-values v u b (acc ++ x ∷ []) n q e s.1)
Synced-values v u b acc n (TickAt t ∷ q) e s = (s.0, Adds-same (Same-refl b) (e n (omega arith) (omega arith)) s.1, Synced-values v u b acc (n + 1) q (λ i h k. e i (omega arith) (omega arith)) s.2)

Synced-same : {X : Type 0} (v : ℕ → List X) (b c : List X) → Same b c → (acc : List (Bool × X)) (n : ℕ) (q : List (Entry X)) → Synced v b acc n q → Synced v c acc n q
Synced-same v b c h acc n [] s = tt
Synced-same v b c h acc n (RowAt t x ∷ q) s = (s.0, Synced-same v b c h (acc ++ x ∷ []) n q s.1)
Synced-same v b c h acc n (TickAt t ∷ q) s = (s.0, Adds-same h (Same-refl (v n)) s.1, Synced-same v b c h acc (n + 1) q s.2)

-- the empty path
pub Leads-none : {X : Type 0} (v : ℕ → List X) {b c : List X} (n : ℕ) → Same b c → Leads v b n [] c n
unfolding rows_in ticks_in
Leads-none v n h = record { turns = Turns-none h; synced = tt; reached = add-zero n }

-- one path behind another: a producer puts out
pub Leads-append : {X : Type 0} {v : ℕ → List X} {b c d : List X} {n m l : ℕ} {p q : List (Entry X)} → Leads v b n p c m → Leads v c m q d l → Leads v b n (p ++ q) d l
Leads-append {v = v} {b = b} {c = c} {d = d} {n = n} {m = m} {l = l} {p = p} {q = q} h k = record {
  turns = rw rows_in-append (Turns-append h.turns k.turns);
  synced = Synced-append v b [] n p q h.synced (subst (λ i. Synced v b (rows_in p) i q) (sym h.reached) (subst (λ a. Synced v b a m q) (append-nil (rows_in p)) (Synced-unshift v b c (rows_in p) h.turns.adds [] m q k.synced)));
  reached = omega (arith, ticks_in-append p q, h.reached, k.reached);
}

-- a path's front is one, to the bag that its rows make
pub Leads-front : {X : Type 0} {v : ℕ → List X} {b c d : List X} {n m : ℕ} (p q : List (Entry X)) → Adds b (rows_in p) c → Leads v b n (p ++ q) d m → Leads v b n p c (n + ticks_in p)
Leads-front {v = v} {b = b} {n = n} p q a l = record {
  turns = record { adds = a; legal = Legal-front (rows_in p) (rows_in q) (rw rows_in-append at l.turns.legal) };
  synced = Synced-front v b [] n p q l.synced;
  reached = refl;
}

-- and the rest is one from there on
pub Leads-rest : {X : Type 0} {v : ℕ → List X} {b c d : List X} {n m : ℕ} (p q : List (Entry X)) → Adds b (rows_in p) c → Leads v b n (p ++ q) d m → Leads v c (n + ticks_in p) q d m
Leads-rest {v = v} {b = b} {c = c} {n = n} p q a l = record {
  turns = Turns-rest a (rw rows_in-append at l.turns);
  synced = Synced-shift v b c (rows_in p) a [] (n + ticks_in p) q (rw append-nil (Synced-back v b [] n p q l.synced));
  reached = omega (arith, ticks_in-append p q, l.reached);
}

pub Leads-same : {X : Type 0} {v : ℕ → List X} {b b' c c' : List X} {n m : ℕ} {q : List (Entry X)} → Same b b' → Same c c' → Leads v b n q c m → Leads v b' n q c' m
Leads-same {v = v} {b = b} {b' = b'} {n = n} {q = q} h k l = record { turns = Turns-same h k l.turns; synced = Synced-same v b b' h [] n q l.synced; reached = l.reached }

-- only the values at the instants from n to below m matter
pub Leads-values : {X : Type 0} {v u : ℕ → List X} {b c : List X} {n m : ℕ} {q : List (Entry X)} → ((t : ℕ) → n ≤ t → t < m → Same (v t) (u t)) → Leads v b n q c m → Leads u b n q c m
Leads-values {v = v} {u = u} {b = b} {n = n} {q = q} e l = record { turns = l.turns; synced = Synced-values v u b [] n q (λ t h k. e t h (omega (arith, l.reached))) l.synced; reached = l.reached }

-- a consumer takes the rows of a batch
pub Leads-take_rows : {X : Type 0} {v : ℕ → List X} {b c d : List X} {n m : ℕ} (t : ℕ) (xs : List (Bool × X)) (q : List (Entry X)) → Adds b xs c → Leads v b n (map (RowAt t) xs ++ q) d m → Leads v c n q d m
Leads-take_rows {v = v} {b = b} {c = c} {d = d} {n = n} {m = m} t xs q a l =
    let e : n + ticks_in (map (RowAt t) xs) ≡ n = omega (arith, ticks_in-batch t xs) in
    subst (λ i. Leads v c i q d m) e (Leads-rest (map (RowAt t) xs) q (subst (λ ys. Adds b ys c) (sym (rows_in-batch t xs)) a) l)

-- it takes a tick: its bag is the value there
pub Leads-take_tick : {X : Type 0} {v : ℕ → List X} {b d : List X} {n m t : ℕ} {q : List (Entry X)} → Leads v b n (TickAt t ∷ q) d m → (t ≡ n) × Same b (v n) × Leads v b (n + 1) q d m
unfolding rows_in ticks_in
Leads-take_tick l = (l.synced.0, Same-from_none l.synced.1, record { turns = l.turns; synced = l.synced.2; reached = omega (arith, l.reached) })

Synced-batch : {X : Type 0} (v : ℕ → List X) (b : List X) (acc : List (Bool × X)) (n : ℕ) (xs : List (Bool × X)) → Synced v b acc n (map (RowAt n) xs)
Synced-batch v b acc n [] = tt
Synced-batch v b acc n (s ∷ xs) = (refl, Synced-batch v b (acc ++ s ∷ []) n xs)

-- rows of the open instant, in any batches, are a path
pub Leads-rows : {X : Type 0} (v : ℕ → List X) {b c : List X} (n : ℕ) {xs : List (Bool × X)} → Turns b xs c → Leads v b n (map (RowAt n) xs) c n
Leads-rows v {b = b} {c = c} n {xs = xs} h = record { turns = subst (λ ys. Turns b ys c) (sym (rows_in-batch n xs)) h; synced = Synced-batch v b [] n xs; reached = omega (arith, ticks_in-batch n xs) }

-- so is its tick where the value is reached
pub Leads-tick : {X : Type 0} (v : ℕ → List X) {b : List X} (n : ℕ) → Same b (v n) → Leads v b n (TickAt n ∷ []) b (n + 1)
unfolding rows_in ticks_in
Leads-tick v n h = record { turns = Turns-none (Same-refl _); synced = (refl, Adds-none h, tt); reached = refl }

pub Leads-after : {X : Type 0} {v : ℕ → List X} {b c : List X} {n m : ℕ} {q : List (Entry X)} → Leads v b n q c m → n ≤ m
Leads-after l = omega (arith, l.reached)

-- an empty queue joins its two ends: that is why idle means complete
pub Leads-empty : {X : Type 0} {v : ℕ → List X} {b c : List X} {n m : ℕ} → Leads v b n [] c m → (n ≡ m) × Same b c
unfolding rows_in ticks_in
Leads-empty l = (sym (add-zero _) ∙ l.reached, Same-from_none l.turns.adds)

-- the rows at the front may be taken
pub Leads-front_legal : {X : Type 0} {v : ℕ → List X} {b d : List X} {n m : ℕ} (t : ℕ) (xs : List (Bool × X)) (q : List (Entry X)) → Leads v b n (map (RowAt t) xs ++ q) d m → Legal b xs
Leads-front_legal {b = b} t xs q l =
    Legal-front xs (rows_in q) (subst (λ ys. Legal b ys) (rows_in-append (map (RowAt t) xs) q ∙ ap (λ ys. ys ++ rows_in q) (rows_in-batch t xs)) l.turns.legal)

-- the instants of a path lie from n to m
Synced-bounds : {X : Type 0} (v : ℕ → List X) (b : List X) (acc : List (Bool × X)) (n : ℕ) (q : List (Entry X)) → Synced v b acc n q → (i : ℕ) (d : Entry X) → i < length q → n ≤ instant_of (get_or q i d)
Synced-bounds v b acc n [] s i d lt = absurd (omega arith)
Synced-bounds v b acc n (RowAt t x ∷ q) s zero d lt = omega (arith, s.0)
Synced-bounds v b acc n (RowAt t x ∷ q) s (suc i) d lt = Synced-bounds v b (acc ++ x ∷ []) n q s.1 i d (omega arith)
Synced-bounds v b acc n (TickAt t ∷ q) s zero d lt = omega (arith, s.0)
Synced-bounds v b acc n (TickAt t ∷ q) s (suc i) d lt = omega (arith, Synced-bounds v b acc (n + 1) q s.2 i d (omega arith))

Synced-forward : {X : Type 0} (v : ℕ → List X) (b : List X) (acc : List (Bool × X)) (n : ℕ) (q : List (Entry X)) → Synced v b acc n q → IsForward q
Synced-forward v b acc n [] s i j d le lt = absurd (omega arith)
Synced-forward v b acc n (RowAt t x ∷ q) s zero zero d le lt = omega arith
Synced-forward v b acc n (RowAt t x ∷ q) s zero (suc j) d le lt = omega (arith, s.0, Synced-bounds v b (acc ++ x ∷ []) n q s.1 j d (omega arith))
Synced-forward v b acc n (RowAt t x ∷ q) s (suc i) zero d le lt = absurd (omega arith)
Synced-forward v b acc n (RowAt t x ∷ q) s (suc i) (suc j) d le lt = Synced-forward v b (acc ++ x ∷ []) n q s.1 i j d (omega arith) (omega arith)
Synced-forward v b acc n (TickAt t ∷ q) s zero zero d le lt = omega arith
Synced-forward v b acc n (TickAt t ∷ q) s zero (suc j) d le lt = omega (arith, s.0, Synced-bounds v b acc (n + 1) q s.2 j d (omega arith))
Synced-forward v b acc n (TickAt t ∷ q) s (suc i) zero d le lt = absurd (omega arith)
Synced-forward v b acc n (TickAt t ∷ q) s (suc i) (suc j) d le lt = Synced-forward v b acc (n + 1) q s.2 i j d (omega arith) (omega arith)

-- instants of a path never go back: what pushing asks
pub Leads-forward : {X : Type 0} {v : ℕ → List X} {b c : List X} {n m : ℕ} {q : List (Entry X)} → Leads v b n q c m → IsForward q
Leads-forward {v = v} {b = b} {n = n} {q = q} l = Synced-forward v b [] n q l.synced
