-- What a log closes makes a beat: the entries that a query's cursor gains bring the elements that are closed, instant by instant.
use Rattle.std.proofs.Common.{◌≡◌, ℕ, zero, suc, ◌+◌, ◌<◌, ◌≤◌, ◌==◌, ◌&&◌, nat_le, not, Bool, true, false, cond, List, [], ◌∷◌, ◌++◌, filter, flat_map, refl, sym, subst, arith, append-nil, eqb-true, true≢false}
use Rattle.std.specs.List.{range_with_len}
use Rattle.values.specs.Perm.{Perm, same, keep, join}
use Rattle.values.specs.Window.{Element}
use Rattle.values.proofs.Perms.{perm-sym, perm-to_front}
use Rattle.op_queue.specs.Entries.{TickAt}
use Rattle.op_queue.specs.Logs.{is_shown, shown, row_entries, instant_entries}
use Rattle.windows.specs.Laws.{Each, IsRising}
use Rattle.windows.proofs.WindowLemmas.{Each_append, Each_map}
use Rattle.laws_dataflow.specs.Windows.{Brings, AreBelow, AreFrom}
use Rattle.laws_dataflow.proofs.ChangeLemmas.{rising_append}
use Rattle.laws_dataflow.proofs.WindowLemmas.{Brings_append, after_closed, rising_filter}

-- the elements that are closed at the k instants from `start` on, for a query that was registered at the place
abbrev pub closed_at : ℕ → List Element → ℕ → ℕ → List Element
closed_at place es start k = flat_map (λ t. shown place t es) (range_with_len start k)

all_now : (place t : ℕ) (es : List Element) → Each (λ e. e.instant ≡ t) (shown place t es)
all_now place t [] = tt
all_now place t (e ∷ es) = here (e.instant == t) refl (nat_le place e.arrival) (all_now place t es)
  where
    here : (b : Bool) → (e.instant == t) ≡ b → (c : Bool) → Each (λ e. e.instant ≡ t) (shown place t es) → Each (λ e. e.instant ≡ t) (cond (b && c) (e ∷ shown place t es) (shown place t es))
    here true h true r = (eqb-true _ _ h, r)
    here true h false r = r
    here false h c r = r

rows_bring : (t : ℕ) (es : List Element) → Each (λ e. e.instant ≡ t) es → Brings t (row_entries t es) es t
rows_bring t [] h = refl
rows_bring t (e ∷ es) h = (refl, refl, h.0, rows_bring t es h.1)

instant_brings : (place t : ℕ) (es : List Element) → Brings t (instant_entries place es t) (shown place t es) (t + 1)
instant_brings place t es =
    subst (λ l. Brings t (instant_entries place es t) l (t + 1)) (append-nil (shown place t es))
    (Brings_append t (row_entries t (shown place t es)) (TickAt t ∷ []) (shown place t es) [] t (t + 1) (rows_bring t (shown place t es) (all_now place t es)) (refl, refl))

-- THE QUEUE of a cursor gains what is closed
pub span_brings : (place : ℕ) (es : List Element) (start k : ℕ) → Brings start (flat_map (instant_entries place es) (range_with_len start k)) (closed_at place es start k) (start + k)
span_brings place es start zero = let e : start ≡ start + 0 = omega arith in e
span_brings place es start (suc k) =
    let e : start + 1 + k ≡ start + suc k = omega arith in
    Brings_append start (instant_entries place es start) (flat_map (instant_entries place es) (range_with_len (start + 1) k)) (shown place start es) (closed_at place es (start + 1) k) (start + 1) (start + suc k)
    (instant_brings place start es) (subst (λ c. Brings (start + 1) (flat_map (instant_entries place es) (range_with_len (start + 1) k)) (closed_at place es (start + 1) k) c) e (span_brings place es (start + 1) k))

closed_from : (place : ℕ) (es : List Element) (start k : ℕ) → AreFrom start (closed_at place es start k)
closed_from place es start zero = tt
closed_from place es start (suc k) = Each_append (λ e. start ≤ e.instant) (shown place start es) (closed_at place es (start + 1) k)
    (Each_map (λ e. e.instant ≡ start) (λ e. start ≤ e.instant) (λ e i. omega (arith, i)) (shown place start es) (all_now place start es))
    (Each_map (λ e. start + 1 ≤ e.instant) (λ e. start ≤ e.instant) (λ e i. omega (arith, i)) (closed_at place es (start + 1) k) (closed_from place es (start + 1) k))

pub closed_below : (place : ℕ) (es : List Element) (start k : ℕ) → AreBelow (start + k) (closed_at place es start k)
closed_below place es start zero = tt
closed_below place es start (suc k) = Each_append (λ e. e.instant < start + suc k) (shown place start es) (closed_at place es (start + 1) k)
    (Each_map (λ e. e.instant ≡ start) (λ e. e.instant < start + suc k) (λ e i. omega (arith, i)) (shown place start es) (all_now place start es))
    (Each_map (λ e. e.instant < start + 1 + k) (λ e. e.instant < start + suc k) (λ e i. omega (arith, i)) (closed_at place es (start + 1) k) (closed_below place es (start + 1) k))

-- where the closed elements came one after the other within each instant, so do these
pub closed_rises : (place : ℕ) (es : List Element) → ((t : ℕ) → IsRising (shown place t es)) → (start k : ℕ) → IsRising (closed_at place es start k)
closed_rises place es r start zero = tt
closed_rises place es r start (suc k) =
    rising_append (shown place start es) (closed_at place es (start + 1) k) (r start) (closed_rises place es r (start + 1) k)
    (after_closed (start + 1) (shown place start es) (closed_at place es (start + 1) k)
    (Each_map (λ e. e.instant ≡ start) (λ e. e.instant < start + 1) (λ e i. omega (arith, i)) (shown place start es) (all_now place start es)) (closed_from place es (start + 1) k))

-- a list that rises rises at each instant
pub shown_rises : (place t : ℕ) (es : List Element) → IsRising es → IsRising (shown place t es)
shown_rises place t es r = rising_filter (is_shown place t) es r

-- WHAT IS OPEN parts into what is closed and what is open still

module _ (p q : Element → Bool) (narrower : (e : Element) → q e ≡ true → p e ≡ true) where
  split : (es : List Element) → Perm (filter p es) (filter (λ e. p e && not (q e)) es ++ filter q es)
  split [] = same []
  split (e ∷ es) = here (p e) (q e) (narrower e) (split es)
    where
      here : (a b : Bool) → (b ≡ true → a ≡ true) → Perm (filter p es) (filter (λ e. p e && not (q e)) es ++ filter q es)
          → Perm (cond a (e ∷ filter p es) (filter p es)) (cond (a && not b) (e ∷ filter (λ e. p e && not (q e)) es) (filter (λ e. p e && not (q e)) es) ++ cond b (e ∷ filter q es) (filter q es))
      here true true h r = join _ _ _ (keep e _ _ r) (perm-sym _ _ (perm-to_front (filter (λ e. p e && not (q e)) es) e (filter q es)))
      here true false h r = keep e _ _ r
      here false true h r = absurd (true≢false (sym (h refl)))
      here false false h r = r
