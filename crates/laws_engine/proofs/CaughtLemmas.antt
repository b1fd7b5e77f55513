-- The readers of a stream are caught up with it.
use Rattle.std.proofs.Common.{◌≡◌, ℕ, suc, ◌≤◌, ◌==◌, max, min, fold, Bool, true, false, cond, Some, List, [], ◌∷◌, get_or, refl, ap, ◌∙◌, arith}
use Rattle.std.specs.Prelude.{slice_get, unwrap_or}
use Rattle.std.specs.List.{AllByRecursion, reduce}
use Rattle.std.specs.Option.{option_map_or}
use Rattle.plan.proofs.Lists.{each-append}
use Rattle.std.proofs.lemmas.Bool.{eqb-true}
use Rattle.values.specs.Window.{Window}
use Rattle.reference.specs.Machine.{Place, Registered, Stream, opens, until_for}
use Rattle.laws_queries.specs.Plain.{PlainQuery}
use Rattle.laws_engine.specs.Engines.{Broken, Dropped, PlainEngine, PlainRemains, Running, next_of}
use Rattle.laws_engine.specs.Good.{GoodEngine}
use Rattle.laws_engine.specs.Openings.{marks_by}
use Rattle.needed_rows.specs.Needed.{PlainReader}
use Rattle.needed_rows.specs.Queries.{AreCaughtUp, reader_at, readers_of, readers_over}
use Rattle.laws_engine.proofs.MarkLemmas.{next_reached}

-- the least is no greater than each
fold_least : (x : ℕ) (xs : List ℕ) → fold min x xs ≤ x
fold_least x [] = omega arith
fold_least x (y ∷ ys) = omega (arith, fold_least (min x y) ys)

fold_first : (x y : ℕ) (xs : List ℕ) → x ≤ y → fold min x xs ≤ fold min y xs
fold_first x y [] h = h
fold_first x y (z ∷ zs) h = fold_first (min x z) (min y z) zs (omega (arith, h))

abbrev Each : ℕ → List ℕ → Type 0
Each u xs = AllByRecursion (λ x. u ≤ x) xs

each_lower : (u v : ℕ) (xs : List ℕ) → u ≤ v → Each v xs → Each u xs
each_lower u v [] l h = tt
each_lower u v (x ∷ xs) l h = (omega (arith, l, h.0), each_lower u v xs l h.1)

fold_each : (x : ℕ) (xs : List ℕ) → Each (fold min x xs) xs
fold_each x [] = tt
fold_each x (y ∷ ys) = (omega (arith, fold_least (min x y) ys), fold_each (min x y) ys)

least_each : (xs : List ℕ) → Each (unwrap_or (reduce min xs) 0) xs
least_each [] = tt
least_each (x ∷ xs) = (fold_least x xs, fold_each x xs)

module _ (streams : List Stream) (n : ℕ) (s : Stream) (at : slice_get streams n ≡ Some s) where
  opens_at : (p : Place) → (p.stream == n) ≡ true → option_map_or (λ (z : Stream). z.first_open) (slice_get streams p.stream) 0 ≡ s.first_open
  opens_at p b = ap (λ k. option_map_or (λ (z : Stream). z.first_open) (slice_get streams k) 0) (eqb-true p.stream n b) ∙ ap (λ o. option_map_or (λ (z : Stream). z.first_open) o 0) at

  sources : (q : Registered) (next u : ℕ) (ws : List Window) (ps : List Place) → next ≤ max q.first u → Each u (opens streams ps) → AreCaughtUp s.first_open (readers_of n q next ws ps)
  sources q next u [] ps l h = tt
  sources q next u (w ∷ ws) [] l h = tt
  sources q next u (w ∷ ws) (p ∷ ps) l h = one (p.stream == n) refl (sources q next u ws ps l h.1)
    where
      one : (b : Bool) → (p.stream == n) ≡ b → AreCaughtUp s.first_open (readers_of n q next ws ps) → AreCaughtUp s.first_open (cond b (reader_at q next w p ∷ readers_of n q next ws ps) (readers_of n q next ws ps))
      one true b k = (omega (arith, l, h.0, opens_at p b), k)
      one false b k = k

  abbrev Reached : Registered → PlainRemains → Type 0
  Reached q k = (p : PlainQuery) → k ≡ Running p → next_of q p ≤ max q.first (until_for streams q.places)

  over : (qs : List Registered) (ks : List PlainRemains) → ((i : ℕ) (q : Registered) → slice_get qs i ≡ Some q → Reached q (get_or ks i Dropped)) → AreCaughtUp s.first_open (readers_over n qs (marks_by qs ks))
  over [] ks h = tt
  over (q ∷ qs) [] h = over qs [] (λ i r a. h (suc i) r a)
  over (q ∷ qs) (Running p ∷ ks) h =
      each-append (λ (r : PlainReader). r.next ≤ max r.first s.first_open) (readers_of n q (next_of q p) q.meaning.windows q.places) (readers_over n qs (marks_by qs ks))
      (sources q (next_of q p) (until_for streams q.places) q.meaning.windows q.places (h 0 q refl p refl) (least_each (opens streams q.places)))
      (over qs ks (λ i r a. h (suc i) r a))
  over (q ∷ qs) (Broken answers upto ∷ ks) h = over qs ks (λ i r a. h (suc i) r a)
  over (q ∷ qs) (Dropped ∷ ks) h = over qs ks (λ i r a. h (suc i) r a)

pub caught_up : (e : PlainEngine) → GoodEngine e → (n : ℕ) (s : Stream) → slice_get e.machine.streams n ≡ Some s → AreCaughtUp s.first_open (readers_over n e.machine.queries (marks_by e.machine.queries e.queries))
caught_up e good n s at = over e.machine.streams n s at e.machine.queries e.queries (λ i q h p k. next_reached e good i q p h k)
