-- Streams of which one after another is kept, until all are.
use Rattle.std.proofs.Common.{◌≡◌, ◌≤◌, ◌+◌, ℕ, zero, suc, ◌<◌, Bool, true, false, cond, List, [], ◌∷◌, filter, length, refl, sym, ap, ◌∙◌, arith}
use Rattle.std.specs.Prelude.{slice_get}
use Rattle.std.specs.List.{AllByRecursion}
use Rattle.values.specs.Window.{Element}
use Rattle.plan.proofs.Lists.{each-filter}
use Rattle.reference.specs.Commands.{change}
use Rattle.reference.specs.Machine.{Stream}
use Rattle.reference.specs.Opening.{with_kept}
use Rattle.stream_store.specs.Kept.{kept_stream}
use Rattle.stream_store.specs.Stored.{IsByArrival}

-- the first so many streams with what is kept of them, the others as they are
abbrev pub kept_first : (ℕ → Element → Bool) → ℕ → ℕ → List Stream → List Stream
kept_first keep zero n ss = ss
kept_first keep (suc count) n [] = []
kept_first keep (suc count) n (s ∷ ss) = kept_stream (keep n) s ∷ kept_first keep count (suc n) ss

-- one stream after another is kept
kept_next_from : (keep : ℕ → Element → Bool) (count n : ℕ) (ss : List Stream) → change count (kept_stream (keep (n + count))) (kept_first keep count n ss) ≡ kept_first keep (suc count) n ss
kept_next_from keep zero n [] = refl
kept_next_from keep zero n (s ∷ ss) = let e : n + 0 ≡ n = omega arith in ap (λ m. kept_stream (keep m) s ∷ ss) e
kept_next_from keep (suc count) n [] = refl
kept_next_from keep (suc count) n (s ∷ ss) =
    let e : n + suc count ≡ suc n + count = omega arith in
    ap (λ m. kept_stream (keep n) s ∷ change count (kept_stream (keep m)) (kept_first keep count (suc n) ss)) e
    ∙ ap (λ (xs : List Stream). kept_stream (keep n) s ∷ xs) (kept_next_from keep count (suc n) ss)

pub kept_next : (keep : ℕ → Element → Bool) (count : ℕ) (ss : List Stream) → change count (kept_stream (keep count)) (kept_first keep count 0 ss) ≡ kept_first keep (suc count) 0 ss
kept_next keep count ss = let e : 0 + count ≡ count = omega arith in ap (λ m. change count (kept_stream (keep m)) (kept_first keep count 0 ss)) (sym e) ∙ kept_next_from keep count 0 ss

-- until all are
pub kept_all : (keep : ℕ → Element → Bool) (count n : ℕ) (ss : List Stream) → length ss ≤ count → kept_first keep count n ss ≡ with_kept keep n ss
kept_all keep zero n [] le = refl
kept_all keep zero n (s ∷ ss) le = absurd (omega (arith, le))
kept_all keep (suc count) n [] le = refl
kept_all keep (suc count) n (s ∷ ss) le = ap (λ (xs : List Stream). kept_stream (keep n) s ∷ xs) (kept_all keep count (suc n) ss (omega (arith, le)))

-- the streams that come next are as they were
pub kept_later : (keep : ℕ → Element → Bool) (count n i : ℕ) (ss : List Stream) → count ≤ i → slice_get (kept_first keep count n ss) i ≡ slice_get ss i
kept_later keep zero n i ss le = refl
kept_later keep (suc count) n i [] le = refl
kept_later keep (suc count) n zero (s ∷ ss) le = absurd (omega (arith, le))
kept_later keep (suc count) n (suc i) (s ∷ ss) le = kept_later keep count (suc n) i ss (omega (arith, le))

-- what is kept of elements that came one after the other did so too
pub by_arrival_filter : (p : Element → Bool) (es : List Element) → IsByArrival es → IsByArrival (filter p es)
by_arrival_filter p [] h = tt
by_arrival_filter p (e ∷ es) h = here (p e) (by_arrival_filter p es h.1) (each-filter (λ f. e.arrival < f.arrival) p es h.0)
  where
    here : (b : Bool) → IsByArrival (filter p es) → AllByRecursion (λ f. e.arrival < f.arrival) (filter p es) → IsByArrival (cond b (e ∷ filter p es) (filter p es))
    here true r k = (k, r)
    here false r k = r
