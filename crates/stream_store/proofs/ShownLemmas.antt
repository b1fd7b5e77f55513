-- What a query sees of a stream's closed rows is what it would see of the stream.
use Rattle.std.proofs.Common.{◌≡◌, ◌<◌, ◌≤◌, ◌+◌, ◌-◌, ◌∙◌, refl, ◌==◌, ℕ, true, nat_le, List, [], ◌∷◌, arith}
use Rattle.std.specs.List.{AllByRecursion}
use Rattle.std.proofs.lemmas.Bool.{eqb-true, and_parts, le-leb, lt-ltb}
use Rattle.values.specs.Window.{Element}
use Rattle.op_queue.specs.Logs.{is_shown, shown}
use Rattle.stream_store.specs.Closing.{by_instant}
use Rattle.stream_store.specs.OpenRows.{Rising}
use Rattle.stream_store.proofs.KeyLemmas.{each_from, each_passes, filter_all}
use Rattle.stream_store.proofs.OrderLemmas.{within, by_key_rising, filter-by_key}

one_key : (f : Element → ℕ) (t : ℕ) (es : List Element) → AllByRecursion (λ e. f e ≡ t) es → Rising f es
one_key f t [] h = tt
one_key f t (e ∷ es) h = (each_from (λ g. f g ≡ t) (λ g. f e ≤ f g) (λ g i. omega (arith, h.0, i)) es h.1, one_key f t es h.1)

-- at a closed instant
pub shown_closed : (place t until : ℕ) (es : List Element) → t < until → shown place t (by_instant 0 until es) ≡ shown place t es
shown_closed place t until es lt =
    let rows : List Element = shown place t es in
    let same = each_from (λ e. is_shown place t e ≡ true) (λ e. e.instant ≡ t) (λ e h. eqb-true e.instant t (and_parts (e.instant == t) (nat_le place e.arrival) h).0) rows (each_passes (is_shown place t) es) in
    filter-by_key (is_shown place t) (λ e. e.instant) 0 (until - 0) es
    ∙ by_key_rising (λ e. e.instant) 0 (until - 0) rows (one_key (λ e. e.instant) t rows same)
    ∙ filter_all (λ e. within 0 (until - 0) e.instant) rows
    (each_from (λ e. e.instant ≡ t) (λ e. within 0 (until - 0) e.instant ≡ true) (λ e h. rw (le-leb 0 e.instant (omega arith), lt-ltb e.instant (0 + (until - 0)) (omega (arith, lt, h))) refl) rows same)
