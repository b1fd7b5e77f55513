-- Elements that come one after another, each placed behind those of its instant and of earlier ones.
use Rattle.std.proofs.Common.{◌≡◌, ◌<◌, ◌≤◌, ◌+◌, ◌++◌, ◌==◌, ℕ, suc, Bool, true, false, cond, nat_lt, List, [], ◌∷◌, length, refl, sym, ap, ap₂, ◌∙◌, arith, append-nil, append_assoc}
use Rattle.std.specs.List.{AllByRecursion, filter}
use Rattle.std.proofs.lemmas.Bool.{ltb-true, ltb-false, ne_eqb, eq-eqb}
use Rattle.std.proofs.lemmas.List.Elements.{filter-append}
use Rattle.values.specs.Row.{Row}
use Rattle.values.specs.Window.{Element, numbered}
use Rattle.stream_store.specs.Open.{placed, after_put}
use Rattle.stream_store.specs.Closing.{by_key}
use Rattle.stream_store.proofs.KeyLemmas.{filter_none, each_from}
use Rattle.stream_store.proofs.OrderLemmas.{by_key_more, by_key_same, Before, Ordered}

pub each-placed : (P : Element → Type 0) (last : Element) → P last → (es : List Element) → AllByRecursion P es → AllByRecursion P (placed last es)
each-placed P last p [] h = (p, tt)
each-placed P last p (e ∷ es) h = here (each-placed P last p es h.1) (nat_lt last.instant e.instant)
  where
    here : AllByRecursion P (placed last es) → (b : Bool) → AllByRecursion P (cond b (last ∷ e ∷ es) (e ∷ placed last es))
    here ih true = (p, (h.0, h.1))
    here ih false = (h.0, ih)

-- a test that it fails
pub filter-placed_other : (q : Element → Bool) (last : Element) → q last ≡ false → (es : List Element) → filter q (placed last es) ≡ filter q es
filter-placed_other q last h [] = rw h refl
filter-placed_other q last h (e ∷ es) = here (filter-placed_other q last h es) (nat_lt last.instant e.instant)
  where
    here : filter q (placed last es) ≡ filter q es → (b : Bool) → filter q (cond b (last ∷ e ∷ es) (e ∷ placed last es)) ≡ filter q (e ∷ es)
    here ih true = rw h refl
    here ih false = ap (λ xs. cond (q e) (e ∷ xs) xs) ih

-- a test that it alone passes
filter-placed_only : (q : Element → Bool) (last : Element) → q last ≡ true → (es : List Element) → AllByRecursion (λ e. q e ≡ false) es → filter q (placed last es) ≡ last ∷ []
filter-placed_only q last h [] none = rw h refl
filter-placed_only q last h (e ∷ es) none = here (filter-placed_only q last h es none.1) (nat_lt last.instant e.instant)
  where
    here : filter q (placed last es) ≡ last ∷ [] → (b : Bool) → filter q (cond b (last ∷ e ∷ es) (e ∷ placed last es)) ≡ last ∷ []
    here ih true = rw (h, none.0) (ap (λ xs. last ∷ xs) (filter_none q es none.1))
    here ih false = rw (none.0) ih

ordered-placed : (last : Element) (es : List Element) → Ordered es → AllByRecursion (λ e. e.arrival < last.arrival) es → Ordered (placed last es)
ordered-placed last [] h came = (tt, tt)
ordered-placed last (e ∷ es) h came = here (ordered-placed last es h.1 came.1) (nat_lt last.instant e.instant) refl
  where
    here : Ordered (placed last es) → (b : Bool) → nat_lt last.instant e.instant ≡ b → Ordered (cond b (last ∷ e ∷ es) (e ∷ placed last es))
    here ih true i =
        let lt : last.instant < e.instant = ltb-true last.instant e.instant i in (
          (
            (omega (arith, lt), λ same. absurd (omega (arith, lt, same))),
            each_from (Before e) (Before last) (λ g b. (omega (arith, lt, b.0), λ same. absurd (omega (arith, lt, same, b.0)))) es h.0,
          ),
          (h.0, h.1),
        )
    here ih false i =
        let le : e.instant ≤ last.instant = ltb-false last.instant e.instant i in
        (each-placed (Before e) last (le, λ same. omega (arith, came.0)) es h.0, ih)

-- ---- rows that come one after another
pub ordered-put : (n : ℕ) (rows : List (ℕ × Row)) (es : List Element) → Ordered es → AllByRecursion (λ e. e.arrival < n) es → Ordered (after_put n rows es)
ordered-put n [] es h came = h
ordered-put n (r ∷ rows) es h came =
    let last : Element = record { arrival = n; instant = r.0; row = r.1 } in
    ordered-put (suc n) rows (placed last es) (ordered-placed last es h came)
    (each-placed (λ e. e.arrival < suc n) last (omega arith) es (each_from (λ e. e.arrival < n) (λ e. e.arrival < suc n) (λ e lt. omega (arith, lt)) es came))

pub each-put : (P : Element → Type 0) (n : ℕ) (rows : List (ℕ × Row)) (es : List Element) → AllByRecursion P (numbered n rows) → AllByRecursion P es → AllByRecursion P (after_put n rows es)
each-put P n [] es new h = h
each-put P n (r ∷ rows) es new h =
    let last : Element = record { arrival = n; instant = r.0; row = r.1 } in
    each-put P (suc n) rows (placed last es) new.1 (each-placed P last new.0 es h)

pub each-numbered : (P : ℕ × Row → Type 0) (Q : Element → Type 0) → ((n : ℕ) (r : ℕ × Row) → P r → Q (record { arrival = n; instant = r.0; row = r.1 })) → (n : ℕ) (rows : List (ℕ × Row))
    → AllByRecursion P rows → AllByRecursion Q (numbered n rows)
each-numbered P Q f n [] h = tt
each-numbered P Q f n (r ∷ rows) h = (f n r h.0, each-numbered P Q f (suc n) rows h.1)

pub numbered_below : (n m : ℕ) (rows : List (ℕ × Row)) → n + length rows ≤ m → AllByRecursion (λ (e : Element). e.arrival < m) (numbered n rows)
numbered_below n m [] h = tt
numbered_below n m (r ∷ rows) h = (omega (arith, h), numbered_below (suc n) m rows (omega (arith, h)))

one_more : (last : Element) (es xs : List Element) → AllByRecursion (λ e. e.arrival < last.arrival) es → AllByRecursion (λ e. e.arrival < last.arrival) xs
    → by_key (λ e. e.arrival) 0 (suc last.arrival) (xs ++ placed last es) ≡ by_key (λ e. e.arrival) 0 last.arrival (xs ++ es) ++ last ∷ []
one_more last es xs given came =
    by_key_more (λ e. e.arrival) n (xs ++ placed last es)
    ∙ ap₂ (λ ys zs. ys ++ zs) (by_key_same (λ e. e.arrival) 0 n (xs ++ placed last es) (xs ++ es) (λ k le lt. others k (omega (arith, lt)))) only
  where
    n : ℕ
    n = last.arrival

    others : (k : ℕ) → k < n → filter (λ e. e.arrival == k) (xs ++ placed last es) ≡ filter (λ e. e.arrival == k) (xs ++ es)
    others k lt =
        filter-append (λ e. e.arrival == k) xs (placed last es)
        ∙ ap (λ ys. filter (λ e. e.arrival == k) xs ++ ys) (filter-placed_other (λ e. e.arrival == k) last (ne_eqb n k (λ i. omega (arith, i, lt))) es)
        ∙ sym (filter-append (λ e. e.arrival == k) xs es)

    other : (e : Element) → e.arrival < n → (e.arrival == n) ≡ false
    other e lt = ne_eqb e.arrival n (λ i. omega (arith, i, lt))

    only : filter (λ e. e.arrival == n) (xs ++ placed last es) ≡ last ∷ []
    only =
        filter-append (λ e. e.arrival == n) xs (placed last es)
        ∙ ap (λ ys. ys ++ filter (λ e. e.arrival == n) (placed last es)) (filter_none (λ e. e.arrival == n) xs (each_from (λ e. e.arrival < n) (λ e. (e.arrival == n) ≡ false) other xs came))
        ∙ filter-placed_only (λ e. e.arrival == n) last (eq-eqb n n refl) es (each_from (λ e. e.arrival < n) (λ e. (e.arrival == n) ≡ false) other es given)

pub came_after : (n : ℕ) (rows : List (ℕ × Row)) (es xs : List Element) → AllByRecursion (λ (e : Element). e.arrival < n) es → AllByRecursion (λ (e : Element). e.arrival < n) xs
    → by_key (λ e. e.arrival) 0 (n + length rows) (xs ++ after_put n rows es) ≡ by_key (λ e. e.arrival) 0 n (xs ++ es) ++ numbered n rows
came_after n [] es xs given came =
    let e : n + 0 ≡ n = omega arith in
    ap (λ k. by_key (λ e. e.arrival) 0 k (xs ++ es)) e ∙ sym (append-nil (by_key (λ e. e.arrival) 0 n (xs ++ es)))
came_after n (r ∷ rows) es xs given came =
    let last : Element = record { arrival = n; instant = r.0; row = r.1 } in
    let more = λ (e : Element) (h : e.arrival < n). let lt : e.arrival < suc n = omega (arith, h) in lt in
    let rest = came_after (suc n) rows (placed last es) xs
    (each-placed (λ e. e.arrival < suc n) last (omega arith) es (each_from (λ e. e.arrival < n) (λ e. e.arrival < suc n) more es given))
    (each_from (λ e. e.arrival < n) (λ e. e.arrival < suc n) more xs came) in
    let e : n + suc (length rows) ≡ suc n + length rows = omega arith in
    ap (λ k. by_key (λ e. e.arrival) 0 k (xs ++ after_put n (r ∷ rows) es)) e
    ∙ rest
    ∙ ap (λ ys. ys ++ numbered (suc n) rows) (one_more last es xs given came)
    ∙ append_assoc (by_key (λ e. e.arrival) 0 n (xs ++ es)) (last ∷ []) (numbered (suc n) rows)
