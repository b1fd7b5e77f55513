-- Where the elements of an instant stand in a log.
use Rattle.std.proofs.Common.{◌≡◌, ℕ, ℤ, suc, ◌+◌, ◌-◌, ◌<◌, ◌≤◌, nat_le, Bool, true, false, Option, List, [], ◌∷◌, ◌++◌, length, map, take, drop, slice_range, get_or, refl, ap, sym, ◌∙◌, arith, append-nil, ⊎_elim}
use Prim.Native.Nat.{zero}
use Rattle.std.specs.List.{range_with_len, filter}
use Rattle.std.proofs.lemmas.Bool.{cases_lt}
use Rattle.std.proofs.lemmas.Bool.Decides.{nat_tests}
use Rattle.std.proofs.lemmas.List.{map-append, drop_at, drop_more}
use Rattle.std.proofs.lemmas.List.Elements.{filter-append}
use Rattle.std.proofs.lemmas.List.FromFn.{length-map-range_with_len, take-map-range_with_len, get_or-map-range_with_len}
use Rattle.values.specs.Window.{Element}
use Rattle.op_queue.specs.Logs.{is_shown, shown}
use Rattle.op_queue.specs.Closings.{IsInOrder, is_waiting}
use Rattle.op_queue.specs.Tables.{IsRising, element_at, elements_in}
use Rattle.op_queue.proofs.RunLemmas.{range_with_len-add}
use Rattle.op_queue.proofs.SpanLemmas.{filter-no, filter-yes}

pub filter-range_none : {X : Type 0} (p : X → Bool) (f : ℕ → X) (a n : ℕ) → ((i : ℕ) → a ≤ i → i < a + n → p (f i) ≡ false) → filter p (map f (range_with_len a n)) ≡ []
filter-range_none p f a zero h = refl
filter-range_none p f a (suc n) h =
    filter-no p (f a) (map f (range_with_len (a + 1) n)) (h a (omega arith) (omega arith)) ∙ filter-range_none p f (a + 1) n (λ i l u. h i (omega arith) (omega arith))

filter-range_all : {X : Type 0} (p : X → Bool) (f : ℕ → X) (a n : ℕ) → ((i : ℕ) → a ≤ i → i < a + n → p (f i) ≡ true) → filter p (map f (range_with_len a n)) ≡ map f (range_with_len a n)
filter-range_all p f a zero h = refl
filter-range_all p f a (suc n) h =
    filter-yes p (f a) (map f (range_with_len (a + 1) n)) (h a (omega arith) (omega arith)) ∙ ap (λ xs. f a ∷ xs) (filter-range_all p f (a + 1) n (λ i l u. h i (omega arith) (omega arith)))

pub map-range-split : {X : Type 0} (f : ℕ → X) (a b n : ℕ) → a ≤ b → b ≤ a + n → map f (range_with_len a n) ≡ map f (range_with_len a (b - a)) ++ map f (range_with_len b (a + n - b))
map-range-split f a b n l u =
    let e : n ≡ (b - a) + (a + n - b) = omega arith in
    let g : a + (b - a) ≡ b = omega arith in
    ap (λ k. map f (range_with_len a k)) e
    ∙ ap (map f) (range_with_len-add a (b - a) (a + n - b))
    ∙ map-append f (range_with_len a (b - a)) (range_with_len (a + (b - a)) (a + n - b))
    ∙ ap (λ k. map f (range_with_len a (b - a)) ++ map f (range_with_len k (a + n - b))) g

pub slice-map-range : {X : Type 0} (f : ℕ → X) (n from end : ℕ) → from ≤ end → end ≤ n → slice_range (map f (range_with_len 0 n)) from end ≡ map f (range_with_len from (end - from))
slice-map-range f n from end l u =
    ap (λ xs. take (end - from) (drop from xs)) (map-range-split f 0 from n (omega arith) (omega arith))
    ∙ ap (take (end - from)) (drop_at (map f (range_with_len 0 (from - 0))) (map f (range_with_len from (0 + n - from))) from (length-map-range_with_len f 0 (from - 0) ∙ omega arith))
    ∙ take-map-range_with_len f from (0 + n - from) (end - from) (omega arith)

pub filter-slice : {X : Type 0} (p : X → Bool) (f : ℕ → X) (n from end : ℕ) → from ≤ end → end ≤ n → ((i : ℕ) → i < from → p (f i) ≡ false) → ((i : ℕ) → from ≤ i → i < end → p (f i) ≡ true) → ((i : ℕ) → end ≤ i → i < n → p (f i) ≡ false) → filter p (map f (range_with_len 0 n)) ≡ slice_range (map f (range_with_len 0 n)) from end
filter-slice p f n from end l u low mid high =
    ap (filter p) (map-range-split f 0 from n (omega arith) (omega arith))
    ∙ filter-append p (map f (range_with_len 0 (from - 0))) (map f (range_with_len from (0 + n - from)))
    ∙ ap (λ xs. xs ++ filter p (map f (range_with_len from (0 + n - from)))) (filter-range_none p f 0 (from - 0) (λ i a b. low i (omega arith)))
    ∙ ap (filter p) (map-range-split f from end (0 + n - from) l (omega arith))
    ∙ filter-append p (map f (range_with_len from (end - from))) (map f (range_with_len end (from + (0 + n - from) - end)))
    ∙ ap (λ xs. filter p (map f (range_with_len from (end - from))) ++ xs) (filter-range_none p f end (from + (0 + n - from) - end) (λ i a b. high i a (omega arith)))
    ∙ append-nil (filter p (map f (range_with_len from (end - from))))
    ∙ filter-range_all p f from (end - from) (λ i a b. mid i a (omega arith))
    ∙ sym (slice-map-range f n from end l u)

module _ (instants numbers : List ℕ) (columns : List (List (Option ℤ))) where
  not_shown-other : (place t i : ℕ) → (get_or instants i 0 < t) → is_shown place t (element_at instants numbers columns i) ≡ false
  not_shown-other place t i lt = grind (arith, nat_tests)

  not_shown-later : (place t i : ℕ) → (t + 1 ≤ get_or instants i 0) → is_shown place t (element_at instants numbers columns i) ≡ false
  not_shown-later place t i lt = grind (arith, nat_tests)

  not_shown-early : (place t i : ℕ) → (get_or numbers i 0 < place) → is_shown place t (element_at instants numbers columns i) ≡ false
  not_shown-early place t i lt = grind (arith, nat_tests)

  shown-here : (place t i : ℕ) → (t ≤ get_or instants i 0) → (get_or instants i 0 < t + 1) → place ≤ get_or numbers i 0 → is_shown place t (element_at instants numbers columns i) ≡ true
  shown-here place t i a b c = let e : get_or instants i 0 ≡ t = omega arith in grind (arith, nat_tests)

  pub shown-places : (n first from end place t : ℕ) → first ≤ from → from ≤ end → end ≤ n → ((i : ℕ) → 0 ≤ i → i < first → get_or instants i 0 < t) → ((i : ℕ) → first ≤ i → i < n → t ≤ get_or instants i 0) → ((i : ℕ) → first ≤ i → i < end → get_or instants i 0 < t + 1) → ((i : ℕ) → end ≤ i → i < n → t + 1 ≤ get_or instants i 0) → ((i : ℕ) → first ≤ i → i < from → get_or numbers i 0 < place) → ((i : ℕ) → from ≤ i → i < end → place ≤ get_or numbers i 0) → shown place t (elements_in n instants numbers columns) ≡ slice_range (elements_in n instants numbers columns) from end
  shown-places n first from end place t a b c before here here2 after early late =
      filter-slice (is_shown place t) (element_at instants numbers columns) n from end b c
      (λ i lt.
      ⊎_elim
      (λ (k : i < first). not_shown-other place t i (before i (omega arith) k))
      (λ (k : first ≤ i). not_shown-early place t i (early i k lt))
      (cases_lt i first))
      (λ i l u. shown-here place t i (here i (omega arith) (omega arith)) (here2 i (omega arith) u) (late i l u))
      (λ i l u. not_shown-later place t i (after i l u))

  pub IsRising-instants : (n start : ℕ) → IsInOrder (elements_in n instants numbers columns) → IsRising instants start n
  IsRising-instants n start h i j a b c =
      let f : ℕ → Element = element_at instants numbers columns in
      let l = length-map-range_with_len f 0 n in
      let d : Element = f 0 in
      let e = ap (λ (x : Element). x.instant) (get_or-map-range_with_len f 0 n i i d (omega arith) (omega arith)) in
      let g = ap (λ (x : Element). x.instant) (get_or-map-range_with_len f 0 n j j d c (omega arith)) in
      let k = h.instants i j d b (omega arith) in
      omega arith

  pub IsRising-numbers : (n first end t : ℕ) → end ≤ n → IsInOrder (elements_in n instants numbers columns) → ((i : ℕ) → first ≤ i → i < n → t ≤ get_or instants i 0) → ((i : ℕ) → first ≤ i → i < end → get_or instants i 0 < t + 1) → IsRising numbers first end
  IsRising-numbers n first end t u h here here2 i j a b c =
      let f : ℕ → Element = element_at instants numbers columns in
      let l = length-map-range_with_len f 0 n in
      let d : Element = f 0 in
      let x = get_or-map-range_with_len f 0 n i i d (omega arith) (omega arith) in
      let y = get_or-map-range_with_len f 0 n j j d (omega arith) (omega arith) in
      let e = ap (λ (x : Element). x.instant) x in
      let g = ap (λ (x : Element). x.instant) y in
      let e2 = ap (λ (x : Element). x.arrival) x in
      let g2 = ap (λ (x : Element). x.arrival) y in
      let one = here i a (omega arith) in
      let two = here2 i a (omega arith) in
      let three = here j (omega arith) (omega arith) in
      let four = here2 j (omega arith) c in
      let k = h.arrivals i j d b (omega arith) (omega arith) in
      omega arith

  -- the elements that wait from an instant on, counted by their numbers
  length-filter-numbers : (place start a n : ℕ) → a + n ≤ length numbers → ((i : ℕ) → a ≤ i → i < a + n → start ≤ get_or instants i 0) → length (filter (is_waiting place start) (map (element_at instants numbers columns) (range_with_len a n))) ≡ length (filter (λ m. nat_le place m) (take n (drop a numbers)))
  length-filter-numbers place start a zero u h = refl
  length-filter-numbers place start a (suc n) u h =
      let f : ℕ → Element = element_at instants numbers columns in
      let e = length-filter-numbers place start (a + 1) n (omega arith) (λ i l k. h i (omega arith) (omega arith)) in
      let here : start ≤ get_or instants a 0 = h a (omega arith) (omega arith) in
      let d : take (suc n) (drop a numbers) ≡ get_or numbers a 0 ∷ take n (drop (a + 1) numbers) = ap (take (suc n)) (drop_more numbers a 0 (omega arith)) in
      let q : ℕ → Bool = λ m. nat_le place m in
      ⊎_elim
      (λ (lt : get_or numbers a 0 < place).
      let w : is_waiting place start (f a) ≡ false = grind (arith, nat_tests) in
      let v : q (get_or numbers a 0) ≡ false = grind (arith, nat_tests) in
      ap length (filter-no (is_waiting place start) (f a) (map f (range_with_len (a + 1) n)) w) ∙ e ∙ sym (ap (λ ms. length (filter q ms)) d ∙ ap length (filter-no q (get_or numbers a 0) (take n (drop (a + 1) numbers)) v)))
      (λ (le : place ≤ get_or numbers a 0).
      let w : is_waiting place start (f a) ≡ true = grind (arith, nat_tests) in
      let v : q (get_or numbers a 0) ≡ true = grind (arith, nat_tests) in
      ap length (filter-yes (is_waiting place start) (f a) (map f (range_with_len (a + 1) n)) w) ∙ ap suc e ∙ sym (ap (λ ms. length (filter q ms)) d ∙ ap length (filter-yes q (get_or numbers a 0) (take n (drop (a + 1) numbers)) v)))
      (cases_lt (get_or numbers a 0) place)

  not_waiting : (place start i : ℕ) → (get_or instants i 0 < start) → is_waiting place start (element_at instants numbers columns i) ≡ false
  not_waiting place start i lt = grind (arith, nat_tests)

  pub length-waiting : (n first place start : ℕ) → first ≤ n → n ≤ length numbers → ((i : ℕ) → 0 ≤ i → i < first → get_or instants i 0 < start) → ((i : ℕ) → first ≤ i → i < n → start ≤ get_or instants i 0) → length (filter (is_waiting place start) (elements_in n instants numbers columns)) ≡ length (filter (λ m. nat_le place m) (slice_range numbers first n))
  length-waiting n first place start l u before after =
      let f : ℕ → Element = element_at instants numbers columns in
      let p : Element → Bool = is_waiting place start in
      let e : 0 + n - first ≡ n - first = omega arith in
      ap length
      (ap (filter p) (map-range-split f 0 first n (omega arith) (omega arith))
      ∙ filter-append p (map f (range_with_len 0 (first - 0))) (map f (range_with_len first (0 + n - first)))
      ∙ ap (λ xs. xs ++ filter p (map f (range_with_len first (0 + n - first)))) (filter-range_none p f 0 (first - 0) (λ i a b. not_waiting place start i (before i a (omega arith)))))
      ∙ ap (λ k. length (filter p (map f (range_with_len first k)))) e
      ∙ length-filter-numbers place start first (n - first) (omega arith) (λ i a b. after i a (omega arith))
