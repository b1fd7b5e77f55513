-- Copies of rows: late ones put in one instant after another, and closed ones at whose places a mark is true.
use Rattle.std.proofs.Common.{◌≡◌, ◌<◌, ◌+◌, ℕ, zero, suc, Bool, true, false, cond, List, [], ◌∷◌, ◌++◌, length, map, take, get_or, refl, sym, ap, ap₂, subst, ◌∙◌, arith, append-nil, append_assoc, Less, Greater}
use Rattle.std.specs.BTreeMap.{insert_entry}
use Rattle.std.specs.Map.{keys_of}
use Rattle.std.specs.List.{AllByRecursion, All}
use Rattle.std.specs.List.Sorted.{IsStrictlySortedBy}
use Rattle.std.specs.Cmp.{nat_cmp_is}
use Rattle.std.specs.Ordering.{nat_cmp}
use Rattle.std.proofs.lemmas.List.{get_or-map}
use Rattle.std.proofs.lemmas.Map.Keys.{sorted_head}
use Rattle.column.specs.Bits.{chosen}
use Rattle.values.specs.Window.{Element}
use Rattle.op_queue.specs.Logs.{Closed}
use Rattle.op_queue.specs.Closings.{IsClosing, IsInOrder}
use Rattle.op_queue.proofs.MarkLemmas.{all-kept, order-kept, some_item}
use Rattle.stream_store.specs.LateRows.{RowsAt}
use Rattle.stream_store.specs.Open.{Entry}
use Rattle.stream_store.proofs.KeyLemmas.{less_means, sorted_rest}

-- ---- late rows
in_middle : (P : ℕ → Type 0) (es rest : List Entry) (k : ℕ) (o : RowsAt) → AllByRecursion P (keys_of (es ++ (k, o) ∷ rest)) → P k
in_middle P [] rest k o h = h.0
in_middle P (e ∷ es) rest k o h = in_middle P es rest k o h.1

-- an entry past all others goes behind them
insert_last : (es rest : List Entry) (k : ℕ) (o : RowsAt) → IsStrictlySortedBy nat_cmp (keys_of (es ++ (k, o) ∷ rest)) → insert_entry nat_cmp es k o ≡ es ++ (k, o) ∷ []
insert_last [] rest k o h = refl
insert_last (e ∷ es) rest k o h =
    let lt : e.0 < k = less_means e.0 k (in_middle (λ j. nat_cmp e.0 j ≡ Less) es rest k o (sorted_head nat_cmp e.0 (keys_of (es ++ (k, o) ∷ rest)) h)) in
    let greater : nat_cmp k e.0 ≡ Greater = sym (nat_cmp_is k e.0 Greater lt) in
    rw greater (ap (λ xs. e ∷ xs) (insert_last es rest k o (sorted_rest e (es ++ (k, o) ∷ rest) h)))

-- one more instant is copied
pub copied_more : (all done new rest left : List Entry) (k : ℕ) (o : RowsAt) → IsStrictlySortedBy nat_cmp (keys_of all) → left ≡ (k, o) ∷ rest → done ++ left ≡ all → new ≡ insert_entry nat_cmp done k o → new ++ rest ≡ all
copied_more all done new rest left k o sorted steps sofar put =
    let whole : done ++ (k, o) ∷ rest ≡ all = ap (λ (xs : List Entry). done ++ xs) (sym steps) ∙ sofar in
    let behind = insert_last done rest k o (subst (λ (xs : List Entry). IsStrictlySortedBy nat_cmp (keys_of xs)) (sym whole) sorted) in
    ap (λ (xs : List Entry). xs ++ rest) (put ∙ behind) ∙ append_assoc done ((k, o) ∷ []) rest ∙ whole

-- ---- closed rows
-- what a log's lists say of the row at a place
pub element_shown : (es : List Element) (place : ℕ) (e : Element) (instants numbers : List ℕ) → place < length es → instants ≡ map (λ g. g.instant) es → numbers ≡ map (λ g. g.arrival) es
    → record { arrival = get_or numbers place 0; instant = get_or instants place 0; row = (get_or es place e).row } ≡ get_or es place e
element_shown es place e instants numbers there is counts =
    let g : Element = get_or es place e in
    let time : get_or instants place 0 ≡ g.instant = ap (λ (ts : List ℕ). get_or ts place 0) is ∙ get_or-map (λ (g : Element). g.instant) es place e 0 there in
    let arrival : get_or numbers place 0 ≡ g.arrival = ap (λ (ns : List ℕ). get_or ns place 0) counts ∙ get_or-map (λ (g : Element). g.arrival) es place e 0 there in
    ap₂ (λ (a i : ℕ). record { arrival = a; instant = i; row = g.row }) arrival time

pub wide_chosen : (log new : Closed) (marks : List Bool) (rows : List Element) → rows ≡ chosen marks log.elements → new.width ≡ log.width → All (λ e. length e.row ≡ log.width) log.elements → All (λ e. length e.row ≡ new.width) rows
wide_chosen log new marks rows is width wide =
    subst (λ (es : List Element). All (λ (e : Element). length e.row ≡ new.width) es) (sym is)
    (subst (λ w. All (λ (e : Element). length e.row ≡ w) (chosen marks log.elements)) (sym width) (all-kept (λ (e : Element). length e.row ≡ log.width) marks log.elements wide))

-- they may go into an empty log
pub closing_chosen : (log new : Closed) (marks : List Bool) (rows : List Element) (until : ℕ) → length marks ≡ length log.elements → rows ≡ chosen marks log.elements → new.width ≡ log.width → new.until ≡ 0 → until ≡ log.until
    → All (λ e. length e.row ≡ log.width) log.elements → IsInOrder log.elements → All (λ e. e.instant < log.until) log.elements → IsClosing new rows until
closing_chosen log new marks rows until long is width none same wide order done =
    let kept : List Element = chosen marks log.elements in
    record {
      later = omega (arith, none);
      wide = wide_chosen log new marks rows is width wide;
      ordered = subst (λ (es : List Element). IsInOrder es) (sym is) (order-kept marks log.elements long order);
      opened = λ i d lt. omega (arith, none);
      closed = subst (λ (es : List Element). All (λ (e : Element). e.instant < until) es) (sym is)
          (subst (λ u. All (λ (e : Element). e.instant < u) kept) (sym same) (all-kept (λ (e : Element). e.instant < log.until) marks log.elements done));
    }

-- one more mark is looked at
chosen_next : {X : Type 0} (bs : List Bool) (xs : List X) (i : ℕ) (d : X) → i < length bs → i < length xs → chosen (take (suc i) bs) xs ≡ chosen (take i bs) xs ++ cond (get_or bs i false) (get_or xs i d ∷ []) []
chosen_next [] xs i d lt le = absurd (omega (arith, lt))
chosen_next (b ∷ bs) [] i d lt le = absurd (omega (arith, le))
chosen_next (true ∷ bs) (x ∷ xs) zero d lt le = refl
chosen_next (false ∷ bs) (x ∷ xs) zero d lt le = refl
chosen_next (true ∷ bs) (x ∷ xs) (suc i) d lt le = ap (λ ys. x ∷ ys) (chosen_next bs xs i d (omega (arith, lt)) (omega (arith, le)))
chosen_next (false ∷ bs) (x ∷ xs) (suc i) d lt le = chosen_next bs xs i d (omega (arith, lt)) (omega (arith, le))

chosen_more : {X : Type 0} (bs : List Bool) (xs : List X) (i : ℕ) (d : X) → i < length bs → i < length xs → chosen (take (i + 1) bs) xs ≡ chosen (take i bs) xs ++ cond (get_or bs i false) (get_or xs i d ∷ []) []
chosen_more bs xs i d lt le = let next : i + 1 ≡ suc i = omega arith in ap (λ n. chosen (take n bs) xs) next ∙ chosen_next bs xs i d lt le

-- its row is kept, or not
module _ (bs : List Bool) (xs : List Element) (i : ℕ) (old : List Element) where
  pub chosen_kept : (new : List Element) → i < length bs → length bs ≡ length xs → get_or bs i false ≡ true → ((x : Element) → new ≡ old ++ get_or xs i x ∷ []) → old ≡ chosen (take i bs) xs → new ≡ chosen (take (i + 1) bs) xs
  chosen_kept new lt same marked pushed sofar =
      let within : i < length xs = omega (arith, lt, same) in
      let x : Element = some_item xs i within in
      pushed x
      ∙ ap (λ (ys : List Element). ys ++ get_or xs i x ∷ []) sofar
      ∙ ap (λ b. chosen (take i bs) xs ++ cond b (get_or xs i x ∷ []) []) (sym marked)
      ∙ sym (chosen_more bs xs i x lt within)

  pub chosen_gone : i < length bs → length bs ≡ length xs → get_or bs i false ≡ false → old ≡ chosen (take i bs) xs → old ≡ chosen (take (i + 1) bs) xs
  chosen_gone lt same unmarked sofar =
      let within : i < length xs = omega (arith, lt, same) in
      let x : Element = some_item xs i within in
      sofar
      ∙ sym (append-nil (chosen (take i bs) xs))
      ∙ ap (λ b. chosen (take i bs) xs ++ cond b (get_or xs i x ∷ []) []) (sym unmarked)
      ∙ sym (chosen_more bs xs i x lt within)
