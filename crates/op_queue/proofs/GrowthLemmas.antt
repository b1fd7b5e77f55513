-- What the queues over a log gain when it closes further instants.
use Rattle.std.proofs.Common.{◌≡◌, ℕ, suc, ◌+◌, ◌-◌, ◌<◌, ◌≤◌, List, [], ◌∷◌, ◌++◌, length, max, drop, get_or, refl, ap, sym, ◌∙◌, arith, append_assoc, append-nil, length-append, ⊎_elim}
use Prim.Native.Nat.{zero}
use Rattle.std.specs.List.{All}
use Rattle.std.proofs.lemmas.Bool.{cases_lt}
use Rattle.std.proofs.lemmas.List.{get_or_append_left, get_or-append_right}
use Rattle.std.proofs.lemmas.List.Elements.{All-cons, All-nil, All-weaker, filter-append}
use Rattle.values.specs.Window.{Element}
use Rattle.op_queue.specs.Cursors.{GainsClosed, IsWithin}
use Rattle.op_queue.specs.Entries.{TickAt}
use Rattle.op_queue.specs.Logs.{Closed, cursor_entries, is_shown, log_entries, row_entries, shown, span_entries}
use Rattle.op_queue.specs.Closings.{IsClosing, IsInOrder}
use Rattle.op_queue.specs.declared.cursor.Cursor.{Cursor}
use Rattle.op_queue.proofs.CursorLemmas.{entries-fresh, entries-open, entries-shut, span-none}
use Rattle.op_queue.proofs.ForwardLemmas.{seam}
use Rattle.op_queue.proofs.SpanLemmas.{filter-none, filter-past, span_entries-close}

pub IsInOrder-append : (until : ℕ) (xs ys : List Element) → IsInOrder xs → All (λ e. e.instant < until) xs → IsInOrder ys → All (λ e. until ≤ e.instant) ys → IsInOrder (xs ++ ys)
IsInOrder-append until xs ys h below k above = record {
  instants = λ i j d le lt.
      seam (λ e f. e.instant ≤ f.instant) xs ys i j d le lt
      (λ b. h.instants i j d le b)
      (λ m a b. let u = below i d a in let v = above m d b in omega arith)
      (λ m n a b. k.instants m n d a b);
  arrivals = λ i j d le lt.
      seam (λ e f. e.instant ≡ f.instant → e.arrival ≤ f.arrival) xs ys i j d le lt
      (λ b. h.arrivals i j d le b)
      (λ m a b e. let u = below i d a in let v = above m d b in absurd (omega arith))
      (λ m n a b. k.arrivals m n d a b);
}

pub All-below : (until until' : ℕ) (xs ys : List Element) → until ≤ until' → All (λ e. e.instant < until) xs → All (λ e. e.instant < until') ys → All (λ e. e.instant < until') (xs ++ ys)
All-below until until' xs ys le h k i d lt =
    let n = length-append xs ys in
    ⊎_elim
    (λ (a : i < length xs). let u = h i d a in let e = ap (λ (x : Element). x.instant) (get_or_append_left xs ys d i a) in omega arith)
    (λ (a : length xs ≤ i). let u = k (i - length xs) d (omega arith) in let e = ap (λ (x : Element). x.instant) (get_or-append_right xs ys (length xs) i d refl a) in omega arith)
    (cases_lt i (length xs))

module _ (old new : Closed) (es : List Element) (until : ℕ) (closing : IsClosing old es until) (below : All (λ e. e.instant < old.until) old.elements) (grown : new.elements ≡ old.elements ++ es) (reached : new.until ≡ until) where
  span-grown : (p at : ℕ) → span_entries p new.elements at new.until ≡ span_entries p old.elements at old.until ++ span_entries p es (max at old.until) until
  span-grown p at =
      ap (λ xs. span_entries p xs at new.until) grown
      ∙ ap (span_entries p (old.elements ++ es) at) reached
      ∙ span_entries-close p at old.until until old.elements es closing.later below closing.opened

  shown-grown : (p t : ℕ) → t < old.until → shown p t new.elements ≡ shown p t old.elements
  shown-grown p t lt =
      ap (shown p t) grown
      ∙ filter-append (is_shown p t) old.elements es
      ∙ ap (λ xs. shown p t old.elements ++ xs) (filter-none p t es (All-weaker (λ e. old.until ≤ e.instant) (λ e. t < e.instant) (λ e k. omega arith) es closing.opened))
      ∙ append-nil (shown p t old.elements)

  -- the cursor's instant is closed
  gains-open : (c : Cursor) → c.at < old.until → cursor_entries c new ≡ cursor_entries c old ++ span_entries c.place es (max c.at old.until) until
  gains-open c lt =
      let rows = row_entries c.at (drop c.passed (shown c.place c.at old.elements)) in
      let m : max (c.at + 1) old.until ≡ max c.at old.until = omega arith in
      let gained = span_entries c.place es (max c.at old.until) until in
      let later = log_entries c.place (c.at + 1) old in
      let tail : log_entries c.place (c.at + 1) new ≡ later ++ gained = span-grown c.place (c.at + 1) ∙ ap (λ k. later ++ span_entries c.place es k until) m in
      entries-open c new (omega (arith, closing.later))
      ∙ ap (λ xs. row_entries c.at (drop c.passed xs) ++ TickAt c.at ∷ log_entries c.place (c.at + 1) new) (shown-grown c.place c.at lt)
      ∙ ap (λ xs. rows ++ TickAt c.at ∷ xs) tail
      ∙ sym (append_assoc rows (TickAt c.at ∷ later) gained)
      ∙ ap (λ xs. xs ++ gained) (sym (entries-open c old lt))

  -- it is open, and so the cursor has passed none of its rows
  none_passed : (c : Cursor) → IsWithin c old → old.until ≤ c.at → c.passed ≡ 0
  none_passed c h ge =
      omega (arith, h, ap length (filter-past c.place c.at old.elements (All-weaker (λ e. e.instant < old.until) (λ e. e.instant < c.at) (λ e k. omega arith) old.elements below)))

  gains-shut : (c : Cursor) → IsWithin c old → old.until ≤ c.at → cursor_entries c new ≡ cursor_entries c old ++ span_entries c.place es (max c.at old.until) until
  gains-shut c h ge =
      let gained = span_entries c.place es (max c.at old.until) until in
      entries-fresh c new (none_passed c h ge)
      ∙ span-grown c.place c.at
      ∙ ap (λ xs. xs ++ gained) (span-none c.place old.elements c.at old.until ge)
      ∙ ap (λ xs. xs ++ gained) (sym (entries-shut c old ge))

  pub gains-closed : GainsClosed old es until new
  gains-closed = record {
    gains = λ c h. ⊎_elim (λ (lt : c.at < old.until). gains-open c lt) (λ (ge : old.until ≤ c.at). gains-shut c h ge) (cases_lt c.at old.until);
    within = λ c h.
        let e = ap length (ap (shown c.place c.at) grown ∙ filter-append (is_shown c.place c.at) old.elements es) in
        omega (arith, e, h, length-append (shown c.place c.at old.elements) (shown c.place c.at es));
  }

pub IsClosing-one : (log : Closed) (e : Element) (until : ℕ) → log.until ≤ e.instant → e.instant < until → length e.row ≡ log.width → IsClosing log (e ∷ []) until
IsClosing-one log e until from to wide = record {
  later = omega arith;
  wide = All-cons (λ e. length e.row ≡ log.width) e [] wide (All-nil (λ e. length e.row ≡ log.width));
  ordered = record { instants = λ i j d le lt. one (λ x y. x.instant ≤ y.instant) i j d le lt (omega arith); arrivals = λ i j d le lt same. one (λ x y. x.arrival ≤ y.arrival) i j d le lt (omega arith) };
  opened = All-cons (λ e. log.until ≤ e.instant) e [] from (All-nil (λ e. log.until ≤ e.instant));
  closed = All-cons (λ e. e.instant < until) e [] to (All-nil (λ e. e.instant < until));
}
  where
    one : (P : Element → Element → Type 0) (i j : ℕ) (d : Element) → i ≤ j → j < 1 → P e e → P (get_or (e ∷ []) i d) (get_or (e ∷ []) j d)
    one P zero zero d le lt h = h
    one P zero (suc j) d le lt h = absurd (omega arith)
    one P (suc i) zero d le lt h = absurd (omega arith)
    one P (suc i) (suc j) d le lt h = absurd (omega arith)
