-- Instants of which a cursor's log has no rows.
use Rattle.std.proofs.Common.{◌≡◌, ℤ, ℕ, suc, ◌+◌, ◌-◌, ◌<◌, ◌≤◌, false, Option, List, [], ◌∷◌, ◌++◌, drop, get_or, refl, ap, sym, ◌∙◌, arith, ⊎_elim}
use Prim.Native.Nat.{zero}
use Rattle.std.proofs.lemmas.Bool.{cases_lt}
use Rattle.std.proofs.lemmas.Bool.Decides.{nat_tests}
use Rattle.values.specs.Window.{Element}
use Rattle.op_queue.specs.Cursors.{HasLeft, IsClear, ticks}
use Rattle.op_queue.specs.Entries.{TickAt}
use Rattle.op_queue.specs.Logs.{Closed, is_shown, row_entries, shown, span_entries, log_entries}
use Rattle.op_queue.specs.Tables.{element_at, elements_in}
use Rattle.op_queue.specs.declared.cursor.Cursor.{Cursor}
use Rattle.op_queue.proofs.CursorLemmas.{entries-fresh, entries-open, span-first}
use Rattle.op_queue.proofs.PlaceLemmas.{filter-range_none}

module _ (instants numbers : List ℕ) (columns : List (List (Option ℤ))) where
  before_not : (place t i : ℕ) → get_or instants i 0 < t → is_shown place t (element_at instants numbers columns i) ≡ false
  before_not place t i lt = grind (arith, nat_tests)

  behind_not : (place t i : ℕ) → t < get_or instants i 0 → is_shown place t (element_at instants numbers columns i) ≡ false
  behind_not place t i lt = grind (arith, nat_tests)

  pub none_shown : (n first at r : ℕ) → ((i : ℕ) → i < first → get_or instants i 0 < at) → ((i : ℕ) → first ≤ i → i < n → r ≤ get_or instants i 0) → (place t : ℕ) → at ≤ t → t < r → shown place t (elements_in n instants numbers columns) ≡ []
  none_shown n first at r low high place t from below =
      filter-range_none (is_shown place t) (element_at instants numbers columns) 0 n
      (λ i a b.
      ⊎_elim
      (λ (lt : i < first). let k = low i lt in before_not place t i (omega arith))
      (λ (ge : first ≤ i). let k = high i ge (omega arith) in behind_not place t i (omega arith))
      (cases_lt i first))

drop_none : {X : Type 0} (k : ℕ) (xs : List X) → xs ≡ [] → drop k xs ≡ []
drop_none zero xs h = h
drop_none (suc k) xs h = ap (drop (suc k)) h

-- a span that begins with instants without rows begins with their ticks
span-ticks : (p n d until : ℕ) (es : List Element) → n + d ≤ until → ((t : ℕ) → n ≤ t → t < n + d → shown p t es ≡ []) → span_entries p es n until ≡ ticks n d ++ span_entries p es (n + d) until
span-ticks p n zero until es few none = let e : n + 0 ≡ n = omega arith in ap (λ k. span_entries p es k until) (sym e)
span-ticks p n (suc d) until es few none =
    let e : (n + 1) + d ≡ n + suc d = omega arith in
    let rest = span-ticks p (n + 1) d until es (omega arith) (λ t a b. none t (omega arith) (omega arith)) in
    span-first p es n until (omega arith)
    ∙ ap (λ xs. row_entries n xs ++ TickAt n ∷ span_entries p es (n + 1) until) (none n (omega arith) (omega arith))
    ∙ ap (λ xs. TickAt n ∷ xs) (rest ∙ ap (λ k. ticks (n + 1) d ++ span_entries p es k until) e)

-- a cursor that goes there
pub has_left : (b : ℕ) (log : Closed) (c : Cursor) → IsClear b log c → HasLeft b log c (record { place = c.place; at = b; passed = 0; hint = c.hint })
has_left b log c h =
    let d : Cursor = record { place = c.place; at = b; passed = 0; hint = c.hint } in
    let lt : c.at < log.until = omega (arith, h.before, h.closed) in
    let gone = drop_none c.passed (shown c.place c.at log.elements) (h.none.none c.place c.at (omega arith) h.before) in
    let many : b - c.at ≡ suc (b - (c.at + 1)) = omega (arith, h.before) in
    let to : (c.at + 1) + (b - (c.at + 1)) ≡ b = omega (arith, h.before) in
    let rest = span-ticks c.place (c.at + 1) (b - (c.at + 1)) log.until log.elements (omega (arith, h.before, h.closed)) (λ t low high. h.none.none c.place t (omega (arith, low)) (omega (arith, high, h.before))) in
    record {
      entries =
          entries-open c log lt
          ∙ ap (λ xs. row_entries c.at xs ++ TickAt c.at ∷ log_entries c.place (c.at + 1) log) gone
          ∙ ap (λ xs. TickAt c.at ∷ xs) (rest ∙ ap (λ k. ticks (c.at + 1) (b - (c.at + 1)) ++ span_entries c.place log.elements k log.until) to)
          ∙ ap (λ k. ticks c.at k ++ log_entries c.place b log) (sym many)
          ∙ ap (λ xs. ticks c.at (b - c.at) ++ xs) (sym (entries-fresh d log refl));
      within = omega arith;
      goes_on = record { place = refl; next = omega (arith, h.before, h.closed) };
    }
