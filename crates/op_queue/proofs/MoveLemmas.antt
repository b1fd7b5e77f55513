-- A batch that goes from the front of one queue to the back of another.
use Rattle.std.proofs.Common.{◌≡◌, ℕ, ◌-◌, ◌<◌, ◌≤◌, Bool, true, false, List, [], ◌∷◌, ◌++◌, length, map, take, drop, get_or, refl, ap, sym, subst, ◌∙◌, arith}
use Rattle.std.proofs.lemmas.List.{length-map}
use Rattle.values.specs.Row.{Row}
use Rattle.column.specs.Bits.{chosen}
use Rattle.column.specs.Rows.{IsBatch}
use Rattle.op_queue.specs.Entries.{Entry, RowAt}
use Rattle.op_queue.specs.Items.{entries_of}
use Rattle.op_queue.specs.Pieces.{IsQueue, IsTakenSized, IsTakenWhole, piece_entries, queue_entries, waiting_in}
use Rattle.op_queue.specs.Queues.{HasDropped, HasGained, HaveMoved, IsFrontBatch, Waiting, chosen_first, in_columns}
use Rattle.op_queue.specs.declared.item.Item.TheVariants as item
use Rattle.op_queue.specs.declared.queue.Piece.{Piece}
use Rattle.op_queue.specs.declared.queue.Piece.TheVariants.{Rows}
use Rattle.op_queue.proofs.BeginLemmas.{queue_begins-push}
use Rattle.op_queue.proofs.GainLemmas.{gained-item, gained-none, gained-same}
use Rattle.op_queue.proofs.TakeLemmas.{IsLeft, taken_whole}

chosen-map : {A B : Type 0} (f : A → B) (mask : List Bool) (xs : List A) → chosen mask (map f xs) ≡ map f (chosen mask xs)
chosen-map f [] xs = refl
chosen-map f (m ∷ mask) [] = refl
chosen-map f (true ∷ mask) (x ∷ xs) = ap (λ ys. f x ∷ ys) (chosen-map f mask xs)
chosen-map f (false ∷ mask) (x ∷ xs) = chosen-map f mask xs

-- the batch that was first has left
pub sized_left : {taken len : ℕ} (n : ℕ) (ps qs : List Piece) (t : ℕ) (b : List (Bool × Row)) → taken ≡ 0 → IsQueue taken len ps → IsTakenSized n ps qs t b → IsBatch b → IsLeft taken len n ps qs (item.Rows t b)
sized_left n ps qs t b none h w batch = taken_whole n ps qs (item.Rows t b) none h (w.first, omega (arith, w.sized)) (omega (arith, w.sized, batch.some))

size_of : {n : ℕ} (t : ℕ) (b : List (Bool × Row)) → length b ≡ n → length (entries_of (item.Rows t b)) ≡ n
size_of t b sized = length-map b (RowAt t) ∙ sized

pub sized_queue : {taken len : ℕ} (n : ℕ) (ps qs : List Piece) (t : ℕ) (b : List (Bool × Row)) → taken ≡ 0 → IsQueue taken len ps → IsTakenSized n ps qs t b → IsBatch b → IsQueue taken (len - length b) qs
sized_queue {taken} {len} n ps qs t b none h w batch =
    let P : ℕ → Type 0 = λ k. IsQueue taken (len - k) qs in
    subst P (length-map b (RowAt t)) (sized_left n ps qs t b none h w batch).queue

pub sized_dropped : {taken len : ℕ} (n m : ℕ) (ps qs : List Piece) (t : ℕ) (b : List (Bool × Row)) (w : Waiting) → waiting_in taken ps ≡ w → taken ≡ 0 → IsQueue taken len ps → IsTakenSized n ps qs t b → IsBatch b → n ≡ m → HasDropped m w (waiting_in taken qs)
sized_dropped {taken} n m ps qs t b w seen none h s batch same =
    let P : Waiting → Type 0 = λ v. HasDropped m v (waiting_in taken qs) in
    let Q : ℕ → Type 0 = λ k. HasDropped k (waiting_in taken ps) (waiting_in taken qs) in
    let l = sized_left n ps qs t b none h s batch in
    subst P seen (subst Q (size_of t b s.sized ∙ same) (record { entries = l.entries; begins = l.begins; pieces = l.fewer; counted = l.counted }))

-- the batch that was first, of at most so many rows
few_left : {taken len : ℕ} (n : ℕ) (ps qs : List Piece) (t : ℕ) (b : List (Bool × Row)) → taken ≡ 0 → IsQueue taken len ps → IsTakenWhole n ps qs (item.Rows t b) → 0 < n → IsLeft taken len n ps qs (item.Rows t b)
few_left n ps qs t b none h w some = taken_whole n ps qs (item.Rows t b) none h w some

pub few_queue : {taken len : ℕ} (n : ℕ) (ps qs : List Piece) (t : ℕ) (b : List (Bool × Row)) → taken ≡ 0 → IsQueue taken len ps → IsTakenWhole n ps qs (item.Rows t b) → 0 < n → IsQueue taken (len - length b) qs
few_queue {taken} {len} n ps qs t b none h w some =
    let P : ℕ → Type 0 = λ k. IsQueue taken (len - k) qs in
    subst P (length-map b (RowAt t)) (few_left n ps qs t b none h w some).queue

pub few_first : {taken len : ℕ} (n : ℕ) (ps qs : List Piece) (t : ℕ) (b : List (Bool × Row)) (w : Waiting) → waiting_in taken ps ≡ w → taken ≡ 0 → IsQueue taken len ps → IsTakenWhole n ps qs (item.Rows t b) → 0 < n → IsFrontBatch n w t b
few_first n ps qs t b w seen none h taken some =
    let l = few_left n ps qs t b none h taken some in
    let P : Waiting → Type 0 = λ v. IsFrontBatch n v t b in
    subst P seen (record { part = l.part; value = l.value })

few_dropped : {taken len : ℕ} (n : ℕ) (ps qs : List Piece) (t : ℕ) (b : List (Bool × Row)) (w : Waiting) → waiting_in taken ps ≡ w → taken ≡ 0 → IsQueue taken len ps → IsTakenWhole n ps qs (item.Rows t b) → 0 < n → HasDropped (length b) w (waiting_in taken qs)
few_dropped {taken} n ps qs t b w seen none h whole some =
    let l = few_left n ps qs t b none h whole some in
    let P : Waiting → Type 0 = λ v. HasDropped (length b) v (waiting_in taken qs) in
    let Q : ℕ → Type 0 = λ k. HasDropped k (waiting_in taken ps) (waiting_in taken qs) in
    subst P seen (subst Q (length-map b (RowAt t)) (record { entries = l.entries; begins = l.begins; pieces = l.fewer; counted = l.counted }))

-- the rows that the mask chooses of it
pub sized_chosen : {taken len : ℕ} (n : ℕ) (mask : List Bool) (ps qs : List Piece) (t : ℕ) (b : List (Bool × Row)) (w : Waiting) → waiting_in taken ps ≡ w → taken ≡ 0 → IsQueue taken len ps → IsTakenSized n ps qs t b → IsBatch b → n ≡ length mask
    → chosen_first mask w ≡ map (RowAt t) (chosen mask b)
sized_chosen {taken} n mask ps qs t b w seen none h s batch same =
    let l = sized_left n ps qs t b none h s batch in
    let first : take (length mask) (queue_entries taken ps) ≡ map (RowAt t) b = ap (λ k. take k (queue_entries taken ps)) (sym (size_of t b s.sized ∙ same)) ∙ sym l.part.first in
    ap (chosen_first mask) (sym seen) ∙ ap (chosen mask) first ∙ chosen-map (RowAt t) mask b

-- what the other queue has gained
pub moved_some : {taken len : ℕ} {es : List (Entry Row)} (ps : List Piece) (t : ℕ) (rows : List (Bool × Row)) (w : Waiting) → waiting_in taken ps ≡ w → IsQueue taken len ps → es ≡ map (RowAt t) rows
    → queue_entries taken (ps ++ Rows t rows ∷ []) ≡ queue_entries taken ps ++ piece_entries (Rows t rows) → HasGained es w (waiting_in taken (ps ++ Rows t rows ∷ []))
moved_some {taken} {len} {es} ps t rows w seen h chose entries =
    let new = waiting_in taken (ps ++ Rows t rows ∷ []) in
    let P : Waiting → Type 0 = λ v. HasGained es v new in
    subst P seen (gained-same (sym chose) (gained-item (item.Rows t rows) (waiting_in taken ps) new entries (queue_begins-push {taken = taken} {len = len} ps (Rows t rows) h)))

-- the batch went with only some columns
pub moved_columns : {taken len taken2 len2 : ℕ} (n : ℕ) (places : List ℕ) (ps qs ps2 : List Piece) (t : ℕ) (b rows : List (Bool × Row)) (w w2 : Waiting) → waiting_in taken ps ≡ w → taken ≡ 0 → IsQueue taken len ps → IsTakenWhole n ps qs (item.Rows t b) → 0 < n
    → waiting_in taken2 ps2 ≡ w2 → IsQueue taken2 len2 ps2 → rows ≡ in_columns places b → queue_entries taken2 (ps2 ++ Rows t rows ∷ []) ≡ queue_entries taken2 ps2 ++ piece_entries (Rows t rows)
    → HaveMoved n places w w2 (waiting_in taken qs) (waiting_in taken2 (ps2 ++ Rows t rows ∷ []))
moved_columns n places ps qs ps2 t b rows w w2 seen none h whole some seen2 h2 are entries = record {
  instant = t;
  rows = b;
  first = few_first n ps qs t b w seen none h whole some;
  dropped = few_dropped n ps qs t b w seen none h whole some;
  gained = moved_some ps2 t rows w2 seen2 h2 (ap (map (RowAt t)) (sym are)) entries;
}

pub moved_none : {es : List (Entry Row)} (w : Waiting) → es ≡ [] → HasGained es w w
moved_none w none = gained-same (sym none) (gained-none w)

-- the batch that is first
first_piece : (ps : List Piece) (p q : Piece) → 0 < length ps → p ≡ get_or ps 0 p → p ≡ q → ps ≡ q ∷ drop 1 ps
first_piece [] p q some is e = absurd (omega arith)
first_piece (r ∷ ps) p q some is e = ap (λ x. x ∷ ps) (sym is ∙ e)

pub front_seen : {taken len : ℕ} (count : ℕ) (ps : List Piece) (p : Piece) (t : ℕ) (b : List (Bool × Row)) (w : Waiting) → waiting_in taken ps ≡ w → taken ≡ 0 → IsQueue taken len ps → 0 < length ps → p ≡ get_or ps 0 p → p ≡ Rows t b → length b ≤ count → 0 < count
    → IsFrontBatch count w t b
front_seen count ps p t b w seen none h waits is e few some =
    let l = taken_whole count ps (drop 1 ps) (item.Rows t b) none h (first_piece ps p (Rows t b) waits is e, few) some in
    let P : Waiting → Type 0 = λ v. IsFrontBatch count v t b in
    subst P seen (record { part = l.part; value = l.value })
