-- The front of a queue that leaves.
use Rattle.std.proofs.Common.{◌≡◌, ℕ, ◌+◌, ◌-◌, ◌<◌, ◌≤◌, Bool, Some, None, List, [], ◌∷◌, ◌++◌, length, map, take, drop, get_or, min, refl, ap, sym, subst, ◌∙◌, arith, length-take, length-append, zero, suc}
use Rattle.std.specs.List.{flat_map}
use Rattle.std.proofs.lemmas.List.{take_all, length-map}
use Rattle.values.specs.Row.{Row}
use Rattle.op_queue.specs.declared.item.Item.{Item}
use Rattle.op_queue.specs.declared.item.Item.TheVariants as item
use Rattle.op_queue.specs.declared.queue.Piece.{Piece}
use Rattle.op_queue.specs.declared.queue.Piece.TheVariants.{Rows}
use Rattle.op_queue.specs.Entries.{Entry, RowAt, TickAt}
use Rattle.op_queue.specs.Items.{IsFrontPart, entries_of, first_instant, ticks}
use Rattle.op_queue.specs.Pieces.{IsQueue, IsTakenWhole, piece_begins, piece_entries, queue_begins, queue_entries, waiting_in}
use Rattle.op_queue.specs.Queues.{HasLeft, Waiting, at_once, pieces_of}
use Rattle.values.specs.Window.{Element}
use Rattle.op_queue.specs.Logs.{Closed, cursor_entries, log_entries, row_entries}
use Rattle.op_queue.specs.declared.cursor.Cursor.{Cursor}
use Rattle.op_queue.proofs.CursorLemmas.{entries-open, rest_of}
use Rattle.op_queue.proofs.BeginLemmas.{at_once-rows, front_cut-queue}
use Rattle.op_queue.proofs.CountLemmas.{pieces_dropped}
use Rattle.op_queue.proofs.DropLemmas.{IsDropping-end, IsDropping-piece, IsDropping-start}
use Rattle.op_queue.proofs.FrontLemmas.{IsFrontPart-queue, IsFrontPart-rows, drop-ticks, queue_entries-cons}

-- the instants of entries that stand first
instant-append : (es fs : List (Entry Row)) (t : ℕ) → first_instant es ≡ Some t → first_instant (es ++ fs) ≡ Some t
instant-append [] fs t h = cc
instant-append (e ∷ es) fs t h = h

pub instant-rows : (t : ℕ) (b : List (Bool × Row)) (taken : ℕ) → taken < length b → first_instant (drop taken (map (RowAt t) b)) ≡ Some t
instant-rows t [] taken some = absurd (omega arith)
instant-rows t (s ∷ b) zero some = refl
instant-rows t (s ∷ b) (suc taken) some = instant-rows t b taken (omega arith)

pub instant-ticks : (first last taken : ℕ) → taken < last + 1 - first → first_instant (drop taken (ticks first last)) ≡ Some (first + taken)
instant-ticks first last taken some = ap first_instant (drop-ticks first last taken some)

pub instant-queue : {taken waiting : ℕ} (ps : List Piece) (p : Piece) (t : ℕ) → 0 < length ps → p ≡ get_or ps 0 p → IsQueue taken waiting ps → Some t ≡ first_instant (drop taken (piece_entries p)) → Some t ≡ first_instant (queue_entries taken ps)
instant-queue [] p t some is h first = absurd (omega arith)
instant-queue {taken} (q ∷ ps) p t some is h first =
    sym (ap first_instant (queue_entries-cons taken q ps h.started) ∙ instant-append (drop taken (piece_entries q)) (flat_map piece_entries ps) t (sym (rw is at first)))

pub instant-no_pieces : {taken waiting : ℕ} (ps : List Piece) → length ps ≡ 0 → IsQueue taken waiting ps → first_instant (queue_entries taken ps) ≡ None
instant-no_pieces {taken} [] none h = rw h.started refl
instant-no_pieces (q ∷ ps) none h = absurd (omega arith)

-- at most so many entries stand in a front part as in the list
pub front_part-few : (k : ℕ) (es : List (Entry Row)) (i : Item) → IsFrontPart k es i → length (entries_of i) ≤ length es
front_part-few k es i h = omega (arith, ap length h.first, length-take (length (entries_of i)) es)

-- a batch that stands first leaves whole
pub record IsLeft (taken len count : ℕ) (ps qs : List Piece) (i : Item) : Type 0 where
  pub few : length (entries_of i) ≤ len
  pub queue : IsQueue taken (len - length (entries_of i)) qs
  pub part : IsFrontPart count (queue_entries taken ps) i
  pub value : entries_of i ≡ take (min count (at_once (queue_begins taken ps))) (queue_entries taken ps)
  pub entries : queue_entries taken qs ≡ drop (length (entries_of i)) (queue_entries taken ps)
  pub begins : queue_begins taken qs ≡ drop (length (entries_of i)) (queue_begins taken ps)
  pub fewer : length qs ≤ length ps
  pub counted : length qs ≡ pieces_of (drop (length (entries_of i)) (queue_entries taken ps)) (drop (length (entries_of i)) (queue_begins taken ps))

rows_left : {len : ℕ} (count t : ℕ) (b : List (Bool × Row)) (qs : List Piece) → IsQueue 0 len (Rows t b ∷ qs) → length b ≤ count → 0 < count → IsLeft 0 len count (Rows t b ∷ qs) qs (item.Rows t b)
rows_left {len} count t b qs h few some =
    let f : Bool × Row → Entry Row = RowAt t in
    let ps : List Piece = Rows t b ∷ qs in
    let size : length (map f b) ≡ length b = length-map b f in
    let has : 0 < length b = h.started in
    let enough : length b ≤ len = omega (arith, h.counted, length-append (map f b) (flat_map piece_entries qs), size) in
    let left = IsDropping-piece ps qs (Rows t b) refl (IsDropping-start ps (length b) h enough) (omega arith) in
    let none : length b - (length b - 0) ≡ 0 = omega arith in
    let most : length b ≡ min count (length b - 0) = omega (arith, few) in
    let done : IsQueue 0 (len - length b) qs = IsDropping-end ps qs h left none in
    let once : length (map f b) ≡ min count (at_once (drop 0 (piece_begins (Rows t b)))) = size ∙ most ∙ ap (min count) (sym (at_once-rows t 0 b has)) in
    record {
      few = omega (arith, enough, size);
      queue = rw size done;
      part = IsFrontPart-queue count ps (Rows t b) (item.Rows t b) (omega arith) refl h (IsFrontPart-rows t b b 0 (length b) count has most some (sym (take_all (0 + length b - 0) b (omega arith))));
      value = front_cut-queue count ps (Rows t b) (item.Rows t b) (omega arith) refl h (sym (take_all (length (map f b)) (map f b) (omega arith)) ∙ ap (λ n. take n (map f b)) once);
      entries = ap (λ n. drop n (queue_entries 0 qs)) (sym none) ∙ left.rest ∙ ap (λ n. drop n (queue_entries 0 ps)) (sym size);
      begins = ap (λ n. drop n (queue_begins 0 qs)) (sym none) ∙ left.rest_begins ∙ ap (λ n. drop n (queue_begins 0 ps)) (sym size);
      fewer = omega arith;
      counted =
          pieces_dropped ps qs (waiting_in 0 ps) refl h left none ∙ ap (λ n. pieces_of (drop n (queue_entries 0 ps)) (drop n (queue_begins 0 ps))) (sym size);
    }

whole_left : {len : ℕ} (count : ℕ) (ps qs : List Piece) (i : Item) → IsQueue 0 len ps → IsTakenWhole count ps qs i → 0 < count → IsLeft 0 len count ps qs i
whole_left count ps qs (item.Rows t b) h w some = rw w.0 (rows_left count t b qs (rw w.0 at h) w.1 some)
whole_left count ps qs (item.Tick t) h w some = absurd w

pub taken_whole : {taken len : ℕ} (count : ℕ) (ps qs : List Piece) (i : Item) → taken ≡ 0 → IsQueue taken len ps → IsTakenWhole count ps qs i → 0 < count → IsLeft taken len count ps qs i
taken_whole {taken} {len} count ps qs i e h w some =
    let P : ℕ → Type 0 = λ n. IsLeft n len count ps qs i in
    let Q : ℕ → Type 0 = λ n. IsQueue n len ps in
    subst P (sym e) (whole_left count ps qs i (subst Q e h) w some)

-- the same of what callers see
pub left_seen : {taken len : ℕ} (count : ℕ) (ps qs : List Piece) (i : Item) (w : Waiting) → waiting_in taken ps ≡ w → IsLeft taken len count ps qs i → HasLeft count w (waiting_in taken qs) i
left_seen {taken} count ps qs i w seen l =
    let P : Waiting → Type 0 = λ v. HasLeft count v (waiting_in taken qs) i in
    subst P seen (record { part = l.part; value = l.value; entries = l.entries; begins = l.begins; pieces = l.fewer; counted = l.counted })

-- what was cut from the front and then dropped
pub cut_left : (count : ℕ) (old new : Waiting) (i : Item) (n : ℕ) → n ≡ length (entries_of i) → IsFrontPart count old.entries i → entries_of i ≡ take (min count (at_once old.begins)) old.entries
    → new.entries ≡ drop n old.entries → new.begins ≡ drop n old.begins → new.pieces ≤ old.pieces → new.pieces ≡ pieces_of (drop n old.entries) (drop n old.begins) → HasLeft count old new i
cut_left count old new i n size part value entries begins pieces counted = record {
  part = part;
  value = value;
  entries = entries ∙ ap (λ k. drop k old.entries) size;
  begins = begins ∙ ap (λ k. drop k old.begins) size;
  pieces = pieces;
  counted = counted ∙ ap (λ k. pieces_of (drop k old.entries) (drop k old.begins)) size;
}

-- the instant at the front of a cursor
pub instant-cursor : (c : Cursor) (log : Closed) → c.at < log.until → first_instant (cursor_entries c log) ≡ Some c.at
instant-cursor c log lt = ap first_instant (entries-open c log lt) ∙ first (rest_of c log)
  where
    first : (es : List Element) → first_instant (row_entries c.at es ++ TickAt c.at ∷ log_entries c.place (c.at + 1) log) ≡ Some c.at
    first [] = refl
    first (e ∷ es) = refl
