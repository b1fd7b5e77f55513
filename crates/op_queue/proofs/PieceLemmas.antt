-- Lemmas on the pieces of a queue.
use Rattle.std.proofs.Common.{◌≡◌, ℕ, ◌+◌, ◌-◌, ◌*◌, ◌^◌, ◌<◌, ◌≤◌, Bool, None, List, [], ◌∷◌, ◌++◌, length, drop, ap, sym, ◌∙◌, arith, subst, append-nil, length-append, length-drop}
use Rattle.std.specs.List.{flat_map, All}
use Rattle.std.proofs.lemmas.List.Concat.{flat_map-append}
use Rattle.std.proofs.lemmas.List.{length-map, drop-append-le, get_or-drop}
use Rattle.std.proofs.lemmas.List.FromFn.{length-map-range_with_len}
use Rattle.std.proofs.lemmas.List.Elements.{All-head, All-tail, All-push}
use Rattle.values.specs.Row.{Row}
use Rattle.op_queue.specs.Entries.{Entry, RowAt, TickAt}
use Rattle.op_queue.specs.Forward.{IsForward}
use Rattle.op_queue.specs.Queues.{Waiting}
use Rattle.op_queue.specs.Pieces.{piece_size, piece_entries, queue_entries, waiting_in, end_of_pieces, IsPiece, IsTaken, IsApart, IsQueue}
use Rattle.op_queue.specs.declared.queue.Piece.{Piece}
use Rattle.op_queue.specs.declared.queue.Piece.TheVariants.{Rows, Ticks}
use Rattle.op_queue.proofs.ApartLemmas.{AreApart-push}

pub length-piece_entries : (p : Piece) → length (piece_entries p) ≡ piece_size p
length-piece_entries (Rows t b) = let f : Bool × Row → Entry Row = RowAt t in length-map b f
length-piece_entries (Ticks first last) = let f : ℕ → Entry Row = TickAt in length-map-range_with_len f first (last + 1 - first)

pub piece_size-le : (p : Piece) → IsPiece p → piece_size p ≤ 2 ^ 64
piece_size-le (Rows t b) h = omega arith
piece_size-le (Ticks first last) h = omega arith

pub length-pieces : (ps : List Piece) → All IsPiece ps → length (flat_map piece_entries ps) ≤ length ps * 2 ^ 64
length-pieces [] h = omega arith
length-pieces (p ∷ ps) h =
    let a = length-pieces ps (All-tail IsPiece p ps h) in
    let b = piece_size-le p (All-head IsPiece p ps h) in
    let c = length-piece_entries p in
    let d = length-append (piece_entries p) (flat_map piece_entries ps) in
    omega arith

pub flat_map-pieces_push : (ps : List Piece) (p : Piece) → flat_map piece_entries (ps ++ p ∷ []) ≡ flat_map piece_entries ps ++ piece_entries p
flat_map-pieces_push ps p = flat_map-append piece_entries ps (p ∷ []) ∙ ap (λ x. flat_map piece_entries ps ++ x) (append-nil (piece_entries p))

-- with one more piece the length still fits
pub length-queue_push : {taken len : ℕ} (ps : List Piece) (p : Piece) → IsQueue taken len ps → IsPiece p → len + piece_size p ≤ (length ps + 1) * 2 ^ 64
length-queue_push {taken} {len} ps p h shaped =
    let a = length-pieces ps h.shaped in
    let b = piece_size-le p shaped in
    omega (arith, h.counted)

IsTaken-push : (taken : ℕ) (ps : List Piece) (p : Piece) → 0 < piece_size p → IsTaken taken ps → IsTaken taken (ps ++ p ∷ [])
IsTaken-push taken [] p some h = omega arith
IsTaken-push taken (q ∷ ps) p some h = h

pub queue_entries-push : {taken len : ℕ} (ps : List Piece) (p : Piece) → IsQueue taken len ps → queue_entries taken (ps ++ p ∷ []) ≡ queue_entries taken ps ++ piece_entries p
queue_entries-push {taken} ps p h =
    ap (drop taken) (flat_map-pieces_push ps p) ∙ drop-append-le taken (flat_map piece_entries ps) (piece_entries p) (omega (arith, h.counted))

pub IsQueue-push : {taken len : ℕ} (ps : List Piece) (p : Piece) (size : ℕ) (w : Waiting) → waiting_in taken ps ≡ w → size ≡ piece_size p → 0 < size → IsQueue taken len ps → IsPiece p → IsApart (end_of_pieces None ps) p → IsForward (w.entries ++ piece_entries p) → IsQueue taken (len + size) (ps ++ p ∷ [])
IsQueue-push {taken} {len} ps p size w seen is some h shaped apart forward = record {
  shaped = All-push IsPiece ps p h.shaped shaped;
  counted =
      let a = ap length (flat_map-pieces_push ps p) in
      let b = length-append (flat_map piece_entries ps) (piece_entries p) in
      let c = length-piece_entries p in
      omega (arith, h.counted);
  started = IsTaken-push taken ps p (omega arith) h.started;
  apart = AreApart-push None ps p h.apart apart;
  forward = let P : List (Entry Row) → Type 0 = IsForward in subst P (sym (queue_entries-push ps p h ∙ ap (λ (v : Waiting). v.entries ++ piece_entries p) seen)) forward;
}

pub piece_size-some : (p : Piece) → IsPiece p → 0 < piece_size p
piece_size-some (Rows t b) h = omega arith
piece_size-some (Ticks first last) h = omega arith

-- every piece has something
pieces-le-sizes : (ps : List Piece) → All IsPiece ps → length ps ≤ length (flat_map piece_entries ps)
pieces-le-sizes [] h = omega arith
pieces-le-sizes (p ∷ ps) h =
    let a = pieces-le-sizes ps (All-tail IsPiece p ps h) in
    let b = piece_size-some p (All-head IsPiece p ps h) in
    omega (arith, length-piece_entries p, length-append (piece_entries p) (flat_map piece_entries ps))

pub pieces-le-entries : {taken waiting : ℕ} (ps : List Piece) → IsQueue taken waiting ps → length ps ≤ length (queue_entries taken ps)
pieces-le-entries {taken} [] h = omega arith
pieces-le-entries {taken} (p ∷ ps) h =
    let a = pieces-le-sizes ps (All-tail IsPiece p ps h.shaped) in
    let b = length-append (piece_entries p) (flat_map piece_entries ps) in
    let c = length-piece_entries p in
    omega (arith, h.started, length-drop taken (flat_map piece_entries (p ∷ ps)))

pub IsForward-drop : (n : ℕ) (es : List (Entry Row)) → IsForward es → IsForward (drop n es)
IsForward-drop n es h i j d le lt =
    let a = get_or-drop n es i d in
    let b = get_or-drop n es j d in
    let c = h (n + i) (n + j) d (omega arith) (omega (arith, length-drop n es)) in
    rw (a, b) c
