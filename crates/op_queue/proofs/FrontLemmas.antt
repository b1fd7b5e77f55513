-- What stands first in a piece stands first in the queue.
use Rattle.std.proofs.Common.{◌≡◌, ℕ, suc, ◌+◌, ◌-◌, ◌<◌, Bool, None, Some, List, [], ◌∷◌, ◌++◌, length, map, take, drop, slice_range, get_or, min, refl, ap, sym, ◌∙◌, arith, length-drop, length-take}
use Prim.Native.Nat.{zero}
use Rattle.std.specs.List.{flat_map}
use Rattle.std.proofs.lemmas.List.{drop_more, drop-map, take-map, take-append-le, drop-append-le, length-map}
use Rattle.std.proofs.lemmas.List.Elements.{All-head}
use Rattle.std.proofs.lemmas.List.FromFn.{get_or-map-range_with_len, length-map-range_with_len}
use Rattle.values.specs.Row.{Row}
use Rattle.op_queue.specs.declared.item.Item.{Item}
use Rattle.op_queue.specs.declared.item.Item.TheVariants.{Rows, Tick}
use Rattle.op_queue.specs.Items.{entries_of, ticks, IsFrontPart}
use Rattle.op_queue.specs.Entries.{Entry, RowAt, TickAt, front_of}
use Rattle.op_queue.specs.Pieces.{piece_size, piece_entries, queue_entries, IsPiece, IsQueue}
use Rattle.op_queue.specs.declared.queue.Front.{Front}
use Rattle.op_queue.specs.declared.queue.Front.TheVariants as front
use Rattle.op_queue.specs.declared.queue.Piece.{Piece}
use Rattle.op_queue.proofs.PieceLemmas.{length-piece_entries}

pub drop-ticks : (first last taken : ℕ) → taken < last + 1 - first → drop taken (ticks first last) ≡ TickAt (first + taken) ∷ drop (taken + 1) (ticks first last)
drop-ticks first last taken h =
    let f : ℕ → Entry Row = TickAt in
    let n = length-map-range_with_len f first (last + 1 - first) in
    let k : taken < length (ticks first last) = omega arith in
    drop_more (ticks first last) taken (TickAt 0) k
    ∙ ap (λ e. e ∷ drop (taken + 1) (ticks first last)) (get_or-map-range_with_len f first (last + 1 - first) taken (first + taken) (TickAt 0) h refl)

pub IsFrontPart-rows : (t : ℕ) (b part : List (Bool × Row)) (taken rows count : ℕ) → taken < length b → rows ≡ min count (length b - taken) → 0 < count → part ≡ slice_range b taken (taken + rows) → IsFrontPart count (drop taken (map (RowAt t) b)) (Rows t part)
IsFrontPart-rows t b part taken rows count some least positive cut =
    let f : Bool × Row → Entry Row = RowAt t in
    let n : taken + rows - taken ≡ rows = omega arith in
    let is : part ≡ take rows (drop taken b) = cut ∙ ap (λ k. take k (drop taken b)) n in
    let a = ap length is ∙ length-take rows (drop taken b) in
    let d = length-drop taken b in
    let m = length-map part f in
    let whole : rows ≡ length part = omega arith in
    let e : map f part ≡ take (length (map f part)) (drop taken (map f b)) = ap (map f) is ∙ sym (take-map f rows (drop taken b)) ∙ ap (take rows) (sym (drop-map f taken b)) ∙ ap (λ n. take n (drop taken (map f b))) (whole ∙ sym m) in
    record { some = omega arith; few = omega arith; first = e }

pub cut-rows : (t : ℕ) (b part : List (Bool × Row)) (taken rows count : ℕ) → taken < length b → rows ≡ min count (length b - taken) → part ≡ slice_range b taken (taken + rows) → entries_of (Rows t part) ≡ take (min count (length b - taken)) (drop taken (map (RowAt t) b))
cut-rows t b part taken rows count some least cut =
    let f : Bool × Row → Entry Row = RowAt t in
    let n : taken + rows - taken ≡ rows = omega arith in
    let is : part ≡ take rows (drop taken b) = cut ∙ ap (λ k. take k (drop taken b)) n in
    ap (map f) is ∙ sym (take-map f rows (drop taken b)) ∙ ap (take rows) (sym (drop-map f taken b)) ∙ ap (λ n. take n (drop taken (map f b))) least

pub cut-tick : (first last taken count : ℕ) → taken < last + 1 - first → 0 < count → entries_of (Tick (first + taken)) ≡ take (min count 1) (drop taken (ticks first last))
cut-tick first last taken count some positive =
    let n : 1 ≡ min count 1 = omega arith in
    sym (ap (take 1) (drop-ticks first last taken some)) ∙ ap (λ k. take k (drop taken (ticks first last))) n

pub IsFrontPart-tick : (first last taken count : ℕ) → taken < last + 1 - first → 0 < count → IsFrontPart count (drop taken (ticks first last)) (Tick (first + taken))
IsFrontPart-tick first last taken count some positive = record { some = omega arith; few = omega arith; first = sym (ap (take 1) (drop-ticks first last taken some)) }

pub front_of-rows : (t : ℕ) (b : List (Bool × Row)) (taken : ℕ) → taken < length b → front_of (drop taken (map (RowAt t) b)) ≡ Some (front.Row t)
front_of-rows t [] taken some = absurd (omega arith)
front_of-rows t (s ∷ b) zero some = refl
front_of-rows t (s ∷ b) (suc taken) some = front_of-rows t b taken (omega arith)

pub front_of-ticks : (first last taken : ℕ) → taken < last + 1 - first → front_of (drop taken (ticks first last)) ≡ Some (front.Tick (first + taken))
front_of-ticks first last taken some = ap front_of (drop-ticks first last taken some)

IsFrontPart-append : (count : ℕ) (es fs : List (Entry Row)) (i : Item) → IsFrontPart count es i → IsFrontPart count (es ++ fs) i
IsFrontPart-append count es fs i h =
    let n = ap length h.first ∙ length-take (length (entries_of i)) es in
    record { some = h.some; few = h.few; first = h.first ∙ sym (take-append-le (length (entries_of i)) es fs (omega arith)) }

front_of-append : (es fs : List (Entry Row)) (f : Front) → front_of es ≡ Some f → front_of (es ++ fs) ≡ Some f
front_of-append [] fs f h = cc
front_of-append (RowAt t s ∷ es) fs f h = h
front_of-append (TickAt t ∷ es) fs f h = h

pub queue_entries-cons : (taken : ℕ) (p : Piece) (ps : List Piece) → taken < piece_size p → queue_entries taken (p ∷ ps) ≡ drop taken (piece_entries p) ++ flat_map piece_entries ps
queue_entries-cons taken p ps part =
    drop-append-le taken (piece_entries p) (flat_map piece_entries ps) (omega (arith, length-piece_entries p))

pub front_of-queue : {taken waiting : ℕ} (ps : List Piece) (p : Piece) (f : Front) → 0 < length ps → p ≡ get_or ps 0 p → IsQueue taken waiting ps → Some f ≡ front_of (drop taken (piece_entries p)) → Some f ≡ front_of (queue_entries taken ps)
front_of-queue [] p f some is h first = absurd (omega arith)
front_of-queue {taken} (q ∷ ps) p f some is h first =
    sym (ap front_of (queue_entries-cons taken q ps h.started) ∙ front_of-append (drop taken (piece_entries q)) (flat_map piece_entries ps) f (sym (rw is at first)))

pub front_of-no_pieces : {taken waiting : ℕ} (ps : List Piece) → length ps ≡ 0 → IsQueue taken waiting ps → front_of (queue_entries taken ps) ≡ None
front_of-no_pieces {taken} [] none h = rw h.started refl
front_of-no_pieces (q ∷ ps) none h = absurd (omega arith)

pub IsFrontPart-queue : {taken len : ℕ} (count : ℕ) (ps : List Piece) (p : Piece) (i : Item) → 0 < length ps → p ≡ get_or ps 0 p → IsQueue taken len ps → IsFrontPart count (drop taken (piece_entries p)) i → IsFrontPart count (queue_entries taken ps) i
IsFrontPart-queue count [] p i some is h first = absurd (omega arith)
IsFrontPart-queue {taken} count (q ∷ ps) p i some is h first =
    rw (queue_entries-cons taken q ps h.started) (IsFrontPart-append count _ _ i (rw is at first))

pub IsTaken-front : {taken len : ℕ} (ps : List Piece) (p : Piece) → 0 < length ps → p ≡ get_or ps 0 p → IsQueue taken len ps → IsPiece p × (taken < piece_size p)
IsTaken-front [] p some is h = absurd (omega arith)
IsTaken-front {taken} (q ∷ ps) p some is h = rw is (All-head IsPiece q ps h.shaped, h.started)

pub queue_some : {taken len : ℕ} (ps : List Piece) → IsQueue taken len ps → 0 < length (queue_entries taken ps) → 0 < length ps
queue_some {taken} [] h some = omega (arith, length-drop taken (flat_map piece_entries []), h.counted)
queue_some (q ∷ ps) h some = omega arith
