-- In how many pieces the entries of a queue are kept.
use Rattle.std.proofs.Common.{◌≡◌, ℕ, suc, ◌+◌, ◌-◌, ◌<◌, ◌≤◌, Bool, true, false, cond, Option, None, Some, List, [], ◌∷◌, ◌++◌, length, map, drop, refl, ap, sym, ◌∙◌, arith, subst, zero-add, length-append}
use Prim.Native.Nat.{zero}
use Rattle.std.specs.List.{flat_map, last_or, range_with_len, drop-map, All}
use Rattle.std.proofs.lemmas.Bool.{eq-eqb}
use Rattle.std.proofs.lemmas.List.{length-map}
use Rattle.std.proofs.lemmas.List.Elements.{All-head, All-tail}
use Rattle.values.specs.Row.{Row}
use Rattle.op_queue.specs.Entries.{Entry, RowAt, TickAt}
use Rattle.op_queue.specs.Items.{ticks}
use Rattle.op_queue.specs.Queues.{Waiting, each_begins, first_begins, last_entry, pieces_behind, pieces_of, run_pieces}
use Rattle.op_queue.specs.Pieces.{piece_begins, piece_entries, piece_size, queue_begins, queue_entries, waiting_in, end_of, end_of_pieces, IsApart, AreApart, IsPiece, IsQueue, IsLongerRun}
use Rattle.op_queue.specs.declared.queue.Piece.{Piece}
use Rattle.op_queue.specs.declared.queue.Piece.TheVariants.{Rows, Ticks}
use Rattle.op_queue.proofs.ApartLemmas.{last_or-some, last_or-drop, pieces_end, end_of_pieces-push, run_pieces-on}
use Rattle.op_queue.proofs.BeginLemmas.{queue_begins-cons}
use Rattle.op_queue.proofs.DropLemmas.{IsDropping, IsDropping-end}
use Rattle.op_queue.proofs.FrontLemmas.{queue_entries-cons}
use Rattle.op_queue.proofs.PieceLemmas.{length-piece_entries}
use Rattle.op_queue.proofs.RunLemmas.{pieces-longer}

-- ---- the last entry that waits is that of the last piece
pub queue_end : {taken len : ℕ} (ps : List Piece) → IsQueue taken len ps → last_or None (queue_entries taken ps) ≡ end_of_pieces None ps
queue_end {taken} [] h = let none : List (Entry Row) = [] in ap (λ n. last_or None (drop n none)) h.started
queue_end {taken} (p ∷ ps) h =
    let all = flat_map piece_entries (p ∷ ps) in
    last_or-drop None None taken all (omega (arith, h.started, length-piece_entries p, length-append (piece_entries p) (flat_map piece_entries ps)))
    ∙ pieces_end None (p ∷ ps) h.shaped

pub last_entry-queue : {taken len : ℕ} (ps : List Piece) (w : Waiting) → waiting_in taken ps ≡ w → IsQueue taken len ps → last_entry w.entries ≡ end_of_pieces None ps
last_entry-queue ps w seen h = ap (λ (v : Waiting). last_or None v.entries) (sym seen) ∙ queue_end ps h

-- a piece that comes is apart from the last one
pub IsApart-queue : {taken len : ℕ} (ps : List Piece) (p : Piece) (w : Waiting) → waiting_in taken ps ≡ w → IsQueue taken len ps → IsApart (last_entry w.entries) p → IsApart (end_of_pieces None ps) p
IsApart-queue ps p w seen h apart = let P : Option (Entry Row) → Type 0 = λ o. IsApart o p in subst P (last_entry-queue ps w seen h) apart

-- so is a run that goes on behind nothing
pub run_pieces-queue : {taken len : ℕ} (first : ℕ) (ps qs : List Piece) → qs ≡ ps → IsQueue taken len ps → run_pieces (end_of_pieces None ps) first ≡ 1 → run_pieces (last_entry (queue_entries taken qs)) first ≡ 1
run_pieces-queue {taken} first ps qs same h one =
    ap (λ rs. run_pieces (last_or None (queue_entries taken rs)) first) same ∙ ap (λ o. run_pieces o first) (queue_end ps h) ∙ one

-- it takes a piece
pub pieces_apart : {taken len : ℕ} (first : ℕ) (ps qs : List Piece) (w : Waiting) → waiting_in taken ps ≡ w → qs ≡ ps → IsQueue taken len ps → run_pieces (end_of_pieces None ps) first ≡ 1 → length qs + 1 ≡ w.pieces + run_pieces (last_entry w.entries) first
pieces_apart first ps qs w seen same h one =
    let e : run_pieces (last_entry w.entries) first ≡ 1 = ap (λ o. run_pieces o first) (last_entry-queue ps w seen h) ∙ one in
    omega (arith, e, ap length same, ap (λ (v : Waiting). v.pieces) seen)

-- a run that grows takes none
pub pieces_longer : {taken len : ℕ} (first last : ℕ) (ps qs : List Piece) (w : Waiting) → waiting_in taken ps ≡ w → IsQueue taken len ps → IsLongerRun first last ps qs → length qs ≡ w.pieces + run_pieces (last_entry w.entries) first
pieces_longer first last ps qs w seen h (init, start, end, was, is, next) =
    let longer : IsLongerRun first last ps qs = (init, start, end, was, is, next) in
    let e = last_entry-queue ps w seen h ∙ ap (end_of_pieces None) was ∙ end_of_pieces-push None init (Ticks start end) in
    let none : run_pieces (last_entry w.entries) first ≡ 0 = ap (λ o. run_pieces o first) e ∙ run_pieces-on end first next in
    omega (arith, none, pieces-longer first last ps qs longer, ap (λ (v : Waiting). v.pieces) seen)

-- ---- ticks that follow one another are one piece
count-ticks : (t n : ℕ) (es : List (Entry Row)) (bs : List Bool) → pieces_behind (Some (TickAt t)) (map TickAt (range_with_len (t + 1) n) ++ es) (each_begins (map {B = Entry Row} TickAt (range_with_len (t + 1) n)) ++ bs) ≡ pieces_behind (Some (TickAt (t + n))) es bs
count-ticks t zero es bs = let e : t ≡ t + 0 = omega arith in ap (λ u. pieces_behind (Some (TickAt u)) es bs) e
count-ticks t (suc n) es bs =
    let f : ℕ → Entry Row = TickAt in
    let rest = map f (range_with_len (t + 1 + 1) n) in
    let e : t + 1 + n ≡ t + suc n = omega arith in
    ap (λ b. cond b 0 1 + pieces_behind (Some (TickAt (t + 1))) (rest ++ es) (each_begins rest ++ bs)) (eq-eqb (t + 1) (t + 1) refl)
    ∙ zero-add (pieces_behind (Some (TickAt (t + 1))) (rest ++ es) (each_begins rest ++ bs))
    ∙ count-ticks (t + 1) n es bs
    ∙ ap (λ u. pieces_behind (Some (TickAt u)) es bs) e

count-run : (o : Option (Entry Row)) (first n last : ℕ) (es : List (Entry Row)) (bs : List Bool) → first + n ≡ last → run_pieces o first ≡ 1 → pieces_behind o (map TickAt (range_with_len first (suc n)) ++ es) (each_begins (map {B = Entry Row} TickAt (range_with_len first (suc n))) ++ bs) ≡ 1 + pieces_behind (Some (TickAt last)) es bs
count-run o first n last es bs end apart =
    let f : ℕ → Entry Row = TickAt in
    let rest = map f (range_with_len (first + 1) n) in
    ap (λ k. k + pieces_behind (Some (TickAt first)) (rest ++ es) (each_begins rest ++ bs)) apart
    ∙ ap (λ k. 1 + k) (count-ticks first n es bs)
    ∙ ap (λ u. 1 + pieces_behind (Some (TickAt u)) es bs) end

drop-range : (a n k : ℕ) → k ≤ n → drop k (range_with_len a n) ≡ range_with_len (a + k) (n - k)
drop-range a n zero le =
    let e : a ≡ a + 0 = omega arith in
    let k : n ≡ n - 0 = omega arith in
    ap (λ b. range_with_len b n) e ∙ ap (range_with_len (a + 0)) k
drop-range a zero (suc k) le = absurd (omega arith)
drop-range a (suc n) (suc k) le =
    let e : a + 1 + k ≡ a + suc k = omega arith in
    let m : n - k ≡ suc n - suc k = omega arith in
    drop-range (a + 1) n k (omega arith) ∙ ap (λ b. range_with_len b (n - k)) e ∙ ap (range_with_len (a + suc k)) m

-- ---- rows of a batch are one piece
count-rows : (t : ℕ) (e : Entry Row) (b : List (Bool × Row)) (es : List (Entry Row)) (bs : List Bool) → pieces_behind (Some e) (map (RowAt t) b ++ es) (map (λ y. false) (map (RowAt t) b) ++ bs) ≡ pieces_behind (last_or (Some e) (map (RowAt t) b)) es bs
count-rows t e [] es bs = refl
count-rows t e (s ∷ b) es bs = zero-add _ ∙ count-rows t (RowAt t s) b es bs

count-batch : (o : Option (Entry Row)) (t : ℕ) (b : List (Bool × Row)) (es : List (Entry Row)) (bs : List Bool) → 0 < length b → pieces_behind o (map (RowAt t) b ++ es) (first_begins (map (RowAt t) b) ++ bs) ≡ 1 + pieces_behind (last_or None (map (RowAt t) b)) es bs
count-batch o t [] es bs some = absurd (omega arith)
count-batch None t (s ∷ b) es bs some = ap (λ n. 1 + n) (count-rows t (RowAt t s) b es bs)
count-batch (Some e) t (s ∷ b) es bs some = ap (λ n. 1 + n) (count-rows t (RowAt t s) b es bs)

-- what is left of a batch
count-rest : (t k : ℕ) (b : List (Bool × Row)) (es : List (Entry Row)) (bs : List Bool) → k < length b → pieces_behind None (drop k (map (RowAt t) b) ++ es) (drop k (map (λ y. false) (map (RowAt t) b)) ++ bs) ≡ 1 + pieces_behind (last_or None (map (RowAt t) b)) es bs
count-rest t k [] es bs lt = absurd (omega arith)
count-rest t zero (s ∷ b) es bs lt = ap (λ n. 1 + n) (count-rows t (RowAt t s) b es bs)
count-rest t (suc k) (s ∷ b) es bs lt =
    let f : Bool × Row → Entry Row = RowAt t in
    count-rest t k b es bs (omega arith)
    ∙ ap (λ o. 1 + pieces_behind o es bs) (last_or-some None (Some (f s)) (map f b) (omega (arith, length-map b f)))

count-part_of_rows : (t k : ℕ) (b : List (Bool × Row)) (es : List (Entry Row)) (bs : List Bool) → k < length b → pieces_behind None (drop k (map (RowAt t) b) ++ es) (drop k (first_begins (map (RowAt t) b)) ++ bs) ≡ 1 + pieces_behind (last_or None (map (RowAt t) b)) es bs
count-part_of_rows t k [] es bs lt = absurd (omega arith)
count-part_of_rows t zero (s ∷ b) es bs lt = count-batch None t (s ∷ b) es bs (omega arith)
count-part_of_rows t (suc k) (s ∷ b) es bs lt = count-rest t (suc k) (s ∷ b) es bs lt

-- ---- a piece, and what is left of the first
count-piece : (o : Option (Entry Row)) (p : Piece) (es : List (Entry Row)) (bs : List Bool) → IsPiece p → IsApart o p → pieces_behind o (piece_entries p ++ es) (piece_begins p ++ bs) ≡ 1 + pieces_behind (end_of p) es bs
count-piece o (Rows t b) es bs h apart = count-batch o t b es bs (omega (arith, h.some))
count-piece o (Ticks first last) es bs h apart =
    let f : ℕ → Entry Row = TickAt in
    let n : last + 1 - first ≡ suc (last - first) = omega (arith, h.0) in
    ap (λ m. pieces_behind o (map f (range_with_len first m) ++ es) (each_begins (map f (range_with_len first m)) ++ bs)) n
    ∙ count-run o first (last - first) last es bs (omega (arith, h.0)) apart

count-part : (taken : ℕ) (p : Piece) (es : List (Entry Row)) (bs : List Bool) → IsPiece p → taken < piece_size p → pieces_behind None (drop taken (piece_entries p) ++ es) (drop taken (piece_begins p) ++ bs) ≡ 1 + pieces_behind (end_of p) es bs
count-part taken (Rows t b) es bs h lt = count-part_of_rows t taken b es bs lt
count-part taken (Ticks first last) es bs h lt =
    let f : ℕ → Entry Row = TickAt in
    let g : Entry Row → Bool = λ x. true in
    let n : last + 1 - first - taken ≡ suc (last - first - taken) = omega (arith, h.0) in
    let left : drop taken (ticks first last) ≡ map f (range_with_len (first + taken) (suc (last - first - taken))) =
    drop-map f taken (range_with_len first (last + 1 - first))
    ∙ ap (map f) (drop-range first (last + 1 - first) taken (omega arith) ∙ ap (range_with_len (first + taken)) n) in
    ap (λ ys. pieces_behind None (drop taken (ticks first last) ++ es) (ys ++ bs)) (drop-map g taken (ticks first last))
    ∙ ap (λ xs. pieces_behind None (xs ++ es) (each_begins xs ++ bs)) left
    ∙ count-run None (first + taken) (last - first - taken) last es bs (omega (arith, h.0)) refl

count-pieces : (o : Option (Entry Row)) (ps : List Piece) → All IsPiece ps → AreApart o ps → pieces_behind o (flat_map piece_entries ps) (flat_map piece_begins ps) ≡ length ps
count-pieces o [] h apart = refl
count-pieces o (p ∷ ps) h apart =
    let a = count-piece o p (flat_map piece_entries ps) (flat_map piece_begins ps) (All-head IsPiece p ps h) apart.0 in
    let b = count-pieces (end_of p) ps (All-tail IsPiece p ps h) apart.1 in
    a ∙ omega (arith, b)

pub pieces_of-queue : {taken len : ℕ} (ps : List Piece) → IsQueue taken len ps → length ps ≡ pieces_of (queue_entries taken ps) (queue_begins taken ps)
pieces_of-queue {taken} [] h = let P : ℕ → Type 0 = λ n. 0 ≡ pieces_of (queue_entries n []) (queue_begins n []) in subst P (sym h.started) refl
pieces_of-queue {taken} (p ∷ ps) h =
    let a = count-part taken p (flat_map piece_entries ps) (flat_map piece_begins ps) (All-head IsPiece p ps h.shaped) h.started in
    let b = count-pieces (end_of p) ps (All-tail IsPiece p ps h.shaped) h.apart.1 in
    let c = ap (λ es. pieces_of es (queue_begins taken (p ∷ ps))) (queue_entries-cons taken p ps h.started) in
    let d = ap (pieces_of (drop taken (piece_entries p) ++ flat_map piece_entries ps)) (queue_begins-cons taken p ps h.started) in
    sym (c ∙ d ∙ a ∙ omega (arith, b))

-- what is left once the first have left
pub pieces_dropped : {taken0 len0 : ℕ} {most count left taken len : ℕ} (ps0 ps : List Piece) (w : Waiting) → waiting_in taken0 ps0 ≡ w → IsQueue taken0 len0 ps0 → IsDropping (queue_entries taken0 ps0) (queue_begins taken0 ps0) most count left taken len ps → left ≡ 0 → length ps ≡ pieces_of (drop count w.entries) (drop count w.begins)
pieces_dropped {taken0 = taken0} {count = count} {taken = taken} ps0 ps w seen before h none =
    let entries : queue_entries taken ps ≡ drop count (queue_entries taken0 ps0) = ap (λ n. drop n (queue_entries taken ps)) (sym none) ∙ h.rest in
    let begins : queue_begins taken ps ≡ drop count (queue_begins taken0 ps0) = ap (λ n. drop n (queue_begins taken ps)) (sym none) ∙ h.rest_begins in
    pieces_of-queue ps (IsDropping-end ps0 ps before h none)
    ∙ ap (λ es. pieces_of es (queue_begins taken ps)) entries
    ∙ ap (pieces_of (drop count (queue_entries taken0 ps0))) begins
    ∙ ap (λ (v : Waiting). pieces_of (drop count v.entries) (drop count v.begins)) seen
