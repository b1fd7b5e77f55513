-- A run of ticks that grows at the back of a queue.
use Rattle.std.proofs.Common.{◌≡◌, ℕ, suc, ◌+◌, ◌-◌, ◌*◌, ◌^◌, ◌<◌, ◌≤◌, None, List, [], ◌∷◌, ◌++◌, length, map, take, drop, get_or, set, ap, sym, ◌∙◌, arith, subst, append_assoc, length-append, add-zero, zero-add}
use Prim.Native.Nat.{zero}
use Rattle.std.specs.List.{flat_map, range_with_len, All}
use Rattle.std.proofs.lemmas.List.{set_split, take_more, take_all, drop_all, map-append, drop-append-le}
use Rattle.std.proofs.lemmas.List.Elements.{All-push, All-nil, All-head, All-tail, All-cons}
use Rattle.values.specs.Row.{Row}
use Rattle.op_queue.specs.Entries.{Entry, TickAt}
use Rattle.op_queue.specs.Forward.{IsForward}
use Rattle.op_queue.specs.Items.{ticks}
use Rattle.op_queue.specs.Queues.{Waiting}
use Rattle.op_queue.specs.Pieces.{piece_entries, queue_entries, waiting_in, IsPiece, IsTaken, IsQueue, IsLongerRun}
use Rattle.op_queue.specs.declared.queue.Piece.{Piece}
use Rattle.op_queue.specs.declared.queue.Piece.TheVariants.{Ticks}
use Rattle.op_queue.proofs.ApartLemmas.{AreApart-longer}
use Rattle.op_queue.proofs.PieceLemmas.{length-piece_entries, length-pieces, flat_map-pieces_push}

pub IsLongerRun-set : (ps : List Piece) (n first last from to : ℕ) (p : Piece) → n + 1 ≡ length ps → p ≡ get_or ps n p → p ≡ Ticks from to → to + 1 ≡ first → IsLongerRun first last ps (set ps n (Ticks from last))
IsLongerRun-set ps n first last from to p len at is next =
    let whole = sym (take_all (n + 1) ps (omega arith)) ∙ take_more ps n p (omega arith) ∙ ap (λ q. take n ps ++ q ∷ []) (sym at ∙ is) in
    let end : drop (suc n) ps ≡ [] = drop_all (suc n) ps (omega arith) in
    let changed = set_split ps n (Ticks from last) (omega arith) ∙ ap (λ r. take n ps ++ Ticks from last ∷ r) end in
    (take n ps, from, to, whole, changed, next)

pub range_with_len-add : (a m n : ℕ) → range_with_len a (m + n) ≡ range_with_len a m ++ range_with_len (a + m) n
range_with_len-add a zero n = simp (zero-add, add-zero)
range_with_len-add a (suc m) n =
    let e = range_with_len-add (a + 1) m n in
    let p : suc m + n ≡ suc (m + n) = omega arith in
    let q : a + 1 + m ≡ a + suc m = omega arith in
    ap (range_with_len a) p ∙ ap (λ r. a ∷ r) (e ∙ ap (λ k. range_with_len (a + 1) m ++ range_with_len k n) q)

pub ticks-join : (from to first last : ℕ) → from ≤ to → to + 1 ≡ first → first ≤ last → ticks from last ≡ ticks from to ++ ticks first last
ticks-join from to first last up next some =
    let f : ℕ → Entry Row = TickAt in
    let n : last + 1 - from ≡ (to + 1 - from) + (last + 1 - first) = omega arith in
    let k : from + (to + 1 - from) ≡ first = omega arith in
    ap (λ m. map f (range_with_len from m)) n
    ∙ ap (map f) (range_with_len-add from (to + 1 - from) (last + 1 - first) ∙ ap (λ m. range_with_len from (to + 1 - from) ++ range_with_len m (last + 1 - first)) k)
    ∙ map-append f (range_with_len from (to + 1 - from)) (range_with_len first (last + 1 - first))

pub last-shaped : (init : List Piece) (p : Piece) → All IsPiece (init ++ p ∷ []) → All IsPiece init × IsPiece p
last-shaped [] p h = (All-nil IsPiece, All-head IsPiece p [] h)
last-shaped (q ∷ init) p h =
    let t = last-shaped init p (All-tail IsPiece q (init ++ p ∷ []) h) in
    (All-cons IsPiece q init (All-head IsPiece q (init ++ p ∷ []) h) t.0, t.1)

pub flat_map-longer : (first last : ℕ) (ps qs : List Piece) → All IsPiece ps → first ≤ last → IsLongerRun first last ps qs → flat_map piece_entries qs ≡ flat_map piece_entries ps ++ ticks first last
flat_map-longer first last ps qs shaped some (init, from, to, was, is, next) =
    let s = last-shaped init (Ticks from to) (rw was at shaped) in
    ap (flat_map piece_entries) is
    ∙ flat_map-pieces_push init (Ticks from last)
    ∙ ap (λ r. flat_map piece_entries init ++ r) (ticks-join from to first last s.1.0 next some)
    ∙ sym (append_assoc (flat_map piece_entries init) (ticks from to) (ticks first last))
    ∙ ap (λ r. r ++ ticks first last) (sym (flat_map-pieces_push init (Ticks from to)) ∙ ap (flat_map piece_entries) (sym was))

pub queue_entries-longer : {taken len : ℕ} (first last : ℕ) (ps qs : List Piece) → IsQueue taken len ps → first ≤ last → IsLongerRun first last ps qs → queue_entries taken qs ≡ queue_entries taken ps ++ ticks first last
queue_entries-longer {taken} first last ps qs h some longer =
    ap (drop taken) (flat_map-longer first last ps qs h.shaped some longer) ∙ drop-append-le taken (flat_map piece_entries ps) (ticks first last) (omega (arith, h.counted))

pub length-longer : {taken len : ℕ} (first last : ℕ) (ps qs : List Piece) → IsQueue taken len ps → first ≤ last → last < 2 ^ 64 → IsLongerRun first last ps qs → All IsPiece qs × (taken + (len + (last + 1 - first)) ≡ length (flat_map piece_entries qs))
length-longer {taken} {len} first last ps qs h some fits (init, from, to, was, is, next) =
    let s = last-shaped init (Ticks from to) (rw was at h.shaped) in
    let longer : IsLongerRun first last ps qs = (init, from, to, was, is, next) in
    let one : IsPiece (Ticks from last) = (omega (arith, s.1), fits) in
    let e = ap length (flat_map-longer first last ps qs h.shaped some longer) in
    let a = length-append (flat_map piece_entries ps) (ticks first last) in
    let b = length-piece_entries (Ticks first last) in
    (rw is (All-push IsPiece init (Ticks from last) s.0 one), omega (arith, h.counted))

IsTaken-longer : (taken first last from to : ℕ) (init : List Piece) → to + 1 ≡ first → first ≤ last → IsTaken taken (init ++ Ticks from to ∷ []) → IsTaken taken (init ++ Ticks from last ∷ [])
IsTaken-longer taken first last from to [] next some h = omega arith
IsTaken-longer taken first last from to (q ∷ init) next some h = h

pub IsQueue-longer : {taken len : ℕ} (first last : ℕ) (ps qs : List Piece) (w : Waiting) → waiting_in taken ps ≡ w → IsQueue taken len ps → first ≤ last → last < 2 ^ 64 → IsForward (w.entries ++ ticks first last) → IsLongerRun first last ps qs → IsQueue taken (len + (last + 1 - first)) qs
IsQueue-longer {taken} {len} first last ps qs w seen h some fits forward (init, from, to, was, is, next) =
    let longer : IsLongerRun first last ps qs = (init, from, to, was, is, next) in
    let l = length-longer first last ps qs h some fits longer in
    record {
      shaped = l.0;
      counted = l.1;
      started = rw is (IsTaken-longer taken first last from to init next some (rw was at h.started));
      apart = rw is (AreApart-longer None init from to last (rw was at h.apart));
      forward =
          let P : List (Entry Row) → Type 0 = IsForward in
          subst P (sym (queue_entries-longer first last ps qs h some longer ∙ ap (λ (v : Waiting). v.entries ++ ticks first last) seen)) forward;
    }

pub length-queue_longer : {taken len : ℕ} (first last : ℕ) (ps qs : List Piece) → IsQueue taken len ps → first ≤ last → last < 2 ^ 64 → IsLongerRun first last ps qs → len + (last + 1 - first) ≤ length qs * 2 ^ 64
length-queue_longer first last ps qs h some fits longer =
    let l = length-longer first last ps qs h some fits longer in
    omega (arith, l.1, length-pieces qs l.0)

pub pieces-longer : (first last : ℕ) (ps qs : List Piece) → IsLongerRun first last ps qs → length qs ≡ length ps
pieces-longer first last ps qs (init, start, end, was, is, next) =
    ap length is ∙ length-append init (Ticks start last ∷ []) ∙ sym (length-append init (Ticks start end ∷ [])) ∙ sym (ap length was)
