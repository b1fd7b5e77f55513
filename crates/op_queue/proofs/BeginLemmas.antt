-- Which entries of a queue begin an item that comes out at once.
use Rattle.std.proofs.Common.{◌≡◌, ℕ, suc, ◌+◌, ◌-◌, ◌<◌, ◌≤◌, Bool, true, false, List, [], ◌∷◌, ◌++◌, length, map, take, drop, get_or, min, refl, ap, sym, ◌∙◌, arith, append-nil, length-append, length-drop, append_assoc}
use Prim.Native.Nat.{zero}
use Rattle.std.specs.List.{flat_map, All}
use Rattle.std.proofs.lemmas.List.{length-map, map-append, drop-append-le, take-append-le}
use Rattle.std.proofs.lemmas.List.Concat.{flat_map-append}
use Rattle.std.proofs.lemmas.List.Elements.{All-head, All-tail}
use Rattle.values.specs.Row.{Row}
use Rattle.op_queue.specs.Entries.{Entry}
use Rattle.op_queue.specs.Items.{entries_of, ticks}
use Rattle.op_queue.specs.Queues.{at_once, before_next, each_begins, first_begins}
use Rattle.op_queue.specs.Pieces.{piece_begins, piece_entries, piece_size, queue_begins, queue_entries, IsPiece, IsQueue, IsLongerRun}
use Rattle.op_queue.specs.declared.item.Item.{Item}
use Rattle.op_queue.specs.declared.queue.Piece.{Piece}
use Rattle.op_queue.specs.declared.queue.Piece.TheVariants.{Rows, Ticks}
use Rattle.op_queue.proofs.PieceLemmas.{length-piece_entries}
use Rattle.op_queue.proofs.RunLemmas.{last-shaped, ticks-join}
use Rattle.op_queue.proofs.FrontLemmas.{queue_entries-cons}

length-first_begins : {X : Type 0} (xs : List X) → length (first_begins xs) ≡ length xs
length-first_begins [] = refl
length-first_begins (x ∷ xs) = ap suc (length-map xs (λ y. false))

pub length-piece_begins : (p : Piece) → length (piece_begins p) ≡ length (piece_entries p)
length-piece_begins (Rows t b) = length-first_begins (piece_entries (Rows t b))
length-piece_begins (Ticks first last) = length-map (piece_entries (Ticks first last)) (λ x. true)

length-begins : (ps : List Piece) → length (flat_map piece_begins ps) ≡ length (flat_map piece_entries ps)
length-begins [] = refl
length-begins (p ∷ ps) =
    let a = length-append (piece_begins p) (flat_map piece_begins ps) in
    let b = length-append (piece_entries p) (flat_map piece_entries ps) in
    omega (arith, length-begins ps, length-piece_begins p)

pub length-queue_begins : (taken : ℕ) (ps : List Piece) → length (queue_begins taken ps) ≡ length (queue_entries taken ps)
length-queue_begins taken ps =
    omega (arith, length-begins ps, length-drop taken (flat_map piece_begins ps), length-drop taken (flat_map piece_entries ps))

pub flat_map-begins_push : (ps : List Piece) (p : Piece) → flat_map piece_begins (ps ++ p ∷ []) ≡ flat_map piece_begins ps ++ piece_begins p
flat_map-begins_push ps p = flat_map-append piece_begins ps (p ∷ []) ∙ ap (λ x. flat_map piece_begins ps ++ x) (append-nil (piece_begins p))

pub queue_begins-push : {taken len : ℕ} (ps : List Piece) (p : Piece) → IsQueue taken len ps → queue_begins taken (ps ++ p ∷ []) ≡ queue_begins taken ps ++ piece_begins p
queue_begins-push {taken} ps p h =
    ap (drop taken) (flat_map-begins_push ps p) ∙ drop-append-le taken (flat_map piece_begins ps) (piece_begins p) (omega (arith, h.counted, length-begins ps))

-- ---- a run that grows
flat_map-begins_longer : (first last : ℕ) (ps qs : List Piece) → All IsPiece ps → first ≤ last → IsLongerRun first last ps qs → flat_map piece_begins qs ≡ flat_map piece_begins ps ++ each_begins (ticks first last)
flat_map-begins_longer first last ps qs shaped some (init, from, to, was, is, next) =
    let s = last-shaped init (Ticks from to) (rw was at shaped) in
    let f : Entry Row → Bool = λ x. true in
    let old : List Bool = flat_map piece_begins init in
    let joined : each_begins (ticks from last) ≡ each_begins (ticks from to) ++ each_begins (ticks first last) = ap (map f) (ticks-join from to first last s.1.0 next some) ∙ map-append f (ticks from to) (ticks first last) in
    ap (flat_map piece_begins) is
    ∙ flat_map-begins_push init (Ticks from last)
    ∙ ap (λ r. old ++ r) joined
    ∙ sym (append_assoc old (each_begins (ticks from to)) (each_begins (ticks first last)))
    ∙ ap (λ r. r ++ each_begins (ticks first last)) (sym (flat_map-begins_push init (Ticks from to)) ∙ ap (flat_map piece_begins) (sym was))

pub queue_begins-longer : {taken len : ℕ} (first last : ℕ) (ps qs : List Piece) → IsQueue taken len ps → first ≤ last → IsLongerRun first last ps qs → queue_begins taken qs ≡ queue_begins taken ps ++ each_begins (ticks first last)
queue_begins-longer {taken} first last ps qs h some longer =
    ap (drop taken) (flat_map-begins_longer first last ps qs h.shaped some longer) ∙ drop-append-le taken (flat_map piece_begins ps) (each_begins (ticks first last)) (omega (arith, h.counted, length-begins ps))

-- ---- what comes out at once
before_next-none : {X : Type 0} (xs : List X) → before_next (map (λ y. false) xs) ≡ length xs
before_next-none [] = refl
before_next-none (x ∷ xs) = omega (arith, before_next-none xs)

at_once-none : {X : Type 0} (taken : ℕ) (xs : List X) → taken < length xs → at_once (drop taken (map (λ y. false) xs)) ≡ length xs - taken
at_once-none taken [] some = absurd (omega arith)
at_once-none zero (x ∷ xs) some = omega (arith, before_next-none xs)
at_once-none (suc taken) (x ∷ xs) some = omega (arith, at_once-none taken xs (omega arith))

-- the rest of a batch
pub at_once-first : {X : Type 0} (taken : ℕ) (xs : List X) → taken < length xs → at_once (drop taken (first_begins xs)) ≡ length xs - taken
at_once-first taken [] some = absurd (omega arith)
at_once-first zero (x ∷ xs) some = omega (arith, before_next-none xs)
at_once-first (suc taken) (x ∷ xs) some = omega (arith, at_once-none taken xs (omega arith))

before_next-each : {X : Type 0} (xs : List X) → before_next (each_begins xs) ≡ 0
before_next-each [] = refl
before_next-each (x ∷ xs) = refl

-- a tick
pub at_once-each : {X : Type 0} (taken : ℕ) (xs : List X) → taken < length xs → at_once (drop taken (each_begins xs)) ≡ 1
at_once-each taken [] some = absurd (omega arith)
at_once-each zero (x ∷ xs) some = omega (arith, before_next-each xs)
at_once-each (suc taken) (x ∷ xs) some = at_once-each taken xs (omega arith)

before_next-le : (bs : List Bool) → before_next bs ≤ length bs
before_next-le [] = omega arith
before_next-le (true ∷ bs) = omega arith
before_next-le (false ∷ bs) = omega (arith, before_next-le bs)

at_once-le : (bs : List Bool) → at_once bs ≤ length bs
at_once-le [] = omega arith
at_once-le (b ∷ bs) = omega (arith, before_next-le bs)

before_next-append : (bs cs : List Bool) → before_next cs ≡ 0 → before_next (bs ++ cs) ≡ before_next bs
before_next-append [] cs h = h
before_next-append (true ∷ bs) cs h = refl
before_next-append (false ∷ bs) cs h = ap (λ n. 1 + n) (before_next-append bs cs h)

at_once-append : (bs cs : List Bool) → 0 < length bs → before_next cs ≡ 0 → at_once (bs ++ cs) ≡ at_once bs
at_once-append [] cs some h = absurd (omega arith)
at_once-append (b ∷ bs) cs some h = ap (λ n. 1 + n) (before_next-append bs cs h)

-- every piece begins an item
before_next-pieces : (ps : List Piece) → All IsPiece ps → before_next (flat_map piece_begins ps) ≡ 0
before_next-pieces [] h = refl
before_next-pieces (p ∷ ps) h = piece p (All-head IsPiece p ps h)
  where
    one : (bs : List Bool) → 0 < length bs → before_next bs ≡ 0 → before_next (bs ++ flat_map piece_begins ps) ≡ 0
    one [] some none = absurd (omega arith)
    one (true ∷ bs) some none = refl
    one (false ∷ bs) some none = absurd (omega arith)

    starts : (es : List (Entry Row)) → before_next (first_begins es) ≡ 0
    starts [] = refl
    starts (e ∷ es) = refl

    piece : (q : Piece) → IsPiece q → before_next (piece_begins q ++ flat_map piece_begins ps) ≡ 0
    piece (Rows t b) s = one (piece_begins (Rows t b)) (omega (arith, length-piece_begins (Rows t b), length-piece_entries (Rows t b), s.some)) (starts (piece_entries (Rows t b)))
    piece (Ticks first last) s = one (piece_begins (Ticks first last)) (omega (arith, length-piece_begins (Ticks first last), length-piece_entries (Ticks first last), s.0)) (before_next-each (piece_entries (Ticks first last)))

pub queue_begins-cons : (taken : ℕ) (p : Piece) (ps : List Piece) → taken < piece_size p → queue_begins taken (p ∷ ps) ≡ drop taken (piece_begins p) ++ flat_map piece_begins ps
queue_begins-cons taken p ps part =
    drop-append-le taken (piece_begins p) (flat_map piece_begins ps) (omega (arith, length-piece_begins p, length-piece_entries p))

at_once-queue : {taken len : ℕ} (q : Piece) (ps : List Piece) → IsQueue taken len (q ∷ ps) → at_once (queue_begins taken (q ∷ ps)) ≡ at_once (drop taken (piece_begins q))
at_once-queue {taken} q ps h =
    ap at_once (queue_begins-cons taken q ps h.started)
    ∙ at_once-append (drop taken (piece_begins q)) (flat_map piece_begins ps)
    (omega (arith, h.started, length-drop taken (piece_begins q), length-piece_begins q, length-piece_entries q))
    (before_next-pieces ps (All-tail IsPiece q ps h.shaped))

-- what comes out of the front piece comes out of the queue
pub front_cut-queue : {taken len : ℕ} (count : ℕ) (ps : List Piece) (p : Piece) (i : Item) → 0 < length ps → p ≡ get_or ps 0 p → IsQueue taken len ps → entries_of i ≡ take (min count (at_once (drop taken (piece_begins p)))) (drop taken (piece_entries p)) → entries_of i ≡ take (min count (at_once (queue_begins taken ps))) (queue_entries taken ps)
front_cut-queue count [] p i some is h cut = absurd (omega arith)
front_cut-queue {taken} count (q ∷ ps) p i some is h cut =
    let here : entries_of i ≡ take (min count (at_once (drop taken (piece_begins q)))) (drop taken (piece_entries q)) = rw is at cut in
    let n : min count (at_once (drop taken (piece_begins q))) ≤ length (drop taken (piece_entries q)) = omega (arith, at_once-le (drop taken (piece_begins q)), length-drop taken (piece_begins q), length-drop taken (piece_entries q), length-piece_begins q) in
    here
    ∙ sym (take-append-le (min count (at_once (drop taken (piece_begins q)))) (drop taken (piece_entries q)) (flat_map piece_entries ps) n)
    ∙ ap (take (min count (at_once (drop taken (piece_begins q))))) (sym (queue_entries-cons taken q ps h.started))
    ∙ ap (λ k. take (min count k) (queue_entries taken (q ∷ ps))) (sym (at_once-queue q ps h))

pub at_once-rows : (t taken : ℕ) (b : List (Bool × Row)) → taken < length b → at_once (drop taken (piece_begins (Rows t b))) ≡ length b - taken
at_once-rows t taken b some =
    let n = length-piece_entries (Rows t b) in
    at_once-first taken (piece_entries (Rows t b)) (omega arith) ∙ ap (λ k. k - taken) n

pub at_once-ticks : (first last taken : ℕ) → taken < last + 1 - first → at_once (drop taken (piece_begins (Ticks first last))) ≡ 1
at_once-ticks first last taken some =
    at_once-each taken (piece_entries (Ticks first last)) (omega (arith, length-piece_entries (Ticks first last)))
