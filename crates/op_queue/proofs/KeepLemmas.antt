-- A queue while what came last is dropped.
use Rattle.std.proofs.Common.{◌≡◌, ℕ, suc, ◌+◌, ◌-◌, ◌<◌, ◌≤◌, Bool, true, false, Option, None, List, [], ◌∷◌, ◌++◌, length, map, take, drop, get_or, refl, ap, sym, ◌∙◌, arith, subst, length-append, length-drop, ⊎_elim}
use Prim.Native.Nat.{zero}
use Rattle.std.specs.List.{flat_map, range_with_len, All}
use Rattle.std.proofs.lemmas.Bool.{cases_lt, false≢true}
use Rattle.std.proofs.lemmas.List.{take_all, take-append-le, drop-append-le, get_or-append_right, get_or_append_left, get_or-drop, length-map}
use Rattle.std.proofs.lemmas.List.FromFn.{length-range_with_len}
use Rattle.values.specs.Row.{Row}
use Rattle.op_queue.specs.Entries.{Entry, RowAt, TickAt}
use Rattle.op_queue.specs.Forward.{IsForward}
use Rattle.op_queue.specs.Items.{entries_of}
use Rattle.op_queue.specs.Queues.{Waiting, HasGrown, IsCounted, IsCut, IsFirst, first_begins, pieces_of}
use Rattle.op_queue.specs.declared.item.Item.{Item}
use Rattle.op_queue.specs.Pieces.{piece_begins, piece_entries, piece_size, queue_begins, queue_entries, waiting_in, end_of, IsPiece, IsTaken, AreApart, IsQueue}
use Rattle.op_queue.specs.declared.queue.Piece.{Piece}
use Rattle.op_queue.specs.declared.queue.Piece.TheVariants.{Rows, Ticks}
use Rattle.op_queue.proofs.PieceLemmas.{flat_map-pieces_push, length-piece_entries}
use Rattle.op_queue.proofs.BeginLemmas.{flat_map-begins_push, length-queue_begins}
use Rattle.op_queue.proofs.CountLemmas.{pieces_of-queue}

-- ---- the pieces before the last one
All-init : {X : Type 0} (P : X → Type 0) (xs ys : List X) → All P (xs ++ ys) → All P xs
All-init P xs ys h i d lt = subst P (get_or_append_left xs ys d i lt) (h i d (omega (arith, length-append xs ys)))

AreApart-init : (o : Option (Entry Row)) (ps : List Piece) (p : Piece) → AreApart o (ps ++ p ∷ []) → AreApart o ps
AreApart-init o [] p h = tt
AreApart-init o (q ∷ ps) p h = (h.0, AreApart-init (end_of q) ps p h.1)

IsTaken-init : (taken : ℕ) (ps : List Piece) (p : Piece) → 0 < length ps → IsTaken taken (ps ++ p ∷ []) → IsTaken taken ps
IsTaken-init taken [] p some h = absurd (omega arith)
IsTaken-init taken (q ∷ ps) p some h = h

IsForward-init : (es fs : List (Entry Row)) → IsForward (es ++ fs) → IsForward es
IsForward-init es fs h i j d le lt =
    rw (sym (get_or_append_left es fs d i (omega arith)), sym (get_or_append_left es fs d j lt)) (h i j d le (omega (arith, length-append es fs)))

IsQueue-init : {taken len : ℕ} (ps : List Piece) (p : Piece) → taken ≤ length (flat_map piece_entries ps) → 0 < length ps → IsQueue taken len (ps ++ p ∷ []) → IsQueue taken (len - piece_size p) ps
IsQueue-init {taken} {len} ps p le some h =
    let all = flat_map-pieces_push ps p in
    let n = length-append (flat_map piece_entries ps) (piece_entries p) in
    record {
      shaped = All-init IsPiece ps (p ∷ []) h.shaped;
      counted = omega (arith, h.counted, ap length all, n, length-piece_entries p);
      started = IsTaken-init taken ps p some h.started;
      apart = AreApart-init None ps p h.apart;
      forward =
          IsForward-init (queue_entries taken ps) (piece_entries p)
          (let P : List (Entry Row) → Type 0 = IsForward in subst P (ap (drop taken) all ∙ drop-append-le taken (flat_map piece_entries ps) (piece_entries p) le) h.forward);
    }

-- ---- no batch begins within a piece
abbrev IsTick : Entry Row → Type 0
IsTick (RowAt t s) = ⊥
IsTick (TickAt t) = Unit {0}

ticks-at : (xs : List ℕ) (k : ℕ) (d : Entry Row) → k < length xs → IsTick (get_or (map TickAt xs) k d)
ticks-at [] k d lt = absurd (omega arith)
ticks-at (x ∷ xs) zero d lt = tt
ticks-at (x ∷ xs) (suc k) d lt = ticks-at xs k d (omega arith)

falses-at : {X : Type 0} (xs : List X) (k : ℕ) → get_or (map (λ y. false) xs) k false ≡ false
falses-at [] k = refl
falses-at (x ∷ xs) zero = refl
falses-at (x ∷ xs) (suc k) = falses-at xs k

first-at : {X : Type 0} (xs : List X) (k : ℕ) → 0 < k → get_or (first_begins xs) k false ≡ false
first-at [] k some = refl
first-at (x ∷ xs) zero some = absurd (omega arith)
first-at (x ∷ xs) (suc k) some = falses-at xs k

none_within : (p : Piece) (k t : ℕ) (s : Bool × Row) (d : Entry Row) → 0 < k → k < piece_size p → get_or (piece_entries p) k d ≡ RowAt t s → get_or (piece_begins p) k false ≡ true → ⊥
none_within (Rows u b) k t s d some lt row begins = let e : false ≡ true = sym (first-at (piece_entries (Rows u b)) k some) ∙ begins in false≢true e
none_within (Ticks first last) k t s d some lt row begins =
    let P : Entry Row → Type 0 = IsTick in
    subst P row (ticks-at (range_with_len first (last + 1 - first)) k d (omega (arith, length-range_with_len first (last + 1 - first))))

some_pieces : (ps : List Piece) → 0 < length (flat_map piece_entries ps) → 0 < length ps
some_pieces [] some = absurd (omega arith)
some_pieces (p ∷ ps) some = omega arith

-- ---- what is kept of what waited, while pieces go from the back
pub record IsKeeping (count : ℕ) (w : Waiting) (taken waiting : ℕ) (ps : List Piece) : Type 0 where
  pub queue : IsQueue taken waiting ps
  pub within : count ≤ waiting
  pub entries : take count (queue_entries taken ps) ≡ take count w.entries
  pub begins : take count (queue_begins taken ps) ≡ take count w.begins
  pub cut : IsCut count (waiting_in taken ps)

pub IsKeeping-start : {taken waiting : ℕ} (ps : List Piece) (count : ℕ) (w : Waiting) → waiting_in taken ps ≡ w → IsQueue taken waiting ps → count ≤ length w.entries → IsCut count w → IsKeeping count w taken waiting ps
IsKeeping-start {taken} {waiting} ps count w seen h within cut = record {
  queue = h;
  within = omega (arith, h.counted, h.started, within, ap (λ (v : Waiting). length v.entries) seen, length-drop taken (flat_map piece_entries ps));
  entries = ap (λ (v : Waiting). take count v.entries) seen;
  begins = ap (λ (v : Waiting). take count v.begins) seen;
  cut = let P : Waiting → Type 0 = IsCut count in subst P (sym seen) cut;
}

-- the last piece lies behind the place
cut_before : {taken waiting : ℕ} (count : ℕ) (ps : List Piece) (p : Piece) → IsQueue taken waiting (ps ++ p ∷ []) → count < waiting → IsCut count (waiting_in taken (ps ++ p ∷ [])) → taken + count ≤ length (flat_map piece_entries ps)
cut_before {taken} {waiting} count ps p h more cut =
    let es = flat_map piece_entries ps in
    let bs = flat_map piece_begins ps in
    let qs = ps ++ p ∷ [] in
    let all = flat_map-pieces_push ps p in
    let begun = flat_map-begins_push ps p in
    let n = length-append es (piece_entries p) in
    let m : length bs ≡ length es = length-queue_begins 0 ps in
    let d : Entry Row = TickAt 0 in
    let (t, s, row, begins) = cut d (omega (arith, h.counted, length-drop taken (flat_map piece_entries qs))) in
    ⊎_elim
    (λ (gt : length es < taken + count).
    let k = taken + count - length es in
    let row' : get_or (piece_entries p) k d ≡ RowAt t s =
    sym (get_or-append_right es (piece_entries p) (length es) (taken + count) d refl (omega arith))
    ∙ ap (λ xs. get_or xs (taken + count) d) (sym all)
    ∙ sym (get_or-drop taken (flat_map piece_entries qs) count d)
    ∙ row in
    let begins' : get_or (piece_begins p) k false ≡ true =
    sym (get_or-append_right bs (piece_begins p) (length es) (taken + count) false m (omega arith))
    ∙ ap (λ xs. get_or xs (taken + count) false) (sym begun)
    ∙ sym (get_or-drop taken (flat_map piece_begins qs) count false)
    ∙ begins in
    absurd (none_within p k t s d (omega arith) (omega (arith, h.counted, ap length all, n, length-piece_entries p)) row' begins'))
    (λ (le : taken + count ≤ length es). le)
    (cases_lt (length es) (taken + count))

pub IsKeeping-pop : {count taken waiting : ℕ} {w : Waiting} (ps qs : List Piece) (p : Piece) (size : ℕ) → qs ≡ ps ++ p ∷ [] → size ≡ piece_size p → 0 < count → count < waiting → IsKeeping count w taken waiting qs → IsKeeping count w taken (waiting - size) ps
IsKeeping-pop {count} {taken} {waiting} {w} ps qs p size is sized some more keeping =
    let P : List Piece → Type 0 = λ rs. IsKeeping count w taken waiting rs in
    let h = subst P is keeping in
    let es = flat_map piece_entries ps in
    let bs = flat_map piece_begins ps in
    let all = flat_map-pieces_push ps p in
    let begun = flat_map-begins_push ps p in
    let before = cut_before count ps p h.queue more h.cut in
    let m : length bs ≡ length es = length-queue_begins 0 ps in
    let left : length (queue_entries taken ps) ≡ length es - taken = length-drop taken es in
    let left' : length (queue_begins taken ps) ≡ length bs - taken = length-drop taken bs in
    let entries : queue_entries taken (ps ++ p ∷ []) ≡ queue_entries taken ps ++ piece_entries p = ap (drop taken) all ∙ drop-append-le taken es (piece_entries p) (omega arith) in
    let begins : queue_begins taken (ps ++ p ∷ []) ≡ queue_begins taken ps ++ piece_begins p = ap (drop taken) begun ∙ drop-append-le taken bs (piece_begins p) (omega arith) in
    let queue = IsQueue-init ps p (omega arith) (some_pieces ps (omega arith)) h.queue in
    let Q : ℕ → Type 0 = λ n. IsQueue taken (waiting - n) ps in
    record {
      queue = subst Q (sym sized) queue;
      within = omega (arith, h.queue.counted, ap length all, length-append es (piece_entries p), length-piece_entries p, sized);
      entries = sym (take-append-le count (queue_entries taken ps) (piece_entries p) (omega arith)) ∙ ap (take count) (sym entries) ∙ h.entries;
      begins = sym (take-append-le count (queue_begins taken ps) (piece_begins p) (omega arith)) ∙ ap (take count) (sym begins) ∙ h.begins;
      cut = λ d lt.
          let (t, s, row, begin) = h.cut d (omega (arith, ap length entries, length-append (queue_entries taken ps) (piece_entries p))) in (
            t,
            s,
            sym (get_or_append_left (queue_entries taken ps) (piece_entries p) d count lt) ∙ ap (λ xs. get_or xs count d) (sym entries) ∙ row,
            sym (get_or_append_left (queue_begins taken ps) (piece_begins p) false count (omega arith)) ∙ ap (λ xs. get_or xs count false) (sym begins) ∙ begin,
          );
    }

-- it has no more than waits
pub pop-few : {count taken waiting : ℕ} {w : Waiting} (ps qs : List Piece) (p : Piece) (size : ℕ) → qs ≡ ps ++ p ∷ [] → size ≡ piece_size p → 0 < count → count < waiting → IsKeeping count w taken waiting qs → size ≤ waiting
pop-few {count} {taken} {waiting} ps qs p size is sized some more keeping =
    let h = IsKeeping-pop ps qs p size is sized some more keeping in
    omega (arith, h.within)

-- what is left in the end
pub IsKeeping-end : {count taken waiting : ℕ} {w : Waiting} (ps : List Piece) → IsKeeping count w taken waiting ps → waiting ≤ count → IsFirst count w (waiting_in taken ps)
IsKeeping-end {count} {taken} {waiting} {w} ps h few =
    let n : length (queue_entries taken ps) ≡ count = omega (arith, h.queue.counted, h.within, length-drop taken (flat_map piece_entries ps)) in
    let entries : queue_entries taken ps ≡ take count w.entries = sym (take_all count (queue_entries taken ps) (omega arith)) ∙ h.entries in
    let begins : queue_begins taken ps ≡ take count w.begins = sym (take_all count (queue_begins taken ps) (omega (arith, length-queue_begins taken ps))) ∙ h.begins in
    record {
      entries = entries;
      begins = begins;
      pieces = pieces_of-queue ps h.queue ∙ ap (λ es. pieces_of es (queue_begins taken ps)) entries ∙ ap (pieces_of (take count w.entries)) begins;
    }

-- ---- what was pushed goes again
first-row : (t : ℕ) (xs : List (Bool × Row)) (d : Entry Row) → 0 < length xs → (s : Bool × Row) × (get_or (map (RowAt t) xs) 0 d ≡ RowAt t s)
first-row t [] d some = absurd (omega arith)
first-row t (x ∷ xs) d some = (x, refl)

first-begin : (es : List (Entry Row)) (bs : List Bool) → (length es ≡ 0 → get_or bs 0 false ≡ true) → get_or (first_begins es ++ bs) 0 false ≡ true
first-begin [] bs h = h refl
first-begin (e ∷ es) bs h = refl

zero-of : (n : ℕ) → n - n ≡ 0
zero-of n = omega arith

first-item : (is : List Item) → 0 < length (flat_map entries_of is) → get_or (flat_map (λ i. first_begins (entries_of i)) is) 0 false ≡ true
first-item [] some = absurd (omega arith)
first-item (i ∷ is) some =
    first-begin (entries_of i) (flat_map (λ j. first_begins (entries_of j)) is)
    (λ none. first-item is (omega (arith, length-append (entries_of i) (flat_map entries_of is), none)))

-- behind what was there a batch begins, or nothing is
pub cut_behind : (old new : Waiting) → IsCounted old → HasGrown old new → IsCut (length old.entries) new
cut_behind old new counted (t, xs, g) d lt =
    let n = length old.entries in
    let f : Bool × Row → Entry Row = RowAt t in
    let some : 0 < length xs = omega (arith, ap length g.entries, length-append old.entries (map f xs), length-map xs f) in
    let (s, row) = first-row t xs d some in
    let m : length old.begins ≡ n = counted.begins in (
      t,
      s,
      ap (λ es. get_or es n d) g.entries ∙ get_or-append_right old.entries (map f xs) n n d refl (omega arith) ∙ ap (λ k. get_or (map f xs) k d) (zero-of n) ∙ row,
      ap (λ bs. get_or bs n false) g.begins
          ∙ get_or-append_right old.begins (flat_map (λ i. first_begins (entries_of i)) g.items) n n false m (omega arith)
          ∙ ap (λ k. get_or (flat_map (λ i. first_begins (entries_of i)) g.items) k false) (zero-of n)
          ∙ first-item g.items (omega (arith, ap length g.stand, length-map xs f)),
    )

pub kept_before : (old new kept : Waiting) → IsCounted old → HasGrown old new → IsFirst (length old.entries) new kept → kept ≡ old
kept_before old new kept counted (t, xs, g) first =
    let n = length old.entries in
    let f : Bool × Row → Entry Row = RowAt t in
    let begun = flat_map (λ (i : Item). first_begins (entries_of i)) g.items in
    let entries : take n new.entries ≡ old.entries = ap (take n) g.entries ∙ take-append-le n old.entries (map f xs) (omega arith) ∙ take_all n old.entries (omega arith) in
    let begins : take n new.begins ≡ old.begins = ap (take n) g.begins ∙ take-append-le n old.begins begun (omega (arith, counted.begins)) ∙ take_all n old.begins (omega (arith, counted.begins)) in
    let pieces : kept.pieces ≡ old.pieces = first.pieces ∙ ap (λ es. pieces_of es (take n new.begins)) entries ∙ ap (pieces_of old.entries) begins ∙ sym counted.pieces in
    ap (λ es. record { entries = es; begins = kept.begins; pieces = kept.pieces }) (first.entries ∙ entries)
    ∙ ap (λ bs. record { entries = old.entries; begins = bs; pieces = kept.pieces }) (first.begins ∙ begins)
    ∙ ap (λ p. record { entries = old.entries; begins = old.begins; pieces = p }) pieces
