-- Instants that never go back: what pushing asks.
use Rattle.std.proofs.Common.{◌≡◌, ℕ, suc, ◌+◌, ◌-◌, ◌<◌, ◌≤◌, Bool, List, [], ◌∷◌, ◌++◌, length, drop, map, get_or, refl, ap, sym, subst, arith, length-append, length-drop, ⊎_elim}
use Prim.Native.Nat.{zero}
use Rattle.std.specs.List.{All}
use Rattle.std.proofs.lemmas.Bool.{cases_lt}
use Rattle.std.proofs.lemmas.List.{get_or-append_right, get_or_append_left, get_or-drop}
use Rattle.std.proofs.lemmas.List.Elements.{All-append}
use Rattle.std.proofs.lemmas.List.FromFn.{get_or-map-range_with_len, length-map-range_with_len}
use Rattle.values.specs.Row.{Row}
use Rattle.op_queue.specs.Entries.{Entry, RowAt, TickAt}
use Rattle.op_queue.specs.Forward.{IsForward, IsUpTo, instant_of}
use Rattle.op_queue.specs.Items.{entries_of, item_instant, ticks}
use Rattle.op_queue.proofs.PieceLemmas.{IsForward-drop}
use Rattle.op_queue.specs.declared.item.Item.{Item}
use Rattle.op_queue.specs.declared.item.Item.TheVariants.{Rows, Tick}

-- what is said of the elements of two lists at any place of the one behind the other
pub seam : {X : Type 0} (P : X → X → Type 0) (xs ys : List X) (i j : ℕ) (d : X) → i ≤ j → j < length (xs ++ ys) → (j < length xs → P (get_or xs i d) (get_or xs j d)) → ((k : ℕ) → i < length xs → k < length ys → P (get_or xs i d) (get_or ys k d)) → ((k l : ℕ) → k ≤ l → l < length ys → P (get_or ys k d) (get_or ys l d)) → P (get_or (xs ++ ys) i d) (get_or (xs ++ ys) j d)
seam P xs ys i j d le lt left across right =
    let n = length-append xs ys in
    ⊎_elim
    (λ (b : j < length xs). rw (get_or_append_left xs ys d i (omega arith), get_or_append_left xs ys d j b) (left b))
    (λ (b : length xs ≤ j).
    ⊎_elim
    (λ (a : i < length xs). rw (get_or_append_left xs ys d i a, get_or-append_right xs ys (length xs) j d refl b) (across (j - length xs) a (omega arith)))
    (λ (a : length xs ≤ i). rw (get_or-append_right xs ys (length xs) i d refl a, get_or-append_right xs ys (length xs) j d refl b) (right (i - length xs) (j - length xs) (omega arith) (omega arith)))
    (cases_lt i (length xs)))
    (cases_lt j (length xs))

pub IsForward-append : {X : Type 0} (t : ℕ) (es fs : List (Entry X)) → IsForward es → All (λ e. instant_of e ≤ t) es → IsForward fs → All (λ e. t ≤ instant_of e) fs → IsForward (es ++ fs)
IsForward-append t es fs h below k above i j d le lt =
    seam (λ e f. instant_of e ≤ instant_of f) es fs i j d le lt
    (λ b. h i j d le b)
    (λ m a b. let u = below i d a in let v = above m d b in omega arith)
    (λ m n a b. k m n d a b)

-- each entry of an item has its instant
instant-item : (i : Item) (k : ℕ) (d : Entry Row) → k < length (entries_of i) → instant_of (get_or (entries_of i) k d) ≡ item_instant i
instant-item (Rows t b) k d lt =
    let f : Bool × Row → Entry Row = RowAt t in
    rows b k d lt
  where
    rows : (xs : List (Bool × Row)) (j : ℕ) (d : Entry Row) → j < length (map (RowAt t) xs) → instant_of (get_or (map (RowAt t) xs) j d) ≡ t
    rows [] j d lt = absurd (omega arith)
    rows (x ∷ xs) zero d lt = refl
    rows (x ∷ xs) (suc j) d lt = rows xs j d (omega arith)
instant-item (Tick t) zero d lt = refl
instant-item (Tick t) (suc k) d lt = absurd (omega arith)

-- an item at an instant that no entry of the queue lies above
pub IsForward-push : (es : List (Entry Row)) (i : Item) → IsForward es → All (λ e. instant_of e ≤ item_instant i) es → IsForward (es ++ entries_of i)
IsForward-push es i h below =
    IsForward-append (item_instant i) es (entries_of i) h below
    (λ j k d le lt. omega (arith, instant-item i j d (omega arith), instant-item i k d lt))
    (λ k d lt. omega (arith, instant-item i k d lt))

instant-ticks : (first last k : ℕ) (d : Entry Row) → k < last + 1 - first → instant_of (get_or (ticks first last) k d) ≡ first + k
instant-ticks first last k d lt =
    let f : ℕ → Entry Row = TickAt in
    ap instant_of (get_or-map-range_with_len f first (last + 1 - first) k (first + k) d lt refl)

length-ticks : (first last : ℕ) → length (ticks first last) ≡ last + 1 - first
length-ticks first last = let f : ℕ → Entry Row = TickAt in length-map-range_with_len f first (last + 1 - first)

-- a run of ticks from an instant that no entry of the queue lies above
pub IsForward-push_ticks : (es : List (Entry Row)) (first last : ℕ) → IsForward es → All (λ e. instant_of e ≤ first) es → IsForward (es ++ ticks first last)
IsForward-push_ticks es first last h below =
    let n = length-ticks first last in
    IsForward-append first es (ticks first last) h below
    (λ j k d le lt. omega (arith, instant-ticks first last j d (omega arith), instant-ticks first last k d (omega arith)))
    (λ k d lt. omega (arith, instant-ticks first last k d (omega arith)))

-- ---- a queue whose instants never go back, and never lie above t
pub IsUpTo-none : (es : List (Entry Row)) → es ≡ [] → IsUpTo 0 es
IsUpTo-none es none = let n = ap length none in record { forward = λ i j d le lt. absurd (omega arith); below = λ i d lt. absurd (omega arith) }

pub IsUpTo-push : {t : ℕ} (es fs : List (Entry Row)) (i : Item) → fs ≡ es ++ entries_of i → IsUpTo t es → t ≤ item_instant i → IsUpTo (item_instant i) fs
IsUpTo-push {t} es fs i is h le =
    let below : All (λ e. instant_of e ≤ item_instant i) es = λ k d lt. let u = h.below k d lt in omega arith in
    subst (IsUpTo (item_instant i)) (sym is)
    (record {
      forward = IsForward-push es i h.forward below;
      below = All-append (λ e. instant_of e ≤ item_instant i) es (entries_of i) below (λ k d lt. omega (arith, instant-item i k d lt));
    })

pub IsUpTo-push_ticks : {t : ℕ} (es fs : List (Entry Row)) (first last : ℕ) → fs ≡ es ++ ticks first last → IsUpTo t es → t ≤ first → first ≤ last → IsUpTo last fs
IsUpTo-push_ticks {t} es fs first last is h le some =
    let n = length-ticks first last in
    subst (IsUpTo last) (sym is)
    (record {
      forward = IsForward-push_ticks es first last h.forward (λ k d lt. let u = h.below k d lt in omega arith);
      below = All-append (λ e. instant_of e ≤ last) es (ticks first last) (λ k d lt. let u = h.below k d lt in omega arith) (λ k d lt. omega (arith, instant-ticks first last k d (omega arith)));
    })

-- what is left of it, once some have left
pub IsUpTo-drop : {t : ℕ} (n : ℕ) (es fs : List (Entry Row)) → fs ≡ drop n es → IsUpTo t es → IsUpTo t fs
IsUpTo-drop {t} n es fs is h =
    let l = length-drop n es in
    subst (IsUpTo t) (sym is)
    (record {
      forward = IsForward-drop n es h.forward;
      below = λ i d lt. rw (get_or-drop n es i d) (h.below (n + i) d (omega arith));
    })
