-- The rows of a window of instants in order: which leave, and which enter.
use Rattle.std.proofs.Common.{◌≡◌, ℕ, zero, suc, ◌-◌, ◌≤◌, Bool, true, false, not, cond, max, min, nat_lt, List, [], ◌∷◌, ◌++◌, map, length, take, drop, refl, ap, ap₂, sym, ◌∙◌, subst, arith, ltb-false, length-drop, append_assoc}
use Rattle.std.specs.List.{filter, All}
use Rattle.std.specs.List.Sorted.{IsNonDecreasingBy}
use Rattle.std.proofs.lemmas.List.{drop-map, length-map, map-append, take-map, take_all}
use Rattle.std.proofs.lemmas.List.Sums.{length-filter, count_by-le-length}
use Rattle.values.specs.Row.{Row}
use Rattle.std.proofs.lemmas.List.Elements.{All-nil, All-drop, All-filter, All-map, All-take}
use Rattle.op_queue.specs.Entries.{Entry, RowAt, TickAt}
use Rattle.op_queue.specs.Forward.{IsForward}
use Rattle.op_queue.specs.Queues.{HasGained, Waiting, first_begins}
use Rattle.op_queue.proofs.GainLemmas.{gained-item, gained-more, gained-same}
use Rattle.op_queue.specs.declared.item.Item.{Item}
use Rattle.op_queue.specs.declared.item.Item.TheVariants.{Rows, Tick}
use Rattle.windows.specs.Instants.{HaveOneWidthIn, InstantState, IsInOrder, entering, is_past, leaving, moved, moved_out, near, near_at, no_rows, out, past_count, signed, tick_out, with_rows}
use Rattle.values.specs.Moving.{moves, oldest}
use Rattle.windows.proofs.LeavingLemmas.{IsForward-front, near_count}
use Rattle.windows.proofs.OrderLemmas.{is_below, drop-below, below-none, sorted-head, sorted-tail}

abbrev above : ℕ → ℕ × Row → Bool
above n h = not (is_below n h)

-- none below, where the first is not
none_below : (n : ℕ) (h : ℕ × Row) (hs : List (ℕ × Row)) → IsNonDecreasingBy (λ h. h.0) (h ∷ hs) → is_below n h ≡ false → filter (is_below n) hs ≡ []
none_below n h hs s e =
    let all : All (λ (x : ℕ × Row). n ≤ x.0) (h ∷ hs) = sorted-head n h hs s (ltb-false h.0 n e) in
    below-none n hs (λ k d lt. all (suc k) d (omega (arith, lt)))

front_is : (n : ℕ) (hs : List (ℕ × Row)) → IsNonDecreasingBy (λ h. h.0) hs → take (length (filter (is_below n) hs)) hs ≡ filter (is_below n) hs
front_is n [] s = refl
front_is n (h ∷ hs) s = here (is_below n h) refl (front_is n hs (sorted-tail h hs s))
  where
    F : List (ℕ × Row)
    F = filter (is_below n) hs

    here : (b : Bool) → is_below n h ≡ b → take (length F) hs ≡ F → take (length (cond b (h ∷ F) F)) (h ∷ hs) ≡ cond b (h ∷ F) F
    here true e i = ap (λ l. h ∷ l) i
    here false e i = let none : F ≡ [] = none_below n h hs s e in ap (λ (l : List (ℕ × Row)). take (length l) (h ∷ hs)) none ∙ sym none

-- of the first k of them those below n stand in front, of the others too
pub record Parted (n k : ℕ) (hs : List (ℕ × Row)) (older : ℕ) : Type 0 where
  pub leave : take (min older k) hs ≡ filter (is_below n) (take k hs)
  pub pass : take (max older k - k) (drop k hs) ≡ filter (is_below n) (drop k hs)
  pub enter : take (length hs - max older k) (drop (max older k) hs) ≡ filter (above n) (drop k hs)

parted_at : (n k : ℕ) (hs : List (ℕ × Row)) → IsNonDecreasingBy (λ h. h.0) hs → k ≤ length hs → Parted n k hs (length (filter (is_below n) hs))
parted_at n zero hs s few =
    let o : ℕ = length (filter (is_below n) hs) in
    let a : min o 0 ≡ 0 = omega arith in
    let b : max o 0 - 0 ≡ o = omega arith in
    let c : max o 0 ≡ o = omega arith in
    record {
      leave = ap (λ j. take j hs) a;
      pass = ap (λ j. take j hs) b ∙ front_is n hs s;
      enter = ap (λ j. take (length hs - j) (drop j hs)) c ∙ take_all (length hs - o) (drop o hs) (omega (arith, length-drop o hs)) ∙ drop-below n hs s;
    }
parted_at n (suc k) [] s few = absurd (omega (arith, few))
parted_at n (suc k) (h ∷ hs) s few = here (is_below n h) refl (parted_at n k hs (sorted-tail h hs s) (omega (arith, few)))
  where
    F : List (ℕ × Row)
    F = filter (is_below n) hs

    O : ℕ
    O = length F

    here : (b : Bool) → is_below n h ≡ b → Parted n k hs O → Parted n (suc k) (h ∷ hs) (length (cond b (h ∷ F) F))
    here true e i =
        let a : min (suc O) (suc k) ≡ suc (min O k) = omega arith in
        let b : max (suc O) (suc k) - suc k ≡ max O k - k = omega arith in
        let c : max (suc O) (suc k) ≡ suc (max O k) = omega arith in
        let d : suc (length hs) - suc (max O k) ≡ length hs - max O k = omega arith in
        record {
          leave = ap (λ j. take j (h ∷ hs)) a ∙ ap (λ l. h ∷ l) i.leave ∙ sym (ap (λ q. cond q (h ∷ filter (is_below n) (take k hs)) (filter (is_below n) (take k hs))) e);
          pass = ap (λ j. take j (drop k hs)) b ∙ i.pass;
          enter = ap (λ j. take (suc (length hs) - j) (drop j (h ∷ hs))) c ∙ ap (λ j. take j (drop (max O k) hs)) d ∙ i.enter;
        }
    here false e i =
        let z : O ≡ 0 = ap length (none_below n h hs s e) in
        let a : min O (suc k) ≡ 0 = omega (arith, z) in
        let a2 : min O k ≡ 0 = omega (arith, z) in
        let b : max O (suc k) - suc k ≡ 0 = omega (arith, z) in
        let b2 : max O k - k ≡ 0 = omega (arith, z) in
        let c : max O (suc k) ≡ suc k = omega (arith, z) in
        let c2 : k ≡ max O k = omega (arith, z) in
        let d : suc (length hs) - suc k ≡ length hs - k = omega arith in
        record {
          leave = ap (λ j. take j (h ∷ hs)) a ∙ sym (ap (λ j. take j hs) a2) ∙ i.leave ∙ sym (ap (λ q. cond q (h ∷ filter (is_below n) (take k hs)) (filter (is_below n) (take k hs))) e);
          pass = ap (λ j. take j (drop k hs)) b ∙ sym (ap (λ j. take j (drop k hs)) b2) ∙ i.pass;
          enter = ap (λ j. take (suc (length hs) - j) (drop j (h ∷ hs))) c ∙ ap (λ j. take j (drop k hs)) d ∙ ap (λ j. take (length hs - j) (drop j hs)) c2 ∙ i.enter;
        }

pub parted : (n k older : ℕ) (hs : List (ℕ × Row)) → IsNonDecreasingBy (λ h. h.0) hs → k ≤ length hs → older ≡ length (filter (is_below n) hs) → Parted n k hs older
parted n k older hs s few e = subst (Parted n k hs) (sym e) (parted_at n k hs s few)

-- those that stay
pub stays : (n older : ℕ) (hs : List (ℕ × Row)) → IsNonDecreasingBy (λ h. h.0) hs → older ≡ length (filter (is_below n) hs) → drop older hs ≡ filter (above n) hs
stays n older hs s e = ap (λ j. drop j hs) e ∙ drop-below n hs s

-- the excerpt has the width of what is held
pub near_wide : (s : InstantState) (t : ℕ) → IsInOrder s.width s.held → HaveOneWidthIn (near_at s t)
near_wide s t r =
    let f : ℕ × Row → Row = λ h. h.1 in
    let P : ℕ × Row → Type 0 = λ h. length h.1 ≡ s.width in
    let Q : Row → Type 0 = λ x. length x ≡ s.width in (
      s.width,
      (
        All-map Q f (filter (is_past s.reach t) (take s.shown s.held)) (All-filter (is_past s.reach t) P (take s.shown s.held) (All-take P s.shown s.held r.wide)),
        All-map Q f (filter (λ h. not (is_past s.reach t h)) (drop s.shown s.held)) (All-filter (λ h. not (is_past s.reach t h)) P (drop s.shown s.held) (All-drop P s.shown s.held r.wide)),
      ),
    )

-- the same of an excerpt of any item
pub no_rows_wide : (s : InstantState) → HaveOneWidthIn (no_rows s)
no_rows_wide s = (0, (All-nil (λ (r : Row). length r ≡ 0), All-nil (λ (r : Row). length r ≡ 0)))

pub near_fits : (s : InstantState) (item : Item) → IsInOrder s.width s.held → HaveOneWidthIn (near s item)
near_fits s (Rows t b) r = no_rows_wide s
near_fits s (Tick t) r = here (moves s.reach t)
  where
    here : (b : Bool) → HaveOneWidthIn (cond b (near_at s t) (no_rows s))
    here true = near_wide s t r
    here false = no_rows_wide s

-- as many are older as stand in front
pub count_is : (n k first : ℕ) (held : List (ℕ × Row)) → k ≤ length held → take k (map (λ h. h.1) held) ≡ map (λ h. h.1) (filter (λ h. nat_lt h.0 first) held) → first ≡ n → k ≡ length (filter (is_below n) held)
count_is n k first held few older is =
    let f : ℕ × Row → Row = λ h. h.1 in
    near_count k held (map f (filter (is_below first) held)) few older
    ∙ length-map (filter (is_below first) held) f
    ∙ ap (λ m. length (filter (is_below m) held)) is

-- ---- what a queue gains
pub tick_moves : (s : InstantState) (t : ℕ) → moves s.reach t ≡ true → tick_out s t ≡ moved_out s t
tick_moves s t is = ap (λ b. out (Tick t) (cond b (near_at s t) (no_rows s))) is

pub tick_waits : (s : InstantState) (t : ℕ) → moves s.reach t ≡ false → tick_out s t ≡ TickAt t ∷ []
tick_waits s t is = ap (λ b. out (Tick t) (cond b (near_at s t) (no_rows s))) is

-- the rows that leave, those that enter, and the tick, one behind the other
module _ (s : InstantState) (t : ℕ) (q : Waiting) where
  abbrev left : List (Entry Row)
  left = map (RowAt t) (map leaving (near_at s t).leave)

  abbrev shown : List (Entry Row)
  shown = map (RowAt t) (map entering (near_at s t).enter)

  abbrev tick : List (Entry Row)
  tick = TickAt t ∷ []

  outs : (left ++ shown) ++ tick ≡ moved_out s t
  outs =
      let at : Bool × Row → Entry Row = RowAt t in
      ap (λ es. es ++ tick) (sym (map-append at (map leaving (near_at s t).leave) (map entering (near_at s t).enter)))

  whole : ((q.entries ++ left) ++ shown) ++ tick ≡ q.entries ++ moved_out s t
  whole =
      ap (λ es. es ++ tick) (append_assoc q.entries left shown)
      ∙ append_assoc q.entries (left ++ shown) tick
      ∙ ap (λ es. q.entries ++ es) outs

  all_forward : IsForward (q.entries ++ moved_out s t) → IsForward (((q.entries ++ left) ++ shown) ++ tick)
  all_forward h = subst IsForward (sym whole) h

  pub left_forward : IsForward (q.entries ++ moved_out s t) → IsForward (q.entries ++ left)
  left_forward h = IsForward-front (q.entries ++ left) shown (IsForward-front ((q.entries ++ left) ++ shown) tick (all_forward h))

  pub shown_forward : (a : Waiting) → HasGained left q a → IsForward (q.entries ++ moved_out s t) → IsForward (a.entries ++ shown)
  shown_forward a g h =
      subst (λ es. IsForward (es ++ shown)) (sym g.entries) (IsForward-front ((q.entries ++ left) ++ shown) tick (all_forward h))

  pub tick_forward : (a b : Waiting) → HasGained left q a → HasGained shown a b → IsForward (q.entries ++ moved_out s t) → IsForward (b.entries ++ tick)
  tick_forward a b g k h =
      let e : (q.entries ++ left) ++ shown ≡ b.entries = ap (λ es. es ++ shown) (sym g.entries) ∙ sym k.entries in
      subst (λ es. IsForward (es ++ tick)) e (all_forward h)

  pub all_gained : (a b c : Waiting) → HasGained left q a → HasGained shown a b → c.entries ≡ b.entries ++ tick → c.begins ≡ b.begins ++ first_begins tick → HasGained (moved_out s t) q c
  all_gained a b c g k entries begins =
      gained-same outs (gained-more (left ++ shown) tick q b c (gained-more left shown q a b g k) (gained-item (Tick t) b c entries begins))

-- the rows of the two parts of a list
abbrev parts_of : (s : InstantState) (t older : ℕ) → Type 0
parts_of s t older = Parted (oldest s.reach t) s.shown s.held older

pub leave_is : (s : InstantState) (t older most : ℕ) → IsNonDecreasingBy (λ h. h.0) s.held → s.shown ≤ length s.held → older ≡ past_count s t → most ≡ min older s.shown → take most (map (λ h. h.1) s.held) ≡ (near_at s t).leave
leave_is s t older most sorted few counted is =
    let f : ℕ × Row → Row = λ h. h.1 in
    let p : parts_of s t older = parted (oldest s.reach t) s.shown older s.held sorted few counted in
    take-map f most s.held ∙ ap (λ k. map f (take k s.held)) is ∙ ap (map f) p.leave

pub enter_is : (s : InstantState) (t older middle count : ℕ) → IsNonDecreasingBy (λ h. h.0) s.held → s.shown ≤ length s.held → older ≡ past_count s t → middle ≡ max older s.shown → count ≡ length s.held - middle → take count (drop middle (map (λ h. h.1) s.held)) ≡ (near_at s t).enter
enter_is s t older middle count sorted few counted is rest =
    let f : ℕ × Row → Row = λ h. h.1 in
    let p : parts_of s t older = parted (oldest s.reach t) s.shown older s.held sorted few counted in
    ap (take count) (drop-map f middle s.held)
    ∙ take-map f count (drop middle s.held)
    ∙ ap (λ k. map f (take k (drop middle s.held))) rest
    ∙ ap (λ m. map f (take (length s.held - m) (drop m s.held))) is
    ∙ ap (map f) p.enter

-- none enters where the part is empty
pub none_enters : (s : InstantState) (t older middle : ℕ) → IsNonDecreasingBy (λ h. h.0) s.held → s.shown ≤ length s.held → older ≡ past_count s t → middle ≡ max older s.shown → length s.held ≤ middle → [] ≡ (near_at s t).enter
none_enters s t older middle sorted few counted is le =
    let z : length s.held - middle ≡ 0 = omega (arith, le) in
    sym (ap (λ n. take n (drop middle (map (λ h. h.1) s.held))) z) ∙ enter_is s t older middle (length s.held - middle) sorted few counted is refl

-- the state after the rows that are past have left from the front
pub moved_is : (s : InstantState) (t older : ℕ) → IsNonDecreasingBy (λ h. h.0) s.held → older ≡ past_count s t → with_rows s true (drop older s.held) ≡ moved s t
moved_is s t older sorted counted = ap (with_rows s true) (stays (oldest s.reach t) older s.held sorted counted)

pub past_few : (s : InstantState) (t older : ℕ) → older ≡ past_count s t → older ≤ length s.held
past_few s t older is = omega (arith, is, length-filter (is_past s.reach t) s.held, count_by-le-length (is_past s.reach t) s.held)
