-- Windows: each step keeps what is true of them.
use Rattle.std.proofs.Common.{◌≡◌, ℕ, ◌+◌, ◌<◌, ◌≤◌, Bool, true, false, cond, nat_le, nat_lt, ◌==◌, ◌&&◌, ◌||◌, List, [], ◌∷◌, ◌++◌, map, filter, refl, sym, ap, subst, arith, append-nil, append_assoc, lt-ltb, leb-true}
use Rattle.values.specs.Row.{Row}
use Rattle.values.specs.Window.{Element, Window, window_rows}
use Rattle.values.proofs.Windows.{AllAfter, window_rows-later}
use Rattle.op_queue.specs.Entries.{Entry, RowAt, TickAt}
use Rattle.op_queue.specs.Signed.{Same}
use Rattle.op_queue.proofs.SignedLemmas.{Same-refl, Same-sym, Same-trans}
use Rattle.windows.specs.Laws.{ComeAfter, Each, IsLater, IsPart, IsRising, WindowRows, WindowTick, coming}
use Rattle.windows.proofs.WindowLemmas.{Each_map, Each_append, Each_front, Each_filter}
use Rattle.laws_dataflow.specs.Windows.{Brings, opened, AreFrom, AreBelow, GoodWindow}

-- LISTS

pub Each_back : {A : Type 0} (P : A → Type 0) (xs ys : List A) → Each P (xs ++ ys) → Each P ys
Each_back P [] ys h = h
Each_back P (x ∷ xs) ys h = Each_back P xs ys h.1

-- a part of the first list
Each_part : {A : Type 0} (P : A → Type 0) (p : A → Bool) (xs ys : List A) → Each P (xs ++ ys) → Each P (filter p xs ++ ys)
Each_part P p xs ys h = Each_append P (filter p xs) ys (Each_filter P p xs (Each_front P xs ys h)) (Each_back P xs ys h)

IsRising_part : (p : Element → Bool) (xs ys : List Element) → IsRising (xs ++ ys) → IsRising (filter p xs ++ ys)
IsRising_part p [] ys h = h
IsRising_part p (x ∷ xs) ys h = here (p x) (Each_part (IsLater x) p xs ys h.0) (IsRising_part p xs ys h.1)
  where
    here : (b : Bool) → Each (IsLater x) (filter p xs ++ ys) → IsRising (filter p xs ++ ys) → IsRising (cond b (x ∷ filter p xs) (filter p xs) ++ ys)
    here true e i = (e, i)
    here false e i = i

pub rising_filter : (p : Element → Bool) (xs : List Element) → IsRising xs → IsRising (filter p xs)
rising_filter p xs h = subst IsRising (append-nil (filter p xs)) (IsRising_part p xs [] (subst IsRising (sym (append-nil xs)) h))

pub part_rises : {part whole : List Element} (ys : List Element) → IsPart part whole → IsRising (whole ++ ys) → IsRising (part ++ ys)
part_rises {part = part} {whole = whole} ys p h = subst (λ l. IsRising (l ++ ys)) (sym p.is) (IsRising_part p.test whole ys h)

pub part_each : (P : Element → Type 0) {part whole : List Element} (ys : List Element) → IsPart part whole → Each P (whole ++ ys) → Each P (part ++ ys)
part_each P {part = part} {whole = whole} ys p h = subst (λ l. Each P (l ++ ys)) (sym p.is) (Each_part P p.test whole ys h)

-- what comes behind a list that rises comes after it
behind_one : (es fs : List Element) (f : Element) → IsRising (es ++ f ∷ fs) → Each (λ e. IsLater e f) es
behind_one [] fs f h = tt
behind_one (e ∷ es) fs f h = ((Each_back (IsLater e) es (f ∷ fs) h.0).0, behind_one es fs f h.1)

without_one : (es fs : List Element) (f : Element) → IsRising (es ++ f ∷ fs) → IsRising (es ++ fs)
without_one [] fs f h = h.1
without_one (e ∷ es) fs f h = (Each_append (IsLater e) es fs (Each_front (IsLater e) es (f ∷ fs) h.0) (Each_back (IsLater e) es (f ∷ fs) h.0).1, without_one es fs f h.1)

pub behind : (es fs : List Element) → IsRising (es ++ fs) → ComeAfter es fs
behind es [] h = tt
behind es (f ∷ fs) h = (behind_one es fs f h, behind es fs (without_one es fs f h))

pub rising_front : (es fs : List Element) → IsRising (es ++ fs) → IsRising es
rising_front [] fs h = tt
rising_front (e ∷ es) fs h = (Each_front (IsLater e) es fs h.0, rising_front es fs h.1)

-- elements of later instants come after
later_instant : (e f : Element) (c : ℕ) → e.instant < c → c ≤ f.instant → IsLater e f
later_instant e f c h k = ap (λ b. b || (e.instant == f.instant && nat_lt e.arrival f.arrival)) (lt-ltb e.instant f.instant (omega (arith, h, k)))

pub after_closed : (c : ℕ) (es fs : List Element) → AreBelow c es → AreFrom c fs → ComeAfter es fs
after_closed c es [] h k = tt
after_closed c es (f ∷ fs) h k = (Each_map (λ e. e.instant < c) (λ e. IsLater e f) (λ e i. later_instant e f c i k.0) es h, after_closed c es fs h k.1)

-- THE QUEUE

pub Brings_after : (n : ℕ) (q : List (Entry Row)) (es : List Element) (c : ℕ) → Brings n q es c → n ≤ c
Brings_after n [] [] c h = omega (arith, h)
Brings_after n [] (e ∷ es) c h = absurd h
Brings_after n (RowAt t s ∷ q) [] c h = absurd h
Brings_after n (RowAt t s ∷ q) (e ∷ es) c h = Brings_after n q es c h.3
Brings_after n (TickAt t ∷ q) es c h = omega (arith, Brings_after (n + 1) q es c h.1)

pub Brings_from : (n : ℕ) (q : List (Entry Row)) (es : List Element) (c : ℕ) → Brings n q es c → AreFrom n es
Brings_from n [] [] c h = tt
Brings_from n [] (e ∷ es) c h = absurd h
Brings_from n (RowAt t s ∷ q) [] c h = absurd h
Brings_from n (RowAt t s ∷ q) (e ∷ es) c h = (omega (arith, h.2), Brings_from n q es c h.3)
Brings_from n (TickAt t ∷ q) es c h = Each_map (λ e. n + 1 ≤ e.instant) (λ e. n ≤ e.instant) (λ e i. omega (arith, i)) es (Brings_from (n + 1) q es c h.1)

pub Brings_rest : (n : ℕ) (es fs : List Element) (q : List (Entry Row)) (c : ℕ) → Brings n (map (RowAt n) (coming es) ++ q) (es ++ fs) c → Brings n q fs c
Brings_rest n [] fs q c h = h
Brings_rest n (e ∷ es) fs q c h = Brings_rest n es fs q c h.3

pub Brings_none : (n : ℕ) (es : List Element) (c : ℕ) → Brings n [] es c → (n ≡ c) × (es ≡ [])
Brings_none n [] c h = (h, refl)
Brings_none n (e ∷ es) c h = absurd h

pub Brings_append : (n : ℕ) (q more : List (Entry Row)) (es fs : List Element) (c c2 : ℕ) → Brings n q es c → Brings c more fs c2 → Brings n (q ++ more) (es ++ fs) c2
Brings_append n [] more [] fs c c2 h k = subst (λ m. Brings m more fs c2) (sym h) k
Brings_append n [] more (e ∷ es) fs c c2 h k = absurd h
Brings_append n (RowAt t s ∷ q) more [] fs c c2 h k = absurd h
Brings_append n (RowAt t s ∷ q) more (e ∷ es) fs c c2 h k = (h.0, h.1, h.2, Brings_append n q more es fs c c2 h.3 k)
Brings_append n (TickAt t ∷ q) more es fs c c2 h k = (h.0, Brings_append (n + 1) q more es fs c c2 h.1 k)

pub opened_from : (c : ℕ) (es : List Element) → AreFrom c (opened c es)
opened_from c [] = tt
opened_from c (e ∷ es) = here (nat_le c e.instant) refl (opened_from c es)
  where
    here : (b : Bool) → nat_le c e.instant ≡ b → AreFrom c (opened c es) → AreFrom c (cond b (e ∷ opened c es) (opened c es))
    here true h f = (leb-true c e.instant h, f)
    here false h f = f

-- THE STEPS

same_of : (xs ys : List Row) → xs ≡ ys → Same xs ys
same_of xs ys e = let P : List Row → Type 0 = λ l. Same xs l in subst P e (Same-refl xs)

module _ (first : ℕ) (w : Window) (input : List Element) (c : ℕ) where
  -- what is behind what a window holds comes after it
  follows : (es waiting later : List Element) → IsRising (es ++ waiting) → AreBelow c (es ++ waiting) → AreFrom c later → ComeAfter es (waiting ++ (opened c input ++ later))
  follows es waiting later r b f =
      Each_append (λ g. Each (λ e. IsLater e g) es) waiting (opened c input ++ later) (behind es waiting r)
      (after_closed c es (opened c input ++ later) (Each_front (λ e. e.instant < c) es waiting b) (Each_append (λ e. c ≤ e.instant) (opened c input) later (opened_from c input) f))

  -- rows are taken
  pub window_takes_rows : (n : ℕ) (es : List Element) (ys : List (Bool × Row)) (held held2 waiting : List Element) (o o2 : List Row) (q : List (Entry Row))
      → WindowRows first w n held o es ys held2 o2 → IsPart held2 (held ++ es)
      → GoodWindow first w input c held (es ++ waiting) n (map (RowAt n) (coming es) ++ q) → GoodWindow first w input c held2 waiting n q
  window_takes_rows n es ys held held2 waiting o o2 q law part g =
      let rising : IsRising ((held ++ es) ++ waiting) = subst IsRising (sym (append_assoc held es waiting)) g.rising in
      let closed : AreBelow c ((held ++ es) ++ waiting) = subst (AreBelow c) (sym (append_assoc held es waiting)) g.closed in
      record {
        rising = part_rises waiting part rising;
        closed = part_each (λ e. e.instant < c) waiting part closed;
        brings = Brings_rest n es waiting q c g.brings;
        stands = λ u later f h.
            let rest : List Element = waiting ++ (opened c input ++ later) in
            let e : held ++ ((es ++ waiting) ++ (opened c input ++ later)) ≡ held ++ (es ++ rest) = ap (λ l. held ++ l) (append_assoc es waiting (opened c input ++ later)) in
            Same-trans (g.stands u later f h) (Same-trans (same_of _ _ (ap (window_rows first w u) e)) (law.stays u rest h (follows (held ++ es) waiting later rising closed f)));
      }

  all_later : (n : ℕ) (es : List Element) → AreFrom (n + 1) es → AllAfter n es
  all_later n [] h = tt
  all_later n (e ∷ es) h = (omega (arith, h.0), all_later n es h.1)

  -- a tick is taken: then the window has put out what the definition shows
  pub window_takes_tick : (n : ℕ) (ys : List (Bool × Row)) (held held2 waiting : List Element) (o o2 : List Row) (q : List (Entry Row))
      → WindowTick first w n held o ys held2 o2 → IsPart held2 held
      → GoodWindow first w input c held waiting n (TickAt n ∷ q) → GoodWindow first w input c held2 waiting (n + 1) q × Same o2 (window_rows first w n input)
  window_takes_tick n ys held held2 waiting o o2 q law part g = (
    record {
      rising = part_rises waiting part g.rising;
      closed = part_each (λ e. e.instant < c) waiting part g.closed;
      brings = g.brings.1;
      stands = λ u later f h. Same-trans (g.stands u later f (omega (arith, h))) (law.stays u (waiting ++ (opened c input ++ later)) (omega (arith, h)) (follows held waiting later g.rising g.closed f));
    },
    Same-trans law.now (Same-sym (Same-trans at_now (same_of _ _ (window_rows-later first w n held (waiting ++ (opened c input ++ [])) (all_later n (waiting ++ (opened c input ++ [])) from_next))))),
  )
    where
      from_next : AreFrom (n + 1) (waiting ++ (opened c input ++ []))
      from_next = Each_append (λ e. n + 1 ≤ e.instant) waiting (opened c input ++ []) (Brings_from (n + 1) q waiting c g.brings.1)
          (Each_append (λ e. n + 1 ≤ e.instant) (opened c input) [] (Each_map (λ e. c ≤ e.instant) (λ e. n + 1 ≤ e.instant) (λ e i. omega (arith, i, Brings_after (n + 1) q waiting c g.brings.1)) (opened c input) (opened_from c input)) tt)

      at_now : Same (window_rows first w n input) (window_rows first w n (held ++ (waiting ++ (opened c input ++ []))))
      at_now = Same-trans (same_of _ _ (ap (window_rows first w n) (sym (append-nil input)))) (g.stands n [] tt (omega arith))
