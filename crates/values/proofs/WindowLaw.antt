-- What a window shows of an input it shows of each part that has what it needs.
use Rattle.std.proofs.Common.{◌≡◌, ℕ, suc, ◌+◌, ◌-◌, ◌≤◌, Bool, true, false, cond, ◌&&◌, ◌||◌, nat_le, nat_lt, List, [], ◌∷◌, ◌++◌, map, filter, refl, ap, ap₂, sym, ◌∙◌, arith, true≢false, ltb-true, ltb-false, lt-ltb, le-leb, leb-true, leb-false}
use Rattle.std.proofs.lemmas.List.Elements.{filter-append}
use Rattle.values.specs.Window.{Element, Window, Instants, LastRows, counts, count_later, shows}
use Rattle.values.proofs.Windows.{tally, tally_is, tally-append}
use Rattle.values.specs.Needs.{is_needed}
use Rattle.values.specs.Enough.{Each, HasNeeded, WindowsShowTheSame}
use Rattle.values.proofs.CountLemmas.{and_true, and_both, tally_le, few_later, n_are_shown}
use Rattle.values.proofs.ReachLemmas.{reached_needed}

-- every item
Each_map : {A : Type 0} (P Q : A → Type 0) → ((x : A) → P x → Q x) → (xs : List A) → Each P xs → Each Q xs
Each_map P Q f [] h = tt
Each_map P Q f (x ∷ xs) h = (f x h.0, Each_map P Q f xs h.1)

filter_through : (p s r : Element → Bool) (xs : List Element) → ((x : Element) → s x ≡ r x) → Each (λ x. s x ≡ true → p x ≡ true) xs → filter r (filter p xs) ≡ filter s xs
filter_through p s r [] e h = refl
filter_through p s r (x ∷ xs) e h = here (p x) refl (s x) refl (filter_through p s r xs e h.1)
  where
    here : (b : Bool) → p x ≡ b → (c : Bool) → s x ≡ c → filter r (filter p xs) ≡ filter s xs → filter r (cond b (x ∷ filter p xs) (filter p xs)) ≡ cond c (x ∷ filter s xs) (filter s xs)
    here true i true j k = ap (λ d. cond d (x ∷ filter r (filter p xs)) (filter r (filter p xs))) (sym (e x) ∙ j) ∙ ap (λ l. x ∷ l) k
    here true i false j k = ap (λ d. cond d (x ∷ filter r (filter p xs)) (filter r (filter p xs))) (sym (e x) ∙ j) ∙ k
    here false i true j k = absurd (true≢false (sym (h.0 j) ∙ i))
    here false i false j k = k

filter_same : (s r : Element → Bool) (xs : List Element) → ((x : Element) → s x ≡ r x) → filter r xs ≡ filter s xs
filter_same s r [] e = refl
filter_same s r (x ∷ xs) e = ap (λ d. cond d (x ∷ filter r xs) (filter r xs)) (sym (e x)) ∙ ap (λ l. cond (s x) (x ∷ l) l) (filter_same s r xs e)

tally_part : (q p : Element → Bool) (xs : List Element) → tally q (filter p xs) ≤ tally q xs
tally_part q p [] = omega arith
tally_part q p (x ∷ xs) = here (p x) (q x) refl (tally_part q p xs)
  where
    here : (b c : Bool) → q x ≡ c → tally q (filter p xs) ≤ tally q xs → tally q (cond b (x ∷ filter p xs) (filter p xs)) ≤ cond c (suc (tally q xs)) (tally q xs)
    here true true e k = rw e (omega (arith, k))
    here true false e k = rw e k
    here false true e k = omega (arith, k)
    here false false e k = k

-- q gives p on the list
tally_kept : (q p : Element → Bool) (xs : List Element) → Each (λ x. q x ≡ true → p x ≡ true) xs → tally q xs ≤ tally q (filter p xs)
tally_kept q p [] h = omega arith
tally_kept q p (x ∷ xs) h = here (p x) refl (q x) refl (tally_kept q p xs h.1)
  where
    here : (b : Bool) → p x ≡ b → (c : Bool) → q x ≡ c → tally q xs ≤ tally q (filter p xs) → cond c (suc (tally q xs)) (tally q xs) ≤ tally q (cond b (x ∷ filter p xs) (filter p xs))
    here true i true e k = rw e (omega (arith, k))
    here true i false e k = rw e k
    here false i true e k = absurd (true≢false (sym (h.0 e) ∙ i))
    here false i false e k = k

same_bool : (a b : Bool) → (a ≡ true → b ≡ true) → (b ≡ true → a ≡ true) → a ≡ b
same_bool true true f g = refl
same_bool true false f g = absurd (true≢false (sym (f refl)))
same_bool false true f g = absurd (true≢false (sym (g refl)))
same_bool false false f g = refl

-- LAST ROWS
module _ (from : ℕ) (columns : List ℕ) (n t : ℕ) (es later : List Element) (kept : Element → Bool) where
  full : List Element
  full = es ++ later

  part : List Element
  part = filter kept es ++ later

  fewer : (q : Element → Bool) → tally q (filter kept es ++ later) ≤ tally q (es ++ later)
  fewer q = omega (arith, tally-append q (filter kept es) later, tally-append q es later, tally_part q kept es)

  last_rows : Each (λ f. f.instant ≤ t → nat_lt (tally (counts columns t f) (es ++ later)) n ≡ true → kept f ≡ true) es → (e : Element)
      → shows from (LastRows columns n) t (es ++ later) e ≡ shows from (LastRows columns n) t (filter kept es ++ later) e
  last_rows h e = ap (λ b. nat_le e.instant t && b) (same_bool (nat_lt (count_later columns t (es ++ later) e) n) (nat_lt (count_later columns t (filter kept es ++ later) e) n) down up)
    where
      of_full : count_later columns t (es ++ later) e ≡ tally (counts columns t e) (es ++ later)
      of_full = sym (tally_is (counts columns t e) (es ++ later))

      of_part : count_later columns t (filter kept es ++ later) e ≡ tally (counts columns t e) (filter kept es ++ later)
      of_part = sym (tally_is (counts columns t e) (filter kept es ++ later))

      down : nat_lt (count_later columns t (es ++ later) e) n ≡ true → nat_lt (count_later columns t (filter kept es ++ later) e) n ≡ true
      down k = lt-ltb _ n (omega (arith, of_full, of_part, fewer (counts columns t e), ltb-true _ n k))

      shown : Element → Bool
      shown f = counts columns t e f && few_later columns t n (es ++ later) f

      have : Each (λ f. shown f ≡ true → kept f ≡ true) es
      have = Each_map (λ f. f.instant ≤ t → nat_lt (tally (counts columns t f) (es ++ later)) n ≡ true → kept f ≡ true) (λ f. shown f ≡ true → kept f ≡ true)
          (λ f i k. let a = and_true (counts columns t e f) _ k in i (leb-true f.instant t (and_true (nat_le f.instant t) _ a.0).0) a.1) es h

      many : n ≤ tally (counts columns t e) (es ++ later) → n ≤ tally (counts columns t e) (filter kept es ++ later)
      many k = omega (
        arith,
        n_are_shown columns t n (es ++ later) (tally (counts columns t e) (es ++ later)) e (omega arith) k,
        tally-append shown es later,
        tally-append shown (filter kept es) later,
        tally_kept shown kept es have,
        tally_le shown (counts columns t e) (λ f i. (and_true (counts columns t e f) _ i).0) (filter kept es ++ later),
      )

      up : nat_lt (count_later columns t (filter kept es ++ later) e) n ≡ true → nat_lt (count_later columns t (es ++ later) e) n ≡ true
      up k = here (nat_lt (tally (counts columns t e) (es ++ later)) n) refl
        where
          here : (b : Bool) → nat_lt (tally (counts columns t e) (es ++ later)) n ≡ b → nat_lt (count_later columns t (es ++ later) e) n ≡ true
          here true j = ap (λ c. nat_lt c n) of_full ∙ j
          here false j = absurd (omega (arith, many (ltb-false _ n j), of_part, ltb-true _ n k))

-- WHAT IS SHOWN IS NEEDED
-- shown later, with more that came, it is shown at the mark by what had come
last_before : (columns : List ℕ) (n t u : ℕ) (es later : List Element) (e : Element) → t ≤ u → nat_lt (tally (counts columns u e) (es ++ later)) n ≡ true → nat_lt (count_later columns t es e) n ≡ true
last_before columns n t u es later e h k = lt-ltb _ n (omega (arith, ltb-true _ n k, tally-append (counts columns u e) es later, tally_le (counts columns t e) (counts columns u e) more es, tally_is (counts columns t e) es))
  where
    more : (f : Element) → counts columns t e f ≡ true → counts columns u e f ≡ true
    more f i = let a = and_true (nat_le f.instant t) _ i in and_both (nat_le f.instant u) _ (le-leb f.instant u (omega (arith, leb-true f.instant t a.0, h))) a.1

last_needed : (from : ℕ) (columns : List ℕ) (n next t : ℕ) (es later : List Element) (e : Element) → next ≤ t + 1 → nat_lt (tally (counts columns t e) (es ++ later)) n ≡ true → is_needed from (LastRows columns n) next es e ≡ true
last_needed from columns n next t es later e h k = here (nat_le next e.instant) refl
  where
    here : (b : Bool) → nat_le next e.instant ≡ b → (b || (nat_le e.instant (next - 1) && nat_lt (count_later columns (next - 1) es e) n)) ≡ true
    here true j = refl
    here false j = and_both (nat_le e.instant (next - 1)) _ (le-leb e.instant (next - 1) (omega (arith, leb-false next e.instant j))) (last_before columns n (next - 1) t es later e (omega (arith, h)) k)

-- from the mark on what a window shows of the whole input, with what came later, it needs
shown_needed : (from : ℕ) (w : Window) (next t : ℕ) (es later : List Element) (e : Element) → next ≤ t + 1 → shows from w t (es ++ later) e ≡ true → is_needed from w next es e ≡ true
shown_needed from (Instants r) next t es later e h k = reached_needed r from next t e.instant h k
shown_needed from (LastRows columns n) next t es later e h k =
    last_needed from columns n next t es later e h (ap (λ c. nat_lt c n) (tally_is (counts columns t e) (es ++ later)) ∙ (and_true (nat_le e.instant t) _ k).1)

-- THE LAW
shows_same : (from : ℕ) (w : Window) (next t : ℕ) (es later : List Element) (kept : Element → Bool) → HasNeeded from w next es kept → next ≤ t + 1 → (e : Element) → shows from w t (es ++ later) e ≡ shows from w t (filter kept es ++ later) e
shows_same from (Instants r) next t es later kept h k e = refl
shows_same from (LastRows columns n) next t es later kept h k e =
    last_rows from columns n t es later kept (Each_map (λ f. is_needed from (LastRows columns n) next es f ≡ true → kept f ≡ true) (λ f. f.instant ≤ t → nat_lt (tally (counts columns t f) (es ++ later)) n ≡ true → kept f ≡ true)
    (λ f i l j. i (last_needed from columns n next t es later f k j)) es h) e

pub window_law : (from : ℕ) (w : Window) (next : ℕ) (es : List Element) (kept : Element → Bool) → WindowsShowTheSame from w next es kept
window_law from w next es kept h t later k = ap (map (λ (e : Element). e.row)) (
    filter-append (shows from w t part) (filter kept es) later
    ∙ ap₂ (λ a b. a ++ b) (filter_through kept (shows from w t full) (shows from w t part) es same (Each_map (λ e. is_needed from w next es e ≡ true → kept e ≡ true) (λ e. shows from w t full e ≡ true → kept e ≡ true) (λ e i j. i (shown_needed from w next t es later e k j)) es h)) (filter_same (shows from w t full) (shows from w t part) later same)
    ∙ sym (filter-append (shows from w t full) es later))
  where
    full : List Element
    full = es ++ later

    part : List Element
    part = filter kept es ++ later

    same : (e : Element) → shows from w t full e ≡ shows from w t part e
    same = shows_same from w next t es later kept h k
