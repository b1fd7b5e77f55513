-- What a window needs is what is above the mark, and what it shows at the mark or later when nothing more comes.
use Rattle.std.proofs.Common.{◌≡◌, ℕ, ◌+◌, ◌-◌, ◌≤◌, ◌<◌, Bool, true, false, ◌&&◌, ◌||◌, nat_le, nat_lt, List, refl, arith, le-leb, leb-true, leb-false, lt-ltb, ltb-true, ◌⊎◌, inl, inr}
use Rattle.values.specs.Window.{Element, Window, Instants, LastRows, count_later, counts, shows}
use Rattle.values.specs.Needs.{is_needed, still_shows}
use Rattle.values.proofs.CountLemmas.{and_both, and_true, tally_le}
use Rattle.values.proofs.ReachLemmas.{needed_reached, reached_needed}
use Rattle.values.proofs.Windows.{tally_is}
use Rattle.laws_forgetting.specs.Openings.{IsShownFrom, Moves, NeedsJust}

or_left : (a b : Bool) → a ≡ true → (a || b) ≡ true
or_left true b h = refl
or_left false b h = cc

-- WHAT IS NEEDED IS SHOWN
still : (start : ℕ) (w : Window) (next : ℕ) (es : List Element) (e : Element) → Moves w → start ≤ next → e.instant < next → still_shows start w (next - 1) es e ≡ true → IsShownFrom start w next es e
still start (Instants r) next es e s b l h = needed_reached r start next e.instant s b l h
still start (LastRows columns n) next es e s b l h = (next - 1, (omega arith, h))

needed_shown : (start : ℕ) (w : Window) (next : ℕ) (es : List Element) (e : Element) → Moves w → start ≤ next → is_needed start w next es e ≡ true → (next ≤ e.instant) ⊎ IsShownFrom start w next es e
needed_shown start w next es e s b h = here (nat_le next e.instant) refl h
  where
    here : (c : Bool) → nat_le next e.instant ≡ c → (c || still_shows start w (next - 1) es e) ≡ true → (next ≤ e.instant) ⊎ IsShownFrom start w next es e
    here true i k = inl (leb-true next e.instant i)
    here false i k = inr (still start w next es e s b (leb-false next e.instant i) k)

-- WHAT IS SHOWN IS NEEDED
-- shown later, it is shown at the mark
last_before : (columns : List ℕ) (n t u : ℕ) (es : List Element) (e : Element) → t ≤ u → nat_lt (count_later columns u es e) n ≡ true → nat_lt (count_later columns t es e) n ≡ true
last_before columns n t u es e h k = lt-ltb _ n (omega (arith, ltb-true _ n k, tally_le (counts columns t e) (counts columns u e) more es, tally_is (counts columns t e) es, tally_is (counts columns u e) es))
  where
    more : (f : Element) → counts columns t e f ≡ true → counts columns u e f ≡ true
    more f i = let a = and_true (nat_le f.instant t) _ i in and_both (nat_le f.instant u) _ (le-leb f.instant u (omega (arith, leb-true f.instant t a.0, h))) a.1

last_needed : (start : ℕ) (columns : List ℕ) (n next t : ℕ) (es : List Element) (e : Element) → next ≤ t + 1 → nat_lt (count_later columns t es e) n ≡ true → is_needed start (LastRows columns n) next es e ≡ true
last_needed start columns n next t es e h k = here (nat_le next e.instant) refl
  where
    here : (b : Bool) → nat_le next e.instant ≡ b → (b || (nat_le e.instant (next - 1) && nat_lt (count_later columns (next - 1) es e) n)) ≡ true
    here true j = refl
    here false j = and_both (nat_le e.instant (next - 1)) _ (le-leb e.instant (next - 1) (omega (arith, leb-false next e.instant j))) (last_before columns n (next - 1) t es e (omega (arith, h)) k)

shown_needed : (start : ℕ) (w : Window) (next t : ℕ) (es : List Element) (e : Element) → next ≤ t + 1 → shows start w t es e ≡ true → is_needed start w next es e ≡ true
shown_needed start (Instants r) next t es e h k = reached_needed r start next t e.instant h k
shown_needed start (LastRows columns n) next t es e h k = last_needed start columns n next t es e h (and_true (nat_le e.instant t) _ k).1

-- JUST THAT
pub needs_just : (start : ℕ) (w : Window) (next : ℕ) (es : List Element) → Moves w → start ≤ next → NeedsJust start w next es
needs_just start w next es s b = record {
  shown = λ e h. needed_shown start w next es e s b h;
  needed = λ e h. here e h;
}
  where
    here : (e : Element) → (next ≤ e.instant) ⊎ IsShownFrom start w next es e → is_needed start w next es e ≡ true
    here e (inl l) = or_left (nat_le next e.instant) _ (le-leb next e.instant l)
    here e (inr s) = shown_needed start w next s.0 es e s.1.0 s.1.1
