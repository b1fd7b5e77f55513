-- Answers of closed instants do not change when elements of later instants are appended.
use Rattle.std.proofs.Common.{◌≡◌, ℕ, suc, ◌+◌, ◌<◌, ◌≤◌, List, [], ◌∷◌, ◌++◌, length, ap, ◌∙◌, arith}
use Rattle.values.specs.Row.{Row}
use Rattle.values.specs.Perm.{same}
use Rattle.values.specs.Tables.{SameTables}
pub use Rattle.values.specs.Arrivals.{Longer}
pub use Rattle.values.specs.Window.{AllFrom}
use Rattle.values.specs.Window.{Element, Window, numbered, window_rows}
use Rattle.values.specs.Answers.{Resolved, shown_at, answers}
use Rattle.values.proofs.Windows.{AllAfter, window_rows-later}
use Rattle.values.proofs.Worlds.{same-answers}

all_after : (until t : ℕ) (es : List Element) → t < until → AllFrom until es → AllAfter t es
all_after until t [] lt h = tt
all_after until t (e ∷ es) lt h = (let k : until ≤ e.instant = h.0 in omega arith, all_after until t es lt h.1)

same_tables : (ts : List (List Row)) → SameTables ts ts
same_tables [] = tt
same_tables (w ∷ ts) = (same w, same_tables ts)

pub shown-longer : (from until t : ℕ) → t < until → (ws : List Window) (is js : List (List Element)) → Longer until is js → SameTables (shown_at from ws t is) (shown_at from ws t js)
shown-longer from until t lt [] is js h = tt
shown-longer from until t lt (w ∷ ws) [] [] h = tt
shown-longer from until t lt (w ∷ ws) [] (g ∷ gs) h = absurd h
shown-longer from until t lt (w ∷ ws) (e ∷ es) [] h = absurd h
shown-longer from until t lt (w ∷ ws) (e ∷ es) (g ∷ gs) h =
    let same_window : window_rows from w t g ≡ window_rows from w t e
    = ap (window_rows from w t) h.0.1.0 ∙ window_rows-later from w t e h.0.0 (all_after until t h.0.0 lt h.0.1.1) in
    (rw same_window (same (window_rows from w t e)), shown-longer from until t lt ws es gs h.1)

pub answers-closed : (q : Resolved) (from until : ℕ) (is js : List (List Element)) → Longer until is js → answers q from until is ≡ answers q from until js
answers-closed q from until is js h = same-answers q from is js until (λ t le lt. shown-longer from until t lt q.windows is js h)

pub numbered-append : (n : ℕ) (xs ys : List (ℕ × Row)) → numbered n (xs ++ ys) ≡ numbered n xs ++ numbered (n + length xs) ys
numbered-append n [] ys = ap (λ (k : ℕ). numbered k ys) (omega arith)
numbered-append n (x ∷ xs) ys =
    ap (λ v. record { arrival = n; instant = x.0; row = x.1 } ∷ v) (numbered-append (suc n) xs ys ∙ ap (λ (k : ℕ). numbered (suc n) xs ++ numbered k ys) (omega arith))
