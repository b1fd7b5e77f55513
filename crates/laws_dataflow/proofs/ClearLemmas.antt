-- What is left of a queue that has ticks alone below an instant, read off the queue.
use Rattle.std.proofs.Common.{◌≡◌, ℕ, ◌+◌, ◌<◌, ◌≤◌, ◌⊎◌, ⊎_elim, Bool, true, false, cond, nat_le, List, [], ◌∷◌, ◌++◌, filter, refl, sym, ap, ◌∙◌, subst, subst₂, arith, le-leb}
use Rattle.std.proofs.lemmas.Bool.{cases_lt, lt-leb}
use Rattle.values.specs.Row.{Row}
use Rattle.values.specs.Window.{Element}
use Rattle.op_queue.specs.Entries.{Entry, RowAt, TickAt}
use Rattle.op_queue.specs.Forward.{instant_of}
use Rattle.op_queue.specs.Paths.{Leads, Synced}
use Rattle.laws_dataflow.specs.Windows.{Brings}
use Rattle.laws_dataflow.specs.Passes.{Clears, reached, ended, ticked}

-- the entries of the instant b and later ones
abbrev pub from_on : ℕ → List (Entry Row) → List (Entry Row)
from_on b q = filter (λ e. nat_le b (instant_of e)) q

-- no row is of an instant below b
abbrev pub TicksBelow : ℕ → List (Entry Row) → Type 0
TicksBelow b [] = Unit {0}
TicksBelow b (RowAt t s ∷ q) = (b ≤ t) × TicksBelow b q
TicksBelow b (TickAt t ∷ q) = TicksBelow b q

all_from : (v : ℕ → List Row) (i : List Row) (acc : List (Bool × Row)) (b n : ℕ) (q : List (Entry Row)) → b ≤ n → Synced v i acc n q → from_on b q ≡ q
all_from v i acc b n [] le s = refl
all_from v i acc b n (RowAt t x ∷ q) le s = ap (λ c. cond c (RowAt t x ∷ from_on b q) (from_on b q)) (le-leb b t (omega (arith, le, s.0))) ∙ ap (λ l. RowAt t x ∷ l) (all_from v i (acc ++ x ∷ []) b n q le s.1)
all_from v i acc b n (TickAt t ∷ q) le s = ap (λ c. cond c (TickAt t ∷ from_on b q) (from_on b q)) (le-leb b t (omega (arith, le, s.0))) ∙ ap (λ l. TickAt t ∷ l) (all_from v i acc b (n + 1) q (omega (arith, le)) s.2)

-- a queue between operators
pub clears_synced : (v : ℕ → List Row) (i : List Row) (acc : List (Bool × Row)) (b n : ℕ) (q : List (Entry Row)) → n ≤ b → TicksBelow b q → Synced v i acc n q → Clears b n q (from_on b q)
clears_synced v i acc b n [] le t s = ended n le
clears_synced v i acc b n (RowAt t x ∷ q) le h s =
    let at : b ≤ n = omega (arith, h.0, s.0) in
    subst (Clears b n (RowAt t x ∷ q)) (sym (all_from v i acc b n (RowAt t x ∷ q) at s)) (reached n (RowAt t x ∷ q) at)
clears_synced v i acc b n (TickAt t ∷ q) le h s = ⊎_elim
    (λ lt. let gone : from_on b (TickAt t ∷ q) ≡ from_on b q = ap (λ c. cond c (TickAt t ∷ from_on b q) (from_on b q)) (lt-leb b t (omega (arith, lt, s.0))) in
    subst₂ (λ x r. Clears b n (TickAt x ∷ q) r) (sym s.0) (sym gone) (ticked n q (from_on b q) lt (clears_synced v i acc b (n + 1) q (omega (arith, lt)) h s.2)))
    (λ at. subst (Clears b n (TickAt t ∷ q)) (sym (all_from v i acc b n (TickAt t ∷ q) at s)) (reached n (TickAt t ∷ q) at))
    (cases_lt n b)

pub clears_path : (v : ℕ → List Row) (i bag : List Row) (b n m : ℕ) (q : List (Entry Row)) → n ≤ b → TicksBelow b q → Leads v i n q bag m → Clears b n q (from_on b q)
clears_path v i bag b n m q le t l = clears_synced v i [] b n q le t l.synced

-- the queue of a window
all_brought : (b n c : ℕ) (q : List (Entry Row)) (es : List Element) → b ≤ n → Brings n q es c → from_on b q ≡ q
all_brought b n c [] es le g = refl
all_brought b n c (RowAt t x ∷ q) [] le g = absurd g
all_brought b n c (RowAt t x ∷ q) (e ∷ es) le g = ap (λ c. cond c (RowAt t x ∷ from_on b q) (from_on b q)) (le-leb b t (omega (arith, le, g.0))) ∙ ap (λ l. RowAt t x ∷ l) (all_brought b n c q es le g.3)
all_brought b n c (TickAt t ∷ q) es le g = ap (λ c. cond c (TickAt t ∷ from_on b q) (from_on b q)) (le-leb b t (omega (arith, le, g.0))) ∙ ap (λ l. TickAt t ∷ l) (all_brought b (n + 1) c q es (omega (arith, le)) g.1)

pub clears_brought : (b n c : ℕ) (q : List (Entry Row)) (es : List Element) → n ≤ b → TicksBelow b q → Brings n q es c → Clears b n q (from_on b q)
clears_brought b n c [] es le t g = ended n le
clears_brought b n c (RowAt t x ∷ q) [] le h g = absurd g
clears_brought b n c (RowAt t x ∷ q) (e ∷ es) le h g =
    let at : b ≤ n = omega (arith, h.0, g.0) in
    subst (Clears b n (RowAt t x ∷ q)) (sym (all_brought b n c (RowAt t x ∷ q) (e ∷ es) at g)) (reached n (RowAt t x ∷ q) at)
clears_brought b n c (TickAt t ∷ q) es le h g = ⊎_elim
    (λ lt. let gone : from_on b (TickAt t ∷ q) ≡ from_on b q = ap (λ c. cond c (TickAt t ∷ from_on b q) (from_on b q)) (lt-leb b t (omega (arith, lt, g.0))) in
    subst₂ (λ x r. Clears b n (TickAt x ∷ q) r) (sym g.0) (sym gone) (ticked n q (from_on b q) lt (clears_brought b (n + 1) c q es (omega (arith, lt)) h g.1)))
    (λ at. subst (Clears b n (TickAt t ∷ q)) (sym (all_brought b n c (TickAt t ∷ q) es at g)) (reached n (TickAt t ∷ q) at))
    (cases_lt n b)
