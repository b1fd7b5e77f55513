-- What stands first in a queue.
use Rattle.std.proofs.Common.{◌≡◌, ℕ, ◌<◌, Bool, List, [], ◌∷◌, ◌++◌, length, refl, ap, ap₂, ◌∙◌, arith, append-nil}
use Rattle.values.specs.Row.{Row}
use Rattle.values.specs.Window.{Element}
use Rattle.op_queue.specs.Entries.{Entry, TickAt}
use Rattle.op_queue.specs.Paths.{Leads, rows_in}
use Rattle.op_queue.proofs.PathLemmas.{rows_in-append, rows_in-batch}
use Rattle.windows.specs.Laws.{Each, coming}
use Rattle.laws_dataflow.specs.Windows.{Brings}
use Rattle.laws_dataflow.specs.Nets.{batch, closing}

-- rows are of the open instant
pub front_instant : {v : ℕ → List Row} {b d : List Row} {n m : ℕ} (t : ℕ) (xs : List (Bool × Row)) (q : List (Entry Row)) → 0 < length xs → Leads v b n (batch t xs ++ q) d m → t ≡ n
front_instant t [] q h l = absurd (omega (arith, h))
front_instant t (x ∷ xs) q h l = l.synced.0

-- the rows of a window's queue are elements that it brings
pub record Brought (n t : ℕ) (b : List (Bool × Row)) (waiting : List Element) : Type 0 where
  pub first : List Element
  pub rest : List Element
  pub is : waiting ≡ first ++ rest
  pub rows : b ≡ coming first
  pub now : Each (λ e. e.instant ≡ n) first

pub brought : (n t c : ℕ) (b : List (Bool × Row)) (q : List (Entry Row)) (waiting : List Element) → Brings n (batch t b ++ q) waiting c → Brought n t b waiting
brought n t c [] q waiting h = record { first = []; rest = waiting; is = refl; rows = refl; now = tt }
brought n t c (s ∷ b) q [] h = absurd h
brought n t c (s ∷ b) q (e ∷ waiting) h =
    let k : Brought n t b waiting = brought n t c b q waiting h.3 in
    record { first = e ∷ k.first; rest = k.rest; is = ap (λ l. e ∷ l) k.is; rows = ap₂ (λ x l. x ∷ l) h.1 k.rows; now = (h.2, k.now) }

pub brought_instant : (n t c : ℕ) (b : List (Bool × Row)) (q : List (Entry Row)) (waiting : List Element) → 0 < length b → Brings n (batch t b ++ q) waiting c → t ≡ n
brought_instant n t c [] q waiting l h = absurd (omega (arith, l))
brought_instant n t c (s ∷ b) q [] l h = absurd h
brought_instant n t c (s ∷ b) q (e ∷ waiting) l h = h.0

-- the rows of a batch with its tick
pub rows_of_closing : (n : ℕ) (xs : List (Bool × Row)) → rows_in (closing n xs) ≡ xs
unfolding rows_in
rows_of_closing n xs = rows_in-append (batch n xs) (TickAt n ∷ []) ∙ append-nil (rows_in (batch n xs)) ∙ rows_in-batch n xs
