-- No operator is past what its sources have closed, and where nothing is ready all have come there.
use Rattle.std.proofs.Common.{◌≡◌, ℕ, zero, suc, ◌<◌, ◌≤◌, List, sym, ◌∙◌, subst, arith}
use Rattle.values.specs.Row.{Row}
use Rattle.op_queue.specs.Paths.{Leads}
use Rattle.op_queue.proofs.PathLemmas.{Leads-after, Leads-empty}
use Rattle.laws_dataflow.specs.Windows.{Brings}
use Rattle.laws_dataflow.specs.Nets.{Node, window, unary, join, World, Cell, at_window, at_unary, at_join, cell_next, Input, GoodCell, left_of, right_of, input_of, GoodAt, IdleCell, LeastAt, ComesLater, Planned}
use Rattle.laws_dataflow.proofs.WindowLemmas.{Brings_after, Brings_none}
use Rattle.laws_dataflow.proofs.JoinLemmas.{idle_two, past-after}

open_at_least : (w : World) (least : ℕ → ℕ) (node : Node) (k : ℕ) (a : Cell) (ch : ℕ → Input) → LeastAt w least node k → IdleCell a → ((x : ℕ) → x < k → (ch x).opens ≡ least x) → ComesLater node k
    → GoodCell w node a (ch (left_of node)) (ch (right_of node)) → cell_next a ≡ least k
open_at_least w least (window x) k (at_window h es o q n) ch e i l c g = (Brings_none n es (w.closed x) (subst (λ z. Brings n z es (w.closed x)) i g.brings)).0 ∙ sym e
open_at_least w least (window x) k (at_unary q u z n) ch e i l c g = absurd g
open_at_least w least (window x) k (at_join q s u m z n a b) ch e i l c g = absurd g
open_at_least w least (unary f x) k (at_window h es o q n) ch e i l c g = absurd g
open_at_least w least (unary f x) k (at_unary q u z n) ch e i l c g = (Leads-empty (subst (λ y. Leads (ch x).values u n y (ch x).bag (ch x).opens) i g.edge)).0 ∙ (l x c ∙ sym e)
open_at_least w least (unary f x) k (at_join q s u m z n a b) ch e i l c g = absurd g
open_at_least w least (join f x y) k (at_window h es o q n) ch e i l c g = absurd g
open_at_least w least (join f x y) k (at_unary q u z n) ch e i l c g = absurd g
open_at_least w least (join f x y) k (at_join q s u m z n a b) ch e i l c g = idle_two a b g i.0 i.1 (l x c.0) (l y c.1) ∙ sym e

open_below : (w : World) (least : ℕ → ℕ) (node : Node) (k : ℕ) (a : Cell) (ch : ℕ → Input) → LeastAt w least node k → ((x : ℕ) → x < k → (ch x).opens ≤ least x) → ComesLater node k
    → GoodCell w node a (ch (left_of node)) (ch (right_of node)) → cell_next a ≤ least k
open_below w least (window x) k (at_window h es o q n) ch e l c g = omega (arith, e, Brings_after n q es (w.closed x) g.brings)
open_below w least (window x) k (at_unary q u z n) ch e l c g = absurd g
open_below w least (window x) k (at_join q s u m z n a b) ch e l c g = absurd g
open_below w least (unary f x) k (at_window h es o q n) ch e l c g = absurd g
open_below w least (unary f x) k (at_unary q u z n) ch e l c g = omega (arith, e, Leads-after g.edge, l x c)
open_below w least (unary f x) k (at_join q s u m z n a b) ch e l c g = absurd g
open_below w least (join f x y) k (at_window h es o q n) ch e l c g = absurd g
open_below w least (join f x y) k (at_unary q u z n) ch e l c g = absurd g
open_below w least (join f x y) k (at_join q s u m z n a b) ch e l c g = omega (arith, e, past-after a n, past-after b n, Leads-after g.left_edge, Leads-after g.right_edge, l x c.0, l y c.1)

module _ (w : World) (nodes : ℕ → Node) (count : ℕ) (v : ℕ → ℕ → List Row) (least : ℕ → ℕ) (s : ℕ → Cell) (p : Planned w nodes count v least) (good : (k : ℕ) → k < count → GoodAt w nodes v s k) where
  idle_within : ((k : ℕ) → k < count → IdleCell (s k)) → (m k : ℕ) → k < m → k < count → cell_next (s k) ≡ least k
  idle_within idle zero k h c = absurd (omega (arith, h))
  idle_within idle (suc m) k h c =
      open_at_least w least (nodes k) k (s k) (input_of v s) (p.opens k c) (idle k c) (λ x y. idle_within idle m x (omega (arith, y, h)) (omega (arith, y, c))) (p.rises k c) (good k c)

  -- WHERE NOTHING IS READY each operator stands at the least instant that is not closed
  pub all_idle : ((k : ℕ) → k < count → IdleCell (s k)) → (k : ℕ) → k < count → cell_next (s k) ≡ least k
  all_idle idle k c = idle_within idle count k c c

  below_within : (m k : ℕ) → k < m → k < count → cell_next (s k) ≤ least k
  below_within zero k h c = absurd (omega (arith, h))
  below_within (suc m) k h c =
      open_below w least (nodes k) k (s k) (input_of v s) (p.opens k c) (λ x y. below_within m x (omega (arith, y, h)) (omega (arith, y, c))) (p.rises k c) (good k c)

  -- and is never past it
  pub all_below : (k : ℕ) → k < count → cell_next (s k) ≤ least k
  all_below k c = below_within count k c c
