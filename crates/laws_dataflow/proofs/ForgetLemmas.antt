-- Old elements may be forgotten: what is kept has to show the same from the instant before the root's open one on.
use Rattle.std.proofs.Common.{◌≡◌, ℕ, zero, suc, ◌+◌, ◌-◌, ◌<◌, ◌≤◌, ◌⊎◌, ⊎_elim, List, refl, subst, arith}
use Rattle.values.specs.Row.{Row}
use Rattle.values.specs.Window.{Element}
use Rattle.op_queue.specs.Entries.{Entry}
use Rattle.op_queue.proofs.PathLemmas.{Leads-after}
use Rattle.to_stream.specs.Turns.{State}
use Rattle.laws_dataflow.specs.Nets.{Node, window, unary, join, World, Cell, at_window, at_unary, at_join, cell_next, Input, GoodCell, Takes, left_of, right_of, input_of, Planned, Laid}
use Rattle.laws_dataflow.specs.Worlds.{forgotten, Keeps}
use Rattle.laws_dataflow.specs.Queries.{GoodQuery}
use Rattle.laws_dataflow.proofs.ChangeLemmas.{forgetting_changes}
use Rattle.laws_dataflow.proofs.JoinLemmas.{past-after}
use Rattle.laws_dataflow.proofs.QueryLemmas.{query_changes}
use Rattle.laws_dataflow.proofs.RootLemmas.{root_restarts}

-- an operator is not past those whose outputs it takes
takes_ahead : (w : World) (i : ℕ) (node : Node) (a : Cell) (ch : ℕ → Input) → Takes i node → GoodCell w node a (ch (left_of node)) (ch (right_of node)) → cell_next a ≤ (ch i).opens
takes_ahead w i (window k) a ch t g = absurd t
takes_ahead w i (unary f x) (at_window h e o q n) ch t g = absurd g
takes_ahead w i (unary f x) (at_unary q u o n) ch t g = subst (λ z. n ≤ (ch z).opens) t (Leads-after g.edge)
takes_ahead w i (unary f x) (at_join q r l m o n a b) ch t g = absurd g
takes_ahead w i (join f x y) (at_window h e o q n) ch t g = absurd g
takes_ahead w i (join f x y) (at_unary q u o n) ch t g = absurd g
takes_ahead w i (join f x y) (at_join q r l m o n a b) ch t g =
    ⊎_elim (λ p. subst (λ z. n ≤ (ch z).opens) p.0 (omega (arith, past-after a n, Leads-after g.left_edge)))
    (λ p. subst (λ z. n ≤ (ch z).opens) p.0 (omega (arith, past-after b n, Leads-after g.right_edge))) t

module _ (w : World) (nodes : ℕ → Node) (count : ℕ) (v : ℕ → ℕ → List Row) (least : ℕ → ℕ) (p : Planned w nodes count v least) (to : ℕ → ℕ) (l : Laid nodes count to) (start : ℕ) (earlier : List (ℕ × Row)) where
  ahead_within : (cells : ℕ → Cell) (s : State) (q : List (Entry Row)) (given : List (ℕ × Row)) → (g : GoodQuery w nodes count v start earlier cells s q given)
      → (fuel k : ℕ) → count ≤ k + fuel → k < count → g.root.opens ≤ cell_next (cells k)
  ahead_within cells s q given g zero k f h = absurd (omega (arith, f, h))
  ahead_within cells s q given g (suc fuel) k f h = ⊎_elim
      (λ e. let top : k ≡ count - 1 = omega (arith, l.final k h e) in subst (λ z. g.root.opens ≤ cell_next (cells z)) (sym_of top) (Leads-after g.root.edge))
      (λ lt. omega (arith, ahead_within cells s q given g fuel (to k) (omega (arith, f, l.later k h)) lt, takes_ahead w k (nodes (to k)) (cells (to k)) (input_of v cells) (l.taken k h lt) (g.good (to k) lt)))
      (at_most (to k) count (l.within k h))
    where
      sym_of : {a b : ℕ} → a ≡ b → b ≡ a
      sym_of e = omega (arith, e)

      at_most : (a b : ℕ) → a ≤ b → (a ≡ b) ⊎ (a < b)
      at_most a b e = grind (arith, e)

  -- no operator is behind the root
  pub opens_ahead : (cells : ℕ → Cell) (s : State) (q : List (Entry Row)) (given : List (ℕ × Row)) → (g : GoodQuery w nodes count v start earlier cells s q given) → (k : ℕ) → k < count → g.root.opens ≤ cell_next (cells k)
  opens_ahead cells s q given g k h = ahead_within cells s q given g count k (omega arith) h

  -- FORGETTING: then the answers start at the root's open instant, behind what was given
  pub query_forgets : (kept : ℕ → List Element) (least2 : ℕ → ℕ) (z : ℕ → ℕ → List Row) → Planned (forgotten w kept) nodes count z least2 → (cells : ℕ → Cell) (s : State) (q : List (Entry Row)) (given : List (ℕ × Row))
      → (g : GoodQuery w nodes count v start earlier cells s q given) → Keeps w kept (g.root.opens - 1) → GoodQuery (forgotten w kept) nodes count z g.root.opens given cells s q given
  query_forgets kept least2 z r cells s q given g k =
      query_changes w nodes count v least p g.root.opens given (forgotten w kept) (g.root.opens - 1) least2 z (forgetting_changes w kept (g.root.opens - 1) k) refl r l.some (omega arith) cells s q given
      (λ j h. omega (arith, opens_ahead cells s q given g j h))
      (record { good = g.good; root = root_restarts w.first start earlier (v (count - 1)) s q _ _ given g.root })
