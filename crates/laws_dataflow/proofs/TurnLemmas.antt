-- One turn at one operator.
use Rattle.std.proofs.Common.{◌≡◌, ℕ, ◌+◌, Bool, List, refl}
use Rattle.values.specs.Row.{Row}
use Rattle.op_queue.specs.Entries.{Entry}
use Rattle.op_queue.specs.Paths.{Leads}
use Rattle.op_queue.specs.Signed.{Legal, Same, Turns}
use Rattle.op_queue.proofs.PathLemmas.{Leads-append, Leads-front_legal, Leads-none, Leads-rows, Leads-take_rows, Leads-take_tick, Leads-tick}
use Rattle.op_queue.proofs.SignedLemmas.{Same-refl, Same-sym, Same-trans, Turns-same}
use Rattle.laws_dataflow.specs.Windows.{GoodWindow}
use Rattle.laws_dataflow.specs.Nets.{Node, unary, join, World, bag_at, Cell, cell_shown, cell_next, Input, IsLawful, GoodCell, value_by, closing, Turn, window_rows_turn, window_tick_turn, rows_turn, tick_turn, left_rows, right_rows, left_first, right_first, left_last, right_last}
use Rattle.laws_dataflow.proofs.WindowLemmas.{window_takes_rows, window_takes_tick}
use Rattle.laws_dataflow.proofs.JoinLemmas.{two_left_rows, two_right_rows, two_left_first, two_right_first, two_left_last, two_right_last}

-- the operator stays good, and what it puts out leads from the bag that it had put out to the bag that it has
pub record TurnKept (w : World) (node : Node) (a : Cell) (outs : List (Entry Row)) (b : Cell) (c d : Input) : Type 0 where
  pub good : GoodCell w node b c d
  pub path : Leads (value_by w node c d) (cell_shown a) (cell_next a) outs (cell_shown b) (cell_next b)

closing_leads : (v : ℕ → List Row) (n : ℕ) (b c : List Row) (ys : List (Bool × Row)) → Turns b ys c → Same c (v n) → Leads v b n (closing n ys) c (n + 1)
closing_leads v n b c ys t s = Leads-append (Leads-rows v n t) (Leads-tick v n s)

pub turn_kept : (w : World) (node : Node) (a b : Cell) (outs : List (Entry Row)) (u z : Input) → IsLawful node → Turn w node a outs b → GoodCell w node a u z → TurnKept w node a outs b u z
turn_kept w node a b outs u z same (window_rows_turn k n es ys h h2 e o o2 q law part) g = record {
  good = window_takes_rows w.first (w.windows k) (w.inputs k) (w.closed k) n es ys h h2 e o o2 q law part g;
  path = Leads-rows (bag_at w k) n law.puts;
}
turn_kept w node a b outs u z same (window_tick_turn k n ys h h2 e o o2 q law part) g =
    let s : GoodWindow w.first (w.windows k) (w.inputs k) (w.closed k) h2 e (n + 1) q × Same o2 (bag_at w k n) = window_takes_tick w.first (w.windows k) (w.inputs k) (w.closed k) n ys h h2 e o o2 q law part g in
    record { good = s.0; path = closing_leads (bag_at w k) n o o2 ys law.puts s.1 }
turn_kept w node a b outs u z same (rows_turn f x n xs ys q i i2 o o2 law) g =
    let legal : Legal i xs = Leads-front_legal n xs q g.edge in
    record {
      good = record { edge = Leads-take_rows n xs q (law.took legal) g.edge; shows = λ s. law.shows legal s (g.shows s) };
      path = Leads-rows (value_by w (unary f x) u z) n (law.puts legal g.shows);
    }
turn_kept w node a b outs u z same (tick_turn f x n ys q i o o2 law) g =
    let h : (n ≡ n) × Same i (u.values n) × Leads u.values i (n + 1) q u.bag u.opens = Leads-take_tick g.edge in
    record {
      good = record { edge = h.2; shows = λ s. law.shows g.shows };
      path = closing_leads (value_by w (unary f x) u z) n o o2 ys (law.puts g.shows) (Same-trans (law.shows g.shows) (same i (u.values n) h.1));
    }
turn_kept w node a b outs u z same (left_rows f x y n xs ys q r l l2 m o d law) g = record {
  good = two_left_rows xs ys l2 d law g;
  path = Leads-rows (value_by w (join f x y) u z) n (Turns-same (Same-sym g.shows) (Same-refl _) (law.puts (Leads-front_legal n xs q g.left_edge)));
}
turn_kept w node a b outs u z same (right_rows f x y n xs ys q r l m m2 o c law) g = record {
  good = two_right_rows xs ys m2 c law g;
  path = Leads-rows (value_by w (join f x y) u z) n (Turns-same (Same-sym g.shows) (Same-refl _) (law.puts (Leads-front_legal n xs r g.right_edge)));
}
turn_kept w node a b outs u z same (left_first f x y n q r l m o) g = record { good = two_left_first g; path = Leads-none _ n (Same-refl o) }
turn_kept w node a b outs u z same (right_first f x y n q r l m o) g = record { good = two_right_first g; path = Leads-none _ n (Same-refl o) }
turn_kept w node a b outs u z same (left_last f x y n q r l m o) g =
    let h : (n ≡ n) × Same l (u.values n) × Leads u.values l (n + 1) q u.bag u.opens = Leads-take_tick g.left_edge in
    record { good = two_left_last g; path = Leads-tick (value_by w (join f x y) u z) n (Same-trans g.shows (same l (u.values n) m (z.values n) h.1 (g.right_ticked refl))) }
turn_kept w node a b outs u z same (right_last f x y n q r l m o) g =
    let h : (n ≡ n) × Same m (z.values n) × Leads z.values m (n + 1) r z.bag z.opens = Leads-take_tick g.right_edge in
    record { good = two_right_last g; path = Leads-tick (value_by w (join f x y) u z) n (Same-trans g.shows (same l (u.values n) m (z.values n) (g.left_ticked refl) h.1)) }
