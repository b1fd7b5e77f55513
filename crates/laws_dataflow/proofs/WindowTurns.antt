-- The turns of a window's state are turns of a net.
use Rattle.std.proofs.Common.{◌≡◌, ℕ, ◌+◌, ◌<◌, Bool, List, ◌∷◌, ◌++◌, length, sym, ap, ◌∙◌, subst, subst₂, append_assoc}
use Rattle.values.specs.Row.{Row}
use Rattle.values.specs.Window.{Element}
use Rattle.op_queue.specs.Entries.{Entry, TickAt}
use Rattle.op_queue.specs.Paths.{rows_in}
use Rattle.op_queue.specs.declared.item.Item.TheVariants.{Rows, Tick}
use Rattle.windows.specs.Laws.{IsRising, Stands, TakesRows, TakesTick, WindowRows, WindowTick, coming, shown_by}
use Rattle.windows.specs.Windows.{IsNext, WindowState, near, out, window_of}
use Rattle.windows.proofs.OutLemmas.{out_rows, out_tick}
use Rattle.windows.proofs.WindowLaw.{takes_rows, takes_tick}
use Rattle.laws_dataflow.specs.Windows.{GoodWindow}
use Rattle.laws_dataflow.specs.Nets.{World, window, Cell, at_window, batch, Turn, window_rows_turn, window_tick_turn}
use Rattle.laws_dataflow.proofs.FrontLemmas.{Brought, brought, brought_instant}
use Rattle.laws_dataflow.proofs.WindowLemmas.{rising_front}

-- a window's turn: what it holds and what waits then, and that the new state stands for it
pub record WindowMade (w : World) (k : ℕ) (cell : Cell) (outs rest : List (Entry Row)) (n2 : ℕ) (new : WindowState) : Type 0 where
  pub held : List Element
  pub waiting : List Element
  pub turn : Turn w (window k) cell outs (at_window held waiting (shown_by new held) rest n2)
  pub stands : Stands w.first n2 new held

module _ (w : World) (k : ℕ) (s new : WindowState) (is : w.windows k ≡ window_of s) where
  -- rows at the open instant
  rows_at : (n c : ℕ) (held waiting : List Element) (b : List (Bool × Row)) (q : List (Entry Row)) → Stands w.first n s held → GoodWindow w.first (w.windows k) (w.inputs k) c held waiting n (batch n b ++ q) → IsNext s (Rows n b) new
      → WindowMade w k (at_window held waiting (shown_by s held) (batch n b ++ q) n) (out (Rows n b) (near s (Rows n b))) q n new
  rows_at n c held waiting b q h g next =
      let f : Brought n n b waiting = brought n n c b q waiting g.brings in
      let es : List Element = f.first in
      let rising : IsRising (held ++ es) = rising_front (held ++ es) f.rest (subst IsRising (ap (λ l. held ++ l) f.is ∙ sym (append_assoc held es f.rest)) g.rising) in
      let made : TakesRows w.first n s new held es = takes_rows w.first s new n held es h f.now rising (subst (λ x. IsNext s (Rows n x) new) f.rows next) in
      let outs : List (Entry Row) = out (Rows n (coming es)) (near s (Rows n (coming es))) in
      let after : Cell = at_window made.held2 f.rest (shown_by new made.held2) q n in
      let turn : Turn w (window k) (at_window held (es ++ f.rest) (shown_by s held) (batch n (coming es) ++ q) n) (batch n (rows_in outs)) after =
      window_rows_turn k n es (rows_in outs) held made.held2 f.rest (shown_by s held) (shown_by new made.held2) q
      (subst (λ v. WindowRows w.first v n held (shown_by s held) es (rows_in outs) made.held2 (shown_by new made.held2)) (sym is) made.law) made.part in
      let whole : WindowMade w k (at_window held (es ++ f.rest) (shown_by s held) (batch n (coming es) ++ q) n) outs q n new = record {
        held = made.held2;
        waiting = f.rest;
        turn = subst (λ (o : List (Entry Row)). Turn w (window k) (at_window held (es ++ f.rest) (shown_by s held) (batch n (coming es) ++ q) n) o after) (sym (out_rows s n (coming es))) turn;
        stands = made.stands;
      } in
      subst₂ (λ x y. WindowMade w k (at_window held y (shown_by s held) (batch n x ++ q) n) (out (Rows n x) (near s (Rows n x))) q n new) (sym f.rows) (sym f.is) whole

  pub rows_made : (t n c : ℕ) (held waiting : List Element) (b : List (Bool × Row)) (q : List (Entry Row)) → 0 < length b → Stands w.first n s held → GoodWindow w.first (w.windows k) (w.inputs k) c held waiting n (batch t b ++ q) → IsNext s (Rows t b) new
      → WindowMade w k (at_window held waiting (shown_by s held) (batch t b ++ q) n) (out (Rows t b) (near s (Rows t b))) q n new
  rows_made t n c held waiting b q l h g next =
      subst (λ i. GoodWindow w.first (w.windows k) (w.inputs k) c held waiting n (batch i b ++ q) → IsNext s (Rows i b) new → WindowMade w k (at_window held waiting (shown_by s held) (batch i b ++ q) n) (out (Rows i b) (near s (Rows i b))) q n new)
      (sym (brought_instant n t c b q waiting l g.brings)) (rows_at n c held waiting b q h) g next

  -- its tick
  tick_at : (n c : ℕ) (held waiting : List Element) (q : List (Entry Row)) → Stands w.first n s held → GoodWindow w.first (w.windows k) (w.inputs k) c held waiting n (TickAt n ∷ q) → IsNext s (Tick n) new
      → WindowMade w k (at_window held waiting (shown_by s held) (TickAt n ∷ q) n) (out (Tick n) (near s (Tick n))) q (n + 1) new
  tick_at n c held waiting q h g next =
      let made : TakesTick w.first n s new held = takes_tick w.first s new n held h next in
      let ys : List (Bool × Row) = rows_in (out (Tick n) (near s (Tick n))) in
      let after : Cell = at_window made.held2 waiting (shown_by new made.held2) q (n + 1) in
      record {
        held = made.held2;
        waiting = waiting;
        turn = subst (λ (o : List (Entry Row)). Turn w (window k) (at_window held waiting (shown_by s held) (TickAt n ∷ q) n) o after) (sym (out_tick s n))
            (window_tick_turn k n ys held made.held2 waiting (shown_by s held) (shown_by new made.held2) q
            (subst (λ v. WindowTick w.first v n held (shown_by s held) ys made.held2 (shown_by new made.held2)) (sym is) made.law) made.part);
        stands = made.stands;
      }

  pub tick_made : (t n c : ℕ) (held waiting : List Element) (q : List (Entry Row)) → Stands w.first n s held → GoodWindow w.first (w.windows k) (w.inputs k) c held waiting n (TickAt t ∷ q) → IsNext s (Tick t) new
      → WindowMade w k (at_window held waiting (shown_by s held) (TickAt t ∷ q) n) (out (Tick t) (near s (Tick t))) q (n + 1) new
  tick_made t n c held waiting q h g next =
      subst (λ i. GoodWindow w.first (w.windows k) (w.inputs k) c held waiting n (TickAt i ∷ q) → IsNext s (Tick i) new → WindowMade w k (at_window held waiting (shown_by s held) (TickAt i ∷ q) n) (out (Tick i) (near s (Tick i))) q (n + 1) new)
      (sym g.brings.0) (tick_at n c held waiting q h) g next
