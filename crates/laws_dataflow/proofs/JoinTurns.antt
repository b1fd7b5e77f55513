-- The turns of a join, by the laws of its two sides, are turns of a net.
use Rattle.std.proofs.Common.{ℕ, ◌+◌, ◌<◌, Bool, true, false, List, [], ◌∷◌, ◌++◌, length, sym, subst}
use Rattle.values.specs.Row.{Row}
use Rattle.op_queue.specs.Entries.{Entry, TickAt}
use Rattle.op_queue.proofs.PathLemmas.{Leads-take_tick}
use Rattle.laws_dataflow.specs.Nets.{Binary, World, join, at_join, GoodTwo, LeftStep, RightStep, batch, Turn, left_rows, right_rows, left_first, right_first, left_last, right_last}
use Rattle.laws_dataflow.proofs.FrontLemmas.{front_instant}

module _ (w : World) (f : Binary) (x y : ℕ) (v u : ℕ → List Row) (q r : List (Entry Row)) (l m o : List Row) (n : ℕ) (lo : List Row) (nl : ℕ) (ro : List Row) (nr : ℕ) where
  pub left_rows_made : (t : ℕ) (b ys : List (Bool × Row)) (l2 : List Row) (right : Bool) → 0 < length b → LeftStep f l m b ys l2 → GoodTwo f v u (batch t b ++ q) r l m o n false right lo nl ro nr
      → Turn w (join f x y) (at_join (batch t b ++ q) r l m o n false right) (batch t ys) (at_join q r l2 m (f.value l2 m) n false right)
  left_rows_made t b ys l2 right h law g =
      subst (λ j. Turn w (join f x y) (at_join (batch j b ++ q) r l m o n false right) (batch j ys) (at_join q r l2 m (f.value l2 m) n false right)) (sym (front_instant t b q h g.left_edge)) (left_rows f x y n b ys q r l l2 m o right law)

  pub right_rows_made : (t : ℕ) (b ys : List (Bool × Row)) (m2 : List Row) (left : Bool) → 0 < length b → RightStep f l m b ys m2 → GoodTwo f v u q (batch t b ++ r) l m o n left false lo nl ro nr
      → Turn w (join f x y) (at_join q (batch t b ++ r) l m o n left false) (batch t ys) (at_join q r l m2 (f.value l m2) n left false)
  right_rows_made t b ys m2 left h law g =
      subst (λ j. Turn w (join f x y) (at_join q (batch j b ++ r) l m o n left false) (batch j ys) (at_join q r l m2 (f.value l m2) n left false)) (sym (front_instant t b r h g.right_edge)) (right_rows f x y n b ys q r l m m2 o left law)

  -- the first tick of an instant is taken in, the second passed on
  pub left_first_made : (t : ℕ) → GoodTwo f v u (TickAt t ∷ q) r l m o n false false lo nl ro nr → Turn w (join f x y) (at_join (TickAt t ∷ q) r l m o n false false) [] (at_join q r l m o n true false)
  left_first_made t g = subst (λ j. Turn w (join f x y) (at_join (TickAt j ∷ q) r l m o n false false) [] (at_join q r l m o n true false)) (sym (Leads-take_tick g.left_edge).0) (left_first f x y n q r l m o)

  pub right_first_made : (t : ℕ) → GoodTwo f v u q (TickAt t ∷ r) l m o n false false lo nl ro nr → Turn w (join f x y) (at_join q (TickAt t ∷ r) l m o n false false) [] (at_join q r l m o n false true)
  right_first_made t g = subst (λ j. Turn w (join f x y) (at_join q (TickAt j ∷ r) l m o n false false) [] (at_join q r l m o n false true)) (sym (Leads-take_tick g.right_edge).0) (right_first f x y n q r l m o)

  pub left_last_made : (t : ℕ) → GoodTwo f v u (TickAt t ∷ q) r l m o n false true lo nl ro nr → Turn w (join f x y) (at_join (TickAt t ∷ q) r l m o n false true) (TickAt t ∷ []) (at_join q r l m o (n + 1) false false)
  left_last_made t g = subst (λ j. Turn w (join f x y) (at_join (TickAt j ∷ q) r l m o n false true) (TickAt j ∷ []) (at_join q r l m o (n + 1) false false)) (sym (Leads-take_tick g.left_edge).0) (left_last f x y n q r l m o)

  pub right_last_made : (t : ℕ) → GoodTwo f v u q (TickAt t ∷ r) l m o n true false lo nl ro nr → Turn w (join f x y) (at_join q (TickAt t ∷ r) l m o n true false) (TickAt t ∷ []) (at_join q r l m o (n + 1) false false)
  right_last_made t g = subst (λ j. Turn w (join f x y) (at_join q (TickAt j ∷ r) l m o n true false) (TickAt j ∷ []) (at_join q r l m o (n + 1) false false)) (sym (Leads-take_tick g.right_edge).0) (right_last f x y n q r l m o)
