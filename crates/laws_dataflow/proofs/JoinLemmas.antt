-- What a turn keeps of a join.
use Rattle.std.proofs.Common.{◌≡◌, ℕ, ◌+◌, ◌≤◌, Bool, true, false, ◌⊎◌, ⊎_elim, min, List, [], ◌∷◌, ◌++◌, sym, subst, arith, true≢false, refl}
use Rattle.values.specs.Row.{Row}
use Rattle.op_queue.specs.Entries.{Entry, TickAt}
use Rattle.op_queue.specs.Paths.{Leads}
use Rattle.op_queue.proofs.PathLemmas.{Leads-after, Leads-empty, Leads-front_legal, Leads-take_rows, Leads-take_tick}
use Rattle.op_queue.proofs.SignedLemmas.{Same-refl}
use Rattle.laws_dataflow.specs.Nets.{Binary, GoodTwo, LeftStep, RightStep, batch, past}

untrue {ℓ} : {A : Type ℓ} → false ≡ true → A
untrue h = absurd (true≢false (sym h))

pub past-after : (b : Bool) (n : ℕ) → n ≤ past b n
past-after true n = omega arith
past-after false n = omega arith

module _ {f : Binary} {v u : ℕ → List Row} {q r : List (Entry Row)} {l m o : List Row} {n : ℕ} {lo ro : List Row} {nl nr : ℕ} where
  pub two_left_rows : (xs ys : List (Bool × Row)) (l2 : List Row) (b : Bool) → LeftStep f l m xs ys l2 → GoodTwo f v u (batch n xs ++ q) r l m o n false b lo nl ro nr → GoodTwo f v u q r l2 m (f.value l2 m) n false b lo nl ro nr
  two_left_rows xs ys l2 b law g = record { left_edge = Leads-take_rows n xs q (law.took (Leads-front_legal n xs q g.left_edge)) g.left_edge; right_edge = g.right_edge; shows = Same-refl _; left_ticked = λ h. untrue h; right_ticked = g.right_ticked; not_both = λ h k. untrue h }

  pub two_right_rows : (xs ys : List (Bool × Row)) (m2 : List Row) (a : Bool) → RightStep f l m xs ys m2 → GoodTwo f v u q (batch n xs ++ r) l m o n a false lo nl ro nr → GoodTwo f v u q r l m2 (f.value l m2) n a false lo nl ro nr
  two_right_rows xs ys m2 a law g = record { left_edge = g.left_edge; right_edge = Leads-take_rows n xs r (law.took (Leads-front_legal n xs r g.right_edge)) g.right_edge; shows = Same-refl _; left_ticked = g.left_ticked; right_ticked = λ h. untrue h; not_both = λ h k. untrue k }

  pub two_left_first : GoodTwo f v u (TickAt n ∷ q) r l m o n false false lo nl ro nr → GoodTwo f v u q r l m o n true false lo nl ro nr
  two_left_first g = record { left_edge = (Leads-take_tick g.left_edge).2; right_edge = g.right_edge; shows = g.shows; left_ticked = λ h. (Leads-take_tick g.left_edge).1; right_ticked = λ h. untrue h; not_both = λ h k. untrue k }

  pub two_right_first : GoodTwo f v u q (TickAt n ∷ r) l m o n false false lo nl ro nr → GoodTwo f v u q r l m o n false true lo nl ro nr
  two_right_first g = record { left_edge = g.left_edge; right_edge = (Leads-take_tick g.right_edge).2; shows = g.shows; left_ticked = λ h. untrue h; right_ticked = λ h. (Leads-take_tick g.right_edge).1; not_both = λ h k. untrue h }

  pub two_left_last : GoodTwo f v u (TickAt n ∷ q) r l m o n false true lo nl ro nr → GoodTwo f v u q r l m o (n + 1) false false lo nl ro nr
  two_left_last g = record { left_edge = (Leads-take_tick g.left_edge).2; right_edge = g.right_edge; shows = g.shows; left_ticked = λ h. untrue h; right_ticked = λ h. untrue h; not_both = λ h k. untrue k }

  pub two_right_last : GoodTwo f v u q (TickAt n ∷ r) l m o n true false lo nl ro nr → GoodTwo f v u q r l m o (n + 1) false false lo nl ro nr
  two_right_last g = record { left_edge = g.left_edge; right_edge = (Leads-take_tick g.right_edge).2; shows = g.shows; left_ticked = λ h. untrue h; right_ticked = λ h. untrue h; not_both = λ h k. untrue k }

  -- a join that can use neither side stands at the lesser of the open instants of its sides
  pub idle_two : (x y : Bool) {cl cr : ℕ} → GoodTwo f v u q r l m o n x y lo nl ro nr → (x ≡ true) ⊎ (q ≡ []) → (y ≡ true) ⊎ (r ≡ []) → nl ≡ cl → nr ≡ cr → n ≡ min cl cr
  idle_two true true g h k i j = absurd (g.not_both refl refl)
  idle_two true false g h k i j = ⊎_elim (λ z. untrue z) (λ z. omega (arith, (Leads-empty (subst (λ y. Leads u m n y ro nr) z g.right_edge)).0, Leads-after g.left_edge)) k
  idle_two false true g h k i j = ⊎_elim (λ z. untrue z) (λ z. omega (arith, (Leads-empty (subst (λ y. Leads v l n y lo nl) z g.left_edge)).0, Leads-after g.right_edge)) h
  idle_two false false g h k i j =
      ⊎_elim (λ z. untrue z) (λ z. ⊎_elim (λ z2. untrue z2) (λ z2. omega (arith, (Leads-empty (subst (λ y. Leads v l n y lo nl) z g.left_edge)).0, (Leads-empty (subst (λ y. Leads u m n y ro nr) z2 g.right_edge)).0)) k) h
