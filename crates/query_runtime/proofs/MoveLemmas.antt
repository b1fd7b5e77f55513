-- Two operators of a query of which one has run a turn.
use Rattle.std.proofs.Common.{◌≡◌, ◌∙◌, ◌+◌, ◌<◌, ◌++◌, ℕ, IfErr, List, ap, arith, drop, get_or, length, length-append, set, subst, sym, take}
use Rattle.std.proofs.lemmas.List.{get_or-append-add, get_or-set_same, get_or_append_left, get_or_default, length-set, set-get_or, take_at}
use Rattle.std.specs.Prelude.{⊤, Result, Ok, Err}
use Rattle.column.specs.declared.batch.Side.{Side}
use Rattle.op_queue.specs.Logs.{Closed}
use Rattle.operators.specs.Ready.{PlainOperator}
use Rattle.operators.specs.Runs.{HasRunBelowLess, Stops}
use Rattle.operators.specs.declared.runs.Refused.{Refused}
use Rattle.operators.specs.declared.runs.Refused.TheVariants.{Before, Within}
use Rattle.laws_queries.specs.Plain.{no_operator, operator_at}

-- the list with other operators at k of its front and first in its back
abbrev both : List PlainOperator → List PlainOperator → ℕ → PlainOperator → PlainOperator → List PlainOperator
both xs ys k o to = set xs k o ++ set ys 0 to

abbrev written : List PlainOperator → List PlainOperator → List PlainOperator → ℕ → ℕ → PlainOperator → PlainOperator → List PlainOperator
written os xs ys len k o to = take len (both xs ys k o to ++ drop (length (both xs ys k o to)) os)

module _ (os xs ys : List PlainOperator) (len k j : ℕ) (o to e f : PlainOperator) (here : k < j) (front : length xs ≡ j) (some : 0 < length ys) (whole : os ≡ xs ++ ys) (many : len ≡ length os) where
  within : k < length xs
  within = omega (arith, here, front)

  set_length : length (set xs k o) ≡ j
  set_length = length-set xs k o ∙ front

  written_is : written os xs ys len k o to ≡ both xs ys k o to
  written_is =
      take_at (both xs ys k o to) (drop (length (both xs ys k o to)) os) len
      (omega (arith, length-append (set xs k o) (set ys 0 to), length-set xs k o, length-set ys 0 to, ap length whole, length-append xs ys, many))

  second_at : (ls bs : List PlainOperator) → length ls ≡ j → operator_at (ls ++ bs) j ≡ get_or bs 0 no_operator
  second_at ls bs is =
      let there : j ≡ length ls + 0 = omega (arith, is) in
      ap (λ i. get_or (ls ++ bs) i no_operator) there ∙ get_or-append-add ls bs 0 no_operator

  first_was : get_or xs k e ≡ operator_at os k
  first_was = get_or_default xs k e no_operator within ∙ sym (get_or_append_left xs ys no_operator k within) ∙ ap (λ l. operator_at l k) (sym whole)

  second_was : get_or ys 0 f ≡ operator_at os j
  second_was = get_or_default ys 0 f no_operator some ∙ sym (second_at xs ys front) ∙ ap (λ l. operator_at l j) (sym whole)

  first_is : o ≡ operator_at (written os xs ys len k o to) k
  first_is =
      sym (ap (λ l. operator_at l k) written_is ∙ get_or_append_left (set xs k o) (set ys 0 to) no_operator k (omega (arith, set_length, here)) ∙ get_or-set_same xs k o no_operator within)

  second_is : to ≡ operator_at (written os xs ys len k o to) j
  second_is = sym (ap (λ l. operator_at l j) written_is ∙ second_at (set xs k o) (set ys 0 to) set_length ∙ get_or-set_same ys 0 to no_operator some)

  all_same : o ≡ get_or xs k e → to ≡ get_or ys 0 f → written os xs ys len k o to ≡ os
  all_same a b =
      written_is ∙ ap (λ z. both xs ys k z to) a ∙ ap (λ z. both xs ys k (get_or xs k e) z) b ∙ ap (λ l. l ++ set ys 0 (get_or ys 0 f)) (set-get_or xs k e) ∙ ap (λ l. xs ++ l) (set-get_or ys 0 f) ∙ sym whole

  module _ (log : Closed) (side to_side : Side) (rows : ℕ) where
    pub pair_stopped : (r : Result ⊤ Refused) → IfErr r (λ z. Stops z ((o ≡ get_or xs k e) × (to ≡ get_or ys 0 f)) (HasRunBelowLess (get_or xs k e) log side rows (get_or ys 0 f) to_side o to))
        → IfErr r (λ z. Stops z (written os xs ys len k o to ≡ os) (HasRunBelowLess (operator_at os k) log side rows (operator_at os j) to_side (operator_at (written os xs ys len k o to) k) (operator_at (written os xs ys len k o to) j)))
    pair_stopped (Ok u) h = tt
    pair_stopped (Err Before) h = all_same h.0 h.1
    pair_stopped (Err Within) h =
        let new = written os xs ys len k o to in
        subst (λ z. HasRunBelowLess z log side rows (operator_at os j) to_side (operator_at new k) (operator_at new j)) first_was
        (subst (λ z. HasRunBelowLess (get_or xs k e) log side rows z to_side (operator_at new k) (operator_at new j)) second_was
        (subst (λ z. HasRunBelowLess (get_or xs k e) log side rows (get_or ys 0 f) to_side z (operator_at new j)) first_is
        (subst (λ z. HasRunBelowLess (get_or xs k e) log side rows (get_or ys 0 f) to_side o z) second_is h)))
