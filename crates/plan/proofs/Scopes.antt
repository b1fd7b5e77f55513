-- The columns of a resolved query's parts are columns of its sources.
use Rattle.std.proofs.Common.{◌≡◌, ℕ, zero, suc, ◌-◌, ◌<◌, Option, List, [], ◌∷◌, length, get_or, arith}
use Rattle.std.specs.Prelude.{Vec}
use Rattle.std.specs.declared.alloc.Global.{Global}
use Rattle.std.specs.List.{AllByRecursion}
use Rattle.values.specs.Condition as spec
use Rattle.values.specs.Resolved.{column_of, condition_of}
use Rattle.values.specs.declared.resolved.Condition.{Condition}
use Rattle.names.specs.Split.{JoinKey, all_conjuncts, columns_of, columns_of_operand, remains, remaining, join_keys_of}
use Rattle.names.specs.Views as names
use Rattle.names.specs.declared.split.SourceKey.{SourceKey}
use Rattle.plan.specs.Scope.{InScope, OperandInScope, ColumnsInScope, ConditionInScope}
use Rattle.plan.proofs.Lists.{each-left, each-right, each-weaken, each-filter, each-unmap}
use Rattle.plan.proofs.Joins.{KeyInScope, KeysInScope}
use Rattle.plan.proofs.Owns.{all_scope}
use Rattle.plan.proofs.Keys.{all_keys-scope}

operand_scope : (vs : List ℕ) (a : spec.Operand) → AllByRecursion (InScope vs) (columns_of_operand a) → OperandInScope vs a
operand_scope vs (spec.Field c) h = h.0
operand_scope vs (spec.Number z) h = tt

by_parts : (vs : List ℕ) (c : spec.Condition) → AllByRecursion (InScope vs) (columns_of c) → ColumnsInScope vs c
by_parts vs (spec.Compared a how b) h =
    (operand_scope vs a (each-left (InScope vs) (columns_of_operand a) (columns_of_operand b) h), operand_scope vs b (each-right (InScope vs) (columns_of_operand a) (columns_of_operand b) h))
by_parts vs (spec.Not c) h = by_parts vs c h
by_parts vs (spec.And c d) h = (by_parts vs c (each-left (InScope vs) (columns_of c) (columns_of d) h), by_parts vs d (each-right (InScope vs) (columns_of c) (columns_of d) h))
by_parts vs (spec.Or c d) h = (by_parts vs c (each-left (InScope vs) (columns_of c) (columns_of d) h), by_parts vs d (each-right (InScope vs) (columns_of c) (columns_of d) h))

pub rest_scope : (vs : List ℕ) (n : ℕ) (o : Option spec.Condition) (rest : List Condition) → ConditionInScope vs o → names.conditions_of rest ≡ remaining n (all_conjuncts o)
    → AllByRecursion (λ c. ColumnsInScope vs (condition_of c)) rest
rest_scope vs n o rest h e =
    each-unmap (ColumnsInScope vs) condition_of rest
    (rw e (each-weaken (λ c. AllByRecursion (InScope vs) (columns_of c)) (ColumnsInScope vs) (by_parts vs) (remaining n (all_conjuncts o))
    (each-filter (λ c. AllByRecursion (InScope vs) (columns_of c)) (remains n) (all_conjuncts o) (all_scope vs o h))))

within : (vs : List ℕ) (s k : ℕ) → k < get_or vs s 0 → s < length vs
within [] s k h = absurd (let l : k < 0 = h in omega (arith, l))
within (v ∷ vs) zero k h = omega arith
within (v ∷ vs) (suc s) k h = omega (arith, within vs s k h)

each_known : (vs : List ℕ) (s : ℕ) (each : List (List JoinKey)) → KeysInScope vs s each → AllByRecursion (λ ks. AllByRecursion (λ k. InScope vs k.earlier) ks) each
each_known vs s [] h = tt
each_known vs s (ks ∷ each) h = (
  each-weaken (KeyInScope vs s) (λ k. InScope vs k.earlier) (λ k i. record { source = within vs k.earlier.source k.earlier.column i.column; column = i.column }) ks h.0,
  each_known vs (suc s) each h.1,
)

pub keys_scope : (vs : List ℕ) (n : ℕ) (o : Option spec.Condition) (keys : List (Vec SourceKey Global)) → ConditionInScope vs o → names.join_keys_of keys ≡ join_keys_of n (all_conjuncts o)
    → AllByRecursion (λ ks. AllByRecursion (λ k. InScope vs (column_of k.earlier)) ks.items) keys
keys_scope vs n o keys h e =
    each-weaken (λ ks. AllByRecursion (λ k. InScope vs k.earlier) (names.keys_of ks.items)) (λ ks. AllByRecursion (λ k. InScope vs (column_of k.earlier)) ks.items)
    (λ ks. each-unmap (λ k. InScope vs k.earlier) names.key_of ks.items) keys
    (each-unmap (λ ks. AllByRecursion (λ k. InScope vs k.earlier) ks) (λ ks. names.keys_of ks.items) keys
    (rw e (each_known vs 1 (join_keys_of n (all_conjuncts o)) (all_keys-scope vs (all_conjuncts o) (all_scope vs o h) 1 (n - 1)))))
