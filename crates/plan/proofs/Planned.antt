-- What `plan` makes of a resolved query.
use Rattle.std.proofs.Common.{◌≡◌, ℕ, false, ℤ, Option, None, List, map, length, refl, sym, ap, ◌∙◌}
use Rattle.std.proofs.lemmas.List.{length-map}
use Rattle.std.specs.Prelude.{Vec, Result, Ok, Err, IsErrAnd, IfErr}
use Rattle.std.specs.declared.alloc.Global.{Global}
use Rattle.std.specs.List.{AllByRecursion}
use Rattle.values.specs.Condition as conditions
use Rattle.values.specs.Answers as cql
use Rattle.values.specs.Resolved.{column_of, condition_of, shape_of, resolved_of}
use Rattle.values.specs.declared.resolved.Condition.{Condition}
use Rattle.values.specs.declared.resolved.Resolved.{Resolved}
use Rattle.cql_reader.specs.Query as syntax
use Rattle.names.specs.Catalog.{Stream}
use Rattle.names.specs.Resolved.{resolved, widths}
use Rattle.names.specs.Split.{JoinKey, all_conjuncts, own_of, join_keys_of, remaining}
use Rattle.names.specs.Faults as names
use Rattle.names.specs.Views as views
use Rattle.names.specs.declared.split.SourceKey.{SourceKey}
use Rattle.plan.specs.Build.{placed, moved, all_alone, key_placed, shape_node, nodes_over, plan_of}
use Rattle.plan.specs.Chart.{is_bad_chart}
use Rattle.plan.specs.Faults.{after_names, first_fault}
use Rattle.plan.specs.Scope.{InScope, ColumnsInScope, ShapeInScope, Scoped}
use Rattle.plan.specs.Told.{Told}
use Rattle.plan.specs.Views.{node_of, nodes_of}
use Rattle.plan.specs.declared.fault.PlanError.{PlanError}
use Rattle.plan.specs.declared.node.Node.{Node}
use Rattle.plan.proofs.Accepted.{accepted-scoped}
use Rattle.plan.proofs.Scopes.{keys_scope, rest_scope}

module _ (q : syntax.Query) (catalog : List Stream) (accepted : names.first_fault q catalog ≡ None) where
  scoped : Scoped (widths q catalog) (resolved q catalog)
  scoped = accepted-scoped q catalog accepted

  pub keys_ready : (n : ℕ) (vs : List ℕ) (keys lent : List (Vec SourceKey Global)) → vs ≡ widths q catalog
      → views.join_keys_of keys ≡ join_keys_of n (all_conjuncts (resolved q catalog).condition) → lent ≡ keys
      → AllByRecursion (λ ks. AllByRecursion (λ k. InScope vs (column_of k.earlier)) ks.items) lent
  keys_ready n vs keys lent e k l = rw (e, l) (keys_scope (widths q catalog) n (resolved q catalog).condition keys scoped.condition k)

  pub rest_ready : (n : ℕ) (vs : List ℕ) (rest : List Condition) → vs ≡ widths q catalog
      → views.conditions_of rest ≡ remaining n (all_conjuncts (resolved q catalog).condition) → AllByRecursion (λ c. ColumnsInScope vs (condition_of c)) rest
  rest_ready n vs rest e k = rw e (rest_scope (widths q catalog) n (resolved q catalog).condition rest scoped.condition k)

  pub shape_ready : (vs : List ℕ) (m : Resolved) → vs ≡ widths q catalog → resolved_of m ≡ resolved q catalog → ShapeInScope vs (shape_of m.shape)
  shape_ready vs m e r =
      let s : shape_of m.shape ≡ (resolved q catalog).shape = ap (λ x. x.shape) r in
      rw (e, s) scoped.shape

  pub fault_told : (given : Option (List (ℤ × ℤ))) (nodes lent : List Node) → lent ≡ nodes → nodes_of nodes ≡ plan_of (widths q catalog) (resolved q catalog)
      → (error : PlanError) → Told error (after_names None (is_bad_chart (length lent) given)) → Told error (first_fault q catalog given)
  fault_told given nodes lent l p error h =
      let e : length lent ≡ length (plan_of (widths q catalog) (resolved q catalog)) = ap length l ∙ sym (length-map nodes node_of) ∙ ap length p in
      rw accepted (rw e at h)

  pub no_fault : (given : Option (List (ℤ × ℤ))) (nodes lent : List Node) → lent ≡ nodes → nodes_of nodes ≡ plan_of (widths q catalog) (resolved q catalog)
      → is_bad_chart (length lent) given ≡ false → first_fault q catalog given ≡ None
  no_fault given nodes lent l p h =
      let e : length lent ≡ length (plan_of (widths q catalog) (resolved q catalog)) = ap length l ∙ sym (length-map nodes node_of) ∙ ap length p in
      let g : is_bad_chart (length (plan_of (widths q catalog) (resolved q catalog))) given ≡ false = rw e at h in
      rw (accepted, g) refl

-- the operators over the parts of a resolved query are its plan
pub planned : (q : syntax.Query) (catalog : List Stream) (n : ℕ) (vs : List ℕ) (m : cql.Resolved) (own : List (List conditions.Condition)) (keys : List (List JoinKey)) (rest : List conditions.Condition)
    → n ≡ length q.sources → vs ≡ widths q catalog → m ≡ resolved q catalog
    → own ≡ own_of n (all_conjuncts (resolved q catalog).condition) → keys ≡ join_keys_of n (all_conjuncts (resolved q catalog).condition)
    → rest ≡ remaining n (all_conjuncts (resolved q catalog).condition)
    → nodes_over (all_alone own) (map (map (key_placed vs)) keys) (map (moved (placed vs)) rest) m.is_distinct (λ top. shape_node (placed vs) top m.shape) m.operator
    ≡ plan_of (widths q catalog) (resolved q catalog)
planned q catalog n vs m own keys rest e w r o k s =
    let f : n ≡ length (resolved q catalog).windows = e ∙ sym (length-map q.sources _) in
    rw (o, k, s, w, r, f) refl

-- an error that is handed on
pub err_kept : {A E : Type 0} (r : Result A E) (e : E) (Q : E → Type 0) → IsErrAnd r (λ f. f ≡ e) → Q e → IfErr r Q
err_kept (Ok a) e Q h q = tt
err_kept (Err f) e Q h q = rw h q
