-- What a condition's steps mean, that they fit, and how many truths they need.
use Rattle.std.proofs.Common.{ℕ, ◌+◌, ◌-◌, ◌*◌, ◌≤◌, ◌≡◌, ℤ, List, [], ◌∷◌, ◌++◌, Bool, Option, Some, None, get_or, refl, sym, ap, ap₂, ◌∙◌, subst, arith, append_assoc, append-nil}
use Rattle.std.specs.declared.cmp.Ordering.{Ordering}
use Rattle.std.specs.declared.cmp.Ordering.TheVariants.{Less, Equal, Greater}
use Rattle.std.specs.Ordering.{int_cmp, ordering_reverse}
use Rattle.std.proofs.lemmas.Cmp.{int_cmp_total}
use Rattle.values.specs.Row.{Row, value_at}
use Rattle.values.specs.Condition.{Condition, Compared, Not, And, Or, Operand, Field, Number, SourceColumn, passes, compared, field, operand, truth}
use Rattle.values.specs.declared.resolved.Compare.{Compare}
use Rattle.values.specs.declared.resolved.Compare.TheVariants.{Equals, Differs, Below, AtMost, Above, AtLeast}
use Rattle.lane_kernels.specs.Steps.{StepsFit, after, after_all}
use Rattle.lane_kernels.specs.declared.condition.Step.{Step}
use Rattle.lane_kernels.specs.declared.condition.Step.TheVariants as step
use Rattle.lane_kernels.proofs.ConditionLemmas.{after_all-append}
use Rattle.row_nodes.specs.Steps.{turned, comparison_step, steps_of, truths_needed, OperandIsOver, IsOver, OperandIsOfOne, IsOfOneSource, Whole, InOr, InAnd, open_at_once}

-- ---- meaning
turned_passes : (how : Compare) (o : Ordering) → passes (turned how) (ordering_reverse o) ≡ passes how o
turned_passes Equals Less = refl
turned_passes Equals Equal = refl
turned_passes Equals Greater = refl
turned_passes Differs Less = refl
turned_passes Differs Equal = refl
turned_passes Differs Greater = refl
turned_passes Below Less = refl
turned_passes Below Equal = refl
turned_passes Below Greater = refl
turned_passes AtMost Less = refl
turned_passes AtMost Equal = refl
turned_passes AtMost Greater = refl
turned_passes Above Less = refl
turned_passes Above Equal = refl
turned_passes Above Greater = refl
turned_passes AtLeast Less = refl
turned_passes AtLeast Equal = refl
turned_passes AtLeast Greater = refl

turned_compared : (how : Compare) (y : ℤ) (v : Option ℤ) → compared (turned how) v (Some y) ≡ compared how (Some y) v
turned_compared how y None = refl
turned_compared how y (Some x) = ap (λ o. Some (passes (turned how) o)) (int_cmp_total.antisymm x y) ∙ ap Some (turned_passes how (int_cmp y x))

field_of : (row : Row) (c : SourceColumn) → c.source ≡ 0 → field (row ∷ []) c ≡ value_at row c.column
field_of row c e = ap (λ k. value_at (get_or (row ∷ []) k []) c.column) e

step_means : (a : Operand) (how : Compare) (b : Operand) (row : Row) (ts : List (Option Bool)) → OperandIsOfOne a → OperandIsOfOne b
    → after (comparison_step a how b) row ts ≡ compared how (operand (row ∷ []) a) (operand (row ∷ []) b) ∷ ts
step_means (Field c) how (Field d) row ts h k =
    ap (λ t. t ∷ ts) (ap₂ (λ x y. compared how x y) (sym (field_of row c h)) (sym (field_of row d k)))
step_means (Field c) how (Number z) row ts h k =
    ap (λ t. t ∷ ts) (ap (λ x. compared how x (Some z)) (sym (field_of row c h)))
step_means (Number y) how (Field d) row ts h k =
    ap (λ t. t ∷ ts) (turned_compared how y (value_at row d.column) ∙ ap (λ x. compared how (Some y) x) (sym (field_of row d k)))
step_means (Number y) how (Number z) row ts h k = refl

pub steps_mean : (c : Condition) (row : Row) (ts : List (Option Bool)) → IsOfOneSource c → after_all (steps_of c) row ts ≡ truth c (row ∷ []) ∷ ts
steps_mean (Compared a how b) row ts h = step_means a how b row ts h.0 h.1
steps_mean (Not c) row ts h = after_all-append (steps_of c) (step.Not ∷ []) row ts ∙ ap (λ us. after step.Not row us) (steps_mean c row ts h)
steps_mean (And c d) row ts h =
    after_all-append (steps_of c) (steps_of d ++ step.And ∷ []) row ts
    ∙ ap (λ us. after_all (steps_of d ++ step.And ∷ []) row us) (steps_mean c row ts h.0)
    ∙ after_all-append (steps_of d) (step.And ∷ []) row (truth c (row ∷ []) ∷ ts)
    ∙ ap (λ us. after step.And row us) (steps_mean d row (truth c (row ∷ []) ∷ ts) h.1)
steps_mean (Or c d) row ts h =
    after_all-append (steps_of c) (steps_of d ++ step.Or ∷ []) row ts
    ∙ ap (λ us. after_all (steps_of d ++ step.Or ∷ []) row us) (steps_mean c row ts h.0)
    ∙ after_all-append (steps_of d) (step.Or ∷ []) row (truth c (row ∷ []) ∷ ts)
    ∙ ap (λ us. after step.Or row us) (steps_mean d row (truth c (row ∷ []) ∷ ts) h.1)

-- ---- fitting
step_fits : (w h : ℕ) (a : Operand) (how : Compare) (b : Operand) (rest : List Step) → OperandIsOver w a → OperandIsOver w b → h + 1 ≤ 67
    → StepsFit w (h + 1) rest → StepsFit w h (comparison_step a how b ∷ rest)
step_fits w h (Field c) how (Field d) rest i j l f = ((i.1, j.1, omega (arith, l)), f)
step_fits w h (Field c) how (Number z) rest i j l f = ((i.1, omega (arith, l)), f)
step_fits w h (Number y) how (Field d) rest i j l f = ((j.1, omega (arith, l)), f)
step_fits w h (Number y) how (Number z) rest i j l f = (omega (arith, l), f)

pub steps_fit : (c : Condition) (w h : ℕ) (rest : List Step) → IsOver w c → h + truths_needed c ≤ 67 → StepsFit w (h + 1) rest → StepsFit w h (steps_of c ++ rest)
steps_fit (Compared a how b) w h rest i l f = step_fits w h a how b rest i.0 i.1 l f
steps_fit (Not c) w h rest i l f =
    let one : StepsFit w (h + 1) (step.Not ∷ rest) = (omega arith, f) in
    let P : List Step → Type 0 = λ ss. StepsFit w h ss in
    subst P (sym (append_assoc (steps_of c) (step.Not ∷ []) rest)) (steps_fit c w h (step.Not ∷ rest) i l one)
steps_fit (And c d) w h rest i l f =
    let back : h + 1 ≡ h + 1 + 1 - 1 = omega arith in
    let Q : ℕ → Type 0 = λ k. StepsFit w k rest in
    let one : StepsFit w (h + 1 + 1) (step.And ∷ rest) = (omega arith, subst Q back f) in
    let two : StepsFit w (h + 1) (steps_of d ++ step.And ∷ rest) = steps_fit d w (h + 1) (step.And ∷ rest) i.1 (omega (arith, l)) one in
    let e : steps_of c ++ (steps_of d ++ step.And ∷ rest) ≡ (steps_of c ++ (steps_of d ++ step.And ∷ [])) ++ rest =
    ap (λ ss. steps_of c ++ ss) (sym (append_assoc (steps_of d) (step.And ∷ []) rest)) ∙ sym (append_assoc (steps_of c) (steps_of d ++ step.And ∷ []) rest) in
    let P : List Step → Type 0 = λ ss. StepsFit w h ss in
    subst P e (steps_fit c w h (steps_of d ++ step.And ∷ rest) i.0 (omega (arith, l)) two)
steps_fit (Or c d) w h rest i l f =
    let back : h + 1 ≡ h + 1 + 1 - 1 = omega arith in
    let Q : ℕ → Type 0 = λ k. StepsFit w k rest in
    let one : StepsFit w (h + 1 + 1) (step.Or ∷ rest) = (omega arith, subst Q back f) in
    let two : StepsFit w (h + 1) (steps_of d ++ step.Or ∷ rest) = steps_fit d w (h + 1) (step.Or ∷ rest) i.1 (omega (arith, l)) one in
    let e : steps_of c ++ (steps_of d ++ step.Or ∷ rest) ≡ (steps_of c ++ (steps_of d ++ step.Or ∷ [])) ++ rest =
    ap (λ ss. steps_of c ++ ss) (sym (append_assoc (steps_of d) (step.Or ∷ []) rest)) ∙ sym (append_assoc (steps_of c) (steps_of d ++ step.Or ∷ []) rest) in
    let P : List Step → Type 0 = λ ss. StepsFit w h ss in
    subst P e (steps_fit c w h (steps_of d ++ step.Or ∷ rest) i.0 (omega (arith, l)) two)

pub whole_fits : (c : Condition) (w : ℕ) → IsOver w c → truths_needed c ≤ 67 → StepsFit w 0 (steps_of c)
whole_fits c w i l =
    let P : List Step → Type 0 = λ ss. StepsFit w 0 ss in
    subst P (append-nil (steps_of c)) (steps_fit c w 0 [] i (omega (arith, l)) refl)

-- ---- how many truths
pub record Needs (c : Condition) : Type 0 where
  pub whole : truths_needed c ≤ 2 * open_at_once Whole c + 3
  pub in_or : truths_needed c ≤ 2 * open_at_once InOr c + 2
  pub in_and : truths_needed c ≤ 2 * open_at_once InAnd c + 1

pub needs : (c : Condition) → Needs c
needs (Compared a how b) = record { whole = omega arith; in_or = omega arith; in_and = omega arith }
needs (Not c) = let h : Needs c = needs c in record { whole = omega (arith, h.in_and); in_or = omega (arith, h.in_and); in_and = omega (arith, h.in_and) }
needs (And c d) =
    let h : Needs c = needs c in
    let k : Needs d = needs d in
    record { whole = omega (arith, h.in_or, k.in_and); in_or = omega (arith, h.in_or, k.in_and); in_and = omega (arith, h.in_or, k.in_and) }
needs (Or c d) =
    let h : Needs c = needs c in
    let k : Needs d = needs d in
    record { whole = omega (arith, h.whole, k.in_or); in_or = omega (arith, h.whole, k.in_or); in_and = omega (arith, h.whole, k.in_or) }

-- two truths for each level of brackets and Nots, the text itself being one, and one more are enough: 67 for 32 open at once
pub nested_conditions_fit : (c : Condition) → open_at_once Whole c ≤ 32 → truths_needed c ≤ 67
nested_conditions_fit c h = omega (arith, (needs c).whole, h)
