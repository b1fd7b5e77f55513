-- The steps of conditions joined by And.
use Rattle.std.proofs.Common.{refl, ◌≡◌, ◌∙◌, List, [], ◌∷◌, ◌++◌, ap, sym, ℕ}
use Rattle.std.proofs.lemmas.List.{append_assoc, append-nil}
use Rattle.values.specs.Condition.{SourceColumn, Condition, Compared, Not, And, Or, Operand, Field, Number}
use Rattle.plan.specs.Build.{alone, moved, operand_moved, placed}
use Rattle.lane_kernels.specs.declared.condition.Step.{Step}
use Rattle.lane_kernels.specs.declared.condition.Step.TheVariants as step
use Rattle.row_nodes.specs.Steps.{IsOfOneSource, OperandIsOfOne, steps_of}
use Rattle.physical_plans.specs.Conjuncts.{all_steps, further_steps, joined}

-- the steps of the first and what the further ones add
steps_joined : (c : Condition) (cs : List Condition) → steps_of c ++ further_steps cs ≡ steps_of (joined c cs)
steps_joined c [] = append-nil (steps_of c)
steps_joined c (d ∷ ds) =
    ap (λ (xs : List Step). steps_of c ++ xs) (sym (append_assoc (steps_of d) (step.And ∷ []) (further_steps ds)))
    ∙ sym (append_assoc (steps_of c) (steps_of d ++ step.And ∷ []) (further_steps ds))
    ∙ steps_joined (And c d) ds

pub steps_all : (c : Condition) (cs : List Condition) (all more : List Step) → all ≡ steps_of c → more ≡ all ++ further_steps cs → more ≡ all_steps (c ∷ cs)
steps_all c cs all more e f = f ∙ ap (λ (xs : List Step). xs ++ further_steps cs) e ∙ steps_joined c cs

-- ---- conditions whose columns are moved to the one row that goes between operators
operand_of_one : (f : SourceColumn → SourceColumn) → ((c : SourceColumn) → (f c).source ≡ 0) → (a : Operand) → OperandIsOfOne (operand_moved f a)
operand_of_one f h (Field c) = h c
operand_of_one f h (Number z) = tt

moved_of_one : (f : SourceColumn → SourceColumn) → ((c : SourceColumn) → (f c).source ≡ 0) → (c : Condition) → IsOfOneSource (moved f c)
moved_of_one f h (Compared a how b) = (operand_of_one f h a, operand_of_one f h b)
moved_of_one f h (Not c) = moved_of_one f h c
moved_of_one f h (And c d) = (moved_of_one f h c, moved_of_one f h d)
moved_of_one f h (Or c d) = (moved_of_one f h c, moved_of_one f h d)

pub alone_of_one : (c : Condition) → IsOfOneSource (moved alone c)
alone_of_one c = moved_of_one alone (λ k. refl) c

pub placed_of_one : (vs : List ℕ) (c : Condition) → IsOfOneSource (moved (placed vs) c)
placed_of_one vs c = moved_of_one (placed vs) (λ k. refl) c
