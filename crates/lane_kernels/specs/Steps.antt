-- Conditions as steps in postfix order, over a stack of truths.
use Rattle.std.specs.Prelude.{ℕ, ◌+◌, ◌-◌, ◌<◌, ◌≤◌, ◌≡◌, Bool, true, false, Option, Some, None}
use Rattle.std.specs.Prelude.{List, [], ◌∷◌}
use Rattle.std.specs.Int.{bit_at}
use Rattle.values.specs.Row.{Row, value_at}
use Rattle.values.specs.Condition.{compared, not3, and3, or3}
use Rattle.lane_kernels.specs.declared.condition.Step.{Step}
use Rattle.lane_kernels.specs.declared.condition.Step.TheVariants.{Number, Columns, Known, And, Or}
use Rattle.lane_kernels.specs.declared.condition.Step.TheVariants.{Not}
use Rattle.lane_kernels.specs.declared.condition.Word.{Word}

-- the truths that a row has after a step, the last one first
abbrev pub after : Step → Row → List (Option Bool) → List (Option Bool)
after (Number k how c) row ts = compared how (value_at row k) (Some c) ∷ ts
after (Columns k how j) row ts = compared how (value_at row k) (value_at row j) ∷ ts
after (Known b) row ts = Some b ∷ ts
after And row [] = []
after And row (b ∷ []) = []
after And row (b ∷ a ∷ ts) = and3 a b ∷ ts
after Or row [] = []
after Or row (b ∷ []) = []
after Or row (b ∷ a ∷ ts) = or3 a b ∷ ts
after Not row [] = []
after Not row (a ∷ ts) = not3 a ∷ ts

abbrev pub after_all : List Step → Row → List (Option Bool) → List (Option Bool)
after_all [] row ts = ts
after_all (s ∷ ss) row ts = after_all ss row (after s row ts)

abbrev pub top : List (Option Bool) → Option Bool
top [] = None
top (t ∷ ts) = t

-- the truth of a row
abbrev pub steps_truth : List Step → Row → Option Bool
steps_truth steps row = top (after_all steps row [])

-- how many truths there are after a step
abbrev pub height_after : Step → ℕ → ℕ
height_after (Number k how c) h = h + 1
height_after (Columns k how j) h = h + 1
height_after (Known b) h = h + 1
height_after And h = h - 1
height_after Or h = h - 1
height_after Not h = h

-- a step has its operands and its room, and names columns of rows this wide
abbrev pub StepFits : ℕ → ℕ → Step → Type 0
StepFits w h (Number k how c) = (k < w) × (h < 67)
StepFits w h (Columns k how j) = (k < w) × (j < w) × (h < 67)
StepFits w h (Known b) = h < 67
StepFits w h And = 2 ≤ h
StepFits w h Or = 2 ≤ h
StepFits w h Not = 1 ≤ h

-- so do all steps, and they end with one truth
abbrev pub StepsFit : ℕ → ℕ → List Step → Type 0
StepsFit w h [] = h ≡ 1
StepsFit w h (s ∷ ss) = StepFits w h s × StepsFit w (height_after s h) ss

-- ---- 64 truths in two words
abbrev pub true_bit : Option Bool → ℕ
true_bit None = 0
true_bit (Some true) = 1
true_bit (Some false) = 0

abbrev pub false_bit : Option Bool → ℕ
false_bit None = 0
false_bit (Some true) = 0
false_bit (Some false) = 1

-- the word has this truth at place k
pub record IsHeld (k : ℕ) (w : Word) (v : Option Bool) : Type 0 where
  pub yes_bit : bit_at w.yes k ≡ true_bit v
  pub no_bit : bit_at w.no k ≡ false_bit v

abbrev pub AreHeld : ℕ → List Word → List (Option Bool) → Type 0
AreHeld k [] [] = Unit {0}
AreHeld k [] (v ∷ vs) = ⊥
AreHeld k (w ∷ ws) [] = ⊥
AreHeld k (w ∷ ws) (v ∷ vs) = IsHeld k w v × AreHeld k ws vs
