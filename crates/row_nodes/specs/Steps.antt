-- A condition over the rows of one source, as steps in postfix order.
use Rattle.std.specs.Prelude.{ℕ, suc, ◌+◌, ◌<◌, ◌≡◌, max, List, [], ◌∷◌, ◌++◌}
use Rattle.std.specs.Ordering.{int_cmp}
use Rattle.values.specs.Condition.{Condition, Compared, Not, And, Or, Operand, Field, Number}
use Rattle.values.specs.Condition.{passes}
use Rattle.values.specs.declared.resolved.Compare.{Compare}
use Rattle.values.specs.declared.resolved.Compare.TheVariants.{Equals, Differs, Below, AtMost}
use Rattle.values.specs.declared.resolved.Compare.TheVariants.{Above, AtLeast}
use Rattle.lane_kernels.specs.declared.condition.Step.{Step}
use Rattle.lane_kernels.specs.declared.condition.Step.TheVariants as step

-- the comparison with its sides changed about
abbrev pub turned : Compare → Compare
turned Equals = Equals
turned Differs = Differs
turned Below = Above
turned AtMost = AtLeast
turned Above = Below
turned AtLeast = AtMost

abbrev pub comparison_step : Operand → Compare → Operand → Step
comparison_step (Field c) how (Field d) = step.Columns c.column how d.column
comparison_step (Field c) how (Number z) = step.Number c.column how z
comparison_step (Number y) how (Field d) = step.Number d.column (turned how) y
comparison_step (Number y) how (Number z) = step.Known (passes how (int_cmp y z))

abbrev pub steps_of : Condition → List Step
steps_of (Compared a how b) = comparison_step a how b ∷ []
steps_of (Not c) = steps_of c ++ step.Not ∷ []
steps_of (And c d) = steps_of c ++ (steps_of d ++ step.And ∷ [])
steps_of (Or c d) = steps_of c ++ (steps_of d ++ step.Or ∷ [])

-- the most truths that wait at a time
abbrev pub truths_needed : Condition → ℕ
truths_needed (Compared a how b) = 1
truths_needed (Not c) = truths_needed c
truths_needed (And c d) = max (truths_needed c) (truths_needed d + 1)
truths_needed (Or c d) = max (truths_needed c) (truths_needed d + 1)

-- the side is a number, or a column of the first source, whose rows are this wide
abbrev pub OperandIsOver : ℕ → Operand → Type 0
OperandIsOver w (Field c) = (c.source ≡ 0) × (c.column < w)
OperandIsOver w (Number z) = Unit {0}

abbrev pub IsOver : ℕ → Condition → Type 0
IsOver w (Compared a how b) = OperandIsOver w a × OperandIsOver w b
IsOver w (Not c) = IsOver w c
IsOver w (And c d) = IsOver w c × IsOver w d
IsOver w (Or c d) = IsOver w c × IsOver w d

-- the same, however wide the rows are
abbrev pub OperandIsOfOne : Operand → Type 0
OperandIsOfOne (Field c) = c.source ≡ 0
OperandIsOfOne (Number z) = Unit {0}

abbrev pub IsOfOneSource : Condition → Type 0
IsOfOneSource (Compared a how b) = OperandIsOfOne a × OperandIsOfOne b
IsOfOneSource (Not c) = IsOfOneSource c
IsOfOneSource (And c d) = IsOfOneSource c × IsOfOneSource d
IsOfOneSource (Or c d) = IsOfOneSource c × IsOfOneSource d

-- where a part of a condition is written: as a whole, as an
-- alternative of an Or, or as an item of an And or under a Not
pub data Place : Type 0 where
  Whole : Place
  InOr : Place
  InAnd : Place

-- how many brackets and Nots are open at once in the text of a condition that has no more
-- brackets than it needs; chains of And and of Or need none, their first item standing deepest
abbrev pub open_at_once : Place → Condition → ℕ
open_at_once place (Compared a how b) = 0
open_at_once place (Not c) = suc (open_at_once InAnd c)
open_at_once Whole (And c d) = max (open_at_once InOr c) (open_at_once InAnd d)
open_at_once InOr (And c d) = max (open_at_once InOr c) (open_at_once InAnd d)
open_at_once InAnd (And c d) = suc (max (open_at_once InOr c) (open_at_once InAnd d))
open_at_once Whole (Or c d) = max (open_at_once Whole c) (open_at_once InOr d)
open_at_once InOr (Or c d) = suc (max (open_at_once Whole c) (open_at_once InOr d))
open_at_once InAnd (Or c d) = suc (max (open_at_once Whole c) (open_at_once InOr d))
