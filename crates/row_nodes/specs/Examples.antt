-- The definitions at worked rows and conditions.
use Rattle.std.specs.Prelude.{◌≡◌, ℕ, true, false, Option, Some, None, ℤ, pos, [], ◌∷◌, refl}
use Rattle.values.specs.Row.{Row}
use Rattle.values.specs.Condition.{SourceColumn, Compared, Condition, Not, And, Or, Field, Number}
use Rattle.values.specs.declared.resolved.Compare.TheVariants.{Equals, Below, Above}
use Rattle.lane_kernels.specs.declared.condition.Step.TheVariants as step
use Rattle.op_queue.specs.Entries.{RowAt, TickAt}
use Rattle.op_queue.specs.declared.item.Item.TheVariants.{Rows, Tick}
use Rattle.row_nodes.specs.Project.{projected}
use Rattle.row_nodes.specs.Select.{selected}
use Rattle.row_nodes.specs.Steps.{Whole, open_at_once, steps_of, truths_needed}

abbrev num : ℕ → Option ℤ
num n = Some (pos n)

abbrev two : Option ℤ → Option ℤ → Row
two a b = a ∷ b ∷ []

-- column k of the only source
abbrev at : ℕ → SourceColumn
at k = record { source = 0; column = k }

-- 5 < a, and b = a or not b > 3
abbrev five_below : Condition
five_below = Compared (Number (pos 5)) Below (Field (at 0))

abbrev either : Condition
either = Or (Compared (Field (at 1)) Equals (Field (at 0)))
    (Not (Compared (Field (at 1)) Above (Number (pos 3))))

in_postfix_order : steps_of (And five_below either)
    ≡ step.Number 0 Above (pos 5) ∷ step.Columns 1 Equals 0 ∷ step.Number 1 Above (pos 3) ∷ step.Not
    ∷ step.Or ∷ step.And ∷ []
in_postfix_order = refl

-- three truths wait, with one Not inside one bracket
three_wait : truths_needed (And five_below either) ≡ 3
three_wait = refl

two_open : open_at_once Whole (And five_below either) ≡ 2
two_open = refl

-- the rows (7, 7), which enters, (null, 1), at which
-- a comparison is unknown, and (9, 1), which leaves
the_unknown_is_left_out : selected (steps_of (And five_below either))
    (Rows 4 ((true, two (num 7) (num 7)) ∷ (true, two None (num 1))
    ∷ (false, two (num 9) (num 1)) ∷ []))
    ≡ RowAt 4 (true, two (num 7) (num 7)) ∷ RowAt 4 (false, two (num 9) (num 1)) ∷ []
the_unknown_is_left_out = refl

columns_go_by_the_list : projected (1 ∷ 0 ∷ 1 ∷ []) (Rows 4 ((false, two (num 7) None) ∷ []))
    ≡ RowAt 4 (false, None ∷ num 7 ∷ None ∷ []) ∷ []
columns_go_by_the_list = refl

ticks_go_on : projected [] (Tick 4) ≡ TickAt 4 ∷ []
ticks_go_on = refl
