-- The definitions at worked examples.
use Rattle.std.specs.Prelude.{◌≡◌, ℕ, true, false, Option, Some, None, ℤ, pos, negsuc, neg_ℤ, ◌*ℤ◌}
use Rattle.std.specs.Prelude.{[], ◌∷◌, codes, refl}
use Rattle.std.specs.Fmt.{digits}
use Rattle.std.specs.declared.cmp.Ordering.TheVariants.{Less, Equal, Greater}
use Rattle.values.specs.Value.{stream_max, answer_max, clamp_answer}
use Rattle.values.specs.Text.{value_text}
use Rattle.values.specs.Row.{Row, row_cmp}
use Rattle.values.specs.declared.reach.Reach.TheVariants.{Last, Steps}
use Rattle.values.specs.Window.{input_of, Window, numbered, Instants, LastRows}
use Rattle.values.specs.Condition.{SourceColumn, Field, Number, Compared, Not, And}
use Rattle.values.specs.declared.resolved.Compare.TheVariants.{Equals, Above}
use Rattle.values.specs.declared.resolved.Aggregate.TheVariants.{Sum}
use Rattle.values.specs.Relation.{Listed, Grouped, Key, CountAll, Of}
use Rattle.values.specs.Answers.{Resolved, StreamOperator, Istream, Dstream, Rstream, answers}

abbrev num : ℕ → Option ℤ
num n = Some (pos n)

-- a row of one number
abbrev one : ℕ → Row
one n = num n ∷ []

abbrev two : ℕ → ℕ → Row
two m n = num m ∷ num n ∷ []

-- rows are compared column by column from the left, and null is below every number
null_first : row_cmp (None ∷ []) ((Some (negsuc 0)) ∷ []) ≡ Less
null_first = refl

nulls_are_equal : row_cmp (None ∷ num 2 ∷ []) (None ∷ num 2 ∷ []) ≡ Equal
nulls_are_equal = refl

below_nought : row_cmp (Some (negsuc 1) ∷ []) (Some (negsuc 0) ∷ []) ≡ Less
below_nought = refl

from_the_left : row_cmp (two 1 9) (two 2 0) ≡ Less
from_the_left = refl

then_the_next : row_cmp (two 1 9) (two 1 8) ≡ Greater
then_the_next = refl

-- the greatest number of a stream, 8,388,608 times: in the answer range; once more: clamped
just_in_range : clamp_answer (stream_max *ℤ pos 8388608) ≡ pos 9223372036846387200
just_in_range = refl

clamped_above : clamp_answer (stream_max *ℤ pos 8388609) ≡ answer_max
clamped_above = refl

clamped_below : clamp_answer (neg_ℤ stream_max *ℤ pos 8388609) ≡ neg_ℤ answer_max
clamped_below = refl

null_shown : value_text None ≡ codes "null"
null_shown = refl

negative_shown : value_text (Some (negsuc 4)) ≡ codes "-5"
unfolding digits
negative_shown = refl

-- column k of source s
abbrev at : ℕ → ℕ → SourceColumn
at s k = record { source = s; column = k }

-- a query of one source S(a) that lists a
abbrev simple : StreamOperator → Window → Resolved
simple op w = record {
  windows = w ∷ [];
  condition = None;
  shape = Listed (at 0 0 ∷ []);
  is_distinct = false;
  operator = op;
}

-- Select Istream(*) From S [Now]: rows of one instant, sorted
now_sorted : answers (simple Istream (Instants (Last 0))) 0 4
    (numbered 0 ((3, one 7) ∷ (1, one 5) ∷ (3, one 6) ∷ []) ∷ [])
    ≡ (1, one 5) ∷ (3, one 6) ∷ (3, one 7) ∷ []
now_sorted = refl

-- a row that stood in the relation before is not shown again
stood_before : answers (simple Istream (Instants (Last 0))) 0 3
    (numbered 0 ((1, one 7) ∷ (2, one 7) ∷ []) ∷ []) ≡ (1, one 7) ∷ []
stood_before = refl

last_of_one_instant : answers (simple Istream (LastRows [] 1)) 0 2
    (numbered 0 ((1, one 5) ∷ (1, one 6) ∷ []) ∷ []) ≡ (1, one 6) ∷ []
last_of_one_instant = refl

shown_as_it_leaves : answers (simple Dstream (Instants (Last 2))) 0 6
    (numbered 0 ((1, one 7) ∷ []) ∷ []) ≡ (4, one 7) ∷ []
shown_as_it_leaves = refl

two_instants : answers (simple Rstream (Instants (Last 1))) 0 4
    (numbered 0 ((0, one 7) ∷ []) ∷ []) ≡ (0, one 7) ∷ (1, one 7) ∷ []
two_instants = refl

not_of_unknown : answers
    (record {
      windows = Instants (Last 0) ∷ [];
      condition = Some (Not (Compared (Field (at 0 0)) Above (Number (pos 3))));
      shape = Listed (at 0 0 ∷ []);
      is_distinct = false;
      operator = Istream;
    })
    0 1 (numbered 0 ((0, one 5) ∷ (0, None ∷ []) ∷ (0, one 2) ∷ []) ∷ []) ≡ (0, one 2) ∷ []
not_of_unknown = refl

nulls_join_nothing : answers
    (record {
      windows = Instants (Last 0) ∷ Instants (Last 0) ∷ [];
      condition = Some (Compared (Field (at 0 0)) Equals (Field (at 1 0)));
      shape = Listed (at 0 0 ∷ at 1 1 ∷ []);
      is_distinct = false;
      operator = Istream;
    })
    0 1
    (numbered 0 ((0, one 1) ∷ (0, one 1) ∷ (0, None ∷ []) ∷ [])
    ∷ numbered 0 ((0, two 1 10) ∷ (0, two 1 10) ∷ (0, None ∷ num 20 ∷ []) ∷ []) ∷ [])
    ≡ (0, two 1 10) ∷ (0, two 1 10) ∷ (0, two 1 10) ∷ (0, two 1 10) ∷ []
nulls_join_nothing = refl

-- aggregates without Group By, over no rows: one row, shown once by Istream
count_of_none : answers
    (record {
      windows = Instants (Last 0) ∷ [];
      condition = None;
      shape = Grouped [] (CountAll ∷ Of Sum (at 0 0) ∷ []);
      is_distinct = false;
      operator = Istream;
    })
    0 2 ([] ∷ []) ≡ (0, num 0 ∷ None ∷ []) ∷ []
count_of_none = refl

groups_with_nulls : answers
    (record {
      windows = Instants (Last 0) ∷ [];
      condition = None;
      shape = Grouped (at 0 0 ∷ []) (Key 0 ∷ CountAll ∷ Of Sum (at 0 1) ∷ []);
      is_distinct = false;
      operator = Rstream;
    })
    0 1 (numbered 0 ((0, None ∷ num 1 ∷ []) ∷ (0, None ∷ num 2 ∷ []) ∷ (0, two 1 3) ∷ []) ∷ [])
    ≡ (0, None ∷ num 2 ∷ num 3 ∷ []) ∷ (0, num 1 ∷ num 1 ∷ num 3 ∷ []) ∷ []
groups_with_nulls = refl

distinct_nulls : answers
    (record {
      windows = Instants (Last 0) ∷ [];
      condition = None;
      shape = Listed (at 0 0 ∷ []);
      is_distinct = true;
      operator = Rstream;
    })
    0 1 (numbered 0 ((0, one 2) ∷ (0, one 2) ∷ (0, None ∷ []) ∷ []) ∷ [])
    ≡ (0, None ∷ []) ∷ (0, one 2) ∷ []
distinct_nulls = refl

last_of_each : answers
    (record {
      windows = LastRows (0 ∷ []) 1 ∷ [];
      condition = None;
      shape = Listed (at 0 0 ∷ at 0 1 ∷ []);
      is_distinct = false;
      operator = Rstream;
    })
    0 2 (numbered 0 ((0, two 1 10) ∷ (0, two 2 20) ∷ (1, two 1 11) ∷ []) ∷ [])
    ≡ (0, two 1 10) ∷ (0, two 2 20) ∷ (1, two 1 11) ∷ (1, two 2 20) ∷ []
last_of_each = refl

-- windows that slide: the base decides where the first begins
slide_a : answers (simple Rstream (Instants (Steps 1 2))) 0 4
    (numbered 0 ((0, one 7) ∷ (1, one 8) ∷ (2, one 9) ∷ (3, one 10) ∷ []) ∷ [])
    ≡ (0, one 7) ∷ (1, one 7) ∷ (2, one 8) ∷ (2, one 9) ∷ (3, one 8) ∷ (3, one 9) ∷ []
slide_a = refl

slide_b : answers (simple Rstream (Instants (Steps 1 2))) 1 4
    (numbered 0 ((1, one 8) ∷ (2, one 9) ∷ []) ∷ [])
    ≡ (2, one 8) ∷ (2, one 9) ∷ (3, one 8) ∷ (3, one 9) ∷ []
slide_b = refl

-- three sources
three : answers
    (record {
      windows = Instants (Last 0) ∷ Instants (Last 0) ∷ Instants (Last 0) ∷ [];
      condition = Some (And (Compared (Field (at 0 0)) Equals (Field (at 1 0)))
          (Compared (Field (at 1 1)) Equals (Field (at 2 0))));
      shape = Listed (at 0 0 ∷ at 2 0 ∷ []);
      is_distinct = false;
      operator = Istream;
    })
    0 1
    (numbered 0 ((0, one 1) ∷ []) ∷ numbered 0 ((0, two 1 5) ∷ (0, two 1 6) ∷ [])
    ∷ numbered 0 ((0, one 5) ∷ (0, one 5) ∷ []) ∷ [])
    ≡ (0, two 1 5) ∷ (0, two 1 5) ∷ []
three = refl

-- what came before the registration does not enter
after_registration : answers (simple Istream (Instants (Last 0))) 0 6
    (input_of 1 0 (numbered 0 ((5, one 1) ∷ (5, one 2) ∷ [])) ∷ []) ≡ (5, one 2) ∷ []
after_registration = refl
