-- The definitions at worked examples.
use Rattle.std.specs.Prelude.{◌≡◌, ℕ, ℤ, pos, Bool, true, false, Option, Some, None, List, [], ◌∷◌}
use Rattle.std.specs.Prelude.{refl}
use Rattle.values.specs.Row.{Row}
use Rattle.column.specs.Bits.{at_places, bits, chosen, place, true_places, word_count}
use Rattle.column.specs.Columns.{numbers_of, values_of}
use Rattle.column.specs.Rows.{beside, column_of, signed_rows, width}
use Rattle.column.specs.declared.batch.Side.TheVariants.{Left, Right}

words_for_bits : word_count 64 ≡ 1
words_for_bits = refl

one_bit_more : word_count 65 ≡ 2
one_bit_more = refl

-- 18 is 2 and 16
bits_of_a_word : bits 5 (18 ∷ []) ≡ false ∷ true ∷ false ∷ false ∷ true ∷ []
bits_of_a_word = refl

bit_of_the_second_word : place (0 ∷ 2 ∷ []) 65 ≡ 1
bit_of_the_second_word = refl

no_bit_past_the_words : place (1 ∷ []) 64 ≡ 0
no_bit_past_the_words = refl

items_chosen : chosen {X = ℕ} (false ∷ true ∷ true ∷ []) (7 ∷ 8 ∷ 9 ∷ []) ≡ 8 ∷ 9 ∷ []
items_chosen = refl

places_chosen : true_places (false ∷ true ∷ true ∷ []) ≡ 1 ∷ 2 ∷ []
places_chosen = refl

items_at_places : at_places {X = ℕ} 0 (2 ∷ 0 ∷ 2 ∷ []) (7 ∷ 8 ∷ 9 ∷ []) ≡ 9 ∷ 7 ∷ 9 ∷ []
items_at_places = refl

-- a number and a null
abbrev ten : Option ℤ
ten = Some (pos 10)

values_with_a_null : values_of (pos 10 ∷ pos 0 ∷ []) (true ∷ false ∷ []) ≡ ten ∷ None ∷ []
values_with_a_null = refl

a_null_lies_as_nought : numbers_of (ten ∷ None ∷ []) ≡ pos 10 ∷ pos 0 ∷ []
a_null_lies_as_nought = refl

-- the rows (1, 10) and (2, null), of which the second leaves
abbrev rows : List (Bool × Row)
rows = (true, Some (pos 1) ∷ ten ∷ []) ∷ (false, Some (pos 2) ∷ None ∷ []) ∷ []

columns_of_rows : signed_rows ((Some (pos 1) ∷ Some (pos 2) ∷ []) ∷ (ten ∷ None ∷ []) ∷ [])
    (false ∷ true ∷ []) ≡ rows
columns_of_rows = refl

second_column : column_of rows 1 ≡ ten ∷ None ∷ []
second_column = refl

two_columns : width rows ≡ 2
two_columns = refl

-- a row beside another has the sign of one of the two
sign_of_the_left : beside Left ((true, ten ∷ []) ∷ []) ((false, None ∷ []) ∷ [])
    ≡ (true, ten ∷ None ∷ []) ∷ []
sign_of_the_left = refl

sign_of_the_right : beside Right ((true, ten ∷ []) ∷ []) ((false, None ∷ []) ∷ [])
    ≡ (false, ten ∷ None ∷ []) ∷ []
sign_of_the_right = refl
