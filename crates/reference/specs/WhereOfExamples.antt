-- Places of faults at worked examples.
use Rattle.std.specs.Prelude.{◌≡◌, ℕ, List, [], ◌∷◌, codes, Option, Some, None, ℤ, pos, neg_ℤ, refl}
use Rattle.cql_reader.specs.Lexis.{is_name, all_word, kind_in, reserved, same_bytes, same_letters}
use Rattle.reference.specs.declared.fault.Fault.TheVariants.{BadWidth, ValueRange, InstantRange}
use Rattle.reference.specs.declared.fault.Fault.TheVariants.{Late, TooMany, NameTaken}
use Rattle.reference.specs.WhereOf.{row_at_fault, byte_at_fault, first_break, first_bad_column}

abbrev num : ℕ → Option ℤ
num n = Some (pos n)

-- rows for a stream of two columns that is closed up to 4: row 1 has one value, row 2 a value
-- out of range, row 3 an instant out of range; row 4 is late, and row 5 has three values
abbrev rows : List (ℤ × List (Option ℤ))
rows = (pos 5, num 1 ∷ None ∷ [])
    ∷ (pos 6, num 1 ∷ [])
    ∷ (pos 7, num 0 ∷ num 1099511627777 ∷ [])
    ∷ (neg_ℤ (pos 1), num 1 ∷ num 2 ∷ [])
    ∷ (pos 4, num 1 ∷ num 2 ∷ [])
    ∷ (pos 5, num 1 ∷ num 2 ∷ num 3 ∷ [])
    ∷ []

row_of_width : row_at_fault BadWidth 2 (pos 4) rows ≡ Some 1
row_of_width = refl

row_of_value : row_at_fault ValueRange 2 (pos 4) rows ≡ Some 2
row_of_value = refl

row_of_instant : row_at_fault InstantRange 2 (pos 4) rows ≡ Some 3
row_of_instant = refl

-- row 3 is below the closed instant too, and comes before row 4
first_late_row : row_at_fault Late 2 (pos 4) rows ≡ Some 3
first_late_row = refl

-- for a stream of one column
row_of_another_width : row_at_fault BadWidth 1 (pos 4) rows ≡ Some 0
row_of_another_width = refl

no_row_is_late : row_at_fault Late 2 (neg_ℤ (pos 2)) rows ≡ None
no_row_is_late = refl

no_row_of_a_count : row_at_fault TooMany 2 (pos 4) rows ≡ None
no_row_of_a_count = refl

digit_first : first_break (codes "2nd") ≡ Some 0
unfolding first_break
digit_first = refl

dash_within : first_break (codes "room-2") ≡ Some 4
unfolding first_break
dash_within = refl

byte_past_the_length : first_break (codes "abcdefghijklmnopqrstuvwxyz_234567") ≡ Some 32
unfolding first_break
byte_past_the_length = refl

-- a longer word that starts so can be a name
no_byte_of_a_reserved_word : first_break (codes "Slide") ≡ None
unfolding first_break
no_byte_of_a_reserved_word = refl

no_byte_of_an_empty_name : first_break [] ≡ None
unfolding first_break
no_byte_of_an_empty_name = refl

no_byte_of_a_taken_name : byte_at_fault NameTaken (codes "2nd") ≡ None
no_byte_of_a_taken_name = refl

name_twice : first_bad_column (codes "a" ∷ codes "b" ∷ codes "a" ∷ codes "b" ∷ []) ≡ Some 2
unfolding first_bad_column is_name all_word kind_in reserved same_letters same_bytes
name_twice = refl

reserved_column : first_bad_column (codes "a" ∷ codes "From" ∷ codes "a" ∷ []) ≡ Some 1
unfolding first_bad_column is_name all_word kind_in reserved same_letters same_bytes
reserved_column = refl

ninth_column : first_bad_column (codes "a" ∷ codes "b" ∷ codes "c" ∷ codes "d" ∷ codes "e"
    ∷ codes "f" ∷ codes "g" ∷ codes "h" ∷ codes "i" ∷ []) ≡ Some 8
unfolding first_bad_column is_name all_word kind_in reserved same_letters same_bytes
ninth_column = refl

good_columns : first_bad_column (codes "a" ∷ codes "b" ∷ []) ≡ None
unfolding first_bad_column is_name all_word kind_in reserved same_letters same_bytes
good_columns = refl

no_columns : first_bad_column [] ≡ None
unfolding first_bad_column
no_columns = refl
