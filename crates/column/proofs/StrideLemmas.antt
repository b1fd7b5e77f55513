-- Columns made of values by a stride, 64 of them at a time.
use Rattle.std.proofs.Common.{ℕ, ℤ, List, [], ◌∷◌, ◌++◌, ◌≡◌, ◌<◌, ◌≤◌, ◌+◌, ◌*◌, ◌%◌, ◌-◌, ◌==◌, length, map, min, refl, sym, ◌∙◌, ap, arith, Bool, false, None, Some, Option, pos, zero, suc, All, append-nil, append_assoc, add-mul, add-zero, IfSome, unwrap_or, is_some, subst, to_z, of_z, w64, mul-one}
use Rattle.std.proofs.Math.ListN.{get_or}
use Rattle.std.proofs.lemmas.Int.{to_z-of_z}
use Rattle.std.proofs.lemmas.List.{map-append, ext_get_or}
use Rattle.std.proofs.lemmas.List.FromFn.{length-map-range_with_len, get_or-map-range_with_len, map-range_with_len_more}
use Rattle.std.proofs.lemmas.List.Elements.{All-append, All-push, All-nil, All-head, All-tail}
use Rattle.values.specs.Ranges.{IsAnswerNumber, IsAnswerValue}
use Rattle.column.specs.Bits.{IsClear, at_places, bits, place, places_by}
use Rattle.column.specs.Columns.{IsCell, numbers_of}
use Rattle.column.proofs.BitLemmas.{bits_grown}
use Rattle.column.proofs.BatchLemmas.{get_or-at_places, length-at_places}
use Rattle.column.proofs.ColumnLemmas.{IsMade, cell_of, get_or_any_value, value_back, word_fits}

-- the values at the first places of a stride
abbrev pub values_by : ℕ → ℕ → ℕ → List (Option ℤ) → List (Option ℤ)
values_by start stride n values = at_places None (places_by start stride n) values

pub within_more : (start stride count from more n : ℕ) → ((i : ℕ) → i < count → start + i * stride < n) → from + more ≤ count → (i : ℕ) → i < more → (start + from * stride) + i * stride < n
within_more start stride count from more n h few i l = let e : (from + i) * stride ≡ from * stride + i * stride = add-mul from i stride in omega (arith, h (from + i) (omega arith), e)

places_by-more : (start stride i : ℕ) → places_by start stride (i + 1) ≡ places_by start stride i ++ (start + i * stride) ∷ []
places_by-more start stride i = map-range_with_len_more (λ k. start + k * stride) 0 i i (omega arith)

values_by-more : (start stride i : ℕ) (values : List (Option ℤ)) (v : Option ℤ) → start + i * stride < length values → v ≡ get_or values (start + i * stride) v
    → values_by start stride (i + 1) values ≡ values_by start stride i values ++ v ∷ []
values_by-more start stride i values v h is =
    ap (λ ps. at_places None ps values) (places_by-more start stride i)
    ∙ map-append (λ k. get_or values k None) (places_by start stride i) ((start + i * stride) ∷ [])
    ∙ ap (λ x. values_by start stride i values ++ x ∷ []) (get_or_any_value values (start + i * stride) None v h ∙ sym is)

places_by-add : (start stride a b : ℕ) → places_by start stride (a + b) ≡ places_by start stride a ++ places_by (start + a * stride) stride b
places_by-add start stride a zero = ap (places_by start stride) (add-zero a) ∙ sym (append-nil (places_by start stride a))
places_by-add start stride a (suc b) =
    let e : a + suc b ≡ (a + b) + 1 = omega arith in
    let f : b + 1 ≡ suc b = omega arith in
    let g : start + (a + b) * stride ≡ (start + a * stride) + b * stride = omega (arith, add-mul a b stride) in
    ap (places_by start stride) e ∙ places_by-more start stride (a + b)
    ∙ (λ t. places_by-add start stride a b t ++ g t ∷ [])
    ∙ append_assoc (places_by start stride a) (places_by (start + a * stride) stride b) (((start + a * stride) + b * stride) ∷ [])
    ∙ ap (λ l. places_by start stride a ++ l) (sym (places_by-more (start + a * stride) stride b) ∙ ap (places_by (start + a * stride) stride) f)

pub values_by-add : (start stride a b : ℕ) (values : List (Option ℤ)) → values_by start stride (a + b) values ≡ values_by start stride a values ++ values_by (start + a * stride) stride b values
values_by-add start stride a b values =
    ap (λ ps. at_places None ps values) (places_by-add start stride a b) ∙ map-append (λ k. get_or values k None) (places_by start stride a) (places_by (start + a * stride) stride b)

pub length-values_by : (start stride n : ℕ) (values : List (Option ℤ)) → length (values_by start stride n values) ≡ n
length-values_by start stride n values = length-at_places None (places_by start stride n) values ∙ length-map-range_with_len (λ i. start + i * stride) 0 n

pub get_or-values_by : (start stride n : ℕ) (values : List (Option ℤ)) (i : ℕ) → i < n → get_or (values_by start stride n values) i None ≡ get_or values (start + i * stride) None
get_or-values_by start stride n values i h =
    get_or-at_places None (places_by start stride n) values i (omega (arith, h, length-map-range_with_len (λ i. start + i * stride) 0 n))
    ∙ ap (λ k. get_or values k None) (get_or-map-range_with_len (λ i. start + i * stride) 0 n i i 0 h (omega arith))

-- each value once, in order
pub values_by-all : (values : List (Option ℤ)) → values_by 0 1 (length values) values ≡ values
values_by-all values =
    ext_get_or None _ _ (length-values_by 0 1 (length values) values)
    (λ i h. get_or-values_by 0 1 (length values) values i (omega (arith, h, length-values_by 0 1 (length values) values)) ∙ ap (λ k. get_or values k None) (omega (arith, mul-one i)))

-- the numbers of the first values of a stride were pushed, and the bits of a word say which of these are no nulls
pub record IsPushing (base : List ℤ) (values : List (Option ℤ)) (start stride i word : ℕ) (numbers : List ℤ) : Type 0 where
  pub numbers_are : numbers ≡ base ++ numbers_of (values_by start stride i values)
  pub valid : bits i (word ∷ []) ≡ map is_some (values_by start stride i values)
  pub clear : (k : ℕ) → i ≤ k → place (word ∷ []) k ≡ 0
  pub range : All IsAnswerValue (values_by start stride i values)

answer_value : (v : Option ℤ) → IfSome v IsAnswerNumber → IsAnswerValue v
answer_value None h = tt
answer_value (Some z) h = h

if_answer : (v : Option ℤ) → IsAnswerValue v → IfSome v IsAnswerNumber
if_answer None h = tt
if_answer (Some z) h = h

pub IsPushing-more : (base : List ℤ) (values : List (Option ℤ)) (start stride i word : ℕ) (numbers : List ℤ) (v : Option ℤ) (n : ℤ) (word' : ℕ) (numbers' : List ℤ) → IsPushing base values start stride i word numbers
    → start + i * stride < length values → v ≡ get_or values (start + i * stride) v → IfSome v IsAnswerNumber → n ≡ unwrap_or v (pos 0) → numbers' ≡ numbers ++ to_z w64 (of_z w64 n) ∷ []
    → ((k : ℕ) → (k ≡ i → ⊥) → place (word' ∷ []) k ≡ place (word ∷ []) k) → (place (word' ∷ []) i == 1) ≡ is_some v → IsPushing base values start stride (i + 1) word' numbers'
IsPushing-more base values start stride i word numbers v n word' numbers' p h is range number made same here =
    let cell : IsCell (unwrap_or v (pos 0)) (is_some v) = cell_of v range in
    let more : values_by start stride (i + 1) values ≡ values_by start stride i values ++ v ∷ [] = values_by-more start stride i values v h is in
    let fits : to_z w64 (of_z w64 n) ≡ unwrap_or v (pos 0) = ap (λ m. to_z w64 (of_z w64 m)) number ∙ to_z-of_z w64 (unwrap_or v (pos 0)) (word_fits (unwrap_or v (pos 0)) cell.range) in
    record {
      numbers_are =
          made ∙ (λ t. p.numbers_are t ++ fits t ∷ []) ∙ append_assoc base (numbers_of (values_by start stride i values)) (unwrap_or v (pos 0) ∷ [])
          ∙ ap (λ l. base ++ l) (sym (map-append (λ w. unwrap_or w (pos 0)) (values_by start stride i values) (v ∷ [])) ∙ ap numbers_of (sym more));
      valid = bits_grown (word ∷ []) (word' ∷ []) i (is_some v) same here ∙ ap (λ l. l ++ is_some v ∷ []) p.valid ∙ sym (map-append is_some (values_by start stride i values) (v ∷ [])) ∙ ap (map is_some) (sym more);
      clear = λ k l. same k (λ e. omega (arith, l, e)) ∙ p.clear k (omega (arith, l));
      range = let P : List (Option ℤ) → Type 0 = λ l. All IsAnswerValue l in subst P (sym more) (All-push IsAnswerValue (values_by start stride i values) v p.range (answer_value v range));
    }

pub no_bit : (word i : ℕ) (v : Option ℤ) → place (word ∷ []) i ≡ 0 → is_some v ≡ false → (place (word ∷ []) i == 1) ≡ is_some v
no_bit word i v e f = ap (λ n. n == 1) e ∙ sym f

pub clear_word : (count word : ℕ) → 1 ≤ count → count ≤ 64 → ((k : ℕ) → count ≤ k → place (word ∷ []) k ≡ 0) → IsClear count (word ∷ [])
clear_word count word some few h = record { words_fit = omega arith; clear = h }

-- a column of values of the answer range
pub column_made : (vs : List (Option ℤ)) → All IsAnswerValue vs → IsMade (numbers_of vs) (map is_some vs) vs
column_made [] a = record { column = tt; seen = refl }
column_made (v ∷ vs) a =
    let rest = column_made vs (All-tail IsAnswerValue v vs a) in
    record { column = (cell_of v (if_answer v (All-head IsAnswerValue v vs a)), rest.column); seen = λ t. value_back v t ∷ rest.seen t }

-- the values of a stride became a column, all in one word
pub word_made : (values : List (Option ℤ)) (start stride count : ℕ) (numbers : List ℤ) (valid : List Bool) → numbers ≡ numbers_of (values_by start stride count values) → valid ≡ map is_some (values_by start stride count values)
    → All IsAnswerValue (values_by start stride count values) → IsMade numbers valid (values_by start stride count values)
word_made values start stride count numbers valid are are_valid range = rw (are, are_valid) (column_made (values_by start stride count values) range)

-- the first values of a stride became a column, whole words of them
pub record IsStrided (values : List (Option ℤ)) (start stride count from : ℕ) (numbers : List ℤ) (valid : List Bool) : Type 0 where
  pub le : from ≤ count
  pub whole : from < count → from % 64 ≡ 0
  pub numbers_are : numbers ≡ numbers_of (values_by start stride from values)
  pub valid_are : valid ≡ map is_some (values_by start stride from values)
  pub range : All IsAnswerValue (values_by start stride from values)

pub IsStrided-start : (values : List (Option ℤ)) (start stride count : ℕ) → IsStrided values start stride count 0 [] []
IsStrided-start values start stride count = record { le = omega arith; whole = λ h. refl; numbers_are = refl; valid_are = refl; range = All-nil IsAnswerValue }

pub IsStrided-more : (values : List (Option ℤ)) (start stride count from more word : ℕ) (numbers numbers' : List ℤ) (valid valid' : List Bool) → IsStrided values start stride count from numbers valid
    → more ≡ min (count - from) 64 → numbers' ≡ numbers ++ numbers_of (values_by (start + from * stride) stride more values) → valid' ≡ valid ++ bits more (word ∷ [])
    → bits more (word ∷ []) ≡ map is_some (values_by (start + from * stride) stride more values) → All IsAnswerValue (values_by (start + from * stride) stride more values)
    → IsStrided values start stride count (from + more) numbers' valid'
IsStrided-more values start stride count from more word numbers numbers' valid valid' s size made grown bits_are range =
    let both : values_by start stride (from + more) values ≡ values_by start stride from values ++ values_by (start + from * stride) stride more values = values_by-add start stride from more values in
    record {
      le = omega (arith, s.le, size);
      whole = λ h. omega (arith, s.whole (omega (arith, h)), size, h);
      numbers_are =
          made ∙ ap (λ l. l ++ numbers_of (values_by (start + from * stride) stride more values)) s.numbers_are
          ∙ sym (map-append (λ w. unwrap_or w (pos 0)) (values_by start stride from values) (values_by (start + from * stride) stride more values)) ∙ ap numbers_of (sym both);
      valid_are =
          grown ∙ (λ t. s.valid_are t ++ bits_are t)
          ∙ sym (map-append is_some (values_by start stride from values) (values_by (start + from * stride) stride more values)) ∙ ap (map is_some) (sym both);
      range = let P : List (Option ℤ) → Type 0 = λ l. All IsAnswerValue l in subst P (sym both) (All-append IsAnswerValue (values_by start stride from values) (values_by (start + from * stride) stride more values) s.range range);
    }

pub strided_made : (values : List (Option ℤ)) (start stride count from : ℕ) (numbers : List ℤ) (valid : List Bool) → IsStrided values start stride count from numbers valid → count ≤ from
    → IsMade numbers valid (values_by start stride count values)
strided_made values start stride count from numbers valid s h =
    let e : from ≡ count = omega (arith, s.le, h) in
    let made = column_made (values_by start stride from values) s.range in
    rw (s.numbers_are, s.valid_are) (record { column = made.column; seen = made.seen ∙ ap (λ n. values_by start stride n values) e })
