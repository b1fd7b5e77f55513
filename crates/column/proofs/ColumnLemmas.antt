-- Columns: numbers beside validities, one more, one read, a part.
use Rattle.std.proofs.Common.{ℕ, ℤ, pos, negsuc, List, [], ◌∷◌, ◌++◌, ◌≡◌, ◌<◌, ◌-◌, cond, length, take, drop, slice_range, refl, sym, ◌∙◌, ap, arith, Bool, true, false, Some, None, Option, zero, suc, neg_ℤ, ◌≤ℤ◌, FitsSigned, w64, to_z, of_z, IfSome, unwrap_or, is_some, map, All, subst}
use Rattle.std.proofs.Math.ListN.{get_or}
use Rattle.std.proofs.lemmas.Int.{ints, to_z-of_z}
use Rattle.values.specs.Value.{answer_max}
use Rattle.values.specs.Ranges.{IsAnswerNumber, IsStreamNumber}
use Rattle.column.specs.Bits.{at_places}
use Rattle.column.specs.Columns.{IsColumn, IsCell, IsStreamValue, numbers_of, values_of}

pub same_length : (numbers : List ℤ) (valid : List Bool) → IsColumn numbers valid → length numbers ≡ length valid
same_length [] [] c = refl
same_length [] (v ∷ vs) c = absurd c
same_length (n ∷ ns) [] c = absurd c
same_length (n ∷ ns) (v ∷ vs) c = ap suc (same_length ns vs c.1)

pub length-values_of : (numbers : List ℤ) (valid : List Bool) → IsColumn numbers valid → length (values_of numbers valid) ≡ length valid
length-values_of [] [] c = refl
length-values_of [] (v ∷ vs) c = absurd c
length-values_of (n ∷ ns) [] c = absurd c
length-values_of (n ∷ ns) (v ∷ vs) c = ap suc (length-values_of ns vs c.1)

pub length-column : (numbers : List ℤ) (valid : List Bool) (vs : List (Option ℤ)) → IsColumn numbers valid → values_of numbers valid ≡ vs → length valid ≡ length vs
length-column numbers valid vs c e = sym (length-values_of numbers valid c) ∙ ap length e

pub get_or-values_of : (numbers : List ℤ) (valid : List Bool) (i : ℕ) → IsColumn numbers valid → i < length valid
    → get_or (values_of numbers valid) i None ≡ cond (get_or valid i false) (Some (get_or numbers i (pos 0))) None
get_or-values_of [] [] i c h = absurd (omega arith)
get_or-values_of [] (v ∷ vs) i c h = absurd c
get_or-values_of (n ∷ ns) [] i c h = absurd c
get_or-values_of (n ∷ ns) (v ∷ vs) zero c h = refl
get_or-values_of (n ∷ ns) (v ∷ vs) (suc i) c h = get_or-values_of ns vs i c.1 (omega arith)

pub cell_at : (numbers : List ℤ) (valid : List Bool) (i : ℕ) → IsColumn numbers valid → i < length valid → IsCell (get_or numbers i (pos 0)) (get_or valid i false)
cell_at [] [] i c h = absurd (omega arith)
cell_at [] (v ∷ vs) i c h = absurd c
cell_at (n ∷ ns) [] i c h = absurd c
cell_at (n ∷ ns) (v ∷ vs) zero c h = c.0
cell_at (n ∷ ns) (v ∷ vs) (suc i) c h = cell_at ns vs i c.1 (omega arith)

pub values_of-push : (numbers : List ℤ) (valid : List Bool) (n : ℤ) (v : Bool) → IsColumn numbers valid
    → values_of (numbers ++ n ∷ []) (valid ++ v ∷ []) ≡ values_of numbers valid ++ cond v (Some n) None ∷ []
values_of-push [] [] n v c = refl
values_of-push [] (w ∷ vs) n v c = absurd c
values_of-push (m ∷ ns) [] n v c = absurd c
values_of-push (m ∷ ns) (w ∷ vs) n v c = ap (λ l. cond w (Some m) None ∷ l) (values_of-push ns vs n v c.1)

pub IsColumn-push : (numbers : List ℤ) (valid : List Bool) (n : ℤ) (v : Bool) → IsColumn numbers valid → IsCell n v → IsColumn (numbers ++ n ∷ []) (valid ++ v ∷ [])
IsColumn-push [] [] n v c d = (d, tt)
IsColumn-push [] (w ∷ vs) n v c d = absurd c
IsColumn-push (m ∷ ns) [] n v c d = absurd c
IsColumn-push (m ∷ ns) (w ∷ vs) n v c d = (c.0, IsColumn-push ns vs n v c.1 d)

-- ---- a part
IsColumn-take : (k : ℕ) (numbers : List ℤ) (valid : List Bool) → IsColumn numbers valid → IsColumn (take k numbers) (take k valid)
IsColumn-take zero numbers valid c = tt
IsColumn-take (suc k) [] [] c = tt
IsColumn-take (suc k) [] (v ∷ vs) c = absurd c
IsColumn-take (suc k) (n ∷ ns) [] c = absurd c
IsColumn-take (suc k) (n ∷ ns) (v ∷ vs) c = (c.0, IsColumn-take k ns vs c.1)

IsColumn-drop : (k : ℕ) (numbers : List ℤ) (valid : List Bool) → IsColumn numbers valid → IsColumn (drop k numbers) (drop k valid)
IsColumn-drop zero numbers valid c = c
IsColumn-drop (suc k) [] [] c = tt
IsColumn-drop (suc k) [] (v ∷ vs) c = absurd c
IsColumn-drop (suc k) (n ∷ ns) [] c = absurd c
IsColumn-drop (suc k) (n ∷ ns) (v ∷ vs) c = IsColumn-drop k ns vs c.1

values_of-take : (k : ℕ) (numbers : List ℤ) (valid : List Bool) → IsColumn numbers valid → values_of (take k numbers) (take k valid) ≡ take k (values_of numbers valid)
values_of-take zero numbers valid c = refl
values_of-take (suc k) [] [] c = refl
values_of-take (suc k) [] (v ∷ vs) c = absurd c
values_of-take (suc k) (n ∷ ns) [] c = absurd c
values_of-take (suc k) (n ∷ ns) (v ∷ vs) c = ap (λ l. cond v (Some n) None ∷ l) (values_of-take k ns vs c.1)

values_of-drop : (k : ℕ) (numbers : List ℤ) (valid : List Bool) → IsColumn numbers valid → values_of (drop k numbers) (drop k valid) ≡ drop k (values_of numbers valid)
values_of-drop zero numbers valid c = refl
values_of-drop (suc k) [] [] c = refl
values_of-drop (suc k) [] (v ∷ vs) c = absurd c
values_of-drop (suc k) (n ∷ ns) [] c = absurd c
values_of-drop (suc k) (n ∷ ns) (v ∷ vs) c = values_of-drop k ns vs c.1

-- a column made of another, and the values that it shows
pub record IsMade (numbers : List ℤ) (valid : List Bool) (vs : List (Option ℤ)) : Type 0 where
  pub column : IsColumn numbers valid
  pub seen : values_of numbers valid ≡ vs

pub parted : (numbers : List ℤ) (valid : List Bool) (vs : List (Option ℤ)) (a b : ℕ) (numbers' : List ℤ) (valid' : List Bool) → IsColumn numbers valid → values_of numbers valid ≡ vs
    → numbers' ≡ slice_range numbers a b → valid' ≡ slice_range valid a b → IsMade numbers' valid' (slice_range vs a b)
parted numbers valid vs a b numbers' valid' c e g f = rw (g, f) (record {
  column = IsColumn-take (b - a) (drop a numbers) (drop a valid) (IsColumn-drop a numbers valid c);
  seen = values_of-take (b - a) (drop a numbers) (drop a valid) (IsColumn-drop a numbers valid c) ∙ ap (take (b - a)) (values_of-drop a numbers valid c) ∙ ap (λ l. slice_range l a b) e;
})

-- ---- the cells at some places
IsColumn-at_places : (numbers : List ℤ) (valid : List Bool) (places : List ℕ) → IsColumn numbers valid → All (λ i. i < length valid) places
    → IsColumn (at_places (pos 0) places numbers) (at_places false places valid)
IsColumn-at_places numbers valid [] c h = tt
IsColumn-at_places numbers valid (p ∷ ps) c h = (cell_at numbers valid p c (h zero p (omega arith)), IsColumn-at_places numbers valid ps c (λ k d l. h (suc k) d (omega arith)))

values_of-at_places : (numbers : List ℤ) (valid : List Bool) (places : List ℕ) → IsColumn numbers valid → All (λ i. i < length valid) places
    → values_of (at_places (pos 0) places numbers) (at_places false places valid) ≡ at_places None places (values_of numbers valid)
values_of-at_places numbers valid [] c h = refl
values_of-at_places numbers valid (p ∷ ps) c h = λ t. sym (get_or-values_of numbers valid p c (h zero p (omega arith))) t ∷ values_of-at_places numbers valid ps c (λ k d l. h (suc k) d (omega arith)) t

pub picked_cells : (numbers : List ℤ) (valid : List Bool) (vs : List (Option ℤ)) (places : List ℕ) (numbers' : List ℤ) (valid' : List Bool) → IsColumn numbers valid → values_of numbers valid ≡ vs
    → All (λ i. i < length vs) places → numbers' ≡ at_places (pos 0) places numbers → valid' ≡ at_places false places valid → IsMade numbers' valid' (at_places None places vs)
picked_cells numbers valid vs places numbers' valid' c e h g f =
    let l : All (λ i. i < length valid) places = λ k d b. omega (arith, h k d b, length-column numbers valid vs c e) in
    rw (g, f) (record {
      column = IsColumn-at_places numbers valid places c l;
      seen = values_of-at_places numbers valid places c l ∙ ap (at_places None places) e;
    })

-- ---- what a value brings
pub cell_of : (v : Option ℤ) → IfSome v IsAnswerNumber → IsCell (unwrap_or v (pos 0)) (is_some v)
cell_of None h = record { range = (omega (arith, ints), omega (arith, ints)); zero = λ e. refl }
cell_of (Some n) h = record { range = h; zero = λ e. absurd (cc) }

pub value_back : (v : Option ℤ) → cond (is_some v) (Some (unwrap_or v (pos 0))) None ≡ v
value_back None = refl
value_back (Some n) = refl

get_or_any : (xs : List ℤ) (i : ℕ) (a b : ℤ) → i < length xs → get_or xs i a ≡ get_or xs i b
get_or_any [] i a b h = absurd (omega arith)
get_or_any (x ∷ xs) zero a b h = refl
get_or_any (x ∷ xs) (suc i) a b h = get_or_any xs i a b (omega arith)

pub word_fits : (n : ℤ) → IsAnswerNumber n → FitsSigned w64 n
word_fits (pos a) h = let k : pos a ≤ℤ answer_max = h.1 in record { sfits = omega (arith, ints) }
word_fits (negsuc a) h = let l : neg_ℤ answer_max ≤ℤ negsuc a = h.0 in record { sfits = omega (arith, ints) }

-- the number that stands at a place
record StandsAt (numbers : List ℤ) (i : ℕ) (x : ℤ) : Type 0 where
  same : x ≡ get_or numbers i (pos 0)
  range : IsAnswerNumber (get_or numbers i (pos 0))
  whole : to_z w64 (of_z w64 x) ≡ get_or numbers i (pos 0)

stands_at : (numbers : List ℤ) (valid : List Bool) (vs : List (Option ℤ)) (i : ℕ) (x : ℤ) → IsColumn numbers valid → values_of numbers valid ≡ vs → i < length vs
    → x ≡ get_or numbers i x → StandsAt numbers i x
stands_at numbers valid vs i x c e h t =
    let l : i < length valid = omega (arith, h, length-column numbers valid vs c e) in
    let same : x ≡ get_or numbers i (pos 0) = t ∙ get_or_any numbers i x (pos 0) (omega (arith, l, same_length numbers valid c)) in
    let range : IsAnswerNumber (get_or numbers i (pos 0)) = (cell_at numbers valid i c l).range in
    record { same = same; range = range; whole = ap (λ z. to_z w64 (of_z w64 z)) same ∙ to_z-of_z w64 (get_or numbers i (pos 0)) (word_fits (get_or numbers i (pos 0)) range) }

pub number_there : (numbers : List ℤ) (valid : List Bool) (vs : List (Option ℤ)) (i : ℕ) (x : ℤ) → IsColumn numbers valid → values_of numbers valid ≡ vs → i < length vs
    → x ≡ get_or numbers i x → IsAnswerNumber (to_z w64 (of_z w64 x))
number_there numbers valid vs i x c e h t =
    let at : StandsAt numbers i x = stands_at numbers valid vs i x c e h t in
    let P : ℤ → Type 0 = λ z. IsAnswerNumber z in
    subst P (sym at.whole) at.range

pub some_there : (numbers : List ℤ) (valid : List Bool) (vs : List (Option ℤ)) (i : ℕ) (v : Bool) (x : ℤ) (r : Option ℤ) → IsColumn numbers valid → values_of numbers valid ≡ vs → i < length vs
    → v ≡ get_or valid i false → v ≡ true → x ≡ get_or numbers i x → r ≡ Some (to_z w64 (of_z w64 x)) → r ≡ get_or vs i None
some_there numbers valid vs i v x r c e h g f t n =
    let l : i < length valid = omega (arith, h, length-column numbers valid vs c e) in
    n ∙ ap Some (stands_at numbers valid vs i x c e h t).whole
    ∙ ap (λ b. cond b (Some (get_or numbers i (pos 0))) None) (sym f ∙ g) ∙ sym (get_or-values_of numbers valid i c l) ∙ ap (λ w. get_or w i None) e

pub none_there : (numbers : List ℤ) (valid : List Bool) (vs : List (Option ℤ)) (i : ℕ) (v : Bool) (r : Option ℤ) → IsColumn numbers valid → values_of numbers valid ≡ vs → i < length vs
    → v ≡ get_or valid i false → v ≡ false → r ≡ None → r ≡ get_or vs i None
none_there numbers valid vs i v r c e h g f n =
    let l : i < length valid = omega (arith, h, length-column numbers valid vs c e) in
    n ∙ sym (ap (λ b. cond b (Some (get_or numbers i (pos 0))) None) (sym g ∙ f)) ∙ sym (get_or-values_of numbers valid i c l) ∙ ap (λ x. get_or x i None) e

-- ---- a value more
pub record IsPushed (numbers : List ℤ) (valid : List Bool) (v : Option ℤ) (numbers' : List ℤ) (valid' : List Bool) : Type 0 where
  pub column : IsColumn numbers' valid'
  pub seen : values_of numbers' valid' ≡ values_of numbers valid ++ v ∷ []

pub pushed : (numbers : List ℤ) (valid : List Bool) (v : Option ℤ) (n : ℤ) (numbers' : List ℤ) (valid' : List Bool) → IsColumn numbers valid → IfSome v IsAnswerNumber
    → numbers' ≡ numbers ++ to_z w64 (of_z w64 n) ∷ [] → n ≡ unwrap_or v (pos 0) → valid' ≡ valid ++ is_some v ∷ [] → IsPushed numbers valid v numbers' valid'
pushed numbers valid v n numbers' valid' c h e g f =
    let cell : IsCell (unwrap_or v (pos 0)) (is_some v) = cell_of v h in
    let same : numbers' ≡ numbers ++ unwrap_or v (pos 0) ∷ [] = e ∙ ap (λ m. numbers ++ to_z w64 (of_z w64 m) ∷ []) g ∙ ap (λ m. numbers ++ m ∷ []) (to_z-of_z w64 (unwrap_or v (pos 0)) (word_fits (unwrap_or v (pos 0)) cell.range)) in
    rw (same, f) (record {
      column = IsColumn-push numbers valid (unwrap_or v (pos 0)) (is_some v) c cell;
      seen = values_of-push numbers valid (unwrap_or v (pos 0)) (is_some v) c ∙ ap (λ w. values_of numbers valid ++ w ∷ []) (value_back v);
    })

-- ---- what lies in memory
number_again : (n : ℤ) (v : Bool) → IsCell n v → unwrap_or (cond v (Some n) None) (pos 0) ≡ n
number_again n true c = refl
number_again n false c = sym (c.zero refl)

valid_again : (n : ℤ) (v : Bool) → is_some (cond v (Some n) None) ≡ v
valid_again n true = refl
valid_again n false = refl

pub numbers_again : (numbers : List ℤ) (valid : List Bool) → IsColumn numbers valid → numbers_of (values_of numbers valid) ≡ numbers
numbers_again [] [] c = refl
numbers_again [] (v ∷ vs) c = absurd c
numbers_again (n ∷ ns) [] c = absurd c
numbers_again (n ∷ ns) (v ∷ vs) c = λ t. number_again n v c.0 t ∷ numbers_again ns vs c.1 t

pub valids_again : (numbers : List ℤ) (valid : List Bool) → IsColumn numbers valid → map is_some (values_of numbers valid) ≡ valid
valids_again [] [] c = refl
valids_again [] (v ∷ vs) c = absurd c
valids_again (n ∷ ns) [] c = absurd c
valids_again (n ∷ ns) (v ∷ vs) c = λ t. valid_again n v t ∷ valids_again ns vs c.1 t

-- ---- the stream range
stream_cell : (n : ℤ) (v : Bool) → IsCell n v → IsStreamNumber n → IsStreamValue (cond v (Some n) None)
stream_cell n true c h = h
stream_cell n false c h = tt

stream_number : (n : ℤ) (v : Bool) → IsCell n v → IsStreamValue (cond v (Some n) None) → IsStreamNumber n
stream_number n true c h = h
stream_number n false c h = let P : ℤ → Type 0 = λ z. IsStreamNumber z in subst P (sym (c.zero refl)) (omega (arith, ints), omega (arith, ints))

pub get_or_any_value : (xs : List (Option ℤ)) (i : ℕ) (a b : Option ℤ) → i < length xs → get_or xs i a ≡ get_or xs i b
get_or_any_value [] i a b h = absurd (omega arith)
get_or_any_value (x ∷ xs) zero a b h = refl
get_or_any_value (x ∷ xs) (suc i) a b h = get_or_any_value xs i a b (omega arith)

pub stream_values : (numbers : List ℤ) (valid : List Bool) → IsColumn numbers valid → All IsStreamNumber numbers → All IsStreamValue (values_of numbers valid)
stream_values numbers valid c h k d l =
    let i : k < length valid = omega (arith, l, length-values_of numbers valid c) in
    let P : Option ℤ → Type 0 = λ v. IsStreamValue v in
    subst P (sym (get_or-values_of numbers valid k c i) ∙ get_or_any_value (values_of numbers valid) k None d l)
    (stream_cell _ _ (cell_at numbers valid k c i) (h k (pos 0) (omega (arith, i, same_length numbers valid c))))

pub stream_numbers : (numbers : List ℤ) (valid : List Bool) → IsColumn numbers valid → All IsStreamValue (values_of numbers valid) → All IsStreamNumber numbers
stream_numbers numbers valid c h k d l =
    let i : k < length valid = omega (arith, l, same_length numbers valid c) in
    let P : ℤ → Type 0 = λ z. IsStreamNumber z in
    let Q : Option ℤ → Type 0 = λ v. IsStreamValue v in
    subst P (get_or_any numbers k (pos 0) d l) (stream_number _ _ (cell_at numbers valid k c i) (subst Q (get_or-values_of numbers valid k c i) (h k None (omega (arith, i, length-values_of numbers valid c)))))

pub answer_numbers : (numbers : List ℤ) (valid : List Bool) → IsColumn numbers valid → All IsAnswerNumber numbers
answer_numbers numbers valid c k d l =
    let i : k < length valid = omega (arith, l, same_length numbers valid c) in
    let P : ℤ → Type 0 = λ z. IsAnswerNumber z in
    subst P (get_or_any numbers k (pos 0) d l) (cell_at numbers valid k c i).range
