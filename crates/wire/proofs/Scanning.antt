-- What stands in front of a text that is scanned.
use Rattle.std.proofs.Common.{◌≡◌, ℕ, ℤ, ◌+◌, Bool, true, false, not, List, [], ◌∷◌, ◌++◌, length, take, drop, Option, Some, None, MatchOption, IfSome, Bor, codes, to_z, of_z, w64, refl, sym, ap, ap₂, ◌∙◌, arith, append_assoc, append-nil}
use Rattle.std.proofs.lemmas.Int.{ints, to_z-of_z}
use Rattle.std.proofs.lemmas.List.{take-append-drop}
use Rattle.std.proofs.lemmas.Bool.{false≢true}
use Rattle.std.proofs.lemmas.Grind.{flat_map-append}
use Rattle.std.proofs.lemmas.Slice.Eq.{bytes_eq-Decides}
use Rattle.std.specs.Cmp.Lexicographic.{pointwise}
use Rattle.std.specs.Fmt.{signed_decimal}
use Rattle.std.specs.List.{AllByRecursion}
use Rattle.std.specs.Prelude.{nat_eq}
use Rattle.wire.specs.Calls.{NewRow}
use Rattle.wire.specs.Printed.{value_text, after_commas, row_text, rows_text}
use Rattle.wire.specs.Usual.{IsShort, before_commas, append_line}

-- a word that was found in front
pub behind_word : (text word : List ℕ) (found : Option (Bor (List ℕ)))
    → MatchOption found (pointwise nat_eq (take (length word) text) word ≡ false)
    (λ x. (pointwise nat_eq (take (length word) text) word ≡ true) × (x.now ≡ drop (length word) text) × (length x.now + length word ≡ length text))
    → IfSome found (λ rest. text ≡ word ++ rest.now)
behind_word text word None h = tt
behind_word text word (Some rest) h =
    let front : take (length word) text ≡ word = (bytes_eq-Decides (take (length word) text) word).0 h.0 in
    sym (take-append-drop (length word) text) ∙ ap₂ (λ a b. a ++ b) front (sym h.1)

not_other : (same : Bool) → false ≡ not same → same ≡ true
not_other true e = refl
not_other false e = absurd (false≢true e)

-- bytes that are not other bytes
pub same_bytes : (xs ys : List ℕ) → false ≡ not (pointwise nat_eq xs ys) → xs ≡ ys
same_bytes xs ys e = (bytes_eq-Decides xs ys).0 (not_other (pointwise nat_eq xs ys) e)

-- bytes that are equal bytes
pub equal_bytes : (xs ys : List ℕ) → true ≡ pointwise nat_eq xs ys → xs ≡ ys
equal_bytes xs ys e = (bytes_eq-Decides xs ys).0 (sym e)

-- a short number is one of 64 bits
pub in_word : (z : ℤ) → IsShort z → to_z w64 (of_z w64 z) ≡ z
in_word z short = grind (arith, ints, to_z-of_z)

-- ---- rows

pub row_ends : (text rest behind : List ℕ) (at : ℤ) (values : List (Option ℤ))
    → text ≡ codes "[" ++ signed_decimal at ++ after_commas value_text values ++ rest → rest ≡ 93 ∷ behind → text ≡ row_text (at, values) ++ behind
unfolding row_text
row_ends text rest behind at values is ends =
    let front = codes "[" ++ signed_decimal at ++ after_commas value_text values in
    is ∙ ap (λ more. front ++ more) ends ∙ sym (append_assoc front (93 ∷ []) behind)

one_more : (front row next : List ℕ) → front ++ (row ++ 44 ∷ next) ≡ (front ++ (row ++ 44 ∷ [] ++ [])) ++ next
one_more front row next = simp (append_assoc, append-nil)

pub one_more_row : (text rest behind next : List ℕ) (rows new : List NewRow) (row : NewRow)
    → text ≡ before_commas row_text rows ++ rest → rest ≡ row_text row ++ behind → behind ≡ 44 ∷ next → new ≡ rows ++ row ∷ []
    → text ≡ before_commas row_text new ++ next
one_more_row text rest behind next rows new row is front comma pushed =
    let grown : before_commas row_text new ≡ before_commas row_text rows ++ (row_text row ++ 44 ∷ [] ++ []) =
    ap (before_commas row_text) pushed ∙ flat_map-append (λ r. row_text r ++ codes ",") rows (row ∷ []) in
    is ∙ ap (λ more. before_commas row_text rows ++ more) (front ∙ ap (λ more. row_text row ++ more) comma)
    ∙ one_more (before_commas row_text rows) (row_text row) next ∙ ap (λ all. all ++ next) (sym grown)

-- the last of the rows stands before no comma
later_rows : (rows : List NewRow) (row : NewRow) → after_commas row_text (rows ++ row ∷ []) ≡ 44 ∷ (before_commas row_text rows ++ row_text row)
later_rows [] row = ap (λ s. 44 ∷ s) (append-nil (row_text row))
later_rows (first ∷ rows) row =
    ap (λ s. 44 ∷ (row_text first ++ s)) (later_rows rows row) ∙ ap (λ s. 44 ∷ s) (simp append_assoc)

first_row : (first rows last : List ℕ) → first ++ 44 ∷ [] ++ rows ++ last ≡ first ++ (44 ∷ (rows ++ last))
first_row first rows last = simp append_assoc

all_rows : (rows : List NewRow) (row : NewRow) → before_commas row_text rows ++ row_text row ≡ rows_text (rows ++ row ∷ [])
unfolding rows_text
all_rows [] row = sym (append-nil (row_text row))
all_rows (first ∷ rows) row =
    first_row (row_text first) (before_commas row_text rows) (row_text row) ∙ ap (λ s. row_text first ++ s) (sym (later_rows rows row))

pub rows_end : (text rest behind next : List ℕ) (rows new : List NewRow) (row : NewRow)
    → text ≡ before_commas row_text rows ++ rest → rest ≡ row_text row ++ behind → behind ≡ 93 ∷ next → new ≡ rows ++ row ∷ []
    → text ≡ rows_text new ++ codes "]" ++ next
rows_end text rest behind next rows new row is front bracket pushed =
    is ∙ ap (λ more. before_commas row_text rows ++ more) (front ∙ ap (λ more. row_text row ++ more) bracket)
    ∙ sym (append_assoc (before_commas row_text rows) (row_text row) (93 ∷ next))
    ∙ ap (λ all. all ++ 93 ∷ next) (all_rows rows row ∙ ap rows_text (sym pushed))
    ∙ sym (append_assoc (rows_text new) (93 ∷ []) next)

pub AllByRecursion-push : {A : Type 0} (P : A → Type 0) (xs : List A) (x : A) → AllByRecursion P xs → P x → AllByRecursion P (xs ++ x ∷ [])
AllByRecursion-push P [] x h k = (k, tt)
AllByRecursion-push P (y ∷ xs) x h k = (h.0, AllByRecursion-push P xs x h.1 k)

-- ---- the whole line

line_parts : (name rows : List ℕ)
    → codes "{\"op\":\"append\",\"stream\":\"" ++ (name ++ (codes "\",\"rows\":[" ++ (rows ++ codes "]" ++ codes "}")))
    ≡ codes "{\"op\":\"append\",\"stream\":\"" ++ name ++ codes "\",\"rows\":[" ++ rows ++ codes "]}"
line_parts name rows = simp append_assoc

number_parts : (front name middle number last : List ℕ) → front ++ (name ++ (middle ++ (number ++ last))) ≡ front ++ name ++ middle ++ number ++ last
number_parts front name middle number last = simp append_assoc

pub whole_line : (line named name listed text last : List ℕ) (rows : List NewRow)
    → line ≡ codes "{\"op\":\"append\",\"stream\":\"" ++ named → named ≡ name ++ listed → listed ≡ codes "\",\"rows\":[" ++ text
    → text ≡ rows_text rows ++ codes "]" ++ last → last ≡ codes "}" → line ≡ append_line name rows
whole_line line named name listed text last rows begins names lists has ends =
    begins
    ∙ ap (λ s. codes "{\"op\":\"append\",\"stream\":\"" ++ s)
    (names ∙ ap (λ s. name ++ s) (lists ∙ ap (λ s. codes "\",\"rows\":[" ++ s) (has ∙ ap (λ s. rows_text rows ++ codes "]" ++ s) ends)))
    ∙ line_parts name (rows_text rows)

pub number_line : (line named text valued last front name middle number : List ℕ)
    → line ≡ front ++ named → named ≡ name ++ text → text ≡ middle ++ valued → valued ≡ number ++ last → last ≡ codes "}"
    → line ≡ front ++ name ++ middle ++ number ++ codes "}"
number_line line named text valued last front name middle number begins names goes has ends =
    begins ∙ ap (λ s. front ++ s) (names ∙ ap (λ s. name ++ s) (goes ∙ ap (λ s. middle ++ s) (has ∙ ap (λ s. number ++ s) ends)))
    ∙ number_parts front name middle number (codes "}")
