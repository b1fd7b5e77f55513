-- A walk over a list in order, the rows of one pile beyond another, and those of the other beyond the one.
use Rattle.std.proofs.Common.{◌≡◌, ℕ, ◌+◌, ◌<◌, ◌≤◌, ℤ, Bool, true, false, cond, Option, List, [], ◌∷◌, ◌++◌, length, drop, get_or, refl, ap, ap₂, sym, ◌∙◌, arith, append_assoc}
use Rattle.std.proofs.lemmas.List.{drop_all}
use Rattle.values.specs.Row.{Row, row_cmp}
use Rattle.values.specs.Bag.{is_above}
use Rattle.row_bags.specs.Lists.{beyond, beyond_at, beyond_from, is_first, merged, past, rows_by, staying, up_to}
use Rattle.row_bags.proofs.ListLemmas.{walk-leaves, up_to-front, up_to-none, past-front, past-none}
use Rattle.row_bags.proofs.PileLemmas.{front}

-- THE ROWS BEYOND

pub first-beyond : (x : Row) (p : ℕ × ℕ) (xs ys : List Row) → is_first x (beyond_from p xs ys) ≡ is_first x (drop p.0 xs)
first-beyond x p xs ys = same (drop p.0 xs)
  where
    same : (rs : List Row) → is_first x (beyond_at rs (drop p.1 ys)) ≡ is_first x rs
    same [] = refl
    same (r ∷ rs) = refl

-- the row at which the walk stands, and the rows behind it
pub beyond-stands : (p : ℕ × ℕ) (x : Row) (xs ys : List Row) → p.0 < length xs → x ≡ get_or xs p.0 [] → beyond_from p xs ys ≡ x ∷ beyond (drop (p.0 + 1) xs) (drop p.1 ys)
beyond-stands p x xs ys h is = ap (λ l. beyond_at l (drop p.1 ys)) (front p.0 xs x h is)

pub beyond-front : (p q : ℕ × ℕ) (x : Row) (xs ys : List Row) → p.0 < length xs → x ≡ get_or xs p.0 [] → beyond_from q xs ys ≡ beyond (drop (p.0 + 1) xs) (drop p.1 ys) → beyond_from p xs ys ≡ x ∷ beyond_from q xs ys
beyond-front p q x xs ys h is rest = beyond-stands p x xs ys h is ∙ ap (λ l. x ∷ l) (sym rest)

pub none-beyond : (p : ℕ × ℕ) (xs ys : List Row) → length xs ≤ p.0 → beyond_from p xs ys ≡ []
none-beyond p xs ys h = ap (λ l. beyond_at l (drop p.1 ys)) (drop_all p.0 xs h)

-- A STEP OF THE WALK

-- the row at the front has left
pub step-leaves : (done front rest entered all gone gone' : List Row) (row x : Row) → front ≡ row ∷ rest → gone ≡ x ∷ gone' → is_first row gone ≡ true
    → done ++ merged (staying front gone) entered ≡ all → done ++ merged (staying rest gone') entered ≡ all
step-leaves done front rest entered all gone gone' row x e g t h =
    walk-leaves done front rest (x ∷ gone') entered all row 0 e (ap (is_first row) (sym g) ∙ t) (ap (λ l. done ++ merged (staying front l) entered) (sym g) ∙ h)

-- it stays, behind those that entered up to it
pub step-stays : (olds mids news front rest left entered behind all : List Row) (row : Row) → front ≡ row ∷ rest → is_first row left ≡ false
    → mids ≡ olds ++ up_to row entered → behind ≡ past row entered → news ≡ mids ++ row ∷ []
    → olds ++ merged (staying front left) entered ≡ all → news ++ merged (staying rest left) behind ≡ all
step-stays olds mids news front rest left entered behind all row e f m p n h =
    ap (λ l. l ++ merged (staying rest left) behind) n
    ∙ append_assoc mids (row ∷ []) (merged (staying rest left) behind)
    ∙ ap₂ (λ (xs ys : List Row). xs ++ row ∷ merged (staying rest left) ys) m p
    ∙ append_assoc olds (up_to row entered) (row ∷ merged (staying rest left) (past row entered))
    ∙ ap (λ (b : Bool). olds ++ merged (cond b (staying rest (drop 1 left)) (row ∷ staying rest left)) entered) (sym f)
    ∙ ap (λ (l : List Row). olds ++ merged (staying l left) entered) (sym e)
    ∙ h

-- ROWS THAT ARE PUSHED

-- one more of them
pub pushed-on : (olds news behind behind' : List Row) (y : Row) → behind ≡ y ∷ behind' → news ≡ olds ++ y ∷ [] → news ++ behind' ≡ olds ++ behind
pushed-on olds news behind behind' y e n = ap (λ l. l ++ behind') n ∙ append_assoc olds (y ∷ []) behind' ∙ ap (λ l. olds ++ l) (sym e)

pub up_to-on : (x y : Row) (rows rest : List Row) → rows ≡ y ∷ rest → is_above row_cmp y x ≡ false → up_to x rows ≡ y ∷ up_to x rest
up_to-on x y rows rest e h = ap (up_to x) e ∙ up_to-front x y rest h

pub past-on : (x y : Row) (rows rest : List Row) → rows ≡ y ∷ rest → is_above row_cmp y x ≡ false → past x rows ≡ past x rest
past-on x y rows rest e h = ap (past x) e ∙ past-front x y rest h

pub up_to-ends : (x y : Row) (rows rest : List Row) → rows ≡ y ∷ rest → is_above row_cmp y x ≡ true → up_to x rows ≡ []
up_to-ends x y rows rest e h = ap (up_to x) e ∙ up_to-none x y rest h

pub past-ends : (x y : Row) (rows rest : List Row) → rows ≡ y ∷ rest → is_above row_cmp y x ≡ true → past x rows ≡ rows
past-ends x y rows rest e h = ap (past x) e ∙ past-none x y rest h ∙ sym e

pub length-rows_by : (ws : List ℕ) (vs : List (Option ℤ)) → length (rows_by ws vs) ≡ length ws
length-rows_by [] vs = refl
length-rows_by (w ∷ ws) vs = omega (arith, length-rows_by ws (drop w vs))
