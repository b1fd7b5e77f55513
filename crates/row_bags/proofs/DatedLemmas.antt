-- Rows with their instants: more behind them, and their front.
use Rattle.std.proofs.Common.{◌≡◌, min, ℕ, ℤ, zero, suc, Result, Ok, Err, OnOk, ◌+◌, ◌-◌, ◌<◌, ◌≤◌, Option, List, [], ◌∷◌, ◌++◌, length, map, take, drop, get_or, refl, ap, ap₂, sym, subst, ◌∙◌, arith, append_assoc, length-append, length-drop, drop-cons}
use Rattle.std.proofs.Math.Seq.{take-add, take-append-add}
use Rattle.std.proofs.lemmas.List.{drop-append-le, drop-drop, take-append-le, take_all, take_at, drop_all, drop-take, length-take, length-take-le}
use Rattle.values.specs.declared.TheConstants.{MAX_COLUMNS}
use Rattle.values.specs.Row.{Row}
use Rattle.row_bags.specs.declared.dated_rows.DatedHead.{DatedHead}
use Rattle.row_bags.specs.Dated.{dated_by, AreHeaded, count_values}

abbrev Values : Type 0
Values = List (Option ℤ)

pub length-dated_by : (hs : List DatedHead) (vs : Values) → length (dated_by hs vs) ≡ length hs
length-dated_by [] vs = refl
length-dated_by (h ∷ hs) vs = ap (λ (n : ℕ). suc n) (length-dated_by hs (drop h.width vs))

-- MORE ROWS

pub dated_by-append : (hs gs : List DatedHead) (vs ws : Values) → AreHeaded hs vs → dated_by (hs ++ gs) (vs ++ ws) ≡ dated_by hs vs ++ dated_by gs ws
dated_by-append [] gs vs ws a = ap (λ (v : Values). dated_by gs (v ++ ws)) a
dated_by-append (h ∷ hs) gs vs ws a =
    ap₂ (λ (r v : Values). (h.instant, r) ∷ dated_by (hs ++ gs) v) (take-append-le h.width vs ws a.1) (drop-append-le h.width vs ws a.1)
    ∙ ap (λ (es : List (ℕ × Row)). (h.instant, take h.width vs) ∷ es) (dated_by-append hs gs (drop h.width vs) ws a.2)

pub AreHeaded-append : (hs gs : List DatedHead) (vs ws : Values) → AreHeaded hs vs → AreHeaded gs ws → AreHeaded (hs ++ gs) (vs ++ ws)
AreHeaded-append [] gs vs ws a b = subst (λ (v : Values). AreHeaded gs (v ++ ws)) (sym a) b
AreHeaded-append (h ∷ hs) gs vs ws a b =
    (a.0, omega (arith, a.1, length-append vs ws), subst (AreHeaded (hs ++ gs)) (sym (drop-append-le h.width vs ws a.1)) (AreHeaded-append hs gs (drop h.width vs) ws a.2 b))

-- one row more
pub dated_by-more : (hs : List DatedHead) (vs r : Values) (h : DatedHead) → AreHeaded hs vs → h.width ≡ length r → dated_by (hs ++ h ∷ []) (vs ++ r) ≡ dated_by hs vs ++ (h.instant, r) ∷ []
dated_by-more hs vs r h a e =
    dated_by-append hs (h ∷ []) vs r a
    ∙ ap (λ (s : Row). dated_by hs vs ++ (h.instant, s) ∷ []) (take_all h.width r (omega (arith, e)))

pub AreHeaded-more : (hs : List DatedHead) (vs r : Values) (h : DatedHead) → AreHeaded hs vs → h.width ≡ length r → length r ≤ MAX_COLUMNS → AreHeaded (hs ++ h ∷ []) (vs ++ r)
AreHeaded-more hs vs r h a e few =
    AreHeaded-append hs (h ∷ []) vs r a (omega (arith, e, few), omega (arith, e), drop_all h.width r (omega (arith, e)))

-- THE FIRST ROWS

pub count-within : (n : ℕ) (hs : List DatedHead) (vs : Values) → AreHeaded hs vs → count_values (take n hs) ≤ length vs
count-within zero hs vs a = omega arith
count-within (suc n) [] vs a = omega arith
count-within (suc n) (h ∷ hs) vs a = omega (arith, a.1, count-within n hs (drop h.width vs) a.2, length-drop h.width vs)

pub count-next : (n : ℕ) (hs : List DatedHead) (h : DatedHead) → n < length hs → h ≡ get_or hs n h → count_values (take (n + 1) hs) ≡ count_values (take n hs) + h.width
count-next n [] h lt e = absurd (omega (arith, lt))
count-next zero (g ∷ hs) h lt e = ap (λ (f : DatedHead). f.width + 0) (sym e) ∙ omega arith
count-next (suc n) (g ∷ hs) h lt e =
    let k : suc n + 1 ≡ suc (n + 1) = omega arith in
    ap (λ (m : ℕ). count_values (take m (g ∷ hs))) k
    ∙ omega (arith, count-next n hs h (omega (arith, lt)) e)

pub count-least : (n m : ℕ) (hs : List DatedHead) → n ≤ m → count_values (take n hs) ≤ count_values (take m hs)
count-least zero m hs le = omega arith
count-least (suc n) zero hs le = absurd (omega (arith, le))
count-least (suc n) (suc m) [] le = omega arith
count-least (suc n) (suc m) (h ∷ hs) le = omega (arith, count-least n m hs (omega (arith, le)))

pub within-rows : (hs : List DatedHead) (vs : Values) (rows : List (ℕ × Row)) → dated_by hs vs ≡ rows → length rows ≡ length hs
within-rows hs vs rows e = sym (ap (λ (es : List (ℕ × Row)). length es) e) ∙ length-dated_by hs vs

pub take-clipped : {A : Type 0} (n m : ℕ) (xs : List A) → m ≡ min n (length xs) → take m xs ≡ take n xs
take-clipped zero zero xs e = refl
take-clipped zero (suc m) xs e = absurd (omega (arith, e))
take-clipped (suc n) zero [] e = refl
take-clipped (suc n) (suc m) [] e = absurd (omega (arith, e))
take-clipped (suc n) zero (x ∷ xs) e = absurd (omega (arith, e))
take-clipped (suc n) (suc m) (x ∷ xs) e = ap (λ (l : List _). x ∷ l) (take-clipped n m xs (omega (arith, e)))

pub take-seam : {A : Type 0} (n : ℕ) (xs ys zs : List A) → xs ++ ys ≡ zs → length xs ≤ n → xs ++ take (n - length xs) ys ≡ take n zs
take-seam {A = A} n xs ys zs e le =
    let split : length xs + (n - length xs) ≡ n = omega (arith, le) in
    sym (take-append-add xs ys (n - length xs)) ∙ ap₂ (λ (k : ℕ) (l : List A). take k l) split e

take-first : (w m : ℕ) (vs : Values) → w ≤ length vs → take w (take (w + m) vs) ≡ take w vs
take-first w m vs le = ap (λ (v : Values). take w v) (take-add w m vs) ∙ take_at (take w vs) (take m (drop w vs)) w (length-take-le w vs le)

pub dated_by-first : (n : ℕ) (hs : List DatedHead) (vs : Values) → AreHeaded hs vs → dated_by (take n hs) (take (count_values (take n hs)) vs) ≡ take n (dated_by hs vs)
dated_by-first zero hs vs a = refl
dated_by-first (suc n) [] vs a = refl
dated_by-first (suc n) (h ∷ hs) vs a =
    let m : ℕ = count_values (take n hs) in
    ap₂ (λ (r v : Values). (h.instant, r) ∷ dated_by (take n hs) v) (take-first h.width m vs a.1) (drop-take h.width m vs)
    ∙ ap (λ (es : List (ℕ × Row)). (h.instant, take h.width vs) ∷ es) (dated_by-first n hs (drop h.width vs) a.2)

pub AreHeaded-first : (n : ℕ) (hs : List DatedHead) (vs : Values) → AreHeaded hs vs → AreHeaded (take n hs) (take (count_values (take n hs)) vs)
AreHeaded-first zero hs vs a = refl
AreHeaded-first (suc n) [] vs a = refl
AreHeaded-first (suc n) (h ∷ hs) vs a =
    let m : ℕ = count_values (take n hs) in
    let within : h.width + m ≤ length vs = omega (arith, a.1, count-within n hs (drop h.width vs) a.2, length-drop h.width vs) in
    (a.0, omega (arith, length-take-le (h.width + m) vs within), subst (AreHeaded (take n hs)) (sym (drop-take h.width m vs)) (AreHeaded-first n hs (drop h.width vs) a.2))

-- ROWS THAT ARE READ

head_left : (hs : List DatedHead) (place : ℕ) (h : DatedHead) → place < length hs → h ≡ get_or hs place h → drop place hs ≡ h ∷ drop (suc place) hs
head_left hs place h lt is = drop-cons hs place h lt ∙ ap (λ (g : DatedHead). g ∷ drop (suc place) hs) (sym is)

-- the first row that is left
pub row_left : (hs : List DatedHead) (vs : Values) (place : ℕ) (h : DatedHead) → place < length hs → h ≡ get_or hs place h → dated_by (drop place hs) vs ≡ (h.instant, take h.width vs) ∷ drop 1 (dated_by (drop place hs) vs)
row_left hs vs place h lt is =
    let P : List DatedHead → Type 0 = λ l. dated_by l vs ≡ (h.instant, take h.width vs) ∷ drop 1 (dated_by l vs) in
    subst P (sym (head_left hs place h lt is)) refl

pub width_left : (hs : List DatedHead) (vs : Values) (place start : ℕ) (h : DatedHead) → place < length hs → h ≡ get_or hs place h → AreHeaded (drop place hs) (drop start vs) → start ≤ length vs → (h.width ≤ MAX_COLUMNS) × (start + h.width ≤ length vs)
width_left hs vs place start h lt is a few =
    let b = subst (λ (l : List DatedHead). AreHeaded l (drop start vs)) (head_left hs place h lt is) a in
    (b.0, omega (arith, b.1, length-drop start vs, few))

-- and those that are left when it is passed
pub headed_left : (hs : List DatedHead) (vs : Values) (place start : ℕ) (h : DatedHead) → place < length hs → h ≡ get_or hs place h → AreHeaded (drop place hs) (drop start vs) → AreHeaded (drop (place + 1) hs) (drop (start + h.width) vs)
headed_left hs vs place start h lt is a =
    let b = subst (λ (l : List DatedHead). AreHeaded l (drop start vs)) (head_left hs place h lt is) a in
    let one : suc place ≡ place + 1 = omega arith in
    subst (λ (k : ℕ). AreHeaded (drop k hs) (drop (start + h.width) vs)) one (subst (AreHeaded (drop (suc place) hs)) (drop-drop h.width start vs) b.2)

pub rows_left : (hs : List DatedHead) (vs : Values) (place start : ℕ) (h : DatedHead) → place < length hs → h ≡ get_or hs place h → dated_by (drop (place + 1) hs) (drop (start + h.width) vs) ≡ drop 1 (dated_by (drop place hs) (drop start vs))
rows_left hs vs place start h lt is =
    let one : place + 1 ≡ suc place = omega arith in
    ap (λ (k : ℕ). dated_by (drop k hs) (drop (start + h.width) vs)) one
    ∙ ap (dated_by (drop (suc place) hs)) (sym (drop-drop h.width start vs))
    ∙ ap (λ (l : List DatedHead). drop 1 (dated_by l (drop start vs))) (sym (head_left hs place h lt is))

pub none_left : (hs : List DatedHead) (vs : Values) (place : ℕ) → length hs ≤ place → dated_by (drop place hs) vs ≡ []
none_left hs vs place le = ap (λ (l : List DatedHead). dated_by l vs) (drop_all place hs le)

-- WHAT STANDS IN FRONT STAYS

pub kept-few : (olds xs : List (ℕ × Row)) → take (length olds) xs ≡ olds → length olds ≤ length xs
kept-few olds xs h = grind (arith, length-take (length olds) xs, ap (λ (es : List (ℕ × Row)). length es) h)

pub kept-behind : (olds news xs ys : List (ℕ × Row)) → news ≡ xs ++ ys → take (length olds) xs ≡ olds → take (length olds) news ≡ olds
kept-behind olds news xs ys e h =
    ap (λ (es : List (ℕ × Row)). take (length olds) es) e ∙ take-append-le (length olds) xs ys (kept-few olds xs h) ∙ h

-- rows of one instant come one after the other
pub dated-behind : (at : ℕ) (olds news : List (ℕ × Row)) (row : Row) (rest : List Row) → news ≡ olds ++ (at, row) ∷ [] → news ++ map (λ r. (at, r)) rest ≡ olds ++ map (λ r. (at, r)) (row ∷ rest)
dated-behind at olds news row rest n =
    ap (λ (es : List (ℕ × Row)). es ++ map (λ r. (at, r)) rest) n ∙ append_assoc olds ((at, row) ∷ []) (map (λ r. (at, r)) rest)

pub always : {A E P : Type 0} (r : Result A E) → P → OnOk r P
always (Ok v) p = p
always (Err e) p = tt
