-- What a join puts out: how wide the pairs are, and how many.
use Rattle.std.proofs.Common.{◌≡◌, ℕ, suc, ◌+◌, ◌-◌, ◌*◌, ◌≤◌, Bool, true, false, cond, List, [], ◌∷◌, ◌++◌, map, filter, length, refl, sym, ap, subst, ◌∙◌, arith}
use Rattle.std.specs.List.{All, flat_map}
use Rattle.std.proofs.lemmas.List.{length-append}
use Rattle.std.proofs.lemmas.List.Elements.{All-nil, All-cons, All-head, All-tail, All-append, All-filter}
use Rattle.std.proofs.Math.Nat.{mul-le-mul_right, suc-mul}
use Rattle.values.specs.Row.{Row, row_cmp}
use Rattle.values.specs.Ranges.{IsAnswerValue}
use Rattle.values.proofs.Order.{row_order}
use Rattle.column.specs.declared.batch.Side.{Side}
use Rattle.column.specs.declared.batch.Side.TheVariants.{Left, Right}
use Rattle.op_queue.specs.Entries.{Entry}
use Rattle.op_queue.specs.Signed.{weigh, Adds, Legal}
use Rattle.op_queue.proofs.SignedLemmas.{Legal-front, Legal-rest}
use Rattle.row_bags.proofs.OrderLemmas.{length-in_order}
use Rattle.group.proofs.BagLemmas.{after_row}
use Rattle.group.proofs.FigureLemmas.{numbers_le}
use Rattle.join.specs.Pairs.{fits, pair, joined}
use Rattle.join.specs.Layouts.{other, order, chosen, agrees}
use Rattle.join.specs.Turns.{met, beside, pairs_of, pairs, kept_of}
use Rattle.join.specs.States.{SideState}
use Rattle.join.specs.Laws.{StandsFor}
use Rattle.join.proofs.LawLemmas.{weigh-met, joined_by_right}
use Rattle.join.proofs.MatchLemmas.{fits_on, fits-right}
use Rattle.join.proofs.SignedLemmas.{weigh-flat_map, weigh-same, weigh-filter}
use Rattle.laws_dataflow.specs.Nets.{batch}
use Rattle.laws_queries.specs.Counts.{StaysWithin, count}
use Rattle.laws_queries.specs.Widths.{AreRows, IsRow}
use Rattle.laws_queries.proofs.CountLemmas.{stays_now, count_entered, count_left}
use Rattle.laws_queries.proofs.WideLemmas.{AreSigned, all_same}

-- THE ROWS THAT A ROW MEETS are rows of the other side
pub met_all : (P : Row → Type 0) (side : Side) (ks : List (ℕ × ℕ)) (held : SideState) (b : List Row) (x : Row) → StandsFor side ks held b → All P b
    → All P (met side ks held x)
met_all P side ks held b x h a =
    let p : Row → Bool = λ r. fits_on side ks r x in
    all_same P (filter p b) (met side ks held x) (record { weighs = λ w. weigh-filter p w b ∙ sym (weigh-met side ks held b x w h) }) (All-filter p P b a)

fit_most : (t : Bool) → cond t 1 0 ≤ 1
fit_most true = omega arith
fit_most false = omega arith

pub met_few : (side : Side) (ks : List (ℕ × ℕ)) (held : SideState) (b : List Row) (x : Row) → StandsFor side ks held b → count (met side ks held x) ≤ count b
met_few side ks held b x h =
    omega (arith, weigh-met side ks held b x (λ r. 1) h, numbers_le (λ r. cond (fits_on side ks r x) 1 0) (λ r. fit_most (fits_on side ks r x)) b)

-- HOW MANY PAIRS there are
one_pair : (b : Bool) (x : Row) → count (cond b (x ∷ []) []) ≡ cond b 1 0
unfolding weigh
one_pair true x = refl
one_pair false x = refl

pub left_pairs_are : (ks : List (ℕ × ℕ)) (held : SideState) (l r : List Row) → StandsFor Right ks held r
    → weigh (λ x. count (met Right ks held x)) l ≡ count (joined ks l r)
left_pairs_are ks held l r h =
    weigh-same (λ x. count (met Right ks held x)) (λ x. count (flat_map (pair ks x) r)) (λ x.
    weigh-met Right ks held r x (λ m. 1) h
    ∙ weigh-same (λ m. cond (fits_on Right ks m x) 1 0) (λ m. count (pair ks x m))
    (λ m. ap {B = ℕ} (λ b. cond b 1 0) (fits-right ks x m) ∙ sym (one_pair (fits ks x m) (x ++ m))) r
    ∙ sym (weigh-flat_map (λ m. 1) (pair ks x) r)) l
    ∙ sym (weigh-flat_map (λ m. 1) (λ x. flat_map (pair ks x) r) l)

pub right_pairs_are : (ks : List (ℕ × ℕ)) (held : SideState) (l r : List Row) → StandsFor Left ks held l
    → weigh (λ x. count (met Left ks held x)) r ≡ count (joined ks l r)
right_pairs_are ks held l r h =
    weigh-same (λ x. count (met Left ks held x)) (λ x. count (flat_map (λ m. pair ks m x) l)) (λ x.
    weigh-met Left ks held l x (λ m. 1) h
    ∙ weigh-same (λ m. cond (fits_on Left ks m x) 1 0) (λ m. count (pair ks m x)) (λ m. sym (one_pair (fits ks m x) (m ++ x))) l
    ∙ sym (weigh-flat_map (λ m. 1) (λ m. pair ks m x) l)) r
    ∙ sym (weigh-flat_map (λ m. 1) (λ x. flat_map (λ m. pair ks m x) l) r)
    ∙ sym ((joined_by_right ks l r).weighs (λ m. 1))

pub weigh_times : (w : Row → ℕ) (c : ℕ) → ((x : Row) → w x ≤ c) → (xs : List Row) → weigh w xs ≤ count xs * c
unfolding weigh
weigh_times w c h [] = omega arith
weigh_times w c h (x ∷ xs) =
    let n : ℕ = count xs in
    let more : 1 + n ≡ suc n = omega arith in
    let e : (1 + n) * c ≡ n * c + c = ap (λ (k : ℕ). k * c) more ∙ suc-mul n c in
    omega (arith, e, h x, weigh_times w c h xs)

pub few_pairs : (w : Row → ℕ) (c n most : ℕ) → ((x : Row) → w x ≤ c) → c ≤ most → (xs : List Row) → count xs ≤ n → weigh w xs ≤ n * most
few_pairs w c n most h l xs k = omega (arith, weigh_times w most (λ x. omega (arith, h x, l)) xs, mul-le-mul_right most k)

-- AS THEY GO OUT, row by row
enter_one : (most t n : ℕ) (side : Side) (x : Row) (rows : List Row) (ys : List (Bool × Row)) → n + count rows ≤ most
    → StaysWithin most (n + count rows) (batch t ys) → StaysWithin most n (batch t (pairs_of side (true, x) rows ++ ys))
unfolding weigh
enter_one most t n side x [] ys l h = let e : n + 0 ≡ n = omega arith in subst (λ m. StaysWithin most m (batch t ys)) e h
enter_one most t n side x (r ∷ rows) ys l h =
    let e : n + (1 + count rows) ≡ n + 1 + count rows = omega arith in
    (omega (arith, l), enter_one most t (n + 1) side x rows ys (omega (arith, l)) (subst (λ m. StaysWithin most m (batch t ys)) e h))

leave_one : (most t n : ℕ) (side : Side) (x : Row) (rows : List Row) (ys : List (Bool × Row)) → n ≤ most → StaysWithin most (n - count rows) (batch t ys)
    → StaysWithin most n (batch t (pairs_of side (false, x) rows ++ ys))
unfolding weigh
leave_one most t n side x [] ys l h = let e : n - 0 ≡ n = omega arith in subst (λ m. StaysWithin most m (batch t ys)) e h
leave_one most t n side x (r ∷ rows) ys l h =
    let e : n - (1 + count rows) ≡ n - 1 - count rows = omega arith in
    (l, leave_one most t (n - 1) side x rows ys (omega (arith, l)) (subst (λ m. StaysWithin most m (batch t ys)) e h))

met_entered : (w : Row → ℕ) {b z : List Row} (r : Row) → Adds b ((true, r) ∷ []) z → weigh w b + w r ≡ weigh w z
unfolding weigh
met_entered w r a = omega (arith, a.weighs w)

met_left : (w : Row → ℕ) {b z : List Row} (r : Row) → Adds b ((false, r) ∷ []) z → weigh w b - w r ≡ weigh w z
unfolding weigh
met_left w r a = omega (arith, a.weighs w)

-- the pairs of the rows of a side, of which there are never more than `below`
pub pairs_stay : (side : Side) (h : Row → List Row) (below most t : ℕ) → ((l : List Row) → count l ≤ below → weigh (λ x. count (h x)) l ≤ most)
    → (b : List (Bool × Row)) (q : List (Entry Row)) (l : List Row) → Legal l b → StaysWithin below (count l) (batch t b ++ q)
    → StaysWithin most (weigh (λ x. count (h x)) l) (batch t (pairs side b (map (λ x. h x.1) b)))
pairs_stay side h below most t bound [] q l legal k = bound l (stays_now q k)
pairs_stay side h below most t bound ((true, r) ∷ b) q l legal k =
    let e : (z : List Row) × Adds l ((true, r) ∷ []) z = after_row l (true, r) (Legal-front ((true, r) ∷ []) b legal) in
    let more : StaysWithin below (count e.0) (batch t b ++ q) = subst (λ n. StaysWithin below n (batch t b ++ q)) (count_entered r e.1) k.1 in
    let then : weigh (λ x. count (h x)) l + count (h r) ≡ weigh (λ x. count (h x)) e.0 = met_entered (λ x. count (h x)) r e.1 in
    enter_one most t (weigh (λ x. count (h x)) l) side r (h r) (pairs side b (map (λ x. h x.1) b))
    (omega (arith, then, bound e.0 (stays_now (batch t b ++ q) more)))
    (subst (λ n. StaysWithin most n (batch t (pairs side b (map (λ x. h x.1) b)))) (sym then) (pairs_stay side h below most t bound b q e.0 (Legal-rest e.1 legal) more))
pairs_stay side h below most t bound ((false, r) ∷ b) q l legal k =
    let e : (z : List Row) × Adds l ((false, r) ∷ []) z = after_row l (false, r) (Legal-front ((false, r) ∷ []) b legal) in
    let more : StaysWithin below (count e.0) (batch t b ++ q) = subst (λ n. StaysWithin below n (batch t b ++ q)) (count_left r e.1) k.1 in
    let then : weigh (λ x. count (h x)) l - count (h r) ≡ weigh (λ x. count (h x)) e.0 = met_left (λ x. count (h x)) r e.1 in
    leave_one most t (weigh (λ x. count (h x)) l) side r (h r) (pairs side b (map (λ x. h x.1) b)) (bound l k.0)
    (subst (λ n. StaysWithin most n (batch t (pairs side b (map (λ x. h x.1) b)))) (sym then) (pairs_stay side h below most t bound b q e.0 (Legal-rest e.1 legal) more))

-- HOW WIDE a pair is
pub beside_wide : (l r out : ℕ) (x y : Row) → out ≡ l + r → IsRow l x → IsRow r y → IsRow out (x ++ y)
beside_wide l r out x y e h k = record { wide = length-append x y ∙ omega (arith, e, h.wide, k.wide); values = All-append IsAnswerValue x y h.values k.values }

of_one_wide : (side : Side) (m out : ℕ) (x : Bool × Row) → ((y : Row) → IsRow m y → IsRow out (beside side x.1 y)) → (rows : List Row) → AreRows m rows
    → AreSigned out (pairs_of side x rows)
of_one_wide side m out x h [] a = All-nil (λ (s : Bool × Row). IsRow out s.1)
of_one_wide side m out x h (r ∷ rows) a =
    All-cons (λ (s : Bool × Row). IsRow out s.1) (x.0, beside side x.1 r) (pairs_of side x rows) (h r (All-head (IsRow m) r rows a))
    (of_one_wide side m out x h rows (All-tail (IsRow m) r rows a))

pub pairs_wide : (side : Side) (h : Row → List Row) (w m out : ℕ) → ((x y : Row) → IsRow w x → IsRow m y → IsRow out (beside side x y))
    → ((x : Row) → AreRows m (h x)) → (b : List (Bool × Row)) → AreSigned w b → AreSigned out (pairs side b (map (λ x. h x.1) b))
pairs_wide side h w m out each wide [] a = All-nil (λ (s : Bool × Row). IsRow out s.1)
pairs_wide side h w m out each wide (x ∷ b) a =
    All-append (λ (s : Bool × Row). IsRow out s.1) (pairs_of side x (h x.1)) (pairs side b (map (λ x. h x.1) b))
    (of_one_wide side m out x (λ y. each x.1 y (All-head (λ (s : Bool × Row). IsRow w s.1) x b a)) (h x.1) (wide x.1))
    (pairs_wide side h w m out each wide b (All-tail (λ (s : Bool × Row). IsRow w s.1) x b a))

-- WHAT A SIDE KEEPS is no more than it has taken
kept_few : (side : Side) (ks : List (ℕ × ℕ)) (columns : List ℕ) (b : List Row) → length (flat_map (kept_of columns side ks) b) ≤ count b
unfolding weigh
kept_few side ks columns [] = omega arith
kept_few side ks columns (r ∷ b) = here (agrees (other side) ks r) (chosen columns r) (kept_few side ks columns b)
  where
    here : (t : Bool) (x : Row) → length (flat_map (kept_of columns side ks) b) ≤ count b
        → length (cond t (x ∷ []) [] ++ flat_map (kept_of columns side ks) b) ≤ 1 + count b
    here true x h = omega (arith, h)
    here false x h = omega (arith, h)

pub side_few : (side : Side) (ks : List (ℕ × ℕ)) (held : SideState) (b : List Row) → StandsFor side ks held b → length held.rows ≤ count b
side_few side ks held b h =
    omega (arith, ap length h.rows, length-in_order row_cmp row_order (flat_map (kept_of (order side ks held.width) side ks) b), kept_few side ks (order side ks held.width) b)
