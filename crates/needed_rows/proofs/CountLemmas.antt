-- How many places pass, and how many elements of an input came later than one.
use Rattle.std.proofs.Common.{◌≡◌, ℕ, ℤ, zero, suc, ◌+◌, ◌-◌, ◌<◌, ◌≤◌, ◌==◌, Bool, true, false, cond, ◌&&◌, ◌||◌, nat_le, nat_lt, Option, List, ◌∷◌, length, map, filter, get_or, refl, ap, ap₂, sym, ◌∙◌, arith, le-leb, ⊎_elim}
use Rattle.std.specs.List.{range_with_len}
use Rattle.std.proofs.lemmas.Bool.{cases_lt, lt-leb}
use Rattle.std.proofs.lemmas.Bool.Decides.{nat_tests}
use Rattle.values.specs.Window.{Element, counts, is_later, same_in}
use Rattle.values.proofs.Windows.{tally}
use Rattle.op_queue.specs.Tables.{IsRising, element_at}
use Rattle.needed_rows.specs.Keys.{are_alike}
use Rattle.needed_rows.specs.Marks.{count_places, has_arrived}

pub count-split : (p : ℕ → Bool) (s m k : ℕ) → count_places p s (m + k) ≡ count_places p s m + count_places p (s + m) k
count-split p s zero k =
    let a : 0 + k ≡ k = omega arith in
    let b : s + 0 ≡ s = omega arith in
    let c : 0 + count_places p (s + 0) k ≡ count_places p (s + 0) k = omega arith in
    ap (count_places p s) a ∙ ap (λ n. count_places p n k) (sym b) ∙ sym c
count-split p s (suc m) k =
    let b : s + 1 + m ≡ s + suc m = omega arith in
    let e : suc m + k ≡ suc (m + k) = omega arith in
    ap (count_places p s) e ∙ step (p s) (count-split p (s + 1) m k ∙ ap (λ n. count_places p (s + 1) m + count_places p n k) b)
  where
    step : (b : Bool) → count_places p (s + 1) (m + k) ≡ count_places p (s + 1) m + count_places p (s + suc m) k
        → cond b (suc (count_places p (s + 1) (m + k))) (count_places p (s + 1) (m + k)) ≡ cond b (suc (count_places p (s + 1) m)) (count_places p (s + 1) m) + count_places p (s + suc m) k
    step true i = omega (arith, i)
    step false i = i

pub count-same : (p q : ℕ → Bool) (s m : ℕ) → ((j : ℕ) → s ≤ j → j < s + m → p j ≡ q j) → count_places p s m ≡ count_places q s m
count-same p q s zero h = refl
count-same p q s (suc m) h =
    let i : count_places p (s + 1) m ≡ count_places q (s + 1) m = count-same p q (s + 1) m (λ j l u. h j (omega (arith, l)) (omega (arith, u))) in
    ap₂ (λ (b : Bool) (n : ℕ). cond b (suc n) n) (h s (omega arith) (omega arith)) i

pub count-none : (p : ℕ → Bool) (s m : ℕ) → ((j : ℕ) → s ≤ j → j < s + m → p j ≡ false) → count_places p s m ≡ 0
count-none p s zero h = refl
count-none p s (suc m) h =
    let i : count_places p (s + 1) m ≡ 0 = count-none p (s + 1) m (λ j l u. h j (omega (arith, l)) (omega (arith, u))) in
    ap (λ b. cond b (suc (count_places p (s + 1) m)) (count_places p (s + 1) m)) (h s (omega arith) (omega arith)) ∙ i

-- those of an input, by places
tally-places : (q p : Element → Bool) (f : ℕ → Element) (s m : ℕ) → tally q (filter p (map f (range_with_len s m))) ≡ count_places (λ j. p (f j) && q (f j)) s m
tally-places q p f s zero = refl
tally-places q p f s (suc m) = here (p (f s)) (q (f s)) refl (tally-places q p f (s + 1) m)
  where
    here : (b c : Bool) → q (f s) ≡ c → tally q (filter p (map f (range_with_len (s + 1) m))) ≡ count_places (λ j. p (f j) && q (f j)) (s + 1) m
        → tally q (cond b (f s ∷ filter p (map f (range_with_len (s + 1) m))) (filter p (map f (range_with_len (s + 1) m))))
        ≡ cond (b && q (f s)) (suc (count_places (λ j. p (f j) && q (f j)) (s + 1) m)) (count_places (λ j. p (f j) && q (f j)) (s + 1) m)
    here true true e i =
        ap (λ d. cond d (suc (tally q (filter p (map f (range_with_len (s + 1) m))))) (tally q (filter p (map f (range_with_len (s + 1) m))))) e
        ∙ ap suc i
        ∙ sym (ap (λ d. cond d (suc (count_places (λ j. p (f j) && q (f j)) (s + 1) m)) (count_places (λ j. p (f j) && q (f j)) (s + 1) m)) e)
    here true false e i =
        ap (λ d. cond d (suc (tally q (filter p (map f (range_with_len (s + 1) m))))) (tally q (filter p (map f (range_with_len (s + 1) m))))) e
        ∙ i
        ∙ sym (ap (λ d. cond d (suc (count_places (λ j. p (f j) && q (f j)) (s + 1) m)) (count_places (λ j. p (f j) && q (f j)) (s + 1) m)) e)
    here false c e i = i

-- LATER, of elements in order
not_later_than : (a b m n : ℕ) → b ≤ a → (a ≡ b → n ≤ m) → (nat_lt a b || (a == b && nat_lt m n)) ≡ false
not_later_than a b m n h k = grind (arith, nat_tests)

later_than : (a b m n : ℕ) → a ≤ b → (a ≡ b → m < n) → (nat_lt a b || (a == b && nat_lt m n)) ≡ true
later_than a b m n h k = grind (arith, nat_tests)

pub and_false : (a b : Bool) → b ≡ false → (a && b) ≡ false
and_false true b h = h
and_false false b h = refl

module _ (instants numbers : List ℕ) (columns : List (List (Option ℤ))) (place first next : ℕ) (chosen : List ℕ) (end : ℕ)
    (rising : IsRising instants 0 (length instants))
    (apart : (i j : ℕ) → i < j → j < length instants → get_or instants i 0 ≡ get_or instants j 0 → get_or numbers i 0 < get_or numbers j 0)
    (within : end ≤ length instants)
    (below : (i : ℕ) → i < end → get_or instants i 0 < next)
    (above : (i : ℕ) → end ≤ i → i < length instants → next ≤ get_or instants i 0) where
  abbrev E : ℕ → Element
  E i = element_at instants numbers columns i

  abbrev inp : Element → Bool
  inp e = nat_le place e.arrival && nat_le first e.instant

  is_later_up : (i j : ℕ) → i < j → j < length instants → is_later (E i) (E j) ≡ true
  is_later_up i j l u = later_than (get_or instants i 0) (get_or instants j 0) (get_or numbers i 0) (get_or numbers j 0) (rising i j (omega arith) (omega arith) u) (apart i j l u)

  not_later_down : (i j : ℕ) → j ≤ i → i < length instants → is_later (E i) (E j) ≡ false
  not_later_down i j l u = not_later_than (get_or instants i 0) (get_or instants j 0) (get_or numbers i 0) (get_or numbers j 0) (rising j i (omega arith) l u)
      (λ e. ⊎_elim
      (λ (lt : j < i). let k = apart j i lt u (sym e) in omega arith)
      (λ (ge : i ≤ j). let k : i ≡ j = omega arith in let m : get_or numbers i 0 ≡ get_or numbers j 0 = ap (λ x. get_or numbers x 0) k in omega arith)
      (cases_lt j i))

  module _ (i : ℕ) (here : i < length instants) (old : get_or instants i 0 < next) (in_first : first ≤ get_or instants i 0) where
    abbrev Q : ℕ → Bool
    Q j = inp (E j) && counts chosen (next - 1) (E i) (E j)

    inside : i < end
    inside = ⊎_elim (λ (lt : i < end). lt) (λ (ge : end ≤ i). absurd (let k = above i ge here in omega arith)) (cases_lt i end)

    counts_before : (j : ℕ) → 0 ≤ j → j < 0 + (i + 1) → Q j ≡ false
    counts_before j l u = and_false (inp (E j)) (counts chosen (next - 1) (E i) (E j))
        (and_false (nat_le (E j).instant (next - 1)) (is_later (E i) (E j) && same_in chosen (E i).row (E j).row)
        (ap (λ b. b && same_in chosen (E i).row (E j).row) (not_later_down i j (omega (arith, u)) here)))

    counts_behind : (j : ℕ) → end ≤ j → j < end + (length instants - end) → Q j ≡ false
    counts_behind j l u =
        let k : next ≤ get_or instants j 0 = above j l (omega (arith, u, within)) in
        let m : nat_le (get_or instants j 0) (next - 1) ≡ false = lt-leb (get_or instants j 0) (next - 1) (omega arith) in
        and_false (inp (E j)) (counts chosen (next - 1) (E i) (E j)) (ap (λ b. b && (is_later (E i) (E j) && same_in chosen (E i).row (E j).row)) m)

    counts_between : (j : ℕ) → i + 1 ≤ j → j < i + 1 + (end - (i + 1)) → Q j ≡ (has_arrived numbers place j && are_alike chosen columns i j)
    counts_between j l u =
        let u1 : j < end = omega (arith, u, inside) in
        let k : get_or instants j 0 < next = below j u1 in
        let r : get_or instants i 0 ≤ get_or instants j 0 = rising i j (omega arith) (omega arith) (omega (arith, within)) in
        let f : nat_le first (get_or instants j 0) ≡ true = le-leb first (get_or instants j 0) (omega arith) in
        let t : nat_le (get_or instants j 0) (next - 1) ≡ true = le-leb (get_or instants j 0) (next - 1) (omega arith) in
        three (nat_le place (get_or numbers j 0)) (nat_le first (get_or instants j 0)) (nat_le (get_or instants j 0) (next - 1)) (is_later (E i) (E j)) (same_in chosen (E i).row (E j).row) f t (is_later_up i j (omega arith) (omega (arith, within)))
      where
        three : (p f t l s : Bool) → f ≡ true → t ≡ true → l ≡ true → ((p && f) && (t && (l && s))) ≡ (p && s)
        three p f t l s a b c = ap (λ x. (p && x) && (t && (l && s))) a ∙ ap (λ x. (p && true) && (x && (l && s))) b ∙ ap (λ x. (p && true) && (true && (x && s))) c ∙ last p s
          where
            last : (p s : Bool) → ((p && true) && s) ≡ (p && s)
            last true s = refl
            last false s = refl

    -- of the input those count that stand between
    pub count_behind : tally (counts chosen (next - 1) (E i)) (filter inp (map E (range_with_len 0 (length instants)))) ≡ count_places (λ j. has_arrived numbers place j && are_alike chosen columns i j) (i + 1) (end - (i + 1))
    count_behind =
        let n : ℕ = length instants in
        let a = tally-places (counts chosen (next - 1) (E i)) inp E 0 n in
        let l1 : n ≡ (i + 1) + (n - (i + 1)) = omega arith in
        let l2 : n - (i + 1) ≡ (end - (i + 1)) + (n - end) = omega (arith, inside, within) in
        let l3 : i + 1 + (end - (i + 1)) ≡ end = omega (arith, inside) in
        let s1 : count_places Q 0 n ≡ count_places Q 0 (i + 1) + count_places Q (0 + (i + 1)) (n - (i + 1)) = ap (count_places Q 0) l1 ∙ count-split Q 0 (i + 1) (n - (i + 1)) in
        let z : 0 + (i + 1) ≡ i + 1 = omega arith in
        let s2 : count_places Q (0 + (i + 1)) (n - (i + 1)) ≡ count_places Q (i + 1) (end - (i + 1)) + count_places Q end (n - end) =
        ap (λ x. count_places Q x (n - (i + 1))) z ∙ ap (count_places Q (i + 1)) l2 ∙ count-split Q (i + 1) (end - (i + 1)) (n - end) ∙ ap (λ x. count_places Q (i + 1) (end - (i + 1)) + count_places Q x (n - end)) l3 in
        let n1 : count_places Q 0 (i + 1) ≡ 0 = count-none Q 0 (i + 1) counts_before in
        let n2 : count_places Q end (n - end) ≡ 0 = count-none Q end (n - end) counts_behind in
        let m : count_places Q (i + 1) (end - (i + 1)) ≡ count_places (λ j. has_arrived numbers place j && are_alike chosen columns i j) (i + 1) (end - (i + 1)) = count-same Q (λ j. has_arrived numbers place j && are_alike chosen columns i j) (i + 1) (end - (i + 1)) counts_between in
        a ∙ (let w : count_places Q 0 n ≡ count_places Q (i + 1) (end - (i + 1)) = omega arith in w) ∙ m

-- ONE MORE PLACE at the end
module _ (p : ℕ → Bool) (s other n : ℕ) (le : s ≤ other) (so_far : n ≡ count_places p s (other - s)) where
  abbrev one : Bool → ℕ
  one b = cond b (suc (count_places p (other + 1) 0)) (count_places p (other + 1) 0)

  last_one : count_places p s (other + 1 - s) ≡ count_places p s (other - s) + one (p other)
  last_one =
      let a : other + 1 - s ≡ (other - s) + 1 = omega arith in
      let b : s + (other - s) ≡ other = omega arith in
      ap (count_places p s) a ∙ count-split p s (other - s) 1 ∙ ap (λ x. count_places p s (other - s) + count_places p x 1) b

  pub count_yes : p other ≡ true → n + 1 ≡ count_places p s (other + 1 - s)
  count_yes t = let a : one (p other) ≡ 1 = ap one t in omega (arith, last_one, so_far, a)

  pub count_no : p other ≡ false → n ≡ count_places p s (other + 1 - s)
  count_no f = let a : one (p other) ≡ 0 = ap one f in omega (arith, last_one, so_far, a)
