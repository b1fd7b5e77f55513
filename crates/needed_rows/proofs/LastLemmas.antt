-- Steps back through the rows of a part, of which the last are marked.
use Rattle.std.proofs.Common.{◌≡◌, ◌≢◌, ℕ, ℤ, suc, ◌+◌, ◌-◌, ◌<◌, ◌≤◌, Bool, true, false, cond, min, ◌&&◌, nat_lt, Option, List, [], ◌∷◌, length, get_or, set, refl, ap, sym, ◌∙◌, arith, lt-ltb, le-ltb, le-leb}
use Rattle.std.specs.Ordering.{is_eq}
use Rattle.std.proofs.lemmas.Bool.{lt-leb}
use Rattle.column.specs.Rows.{row_at}
use Rattle.needed_rows.specs.Keys.{Key, are_alike, count_of, is_of_key, key_cmp, key_in}
use Rattle.needed_rows.specs.Marks.{Sets, count_places, has_arrived, is_among_last}
use Rattle.needed_rows.proofs.CountLemmas.{count-same, count-split}
use Rattle.needed_rows.proofs.KeyLemmas.{counted_few, counted_no, counted_yes}
use Rattle.needed_rows.proofs.MarkLemmas.{D, back_last, back_no, back_yes, last_here, last_many, last_none}

all_pass : (p : ℕ → Bool) (s m : ℕ) → count_places (λ j. p j && true) s m ≡ count_places p s m
all_pass p s m = count-same (λ j. p j && true) p s m (λ j l u. here (p j))
  where
    here : (b : Bool) → (b && true) ≡ b
    here true = refl
    here false = refl

-- WITH NO COLUMN
module _ (numbers : List ℕ) (place count start end : ℕ) where
  abbrev A : ℕ → Bool
  A = has_arrived numbers place

  abbrev P : ℕ → Bool
  P = is_among_last A (λ i j. true) count start end

  one_more : (row passed : ℕ) → count_places A row (passed + 1) ≡ cond (A row) (suc (count_places A (row + 1) passed)) (count_places A (row + 1) passed)
  one_more row passed = let e : passed + 1 ≡ suc passed = omega arith in ap (count_places A row) e

  -- all are found: none before is one of the last
  pub all_found : (old new : List Bool) (passed left : ℕ) → passed ≤ end → left ≡ count - count_places A (end - passed) passed → left ≡ 0 → Sets (D P (end - passed)) old new → Sets P old new
  all_found old new passed left h l z s = back_last P old new (end - passed) none s
    where
      none : (i : ℕ) → i < end - passed → P i ≡ false
      none i u =
          let m : ℕ = end - passed - (i + 1) in
          let a : end - (i + 1) ≡ end - passed - (i + 1) + passed = omega arith in
          let b : i + 1 + (end - passed - (i + 1)) ≡ end - passed = omega arith in
          let c : count_places A (i + 1) (end - (i + 1)) ≡ count_places A (i + 1) (end - passed - (i + 1)) + count_places A (end - passed) passed
          = ap (count_places A (i + 1)) a ∙ count-split A (i + 1) (end - passed - (i + 1)) passed ∙ ap (λ x. count_places A (i + 1) (end - passed - (i + 1)) + count_places A x passed) b in
          last_many A (λ i j. true) count start end i (le-ltb (count_places (λ j. A j && true) (i + 1) (end - (i + 1))) count (omega (arith, all_pass A (i + 1) (end - (i + 1)), c, l, z)))

  module _ (old now : List Bool) (passed left row : ℕ) (is : row + 1 ≡ end - passed) (inside : start ≤ row) (within : row < length old)
      (set_so_far : Sets (D P (end - passed)) old now) (so_far : left ≡ count - count_places A (end - passed) passed) where
    next_is : end - (passed + 1) ≡ row
    next_is = omega (arith, is)

    behind : count_places A (row + 1) passed ≡ count_places A (end - passed) passed
    behind = ap (λ x. count_places A x passed) is

    pub all_yes : left ≢ 0 → place ≤ get_or numbers row 0 → Sets (D P (end - (passed + 1))) old (set now row true)
    all_yes some p =
        let a : A row ≡ true = le-leb place (get_or numbers row 0) p in
        let e : end - (row + 1) ≡ passed = omega (arith, is) in
        let c : count_places (λ j. A j && true) (row + 1) (end - (row + 1)) ≡ count_places A (end - passed) passed = all_pass A (row + 1) (end - (row + 1)) ∙ ap (count_places A (row + 1)) e ∙ behind in
        let f : nat_lt (count_places (λ j. A j && true) (row + 1) (end - (row + 1))) count ≡ true = lt-ltb _ count (omega (arith, c, so_far, some)) in
        let s = back_yes P old now (end - passed) row (sym is) set_so_far within (last_here A (λ i j. true) count start end row inside (omega (arith, is)) a ∙ f) in
        rw next_is s

    pub all_yes_left : left ≢ 0 → place ≤ get_or numbers row 0 → left - 1 ≡ count - count_places A (end - (passed + 1)) (passed + 1)
    all_yes_left some p =
        let a : A row ≡ true = le-leb place (get_or numbers row 0) p in
        let c : count_places A row (passed + 1) ≡ suc (count_places A (row + 1) passed) = one_more row passed ∙ ap (λ b. cond b (suc (count_places A (row + 1) passed)) (count_places A (row + 1) passed)) a in
        rw next_is (omega (arith, c, behind, so_far, some))

    pub all_no : get_or numbers row 0 < place → Sets (D P (end - (passed + 1))) old now
    all_no p =
        let a : A row ≡ false = lt-leb place (get_or numbers row 0) p in
        let s = back_no P old now (end - passed) row (sym is) set_so_far (last_none A (λ i j. true) count start end row a) in
        rw next_is s

    pub all_no_left : get_or numbers row 0 < place → left ≡ count - count_places A (end - (passed + 1)) (passed + 1)
    all_no_left p =
        let a : A row ≡ false = lt-leb place (get_or numbers row 0) p in
        let c : count_places A row (passed + 1) ≡ count_places A (row + 1) passed = one_more row passed ∙ ap (λ b. cond b (suc (count_places A (row + 1) passed)) (count_places A (row + 1) passed)) a in
        rw next_is (so_far ∙ ap (λ x. count - x) (sym behind ∙ sym c))

-- no column tells two rows apart
pub none_apart : (passes : ℕ → Bool) (chosen : List ℕ) (columns : List (List (Option ℤ))) (count start end : ℕ) (old new : List Bool) → length chosen ≡ 0
    → Sets (is_among_last passes (λ i j. true) count start end) old new → Sets (is_among_last passes (are_alike chosen columns) count start end) old new
none_apart passes [] columns count start end old new e s = s
none_apart passes (c ∷ cs) columns count start end old new e s = absurd (omega arith)

-- BY KEYS
module _ (numbers : List ℕ) (place : ℕ) (chosen : List ℕ) (columns : List (List (Option ℤ))) (most start end : ℕ) where
  abbrev B : ℕ → Bool
  B = has_arrived numbers place

  abbrev Q : ℕ → Bool
  Q = is_among_last B (are_alike chosen columns) most start end

  abbrev counted : List (Key × ℕ) → ℕ → Type 0
  counted es passed = (k : Key) → count_of es k ≡ min most (count_places (is_of_key B chosen columns k.items) (end - passed) passed)

  module _ (old now : List Bool) (es : List (Key × ℕ)) (passed row : ℕ) (is : row + 1 ≡ end - passed) (inside : start ≤ row) (within : row < length old)
      (set_so_far : Sets (D Q (end - passed)) old now) (so_far : (k : Key) → count_of es k ≡ min most (count_places (is_of_key B chosen columns k.items) (end - passed) passed)) where
    next_row : end - (passed + 1) ≡ row
    next_row = omega (arith, is)

    pub each_none : get_or numbers row 0 < place → Sets (D Q (end - (passed + 1))) old now
    each_none p = rw next_row (back_no Q old now (end - passed) row (sym is) set_so_far (last_none B (are_alike chosen columns) most start end row (lt-leb place (get_or numbers row 0) p)))

    pub each_none_counted : get_or numbers row 0 < place → (k : Key) → count_of es k ≡ min most (count_places (is_of_key B chosen columns k.items) (end - (passed + 1)) (passed + 1))
    each_none_counted p k =
        let c = counted_no B chosen columns most k (end - passed) row passed (sym is) (lt-leb place (get_or numbers row 0) p) in
        rw next_row (so_far k ∙ ap (min most) (sym c))

    module _ (p : place ≤ get_or numbers row 0) (key : Key) (key_is : key.items ≡ key_in chosen (row_at columns row)) where
      few : Q row ≡ nat_lt (count_of es key) most
      few =
          let e : end - (row + 1) ≡ passed = omega (arith, is) in
          last_here B (are_alike chosen columns) most start end row inside (omega (arith, is)) (le-leb place (get_or numbers row 0) p)
          ∙ ap (λ x. nat_lt (count_places (λ j. B j && are_alike chosen columns row j) (row + 1) x) most) e
          ∙ ap (λ x. nat_lt (count_places (λ j. B j && are_alike chosen columns row j) x passed) most) is
          ∙ sym (counted_few B chosen columns most key row (end - passed) passed (count_of es key) key_is (so_far key))

      pub each_yes : nat_lt (count_of es key) most ≡ true → Sets (D Q (end - (passed + 1))) old (set now row true)
      each_yes t = rw next_row (back_yes Q old now (end - passed) row (sym is) set_so_far within (few ∙ t))

      pub each_no : nat_lt (count_of es key) most ≡ false → Sets (D Q (end - (passed + 1))) old now
      each_no f = rw next_row (back_no Q old now (end - passed) row (sym is) set_so_far (few ∙ f))

      pub each_counted : (new : List (Key × ℕ)) → ((k : Key) → count_of new k ≡ cond (is_eq (key_cmp key k) && nat_lt (count_of es key) most) (count_of es key + 1) (count_of es k))
          → (k : Key) → count_of new k ≡ min most (count_places (is_of_key B chosen columns k.items) (end - (passed + 1)) (passed + 1))
      each_counted new h k =
          let c = counted_yes B chosen columns most (end - passed) row passed (sym is) (le-leb place (get_or numbers row 0) p) (count_of es) (count_of new) key key_is so_far h k in
          rw next_row c
