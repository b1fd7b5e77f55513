-- Marks that are set one by one.
use Rattle.std.proofs.Common.{◌≡◌, ◌≢◌, ℕ, ◌+◌, ◌-◌, ◌<◌, ◌≤◌, Bool, true, false, ◌&&◌, ◌||◌, nat_le, nat_lt, List, length, get_or, set, length-set, refl, ap, ap₂, sym, ◌∙◌, arith, true≢false, ltb-true, lt-ltb, leb-true, le-leb, ⊎_elim}
use Rattle.std.proofs.lemmas.Bool.{and_from, and_parts, cases_eq, cases_lt, lt-leb}
use Rattle.std.proofs.lemmas.Grind.{get_or-set_at}
use Rattle.std.proofs.lemmas.List.{get_or-set_other}
use Rattle.needed_rows.specs.Marks.{Sets, count_places, has_arrived, is_among_last, is_between, is_from, is_in_run}

or_true : (a : Bool) → (a || true) ≡ true
or_true true = refl
or_true false = refl

or_false : (a : Bool) → (a || false) ≡ a
or_false true = refl
or_false false = refl

or_or : (a b c : Bool) → ((a || b) || c) ≡ (a || (b || c))
or_or true b c = refl
or_or false b c = refl

-- none is set
pub sets_none : (p : ℕ → Bool) (old : List Bool) → ((i : ℕ) → i < length old → p i ≡ false) → Sets p old old
sets_none p old h = record { same = refl; marks = λ i lt. sym (ap (λ b. get_or old i false || b) (h i lt) ∙ or_false (get_or old i false)) }

-- another test that says the same
pub sets_same : (p q : ℕ → Bool) (old new : List Bool) → Sets p old new → ((i : ℕ) → i < length old → q i ≡ p i) → Sets q old new
sets_same p q old new s h = record { same = s.same; marks = λ i lt. s.marks i lt ∙ ap (λ b. get_or old i false || b) (sym (h i lt)) }

-- one more is set
pub sets_one : (p q : ℕ → Bool) (old new : List Bool) (k : ℕ) → Sets p old new → k < length old → q k ≡ true → ((i : ℕ) → i ≢ k → i < length old → q i ≡ p i) → Sets q old (set new k true)
sets_one p q old new k s lt yes' h = record {
  same = length-set new k true ∙ s.same;
  marks = λ i l.
      ⊎_elim
      (λ (is : i ≡ k). get_or-set_at new k i true false is (omega (arith, s.same, lt)) ∙ sym (ap (λ b. get_or old i false || b) (ap q is ∙ yes') ∙ or_true (get_or old i false)))
      (λ (no : i ≢ k). get_or-set_other new k i true false no ∙ s.marks i l ∙ ap (λ b. get_or old i false || b) (sym (h i no l)))
      (cases_eq i k);
}

-- one after the other
pub sets_both : (p q : ℕ → Bool) (old mid new : List Bool) → Sets p old mid → Sets q mid new → Sets (λ i. p i || q i) old new
sets_both p q old mid new s t = record {
  same = t.same ∙ s.same;
  marks = λ i lt. t.marks i (omega (arith, s.same, lt)) ∙ ap (λ b. b || q i) (s.marks i lt) ∙ or_or (get_or old i false) (p i) (q i);
}

-- TESTS
pub same_bool : (a b : Bool) → (a ≡ true → b ≡ true) → (b ≡ true → a ≡ true) → a ≡ b
same_bool true true f g = refl
same_bool true false f g = absurd (true≢false (sym (f refl)))
same_bool false true f g = absurd (true≢false (sym (g refl)))
same_bool false false f g = refl

and_false : (a b : Bool) → b ≡ false → (a && b) ≡ false
and_false true b h = h
and_false false b h = refl

not_true : (b : Bool) → (b ≡ true → ⊥) → b ≡ false
not_true true h = absurd (h refl)
not_true false h = refl

-- PLACE BY PLACE, forwards and backwards
module _ (P : ℕ → Bool) where
  abbrev pub F : ℕ → ℕ → Bool
  F k i = nat_lt i k && P i

  abbrev pub D : ℕ → ℕ → Bool
  D k i = nat_le k i && P i

  pub fore_first : (old : List Bool) (k : ℕ) → ((i : ℕ) → i < k → P i ≡ false) → Sets (F k) old old
  fore_first old k h = sets_none (F k) old (λ i l. not_true (F k i) (λ t.
      let a = and_parts (nat_lt i k) (P i) t in
      absurd (true≢false (sym a.1 ∙ h i (ltb-true i k a.0)))))

  fore_other : (row i : ℕ) → i ≢ row → F (row + 1) i ≡ F row i
  fore_other row i differs = ap (λ b. b && P i) (same_bool (nat_lt i (row + 1)) (nat_lt i row)
      (λ t. lt-ltb i row (let l = ltb-true i (row + 1) t in omega arith))
      (λ t. lt-ltb i (row + 1) (let l = ltb-true i row t in omega arith)))

  pub fore_yes : (old now : List Bool) (row : ℕ) → Sets (F row) old now → row < length old → P row ≡ true → Sets (F (row + 1)) old (set now row true)
  fore_yes old now row s l p = sets_one (F row) (F (row + 1)) old now row s l (ap (λ b. b && P row) (lt-ltb row (row + 1) (omega arith)) ∙ p) (λ i differs u. fore_other row i differs)

  pub fore_no : (old now : List Bool) (row : ℕ) → Sets (F row) old now → P row ≡ false → Sets (F (row + 1)) old now
  fore_no old now row s p = sets_same (F row) (F (row + 1)) old now s (λ i u. ⊎_elim
      (λ (is : i ≡ row). ap (F (row + 1)) is ∙ and_false (nat_lt row (row + 1)) (P row) p ∙ sym (ap (F row) is ∙ and_false (nat_lt row row) (P row) p))
      (λ (differs : i ≢ row). fore_other row i differs)
      (cases_eq i row))

  -- all others do not pass
  pub fore_last : (old new : List Bool) (k : ℕ) → ((i : ℕ) → k ≤ i → P i ≡ false) → Sets (F k) old new → Sets P old new
  fore_last old new k h s = sets_same (F k) P old new s (λ i u. ⊎_elim
      (λ (lt : i < k). sym (ap (λ b. b && P i) (lt-ltb i k lt)))
      (λ (ge : k ≤ i). h i ge ∙ sym (and_false (nat_lt i k) (P i) (h i ge)))
      (cases_lt i k))

  pub back_first : (old : List Bool) (k : ℕ) → ((i : ℕ) → k ≤ i → P i ≡ false) → Sets (D k) old old
  back_first old k h = sets_none (D k) old (λ i l. not_true (D k i) (λ t.
      let a = and_parts (nat_le k i) (P i) t in
      absurd (true≢false (sym a.1 ∙ h i (leb-true k i a.0)))))

  back_other : (before row i : ℕ) → before ≡ row + 1 → i ≢ row → D row i ≡ D before i
  back_other before row i e differs = ap (λ b. b && P i) (same_bool (nat_le row i) (nat_le before i)
      (λ t. le-leb before i (let a = leb-true row i t in omega arith))
      (λ t. le-leb row i (let a = leb-true before i t in omega arith)))

  pub back_yes : (old now : List Bool) (before row : ℕ) → before ≡ row + 1 → Sets (D before) old now → row < length old → P row ≡ true → Sets (D row) old (set now row true)
  back_yes old now before row e s l p = sets_one (D before) (D row) old now row s l (ap (λ b. b && P row) (le-leb row row (omega arith)) ∙ p) (λ i differs u. back_other before row i e differs)

  pub back_no : (old now : List Bool) (before row : ℕ) → before ≡ row + 1 → Sets (D before) old now → P row ≡ false → Sets (D row) old now
  back_no old now before row e s p = sets_same (D before) (D row) old now s (λ i u. ⊎_elim
      (λ (is : i ≡ row). ap (D row) is ∙ and_false (nat_le row row) (P row) p ∙ sym (ap (D before) is ∙ and_false (nat_le before row) (P row) p))
      (λ (differs : i ≢ row). back_other before row i e differs)
      (cases_eq i row))

  pub back_last : (old new : List Bool) (k : ℕ) → ((i : ℕ) → i < k → P i ≡ false) → Sets (D k) old new → Sets P old new
  back_last old new k h s = sets_same (D k) P old new s (λ i u. ⊎_elim
      (λ (lt : i < k). h i lt ∙ sym (and_false (nat_le k i) (P i) (h i lt)))
      (λ (ge : k ≤ i). sym (ap (λ b. b && P i) (le-leb k i ge)))
      (cases_lt i k))

-- RUNS
module _ (numbers : List ℕ) (place start end : ℕ) where
  abbrev R : ℕ → Bool
  R = is_in_run numbers place start end

  run_inside : (i : ℕ) → R i ≡ true → (start ≤ i) × (i < end)
  run_inside i t =
      let a = and_parts (has_arrived numbers place i) (nat_le start i && nat_lt i end) t in
      let b = and_parts (nat_le start i) (nat_lt i end) a.1 in
      (leb-true start i b.0, ltb-true i end b.1)

  pub run_before : (i : ℕ) → i < start → R i ≡ false
  run_before i l = not_true (R i) (λ t. let c = run_inside i t in omega (arith, c.0, l))

  pub run_behind : (k : ℕ) → (start ≤ end → end ≤ k) → (i : ℕ) → k ≤ i → R i ≡ false
  run_behind k h i l = not_true (R i) (λ t. let c = run_inside i t in omega (arith, c.0, c.1, l, h (omega (arith, c.0, c.1))))

  pub run_here : (i : ℕ) → start ≤ i → i < end → place ≤ get_or numbers i 0 → R i ≡ true
  run_here i s e p = and_from (has_arrived numbers place i) (nat_le start i && nat_lt i end) (le-leb place (get_or numbers i 0) p) (and_from (nat_le start i) (nat_lt i end) (le-leb start i s) (lt-ltb i end e))

  pub run_none : (i : ℕ) → get_or numbers i 0 < place → R i ≡ false
  run_none i p = ap (λ b. b && (nat_le start i && nat_lt i end)) (lt-leb place (get_or numbers i 0) p)

-- a run between two places of instants in order
pub run_from : (instants numbers : List ℕ) (place start least : ℕ) (old new : List Bool) → length old ≡ length instants
    → ((i : ℕ) → i < start → get_or instants i 0 < least) → ((i : ℕ) → start ≤ i → i < length instants → least ≤ get_or instants i 0)
    → Sets (is_in_run numbers place start (length instants)) old new → Sets (is_from instants numbers place least) old new
run_from instants numbers place start least old new len below above s =
    sets_same (is_in_run numbers place start (length instants)) (is_from instants numbers place least) old new s
    (λ i u. ap (λ b. has_arrived numbers place i && b) (same_bool (nat_le least (get_or instants i 0)) (nat_le start i && nat_lt i (length instants)) (there i u) (back i u)))
  where
    there : (i : ℕ) → i < length old → nat_le least (get_or instants i 0) ≡ true → (nat_le start i && nat_lt i (length instants)) ≡ true
    there i u t = let a = leb-true least (get_or instants i 0) t in
        and_from (nat_le start i) (nat_lt i (length instants))
        (le-leb start i (⊎_elim (λ (lt : i < start). absurd (let k = below i lt in omega arith)) (λ (ge : start ≤ i). ge) (cases_lt i start)))
        (lt-ltb i (length instants) (omega arith))

    back : (i : ℕ) → i < length old → (nat_le start i && nat_lt i (length instants)) ≡ true → nat_le least (get_or instants i 0) ≡ true
    back i u t = let p = and_parts (nat_le start i) (nat_lt i (length instants)) t in
        le-leb least (get_or instants i 0) (above i (leb-true start i p.0) (ltb-true i (length instants) p.1))

pub run_between : (instants numbers : List ℕ) (place start end least last : ℕ) (old new : List Bool) → length old ≡ length instants
    → ((i : ℕ) → i < start → get_or instants i 0 < least) → ((i : ℕ) → start ≤ i → i < length instants → least ≤ get_or instants i 0)
    → ((i : ℕ) → i < end → get_or instants i 0 < last) → ((i : ℕ) → end ≤ i → i < length instants → last ≤ get_or instants i 0)
    → Sets (is_in_run numbers place start end) old new → Sets (is_between instants numbers place least last) old new
run_between instants numbers place start end least last old new len below above before behind s =
    sets_same (is_in_run numbers place start end) (is_between instants numbers place least last) old new s
    (λ i u. ap (λ b. has_arrived numbers place i && b) (ap₂ (λ (a b : Bool). a && b) (starts i u) (ends i u)))
  where
    starts : (i : ℕ) → i < length old → nat_le least (get_or instants i 0) ≡ nat_le start i
    starts i u = same_bool (nat_le least (get_or instants i 0)) (nat_le start i)
        (λ t. le-leb start i (⊎_elim (λ (lt : i < start). absurd (let k = below i lt in let m = leb-true least (get_or instants i 0) t in omega arith)) (λ (ge : start ≤ i). ge) (cases_lt i start)))
        (λ t. le-leb least (get_or instants i 0) (above i (leb-true start i t) (omega arith)))

    ends : (i : ℕ) → i < length old → nat_lt (get_or instants i 0) last ≡ nat_lt i end
    ends i u = same_bool (nat_lt (get_or instants i 0) last) (nat_lt i end)
        (λ t. lt-ltb i end (⊎_elim (λ (lt : i < end). lt) (λ (ge : end ≤ i). absurd (let k = behind i ge (omega arith) in let m = ltb-true (get_or instants i 0) last t in omega arith)) (cases_lt i end)))
        (λ t. lt-ltb (get_or instants i 0) last (before i (ltb-true i end t)))

-- THE LAST of a part
module _ (passes : ℕ → Bool) (alike : ℕ → ℕ → Bool) (n start end : ℕ) where
  abbrev P : ℕ → Bool
  P = is_among_last passes alike n start end

  abbrev few : ℕ → Bool
  few i = nat_lt (count_places (λ j. passes j && alike i j) (i + 1) (end - (i + 1))) n

  last_inside : (i : ℕ) → P i ≡ true → (start ≤ i) × (i < end)
  last_inside i t =
      let a = and_parts (nat_le start i && nat_lt i end) (passes i && few i) t in
      let b = and_parts (nat_le start i) (nat_lt i end) a.0 in
      (leb-true start i b.0, ltb-true i end b.1)

  pub last_here : (i : ℕ) → start ≤ i → i < end → passes i ≡ true → P i ≡ few i
  last_here i h l p = ap (λ b. (b && nat_lt i end) && (passes i && few i)) (le-leb start i h) ∙ ap (λ b. (true && b) && (passes i && few i)) (lt-ltb i end l) ∙ ap (λ b. (true && true) && (b && few i)) p

  pub last_none : (i : ℕ) → passes i ≡ false → P i ≡ false
  last_none i p = and_false (nat_le start i && nat_lt i end) (passes i && few i) (ap (λ b. b && few i) p)

  pub last_many : (i : ℕ) → few i ≡ false → P i ≡ false
  last_many i p = and_false (nat_le start i && nat_lt i end) (passes i && few i) (and_false (passes i) (few i) p)

  pub last_before : (i : ℕ) → i < start → P i ≡ false
  last_before i l = not_true (P i) (λ t. let c = last_inside i t in omega (arith, c.0, l))

  pub last_behind : (i : ℕ) → end ≤ i → P i ≡ false
  last_behind i l = not_true (P i) (λ t. let c = last_inside i t in omega (arith, c.1, l))

  pub last_through : (k : ℕ) → (start ≤ end → end ≤ k) → (i : ℕ) → k ≤ i → P i ≡ false
  last_through k h i l = not_true (P i) (λ t. let c = last_inside i t in omega (arith, c.0, c.1, l, h (omega (arith, c.0, c.1))))

  pub last_back : (k : ℕ) → k ≡ end - (end - start) → (i : ℕ) → i < k → P i ≡ false
  last_back k e i l = not_true (P i) (λ t. let c = last_inside i t in omega (arith, c.0, c.1, l, e))
