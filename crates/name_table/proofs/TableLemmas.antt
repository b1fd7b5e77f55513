-- A table as the list of its names.
use Rattle.std.proofs.Common.{◌≡◌, ◌≤◌, ◌<◌, ◌+◌, ◌==◌, nat_lt, ℕ, zero, suc, Bool, true, false, cond, Option, Some, None, List, [], ◌∷◌, ◌++◌, length, map, get_or, set, position, slice_get, count_by, is_some, refl, sym, ap, subst, ◌∙◌, arith, string_bytes}
use Rattle.std.specs.String.{string_cmp}
use Rattle.std.specs.Map.{remove_entry, keys_of}
use Rattle.std.specs.List.Sorted.{IsStrictlySortedBy}
use Rattle.std.specs.BTreeMap.{insert_entry}
use Rattle.std.specs.List.{range_with_len, position_or_len, AllByRecursion}
use Rattle.std.proofs.lemmas.Slice.Eq.{bytes_eq-Decides}
use Rattle.std.proofs.lemmas.Bool.{eqb-true, eqb-false, eq-eqb, ne_eqb, lt-ltb, le-ltb}
use Rattle.std.proofs.lemmas.List.{same_lists, length-set, get_or-set_same, get_or-set_other}
use Rattle.std.proofs.lemmas.List.FromFn.{length-map-range_with_len, get_or-map-range_with_len, map-range_with_len_more}
use Rattle.std.proofs.lemmas.List.Recursion.{is_count_by}
use Rattle.std.proofs.lemmas.List.Sums.{position_or_len_is}
use Rattle.std.proofs.lemmas.Option.{get_or_from_slice_get, slice_get_within}
use Rattle.name_table.specs.Names.{bears}
use Rattle.name_table.specs.Entries.{name_at, names_in, IsOnce, IsTable}
use Rattle.name_table.proofs.EntryLemmas.{Key, at, found, named, numbered, given_below, named-insert_entry, given-insert_entry, once-insert_entry, named-remove_entry, given-remove_entry, once-remove_entry}

pub length-names : (count : ℕ) (es : List (Key × ℕ)) → length (names_in count es) ≡ count
length-names count es = length-map-range_with_len (name_at es) 0 count

pub name-of : (count n : ℕ) (es : List (Key × ℕ)) (d : Option (List ℕ)) → n < count → get_or (names_in count es) n d ≡ name_at es n
name-of count n es d h = get_or-map-range_with_len (name_at es) 0 count n n d h (omega arith)

bears_itself : (cs : List ℕ) (r : Option (List ℕ)) → r ≡ Some cs → bears cs r ≡ true
bears_itself cs r h = rw h ((bytes_eq-Decides cs cs).1 refl)

has_name : (cs : List ℕ) (r : Option (List ℕ)) → bears cs r ≡ true → r ≡ Some cs
has_name cs None h = cc
has_name cs (Some other) h = ap (λ z. Some z) ((bytes_eq-Decides other cs).0 h)

not_borne : (b : Bool) → (b ≡ true → ⊥) → b ≡ false
not_borne true h = absurd (h refl)
not_borne false h = refl

-- the first number that bears a name is the number that the entries give to it
pub first_number : (cs : List ℕ) (count : ℕ) (es : List (Key × ℕ)) → IsTable count es → position (bears cs) (names_in count es) ≡ found cs es
first_number cs count es t = here (found cs es) refl
  where
    p : Option (List ℕ) → Bool
    p = bears cs

    xs : List (Option (List ℕ))
    xs = names_in count es

    other : (k : ℕ) → k < count → (found cs es ≡ Some k → ⊥) → p (get_or xs k None) ≡ false
    other k lt apart = not_borne (p (get_or xs k None)) (λ h. apart (numbered cs k es t.ordered (sym (name-of count k es None lt) ∙ has_name cs (get_or xs k None) h)))

    at_place : (i : ℕ) → position_or_len p xs ≡ i → position p xs ≡ cond (nat_lt i count) (Some i) None
    at_place i h = rw (h, length-names count es) refl

    here : (r : Option ℕ) → found cs es ≡ r → position p xs ≡ r
    here None h =
        let e = position_or_len_is p xs count None (omega (arith, length-names count es)) (λ k lt. other k lt (λ i. let j : None ≡ Some k = sym h ∙ i in cc)) (λ lt. absurd (omega (arith, length-names count es, lt))) in
        at_place count e ∙ ap (λ b. cond b (Some count) None) (le-ltb count count (omega arith))
    here (Some n) h =
        let lt : n < count = given_below cs n count es t.given h in
        let e = position_or_len_is p xs n None (omega (arith, length-names count es, lt))
        (λ k below. other k (omega (arith, below, lt)) (λ i. let j : Some n ≡ Some k = sym h ∙ i in let g : n ≡ k = cc in omega (arith, g, below)))
        (λ within. bears_itself cs (get_or xs n None) (name-of count n es None lt ∙ named cs n es t.once h)) in
        at_place n e ∙ ap (λ b. cond b (Some n) None) (lt-ltb n count lt)

-- a name is that of one number
pub number-of : (cs : List ℕ) (count n : ℕ) (es : List (Key × ℕ)) → IsTable count es → slice_get (names_in count es) n ≡ Some (Some cs) → found cs es ≡ Some n
number-of cs count n es t h =
    let lt : n < count = omega (arith, length-names count es, slice_get_within (names_in count es) n (Some cs) h) in
    numbered cs n es t.ordered (sym (name-of count n es None lt) ∙ get_or_from_slice_get (names_in count es) n (Some cs) None h)

-- lists over one range
same_over : {X : Type 0} (f g : ℕ → X) (a n : ℕ) → ((k : ℕ) → k < a + n → f k ≡ g k) → map f (range_with_len a n) ≡ map g (range_with_len a n)
same_over f g a zero h = refl
same_over f g a (suc n) h = rw (h a (omega arith), same_over f g (a + 1) n (λ k lt. h k (omega (arith, lt)))) refl

-- one more name
pub names-insert_entry : (k : Key) (count : ℕ) (es : List (Key × ℕ)) → IsTable count es → found (string_bytes k) es ≡ None
    → names_in (count + 1) (insert_entry string_cmp es k count) ≡ names_in count es ++ Some (string_bytes k) ∷ []
names-insert_entry k count es t none =
    let f : ℕ → Option (List ℕ) = name_at (insert_entry string_cmp es k count) in
    let each : (n : ℕ) → f n ≡ cond (count == n) (Some (string_bytes k)) (name_at es n) = λ n. named-insert_entry k count n es none t.given in
    let earlier : (n : ℕ) → n < 0 + count → f n ≡ name_at es n = λ n lt. each n ∙ ap (λ b. cond b (Some (string_bytes k)) (name_at es n)) (ne_eqb count n (λ e. omega (arith, e, lt))) in
    let last : f count ≡ Some (string_bytes k) = each count ∙ ap (λ b. cond b (Some (string_bytes k)) (name_at es count)) (eq-eqb count count refl) in
    map-range_with_len_more f 0 count count (omega arith) ∙ ap (λ xs. xs ++ f count ∷ []) (same_over f (name_at es) 0 count earlier) ∙ ap (λ x. names_in count es ++ x ∷ []) last

-- a name less
pub names-remove_entry : (cs : List ℕ) (count n : ℕ) (es : List (Key × ℕ)) → IsTable count es → found cs es ≡ Some n
    → names_in count (remove_entry (at cs) es) ≡ set (names_in count es) n None
names-remove_entry cs count n es t h =
    same_lists (names_in count less) (set xs n None) (length-names count less ∙ sym (length-names count es) ∙ sym (length-set xs n None)) each
  where
    less : List (Key × ℕ)
    less = remove_entry (at cs) es

    xs : List (Option (List ℕ))
    xs = names_in count es

    lt : n < count
    lt = given_below cs n count es t.given h

    here : (k : ℕ) (d : Option (List ℕ)) → k < count → (b : Bool) → (n == k) ≡ b → cond b None (name_at es k) ≡ get_or (set xs n None) k d
    here k d below true i = subst (λ z. None ≡ get_or (set xs n None) z d) (eqb-true n k i) (sym (get_or-set_same xs n None d (omega (arith, lt, length-names count es))))
    here k d below false i = sym (get_or-set_other xs n k None d (λ e. eqb-false n k i (sym e)) ∙ name-of count k es d below)

    each : (k : ℕ) (d : Option (List ℕ)) → k < length (names_in count less) → get_or (names_in count less) k d ≡ get_or (set xs n None) k d
    each k d within =
        let below : k < count = omega (arith, within, length-names count less) in
        name-of count k less d below ∙ named-remove_entry cs n k es t.once h ∙ here k d below (n == k) refl

pub table-insert_entry : (k : Key) (count : ℕ) (es : List (Key × ℕ)) → IsTable count es → found (string_bytes k) es ≡ None
    → IsStrictlySortedBy string_cmp (keys_of (insert_entry string_cmp es k count)) → IsTable (count + 1) (insert_entry string_cmp es k count)
table-insert_entry k count es t none sorted = record {
  ordered = sorted;
  given = given-insert_entry k count es none t.given;
  once = once-insert_entry k count es none t.given t.once;
}

pub table-remove_entry : (cs : List ℕ) (count : ℕ) (es : List (Key × ℕ)) → IsTable count es → IsStrictlySortedBy string_cmp (keys_of (remove_entry (at cs) es)) → IsTable count (remove_entry (at cs) es)
table-remove_entry cs count es t sorted = record {
  ordered = sorted;
  given = given-remove_entry cs count es t.given;
  once = once-remove_entry cs es t.once;
}

-- ---- how many names there are
abbrev borne : List (Option (List ℕ)) → ℕ
borne [] = 0
borne (x ∷ xs) = cond (is_some x) (suc (borne xs)) (borne xs)

abbrev borne_over : List (Key × ℕ) → ℕ → ℕ → ℕ
borne_over es a n = borne (map (name_at es) (range_with_len a n))

none_over : (a n : ℕ) → borne_over [] a n ≡ 0
none_over a zero = refl
none_over a (suc n) = none_over (a + 1) n

-- a number before the others counts with none of them
earlier_over : (e : Key × ℕ) (es : List (Key × ℕ)) (a n : ℕ) → e.1 < a → borne_over (e ∷ es) a n ≡ borne_over es a n
earlier_over e es a zero lt = refl
earlier_over e es a (suc n) lt =
    let later : borne_over (e ∷ es) (a + 1) n ≡ borne_over es (a + 1) n = earlier_over e es (a + 1) n (omega (arith, lt)) in
    let other : (e.1 == a) ≡ false = ne_eqb e.1 a (λ i. omega (arith, i, lt)) in
    ap (λ b. cond (is_some (cond b (Some (string_bytes e.0)) (name_at es a))) (suc (borne_over (e ∷ es) (a + 1) n)) (borne_over (e ∷ es) (a + 1) n)) other
    ∙ ap (λ k. cond (is_some (name_at es a)) (suc k) k) later

next_above : (x y : ℕ) → x ≤ y → (y ≡ x → ⊥) → x + 1 ≤ y
next_above x y le apart = grind (arith, le, apart)

one_here : (b : Bool) (k : ℕ) → cond b (suc (suc k)) (suc k) ≡ suc (cond b (suc k) k)
one_here true k = refl
one_here false k = refl

-- a number that had no name counts once
one_over : (e : Key × ℕ) (es : List (Key × ℕ)) (a n : ℕ) → name_at es e.1 ≡ None → a ≤ e.1 → e.1 < a + n → borne_over (e ∷ es) a n ≡ suc (borne_over es a n)
one_over e es a zero alone low high = absurd (omega (arith, low, high))
one_over e es a (suc n) alone low high = here (one_over e es (a + 1) n alone) (e.1 == a) refl
  where
    here : (a + 1 ≤ e.1 → e.1 < a + 1 + n → borne_over (e ∷ es) (a + 1) n ≡ suc (borne_over es (a + 1) n)) → (b : Bool) → (e.1 == a) ≡ b → borne_over (e ∷ es) a (suc n) ≡ suc (borne_over es a (suc n))
    here ih true i =
        let j : e.1 ≡ a = eqb-true e.1 a i in
        let none : name_at es a ≡ None = subst (λ z. name_at es z ≡ None) j alone in
        ap (λ b. cond (is_some (cond b (Some (string_bytes e.0)) (name_at es a))) (suc (borne_over (e ∷ es) (a + 1) n)) (borne_over (e ∷ es) (a + 1) n)) i
        ∙ ap suc (earlier_over e es (a + 1) n (omega (arith, j)))
        ∙ ap (λ (o : Option (List ℕ)). suc (cond (is_some o) (suc (borne_over es (a + 1) n)) (borne_over es (a + 1) n))) (sym none)
    here ih false i =
        let later = ih (next_above a e.1 low (eqb-false e.1 a i)) (omega (arith, high)) in
        ap (λ b. cond (is_some (cond b (Some (string_bytes e.0)) (name_at es a))) (suc (borne_over (e ∷ es) (a + 1) n)) (borne_over (e ∷ es) (a + 1) n)) i
        ∙ ap (λ k. cond (is_some (name_at es a)) (suc k) k) later
        ∙ one_here (is_some (name_at es a)) (borne_over es (a + 1) n)

-- each entry is the name of one number
entries_over : (count : ℕ) (es : List (Key × ℕ)) → AllByRecursion (λ e. e.1 < count) es → IsOnce es → borne_over es 0 count ≡ length es
entries_over count [] given once = none_over 0 count
entries_over count (e ∷ es) given once =
    one_over e es 0 count once.0 (omega arith) (omega (arith, given.0)) ∙ ap suc (entries_over count es given.1 once.1)

pub count-names : (count : ℕ) (es : List (Key × ℕ)) → IsTable count es → count_by is_some (names_in count es) ≡ length es
count-names count es t = sym (is_count_by borne is_some refl (λ x xs. ap (λ (k : ℕ). cond (is_some x) k (borne xs)) (omega arith)) (names_in count es)) ∙ entries_over count es t.given t.once
