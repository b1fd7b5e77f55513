-- Rows that are lent flat: those that follow one another with one instant, and the others.
use Rattle.std.proofs.Common.{◌≡◌, ◌<◌, ◌≤◌, ◌+◌, ◌-◌, ◌*◌, ◌==◌, ◌∙◌, ◌&&◌, ℕ, ℤ, pos, negsuc, zero, suc, Bool, true, false, not, None, nat_abs, int_le, to_z, of_z, w64, get_or, replicate, Option, List, [], ◌∷◌, ◌++◌, length, map, take, drop, refl, sym, ap, ap₂, subst, arith, length-append, length-drop, length-take-le}
use Rattle.std.specs.List.{list_all, list_any}
use Rattle.std.proofs.Math.Nat.{add-mul}
use Rattle.std.proofs.lemmas.Bool.{eqb-true, leb-true}
use Rattle.std.proofs.lemmas.Int.{fits_signed_from_abs, to_z-of_z}
use Rattle.std.proofs.lemmas.List.{length-map, take-append-drop, take-append-le, drop-append-le, take_all, drop_all, take-map, drop-map}
use Rattle.std.proofs.lemmas.List.Folds.{list_all-append, list_all_at}
use Rattle.values.specs.Row.{Row}
use Rattle.values.specs.Window.{Element}
use Rattle.reference.specs.Appended.{kept_of, values_of}
use Rattle.names.specs.Faults.{first_of}
use Rattle.reference.specs.Machine.{Stream}
use Rattle.reference.specs.Commands.{append_tests, is_instant, is_stream_value}
use Rattle.reference.specs.declared.limits.TheConstants.{MAX_INSTANT}
use Rattle.reference.proofs.StreamLemmas.{accepted_each, or_left, or_right, not_false}
use Rattle.stream_store.specs.LateRows.{lent_rows, rows_in}
use Rattle.stream_store.specs.Open.{AreAt, after_put, placed}
use Rattle.stream_store.proofs.FlatLemmas.{length-rows_in, rows_in-take, rows_in-drop}

after_put-append : (n : ℕ) (xs ys : List (ℕ × Row)) (es : List Element) → after_put n (xs ++ ys) es ≡ after_put (n + length xs) ys (after_put n xs es)
after_put-append n [] ys es = let e : n ≡ n + 0 = omega arith in ap (λ k. after_put k ys es) e
after_put-append n (x ∷ xs) ys es =
    let last : Element = record { arrival = n; instant = x.0; row = x.1 } in
    let e : suc n + length xs ≡ n + suc (length xs) = omega arith in
    after_put-append (suc n) xs ys (placed last es) ∙ ap (λ k. after_put k ys (after_put (suc n) xs (placed last es))) e

-- rows, and then the others
put_both : (n k : ℕ) (rows : List (ℕ × Row)) (es : List Element) → k ≤ length rows → after_put (n + k) (drop k rows) (after_put n (take k rows) es) ≡ after_put n rows es
put_both n k rows es le =
    ap (λ m. after_put (n + m) (drop k rows) (after_put n (take k rows) es)) (sym (length-take-le k rows le))
    ∙ sym (after_put-append n (take k rows) (drop k rows) es)
    ∙ ap (λ (rs : List (ℕ × Row)). after_put n rs es) (take-append-drop k rows)

-- ---- a test that all pass
and_first : (a b : Bool) → (a && b) ≡ true → a ≡ true
and_first true b h = refl
and_first false b h = cc

and_second : (a b : Bool) → (a && b) ≡ true → b ≡ true
and_second true b h = h
and_second false b h = cc

pub all-first : {X : Type 0} (p : X → Bool) (x : X) (xs : List X) → list_all p (x ∷ xs) ≡ true → p x ≡ true
all-first p x xs h = and_first (p x) (list_all p xs) h

pub all-drop : {X : Type 0} (p : X → Bool) (k : ℕ) (xs : List X) → list_all p xs ≡ true → list_all p (drop k xs) ≡ true
all-drop p k xs h =
    and_second (list_all p (take k xs)) (list_all p (drop k xs)) (sym (list_all-append p (take k xs) (drop k xs)) ∙ ap (list_all p) (take-append-drop k xs) ∙ h)

pub passes-at : {X : Type 0} (p : X → Bool) (xs : List X) (i : ℕ) (d : X) → list_all p xs ≡ true → i < length xs → p (get_or xs i d) ≡ true
passes-at p xs i d all lt = here (p (get_or xs i d)) refl
  where
    here : (b : Bool) → p (get_or xs i d) ≡ b → p (get_or xs i d) ≡ true
    here true e = e
    here false e = let none : false ≡ true = sym (list_all_at p xs i d lt e) ∙ all in cc

-- ---- the first rows and the others
module _ (width k : ℕ) (instants : List ℤ) (values : List (Option ℤ)) where
  pub lent-take : lent_rows width (take k instants) (take (k * width) values) ≡ take k (lent_rows width instants values)
  lent-take = ap (λ ts. rows_in width ts (take (k * width) values)) (sym (take-map nat_abs k instants)) ∙ rows_in-take width k (map nat_abs instants) values

  pub lent-drop : lent_rows width (drop k instants) (drop (k * width) values) ≡ drop k (lent_rows width instants values)
  lent-drop = ap (λ ts. rows_in width ts (drop (k * width) values)) (sym (drop-map nat_abs k instants)) ∙ rows_in-drop width k (map nat_abs instants) values

  module _ (full : length values ≡ length instants * width) (le : k ≤ length instants) where
    pub rest_full : length (drop (k * width) values) ≡ length (drop k instants) * width
    rest_full =
        let split : length instants ≡ k + (length instants - k) = omega (arith, le) in
        let same : length instants * width ≡ k * width + (length instants - k) * width = ap (λ n. n * width) split ∙ add-mul k (length instants - k) width in
        length-drop (k * width) values ∙ omega (arith, same, full) ∙ ap (λ n. n * width) (sym (length-drop k instants))

    pub put_rest : (n : ℕ) (es : List Element)
        → after_put (n + k) (lent_rows width (drop k instants) (drop (k * width) values)) (after_put n (lent_rows width (take k instants) (take (k * width) values)) es) ≡ after_put n (lent_rows width instants values) es
    put_rest n es =
        let long : length (lent_rows width instants values) ≡ length instants = length-rows_in width (map nat_abs instants) values ∙ length-map instants nat_abs in
        ap₂ (λ (xs ys : List (ℕ × Row)). after_put (n + k) xs (after_put n ys es)) lent-drop lent-take
        ∙ put_both n k (lent_rows width instants values) es (omega (arith, le, long))

-- ---- rows of one instant
at_replicate : (width n : ℕ) (t : ℤ) (values : List (Option ℤ)) → AreAt (nat_abs t) (lent_rows width (replicate n t) values)
at_replicate width zero t values = tt
at_replicate width (suc n) t values = (refl, at_replicate width n t (drop width values))

pub run_at : (width k : ℕ) (t : ℤ) (others : List ℤ) (values : List (Option ℤ)) → take k others ≡ replicate k t → AreAt (nat_abs t) (lent_rows width (take (1 + k) (t ∷ others)) values)
run_at width k t others values same =
    let next : 1 + k ≡ suc k = omega arith in
    let all : take (1 + k) (t ∷ others) ≡ replicate (suc k) t = ap (λ n. take n (t ∷ others)) next ∙ ap (λ (ts : List ℤ). t ∷ ts) same in
    subst (λ (ts : List ℤ). AreAt (nat_abs t) (lent_rows width ts values)) (sym all) (at_replicate width (suc k) t values)

-- an instant is as it was, once it was written and read back
pub instant_back : (t : ℤ) → is_instant t ≡ true → to_z w64 (of_z w64 t) ≡ t
instant_back (pos m) h =
    let le : m ≤ 1099511627776 = leb-true m 1099511627776 (and_second (int_le (pos 0) (pos m)) (int_le (pos m) MAX_INSTANT) h) in
    to_z-of_z w64 (pos m) (fits_signed_from_abs w64 (pos m) (omega (arith, le)))
instant_back (negsuc m) h = cc

-- ---- the rows of an append
abbrev given : List (ℤ × List (Option ℤ)) → List ℤ
given rows = map (λ r. r.0) rows

given_instants : (rows : List (ℤ × List (Option ℤ))) → list_any (λ r. not (is_instant r.0)) rows ≡ false → list_all is_instant (given rows) ≡ true
given_instants [] h = refl
given_instants (r ∷ rows) h = ap₂ (λ a b. a && b) (not_false _ (or_left _ _ h)) (given_instants rows (or_right _ _ h))

given_values : (rows : List (ℤ × List (Option ℤ))) → list_any (λ r. not (list_all is_stream_value r.1)) rows ≡ false → list_all is_stream_value (values_of rows) ≡ true
given_values [] h = refl
given_values (r ∷ rows) h =
    list_all-append is_stream_value r.1 (values_of rows)
    ∙ ap₂ (λ a b. a && b) (not_false _ (or_left _ _ h)) (given_values rows (or_right _ _ h))

given_rows : (width : ℕ) (rows : List (ℤ × List (Option ℤ))) → list_any (λ r. not (length r.1 == width)) rows ≡ false → lent_rows width (given rows) (values_of rows) ≡ kept_of rows
given_rows width [] h = refl
given_rows width (r ∷ rows) h =
    let wide : length r.1 ≡ width = eqb-true (length r.1) width (not_false _ (or_left _ _ h)) in
    let front : take width (r.1 ++ values_of rows) ≡ r.1 = take-append-le width r.1 (values_of rows) (omega (arith, wide)) ∙ take_all width r.1 (omega (arith, wide)) in
    let back : drop width (r.1 ++ values_of rows) ≡ values_of rows =
    drop-append-le width r.1 (values_of rows) (omega (arith, wide)) ∙ ap (λ (vs : List (Option ℤ)). vs ++ values_of rows) (drop_all width r.1 (omega (arith, wide))) in
    ap₂ (λ (row : Row) (vs : List (Option ℤ)). (nat_abs r.0, row) ∷ lent_rows width (given rows) vs) front back
    ∙ ap (λ (rs : List (ℕ × Row)). (nat_abs r.0, r.1) ∷ rs) (given_rows width rows (or_right _ _ h))

length-given : (width : ℕ) (rows : List (ℤ × List (Option ℤ))) → list_any (λ r. not (length r.1 == width)) rows ≡ false → length (values_of rows) ≡ length rows * width
length-given width [] h = let none : 0 ≡ 0 * width = omega arith in none
length-given width (r ∷ rows) h =
    let wide : length r.1 ≡ width = eqb-true (length r.1) width (not_false _ (or_left _ _ h)) in
    let more : suc (length rows) * width ≡ width + length rows * width = omega arith in
    length-append r.1 (values_of rows) ∙ omega (arith, wide, more, length-given width rows (or_right _ _ h))

-- the rows that a stream accepts, as they are lent
pub record IsLent (width : ℕ) (rows : List (ℤ × List (Option ℤ))) (instants : List ℤ) (values : List (Option ℤ)) : Type 0 where
  pub many : length instants ≡ length rows
  pub full : length values ≡ length instants * width
  pub instants_good : list_all is_instant instants ≡ true
  pub values_good : list_all is_stream_value values ≡ true
  pub kept : lent_rows width instants values ≡ kept_of rows

pub accepted_lent : (s : Stream) (rows : List (ℤ × List (Option ℤ))) → first_of (append_tests s rows) ≡ None → (width : ℕ) → length s.columns ≡ width
    → (instants : List ℤ) (values : List (Option ℤ)) → instants ≡ given rows → values ≡ values_of rows → IsLent width rows instants values
accepted_lent s rows accepted width wide instants values is holds =
    let tests = accepted_each s rows accepted in
    let widths : list_any (λ r. not (length r.1 == width)) rows ≡ false = subst (λ k. list_any (λ r. not (length r.1 == k)) rows ≡ false) wide tests.0 in
    let many : length instants ≡ length rows = ap length is ∙ length-map rows (λ r. r.0) in
    record {
      many = many;
      full = ap length holds ∙ length-given width rows widths ∙ ap (λ n. n * width) (sym many);
      instants_good = ap (list_all is_instant) is ∙ given_instants rows tests.2;
      values_good = ap (list_all is_stream_value) holds ∙ given_values rows tests.1;
      kept = ap₂ (λ (ts : List ℤ) (vs : List (Option ℤ)). lent_rows width ts vs) is holds ∙ given_rows width rows widths;
    }
