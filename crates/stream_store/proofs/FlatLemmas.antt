-- Rows that are kept flat: more behind them, the first ones, and the rest.
use Rattle.std.proofs.Common.{◌≡◌, ◌≤◌, ◌<◌, ◌+◌, ◌-◌, ◌*◌, ℕ, ℤ, zero, suc, Bool, true, false, cond, nat_lt, Option, List, [], ◌∷◌, ◌++◌, take, drop, length, map, refl, sym, ap, ap₂, ◌∙◌, arith, length-append, length-drop, get_or, append_assoc, zero-mul}
use Rattle.std.specs.List.{filter, range_with_len}
use Rattle.std.proofs.Math.Nat.{add-mul}
use Rattle.std.proofs.lemmas.List.{length-map, drop-drop, map-append}
use Rattle.std.proofs.lemmas.List.FromFn.{length-range_with_len, length-map-range_with_len, map-range_with_len_more}
use Rattle.values.specs.Row.{Row}
use Rattle.values.specs.Window.{Element}
pub use Rattle.op_queue.proofs.FlatLemmas.{length-rows_in, rows_in-append, rows_in-drop, rows_in-take}
use Rattle.op_queue.proofs.RunLemmas.{range_with_len-add}
use Rattle.stream_store.specs.Open.{elements_at}
use Rattle.stream_store.specs.LateRows.{IsFlat, lent_rows, numbered_rows, rows_in}
use Rattle.stream_store.specs.declared.ordered_rows.OrderedHead.{OrderedHead}
use Rattle.stream_store.specs.OpenRows.{headed, instant_of, key_of, keys_from, risen_in}

-- the values of a first row, and of the others
pub rest_full : (width : ℕ) (count : ℕ) (values : List (Option ℤ)) → length values ≡ suc count * width → length (drop width values) ≡ count * width
rest_full width count values h = omega (arith, length-drop width values, h)

pub first_full : (width : ℕ) (count : ℕ) (values : List (Option ℤ)) → length values ≡ suc count * width → width ≤ length values
first_full width count values h = omega (arith, h)

-- the rows have heads of any kind
module _ {K : Type 0} where
  -- the row at a place
  pub rows_in-at : (width i : ℕ) (heads : List K) (values : List (Option ℤ)) (h : K) (d : K × Row) → i < length heads → get_or (rows_in width heads values) i d ≡ (get_or heads i h, take width (drop (i * width) values))
  rows_in-at width i [] values h d lt = absurd (omega (arith, lt))
  rows_in-at width zero (m ∷ heads) values h d lt = ap (λ n. (m, take width (drop n values))) (sym (zero-mul width))
  rows_in-at width (suc i) (m ∷ heads) values h d lt =
      let e : width + i * width ≡ suc i * width = omega arith in
      rows_in-at width i heads (drop width values) h d (omega (arith, lt))
      ∙ ap (λ (vs : List (Option ℤ)). (get_or heads i h, take width vs)) (drop-drop (i * width) width values ∙ ap (λ n. drop n values) e)

-- how many have numbers below n
pub count-rows_in : (n width : ℕ) (numbers : List ℕ) (values : List (Option ℤ)) → length (filter (λ r. nat_lt r.0 n) (rows_in width numbers values)) ≡ length (filter (λ m. nat_lt m n) numbers)
count-rows_in n width [] values = refl
count-rows_in n width (m ∷ numbers) values = here (nat_lt m n) (count-rows_in n width numbers (drop width values))
  where
    rest : List (ℕ × Row)
    rest = filter (λ r. nat_lt r.0 n) (rows_in width numbers (drop width values))

    here : (b : Bool) → length rest ≡ length (filter (λ m. nat_lt m n) numbers) → length (cond b ((m, take width values) ∷ rest) rest) ≡ length (cond b (m ∷ filter (λ m. nat_lt m n) numbers) (filter (λ m. nat_lt m n) numbers))
    here true ih = ap suc ih
    here false ih = ih

-- ---- more rows
module _ {K : Type 0} where
  pub append_full : (width count : ℕ) (heads more : List K) (values longer : List (Option ℤ)) → length values ≡ length heads * width → length longer ≡ count * width → length more ≡ length heads + count
      → length (values ++ longer) ≡ length more * width
  append_full width count heads more values longer full also long =
      length-append values longer ∙ omega (arith, full, also, add-mul (length heads) count width) ∙ ap (λ n. n * width) (sym long)

-- numbered one after another
numbered_lent : (width n : ℕ) (instants : List ℤ) (values : List (Option ℤ)) → numbered_rows n (lent_rows width instants values) ≡ rows_in width (range_with_len n (length instants)) values
numbered_lent width n [] values = refl
numbered_lent width n (t ∷ instants) values =
    let next : suc n ≡ n + 1 = omega arith in
    ap (λ k. (n, take width values) ∷ numbered_rows k (lent_rows width instants (drop width values))) next
    ∙ ap (λ (rs : List (ℕ × Row)). (n, take width values) ∷ rs) (numbered_lent width (n + 1) instants (drop width values))

pushed_rows : (width n : ℕ) (numbers : List ℕ) (values longer : List (Option ℤ)) (instants : List ℤ) → length values ≡ length numbers * width
    → rows_in width (numbers ++ range_with_len n (length instants)) (values ++ longer) ≡ rows_in width numbers values ++ numbered_rows n (lent_rows width instants longer)
pushed_rows width n numbers values longer instants full =
    rows_in-append width numbers (range_with_len n (length instants)) values longer full
    ∙ ap (λ (rs : List (ℕ × Row)). rows_in width numbers values ++ rs) (sym (numbered_lent width n instants longer))

pub record IsPushed (width n : ℕ) (numbers more : List ℕ) (values longer : List (Option ℤ)) (instants : List ℤ) (given : List (Option ℤ)) : Type 0 where
  pub flat : IsFlat width more longer
  pub rows : rows_in width more longer ≡ rows_in width numbers values ++ numbered_rows n (lent_rows width instants given)

pub pushed_late : (width n : ℕ) (numbers more : List ℕ) (values longer : List (Option ℤ)) (instants : List ℤ) (given : List (Option ℤ)) → IsFlat width numbers values → length given ≡ length instants * width
    → more ≡ numbers ++ range_with_len n (length instants) → longer ≡ values ++ given → IsPushed width n numbers more values longer instants given
pushed_late width n numbers more values longer instants given flat full counted valued =
    let long : length more ≡ length numbers + length instants =
    ap length counted ∙ length-append numbers (range_with_len n (length instants)) ∙ ap (λ k. length numbers + k) (length-range_with_len n (length instants)) in
    record {
      flat = record { few = flat.few; full = ap length valued ∙ append_full width (length instants) numbers more values given flat.full full long };
      rows = ap₂ (λ (ns : List ℕ) (vs : List (Option ℤ)). rows_in width ns vs) counted valued ∙ pushed_rows width n numbers values given instants flat.full;
    }

-- one more number
pub one_number : (first number : ℕ) (start old new : List ℕ) → first ≤ number → new ≡ old ++ number ∷ [] → old ≡ start ++ range_with_len first (number - first) → new ≡ start ++ range_with_len first (number + 1 - first)
one_number first number start old new le pushed sofar =
    let k : ℕ = number - first in
    let more : number + 1 - first ≡ k + 1 = omega (arith, le) in
    let here : first + k ≡ number = omega (arith, le) in
    pushed
    ∙ ap (λ (ns : List ℕ). ns ++ number ∷ []) sofar
    ∙ append_assoc start (range_with_len first k) (number ∷ [])
    ∙ ap (λ m. start ++ (range_with_len first k ++ m ∷ [])) (sym here)
    ∙ ap (λ (ns : List ℕ). start ++ ns) (sym (range_with_len-add first k 1))
    ∙ ap (λ n. start ++ range_with_len first n) (sym more)

-- ---- the same of rows that rise, of which the heads tell the instant and the number
abbrev keyed : (ℕ × ℕ) × Row → Element
keyed r = record { arrival = r.0.1; instant = r.0.0; row = r.1 }

risen-keyed : (width : ℕ) (heads : List OrderedHead) (values : List (Option ℤ)) → risen_in width heads values ≡ map keyed (rows_in width (map key_of heads) values)
risen-keyed width [] values = refl
risen-keyed width (h ∷ heads) values = ap (λ (es : List Element). headed (h, take width values) ∷ es) (risen-keyed width heads (drop width values))

keys-lent : (width t n : ℕ) (instants : List ℤ) (values : List (Option ℤ)) → map keyed (rows_in width (keys_from t n (length instants)) values) ≡ elements_at t (numbered_rows n (lent_rows width instants values))
keys-lent width t n [] values = refl
keys-lent width t n (i ∷ instants) values =
    let next : n + 1 ≡ suc n = omega arith in
    let first : Element = record { arrival = n; instant = t; row = take width values } in
    ap (λ (es : List Element). first ∷ es) (keys-lent width t (n + 1) instants (drop width values))
    ∙ ap (λ k. first ∷ elements_at t (numbered_rows k (lent_rows width instants (drop width values)))) next

pub pushed_risen : (width t n : ℕ) (heads more : List OrderedHead) (values longer : List (Option ℤ)) (instants : List ℤ) → length values ≡ length heads * width → map key_of more ≡ map key_of heads ++ keys_from t n (length instants)
    → risen_in width more (values ++ longer) ≡ risen_in width heads values ++ elements_at t (numbered_rows n (lent_rows width instants longer))
pushed_risen width t n heads more values longer instants full pushed =
    let keys : List (ℕ × ℕ) = map key_of heads in
    let new : List (ℕ × ℕ) = keys_from t n (length instants) in
    risen-keyed width more (values ++ longer)
    ∙ ap (λ (ks : List (ℕ × ℕ)). map keyed (rows_in width ks (values ++ longer))) pushed
    ∙ ap (map keyed) (rows_in-append width keys new values longer (full ∙ ap (λ k. k * width) (sym (length-map heads key_of))))
    ∙ map-append keyed (rows_in width keys values) (rows_in width new longer)
    ∙ ap₂ (λ (xs ys : List Element). xs ++ ys) (sym (risen-keyed width heads values)) (keys-lent width t n instants longer)

pub one_head : (t first number : ℕ) (h : OrderedHead) (start old new : List OrderedHead) → first ≤ number → instant_of h ≡ t → h.number ≡ number → new ≡ old ++ h ∷ [] → map key_of old ≡ map key_of start ++ keys_from t first (number - first)
    → map key_of new ≡ map key_of start ++ keys_from t first (number + 1 - first)
one_head t first number h start old new le at counts pushed sofar =
    let k : ℕ = number - first in
    let keys : List (ℕ × ℕ) = map key_of start in
    let more : number + 1 - first ≡ k + 1 = omega (arith, le) in
    ap (map key_of) pushed
    ∙ map-append key_of old (h ∷ [])
    ∙ ap₂ (λ i j. map key_of old ++ (i, j) ∷ []) at counts
    ∙ ap (λ (ks : List (ℕ × ℕ)). ks ++ (t, number) ∷ []) sofar
    ∙ append_assoc keys (keys_from t first k) ((t, number) ∷ [])
    ∙ ap (λ (ks : List (ℕ × ℕ)). keys ++ ks) (sym (map-range_with_len_more (λ m. (t, m)) first k number (omega (arith, le))))
    ∙ ap (λ n. keys ++ keys_from t first n) (sym more)

pub pushed_heads : (t n count : ℕ) (heads more : List OrderedHead) → map key_of more ≡ map key_of heads ++ keys_from t n count → length more ≡ length heads + count
pushed_heads t n count heads more pushed =
    sym (length-map more key_of)
    ∙ ap length pushed
    ∙ length-append (map key_of heads) (keys_from t n count)
    ∙ ap₂ (λ j k. j + k) (length-map heads key_of) (length-map-range_with_len (λ m. (t, m)) n count)
