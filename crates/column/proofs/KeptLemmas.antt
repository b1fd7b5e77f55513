-- What a mask chooses, moved to the front of its list.
use Rattle.std.proofs.Common.{ℕ, ℤ, List, [], ◌∷◌, ◌++◌, ◌≡◌, ◌<◌, ◌≤◌, ◌+◌, ◌/◌, ◌^◌, ◌==◌, bit_and, length, map, refl, sym, ◌∙◌, ap, arith, Bool, true, false, cond, None, Option, pos, take, drop, zero, suc, All, append-nil, set-set, inl, inr}
use Rattle.std.proofs.Math.ListN.{get_or, set}
use Rattle.std.proofs.lemmas.List.{take_more, take_more_set, take_all, drop-drop, drop-set-lt, get_or-drop, length-set, length-take-le, map-append, take-set-le}
use Rattle.std.proofs.lemmas.Bool.{cases_lt}
use Rattle.std.proofs.lemmas.Bool.Decides.{nat_tests}
use Rattle.std.proofs.lemmas.List.Elements.{All-head, All-tail}
use Rattle.std.specs.List.{range_with_len}
use Rattle.values.specs.Row.{Row}
use Rattle.column.specs.Bits.{at_places, bits, chosen, place, true_places}
use Rattle.column.specs.Columns.{IsColumn, values_of}
use Rattle.column.specs.Rows.{IsLaidOut, IsTable, signed_rows}
use Rattle.column.proofs.BitLemmas.{bits_first, bits_more, length-bits, length-seen, word_read}
use Rattle.column.proofs.BatchLemmas.{IsRemade, at_true_places, chosen-push, few_true, length-at_places, length-batch, picks_made, true_within, values_again}
use Rattle.column.proofs.ColumnLemmas.{IsMade, length-column, picked_cells, same_length}

-- of the first `i` items those that the mask chooses stand first, `kept` of them, and the later items stand where they stood
pub record IsKept {X : Type 0} (mask : List Bool) (old : List X) (kept i : ℕ) (xs : List X) : Type 0 where
  pub le : kept ≤ i
  pub long : length xs ≡ length old
  pub front : take kept xs ≡ chosen (take i mask) (take i old)
  pub back : drop i xs ≡ drop i old

pub IsKept-start : {X : Type 0} (mask : List Bool) (old : List X) → IsKept mask old 0 0 old
IsKept-start mask old = record { le = omega arith; long = refl; front = refl; back = refl }

chosen_more : {X : Type 0} (mask : List Bool) (old : List X) (i : ℕ) (b : Bool) (v d : X) → length mask ≡ length old → i < length old → get_or mask i false ≡ b → get_or old i d ≡ v
    → chosen (take (i + 1) mask) (take (i + 1) old) ≡ chosen (take i mask) (take i old) ++ cond b (v ∷ []) []
chosen_more mask old i b v d same h e f =
    let same' : length (take i mask) ≡ length (take i old) = length-take-le i mask (omega (arith, same, h)) ∙ sym (length-take-le i old (omega (arith, h))) in
    (λ t. chosen (take_more mask i false (omega (arith, same, h)) t) (take_more old i d h t))
    ∙ (λ t. chosen (take i mask ++ e t ∷ []) (take i old ++ f t ∷ []))
    ∙ chosen-push (take i mask) (take i old) b v same'

stands : {X : Type 0} (mask : List Bool) (old : List X) (kept i : ℕ) (xs : List X) (v d : X) → IsKept mask old kept i xs → v ≡ get_or xs i d → get_or old i d ≡ v
stands mask old kept i xs v d k is =
    ap (λ n. get_or old n d) (let e : i ≡ i + 0 = omega arith in e) ∙ sym (get_or-drop i old 0 d) ∙ ap (λ l. get_or l 0 d) (sym k.back) ∙ get_or-drop i xs 0 d
    ∙ ap (λ n. get_or xs n d) (let e : i + 0 ≡ i = omega arith in e) ∙ sym is

back_more : {X : Type 0} (old : List X) (i : ℕ) (xs : List X) → drop i xs ≡ drop i old → drop (i + 1) xs ≡ drop (i + 1) old
back_more old i xs e = sym (drop-drop 1 i xs) ∙ ap (drop 1) e ∙ drop-drop 1 i old

pub IsKept-yes : {X : Type 0} (mask : List Bool) (old : List X) (kept i : ℕ) (xs : List X) (v d : X) → length mask ≡ length old → i < length old → get_or mask i false ≡ true → v ≡ get_or xs i d
    → IsKept mask old kept i xs → IsKept mask old (kept + 1) (i + 1) (set xs kept v)
IsKept-yes mask old kept i xs v d same h e is k = record {
  le = omega (arith, k.le);
  long = length-set xs kept v ∙ k.long;
  front = take_more_set xs kept v (omega (arith, k.le, k.long, h)) ∙ ap (λ l. l ++ v ∷ []) k.front ∙ sym (chosen_more mask old i true v d same h e (stands mask old kept i xs v d k is));
  back = drop-set-lt (i + 1) xs kept v (omega (arith, k.le)) ∙ back_more old i xs k.back;
}

pub IsKept-swap : {X : Type 0} (mask : List Bool) (old : List X) (kept i : ℕ) (xs ys : List X) (d : X) → length mask ≡ length old → i < length old → get_or mask i false ≡ true
    → ys ≡ set (set xs kept (get_or xs i d)) i (get_or xs kept d) → IsKept mask old kept i xs → IsKept mask old (kept + 1) (i + 1) ys
IsKept-swap mask old kept i xs ys d same h e made k =
    let v = get_or xs i d in
    let w = get_or xs kept d in
    let zs = set xs kept v in
    let yes = IsKept-yes mask old kept i xs v d same h e refl k in
    record {
      le = yes.le;
      long = ap length made ∙ length-set zs i w ∙ yes.long;
      front = ap (take (kept + 1)) made ∙ elim (cases_lt kept i) [
        | inl l ↦ take-set-le (kept + 1) zs i w (omega (arith, l)) ∙ yes.front
        | inr l ↦
            let q : i ≡ kept = omega (arith, l, k.le) in
            (λ t. take (kept + 1) (set zs (q t) w)) ∙ ap (take (kept + 1)) (set-set xs kept v w ∙ ap (set xs kept) (ap (λ n. get_or xs n d) (sym q))) ∙ yes.front
      ];
      back = ap (drop (i + 1)) made ∙ drop-set-lt (i + 1) zs i w (omega arith) ∙ yes.back;
    }

pub IsKept-no : {X : Type 0} (mask : List Bool) (old : List X) (kept i : ℕ) (xs : List X) (d : X) → length mask ≡ length old → i < length old → get_or mask i false ≡ false
    → IsKept mask old kept i xs → IsKept mask old kept (i + 1) xs
IsKept-no mask old kept i xs d same h e k = record {
  le = omega (arith, k.le);
  long = k.long;
  front = k.front ∙ sym (append-nil _) ∙ sym (chosen_more mask old i false (get_or old i d) d same h e refl);
  back = back_more old i xs k.back;
}

pub kept_all : {X : Type 0} (mask : List Bool) (old : List X) (kept i : ℕ) (xs : List X) → length mask ≡ length old → length old ≤ i → IsKept mask old kept i xs → take kept xs ≡ chosen mask old
kept_all mask old kept i xs same h k = k.front ∙ (λ t. chosen (take_all i mask (omega (arith, same, h)) t) (take_all i old h t))

-- a column of the cells that are chosen
pub kept_cells : (numbers : List ℤ) (valid : List Bool) (vs : List (Option ℤ)) (mask : List Bool) (numbers' : List ℤ) (valid' : List Bool) → IsColumn numbers valid → values_of numbers valid ≡ vs
    → length mask ≡ length vs → numbers' ≡ chosen mask numbers → valid' ≡ chosen mask valid → IsMade numbers' valid' (chosen mask vs)
kept_cells numbers valid vs mask numbers' valid' c e same g f =
    let n : length mask ≡ length valid = omega (arith, same, length-column numbers valid vs c e) in
    let m : length mask ≡ length numbers = omega (arith, n, same_length numbers valid c) in
    let made = picked_cells numbers valid vs (true_places mask) numbers' valid' c e (λ k d h. omega (arith, true_within mask k d h, same))
    (g ∙ sym (at_true_places (pos 0) mask numbers m)) (f ∙ sym (at_true_places false mask valid n)) in
    record { column = made.column; seen = made.seen ∙ at_true_places None mask vs same }

chosen_columns : (mask : List Bool) (columns : List (List (Option ℤ))) → All (λ c. length c ≡ length mask) columns → map (chosen mask) columns ≡ map (at_places None (true_places mask)) columns
chosen_columns mask [] a = refl
chosen_columns mask (c ∷ cs) a =
    λ t. sym (at_true_places None mask c (sym (All-head (λ c. length c ≡ length mask) c cs a))) t ∷ chosen_columns mask cs (All-tail (λ c. length c ≡ length mask) c cs a) t

-- how many are chosen is the same of two lists that are as long
pub length-chosen : {X : Type 0} (d : X) (mask : List Bool) (xs : List X) → length mask ≡ length xs → length (chosen mask xs) ≡ length (true_places mask)
length-chosen d mask xs e = ap length (sym (at_true_places d mask xs e)) ∙ length-at_places d (true_places mask) xs

-- a batch of the rows that are chosen
pub kept_made : (columns : List (List (Option ℤ))) (leaving : List Bool) (rows : List (Bool × Row)) (mask : List Bool) (columns' : List (List (Option ℤ))) (leaving' : List Bool)
    → IsLaidOut columns leaving → signed_rows columns leaving ≡ rows → length mask ≡ length rows → columns' ≡ map (chosen mask) columns → leaving' ≡ chosen mask leaving → 1 ≤ length leaving'
    → IsRemade columns' leaving' (chosen mask rows)
kept_made columns leaving rows mask columns' leaving' laid seen same made signs some =
    let n : length mask ≡ length leaving = omega (arith, same, length-batch columns leaving rows seen) in
    let m : length leaving' ≡ length (true_places mask) = ap length signs ∙ length-chosen false mask leaving n in
    let remade = picks_made columns leaving rows columns' leaving' (true_places mask) laid seen (omega (arith, some, m)) (omega (arith, few_true mask, n, laid.few)) (λ k d h. omega (arith, true_within mask k d h, same))
    (made ∙ chosen_columns mask columns (λ k d h. laid.same k d h ∙ sym n)) (signs ∙ sym (at_true_places false mask leaving n)) in
    record { laid = remade.laid; seen = remade.seen ∙ at_true_places (true, []) mask rows same }

empty_of : {X : Type 0} (xs : List X) → length xs ≡ 0 → xs ≡ []
empty_of [] h = refl
empty_of (x ∷ xs) h = absurd (omega arith)

-- where no row is chosen
pub none_kept : (columns : List (List (Option ℤ))) (leaving : List Bool) (rows : List (Bool × Row)) (mask : List Bool) (leaving' : List Bool)
    → signed_rows columns leaving ≡ rows → length mask ≡ length rows → leaving' ≡ chosen mask leaving → length leaving' ≡ 0 → chosen mask rows ≡ []
none_kept columns leaving rows mask leaving' seen same signs none =
    let n : length mask ≡ length leaving = omega (arith, same, length-batch columns leaving rows seen) in
    empty_of (chosen mask rows) (length-chosen (true, []) mask rows same ∙ sym (length-chosen false mask leaving n) ∙ ap length (sym signs) ∙ none)

-- of the first `k` columns the values that the mask chooses, and the later columns as they were
pub record AreKept (mask : List Bool) (old : List (List (Option ℤ))) (k : ℕ) (columns : List (List (Option ℤ))) : Type 0 where
  pub long : length columns ≡ length old
  pub front : take k columns ≡ map (chosen mask) (take k old)
  pub back : drop k columns ≡ drop k old

pub AreKept-start : (mask : List Bool) (old : List (List (Option ℤ))) → AreKept mask old 0 old
AreKept-start mask old = record { long = refl; front = refl; back = refl }

column_there : (mask : List Bool) (old : List (List (Option ℤ))) (k : ℕ) (columns : List (List (Option ℤ))) (column : List (Option ℤ)) → AreKept mask old k columns → column ≡ get_or columns k column → get_or old k column ≡ column
column_there mask old k columns column a is =
    ap (λ n. get_or old n column) (let e : k ≡ k + 0 = omega arith in e) ∙ sym (get_or-drop k old 0 column) ∙ ap (λ l. get_or l 0 column) (sym a.back) ∙ get_or-drop k columns 0 column
    ∙ ap (λ n. get_or columns n column) (let e : k + 0 ≡ k = omega arith in e) ∙ sym is

-- a column that is not yet changed is as long as the mask
pub as_long : (mask : List Bool) (old : List (List (Option ℤ))) (k : ℕ) (columns : List (List (Option ℤ))) (column : List (Option ℤ)) → AreKept mask old k columns → k < length old → column ≡ get_or columns k column
    → All (λ c. length c ≡ length mask) old → length mask ≡ length column
as_long mask old k columns column a h is same = sym (ap length (sym (column_there mask old k columns column a is)) ∙ same k column h)

pub AreKept-more : (mask : List Bool) (old : List (List (Option ℤ))) (k : ℕ) (columns columns' : List (List (Option ℤ))) (column column' : List (Option ℤ)) → AreKept mask old k columns → k < length old
    → column ≡ get_or columns k column → column' ≡ chosen mask column → columns' ≡ set columns k column' → AreKept mask old (k + 1) columns'
AreKept-more mask old k columns columns' column column' a h is made put = rw put (record {
  long = length-set columns k column' ∙ a.long;
  front =
      take_more_set columns k column' (omega (arith, h, a.long)) ∙ (λ t. a.front t ++ made t ∷ []) ∙ sym (map-append (chosen mask) (take k old) (column ∷ []))
      ∙ ap (map (chosen mask)) (ap (λ c. take k old ++ c ∷ []) (sym (column_there mask old k columns column a is)) ∙ sym (take_more old k column h));
  back = drop-set-lt (k + 1) columns k column' (omega arith) ∙ back_more old k columns a.back;
})

pub all_kept : (mask : List Bool) (old : List (List (Option ℤ))) (k : ℕ) (columns : List (List (Option ℤ))) → AreKept mask old k columns → length old ≤ k → columns ≡ map (chosen mask) old
all_kept mask old k columns a h = sym (take_all k columns (omega (arith, a.long, h))) ∙ a.front ∙ ap (map (chosen mask)) (take_all k old h)

-- rows with all their columns in order
pub all_columns : (w : ℕ) (rows : List (Bool × Row)) (places : List ℕ) → IsTable w rows → places ≡ range_with_len 0 w → map (λ r. (r.0, at_places None places r.1)) rows ≡ rows
all_columns w rows places table e = rw e (same rows table)
  where
    same : (rs : List (Bool × Row)) → IsTable w rs → map (λ r. (r.0, at_places None (range_with_len 0 w) r.1)) rs ≡ rs
    same [] t = refl
    same (r ∷ rs) t = λ i. (r.0, values_again w r.1 (All-head (λ (r : Bool × Row). length r.1 ≡ w) r rs t) i) ∷ same rs (All-tail (λ (r : Bool × Row). length r.1 ≡ w) r rs t) i

pub some_left : (n : ℕ) (b : Bool) → b ≡ (n == 0) → b ≡ false → 1 ≤ n
some_left zero b e f = cc
some_left (suc n) b e f = omega arith

-- of the first `i` bits of a word those that another word chooses stand first in a word, `count` of them, and no bit behind them
pub record AreKeptBits (choice word i kept count : ℕ) : Type 0 where
  pub le : count ≤ i
  pub bits_are : bits count (kept ∷ []) ≡ chosen (bits i (choice ∷ [])) (bits i (word ∷ []))
  pub clear : (k : ℕ) → count ≤ k → place (kept ∷ []) k ≡ 0

chosen_bits : (choice word i : ℕ) (b : Bool) → (place (choice ∷ []) i == 1) ≡ b
    → chosen (bits (i + 1) (choice ∷ [])) (bits (i + 1) (word ∷ [])) ≡ chosen (bits i (choice ∷ [])) (bits i (word ∷ [])) ++ cond b ((place (word ∷ []) i == 1) ∷ []) []
chosen_bits choice word i b e =
    (λ t. chosen (bits_more (choice ∷ []) i t) (bits_more (word ∷ []) i t))
    ∙ (λ t. chosen (bits i (choice ∷ []) ++ e t ∷ []) (bits i (word ∷ []) ++ (place (word ∷ []) i == 1) ∷ []))
    ∙ chosen-push (bits i (choice ∷ [])) (bits i (word ∷ [])) b (place (word ∷ []) i == 1) (length-bits i (choice ∷ []) ∙ sym (length-bits i (word ∷ [])))

pub AreKeptBits-yes : (choice word i kept kept' count truth : ℕ) → i < 64 → AreKeptBits choice word i kept count → bit_and (choice / 2 ^ i) 1 ≡ 1 → bit_and (word / 2 ^ i) 1 ≡ truth
    → bits (count + 1) (kept' ∷ []) ≡ bits count (kept ∷ []) ++ (truth == 1) ∷ [] → ((k : ℕ) → count + 1 ≤ k → place (kept' ∷ []) k ≡ 0) → AreKeptBits choice word (i + 1) kept' (count + 1)
AreKeptBits-yes choice word i kept kept' count truth h a e g made clear = record {
  le = omega (arith, a.le);
  bits_are =
      made ∙ (λ t. a.bits_are t ++ ((sym g ∙ word_read word i h) t == 1) ∷ [])
      ∙ sym (chosen_bits choice word i true (ap (λ n. n == 1) (sym (word_read choice i h) ∙ e)));
  clear = clear;
}

pub AreKeptBits-no : (choice word i kept count : ℕ) → i < 64 → AreKeptBits choice word i kept count → (bit_and (choice / 2 ^ i) 1 ≡ 1 → ⊥) → AreKeptBits choice word (i + 1) kept count
AreKeptBits-no choice word i kept count h a e = record {
  le = omega (arith, a.le);
  bits_are = a.bits_are ∙ sym (append-nil _) ∙ sym (chosen_bits choice word i false (not_one (place (choice ∷ []) i) (λ f. e (word_read choice i h ∙ f))));
  clear = a.clear;
}
  where
    not_one : (n : ℕ) → (n ≡ 1 → ⊥) → (n == 1) ≡ false
    not_one n h = grind (arith, nat_tests)

-- as many words as the first bits need have these bits
bits_cut : (words : List ℕ) (count : ℕ) → bits count (take ((count + 63) / 64) words) ≡ bits count words
bits_cut words count = bits_first count count words (take ((count + 63) / 64) words) (bits count words) refl (omega arith) (λ i h. refl) ∙ take_all count (bits count words) (omega (arith, length-bits count words))

-- a mask of one word, of which the truths stay that another mask of one word chooses
pub kept_in_word : (n m word choice kept count : ℕ) (words choices set_words words' : List ℕ) (bs mask : List Bool) → words ≡ word ∷ [] → choices ≡ choice ∷ [] → bits n words ≡ bs → bits m choices ≡ mask → length mask ≡ length bs
    → bits count (kept ∷ []) ≡ chosen (bits n (choice ∷ [])) (bits n (word ∷ [])) → set_words ≡ set words 0 kept → words' ≡ take ((count + 63) / 64) set_words → bits count words' ≡ chosen mask bs
kept_in_word n m word choice kept count words choices set_words words' bs mask one other seen chooses same kept_are put cut =
    let k : n ≡ m = omega (arith, length-seen n words bs seen, length-seen m choices mask chooses, same) in
    ap (bits count) cut ∙ bits_cut set_words count ∙ ap (bits count) (put ∙ ap (λ l. set l 0 kept) one) ∙ kept_are
    ∙ (λ t. chosen ((ap (λ l. bits n l) (sym other) ∙ ap (λ j. bits j choices) k ∙ chooses) t) ((ap (bits n) (sym one) ∙ seen) t))
