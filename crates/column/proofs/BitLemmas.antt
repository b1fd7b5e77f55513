-- Bits in words: one read, one written, one more, a part.
use Rattle.std.proofs.Common.{ℕ, List, [], ◌∷◌, ◌++◌, ◌≡◌, ◌⊎◌, ◌<◌, ◌≤◌, ◌*◌, ◌+◌, ◌-◌, ◌/◌, ◌%◌, ◌^◌, ◌==◌, length, sym, ◌∙◌, ap, arith, Bool, true, false, not, bit_and, bit_or, bit_xor, zero, suc, take, replicate, refl, min, drop, slice_range, inl, inr, w64}
use mathlib.Core.Bool.{beq}
use Rattle.std.specs.Int.{bit_at}
use Rattle.std.proofs.Math.ListN.{get_or, set, get_or-append}
use Rattle.std.proofs.Math.Seq.{get_or-append_seam}
use Rattle.std.proofs.lemmas.List.{get_or-set_same, get_or-set_other, get_or-take, get_or-drop, get_or_past, ext_get_or, length-append, length-set, length-take, length-take-le, length-drop, length-replicate, get_or-replicate, get_or-append_right}
use Rattle.std.proofs.lemmas.List.FromFn.{length-map-range_with_len, get_or-map-range_with_len, map-range_with_len_more}
use Rattle.std.proofs.lemmas.Nat.{shl_whole}
use Rattle.std.proofs.lemmas.Nat.Bits.{shr_and_one, bit_at_set_same, bit_at_set_other, bit_at_and, bit_at_xor, bit_at_ones, bit_at_ones_above, bit_at-lt, bit_at-pow_same, bit_at-pow_other, bit_at-zero}
use Rattle.std.proofs.lemmas.Bool.{cases_lt, cases_order}
use Rattle.std.proofs.lemmas.Grind.{get_or_default_zero}
use Rattle.column.specs.Bits.{word_count, place, bits, IsClear}

pub cases_equal : (a b : ℕ) → (a ≡ b) ⊎ (a ≡ b → ⊥)
cases_equal a b = elim (cases_order a b) [
  | inl e ↦ inl e
  | inr h ↦ inr (λ e. elim h [ inl l ↦ omega (arith, e, l) | inr l ↦ omega (arith, e, l) ])
]

pub length-bits : (n : ℕ) (words : List ℕ) → length (bits n words) ≡ n
length-bits n words = length-map-range_with_len (λ i. place words i == 1) 0 n

pub get_or-bits : (n : ℕ) (words : List ℕ) (i : ℕ) (d : Bool) → i < n → get_or (bits n words) i d ≡ (place words i == 1)
get_or-bits n words i d h = get_or-map-range_with_len (λ j. place words j == 1) 0 n i i d h (omega arith)

pub length-seen : (n : ℕ) (words : List ℕ) (bs : List Bool) → bits n words ≡ bs → n ≡ length bs
length-seen n words bs e = sym (length-bits n words) ∙ ap length e

-- ---- a bit is read
pub bit_read : (words : List ℕ) (i w : ℕ) → i / 64 < length words → w ≡ get_or words (i / 64) w → bit_and (w / 2 ^ (i % 64)) 1 ≡ place words i
bit_read words i w h e = shr_and_one w (i % 64) ∙ ap (λ n. bit_at n (i % 64)) (e ∙ get_or_default_zero words (i / 64) w h)

pub truth_read : (n : ℕ) (words : List ℕ) (bs : List Bool) (i w : ℕ) → IsClear n words → bits n words ≡ bs → i < length bs → w ≡ get_or words (i / 64) w
    → (bit_and (w / 2 ^ (i % 64)) 1 == 1) ≡ get_or bs i false
truth_read n words bs i w c e h r =
    let l : n ≡ length bs = length-seen n words bs e in
    ap (λ m. m == 1) (bit_read words i w (omega (arith, h, l, c.words_fit)) r) ∙ sym (get_or-bits n words i false (omega (arith, h, l))) ∙ ap (λ x. get_or x i false) e

-- ---- a bit is set
module _ (words : List ℕ) (at w : ℕ) (inside : at / 64 < length words) (read : w ≡ get_or words (at / 64) w) where
  pub set_there : place (set words (at / 64) (bit_or w (1 * 2 ^ (at % 64) % 2 ^ 64))) at ≡ 1
  set_there = ap (λ n. bit_at n (at % 64)) (get_or-set_same words (at / 64) _ 0 inside) ∙ bit_at_set_same w64 w (at % 64) (omega arith)

  pub same_elsewhere : (i : ℕ) → (i ≡ at → ⊥) → place (set words (at / 64) (bit_or w (1 * 2 ^ (at % 64) % 2 ^ 64))) i ≡ place words i
  same_elsewhere i h = elim (cases_equal (i / 64) (at / 64)) [
    | inl e ↦
        let differs : i % 64 ≡ at % 64 → ⊥ = λ f. h (omega (arith, e, f)) in
        ap (λ j. bit_at (get_or (set words (at / 64) (bit_or w (1 * 2 ^ (at % 64) % 2 ^ 64))) j 0) (i % 64)) e
        ∙ ap (λ n. bit_at n (i % 64)) (get_or-set_same words (at / 64) _ 0 inside)
        ∙ bit_at_set_other w64 w (at % 64) (omega arith) (i % 64) differs
        ∙ ap (λ n. bit_at n (i % 64)) (read ∙ get_or_default_zero words (at / 64) w inside)
        ∙ ap (λ j. bit_at (get_or words j 0) (i % 64)) (sym e)
    | inr e ↦ ap (λ n. bit_at n (i % 64)) (get_or-set_other words (at / 64) (i / 64) _ 0 e)
  ]

-- ---- one more bit
pub clear_grown : (words words' : List ℕ) (at : ℕ) → IsClear at words → length words' ≡ word_count (at + 1)
    → ((i : ℕ) → (i ≡ at → ⊥) → place words' i ≡ place words i) → IsClear (at + 1) words'
clear_grown words words' at c long same = record {
  words_fit = long;
  clear = λ i h. same i (λ e. omega (arith, h, e)) ∙ c.clear i (omega (arith, h));
}

pub bits_grown : (words words' : List ℕ) (at : ℕ) (truth : Bool) → ((i : ℕ) → (i ≡ at → ⊥) → place words' i ≡ place words i)
    → (place words' at == 1) ≡ truth → bits (at + 1) words' ≡ bits at words ++ truth ∷ []
bits_grown words words' at truth same here =
    let long : length (bits at words ++ truth ∷ []) ≡ at + 1 = omega (arith, length-append (bits at words) (truth ∷ []), length-bits at words) in
    let each : (i : ℕ) → i < at + 1 → get_or (bits (at + 1) words') i false ≡ get_or (bits at words ++ truth ∷ []) i false =
    λ i h. get_or-bits (at + 1) words' i false h ∙ elim (cases_equal i at) [
      | inl e ↦ ap (λ j. place words' j == 1) e ∙ here ∙ sym (get_or-append_seam (bits at words) truth [] false) ∙ ap (λ j. get_or (bits at words ++ truth ∷ []) j false) (length-bits at words ∙ sym e)
      | inr d ↦
          let b : i < at = omega (arith, h, d) in
          ap (λ n. n == 1) (same i d) ∙ sym (get_or-bits at words i false b) ∙ sym (get_or-append (bits at words) (truth ∷ []) false i (omega (arith, b, length-bits at words)))
    ] in
    ext_get_or false _ _ (length-bits (at + 1) words' ∙ sym long) (λ i h. each i (omega (arith, h, length-bits (at + 1) words')))

-- ---- the bits from a place on become 0
low_ones : (r : ℕ) → r < 64 → 1 * 2 ^ r % 2 ^ 64 - 1 ≡ 2 ^ r - 1
low_ones r h = ap (λ n. n - 1) (shl_whole 1 1 r 64 (omega arith) (omega arith) ∙ omega arith)

low_kept : (w r i : ℕ) → r < 64 → i < r → bit_at (bit_and w (1 * 2 ^ r % 2 ^ 64 - 1)) i ≡ bit_at w i
low_kept w r i h l = ap (λ m. bit_at (bit_and w m) i) (low_ones r h) ∙ bit_at_and w (2 ^ r - 1) i ∙ omega (arith, bit_at_ones r i l, bit_at-lt w i)

high_cleared : (w r i : ℕ) → r < 64 → r ≤ i → bit_at (bit_and w (1 * 2 ^ r % 2 ^ 64 - 1)) i ≡ 0
high_cleared w r i h l = ap (λ m. bit_at (bit_and w m) i) (low_ones r h) ∙ bit_at_and w (2 ^ r - 1) i ∙ omega (arith, bit_at_ones_above r i l)

-- past the words there is no bit
no_place_past : (words : List ℕ) (i : ℕ) → length words ≤ i / 64 → place words i ≡ 0
no_place_past words i h = ap (λ w. bit_at w (i % 64)) (get_or_past words (i / 64) 0 h) ∙ bit_at-zero (i % 64)

module _ (words : List ℕ) (len w : ℕ) (long : length words ≡ word_count len) (within : len % 64 ≡ 0 → ⊥) (read : w ≡ get_or words (len / 64) w) where
  abbrev cut : List ℕ
  cut = set words (len / 64) (bit_and w (1 * 2 ^ (len % 64) % 2 ^ 64 - 1))

  inside : len / 64 < length words
  inside = omega arith

  last_word : (i : ℕ) → i / 64 ≡ len / 64 → place cut i ≡ bit_at (bit_and w (1 * 2 ^ (len % 64) % 2 ^ 64 - 1)) (i % 64)
  last_word i e = ap (λ j. bit_at (get_or cut j 0) (i % 64)) e ∙ ap (λ n. bit_at n (i % 64)) (get_or-set_same words (len / 64) _ 0 inside)

  other_word : (i : ℕ) → (i / 64 ≡ len / 64 → ⊥) → place cut i ≡ place words i
  other_word i e = ap (λ n. bit_at n (i % 64)) (get_or-set_other words (len / 64) (i / 64) _ 0 e)

  pub kept_below : (i : ℕ) → i < len → place cut i ≡ place words i
  kept_below i h = elim (cases_equal (i / 64) (len / 64)) [
    | inl e ↦
        last_word i e ∙ low_kept w (len % 64) (i % 64) (omega arith) (omega (arith, e, h))
        ∙ ap (λ n. bit_at n (i % 64)) (read ∙ get_or_default_zero words (len / 64) w inside)
        ∙ ap (λ j. bit_at (get_or words j 0) (i % 64)) (sym e)
    | inr e ↦ other_word i e
  ]

  pub cleared_past : IsClear len cut
  cleared_past = record {
    words_fit = length-set words (len / 64) _ ∙ long;
    clear = λ i h. elim (cases_equal (i / 64) (len / 64)) [
      | inl e ↦ last_word i e ∙ high_cleared w (len % 64) (i % 64) (omega arith) (omega (arith, e, h))
      | inr e ↦ other_word i e ∙ no_place_past words i (omega (arith, e, h))
    ];
  }

-- ---- a part that begins with a word
place_of_part : (words : List ℕ) (a b i : ℕ) → i / 64 < b - a → place (slice_range words a b) i ≡ place words (64 * a + i)
place_of_part words a b i h =
    ap (λ n. bit_at n (i % 64)) (get_or-take (b - a) (drop a words) (i / 64) 0 h ∙ get_or-drop a words (i / 64) 0)
    ∙ ap (λ j. bit_at (get_or words j 0) (i % 64)) (omega arith) ∙ ap (bit_at (get_or words ((64 * a + i) / 64) 0)) (omega arith)

pub part_seen : (n : ℕ) (words : List ℕ) (bs : List Bool) (at to end : ℕ) (words' : List ℕ) → bits n words ≡ bs → at % 64 ≡ 0 → end ≡ min to n → at < end
    → ((i : ℕ) → i < end - at → place words' i ≡ place (slice_range words (at / 64) ((end + 63) / 64)) i) → bits (end - at) words' ≡ slice_range bs at to
part_seen n words bs at to end words' e whole l h same =
    let long : n ≡ length bs = length-seen n words bs e in
    let size : length (slice_range bs at to) ≡ end - at = length-take (to - at) (drop at bs) ∙ omega (arith, length-drop at bs) in
    ext_get_or false _ _ (length-bits (end - at) words' ∙ sym size) (λ i k.
    let m : i < end - at = omega (arith, k, length-bits (end - at) words') in
    let p : place words' i ≡ place words (at + i) = same i m ∙ place_of_part words (at / 64) ((end + 63) / 64) i (omega arith) ∙ ap (place words) (omega arith) in
    get_or-bits (end - at) words' i false m ∙ ap (λ x. x == 1) p ∙ sym (get_or-bits n words (at + i) false (omega arith)) ∙ ap (λ x. get_or x (at + i) false) e
    ∙ sym (get_or-drop at bs i false) ∙ sym (get_or-take (to - at) (drop at bs) i false (omega arith)))

-- what stands at a place of a slice
pub read_slice : (words : List ℕ) (k : ℕ) → k < length words → get_or words k 0 ≡ get_or words k (get_or words k 0)
read_slice words k h = sym (get_or_default_zero words k (get_or words k 0) h)

-- ---- a bit is turned
one_shifted : (r : ℕ) → r < 64 → 1 * 2 ^ r % 2 ^ 64 ≡ 2 ^ r
one_shifted r h = shl_whole 1 1 r 64 (omega arith) (omega arith) ∙ omega arith

turned : (w r : ℕ) → r < 64 → bit_at (bit_xor w (1 * 2 ^ r % 2 ^ 64)) r + bit_at w r ≡ 1
turned w r h =
    let e : bit_at (bit_xor w (1 * 2 ^ r % 2 ^ 64)) r ≡ (bit_at w r + 1) % 2 =
    ap (λ m. bit_at (bit_xor w m) r) (one_shifted r h) ∙ bit_at_xor w (2 ^ r) r ∙ ap (λ b. (bit_at w r + b) % 2) (bit_at-pow_same r) in
    omega (arith, e, bit_at-lt w r)

not_turned : (w r i : ℕ) → r < 64 → (i ≡ r → ⊥) → bit_at (bit_xor w (1 * 2 ^ r % 2 ^ 64)) i ≡ bit_at w i
not_turned w r i h d =
    ap (λ m. bit_at (bit_xor w m) i) (one_shifted r h) ∙ bit_at_xor w (2 ^ r) i ∙ ap (λ b. (bit_at w i + b) % 2) (bit_at-pow_other r i d) ∙ omega (arith, bit_at-lt w i)

module _ (words : List ℕ) (at : ℕ) (inside : at / 64 < length words) where
  abbrev flipped : List ℕ
  flipped = set words (at / 64) (bit_xor (get_or words (at / 64) 0) (1 * 2 ^ (at % 64) % 2 ^ 64))

  pub flipped_there : place flipped at + place words at ≡ 1
  flipped_there = ap (λ n. bit_at n (at % 64) + place words at) (get_or-set_same words (at / 64) _ 0 inside) ∙ turned (get_or words (at / 64) 0) (at % 64) (omega arith)

  pub same_but_there : (i : ℕ) → (i ≡ at → ⊥) → place flipped i ≡ place words i
  same_but_there i h = elim (cases_equal (i / 64) (at / 64)) [
    | inl e ↦
        ap (λ j. bit_at (get_or flipped j 0) (i % 64)) e
        ∙ ap (λ n. bit_at n (i % 64)) (get_or-set_same words (at / 64) _ 0 inside)
        ∙ not_turned (get_or words (at / 64) 0) (at % 64) (i % 64) (omega arith) (λ f. h (omega (arith, e, f)))
        ∙ ap (λ j. bit_at (get_or words j 0) (i % 64)) (sym e)
    | inr e ↦ ap (λ n. bit_at n (i % 64)) (get_or-set_other words (at / 64) (i / 64) _ 0 e)
  ]

-- the truths after one of them was turned
pub bits_flipped : (n : ℕ) (words words' : List ℕ) (bs : List Bool) (i : ℕ) (truth : Bool) → bits n words ≡ bs → i < n → place words' i + place words i ≡ 1
    → ((k : ℕ) → (k ≡ i → ⊥) → place words' k ≡ place words k) → (get_or bs i false ≡ truth → ⊥) → bits n words' ≡ set bs i truth
bits_flipped n words words' bs i truth e h turn same differs =
    let long : n ≡ length bs = length-seen n words bs e in
    ext_get_or false _ _ (length-bits n words' ∙ long ∙ sym (length-set bs i truth)) (λ k l.
    let b : k < n = omega (arith, l, length-bits n words') in
    get_or-bits n words' k false b ∙ elim (cases_equal k i) [
      | inl q ↦
          ap (λ j. place words' j == 1) q ∙ other_truth (place words' i) (place words i) truth turn (λ f. differs (ap (λ l. get_or l i false) (sym e) ∙ get_or-bits n words i false h ∙ f))
          ∙ sym (get_or-set_same bs i truth false (omega (arith, h, long))) ∙ ap (λ j. get_or (set bs i truth) j false) (sym q)
      | inr q ↦ ap (λ m. m == 1) (same k q) ∙ sym (get_or-bits n words k false b) ∙ ap (λ l. get_or l k false) e ∙ sym (get_or-set_other bs i k truth false q)
    ])
  where
    other_truth : (a b : ℕ) (truth : Bool) → a + b ≡ 1 → ((b == 1) ≡ truth → ⊥) → (a == 1) ≡ truth
    other_truth zero (suc zero) true s d = absurd (d refl)
    other_truth zero (suc zero) false s d = refl
    other_truth zero zero truth s d = absurd (omega arith)
    other_truth zero (suc (suc b)) truth s d = absurd (omega arith)
    other_truth (suc zero) zero true s d = refl
    other_truth (suc zero) zero false s d = absurd (d refl)
    other_truth (suc zero) (suc b) truth s d = absurd (omega arith)
    other_truth (suc (suc a)) b truth s d = absurd (omega arith)

-- ---- the bits of one word
pub place_one : (w i : ℕ) → i < 64 → place (w ∷ []) i ≡ bit_at w i
place_one w i h = ap (λ k. bit_at (get_or (w ∷ []) k 0) (i % 64)) (let e : i / 64 ≡ 0 = omega arith in e) ∙ ap (bit_at w) (omega arith)

pub word_set : (w at : ℕ) → at < 64 → place (bit_or w (1 * 2 ^ at % 2 ^ 64) ∷ []) at ≡ 1
word_set w at h = place_one (bit_or w (1 * 2 ^ at % 2 ^ 64)) at h ∙ bit_at_set_same w64 w at h

pub word_same : (w at : ℕ) → at < 64 → (i : ℕ) → (i ≡ at → ⊥) → place (bit_or w (1 * 2 ^ at % 2 ^ 64) ∷ []) i ≡ place (w ∷ []) i
word_same w at h i d = elim (cases_lt i 64) [
  | inl l ↦ place_one (bit_or w (1 * 2 ^ at % 2 ^ 64)) i l ∙ bit_at_set_other w64 w at h i d ∙ sym (place_one w i l)
  | inr l ↦ no_place_past (bit_or w (1 * 2 ^ at % 2 ^ 64) ∷ []) i (omega (arith, l)) ∙ sym (no_place_past (w ∷ []) i (omega (arith, l)))
]

-- all bits of a word up to a place
pub ones_filled : (count : ℕ) → count < 64 → bits count ((1 * 2 ^ count % 2 ^ 64 - 1) ∷ []) ≡ replicate count true
ones_filled count h =
    let w : ℕ = 1 * 2 ^ count % 2 ^ 64 - 1 in
    ext_get_or false _ _ (length-bits count (w ∷ []) ∙ sym (length-replicate count true)) (λ i l.
    let b : i < count = omega (arith, l, length-bits count (w ∷ [])) in
    get_or-bits count (w ∷ []) i false b ∙ ap (λ n. n == 1) (place_one w i (omega (arith, b, h)) ∙ ap (λ m. bit_at m i) (low_ones count h) ∙ bit_at_ones count i b)
    ∙ sym (get_or-replicate count i true false b))

pub ones_clear : (count : ℕ) → 1 ≤ count → count < 64 → IsClear count ((1 * 2 ^ count % 2 ^ 64 - 1) ∷ [])
ones_clear count some h =
    let w : ℕ = 1 * 2 ^ count % 2 ^ 64 - 1 in
    let fit : 1 ≡ word_count count = omega arith in
    record {
      words_fit = fit;
      clear = λ i l. elim (cases_lt i 64) [
        | inl k ↦ place_one w i k ∙ ap (λ m. bit_at m i) (low_ones count h) ∙ bit_at_ones_above count i l
        | inr k ↦ no_place_past (w ∷ []) i (omega (arith, k))
      ];
    }

pub no_bits : (count : ℕ) → bits count (0 ∷ []) ≡ replicate count false
no_bits count =
    ext_get_or false _ _ (length-bits count (0 ∷ []) ∙ sym (length-replicate count false)) (λ i h.
    let b : i < count = omega (arith, h, length-bits count (0 ∷ [])) in
    get_or-bits count (0 ∷ []) i false b ∙ ap (λ n. n == 1) (no_place i) ∙ sym (get_or-replicate count i false false b))
  where
    no_place : (i : ℕ) → place (0 ∷ []) i ≡ 0
    no_place i = elim (cases_lt i 64) [ inl l ↦ place_one 0 i l ∙ bit_at-zero i | inr l ↦ no_place_past (0 ∷ []) i (omega (arith, l)) ]

-- ---- a word more behind whole words
module _ (words : List ℕ) (n count w : ℕ) (clear : IsClear n words) (whole : n % 64 ≡ 0) (more : IsClear count (w ∷ [])) where
  place_before : (i : ℕ) → i < n → place (words ++ w ∷ []) i ≡ place words i
  place_before i h = ap (λ m. bit_at m (i % 64)) (get_or-append words (w ∷ []) 0 (i / 64) (omega (arith, clear.words_fit)))

  place_behind : (i : ℕ) → n ≤ i → place (words ++ w ∷ []) i ≡ place (w ∷ []) (i - n)
  place_behind i h =
      let long : length words ≡ n / 64 = omega (arith, clear.words_fit) in
      let k : i / 64 - length words ≡ (i - n) / 64 = omega (arith, long) in
      let r : i % 64 ≡ (i - n) % 64 = omega arith in
      ap (λ m. bit_at m (i % 64)) (get_or-append_right words (w ∷ []) (length words) (i / 64) 0 refl (omega (arith, long)))
      ∙ (λ t. bit_at (get_or (w ∷ []) (k t) 0) (r t))

  pub clear_pushed : IsClear (n + count) (words ++ w ∷ [])
  clear_pushed = record {
    words_fit = omega (arith, length-append words (w ∷ []), clear.words_fit, more.words_fit);
    clear = λ i h. place_behind i (omega (arith, h)) ∙ more.clear (i - n) (omega (arith, h));
  }

  pub bits_pushed : bits (n + count) (words ++ w ∷ []) ≡ bits n words ++ bits count (w ∷ [])
  bits_pushed =
      let long : length (bits n words ++ bits count (w ∷ [])) ≡ n + count = omega (arith, length-append (bits n words) (bits count (w ∷ [])), length-bits n words, length-bits count (w ∷ [])) in
      ext_get_or false _ _ (length-bits (n + count) (words ++ w ∷ []) ∙ sym long) (λ i h.
      let b : i < n + count = omega (arith, h, length-bits (n + count) (words ++ w ∷ [])) in
      get_or-bits (n + count) (words ++ w ∷ []) i false b ∙ elim (cases_lt i n) [
        | inl l ↦
            ap (λ m. m == 1) (place_before i l) ∙ sym (get_or-bits n words i false l) ∙ sym (get_or-append (bits n words) (bits count (w ∷ [])) false i (omega (arith, l, length-bits n words)))
        | inr l ↦
            ap (λ m. m == 1) (place_behind i l) ∙ sym (get_or-bits count (w ∷ []) (i - n) false (omega (arith, b, l)))
            ∙ sym (get_or-append_right (bits n words) (bits count (w ∷ [])) n i false (length-bits n words) l)
      ])

-- ---- the first bits
place_first : (words : List ℕ) (k i : ℕ) → i / 64 < k → place (take k words) i ≡ place words i
place_first words k i h = ap (λ n. bit_at n (i % 64)) (get_or-take k words (i / 64) 0 h)

pub bits_first : (n count : ℕ) (words words' : List ℕ) (bs : List Bool) → bits n words ≡ bs → count ≤ n → ((i : ℕ) → i < count → place words' i ≡ place (take ((count + 63) / 64) words) i) → bits count words' ≡ take count bs
bits_first n count words words' bs e h same =
    let long : n ≡ length bs = length-seen n words bs e in
    let size : length (take count bs) ≡ count = length-take-le count bs (omega (arith, h, long)) in
    ext_get_or false _ _ (length-bits count words' ∙ sym size) (λ i k.
    let m : i < count = omega (arith, k, length-bits count words') in
    get_or-bits count words' i false m ∙ ap (λ x. x == 1) (same i m ∙ place_first words ((count + 63) / 64) i (omega (arith, m))) ∙ sym (get_or-bits n words i false (omega (arith, m, h)))
    ∙ ap (λ l. get_or l i false) e ∙ sym (get_or-take count bs i false m))

-- where a bit within the first ones was changed
pub still_clear : (words words' : List ℕ) (n at : ℕ) → IsClear n words → length words' ≡ length words → at < n → ((i : ℕ) → (i ≡ at → ⊥) → place words' i ≡ place words i) → IsClear n words'
still_clear words words' n at c long h same = record { words_fit = long ∙ c.words_fit; clear = λ i l. same i (λ e. omega (arith, h, l, e)) ∙ c.clear i l }

pub truth_differs : (a b : Bool) → not (beq a b) ≡ true → a ≡ b → ⊥
truth_differs true true h e = cc
truth_differs true false h e = cc
truth_differs false true h e = cc
truth_differs false false h e = cc

-- ---- a bit of a word is read
pub word_read : (w i : ℕ) → i < 64 → bit_and (w / 2 ^ i) 1 ≡ place (w ∷ []) i
word_read w i h = shr_and_one w i ∙ sym (place_one w i h)

-- ---- one bit more is seen
pub bits_more : (words : List ℕ) (i : ℕ) → bits (i + 1) words ≡ bits i words ++ (place words i == 1) ∷ []
bits_more words i = map-range_with_len_more (λ k. place words k == 1) 0 i i (omega arith)

pub truth_unset : (word at : ℕ) (truth : Bool) → place (word ∷ []) at ≡ 0 → truth ≡ false → (place (word ∷ []) at == 1) ≡ truth
truth_unset word at truth e f = ap (λ n. n == 1) e ∙ sym f
