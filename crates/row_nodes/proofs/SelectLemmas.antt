-- The mask of the rows at which a condition is true.
use Rattle.std.proofs.Common.{ℕ, zero, suc, ◌≤◌, ◌≡◌, ◌==◌, List, [], ◌∷◌, map, filter, length, Bool, Option, Some, None, cond, refl, sym, ap, ◌∙◌, arith}
use Rattle.std.specs.List.{range_with_len}
use Rattle.std.specs.Int.{bit_at}
use Rattle.column.specs.Bits.{IsClear, bits, chosen, place, word_count}
use Rattle.values.specs.Condition.{is_known_true}
use Rattle.values.specs.Row.{Row}
use Rattle.lane_kernels.specs.Truth.{IsTruth, truth_at, truths}
use Rattle.lane_kernels.specs.declared.condition.Step.{Step}
use Rattle.op_queue.specs.Entries.{RowAt}
use Rattle.op_queue.specs.declared.item.Item.{Item}
use Rattle.op_queue.specs.declared.item.Item.TheVariants.{Rows}
use Rattle.row_nodes.specs.Select.{is_kept, selected}

-- what a mask of a test chooses
pub chosen_by : {X : Type 0} (p : X → Bool) (xs : List X) → chosen (map p xs) xs ≡ filter p xs
chosen_by p [] = refl
chosen_by p (x ∷ xs) = ap (λ l. cond (p x) (x ∷ l) l) (chosen_by p xs)

map_by : {A B : Type 0} (f g : A → B) → ((x : A) → f x ≡ g x) → (xs : List A) → map f xs ≡ map g xs
map_by f g e [] = refl
map_by f g e (x ∷ xs) = ap (λ y. y ∷ map f xs) (e x) ∙ ap (λ l. g x ∷ l) (map_by f g e xs)

map_twice : {A B C : Type 0} (f : B → C) (g : A → B) (xs : List A) → map f (map g xs) ≡ map (λ x. f (g x)) xs
map_twice f g [] = refl
map_twice f g (x ∷ xs) = ap (λ l. f (g x) ∷ l) (map_twice f g xs)

bit_most : (n k : ℕ) → bit_at n k ≤ 1
bit_most n k = omega arith

-- a bit is set where the truth is known and true
true_bit_is : (t k : ℕ) → t ≤ k → k ≤ 1 → is_known_true (cond (k == 1) (Some (t == 1)) None) ≡ (t == 1)
true_bit_is zero zero h l = refl
true_bit_is (suc t) zero h l = absurd (omega (arith, h))
true_bit_is t (suc zero) h l = refl
true_bit_is t (suc (suc k)) h l = absurd (omega (arith, l))

pub true_bits : (n : ℕ) (truth known : List ℕ) → IsTruth n truth known → map is_known_true (truths n truth known) ≡ bits n truth
true_bits n truth known h =
    map_twice is_known_true (truth_at truth known) (range_with_len 0 n)
    ∙ map_by (λ i. is_known_true (truth_at truth known i)) (λ i. place truth i == 1) (λ i. true_bit_is (place truth i) (place known i) (h.true_is_known i) (bit_most _ _)) (range_with_len 0 n)

pub clear_truth : (n : ℕ) (truth known : List ℕ) → length truth ≡ word_count n → IsTruth n truth known → IsClear n truth
clear_truth n truth known l h = record { words_fit = l; clear = λ i le. omega (arith, h.true_is_known i, h.past i le) }

-- the truths that a condition has at the rows, as a mask
pub kept_mask : {X : Type 0} (t : X → Option Bool) (rows : List X) (truth known : List ℕ) → truths (length rows) truth known ≡ map t rows → IsTruth (length rows) truth known
    → bits (length rows) truth ≡ map (λ r. is_known_true (t r)) rows
kept_mask t rows truth known e h = sym (true_bits (length rows) truth known h) ∙ ap (map is_known_true) e ∙ map_twice is_known_true t rows

-- ---- what is put out
pub kept_rows : (steps : List Step) (t : ℕ) (b rows : List (Bool × Row)) (mask : List Bool) (item : Item) → item ≡ Rows t b → mask ≡ map (is_kept steps) b → rows ≡ chosen mask b
    → map (RowAt t) rows ≡ selected steps item
kept_rows steps t b rows mask item i m r =
    ap (map (RowAt t)) (r ∙ ap (λ bs. chosen bs b) m ∙ chosen_by (is_kept steps) b) ∙ ap (selected steps) (sym i)

pub kept_none : (steps : List Step) (t : ℕ) (b : List (Bool × Row)) (mask : List Bool) (item : Item) → item ≡ Rows t b → mask ≡ map (is_kept steps) b → chosen mask b ≡ []
    → [] ≡ selected steps item
kept_none steps t b mask item i m r = kept_rows steps t b [] mask item i m (sym r)
