-- Items that go from the front of a queue through Select and Project.
use Rattle.std.proofs.Common.{◌≡◌, ◌∙◌, ℕ, Bool, List, [], ◌∷◌, map, filter, take, length, cond, true, false, IfOk, refl, ap, sym}
use Rattle.std.specs.Bool.{OnTrue}
use Rattle.std.specs.declared.result.Result.{Result}
use Rattle.std.specs.declared.result.Result.TheVariants.{Ok, Err}
use Rattle.std.proofs.lemmas.List.{length-map}
use Rattle.values.specs.Row.{Row}
use Rattle.column.specs.Bits.{chosen}
use Rattle.lane_kernels.specs.declared.condition.Step.{Step}
use Rattle.op_queue.specs.Entries.{Entry, RowAt}
use Rattle.op_queue.specs.Queues.{HasDropped, HasGained, HasLeft, IsFrontBatch, Waiting, chosen_first}
use Rattle.op_queue.specs.declared.item.Item.TheVariants.{Rows}
use Rattle.op_queue.proofs.GainLemmas.{gained-same}
use Rattle.op_queue.proofs.TakeLemmas.{cut_left}
use Rattle.row_nodes.specs.Fronts.{HasGoneOn}
use Rattle.row_nodes.specs.Select.{is_kept, selected}

-- the batch that stands first has left
pub batch_left : (rows n : ℕ) (w w2 : Waiting) (t : ℕ) (b : List (Bool × Row)) → IsFrontBatch rows w t b → n ≡ length b → HasDropped n w w2 → HasLeft rows w w2 (Rows t b)
batch_left rows n w w2 t b h many d =
    cut_left rows w w2 (Rows t b) n (many ∙ sym (length-map b (RowAt t))) h.part h.value d.entries d.begins d.pieces d.counted

chosen_from : {A B : Type 0} (p : A → Bool) (f : A → B) (xs : List A) → chosen (map p xs) (map f xs) ≡ map f (filter p xs)
chosen_from p f [] = refl
chosen_from p f (x ∷ xs) = go (p x) (chosen_from p f xs)
  where
    go : (b : Bool) → chosen (map p xs) (map f xs) ≡ map f (filter p xs) → cond b (f x ∷ chosen (map p xs) (map f xs)) (chosen (map p xs) (map f xs)) ≡ map f (cond b (x ∷ filter p xs) (filter p xs))
    go true h = ap (λ l. f x ∷ l) h
    go false h = h

-- what a condition's mask chooses of it is what Select puts out
pub selected_first : (steps : List Step) (rows : ℕ) (w : Waiting) (t : ℕ) (b : List (Bool × Row)) (mask : List Bool) → IsFrontBatch rows w t b → mask ≡ map (is_kept steps) b → chosen_first mask w ≡ selected steps (Rows t b)
selected_first steps rows w t b mask h is =
    let f : Bool × Row → Entry Row = RowAt t in
    let many : length mask ≡ length (map f b) = ap length is ∙ length-map b (is_kept steps) ∙ sym (length-map b f) in
    let first : take (length mask) w.entries ≡ map f b = ap (λ n. take n w.entries) many ∙ sym h.part.first in
    ap (chosen mask) first ∙ ap (λ m. chosen m (map f b)) is ∙ chosen_from (is_kept steps) f b

pub select_moved : (steps : List Step) (rows : ℕ) (w w2 q q2 : Waiting) (t : ℕ) (b : List (Bool × Row)) (mask : List Bool) → IsFrontBatch rows w t b → mask ≡ map (is_kept steps) b → HasDropped (length mask) w w2 → HasGained (chosen_first mask w) q q2
    → HasGoneOn rows (selected steps) w q w2 q2
select_moved steps rows w w2 q q2 t b mask h is d g = record {
  item = Rows t b;
  left = batch_left rows (length mask) w w2 t b h (ap length is ∙ length-map b (is_kept steps)) d;
  gained = gained-same (selected_first steps rows w t b mask h is) g;
}

-- the same where it says whether it moved
pub select_moved_if : {E : Type 0} (r : Result Bool E) (steps : List Step) (rows : ℕ) (w w2 q q2 : Waiting) (t : ℕ) (b : List (Bool × Row)) (mask : List Bool) → IsFrontBatch rows w t b → mask ≡ map (is_kept steps) b
    → IfOk r (λ m. OnTrue m (HasDropped (length mask) w w2)) → IfOk r (λ m. OnTrue m (HasGained (chosen_first mask w) q q2)) → IfOk r (λ m. OnTrue m (HasGoneOn rows (selected steps) w q w2 q2))
select_moved_if (Ok true) steps rows w w2 q q2 t b mask h is d g = select_moved steps rows w w2 q q2 t b mask h is d g
select_moved_if (Ok false) steps rows w w2 q q2 t b mask h is d g = tt
select_moved_if (Err e) steps rows w w2 q q2 t b mask h is d g = tt
