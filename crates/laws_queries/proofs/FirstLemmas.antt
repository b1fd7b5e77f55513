-- What stands first in an operator's queue, what stands behind it, and how wide the rows are.
use Rattle.std.proofs.Common.{◌≡◌, ℕ, ◌<◌, Bool, true, List, [], ◌∷◌, ◌++◌, drop, length, sym, ap, ◌∙◌, arith, true≢false}
use Rattle.std.specs.List.{All}
use Rattle.std.proofs.Math.Seq.{drop-append_seam}
use Rattle.std.proofs.lemmas.List.Elements.{All-cons, All-head, All-nil, All-tail}
use Rattle.values.specs.Row.{Row}
use Rattle.column.specs.Rows.{width}
use Rattle.column.specs.declared.batch.Side.{Side}
use Rattle.column.specs.declared.batch.Side.TheVariants.{Left, Right}
use Rattle.op_queue.specs.Entries.{Entry}
use Rattle.op_queue.specs.Items.{entries_of}
use Rattle.op_queue.specs.Logs.{Closed}
use Rattle.op_queue.specs.declared.item.Item.{Item}
use Rattle.turn.specs.declared.outcomes.Change.{Change}
use Rattle.operators.specs.Operators.{IsFinished}
use Rattle.operators.specs.Ready.{PlainOperator, is_left, waiting}
use Rattle.laws_dataflow.specs.Nets.{batch}
use Rattle.laws_queries.specs.Widths.{IsRow, AreEntries}
use Rattle.laws_queries.specs.Steps.{IsFirst}

-- after a turn what stood behind the item waits on its side
pub rest_after : (o o2 : PlainOperator) (log : Closed) (side : Side) (i : Item) (c : Change) (f : IsFirst o log side i)
    → IsFinished o log side i c o2 → waiting o2 log side ≡ f.rest
rest_after o o2 log side i c f d = d.dropped.entries ∙ ap (drop (length (entries_of i))) f.is ∙ drop-append_seam (entries_of i) f.rest

-- the signed rows have so many columns and values of the answer range
abbrev pub AreSigned : ℕ → List (Bool × Row) → Type 0
AreSigned w xs = All (λ s. IsRow w s.1) xs

pub batch_wide : (w t : ℕ) (xs : List (Bool × Row)) (q : List (Entry Row)) → AreEntries w (batch t xs ++ q) → AreSigned w xs
batch_wide w t [] q h = All-nil (λ s. IsRow w s.1)
batch_wide w t (x ∷ xs) q h = All-cons (λ s. IsRow w s.1) x xs h.0 (batch_wide w t xs q h.1)

pub behind_wide : (w t : ℕ) (xs : List (Bool × Row)) (q : List (Entry Row)) → AreEntries w (batch t xs ++ q) → AreEntries w q
behind_wide w t [] q h = h
behind_wide w t (x ∷ xs) q h = behind_wide w t xs q h.1

pub wide_batch : (w t : ℕ) (xs : List (Bool × Row)) (q : List (Entry Row)) → AreSigned w xs → AreEntries w q → AreEntries w (batch t xs ++ q)
wide_batch w t [] q h k = k
wide_batch w t (x ∷ xs) q h k = (All-head (λ s. IsRow w s.1) x xs h, wide_batch w t xs q (All-tail (λ s. IsRow w s.1) x xs h) k)

-- the width of a batch is that of its rows
pub batch_width : (w t : ℕ) (xs : List (Bool × Row)) (q : List (Entry Row)) → 0 < length xs → AreEntries w (batch t xs ++ q) → width xs ≡ w
batch_width w t [] q some h = absurd (omega (arith, some))
batch_width w t (x ∷ xs) q some h = h.0.wide

pub batch_some : (t : ℕ) (xs : List (Bool × Row)) → 0 < length (batch t xs) → 0 < length xs
batch_some t [] h = h
batch_some t (x ∷ xs) h = omega arith

pub batch_entries : (w t : ℕ) (xs : List (Bool × Row)) → AreSigned w xs → AreEntries w (batch t xs)
batch_entries w t [] h = tt
batch_entries w t (x ∷ xs) h = (All-head (λ s. IsRow w s.1) x xs h, batch_entries w t xs (All-tail (λ s. IsRow w s.1) x xs h))

-- AN OPERATOR WITH ONE INPUT has it on the left
pub first_left : (o : PlainOperator) (log : Closed) (q : List (Entry Row)) (side : Side) (i : Item) → is_left side ≡ true → q ≡ waiting o log Left
    → (f : IsFirst o log side i) → q ≡ entries_of i ++ f.rest
first_left o log q Left i e h f = h ∙ f.is
first_left o log q Right i e h f = absurd (true≢false (sym e))

pub left_after : (o o2 : PlainOperator) (log : Closed) (side : Side) (i : Item) (c : Change) → is_left side ≡ true → (f : IsFirst o log side i)
    → IsFinished o log side i c o2 → f.rest ≡ waiting o2 log Left
left_after o o2 log Left i c e f d = sym (rest_after o o2 log Left i c f d)
left_after o o2 log Right i c e f d = absurd (true≢false (sym e))
