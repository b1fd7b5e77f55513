-- What stands first on a side may be leased.
use Rattle.std.proofs.Common.{◌≡◌, ◌∙◌, ℕ, ◌++◌, length, min, drop, sym, ap, arith}
use Rattle.std.proofs.lemmas.List.{take-append-drop}
use Rattle.column.specs.declared.batch.Side.{Side}
use Rattle.op_queue.specs.Items.{IsFrontPart, entries_of}
use Rattle.op_queue.specs.Logs.{Closed}
use Rattle.op_queue.specs.declared.item.Item.{Item}
use Rattle.turn.specs.Turns.{FitsKind}
use Rattle.turn.specs.declared.excerpts.Excerpt.{Excerpt}
use Rattle.operators.specs.Inboxes.{cut_of}
use Rattle.operators.specs.Ready.{PlainOperator, inbox_of, waiting}
use Rattle.operators.specs.States.{near_of}
use Rattle.laws_queries.specs.Steps.{IsFirst}
use Rattle.laws_queries.specs.Queries.{MayFinish}
use Rattle.query_runtime.specs.Turns.{CanLease, IsLeased}

-- a front part of what waits, of no more rows than a batch has, stands first
pub part_first : (rows n : ℕ) (o : PlainOperator) (log : Closed) (side : Side) (i : Item) → n ≡ min rows 1024 → CanLease o log side rows → IsFrontPart n (waiting o log side) i → IsFirst o log side i
part_first rows n o log side i e can part = record {
  rest = drop (length (entries_of i)) (waiting o log side);
  some = part.some;
  few = omega (arith, e, part.few);
  is = sym (take-append-drop (length (entries_of i)) (waiting o log side)) ∙ ap (λ es. es ++ drop (length (entries_of i)) (waiting o log side)) (sym part.first);
  usable = can.usable;
}

pub part_taken : (rows n : ℕ) (o : PlainOperator) (log : Closed) (side : Side) (i : Item) → n ≡ min rows 1024 → CanLease o log side rows → IsFrontPart n (waiting o log side) i → MayFinish o log side i
part_taken rows n o log side i e can part = can.may i (part_first rows n o log side i e can part)

pub part_leased : (rows n : ℕ) (o : PlainOperator) (log : Closed) (side : Side) (i : Item) (near : Excerpt) → n ≡ min rows 1024 → CanLease o log side rows → IsFrontPart n (waiting o log side) i
    → entries_of i ≡ cut_of n (inbox_of o side) log → near ≡ near_of o.state side i → FitsKind o.kind side i near → IsLeased o log side rows i near
part_leased rows n o log side i near e can part cut is fits = record {
  first = part_first rows n o log side i e can part;
  cut = cut ∙ ap (λ x. cut_of x (inbox_of o side) log) e;
  near = is;
  fits = fits;
}
