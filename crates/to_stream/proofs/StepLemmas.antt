-- The law of one step of a root.
use Rattle.std.specs.Prelude.{None}
use Rattle.std.proofs.Common.{◌≡◌, ◌+◌, ◌<◌, ◌^◌, Bool, List, [], map, length, refl, ap, ap₂, sym, ◌∙◌, subst, arith, Result, Ok, Err, OnOk}
use Rattle.values.specs.Row.{Row, row_cmp}
use Rattle.values.specs.Bag.{in_order, bag_minus}
use Rattle.values.specs.Answers.{streamed}
use Rattle.values.specs.StreamOperators.{operator_of}
use Rattle.values.specs.declared.resolved.StreamOperator.{StreamOperator}
use Rattle.values.specs.declared.resolved.StreamOperator.TheVariants.{Istream, Dstream, Rstream}
use Rattle.values.proofs.Order.{row_order}
use Rattle.op_queue.specs.declared.item.Item.{Item}
use Rattle.op_queue.specs.declared.item.Item.TheVariants.{Rows, Tick}
use Rattle.row_bags.specs.Deltas.{PlainDelta, delta_between, deltas_after}
use Rattle.row_bags.specs.Lists.{renewed}
use Rattle.row_bags.proofs.ListLaws.{renewed-between}
use Rattle.row_bags.proofs.DeltaLaws.{deltas-between, delta_between-none}
use Rattle.row_bags.proofs.OrderLemmas.{length-in_order, length-bag_minus}
use Rattle.to_stream.specs.Turns.{State, shown, kept, next, taken, HasRoomFor}
use Rattle.to_stream.specs.Law.{whole_of, Stands, StepLaw, RowsLaw}

-- of Rstream the relation of the last tick, with what left and entered, is the relation now
renewed_now : (s : State) (before now : List Row) → s.delta ≡ delta_between before now → s.whole ≡ in_order row_cmp before → renewed s.whole s.delta ≡ in_order row_cmp now
renewed_now s before now n w = ap₂ renewed w n ∙ renewed-between before now

shown_as : (o : StreamOperator) (s : State) (before now : List Row) → s.delta ≡ delta_between before now → s.whole ≡ whole_of o before → shown o s.delta s.whole ≡ in_order row_cmp (streamed (operator_of o) before now)
shown_as Istream s before now n w = ap (λ (n : PlainDelta). n.entered) n
shown_as Dstream s before now n w = ap (λ (n : PlainDelta). n.left) n
shown_as Rstream s before now n w = renewed_now s before now n w

kept_as : (o : StreamOperator) (s : State) (before now : List Row) → s.delta ≡ delta_between before now → s.whole ≡ whole_of o before → kept o s ≡ whole_of o now
kept_as Istream s before now n w = w
kept_as Dstream s before now n w = w
kept_as Rstream s before now n w = renewed_now s before now n w

-- THE LAW OF ONE STEP

pub step_law : (s : State) (item : Item) → StepLaw s item (next s item)
step_law s (Rows t b) = λ before now after h l a. record { delta = ap (λ (n : PlainDelta). deltas_after n b) h.delta ∙ deltas-between b before now after l a; whole = h.whole }
step_law s (Tick t) =
    λ before now h. (
      ap (λ (rows : List Row). map (λ r. (t, r)) rows) (shown_as s.operator s before now h.delta h.whole),
      record { delta = sym (delta_between-none now); whole = kept_as s.operator s before now h.delta h.whole },
    )

-- the same of a state that is the next one
pub law_of : (s new : State) (item : Item) → new ≡ next s item → StepLaw s item new
law_of s new item e = subst (λ (n : State). StepLaw s item n) (sym e) (step_law s item)

-- of rows that are all taken, whatever their instant
pub rows_law : {A E : Type 0} (r : Result A E) (s new : State) (b : List (Bool × Row)) → OnOk r (new ≡ taken s b) → OnOk r (RowsLaw s b new)
rows_law (Ok x) s new b h = λ t. law_of s new (Rows t b) h
rows_law (Err e) s new b h = h

-- a root that has taken nothing stands for no rows, before and now
pub fresh_stands : (o : StreamOperator) → Stands (record { operator = o; delta = record { entered = []; left = [] }; whole = []; last = None }) [] []
fresh_stands o = record { delta = refl; whole = here o }
  where
    here : (p : StreamOperator) → [] ≡ whole_of p []
    here Istream = refl
    here Dstream = refl
    here Rstream = refl

-- ROOM

-- where it stands for relations, their lengths bound what a turn needs
pub has_room : (s : State) (b : List (Bool × Row)) (before now : List Row) → Stands s before now → length before + length now + length b < 2 ^ 62 → HasRoomFor s b
has_room s b before now h few =
    let came : length s.delta.entered ≡ length (bag_minus row_cmp now before) = ap (λ (n : PlainDelta). length n.entered) h.delta ∙ length-in_order row_cmp row_order (bag_minus row_cmp now before) in
    let gone : length s.delta.left ≡ length (bag_minus row_cmp before now) = ap (λ (n : PlainDelta). length n.left) h.delta ∙ length-in_order row_cmp row_order (bag_minus row_cmp before now) in
    omega (arith, came, gone, few, length-bag_minus row_cmp row_order now before, length-bag_minus row_cmp row_order before now)
