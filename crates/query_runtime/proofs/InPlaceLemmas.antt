-- A query whose operator has run a turn in place.
use Rattle.std.proofs.Common.{◌≡◌, ◌∙◌, ℕ, ◌<◌, ◌++◌, min, true, false, Result, Ok, Err, IfErr, OnErr, List, sym, ap, refl, subst, arith}
use Rattle.std.specs.Prelude.{⊤}
use Rattle.values.specs.Row.{Row}
use Rattle.column.specs.declared.batch.Side.{Side}
use Rattle.op_queue.specs.Entries.{Entry}
use Rattle.op_queue.specs.Items.{IsFrontPart}
use Rattle.op_queue.specs.Logs.{Closed}
use Rattle.op_queue.specs.declared.item.Item.{Item}
use Rattle.turn.specs.Turns.{Answered, Put, outs_at}
use Rattle.turn.specs.declared.excerpts.Excerpt.{Excerpt}
use Rattle.turn.specs.declared.excerpts.Excerpt.TheVariants as near
use Rattle.turn.specs.declared.kinds.Kind.{Kind}
use Rattle.turn.specs.declared.kinds.Kind.TheVariants as kind
use Rattle.operators.specs.Ready.{PlainOperator, waiting}
use Rattle.operators.specs.Runs as runs
use Rattle.operators.specs.Runs.{GivesFirst, HasPutTo, HasRunBelow, HasRunBelowLess, HasRunRoot, HasRunRootLess, IsGiven, IsInHand, MayPut, MayPutFirst, MayRun, Stops, is_root}
use Rattle.operators.specs.States.{near_of}
use Rattle.operators.specs.declared.runs.Refused.{Refused}
use Rattle.operators.specs.declared.runs.Refused.TheVariants.{Before, Within}
use Rattle.physical_plans.specs.declared.wiring.Wire.{Wire}
use Rattle.reference.specs.Machine.{Stream}
use Rattle.laws_queries.specs.Queries.{MayFeed, MayFinish, change_at_first}
use Rattle.laws_queries.specs.Plain.{PlainQuery, operator_at}
use Rattle.laws_queries.specs.Steps.{IsFirst}
use Rattle.query_runtime.specs.Runs.{CanRun, HasRun, HasRunLess, IsRunItem, KeepsOuts, OnlyAtBoth}
use Rattle.query_runtime.specs.Turns.{CanFeed, CanPut, HasAnswered, HasFed, HasPut, OnlyAt, log_of, wire_at}
use Rattle.query_runtime.proofs.LeaseLemmas.{part_first, part_leased}

-- BELOW THE ROOT a turn puts out rows and ticks, at the root it gives answers
pub record PutsOut (k : Kind) (side : Side) (i : Item) (n : Excerpt) : Type 0 where
  pub outs : List (Entry Row)
  pub is : outs_at k side i n ≡ Put outs

pub record GivesOut (k : Kind) (side : Side) (i : Item) (n : Excerpt) : Type 0 where
  pub rows : List (ℕ × Row)
  pub is : outs_at k side i n ≡ Answered rows

puts_of : (k : Kind) (side : Side) (i : Item) (n : Excerpt) → is_root k ≡ false → PutsOut k side i n
puts_of kind.Window side i near.Nothing h = record { outs = _; is = refl }
puts_of kind.Window side i (near.Window rows) h = record { outs = _; is = refl }
puts_of kind.Window side i (near.Met rows) h = record { outs = _; is = refl }
puts_of kind.Window side i (near.Groups rows) h = record { outs = _; is = refl }
puts_of kind.Window side i (near.Lists lists) h = record { outs = _; is = refl }
puts_of (kind.Select steps) side i near.Nothing h = record { outs = _; is = refl }
puts_of (kind.Select steps) side i (near.Window rows) h = record { outs = _; is = refl }
puts_of (kind.Select steps) side i (near.Met rows) h = record { outs = _; is = refl }
puts_of (kind.Select steps) side i (near.Groups rows) h = record { outs = _; is = refl }
puts_of (kind.Select steps) side i (near.Lists lists) h = record { outs = _; is = refl }
puts_of (kind.Project columns) side i near.Nothing h = record { outs = _; is = refl }
puts_of (kind.Project columns) side i (near.Window rows) h = record { outs = _; is = refl }
puts_of (kind.Project columns) side i (near.Met rows) h = record { outs = _; is = refl }
puts_of (kind.Project columns) side i (near.Groups rows) h = record { outs = _; is = refl }
puts_of (kind.Project columns) side i (near.Lists lists) h = record { outs = _; is = refl }
puts_of kind.Join side i near.Nothing h = record { outs = _; is = refl }
puts_of kind.Join side i (near.Window rows) h = record { outs = _; is = refl }
puts_of kind.Join side i (near.Met rows) h = record { outs = _; is = refl }
puts_of kind.Join side i (near.Groups rows) h = record { outs = _; is = refl }
puts_of kind.Join side i (near.Lists lists) h = record { outs = _; is = refl }
puts_of (kind.Group g) side i near.Nothing h = record { outs = _; is = refl }
puts_of (kind.Group g) side i (near.Window rows) h = record { outs = _; is = refl }
puts_of (kind.Group g) side i (near.Met rows) h = record { outs = _; is = refl }
puts_of (kind.Group g) side i (near.Groups rows) h = record { outs = _; is = refl }
puts_of (kind.Group g) side i (near.Lists lists) h = record { outs = _; is = refl }
puts_of kind.ToStream side i n h = absurd (cc)

gives_of : (k : Kind) (side : Side) (i : Item) (n : Excerpt) → is_root k ≡ true → GivesOut k side i n
gives_of kind.Window side i n h = absurd (cc)
gives_of (kind.Select steps) side i n h = absurd (cc)
gives_of (kind.Project columns) side i n h = absurd (cc)
gives_of kind.Join side i n h = absurd (cc)
gives_of (kind.Group g) side i n h = absurd (cc)
gives_of kind.ToStream side i near.Nothing h = record { rows = _; is = refl }
gives_of kind.ToStream side i (near.Window rows) h = record { rows = _; is = refl }
gives_of kind.ToStream side i (near.Met rows) h = record { rows = _; is = refl }
gives_of kind.ToStream side i (near.Groups rows) h = record { rows = _; is = refl }
gives_of kind.ToStream side i (near.Lists lists) h = record { rows = _; is = refl }

-- WHAT THE OPERATOR asks, of a query that may run its turn of at most n rows
module _ (streams : List Stream) (p : PlainQuery) (k : ℕ) (side : Side) (rows n : ℕ) (e : n ≡ min rows 1024) (can : CanRun streams p k side rows) where
  abbrev o : PlainOperator
  o = operator_at p.operators k

  abbrev log : Closed
  log = log_of streams p k

  first : (i : Item) → IsFrontPart n (waiting o log side) i → IsFirst o log side i
  first i part = part_first rows n o log side i e can.lease part

  pub may_run : MayRun o log side n
  may_run = record {
    waits = can.lease.waits;
    some = omega (arith, e, can.lease.some);
    within = can.within;
    takes = λ i part.
        let m : MayFinish o log side i = can.lease.may i (first i part) in
        record { belongs = m.belongs; columns = m.may.columns; named = m.may.named; takes = m.may.takes; stood = m.may.stood };
  }

  puts : is_root o.kind ≡ false → (i : Item) → PutsOut o.kind side i (near_of o.state side i)
  puts below i = puts_of o.kind side i (near_of o.state side i) below

  gives : is_root o.kind ≡ true → (i : Item) → GivesOut o.kind side i (near_of o.state side i)
  gives root i = gives_of o.kind side i (near_of o.state side i) root

  pub may_put_first : is_root o.kind ≡ false → MayPutFirst o log side n (operator_at p.operators (wire_at p k).to) (wire_at p k).side
  may_put_first below i part o2 done =
      let g = puts below i in
      let feed : CanFeed streams p k side i (change_at_first o side i) g.outs = subst (CanPut streams p k side i (change_at_first o side i)) g.is (can.puts i (first i part)) in
      let m : MayFeed (operator_at p.operators (wire_at p k).to) (wire_at p k).side g.outs = feed.may o2 done in
      subst (λ out. MayPut out (operator_at p.operators (wire_at p k).to) (wire_at p k).side) (sym g.is) (record { fed = m.fed; forward = m.forward })

  pub gives_first : is_root o.kind ≡ true → GivesFirst o log side n
  gives_first root i part = subst IsGiven (sym (gives root i).is) tt

  -- THE ITEM in hand is what a lease would hand out
  run_item : (i : Item) → IsInHand o log side n i → IsRunItem o log side rows i
  run_item i h = part_leased rows n o log side i (near_of o.state side i) e can.lease h.part h.cut refl h.fits

  -- AFTER IT, below the root
  pub has_run_below : is_root o.kind ≡ false → (os : List PlainOperator)
      → HasRunBelow o log side n (operator_at p.operators (wire_at p k).to) (wire_at p k).side (operator_at os k) (operator_at os (wire_at p k).to) → OnlyAtBoth k (wire_at p k).to p.operators os
      → HasRun streams p k side rows (record p { operators = os })
  has_run_below below os r only =
      let i : Item = r.item in
      let g = puts below i in
      let put : runs.HasGained (operator_at p.operators (wire_at p k).to) (wire_at p k).side g.outs (operator_at os (wire_at p k).to) =
      subst (λ out. HasPutTo out (operator_at p.operators (wire_at p k).to) (wire_at p k).side (operator_at os (wire_at p k).to)) g.is r.put in
      let fed : HasFed p k g.outs (record p { operators = os }) = record { fed = put.fed; others = only.others; answers = refl } in
      let kept : KeepsOuts p k (Put g.outs) (record p { operators = os }) = (put.items, (put.stand, put.batches)) in
      record {
        item = i;
        leased = run_item i r.held;
        finished = record { many = only.many; wires = refl; sources = refl; finished = r.finished };
        put = subst (λ out. HasPut p k out (record p { operators = os })) (sym g.is) fed;
        batches = subst (λ out. KeepsOuts p k out (record p { operators = os })) (sym g.is) kept;
      }

  -- and at the root
  pub has_run_root : is_root o.kind ≡ true → (os : List PlainOperator) (answers : List (ℕ × Row))
      → HasRunRoot o log side n p.answers (operator_at os k) answers → OnlyAt k p.operators os
      → HasRun streams p k side rows (record p { operators = os; answers = answers })
  has_run_root root os answers r only =
      let i : Item = r.item in
      let g = gives root i in
      let gave : answers ≡ p.answers ++ g.rows = subst (λ out. runs.HasGiven out p.answers answers) g.is r.given in
      let given : HasAnswered p k g.rows (record p { operators = os; answers = answers }) = record { others = only.others; answers = gave } in
      record {
        item = i;
        leased = run_item i r.held;
        finished = record { many = only.many; wires = refl; sources = refl; finished = r.finished };
        put = subst (λ out. HasPut p k out (record p { operators = os; answers = answers })) (sym g.is) given;
        batches = subst (λ out. KeepsOuts p k out (record p { operators = os; answers = answers })) (sym g.is) tt;
      }

-- OF FEWER ROWS it may run a turn, too
can_less : (streams : List Stream) (p : PlainQuery) (k : ℕ) (side : Side) (rows count : ℕ) → 0 < count → CanRun streams p k side rows → CanRun streams p k side count
can_less streams p k side rows count some can = record {
  lease = record { usable = can.lease.usable; waits = can.lease.waits; some = some; may = can.lease.may };
  within = can.within;
  leads = can.leads;
  puts = can.puts;
}

module _ (streams : List Stream) (p : PlainQuery) (k : ℕ) (side : Side) (rows n : ℕ) (e : n ≡ min rows 1024) (can : CanRun streams p k side rows) (os : List PlainOperator) where
  pub has_run_below_less : is_root (operator_at p.operators k).kind ≡ false
      → HasRunBelowLess (operator_at p.operators k) (log_of streams p k) side n (operator_at p.operators (wire_at p k).to) (wire_at p k).side (operator_at os k) (operator_at os (wire_at p k).to)
      → OnlyAtBoth k (wire_at p k).to p.operators os → HasRunLess streams p k side rows (record p { operators = os })
  has_run_below_less below r only = record {
    count = r.count;
    some = r.some;
    fewer = omega (arith, e, r.fewer);
    run = has_run_below streams p k side r.count r.count (omega (arith, e, r.fewer)) (can_less streams p k side rows r.count r.some can) below os r.run only;
  }

  pub has_run_root_less : (answers : List (ℕ × Row)) → is_root (operator_at p.operators k).kind ≡ true → HasRunRootLess (operator_at p.operators k) (log_of streams p k) side n p.answers (operator_at os k) answers → OnlyAt k p.operators os
      → HasRunLess streams p k side rows (record p { operators = os; answers = answers })
  has_run_root_less answers root r only = record {
    count = r.count;
    some = r.some;
    fewer = omega (arith, e, r.fewer);
    run = has_run_root streams p k side r.count r.count (omega (arith, e, r.fewer)) (can_less streams p k side rows r.count r.some can) root os answers r.run only;
  }

-- OF THE CODE'S QUERY, with a log and a wire that it looked up
module _ (streams : List Stream) (q p : PlainQuery) (same : q ≡ p) (k : ℕ) (side : Side) (rows n : ℕ) (e : n ≡ min rows 1024) (can : CanRun streams p k side rows) (read : Closed) (log_is : read ≡ log_of streams p k) where
  pub runs_here : MayRun (operator_at q.operators k) read side n
  runs_here = subst (λ z. MayRun (operator_at q.operators k) z side n) (sym log_is) (subst (λ (z : PlainQuery). MayRun (operator_at z.operators k) (log_of streams p k) side n) (sym same) (may_run streams p k side rows n e can))

  pub gives_here : is_root (operator_at p.operators k).kind ≡ true → GivesFirst (operator_at q.operators k) read side n
  gives_here root =
      subst (λ z. GivesFirst (operator_at q.operators k) z side n) (sym log_is)
      (subst (λ (z : PlainQuery). GivesFirst (operator_at z.operators k) (log_of streams p k) side n) (sym same) (gives_first streams p k side rows n e can root))

  module _ (w : Wire) (wire_is : w ≡ wire_at p k) (below : is_root (operator_at p.operators k).kind ≡ false) where
    pub puts_here : MayPutFirst (operator_at q.operators k) read side n (operator_at q.operators w.to) w.side
    puts_here =
        subst (λ (x : Wire). MayPutFirst (operator_at q.operators k) read side n (operator_at q.operators x.to) x.side) (sym wire_is)
        (subst (λ z. MayPutFirst (operator_at q.operators k) z side n (operator_at q.operators (wire_at p k).to) (wire_at p k).side) (sym log_is)
        (subst (λ (z : PlainQuery). MayPutFirst (operator_at z.operators k) (log_of streams p k) side n (operator_at z.operators (wire_at p k).to) (wire_at p k).side) (sym same) (may_put_first streams p k side rows n e can below)))

    module _ (os : List PlainOperator) where
      abbrev Ran : PlainQuery → Closed → Wire → Type 0
      Ran z l x = HasRunBelow (operator_at z.operators k) l side n (operator_at z.operators x.to) x.side (operator_at os k) (operator_at os x.to)

      pub ran_below : Ran q read w → OnlyAtBoth k w.to q.operators os → HasRun streams p k side rows (record q { operators = os })
      ran_below r only =
          let a : Ran p (log_of streams p k) (wire_at p k) = subst (λ (z : PlainQuery). Ran z (log_of streams p k) (wire_at p k)) same (subst (λ l. Ran q l (wire_at p k)) log_is (subst (Ran q read) wire_is r)) in
          let o : OnlyAtBoth k (wire_at p k).to p.operators os = subst (λ (z : PlainQuery). OnlyAtBoth k (wire_at p k).to z.operators os) same (subst (λ (x : Wire). OnlyAtBoth k x.to q.operators os) wire_is only) in
          subst (λ (z : PlainQuery). HasRun streams p k side rows (record z { operators = os })) (sym same) (has_run_below streams p k side rows n e can below os a o)

      abbrev RanLess : PlainQuery → Closed → Wire → Type 0
      RanLess z l x = HasRunBelowLess (operator_at z.operators k) l side n (operator_at z.operators x.to) x.side (operator_at os k) (operator_at os x.to)

      pub stopped_below : (r : Refused) → Stops r (os ≡ q.operators) (RanLess q read w) → OnlyAtBoth k w.to q.operators os → Stops r (record q { operators = os } ≡ p) (HasRunLess streams p k side rows (record q { operators = os }))
      stopped_below Before h only = ap (λ z. record q { operators = z }) h ∙ same
      stopped_below Within h only =
          let a : RanLess p (log_of streams p k) (wire_at p k) =
          subst (λ (z : PlainQuery). RanLess z (log_of streams p k) (wire_at p k)) same (subst (λ l. RanLess q l (wire_at p k)) log_is (subst (RanLess q read) wire_is h)) in
          let o : OnlyAtBoth k (wire_at p k).to p.operators os = subst (λ (z : PlainQuery). OnlyAtBoth k (wire_at p k).to z.operators os) same (subst (λ (x : Wire). OnlyAtBoth k x.to q.operators os) wire_is only) in
          subst (λ (z : PlainQuery). HasRunLess streams p k side rows (record z { operators = os })) (sym same) (has_run_below_less streams p k side rows n e can os below a o)

  module _ (os : List PlainOperator) (answers : List (ℕ × Row)) where
    abbrev RanRoot : PlainQuery → Closed → Type 0
    RanRoot z l = HasRunRoot (operator_at z.operators k) l side n z.answers (operator_at os k) answers

    pub ran_root : is_root (operator_at p.operators k).kind ≡ true → RanRoot q read → OnlyAt k q.operators os → HasRun streams p k side rows (record q { operators = os; answers = answers })
    ran_root root r only =
        let a : RanRoot p (log_of streams p k) = subst (λ (z : PlainQuery). RanRoot z (log_of streams p k)) same (subst (RanRoot q) log_is r) in
        let o : OnlyAt k p.operators os = subst (λ (z : PlainQuery). OnlyAt k z.operators os) same only in
        subst (λ (z : PlainQuery). HasRun streams p k side rows (record z { operators = os; answers = answers })) (sym same) (has_run_root streams p k side rows n e can root os answers a o)

    abbrev RanRootLess : PlainQuery → Closed → Type 0
    RanRootLess z l = HasRunRootLess (operator_at z.operators k) l side n z.answers (operator_at os k) answers

    pub stopped_root : is_root (operator_at p.operators k).kind ≡ true → (result : Result ⊤ Refused) → IfErr result (λ r. Stops r (os ≡ q.operators) (RanRootLess q read)) → OnlyAt k q.operators os → OnErr result (answers ≡ q.answers)
        → IfErr result (λ r. Stops r (record q { operators = os; answers = answers } ≡ p) (HasRunLess streams p k side rows (record q { operators = os; answers = answers })))
    stopped_root root (Ok u) h only is = tt
    stopped_root root (Err Before) h only is = ap (λ z. record q { operators = z; answers = answers }) h ∙ ap (λ z. record q { answers = z }) is ∙ same
    stopped_root root (Err Within) h only is =
        let a : RanRootLess p (log_of streams p k) = subst (λ (z : PlainQuery). RanRootLess z (log_of streams p k)) same (subst (RanRootLess q) log_is h) in
        let o : OnlyAt k p.operators os = subst (λ (z : PlainQuery). OnlyAt k z.operators os) same only in
        subst (λ (z : PlainQuery). HasRunLess streams p k side rows (record z { operators = os; answers = answers })) (sym same) (has_run_root_less streams p k side rows n e can os answers root a o)
