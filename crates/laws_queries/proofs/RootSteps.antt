-- The root of a running query takes the item at its front.
use Rattle.std.proofs.Common.{◌≡◌, ℕ, zero, suc, ◌<◌, ◌≤◌, ◌^◌, Bool, true, false, cond, nat_le, List, [], ◌∷◌, ◌++◌, length, refl, sym, ap, ap₂, ◌∙◌, subst, arith, append-nil}
use Rattle.std.proofs.lemmas.List.{length-map}
use Rattle.values.specs.Row.{Row}
use Rattle.column.specs.declared.batch.Side.{Side}
use Rattle.column.specs.declared.batch.Side.TheVariants.{Left}
use Rattle.op_queue.specs.Entries.{Entry, RowAt, TickAt}
use Rattle.op_queue.specs.Items.{entries_of}
use Rattle.op_queue.specs.Logs.{Closed}
use Rattle.op_queue.specs.Paths.{Leads}
use Rattle.op_queue.specs.Signed.{weigh, Legal}
use Rattle.op_queue.specs.declared.item.Item.{Item}
use Rattle.op_queue.specs.declared.item.Item.TheVariants.{Rows, Tick}
use Rattle.op_queue.proofs.PathLemmas.{Leads-front_legal, Leads-take_rows, Leads-take_tick}
use Rattle.to_stream.specs.Turns.{HasRoom, State, near, next, out}
use Rattle.to_stream.proofs.StepLemmas.{has_room, step_law}
use Rattle.turn.specs.Turns.{Outs, Put, Answered, change_at, outs_at}
use Rattle.turn.specs.declared.outcomes.Change.{Change}
use Rattle.operators.specs.Operators.{HasNamedColumns, IsFinished}
use Rattle.operators.specs.States.{HasColumns, HasStood, IsNext, Takes, near_of}
use Rattle.operators.specs.Ready.{PlainOperator, usable, waiting}
use Rattle.laws_dataflow.specs.Nets.{Input, batch}
use Rattle.laws_dataflow.specs.Queries.{GoodRoot, before}
use Rattle.laws_dataflow.proofs.FrontLemmas.{front_instant}
use Rattle.laws_dataflow.proofs.RootLemmas.{After, after, root_takes_rows, root_takes_tick}
use Rattle.laws_queries.specs.Runs.{RunsRoot}
use Rattle.laws_queries.specs.Counts.{StaysWithin, count}
use Rattle.laws_queries.specs.Steps.{IsFirst, outs_at_first}
use Rattle.laws_queries.specs.Roots.{RootMay, RootStands, RootStep}
use Rattle.laws_queries.proofs.CountLemmas.{stays_after, stays_now}
use Rattle.laws_queries.proofs.ItemLemmas.{left_side, rest_waits}
use Rattle.laws_queries.proofs.PlanCounts.{count_is}

-- ROOM

few_if : (b : Bool) (most : ℕ) (rows : List Row) → count rows ≤ most → count (cond b rows []) ≤ most
unfolding weigh
few_if true most rows h = h
few_if false most rows h = omega arith

few_before : (first most : ℕ) (v : ℕ → List Row) → ((t : ℕ) → count (v t) ≤ most) → (t : ℕ) → count (before first v t) ≤ most
unfolding weigh
few_before first most v h zero = omega arith
few_before first most v h (suc t) = few_if (nat_le first t) most (v t) (h t)

has_item_room : (first start : ℕ) (earlier : List (ℕ × Row)) (d : Input) (most : ℕ) (o : PlainOperator) (log : Closed) (s : State) (q : List (Entry Row)) (given : List (ℕ × Row)) (i : Item)
    → RootStands first start earlier d most o log s q given → length (entries_of i) ≤ 1024 → HasRoom s i
has_item_room first start earlier d most o log s q given (Tick t) r few = tt
has_item_room first start earlier d most o log s q given (Rows t b) r few =
    let g : GoodRoot first start earlier d.values s q d.bag d.opens given = r.good in
    let now : count g.whole ≤ most = stays_now q r.few in
    let old : count (before first d.values g.opens) ≤ 2 ^ 60 = few_before first (2 ^ 60) d.values r.room.at_ticks g.opens in
    has_room s b g.last g.whole g.stands
    (omega (arith, count_is g.whole, count_is g.last, g.last_is.weighs (λ x. 1), now, old, r.room.always, few, length-map b (RowAt t)))

pub root_may : RootMay
root_may first start earlier d most o log s q given side i r f = record {
  columns = subst (λ z. HasColumns z side i) (sym r.runs.state) tt;
  named = subst (λ k. HasNamedColumns k i) (sym r.runs.kind) tt;
  takes = subst (λ z. Takes z side i (change_at o.kind i (near_of o.state side i))) (sym r.runs.state) (has_item_room first start earlier d most o log s q given i r f.few);
  stood = subst (λ z. HasStood z side i) (sym r.runs.state) tt;
}

-- THE NEXT STATE

next_operator : (s : State) (i : Item) → (next s i).operator ≡ s.operator
next_operator s (Rows t b) = refl
next_operator s (Tick t) = refl

-- the operator after the turn
runs_next : (o o2 : PlainOperator) (log : Closed) (s : State) (q : List (Entry Row)) (side : Side) (i : Item) (c : Change) → RunsRoot o log s q → side ≡ Left
    → (f : IsFirst o log side i) → IsFinished o log side i c o2 → RunsRoot o2 log (next s i) f.rest
runs_next o o2 log s q side i c r l f h = record {
  kind = h.kind ∙ r.kind;
  state = subst (λ z. IsNext z side i c o2.state) r.state h.state;
  queue = rest_waits o o2 log side i c f h ∙ ap (waiting o2 log) l;
}

-- THE ANSWERS

abbrev answers_in : Outs → List (ℕ × Row)
answers_in (Put es) = []
answers_in (Answered rows) = rows

answers_are : (o : PlainOperator) (log : Closed) (s : State) (q : List (Entry Row)) (side : Side) (i : Item) (answers : List (ℕ × Row)) → RunsRoot o log s q
    → outs_at_first o side i ≡ Answered answers → out i (near s i) ≡ answers
answers_are o log s q side i answers r e = ap answers_in (sym (ap₂ (λ k z. outs_at k side i (near_of z side i)) r.kind r.state) ∙ e)

-- THE BAG that the root has taken: as many rows as the queue says

same_count : {v u : ℕ → List Row} {b c d : List Row} {n m k l : ℕ} (q : List (Entry Row)) → Leads v b n q d m → Leads u c k q d l → count b ≡ count c
same_count q x y = omega (arith, x.turns.adds.weighs (λ r. 1), y.turns.adds.weighs (λ r. 1))

-- a good root that has taken few rows
record Good (first start : ℕ) (earlier : List (ℕ × Row)) (d : Input) (most : ℕ) (s : State) (q : List (Entry Row)) (given : List (ℕ × Row)) : Type 0 where
  pub good : GoodRoot first start earlier d.values s q d.bag d.opens given
  pub few : StaysWithin most (count good.whole) q

takes_item : (first start : ℕ) (earlier : List (ℕ × Row)) (d : Input) (most : ℕ) (s : State) (i : Item) (rest : List (Entry Row)) (given : List (ℕ × Row))
    → 0 < length (entries_of i)
    → Good first start earlier d most s (entries_of i ++ rest) given → Good first start earlier d most (next s i) rest (given ++ out i (near s i))
takes_item first start earlier d most s (Rows t b) rest given some h =
    let g : GoodRoot first start earlier d.values s (batch t b ++ rest) d.bag d.opens given = h.good in
    let at : t ≡ g.opens = front_instant t b rest (omega (arith, some, length-map b (RowAt t))) g.edge in
    let legal : Legal g.whole b = Leads-front_legal t b rest g.edge in
    let a : After g.whole b = after b g.whole legal in
    let made : GoodRoot first start earlier d.values (next s (Rows t b)) rest d.bag d.opens given =
    root_takes_rows first start earlier d.values s (next s (Rows t b)) t b rest d.bag d.opens given (step_law s (Rows t b)) refl refl g (sym at) in
    let few : StaysWithin most (count made.whole) rest =
    subst (λ n. StaysWithin most n rest) (same_count rest (Leads-take_rows t b rest a.adds g.edge) made.edge) (stays_after most t b rest g.whole a.bag legal a.adds h.few) in
    subst (λ z. Good first start earlier d most (next s (Rows t b)) rest z) (sym (append-nil given)) (record { good = made; few = few })
takes_item first start earlier d most s (Tick t) rest given some h =
    let g : GoodRoot first start earlier d.values s (TickAt t ∷ rest) d.bag d.opens given = h.good in
    let made : GoodRoot first start earlier d.values (next s (Tick t)) rest d.bag d.opens (given ++ out (Tick t) (near s (Tick t))) =
    root_takes_tick first start earlier d.values s (next s (Tick t)) t rest d.bag d.opens given (step_law s (Tick t)) refl refl g in
    record { good = made; few = subst (λ n. StaysWithin most n rest) (same_count rest (Leads-take_tick g.edge).2 made.edge) h.few.1 }

pub root_step : RootStep
root_step first start earlier d most o o2 log s q given side i answers r f e h =
    let l : side ≡ Left = left_side side (subst (λ z. usable z side ≡ true) r.runs.state f.usable) in
    let took : q ≡ entries_of i ++ f.rest = r.runs.queue ∙ ap (waiting o log) (sym l) ∙ f.is in
    let held : Good first start earlier d most s (entries_of i ++ f.rest) given = subst (λ z. Good first start earlier d most s z given) took (record { good = r.good; few = r.few }) in
    let made : Good first start earlier d most (next s i) f.rest (given ++ answers) =
    subst (λ z. Good first start earlier d most (next s i) f.rest (given ++ z)) (answers_are o log s q side i answers r.runs e) (takes_item first start earlier d most s i f.rest given f.some held) in
    record {
      rest = f.rest;
      taken = took;
      operator = next_operator s i;
      stands = record { runs = runs_next o o2 log s q side i (change_at o.kind i (near_of o.state side i)) r.runs l f h; room = r.room; good = made.good; few = made.few };
    }
