-- The turns of a join.
use Rattle.std.proofs.Common.{◌≡◌, ℕ, ◌+◌, ◌*◌, ◌^◌, ◌<◌, ◌≤◌, Bool, true, false, not, cond, List, [], ◌∷◌, ◌++◌, length, refl, sym, ap, ap₂, subst, ◌∙◌, arith, true≢false}
use Rattle.std.proofs.lemmas.List.{length-map}
use Rattle.std.proofs.lemmas.List.Elements.{All-head}
use Rattle.std.proofs.Math.Nat.{mul_comm}
use Rattle.values.specs.Row.{Row}
use Rattle.column.specs.Rows.{IsTable, width}
use Rattle.column.specs.declared.batch.Side.{Side}
use Rattle.column.specs.declared.batch.Side.TheVariants.{Left, Right}
use Rattle.op_queue.specs.Entries.{Entry, RowAt, TickAt}
use Rattle.op_queue.specs.Items.{entries_of}
use Rattle.op_queue.specs.Logs.{Closed}
use Rattle.op_queue.specs.Paths.{Leads}
use Rattle.op_queue.specs.Signed.{weigh, Legal, Turns}
use Rattle.op_queue.specs.declared.item.Item.{Item}
use Rattle.op_queue.specs.declared.item.Item.TheVariants.{Rows, Tick}
use Rattle.op_queue.proofs.PathLemmas.{Leads-front_legal, rows_in-batch}
use Rattle.join.specs.Pairs as pairs
use Rattle.join.specs.Turns as join
use Rattle.join.specs.Turns.{met, matches, with_marks}
use Rattle.join.specs.States.{JoinState, SideState, side_of}
use Rattle.join.specs.Laws as joins
use Rattle.join.proofs.LawLemmas.{left_law, right_law, tick_law}
use Rattle.turn.specs.Turns.{Outs, Put, Answered, change_at, outs_at}
use Rattle.turn.specs.declared.kinds.Kind.{Kind}
use Rattle.turn.specs.declared.kinds.Kind.TheVariants as kind
use Rattle.operators.specs.Operators.{HasNamedColumns, IsFinished}
use Rattle.operators.specs.States.{HasColumns, HasStood, IsNext, Takes, near_of}
use Rattle.operators.specs.Ready.{PlainOperator, usable, waiting}
use Rattle.operators.specs.declared.states.State.{State}
use Rattle.operators.specs.declared.states.State.TheVariants as state
use Rattle.plan.specs.Nodes as plan
use Rattle.plan.specs.Values as valued
use Rattle.laws_dataflow.specs.Nets as nets
use Rattle.laws_dataflow.specs.Nets.{World, Cell, at_window, at_unary, at_join, Input, Turn, batch, past}
use Rattle.laws_dataflow.specs.Operators.{joining}
use Rattle.laws_dataflow.proofs.JoinTurns.{left_rows_made, right_rows_made, left_first_made, right_first_made, left_last_made, right_last_made}
use Rattle.laws_dataflow.proofs.RootLemmas.{After, after}
use Rattle.laws_queries.specs.Counts.{StaysWithin, count, most_rows}
use Rattle.laws_queries.specs.Steps.{IsFirst, StepMade, Stands, MayLaw, StepLaw, outs_at_first}
use Rattle.laws_queries.specs.Widths.{AreEntries, AreRows, IsRow, IsSideWide, IsJoinWide, width_at}
use Rattle.laws_queries.proofs.CountLemmas.{stays_now, stays_after}
use Rattle.laws_queries.proofs.ItemLemmas.{rest_waits, other_waits}
use Rattle.laws_queries.proofs.PairLemmas.{met_all, met_few, left_pairs_are, right_pairs_are, few_pairs, pairs_stay, beside_wide, pairs_wide, side_few}
use Rattle.laws_queries.proofs.WideLemmas.{AreSigned, rows_after, entries_front, entries_back, entries_alone}

untrue {ℓ} : {A : Type ℓ} → false ≡ true → A
untrue h = absurd (true≢false (sym h))

-- WHAT A TURN PUTS OUT
abbrev put_out : JoinState → Side → Item → List (Entry Row)
put_out s side it = join.out side it (join.near s side it)

-- a finished turn with the item
record IsTurn (o o2 : PlainOperator) (log : Closed) (side : Side) (it : Item) (outs : List (Entry Row)) : Type 0 where
  puts : outs_at_first o side it ≡ Put outs
  finished : IsFinished o log side it (change_at o.kind it (near_of o.state side it)) o2

abbrev put_in : Outs → List (Entry Row)
put_in (Put q) = q
put_in (Answered answers) = []

module _ (s : JoinState) (o o2 : PlainOperator) (log : Closed) (side : Side) (it : Item) (outs : List (Entry Row)) (turn : IsTurn o o2 log side it outs) where
  outs_are : o.kind ≡ kind.Join → o.state ≡ state.Join s → put_out s side it ≡ outs
  outs_are h e = ap put_in (sym (ap₂ (λ (what : Kind) (held : State). outs_at what side it (near_of held side it)) h e) ∙ turn.puts)

  next_is : o.state ≡ state.Join s → o2.state ≡ state.Join (join.next s side it)
  next_is e = subst (λ (held : State). IsNext held side it (change_at o.kind it (near_of o.state side it)) o2.state) e turn.finished.state

-- keys and widths stay
record IsAlike (s s2 : JoinState) : Type 0 where
  keys : s2.keys ≡ s.keys
  left : s2.left.width ≡ s.left.width
  right : s2.right.width ≡ s.right.width

marks_alone : (s : JoinState) (b x y : Bool) → IsAlike s (cond b (with_marks s false false) (with_marks s x y))
marks_alone s true x y = record { keys = refl; left = refl; right = refl }
marks_alone s false x y = record { keys = refl; left = refl; right = refl }

next_alike : (s : JoinState) (side : Side) (it : Item) → IsAlike s (join.next s side it)
next_alike s Left (Rows t xs) = record { keys = refl; left = refl; right = refl }
next_alike s Right (Rows t xs) = record { keys = refl; left = refl; right = refl }
next_alike s Left (Tick t) = marks_alone s s.right.ticked true s.right.ticked
next_alike s Right (Tick t) = marks_alone s s.left.ticked s.left.ticked true

first_wide : (w : ℕ) (xs : List (Bool × Row)) → 0 < length xs → AreSigned w xs → width xs ≡ w
first_wide w [] l h = absurd (omega (arith, l))
first_wide w (x ∷ xs) l h = (All-head (λ (s : Bool × Row). IsRow w s.1) x xs h).wide

module _ (i j : ℕ) (keys : List plan.Key) (w : World) (ws : List ℕ) (ns : List plan.Node) (k : ℕ) where
  -- the join before a turn
  abbrev Before : PlainOperator → Closed → Cell → Input → Input → Type 0
  Before o log c d e = Stands w ws ns k (plan.Join i j keys) o log c d e

  abbrev Made : Cell → List (Entry Row) → PlainOperator → Closed → Type 0
  Made c outs o2 log = StepMade w ws ns k (plan.Join i j keys) c outs o2 log

  -- what is new after a turn with the item, where the state was s
  record JoinMade (s : JoinState) (o2 : PlainOperator) (log : Closed) (side : Side) (it : Item) (c : Cell) : Type 0 where
    left : List (Entry Row)
    right : List (Entry Row)
    left_bag : List Row
    right_bag : List Row
    shown : List Row
    opens : ℕ
    left_mark : Bool
    right_mark : Bool
    stands : joins.Stands (join.next s side it) left_bag right_bag
    left_ticked : (join.next s side it).left.ticked ≡ left_mark
    right_ticked : (join.next s side it).right.ticked ≡ right_mark
    left_queue : left ≡ waiting o2 log Left
    right_queue : right ≡ waiting o2 log Right
    left_wide : IsSideWide (width_at ws i) left_bag left
    right_wide : IsSideWide (width_at ws j) right_bag right
    left_few : StaysWithin (most_rows ns i) (count left_bag) left
    right_few : StaysWithin (most_rows ns j) (count right_bag) right
    turn : Turn w (nets.join (joining keys) i j) c (put_out s side it) (at_join left right left_bag right_bag shown opens left_mark right_mark)
    outs_wide : AreEntries (width_at ws k) (put_out s side it)
    outs_few : StaysWithin (most_rows ns k) (count (nets.cell_shown c)) (put_out s side it)

  module _ (o : PlainOperator) (log : Closed) (q r : List (Entry Row)) (l m b : List Row) (n : ℕ) (x y : Bool) (d e : Input) (s : Before o log (at_join q r l m b n x y) d e) where
    abbrev g : JoinState
    g = s.runs.held

    widths : (g.left.width ≡ width_at ws i) × (g.right.width ≡ width_at ws j)
    widths = subst (IsJoinWide (width_at ws i) (width_at ws j)) s.runs.state s.wide.state

    -- THE JOIN STANDS for the next cell
    made : (o2 : PlainOperator) (side : Side) (it : Item) (outs : List (Entry Row)) → IsTurn o o2 log side it outs
        → JoinMade g o2 log side it (at_join q r l m b n x y) → Made (at_join q r l m b n x y) outs o2 log
    made o2 side it outs turn h =
        let s2 : JoinState = join.next g side it in
        let c2 : Cell = at_join h.left h.right h.left_bag h.right_bag h.shown h.opens h.left_mark h.right_mark in
        let out : put_out g side it ≡ outs = outs_are g o o2 log side it outs turn s.runs.kind s.runs.state in
        let is : o2.state ≡ state.Join s2 = next_is g o o2 log side it outs turn s.runs.state in
        let alike : IsAlike g s2 = next_alike g side it in
        record {
          cell = c2;
          turn = subst (λ z. Turn w (nets.join (joining keys) i j) (at_join q r l m b n x y) z c2) out h.turn;
          runs = record {
            held = s2;
            kind = turn.finished.kind ∙ s.runs.kind;
            state = is;
            meets = λ ls rs. ap (λ ks. pairs.joined ks ls rs) alike.keys ∙ s.runs.meets ls rs;
            stands = h.stands;
            left_ticked = h.left_ticked;
            right_ticked = h.right_ticked;
            left_queue = h.left_queue;
            right_queue = h.right_queue;
          };
          wide = record {
            state = subst (IsJoinWide (width_at ws i) (width_at ws j)) (sym is) (alike.left ∙ widths.0, alike.right ∙ widths.1);
            sum = s.wide.sum;
            narrow = s.wide.narrow;
            left = h.left_wide;
            right = h.right_wide;
          };
          few = (h.left_few, h.right_few);
          outs_wide = subst (AreEntries (width_at ws k)) out h.outs_wide;
          outs_few = subst (StaysWithin (most_rows ns k) (count b)) out h.outs_few;
        }

    -- THE PAIRS of the bags that are taken are what has been put out, and no more than there is room for
    left_bound : (u : List Row) → count u ≤ most_rows ns i → weigh (λ x. count (met Right g.keys g.right x)) u ≤ most_rows ns k
    left_bound u h =
        let each : (x : Row) → count (met Right g.keys g.right x) ≤ count m = λ x. met_few Right g.keys g.right m x s.runs.stands.right in
        omega (arith, s.room.most, few_pairs (λ x. count (met Right g.keys g.right x)) (count m) (most_rows ns i) (most_rows ns j) each (stays_now r s.few.1) u h)

    right_bound : (u : List Row) → count u ≤ most_rows ns j → weigh (λ x. count (met Left g.keys g.left x)) u ≤ most_rows ns k
    right_bound u h =
        let each : (x : Row) → count (met Left g.keys g.left x) ≤ count l = λ x. met_few Left g.keys g.left l x s.runs.stands.left in
        let few : weigh (λ x. count (met Left g.keys g.left x)) u ≤ most_rows ns j * most_rows ns i =
        few_pairs (λ x. count (met Left g.keys g.left x)) (count l) (most_rows ns j) (most_rows ns i) each (stays_now q s.few.0) u h in
        omega (arith, s.room.most, few, mul_comm (most_rows ns i) (most_rows ns j))

    left_start : weigh (λ x. count (met Right g.keys g.right x)) l ≡ count b
    left_start = left_pairs_are g.keys g.right l m s.runs.stands.right ∙ ap count (s.runs.meets l m) ∙ sym (s.good.shows.weighs (λ x. 1))

    right_start : weigh (λ x. count (met Left g.keys g.left x)) m ≡ count b
    right_start = right_pairs_are g.keys g.left l m s.runs.stands.left ∙ ap count (s.runs.meets l m) ∙ sym (s.good.shows.weighs (λ x. 1))

    shown_few : count b ≤ most_rows ns k
    shown_few = omega (arith, left_start, left_bound l (stays_now q s.few.0))

  -- ROWS of the left side
  left_rows : (o o2 : PlainOperator) (log : Closed) (q r : List (Entry Row)) (l m b : List Row) (n : ℕ) (y : Bool) (d e : Input) (t : ℕ)
      (xs : List (Bool × Row))
      → (s : Before o log (at_join (batch t xs ++ q) r l m b n false y) d e) → 0 < length xs → q ≡ waiting o2 log Left → r ≡ waiting o2 log Right
      → JoinMade s.runs.held o2 log Left (Rows t xs) (at_join (batch t xs ++ q) r l m b n false y)
  left_rows o o2 log q r l m b n y d e t xs s some lq rq =
      let g : JoinState = s.runs.held in
      let legal : Legal l xs = Leads-front_legal t xs q s.good.left_edge in
      let a : After l xs = after xs l legal in
      let signed : AreSigned (width_at ws i) xs = entries_front (width_at ws i) t xs q s.wide.left.queue in
      let table : IsTable g.left.width xs = λ c f lt. (signed c f lt).wide ∙ sym (widths o log (batch t xs ++ q) r l m b n false y d e s).0 in
      let ys : List (Bool × Row) = join.pairs Left xs (matches g Left xs) in
      let law : Turns (pairs.joined g.keys l m) (joins.left_pairs g t xs) (pairs.joined g.keys a.bag m) × joins.Stands (join.next g Left (Rows t xs)) a.bag m =
      left_law g t xs l a.bag m s.runs.stands table legal a.adds in
      let turns : Turns (valued.joined keys l m) ys (valued.joined keys a.bag m) =
      subst (λ u. Turns u ys (valued.joined keys a.bag m)) (s.runs.meets l m)
      (subst (λ u. Turns (pairs.joined g.keys l m) ys u) (s.runs.meets a.bag m)
      (subst (λ zs. Turns (pairs.joined g.keys l m) zs (pairs.joined g.keys a.bag m)) (rows_in-batch t ys) law.0)) in
      let wide : (x : Row) → AreRows (width_at ws j) (met Right g.keys g.right x) =
      λ x. met_all (IsRow (width_at ws j)) Right g.keys g.right m x s.runs.stands.right s.wide.right.taken in
      let stay : StaysWithin (most_rows ns k) (weigh (λ x. count (met Right g.keys g.right x)) l) (batch t ys) =
      pairs_stay Left (met Right g.keys g.right) (most_rows ns i) (most_rows ns k) t
      (left_bound o log (batch t xs ++ q) r l m b n false y d e s) xs q l legal s.few.0 in
      record {
        left = q;
        right = r;
        left_bag = a.bag;
        right_bag = m;
        shown = valued.joined keys a.bag m;
        opens = n;
        left_mark = false;
        right_mark = y;
        stands = law.1;
        left_ticked = s.runs.left_ticked;
        right_ticked = s.runs.right_ticked;
        left_queue = lq;
        right_queue = rq;
        left_wide = record {
          taken = rows_after (width_at ws i) t xs q l a.bag legal a.adds s.wide.left.taken s.wide.left.queue;
          queue = entries_back (width_at ws i) t xs q s.wide.left.queue;
        };
        right_wide = s.wide.right;
        left_few = stays_after (most_rows ns i) t xs q l a.bag legal a.adds s.few.0;
        right_few = s.few.1;
        turn =
            left_rows_made w (joining keys) i j d.values e.values q r l m b n d.bag d.opens e.bag e.opens t xs ys a.bag y some
            (record { took = λ h. a.adds; puts = λ h. turns }) s.good;
        outs_wide = entries_alone (width_at ws k) t ys
            (pairs_wide Left (met Right g.keys g.right) (width_at ws i) (width_at ws j) (width_at ws k) (λ x y h f. beside_wide (width_at ws i) (width_at ws j) (width_at ws k) x y s.wide.sum h f) wide xs signed);
        outs_few = subst (λ z. StaysWithin (most_rows ns k) z (batch t ys)) (left_start o log (batch t xs ++ q) r l m b n false y d e s) stay;
      }

  -- ROWS of the right side
  right_rows : (o o2 : PlainOperator) (log : Closed) (q r : List (Entry Row)) (l m b : List Row) (n : ℕ) (x : Bool) (d e : Input) (t : ℕ)
      (xs : List (Bool × Row))
      → (s : Before o log (at_join q (batch t xs ++ r) l m b n x false) d e) → 0 < length xs → q ≡ waiting o2 log Left → r ≡ waiting o2 log Right
      → JoinMade s.runs.held o2 log Right (Rows t xs) (at_join q (batch t xs ++ r) l m b n x false)
  right_rows o o2 log q r l m b n x d e t xs s some lq rq =
      let g : JoinState = s.runs.held in
      let legal : Legal m xs = Leads-front_legal t xs r s.good.right_edge in
      let a : After m xs = after xs m legal in
      let signed : AreSigned (width_at ws j) xs = entries_front (width_at ws j) t xs r s.wide.right.queue in
      let table : IsTable g.right.width xs = λ c f lt. (signed c f lt).wide ∙ sym (widths o log q (batch t xs ++ r) l m b n x false d e s).1 in
      let ys : List (Bool × Row) = join.pairs Right xs (matches g Right xs) in
      let law : Turns (pairs.joined g.keys l m) (joins.right_pairs g t xs) (pairs.joined g.keys l a.bag) × joins.Stands (join.next g Right (Rows t xs)) l a.bag =
      right_law g t xs l m a.bag s.runs.stands table legal a.adds in
      let turns : Turns (valued.joined keys l m) ys (valued.joined keys l a.bag) =
      subst (λ u. Turns u ys (valued.joined keys l a.bag)) (s.runs.meets l m)
      (subst (λ u. Turns (pairs.joined g.keys l m) ys u) (s.runs.meets l a.bag)
      (subst (λ zs. Turns (pairs.joined g.keys l m) zs (pairs.joined g.keys l a.bag)) (rows_in-batch t ys) law.0)) in
      let wide : (x : Row) → AreRows (width_at ws i) (met Left g.keys g.left x) =
      λ x. met_all (IsRow (width_at ws i)) Left g.keys g.left l x s.runs.stands.left s.wide.left.taken in
      let stay : StaysWithin (most_rows ns k) (weigh (λ x. count (met Left g.keys g.left x)) m) (batch t ys) =
      pairs_stay Right (met Left g.keys g.left) (most_rows ns j) (most_rows ns k) t
      (right_bound o log q (batch t xs ++ r) l m b n x false d e s) xs r m legal s.few.1 in
      record {
        left = q;
        right = r;
        left_bag = l;
        right_bag = a.bag;
        shown = valued.joined keys l a.bag;
        opens = n;
        left_mark = x;
        right_mark = false;
        stands = law.1;
        left_ticked = s.runs.left_ticked;
        right_ticked = s.runs.right_ticked;
        left_queue = lq;
        right_queue = rq;
        left_wide = s.wide.left;
        right_wide = record {
          taken = rows_after (width_at ws j) t xs r m a.bag legal a.adds s.wide.right.taken s.wide.right.queue;
          queue = entries_back (width_at ws j) t xs r s.wide.right.queue;
        };
        left_few = s.few.0;
        right_few = stays_after (most_rows ns j) t xs r m a.bag legal a.adds s.few.1;
        turn =
            right_rows_made w (joining keys) i j d.values e.values q r l m b n d.bag d.opens e.bag e.opens t xs ys a.bag x some
            (record { took = λ h. a.adds; puts = λ h. turns }) s.good;
        outs_wide = entries_alone (width_at ws k) t ys
            (pairs_wide Right (met Left g.keys g.left) (width_at ws j) (width_at ws i) (width_at ws k) (λ x y h f. beside_wide (width_at ws i) (width_at ws j) (width_at ws k) y x s.wide.sum f h) wide xs signed);
        outs_few = subst (λ z. StaysWithin (most_rows ns k) z (batch t ys)) (right_start o log q (batch t xs ++ r) l m b n x false d e s) stay;
      }

  -- THE FIRST TICK of an instant, on the left side
  left_first : (o o2 : PlainOperator) (log : Closed) (q r : List (Entry Row)) (l m b : List Row) (n : ℕ) (d e : Input) (t : ℕ)
      → (s : Before o log (at_join (TickAt t ∷ q) r l m b n false false) d e)
      → q ≡ waiting o2 log Left → r ≡ waiting o2 log Right → JoinMade s.runs.held o2 log Left (Tick t) (at_join (TickAt t ∷ q) r l m b n false false)
  left_first o o2 log q r l m b n d e t s lq rq =
      let g : JoinState = s.runs.held in
      let next : JoinState = join.next g Left (Tick t) in
      let law : (put_out g Left (Tick t) ≡ []) × (next.left.ticked ≡ true) × (next.right.ticked ≡ false) = (tick_law g Left t).waits s.runs.right_ticked in
      let few : count b ≤ most_rows ns k = shown_few o log (TickAt t ∷ q) r l m b n false false d e s in
      let turn : Turn w (nets.join (joining keys) i j) (at_join (TickAt t ∷ q) r l m b n false false) ([]) (at_join q r l m b (n) true false) =
      left_first_made w (joining keys) i j d.values e.values q r l m b n d.bag d.opens e.bag e.opens t s.good in
      record {
        left = q;
        right = r;
        left_bag = l;
        right_bag = m;
        shown = b;
        opens = n;
        left_mark = true;
        right_mark = false;
        stands = (tick_law g Left t).stays l m s.runs.stands;
        left_ticked = law.1;
        right_ticked = law.2;
        left_queue = lq;
        right_queue = rq;
        left_wide = record { taken = s.wide.left.taken; queue = s.wide.left.queue };
        right_wide = s.wide.right;
        left_few = s.few.0.1;
        right_few = s.few.1;
        turn =
            subst (λ z. Turn w (nets.join (joining keys) i j) (at_join (TickAt t ∷ q) r l m b n false false) z (at_join q r l m b (n) true false))
            (sym law.0) turn;
        outs_wide = subst (AreEntries (width_at ws k)) (sym law.0) tt;
        outs_few = subst (StaysWithin (most_rows ns k) (count b)) (sym law.0) few;
      }

  -- THE SECOND TICK of an instant, on the left side
  left_last : (o o2 : PlainOperator) (log : Closed) (q r : List (Entry Row)) (l m b : List Row) (n : ℕ) (d e : Input) (t : ℕ)
      → (s : Before o log (at_join (TickAt t ∷ q) r l m b n false true) d e)
      → q ≡ waiting o2 log Left → r ≡ waiting o2 log Right → JoinMade s.runs.held o2 log Left (Tick t) (at_join (TickAt t ∷ q) r l m b n false true)
  left_last o o2 log q r l m b n d e t s lq rq =
      let g : JoinState = s.runs.held in
      let next : JoinState = join.next g Left (Tick t) in
      let law : (put_out g Left (Tick t) ≡ TickAt t ∷ []) × (next.left.ticked ≡ false) × (next.right.ticked ≡ false) =
      (tick_law g Left t).passes s.runs.right_ticked in
      let few : count b ≤ most_rows ns k = shown_few o log (TickAt t ∷ q) r l m b n false true d e s in
      let turn : Turn w (nets.join (joining keys) i j) (at_join (TickAt t ∷ q) r l m b n false true) (TickAt t ∷ []) (at_join q r l m b (n + 1) false false) =
      left_last_made w (joining keys) i j d.values e.values q r l m b n d.bag d.opens e.bag e.opens t s.good in
      record {
        left = q;
        right = r;
        left_bag = l;
        right_bag = m;
        shown = b;
        opens = n + 1;
        left_mark = false;
        right_mark = false;
        stands = (tick_law g Left t).stays l m s.runs.stands;
        left_ticked = law.1;
        right_ticked = law.2;
        left_queue = lq;
        right_queue = rq;
        left_wide = record { taken = s.wide.left.taken; queue = s.wide.left.queue };
        right_wide = s.wide.right;
        left_few = s.few.0.1;
        right_few = s.few.1;
        turn =
            subst (λ z. Turn w (nets.join (joining keys) i j) (at_join (TickAt t ∷ q) r l m b n false true) z (at_join q r l m b (n + 1) false false))
            (sym law.0) turn;
        outs_wide = subst (AreEntries (width_at ws k)) (sym law.0) tt;
        outs_few = subst (StaysWithin (most_rows ns k) (count b)) (sym law.0) (few, few);
      }

  -- THE FIRST TICK of an instant, on the right side
  right_first : (o o2 : PlainOperator) (log : Closed) (q r : List (Entry Row)) (l m b : List Row) (n : ℕ) (d e : Input) (t : ℕ)
      → (s : Before o log (at_join q (TickAt t ∷ r) l m b n false false) d e)
      → q ≡ waiting o2 log Left → r ≡ waiting o2 log Right → JoinMade s.runs.held o2 log Right (Tick t) (at_join q (TickAt t ∷ r) l m b n false false)
  right_first o o2 log q r l m b n d e t s lq rq =
      let g : JoinState = s.runs.held in
      let next : JoinState = join.next g Right (Tick t) in
      let law : (put_out g Right (Tick t) ≡ []) × (next.right.ticked ≡ true) × (next.left.ticked ≡ false) = (tick_law g Right t).waits s.runs.left_ticked in
      let few : count b ≤ most_rows ns k = shown_few o log q (TickAt t ∷ r) l m b n false false d e s in
      let turn : Turn w (nets.join (joining keys) i j) (at_join q (TickAt t ∷ r) l m b n false false) ([]) (at_join q r l m b (n) false true) =
      right_first_made w (joining keys) i j d.values e.values q r l m b n d.bag d.opens e.bag e.opens t s.good in
      record {
        left = q;
        right = r;
        left_bag = l;
        right_bag = m;
        shown = b;
        opens = n;
        left_mark = false;
        right_mark = true;
        stands = (tick_law g Right t).stays l m s.runs.stands;
        left_ticked = law.2;
        right_ticked = law.1;
        left_queue = lq;
        right_queue = rq;
        left_wide = s.wide.left;
        right_wide = record { taken = s.wide.right.taken; queue = s.wide.right.queue };
        left_few = s.few.0;
        right_few = s.few.1.1;
        turn =
            subst (λ z. Turn w (nets.join (joining keys) i j) (at_join q (TickAt t ∷ r) l m b n false false) z (at_join q r l m b (n) false true))
            (sym law.0) turn;
        outs_wide = subst (AreEntries (width_at ws k)) (sym law.0) tt;
        outs_few = subst (StaysWithin (most_rows ns k) (count b)) (sym law.0) few;
      }

  -- THE SECOND TICK of an instant, on the right side
  right_last : (o o2 : PlainOperator) (log : Closed) (q r : List (Entry Row)) (l m b : List Row) (n : ℕ) (d e : Input) (t : ℕ)
      → (s : Before o log (at_join q (TickAt t ∷ r) l m b n true false) d e)
      → q ≡ waiting o2 log Left → r ≡ waiting o2 log Right → JoinMade s.runs.held o2 log Right (Tick t) (at_join q (TickAt t ∷ r) l m b n true false)
  right_last o o2 log q r l m b n d e t s lq rq =
      let g : JoinState = s.runs.held in
      let next : JoinState = join.next g Right (Tick t) in
      let law : (put_out g Right (Tick t) ≡ TickAt t ∷ []) × (next.right.ticked ≡ false) × (next.left.ticked ≡ false) =
      (tick_law g Right t).passes s.runs.left_ticked in
      let few : count b ≤ most_rows ns k = shown_few o log q (TickAt t ∷ r) l m b n true false d e s in
      let turn : Turn w (nets.join (joining keys) i j) (at_join q (TickAt t ∷ r) l m b n true false) (TickAt t ∷ []) (at_join q r l m b (n + 1) false false) =
      right_last_made w (joining keys) i j d.values e.values q r l m b n d.bag d.opens e.bag e.opens t s.good in
      record {
        left = q;
        right = r;
        left_bag = l;
        right_bag = m;
        shown = b;
        opens = n + 1;
        left_mark = false;
        right_mark = false;
        stands = (tick_law g Right t).stays l m s.runs.stands;
        left_ticked = law.2;
        right_ticked = law.1;
        left_queue = lq;
        right_queue = rq;
        left_wide = s.wide.left;
        right_wide = record { taken = s.wide.right.taken; queue = s.wide.right.queue };
        left_few = s.few.0;
        right_few = s.few.1.1;
        turn =
            subst (λ z. Turn w (nets.join (joining keys) i j) (at_join q (TickAt t ∷ r) l m b n true false) z (at_join q r l m b (n + 1) false false))
            (sym law.0) turn;
        outs_wide = subst (AreEntries (width_at ws k)) (sym law.0) tt;
        outs_few = subst (StaysWithin (most_rows ns k) (count b)) (sym law.0) (few, few);
      }

  -- the item stands first on the left side
  on_left : (o o2 : PlainOperator) (log : Closed) (q r : List (Entry Row)) (l m b : List Row) (n : ℕ) (x y : Bool) (d e : Input) (it : Item)
      (outs : List (Entry Row))
      → Before o log (at_join q r l m b n x y) d e → (f : IsFirst o log Left it) → IsTurn o o2 log Left it outs
      → ((s : Before o log (at_join (entries_of it ++ f.rest) r l m b n x y) d e) → f.rest ≡ waiting o2 log Left → r ≡ waiting o2 log Right
      → JoinMade s.runs.held o2 log Left it (at_join (entries_of it ++ f.rest) r l m b n x y)) → Made (at_join q r l m b n x y) outs o2 log
  on_left o o2 log q r l m b n x y d e it outs s f turn new =
      let front : q ≡ entries_of it ++ f.rest = s.runs.left_queue ∙ f.is in
      let here : Before o log (at_join (entries_of it ++ f.rest) r l m b n x y) d e = subst (λ z. Before o log (at_join z r l m b n x y) d e) front s in
      subst (λ z. Made (at_join z r l m b n x y) outs o2 log) (sym front)
      (made o log (entries_of it ++ f.rest) r l m b n x y d e here o2 Left it outs turn
      (new here (rest_waits o o2 log Left it _ f turn.finished) (s.runs.right_queue ∙ sym (other_waits o o2 log Left it _ turn.finished))))

  -- the item stands first on the right side
  on_right : (o o2 : PlainOperator) (log : Closed) (q r : List (Entry Row)) (l m b : List Row) (n : ℕ) (x y : Bool) (d e : Input) (it : Item)
      (outs : List (Entry Row))
      → Before o log (at_join q r l m b n x y) d e → (f : IsFirst o log Right it) → IsTurn o o2 log Right it outs
      → ((s : Before o log (at_join q (entries_of it ++ f.rest) l m b n x y) d e) → q ≡ waiting o2 log Left → f.rest ≡ waiting o2 log Right
      → JoinMade s.runs.held o2 log Right it (at_join q (entries_of it ++ f.rest) l m b n x y)) → Made (at_join q r l m b n x y) outs o2 log
  on_right o o2 log q r l m b n x y d e it outs s f turn new =
      let front : r ≡ entries_of it ++ f.rest = s.runs.right_queue ∙ f.is in
      let here : Before o log (at_join q (entries_of it ++ f.rest) l m b n x y) d e = subst (λ z. Before o log (at_join q z l m b n x y) d e) front s in
      subst (λ z. Made (at_join q z l m b n x y) outs o2 log) (sym front)
      (made o log q (entries_of it ++ f.rest) l m b n x y d e here o2 Right it outs turn
      (new here (s.runs.left_queue ∙ sym (other_waits o o2 log Right it _ turn.finished)) (rest_waits o o2 log Right it _ f turn.finished)))

-- a side that has ticked cannot be used
ticked_out : (s : JoinState) (o : PlainOperator) (side : Side) → o.state ≡ state.Join s → usable o.state side ≡ true → (side_of s side).ticked ≡ true → ⊥
ticked_out s o side e h t = untrue (sym (ap not t) ∙ subst (λ (held : State). usable held side ≡ true) e h)

pub join_steps : (i j : ℕ) (keys : List plan.Key) → StepLaw (plan.Join i j keys)
join_steps i j keys w ws ns k o o2 log (at_window h u b q n) d e side it outs s f puts fin = absurd s.runs
join_steps i j keys w ws ns k o o2 log (at_unary q t b n) d e side it outs s f puts fin = absurd s.runs
join_steps i j keys w ws ns k o o2 log (at_join q r l m b n true y) d e Left it outs s f puts fin =
    absurd (ticked_out s.runs.held o Left s.runs.state f.usable s.runs.left_ticked)
join_steps i j keys w ws ns k o o2 log (at_join q r l m b n x true) d e Right it outs s f puts fin =
    absurd (ticked_out s.runs.held o Right s.runs.state f.usable s.runs.right_ticked)
join_steps i j keys w ws ns k o o2 log (at_join q r l m b n false y) d e Left (Rows t xs) outs s f puts fin =
    on_left i j keys w ws ns k o o2 log q r l m b n false y d e (Rows t xs) outs s f (record { puts = puts; finished = fin })
    (λ here lq rq. left_rows i j keys w ws ns k o o2 log f.rest r l m b n y d e t xs here (omega (arith, f.some, length-map xs (RowAt t))) lq rq)
join_steps i j keys w ws ns k o o2 log (at_join q r l m b n false false) d e Left (Tick t) outs s f puts fin =
    on_left i j keys w ws ns k o o2 log q r l m b n false false d e (Tick t) outs s f (record { puts = puts; finished = fin })
    (λ here lq rq. left_first i j keys w ws ns k o o2 log f.rest r l m b n d e t here lq rq)
join_steps i j keys w ws ns k o o2 log (at_join q r l m b n false true) d e Left (Tick t) outs s f puts fin =
    on_left i j keys w ws ns k o o2 log q r l m b n false true d e (Tick t) outs s f (record { puts = puts; finished = fin })
    (λ here lq rq. left_last i j keys w ws ns k o o2 log f.rest r l m b n d e t here lq rq)
join_steps i j keys w ws ns k o o2 log (at_join q r l m b n x false) d e Right (Rows t xs) outs s f puts fin =
    on_right i j keys w ws ns k o o2 log q r l m b n x false d e (Rows t xs) outs s f (record { puts = puts; finished = fin })
    (λ here lq rq. right_rows i j keys w ws ns k o o2 log q f.rest l m b n x d e t xs here (omega (arith, f.some, length-map xs (RowAt t))) lq rq)
join_steps i j keys w ws ns k o o2 log (at_join q r l m b n false false) d e Right (Tick t) outs s f puts fin =
    on_right i j keys w ws ns k o o2 log q r l m b n false false d e (Tick t) outs s f (record { puts = puts; finished = fin })
    (λ here lq rq. right_first i j keys w ws ns k o o2 log q f.rest l m b n d e t here lq rq)
join_steps i j keys w ws ns k o o2 log (at_join q r l m b n true false) d e Right (Tick t) outs s f puts fin =
    on_right i j keys w ws ns k o o2 log q r l m b n true false d e (Tick t) outs s f (record { puts = puts; finished = fin })
    (λ here lq rq. right_last i j keys w ws ns k o o2 log q f.rest l m b n d e t here lq rq)

-- THE ITEM MAY BE TAKEN: its rows are as wide as its side's, and the side stays below 2^62 rows
item_wide : (w c : ℕ) (it : Item) (q rest : List (Entry Row)) → q ≡ entries_of it ++ rest → 0 < length (entries_of it) → AreEntries w q → c ≡ w
    → join.IsItemWide c it
item_wide w c (Rows t xs) q rest e l h k =
    first_wide w xs (omega (arith, l, length-map xs (RowAt t))) (entries_front w t xs rest (subst (AreEntries w) e h)) ∙ sym k
item_wide w c (Tick t) q rest e l h k = tt

item_room : (held : SideState) (it : Item) → length (entries_of it) ≤ 1024 → length held.rows ≤ 2 ^ 61 → join.HasRoom held it
item_room held (Rows t xs) l h = omega (arith, l, h, length-map xs (RowAt t))
item_room held (Tick t) l h = tt

-- its rows that leave are among those that its side has taken
leaves_left : {v : ℕ → List Row} {n k : ℕ} {c : List Row} (g : JoinState) (l m : List Row) (it : Item) (rest : List (Entry Row)) → joins.Stands g l m → Leads v l n (entries_of it ++ rest) c k → joins.MayLeave g Left it
leaves_left g l m (Rows t xs) rest st h = record { left = l; right = m; stands = st; legal = Leads-front_legal t xs rest h }
leaves_left g l m (Tick t) rest st h = tt

leaves_right : {v : ℕ → List Row} {n k : ℕ} {c : List Row} (g : JoinState) (l m : List Row) (it : Item) (rest : List (Entry Row)) → joins.Stands g l m → Leads v m n (entries_of it ++ rest) c k → joins.MayLeave g Right it
leaves_right g l m (Rows t xs) rest st h = record { left = l; right = m; stands = st; legal = Leads-front_legal t xs rest h }
leaves_right g l m (Tick t) rest st h = tt

pub join_may : (i j : ℕ) (keys : List plan.Key) → MayLaw (plan.Join i j keys)
join_may i j keys w ws ns k o log (at_window h u b q n) d e side it s f = absurd s.runs
join_may i j keys w ws ns k o log (at_unary q t b n) d e side it s f = absurd s.runs
join_may i j keys w ws ns k o log (at_join q r l m b n x y) d e Left it s f =
    let g : JoinState = s.runs.held in
    let widths : (g.left.width ≡ width_at ws i) × (g.right.width ≡ width_at ws j) =
    subst (IsJoinWide (width_at ws i) (width_at ws j)) s.runs.state s.wide.state in
    record {
      columns =
          subst (λ (held : State). HasColumns held Left it) (sym s.runs.state)
          (item_wide (width_at ws i) g.left.width it q f.rest (s.runs.left_queue ∙ f.is) f.some s.wide.left.queue widths.0);
      named = subst (λ (what : Kind). HasNamedColumns what it) (sym s.runs.kind) tt;
      takes = subst (λ (held : State). Takes held Left it (change_at o.kind it (near_of held Left it))) (sym s.runs.state)
          (item_room g.left it f.few (omega (arith, side_few Left g.keys g.left l s.runs.stands.left, stays_now q s.few.0, s.room.always i)));
      stood = subst (λ (held : State). HasStood held Left it) (sym s.runs.state) (leaves_left g l m it f.rest s.runs.stands (subst (λ (es : List (Entry Row)). Leads d.values l (past x n) es d.bag d.opens) (s.runs.left_queue ∙ f.is) s.good.left_edge));
    }
join_may i j keys w ws ns k o log (at_join q r l m b n x y) d e Right it s f =
    let g : JoinState = s.runs.held in
    let widths : (g.left.width ≡ width_at ws i) × (g.right.width ≡ width_at ws j) =
    subst (IsJoinWide (width_at ws i) (width_at ws j)) s.runs.state s.wide.state in
    record {
      columns =
          subst (λ (held : State). HasColumns held Right it) (sym s.runs.state)
          (item_wide (width_at ws j) g.right.width it r f.rest (s.runs.right_queue ∙ f.is) f.some s.wide.right.queue widths.1);
      named = subst (λ (what : Kind). HasNamedColumns what it) (sym s.runs.kind) tt;
      takes = subst (λ (held : State). Takes held Right it (change_at o.kind it (near_of held Right it))) (sym s.runs.state)
          (item_room g.right it f.few (omega (arith, side_few Right g.keys g.right m s.runs.stands.right, stays_now r s.few.1, s.room.always j)));
      stood = subst (λ (held : State). HasStood held Right it) (sym s.runs.state) (leaves_right g l m it f.rest s.runs.stands (subst (λ (es : List (Entry Row)). Leads e.values m (past y n) es e.bag e.opens) (s.runs.right_queue ∙ f.is) s.good.right_edge));
    }
