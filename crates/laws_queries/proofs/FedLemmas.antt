-- An operator whose queue gains what another has put out.
use Rattle.std.proofs.Common.{◌≡◌, ℕ, true, false, true≢false, inl, inr, List, ◌++◌, sym, ap, ◌∙◌, subst, subst₂}
use Rattle.values.specs.Row.{Row}
use Rattle.column.specs.declared.batch.Side.{Side}
use Rattle.column.specs.declared.batch.Side.TheVariants.{Left, Right}
use Rattle.op_queue.specs.Entries.{Entry}
use Rattle.op_queue.specs.Forward.{IsForward}
use Rattle.op_queue.specs.Logs.{Closed}
use Rattle.op_queue.proofs.PathLemmas.{Leads-append, Leads-forward}
use Rattle.op_queue.specs.Paths.{Leads}
use Rattle.operators.specs.Inboxes.{is_fed, queued}
use Rattle.operators.specs.Ready.{PlainOperator, entries_in, inbox_of, waiting}
use Rattle.operators.specs.Operators.{IsFed, other}
use Rattle.operators.proofs.InboxLemmas.{entries_fed}
use Rattle.plan.specs.Nodes as plan
use Rattle.plan.specs.Nodes.{Window, Select, Join, Project, Group, Distinct, ToStream}
use Rattle.laws_dataflow.specs.Nets.{World, Cell, at_window, at_unary, at_join, Feeds, to_unary, to_left, to_right, GoodCell, Input, left_of, right_of}
use Rattle.laws_dataflow.specs.Operators.{node_of}
use Rattle.laws_queries.specs.Runs.{Runs}
use Rattle.laws_queries.specs.Widths.{IsGroupWide, IsWide, AreEntries, IsSideWide, IsKindWide, IsJoinWide, width_at}
use Rattle.laws_queries.specs.Counts.{AreFew, StaysWithin, count, most_rows}
use Rattle.laws_queries.proofs.FeedLemmas.{few_append, wide_append}
use Rattle.laws_queries.proofs.WireLemmas.{TakesAt}

-- the cell with the entries at the end of the side's queue
abbrev pub fed_on : Side → List (Entry Row) → Cell → Cell
fed_on side outs (at_window h e b q n) = at_window h e b q n
fed_on side outs (at_unary q t b n) = at_unary (q ++ outs) t b n
fed_on Left outs (at_join q r l m b n x y) = at_join (q ++ outs) r l m b n x y
fed_on Right outs (at_join q r l m b n x y) = at_join q (r ++ outs) l m b n x y

untrue : {A : Type 0} → false ≡ true → A
untrue h = absurd (true≢false (sym h))

-- A TURN OF THE NET feeds it
pub feeds_on : (w : World) (k : ℕ) (node : plan.Node) (side : Side) (outs : List (Entry Row)) (c : Cell) (d e : Input) → TakesAt k node side → GoodCell w (node_of node) c d e → Feeds k outs (node_of node) c (fed_on side outs c)
feeds_on w k (Window s) side outs c d e t g = absurd t
feeds_on w k (Select j cs) side outs (at_window h es b q n) d e t g = absurd g
feeds_on w k (Select j cs) side outs (at_unary q i b n) d e t g = subst (λ z. Feeds k outs (node_of (Select z cs)) (at_unary q i b n) (at_unary (q ++ outs) i b n)) (sym t.0) (to_unary _ q i b n)
feeds_on w k (Select j cs) side outs (at_join q r l m b n x y) d e t g = absurd g
feeds_on w k (Join i j ks) side outs (at_window h es b q n) d e t g = absurd g
feeds_on w k (Join i j ks) side outs (at_unary q u b n) d e t g = absurd g
feeds_on w k (Join i j ks) side outs (at_join q r l m b n x y) d e (inl t) g =
    subst₂ (λ z s. Feeds k outs (node_of (Join z j ks)) (at_join q r l m b n x y) (fed_on s outs (at_join q r l m b n x y))) (sym t.0) (sym t.2) (to_left _ j q r l m b n x y t.1)
feeds_on w k (Join i j ks) side outs (at_join q r l m b n x y) d e (inr t) g =
    subst₂ (λ z s. Feeds k outs (node_of (Join i z ks)) (at_join q r l m b n x y) (fed_on s outs (at_join q r l m b n x y))) (sym t.0) (sym t.2) (to_right _ i q r l m b n x y t.1)
feeds_on w k (Project j columns) side outs (at_window h es b q n) d e t g = absurd g
feeds_on w k (Project j columns) side outs (at_unary q i b n) d e t g = subst (λ z. Feeds k outs (node_of (Project z columns)) (at_unary q i b n) (at_unary (q ++ outs) i b n)) (sym t.0) (to_unary _ q i b n)
feeds_on w k (Project j columns) side outs (at_join q r l m b n x y) d e t g = absurd g
feeds_on w k (Group j by items) side outs (at_window h es b q n) d e t g = absurd g
feeds_on w k (Group j by items) side outs (at_unary q i b n) d e t g = subst (λ z. Feeds k outs (node_of (Group z by items)) (at_unary q i b n) (at_unary (q ++ outs) i b n)) (sym t.0) (to_unary _ q i b n)
feeds_on w k (Group j by items) side outs (at_join q r l m b n x y) d e t g = absurd g
feeds_on w k (Distinct j) side outs (at_window h es b q n) d e t g = absurd g
feeds_on w k (Distinct j) side outs (at_unary q i b n) d e t g = subst (λ z. Feeds k outs (node_of (Distinct z)) (at_unary q i b n) (at_unary (q ++ outs) i b n)) (sym t.0) (to_unary _ q i b n)
feeds_on w k (Distinct j) side outs (at_join q r l m b n x y) d e t g = absurd g
feeds_on w k (ToStream j op) side outs (at_window h es b q n) d e t g = absurd g
feeds_on w k (ToStream j op) side outs (at_unary q i b n) d e t g = subst (λ z. Feeds k outs (node_of (ToStream z op)) (at_unary q i b n) (at_unary (q ++ outs) i b n)) (sym t.0) (to_unary _ q i b n)
feeds_on w k (ToStream j op) side outs (at_join q r l m b n x y) d e t g = absurd g

-- WHAT WAITS for it
module _ (o o2 : PlainOperator) (side : Side) (outs : List (Entry Row)) (f : IsFed o side outs o2) (fed : is_fed (inbox_of o side) ≡ true) (log : Closed) where
  -- at the side: what waited, and the entries
  pub waits_more : waiting o2 log side ≡ waiting o log side ++ outs
  waits_more = entries_fed (inbox_of o2 side) log (f.fed ∙ fed) ∙ f.queued ∙ ap (λ q. q ++ outs) (sym (entries_fed (inbox_of o side) log fed))

  -- at the other side what waited
  pub waits_same : waiting o2 log (other side) ≡ waiting o log (other side)
  waits_same = ap (λ i. entries_in i log) f.other

pub left_more : (o o2 : PlainOperator) (side : Side) (outs : List (Entry Row)) (log : Closed) → side ≡ Left → IsFed o side outs o2 → is_fed (inbox_of o side) ≡ true → waiting o2 log Left ≡ waiting o log Left ++ outs
left_more o o2 side outs log e f fed = subst (λ s. waiting o2 log s ≡ waiting o log s ++ outs) e (waits_more o o2 side outs f fed log)

-- IT STANDS for the cell with the entries
pub runs_fed : (w : World) (width k : ℕ) (node : plan.Node) (side : Side) (outs : List (Entry Row)) (o o2 : PlainOperator) (log : Closed) (c : Cell) → TakesAt k node side → IsFed o side outs o2 → is_fed (inbox_of o side) ≡ true → Runs w width node o log c → Runs w width node o2 log (fed_on side outs c)
runs_fed w width k (Window s) side outs o o2 log c t f fed r = absurd t
runs_fed w width k (Select j cs) side outs o o2 log (at_window h es b q n) t f fed r = absurd r
runs_fed w width k (Select j cs) side outs o o2 log (at_unary q i b n) t f fed r =
    record { steps = r.steps; kind = f.kind ∙ r.kind; state = f.state ∙ r.state; tell = r.tell; queue = ap (λ x. x ++ outs) r.queue ∙ sym (left_more o o2 side outs log t.1 f fed) }
runs_fed w width k (Select j cs) side outs o o2 log (at_join q s l m b n x y) t f fed r = absurd r
runs_fed w width k (Join i j ks) side outs o o2 log (at_window h es b q n) t f fed r = absurd r
runs_fed w width k (Join i j ks) side outs o o2 log (at_unary q u b n) t f fed r = absurd r
runs_fed w width k (Join i j ks) side outs o o2 log (at_join q s l m b n x y) (inl t) f fed r =
    let g : IsFed o Left outs o2 = subst (λ z. IsFed o z outs o2) t.2 f in
    let h : is_fed (inbox_of o Left) ≡ true = subst (λ z. is_fed (inbox_of o z) ≡ true) t.2 fed in
    subst (λ z. Runs w width (Join i j ks) o2 log (fed_on z outs (at_join q s l m b n x y))) (sym t.2)
    (record {
      held = r.held;
      kind = f.kind ∙ r.kind;
      state = f.state ∙ r.state;
      meets = r.meets;
      stands = r.stands;
      left_ticked = r.left_ticked;
      right_ticked = r.right_ticked;
      left_queue = ap (λ x. x ++ outs) r.left_queue ∙ sym (waits_more o o2 Left outs g h log);
      right_queue = r.right_queue ∙ sym (waits_same o o2 Left outs g h log);
    })
runs_fed w width k (Join i j ks) side outs o o2 log (at_join q s l m b n x y) (inr t) f fed r =
    let g : IsFed o Right outs o2 = subst (λ z. IsFed o z outs o2) t.2 f in
    let h : is_fed (inbox_of o Right) ≡ true = subst (λ z. is_fed (inbox_of o z) ≡ true) t.2 fed in
    subst (λ z. Runs w width (Join i j ks) o2 log (fed_on z outs (at_join q s l m b n x y))) (sym t.2)
    (record {
      held = r.held;
      kind = f.kind ∙ r.kind;
      state = f.state ∙ r.state;
      meets = r.meets;
      stands = r.stands;
      left_ticked = r.left_ticked;
      right_ticked = r.right_ticked;
      left_queue = r.left_queue ∙ sym (waits_same o o2 Right outs g h log);
      right_queue = ap (λ x. x ++ outs) r.right_queue ∙ sym (waits_more o o2 Right outs g h log);
    })
runs_fed w width k (Project j columns) side outs o o2 log (at_window h es b q n) t f fed r = absurd r
runs_fed w width k (Project j columns) side outs o o2 log (at_unary q i b n) t f fed r =
    record { places = r.places; kind = f.kind ∙ r.kind; state = f.state ∙ r.state; listed = r.listed; queue = ap (λ x. x ++ outs) r.queue ∙ sym (left_more o o2 side outs log t.1 f fed) }
runs_fed w width k (Project j columns) side outs o o2 log (at_join q s l m b n x y) t f fed r = absurd r
runs_fed w width k (Group j by items) side outs o o2 log (at_window h es b q n) t f fed r = absurd r
runs_fed w width k (Group j by items) side outs o o2 log (at_unary q i b n) t f fed r =
    record { held = r.held; kind = f.kind ∙ r.kind; state = f.state ∙ r.state; keyed = r.keyed; listed = r.listed; stands = r.stands; few = r.few; queue = ap (λ x. x ++ outs) r.queue ∙ sym (left_more o o2 side outs log t.1 f fed) }
runs_fed w width k (Group j by items) side outs o o2 log (at_join q s l m b n x y) t f fed r = absurd r
runs_fed w width k (Distinct j) side outs o o2 log (at_window h es b q n) t f fed r = absurd r
runs_fed w width k (Distinct j) side outs o o2 log (at_unary q i b n) t f fed r =
    record { held = r.held; kind = f.kind ∙ r.kind; state = f.state ∙ r.state; all = r.all; some = r.some; stands = r.stands; few = r.few; queue = ap (λ x. x ++ outs) r.queue ∙ sym (left_more o o2 side outs log t.1 f fed) }
runs_fed w width k (Distinct j) side outs o o2 log (at_join q s l m b n x y) t f fed r = absurd r
runs_fed w width k (ToStream j op) side outs o o2 log c t f fed r = absurd r

-- WIDTHS: rows come of as many columns as those of the operator k
module _ (ws : List ℕ) (k : ℕ) (outs : List (Entry Row)) (wide : AreEntries (width_at ws k) outs) where
  side_fed : (i : ℕ) (t : List Row) (q : List (Entry Row)) → i ≡ k → IsSideWide (width_at ws i) t q → IsSideWide (width_at ws i) t (q ++ outs)
  side_fed i t q e s = record { taken = s.taken; queue = wide_append (width_at ws i) q outs s.queue (subst (λ z. AreEntries (width_at ws z) outs) (sym e) wide) }

  group_fed : (to j : ℕ) (o o2 : PlainOperator) (i b : List Row) (q : List (Entry Row)) → j ≡ k → o2.kind ≡ o.kind → IsGroupWide (width_at ws j) (width_at ws to) o i b q → IsGroupWide (width_at ws j) (width_at ws to) o2 i b (q ++ outs)
  group_fed to j o o2 i b q e f r =
      record { one = record { kind = subst (IsKindWide (width_at ws j) (width_at ws to)) (sym f) r.one.kind; narrow = r.one.narrow; side = side_fed j i q e r.one.side }; puts = r.puts }

  pub wide_fed : (to : ℕ) (node : plan.Node) (side : Side) (o o2 : PlainOperator) (c : Cell) → TakesAt k node side → IsFed o side outs o2 → IsWide ws to node o c → IsWide ws to node o2 (fed_on side outs c)
  wide_fed to (Window s) side o o2 c t f r = absurd t
  wide_fed to (Select j cs) side o o2 (at_window h es b q n) t f r = absurd r
  wide_fed to (Select j cs) side o o2 (at_unary q i b n) t f r = record { kind = subst (IsKindWide (width_at ws j) (width_at ws to)) (sym f.kind) r.kind; narrow = r.narrow; side = side_fed j i q t.0 r.side }
  wide_fed to (Select j cs) side o o2 (at_join q s l m b n x y) t f r = absurd r
  wide_fed to (Join i j ks) side o o2 (at_window h es b q n) t f r = absurd r
  wide_fed to (Join i j ks) side o o2 (at_unary q u b n) t f r = absurd r
  wide_fed to (Join i j ks) side o o2 (at_join q s l m b n x y) (inl t) f r =
      subst (λ z. IsWide ws to (Join i j ks) o2 (fed_on z outs (at_join q s l m b n x y))) (sym t.2)
      (record { state = subst (IsJoinWide (width_at ws i) (width_at ws j)) (sym f.state) r.state; sum = r.sum; narrow = r.narrow; left = side_fed i l q t.0 r.left; right = r.right })
  wide_fed to (Join i j ks) side o o2 (at_join q s l m b n x y) (inr t) f r =
      subst (λ z. IsWide ws to (Join i j ks) o2 (fed_on z outs (at_join q s l m b n x y))) (sym t.2)
      (record { state = subst (IsJoinWide (width_at ws i) (width_at ws j)) (sym f.state) r.state; sum = r.sum; narrow = r.narrow; left = r.left; right = side_fed j m s t.0 r.right })
  wide_fed to (Project j columns) side o o2 (at_window h es b q n) t f r = absurd r
  wide_fed to (Project j columns) side o o2 (at_unary q i b n) t f r = record { kind = subst (IsKindWide (width_at ws j) (width_at ws to)) (sym f.kind) r.kind; narrow = r.narrow; side = side_fed j i q t.0 r.side }
  wide_fed to (Project j columns) side o o2 (at_join q s l m b n x y) t f r = absurd r
  wide_fed to (Group j by items) side o o2 (at_window h es b q n) t f r = absurd r
  wide_fed to (Group j by items) side o o2 (at_unary q i b n) t f r = group_fed to j o o2 i b q t.0 f.kind r
  wide_fed to (Group j by items) side o o2 (at_join q s l m b n x y) t f r = absurd r
  wide_fed to (Distinct j) side o o2 (at_window h es b q n) t f r = absurd r
  wide_fed to (Distinct j) side o o2 (at_unary q i b n) t f r = record { group = group_fed to j o o2 i b q t.0 f.kind r.group; same = r.same }
  wide_fed to (Distinct j) side o o2 (at_join q s l m b n x y) t f r = absurd r
  wide_fed to (ToStream j op) side o o2 c t f r = absurd r

-- COUNTS: from what the operator k has put out on they stay within the bounds
module _ (w : World) (ns : List plan.Node) (k : ℕ) (outs : List (Entry Row)) (ch : ℕ → Input) (few : StaysWithin (most_rows ns k) (count (ch k).bag) outs) where
  bound_at : (i : ℕ) → i ≡ k → StaysWithin (most_rows ns i) (count (ch i).bag) outs
  bound_at i e = subst (λ z. StaysWithin (most_rows ns z) (count (ch z).bag) outs) (sym e) few

  pub few_fed : (node : plan.Node) (side : Side) (c : Cell) → TakesAt k node side → GoodCell w (node_of node) c (ch (left_of (node_of node))) (ch (right_of (node_of node))) → AreFew w ns node c → AreFew w ns node (fed_on side outs c)
  few_fed (Window s) side c t g r = absurd t
  few_fed (Select j cs) side (at_window h es b q n) t g r = absurd r
  few_fed (Select j cs) side (at_unary q i b n) t g r = few_append (most_rows ns j) _ i _ _ _ q outs g.edge r (bound_at j t.0)
  few_fed (Select j cs) side (at_join q s l m b n x y) t g r = absurd r
  few_fed (Join i j ks) side (at_window h es b q n) t g r = absurd r
  few_fed (Join i j ks) side (at_unary q u b n) t g r = absurd r
  few_fed (Join i j ks) side (at_join q s l m b n x y) (inl t) g r =
      subst (λ z. AreFew w ns (Join i j ks) (fed_on z outs (at_join q s l m b n x y))) (sym t.2) (few_append (most_rows ns i) _ l _ _ _ q outs g.left_edge r.0 (bound_at i t.0), r.1)
  few_fed (Join i j ks) side (at_join q s l m b n x y) (inr t) g r =
      subst (λ z. AreFew w ns (Join i j ks) (fed_on z outs (at_join q s l m b n x y))) (sym t.2) (r.0, few_append (most_rows ns j) _ m _ _ _ s outs g.right_edge r.1 (bound_at j t.0))
  few_fed (Project j columns) side (at_window h es b q n) t g r = absurd r
  few_fed (Project j columns) side (at_unary q i b n) t g r = few_append (most_rows ns j) _ i _ _ _ q outs g.edge r (bound_at j t.0)
  few_fed (Project j columns) side (at_join q s l m b n x y) t g r = absurd r
  few_fed (Group j by items) side (at_window h es b q n) t g r = absurd r
  few_fed (Group j by items) side (at_unary q i b n) t g r = (few_append (most_rows ns j) _ i _ _ _ q outs g.edge r.0 (bound_at j t.0), r.1)
  few_fed (Group j by items) side (at_join q s l m b n x y) t g r = absurd r
  few_fed (Distinct j) side (at_window h es b q n) t g r = absurd r
  few_fed (Distinct j) side (at_unary q i b n) t g r = (few_append (most_rows ns j) _ i _ _ _ q outs g.edge r.0 (bound_at j t.0), r.1)
  few_fed (Distinct j) side (at_join q s l m b n x y) t g r = absurd r
  few_fed (ToStream j op) side c t g r = absurd r

-- INSTANTS never go back in its queue, with the entries that lead on from what the operator k has put out
pub forward_on : (o : PlainOperator) (log : Closed) (side at : Side) (q outs : List (Entry Row)) → side ≡ at → q ≡ waiting o log at → is_fed (inbox_of o side) ≡ true → IsForward (q ++ outs) → IsForward (queued (inbox_of o side) ++ outs)
forward_on o log side at q outs e is fed h = subst (λ l. IsForward (l ++ outs)) (is ∙ ap (waiting o log) (sym e) ∙ entries_fed (inbox_of o side) log fed) h

from_input : (ch : ℕ → Input) (j k : ℕ) (outs : List (Entry Row)) (b2 : List Row) (n2 : ℕ) → j ≡ k → Leads (ch k).values (ch k).bag (ch k).opens outs b2 n2 → Leads (ch j).values (ch j).bag (ch j).opens outs b2 n2
from_input ch j k outs b2 n2 e l = subst (λ z. Leads (ch z).values (ch z).bag (ch z).opens outs b2 n2) (sym e) l

pub forward_fed : (w : World) (width k : ℕ) (node : plan.Node) (side : Side) (outs : List (Entry Row)) (o : PlainOperator) (log : Closed) (c : Cell) (ch : ℕ → Input) (b2 : List Row) (n2 : ℕ) → TakesAt k node side → is_fed (inbox_of o side) ≡ true
    → Leads (ch k).values (ch k).bag (ch k).opens outs b2 n2 → Runs w width node o log c → GoodCell w (node_of node) c (ch (left_of (node_of node))) (ch (right_of (node_of node))) → IsForward (queued (inbox_of o side) ++ outs)
forward_fed w width k (Window s) side outs o log c ch b2 n2 t fed l r g = absurd t
forward_fed w width k (Select j cs) side outs o log (at_window h e b q n) ch b2 n2 t fed l r g = absurd r
forward_fed w width k (Select j cs) side outs o log (at_unary q i b n) ch b2 n2 t fed l r g = forward_on o log side Left q outs t.1 r.queue fed (Leads-forward (Leads-append g.edge (from_input ch j k outs b2 n2 t.0 l)))
forward_fed w width k (Select j cs) side outs o log (at_join q u a m b n x y) ch b2 n2 t fed l r g = absurd r
forward_fed w width k (Project j columns) side outs o log (at_window h e b q n) ch b2 n2 t fed l r g = absurd r
forward_fed w width k (Project j columns) side outs o log (at_unary q i b n) ch b2 n2 t fed l r g = forward_on o log side Left q outs t.1 r.queue fed (Leads-forward (Leads-append g.edge (from_input ch j k outs b2 n2 t.0 l)))
forward_fed w width k (Project j columns) side outs o log (at_join q u a m b n x y) ch b2 n2 t fed l r g = absurd r
forward_fed w width k (Group j by items) side outs o log (at_window h e b q n) ch b2 n2 t fed l r g = absurd r
forward_fed w width k (Group j by items) side outs o log (at_unary q i b n) ch b2 n2 t fed l r g = forward_on o log side Left q outs t.1 r.queue fed (Leads-forward (Leads-append g.edge (from_input ch j k outs b2 n2 t.0 l)))
forward_fed w width k (Group j by items) side outs o log (at_join q u a m b n x y) ch b2 n2 t fed l r g = absurd r
forward_fed w width k (Distinct j) side outs o log (at_window h e b q n) ch b2 n2 t fed l r g = absurd r
forward_fed w width k (Distinct j) side outs o log (at_unary q i b n) ch b2 n2 t fed l r g = forward_on o log side Left q outs t.1 r.queue fed (Leads-forward (Leads-append g.edge (from_input ch j k outs b2 n2 t.0 l)))
forward_fed w width k (Distinct j) side outs o log (at_join q u a m b n x y) ch b2 n2 t fed l r g = absurd r
forward_fed w width k (Join i j ks) side outs o log (at_window h e b q n) ch b2 n2 t fed l r g = absurd r
forward_fed w width k (Join i j ks) side outs o log (at_unary q u b n) ch b2 n2 t fed l r g = absurd r
forward_fed w width k (Join i j ks) side outs o log (at_join q u a m b n x y) ch b2 n2 (inl t) fed l r g = forward_on o log side Left q outs t.2 r.left_queue fed (Leads-forward (Leads-append g.left_edge (from_input ch i k outs b2 n2 t.0 l)))
forward_fed w width k (Join i j ks) side outs o log (at_join q u a m b n x y) ch b2 n2 (inr t) fed l r g = forward_on o log side Right u outs t.2 r.right_queue fed (Leads-forward (Leads-append g.right_edge (from_input ch j k outs b2 n2 t.0 l)))
forward_fed w width k (ToStream j op) side outs o log c ch b2 n2 t fed l r g = absurd r
