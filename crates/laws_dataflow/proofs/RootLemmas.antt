-- The root: its turns, and what was given.
use Rattle.std.specs.Prelude.{Some}
use Rattle.std.proofs.Common.{◌≡◌, ℕ, zero, suc, ◌+◌, ◌-◌, ◌<◌, ◌≤◌, Bool, true, false, cond, nat_le, List, [], ◌∷◌, ◌++◌, map, flat_map, refl, sym, ap, ap₂, ◌∙◌, subst, arith, append-nil, append_assoc, le-leb, leb-true}
use Rattle.std.specs.List.{range_with_len}
use Rattle.std.proofs.lemmas.Grind.{flat_map-append}
use Rattle.values.specs.Row.{Row, row_cmp}
use Rattle.values.specs.Perm.{Perm}
use Rattle.values.specs.Bag.{in_order, without}
use Rattle.values.specs.Answers.{StreamOperator, Istream, Dstream, Rstream, streamed}
use Rattle.values.specs.StreamOperators.{operator_of}
use Rattle.values.proofs.Order.{row_order}
use Rattle.values.proofs.Perms.{perm-bag_minus, perm-in_order}
use Rattle.op_queue.specs.Entries.{Entry, TickAt}
use Rattle.op_queue.specs.Paths.{Leads}
use Rattle.op_queue.specs.Signed.{weigh, Same, Adds, Legal}
use Rattle.op_queue.specs.declared.item.Item.TheVariants.{Rows, Tick}
use Rattle.op_queue.proofs.PathLemmas.{Leads-after, Leads-append, Leads-empty, Leads-front_legal, Leads-take_rows, Leads-take_tick, Leads-values}
use Rattle.op_queue.proofs.SignedLemmas.{Adds-none, Same-refl, Same-trans}
use Rattle.row_bags.proofs.BagLaws.{there, legal-entered, legal-left}
use Rattle.row_bags.proofs.OrderLemmas.{weigh-without}
use Rattle.to_stream.specs.Turns.{State, near, out}
use Rattle.to_stream.specs.Law.{Stands, StepLaw}
use Rattle.laws_dataflow.specs.Nets.{batch}
use Rattle.laws_dataflow.specs.Queries.{before, given_at, given_from, GoodRoot}
use Rattle.laws_dataflow.specs.Roots.{behind}
use Rattle.laws_dataflow.proofs.BagLemmas.{same_perm}

-- A BAG WITH SIGNED ROWS ADDED, where it may be cut anywhere

pub record After (b : List Row) (xs : List (Bool × Row)) : Type 0 where
  pub bag : List Row
  pub adds : Adds b xs bag

entered : (r : Row) (ss : List (Bool × Row)) {b c : List Row} → Adds (r ∷ b) ss c → Adds b ((true, r) ∷ ss) c
unfolding weigh
entered r ss h = record { weighs = λ w. omega (arith, h.weighs w) }

left : (r : Row) (ss : List (Bool × Row)) {b c : List Row} → Legal b ((false, r) ∷ ss) → Adds (without row_cmp r b) ss c → Adds b ((false, r) ∷ ss) c
unfolding weigh
left r ss {b = b} l h = record { weighs = λ w. omega (arith, h.weighs w, weigh-without row_cmp row_order w r b (there r ss l)) }

pub after : (xs : List (Bool × Row)) (b : List Row) → Legal b xs → After b xs
after [] b l = record { bag = b; adds = Adds-none (Same-refl b) }
after ((true, r) ∷ xs) b l = let a : After (r ∷ b) xs = after xs (r ∷ b) (legal-entered r xs l) in record { bag = a.bag; adds = entered r xs a.adds }
after ((false, r) ∷ xs) b l = let a : After (without row_cmp r b) xs = after xs (without row_cmp r b) (legal-left r xs (there r xs l) l) in record { bag = a.bag; adds = left r xs l a.adds }

-- ANSWERS BY VALUES

before_next : (first : ℕ) (v : ℕ → List Row) (t : ℕ) → first ≤ t → before first v (t + 1) ≡ v t
before_next first v t h = let e : t + 1 ≡ suc t = omega arith in ap (before first v) e ∙ ap (λ b. cond b (v t) []) (le-leb first t h)

pub before_same : (first : ℕ) (v u : ℕ → List Row) (t : ℕ) → ((i : ℕ) → first ≤ i → i + 1 ≡ t → Same (v i) (u i)) → Same (before first v t) (before first u t)
before_same first v u zero h = Same-refl []
before_same first v u (suc t) h = here (nat_le first t) refl
  where
    here : (b : Bool) → nat_le first t ≡ b → Same (cond b (v t) []) (cond b (u t) [])
    here true e = h t (leb-true first t e) (omega arith)
    here false e = Same-refl []

streamed_same : (op : StreamOperator) (a b c d : List Row) → Same a c → Same b d → Perm (streamed op a b) (streamed op c d)
streamed_same Istream a b c d h k = perm-bag_minus row_cmp row_order b d a c (same_perm b d k) (same_perm a c h)
streamed_same Dstream a b c d h k = perm-bag_minus row_cmp row_order a c b d (same_perm a c h) (same_perm b d k)
streamed_same Rstream a b c d h k = same_perm b d k

pub listed_same : (op : StreamOperator) (a b c d : List Row) → Same a c → Same b d → in_order row_cmp (streamed op a b) ≡ in_order row_cmp (streamed op c d)
listed_same op a b c d h k = perm-in_order row_cmp row_order (streamed op a b) (streamed op c d) (streamed_same op a b c d h k)

range_split : (a m n : ℕ) → range_with_len a (m + n) ≡ range_with_len a m ++ range_with_len (a + m) n
range_split a zero n = let e : zero + n ≡ n = omega arith in let k : a + zero ≡ a = omega arith in ap (range_with_len a) e ∙ sym (ap (λ b. range_with_len b n) k)
range_split a (suc m) n =
    let e : suc m + n ≡ suc (m + n) = omega arith in let k : a + 1 + m ≡ a + suc m = omega arith in
    ap (range_with_len a) e ∙ ap (λ v. a ∷ v) (range_split (a + 1) m n ∙ ap (λ b. range_with_len (a + 1) m ++ range_with_len b n) k)

-- answers only grow
pub given_more : (op : StreamOperator) (first : ℕ) (v : ℕ → List Row) (start u until : ℕ) → start ≤ u → u ≤ until → given_from op first v start until ≡ given_from op first v start u ++ given_from op first v u until
given_more op first v start u until h k =
    let e : until - start ≡ (u - start) + (until - u) = omega (arith, h, k) in let f : start + (u - start) ≡ u = omega (arith, h) in
    ap (λ n. flat_map (given_at op first v) (range_with_len start n)) e
    ∙ ap (flat_map (given_at op first v)) (range_split start (u - start) (until - u) ∙ ap (λ b. range_with_len start (u - start) ++ range_with_len b (until - u)) f)
    ∙ flat_map-append (given_at op first v) (range_with_len start (u - start)) (range_with_len u (until - u))

given_one : (op : StreamOperator) (first : ℕ) (v : ℕ → List Row) (t : ℕ) → given_from op first v t (t + 1) ≡ given_at op first v t
given_one op first v t = let e : t + 1 - t ≡ 1 = omega arith in ap (λ n. flat_map (given_at op first v) (range_with_len t n)) e ∙ append-nil (given_at op first v t)

pub given_same : (op : StreamOperator) (first : ℕ) (v u : ℕ → List Row) (start n : ℕ) → first ≤ start → ((t : ℕ) → start ≤ t + 1 → t < start + n → Same (v t) (u t))
    → flat_map (given_at op first v) (range_with_len start n) ≡ flat_map (given_at op first u) (range_with_len start n)
given_same op first v u start zero f h = refl
given_same op first v u start (suc n) f h =
    ap₂ (λ x y. x ++ y)
    (ap (map (λ r. (start, r))) (listed_same op (before first v start) (v start) (before first u start) (u start) (before_same first v u start (λ i j e. h i (omega (arith, e)) (omega (arith, e)))) (h start (omega arith) (omega arith))))
    (given_same op first v u (start + 1) n (omega (arith, f)) (λ t i j. h t (omega (arith, i)) (omega (arith, j))))

-- TURNS OF THE ROOT

module _ (first start : ℕ) (earlier : List (ℕ × Row)) (v : ℕ → List Row) where
  -- rows are taken
  pub root_takes_rows : (s new : State) (n : ℕ) (xs : List (Bool × Row)) (q : List (Entry Row)) (below : List Row) (m : ℕ) (given : List (ℕ × Row)) → StepLaw s (Rows n xs) new → new.operator ≡ s.operator → new.last ≡ s.last
      → (g : GoodRoot first start earlier v s (batch n xs ++ q) below m given) → g.opens ≡ n → GoodRoot first start earlier v new q below m given
  root_takes_rows s new n xs q below m given law same told g e =
      let edge : Leads v g.whole n (batch n xs ++ q) below m = subst (λ i. Leads v g.whole i (batch n xs ++ q) below m) e g.edge in
      let legal : Legal g.whole xs = Leads-front_legal n xs q edge in
      let a : After g.whole xs = after xs g.whole legal in
      record {
        whole = a.bag;
        last = g.last;
        opens = n;
        edge = Leads-take_rows n xs q a.adds edge;
        began = g.began;
        going = omega (arith, g.going, e);
        mark = sym e ∙ g.mark ∙ ap (behind first) (sym told);
        stands = law g.last g.whole a.bag g.stands legal a.adds;
        last_is = subst (λ i. Same g.last (before first v i)) e g.last_is;
        given_is = g.given_is ∙ ap₂ (λ o i. earlier ++ given_from (operator_of o) first v start i) (sym same) e;
      }

  -- a tick is taken, and the answers of its instant are given
  pub root_takes_tick : (s new : State) (n : ℕ) (q : List (Entry Row)) (below : List Row) (m : ℕ) (given : List (ℕ × Row)) → StepLaw s (Tick n) new → new.operator ≡ s.operator → new.last ≡ Some n
      → GoodRoot first start earlier v s (TickAt n ∷ q) below m given → GoodRoot first start earlier v new q below m (given ++ out (Tick n) (near s (Tick n)))
  root_takes_tick s new n q below m given law same told g =
      let k : (n ≡ g.opens) × Same g.whole (v g.opens) × Leads v g.whole (g.opens + 1) q below m = Leads-take_tick g.edge in
      let l : (out (Tick n) (near s (Tick n)) ≡ map (λ r. (n, r)) (in_order row_cmp (streamed (operator_of s.operator) g.last g.whole))) × Stands new g.whole g.whole = law g.last g.whole g.stands in
      let op : StreamOperator = operator_of s.operator in
      let now : out (Tick n) (near s (Tick n)) ≡ given_at op first v g.opens =
      l.0 ∙ ap (λ i. map (λ r. (i, r)) (in_order row_cmp (streamed op g.last g.whole))) k.0 ∙ ap (map (λ r. (g.opens, r))) (listed_same op g.last g.whole (before first v g.opens) (v g.opens) g.last_is k.1) in
      record {
        whole = g.whole;
        last = g.whole;
        opens = g.opens + 1;
        edge = k.2;
        began = g.began;
        going = omega (arith, g.going);
        mark = (let up : g.opens + 1 ≡ n + 1 = omega (arith, k.0) in up ∙ ap (behind first) (sym told));
        stands = l.1;
        last_is = subst (λ z. Same g.whole z) (sym (before_next first v g.opens (omega (arith, g.began, g.going)))) k.1;
        given_is = ap₂ (λ x y. x ++ y) g.given_is (now ∙ sym (given_one op first v g.opens))
            ∙ append_assoc earlier (given_from op first v start g.opens) (given_from op first v g.opens (g.opens + 1))
            ∙ ap (λ z. earlier ++ z) (sym (given_more op first v start g.opens (g.opens + 1) g.going (omega arith)))
            ∙ ap (λ o. earlier ++ given_from (operator_of o) first v start (g.opens + 1)) (sym same);
      }

  -- the operator below puts out
  pub root_fed : (s : State) (q outs : List (Entry Row)) (below below2 : List Row) (m m2 : ℕ) (given : List (ℕ × Row)) → Leads v below m outs below2 m2
      → GoodRoot first start earlier v s q below m given → GoodRoot first start earlier v s (q ++ outs) below2 m2 given
  root_fed s q outs below below2 m m2 given l g =
      record { whole = g.whole; last = g.last; opens = g.opens; edge = Leads-append g.edge l; began = g.began; going = g.going; mark = g.mark; stands = g.stands; last_is = g.last_is; given_is = g.given_is }

  -- what was given is a beginning of the answers of the instants that are closed
  pub root_begins : (s : State) (q : List (Entry Row)) (below : List Row) (m until : ℕ) (given : List (ℕ × Row)) → m ≤ until
      → (g : GoodRoot first start earlier v s q below m given) → earlier ++ given_from (operator_of s.operator) first v start until ≡ given ++ given_from (operator_of s.operator) first v g.opens until
  root_begins s q below m until given h g =
      let op : StreamOperator = operator_of s.operator in
      ap (λ z. earlier ++ z) (given_more op first v start g.opens until g.going (omega (arith, h, Leads-after g.edge)))
      ∙ sym (append_assoc earlier (given_from op first v start g.opens) (given_from op first v g.opens until))
      ∙ ap (λ z. z ++ given_from op first v g.opens until) (sym g.given_is)

  -- and all of them where its queue is empty
  pub root_complete : (s : State) (below : List Row) (m : ℕ) (given : List (ℕ × Row)) → GoodRoot first start earlier v s [] below m given → given ≡ earlier ++ given_from (operator_of s.operator) first v start m
  root_complete s below m given g = g.given_is ∙ ap (λ i. earlier ++ given_from (operator_of s.operator) first v start i) (Leads-empty g.edge).0

-- other values that are the same at the instants from just before `start` on
pub root_changed : (first start : ℕ) (earlier : List (ℕ × Row)) (v u : ℕ → List Row) (s : State) (q : List (Entry Row)) (below : List Row) (m : ℕ) (given : List (ℕ × Row)) → ((t : ℕ) → start ≤ t + 1 → t < m → Same (v t) (u t))
    → GoodRoot first start earlier v s q below m given → GoodRoot first start earlier u s q below m given
root_changed first start earlier v u s q below m given h g = record {
  whole = g.whole;
  last = g.last;
  opens = g.opens;
  edge = Leads-values (λ t i j. h t (omega (arith, i, g.going)) j) g.edge;
  began = g.began;
  going = g.going;
  mark = g.mark;
  stands = g.stands;
  last_is = Same-trans g.last_is (before_same first v u g.opens (λ i j e. h i (omega (arith, e, g.going)) (omega (arith, e, Leads-after g.edge))));
  given_is = g.given_is ∙ ap (λ z. earlier ++ z) (given_same (operator_of s.operator) first v u start (g.opens - start) g.began (λ t i j. h t i (omega (arith, j, g.going, Leads-after g.edge))));
}

-- the answers start anew at the open instant: what was given stands before them
pub root_restarts : (first start : ℕ) (earlier : List (ℕ × Row)) (v : ℕ → List Row) (s : State) (q : List (Entry Row)) (below : List Row) (m : ℕ) (given : List (ℕ × Row))
    → (g : GoodRoot first start earlier v s q below m given) → GoodRoot first g.opens given v s q below m given
root_restarts first start earlier v s q below m given g =
    let e : g.opens - g.opens ≡ 0 = omega arith in
    record {
      whole = g.whole;
      last = g.last;
      opens = g.opens;
      edge = g.edge;
      began = omega (arith, g.began, g.going);
      going = omega arith;
      mark = g.mark;
      stands = g.stands;
      last_is = g.last_is;
      given_is = sym (ap (λ n. given ++ flat_map (given_at (operator_of s.operator) first v) (range_with_len g.opens n)) e ∙ append-nil given);
    }
