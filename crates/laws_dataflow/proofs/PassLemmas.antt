-- Where instants go by at which a query has nothing to do, it stays good.
use Rattle.std.specs.Prelude.{Some}
use Rattle.std.proofs.Common.{◌≡◌, ℕ, zero, suc, ◌+◌, ◌-◌, ◌<◌, ◌≤◌, ◌⊎◌, ⊎_elim, Bool, true, false, cond, nat_le, inl, inr, List, [], ◌∷◌, ◌++◌, map, flat_map, refl, sym, ap, ap₂, ◌∙◌, subst, subst₂, arith, append-nil, append_assoc, le-leb, true≢false}
use Rattle.std.specs.List.{range_with_len}
use Rattle.values.specs.Row.{Row, row_cmp}
use Rattle.values.specs.Window.{Element, Window, window_rows}
use Rattle.values.specs.Bag.{in_order}
use Rattle.values.specs.Answers.{StreamOperator, streamed}
use Rattle.values.specs.StreamOperators.{operator_of}
use Rattle.op_queue.specs.Entries.{Entry, TickAt}
use Rattle.op_queue.specs.Paths.{Leads}
use Rattle.op_queue.specs.Signed.{Same}
use Rattle.op_queue.proofs.PathLemmas.{Leads-after, Leads-empty, Leads-none, Leads-take_tick, Leads-values}
use Rattle.op_queue.proofs.SignedLemmas.{Same-refl, Same-sym, Same-trans}
use Rattle.to_stream.specs.Turns.{State}
use Rattle.laws_dataflow.specs.Windows.{Brings, GoodWindow}
use Rattle.laws_dataflow.specs.Nets.{Node, window, unary, join, Unary, Binary, World, bag_at, Cell, at_window, at_unary, at_join, cell_shown, cell_next, Input, IsLawful, GoodOne, GoodTwo, GoodCell, value_by, past, left_of, right_of, input_of, GoodAt, ComesLater, Planned}
use Rattle.laws_dataflow.specs.Queries.{before, given_at, given_from, GoodRoot, GoodQuery}
use Rattle.laws_dataflow.specs.Roots.{behind}
use Rattle.laws_dataflow.specs.Passes.{Clears, reached, ended, ticked, Passes, stays, window_passes, unary_passes, join_passes, Silent, Moved}
use Rattle.laws_dataflow.proofs.RootLemmas.{given_more, listed_same}
use Rattle.laws_dataflow.proofs.WindowLemmas.{Brings_none}

-- EDGES

-- the open instant of an input, which has gone on to b if it was not there
abbrev pub WentOn : ℕ → ℕ → ℕ → Type 0
WentOn b m m2 = ((m2 ≡ m) × (b ≤ m)) ⊎ ((m2 ≡ b) × (m < b))

pub clears_leads : (v : ℕ → List Row) (i bag : List Row) (b n m m2 : ℕ) (q r : List (Entry Row)) → n ≤ b → WentOn b m m2 → Clears b n q r → Leads v i n q bag m → Leads v i b r bag m2
clears_leads v i bag b n m m2 q r le went (reached k p h) l =
    let e : n ≡ b = omega (arith, le, h) in
    let f : m ≡ m2 = ⊎_elim (λ x. sym x.0) (λ x. absurd (omega (arith, x.1, h, Leads-after l))) went in
    subst₂ (λ x y. Leads v i x p bag y) e f l
clears_leads v i bag b n m m2 q r le went (ended k h) l =
    let e : (n ≡ m) × Same i bag = Leads-empty l in
    let f : b ≡ m2 = ⊎_elim (λ x. omega (arith, x.0, x.1, e.0, h)) (λ x. sym x.0) went in
    subst (λ y. Leads v i b [] bag y) f (Leads-none v b e.1)
clears_leads v i bag b n m m2 q r le went (ticked k p s h c) l = clears_leads v i bag b (n + 1) m m2 p r (omega (arith, h)) went c (Leads-take_tick l).2

-- what was taken is the value at all the instants that go by, if what the input has put out stays its value
pub clears_values : (v : ℕ → List Row) (i bag : List Row) (b n m : ℕ) (q r : List (Entry Row)) → ((t : ℕ) → m ≤ t → t < b → Same bag (v t)) → Clears b n q r → Leads v i n q bag m → (t : ℕ) → n ≤ t → t < b → Same i (v t)
clears_values v i bag b n m q r still (reached k p h) l t x y = absurd (omega (arith, h, x, y))
clears_values v i bag b n m q r still (ended k h) l t x y = let e : (n ≡ m) × Same i bag = Leads-empty l in Same-trans e.1 (still t (omega (arith, e.0, x)) y)
clears_values v i bag b n m q r still (ticked k p s h c) l t x y =
    ⊎_elim (λ e. subst (λ z. Same i (v z)) e (Leads-take_tick l).1)
    (λ e. clears_values v i bag b (n + 1) m p r still c (Leads-take_tick l).2 t e y)
    (here n t x)
  where
    here : (a c : ℕ) → a ≤ c → (a ≡ c) ⊎ (a + 1 ≤ c)
    here a c e = grind (arith, e)

-- the same for a side of a join, which may have ticked
side_values : (v : ℕ → List Row) (i bag : List Row) (b n m : ℕ) (a : Bool) (q r : List (Entry Row)) → ((t : ℕ) → m ≤ t → t < b → Same bag (v t)) → Clears b (past a n) q r → Leads v i (past a n) q bag m → (a ≡ true → Same i (v n))
    → (t : ℕ) → n ≤ t → t < b → Same i (v t)
side_values v i bag b n m false q r still c l at t x y = clears_values v i bag b n m q r still c l t x y
side_values v i bag b n m true q r still c l at t x y =
    ⊎_elim (λ e. subst (λ z. Same i (v z)) e (at refl)) (λ e. clears_values v i bag b (n + 1) m q r still c l t e y) (here n t x)
  where
    here : (a c : ℕ) → a ≤ c → (a ≡ c) ⊎ (a + 1 ≤ c)
    here a c e = grind (arith, e)

pub brings_on : (b n c : ℕ) (q r : List (Entry Row)) (es : List Element) → n ≤ b → b ≤ c → Clears b n q r → Brings n q es c → Brings b r es c
brings_on b n c q r es le lc (reached k p h) g = let e : n ≡ b = omega (arith, le, h) in subst (λ z. Brings z p es c) e g
brings_on b n c q r es le lc (ended k h) g =
    let e : n ≡ b = omega (arith, (Brings_none n es c g).0, h, lc) in subst (λ z. Brings z [] es c) e g
brings_on b n c q r es le lc (ticked k p s h x) g = brings_on b (n + 1) c p r es (omega (arith, h)) lc x g.1

-- OPERATORS

pub shown_same : {w : World} {b : ℕ} {node : Node} {a a2 : Cell} → Passes w b node a a2 → cell_shown a2 ≡ cell_shown a
shown_same (stays node a h) = refl
shown_same (window_passes k n h e o q r lt lc c s) = refl
shown_same (unary_passes f x n i o q r lt c s) = refl
shown_same (join_passes f x y n l m o q q2 r r2 c d lt cl cr) = refl

pub next_went : {w : World} {b : ℕ} {node : Node} {a a2 : Cell} → Passes w b node a a2 → WentOn b (cell_next a) (cell_next a2)
next_went (stays node a h) = inl (refl, h)
next_went (window_passes k n h e o q r lt lc c s) = inr (refl, lt)
next_went (unary_passes f x n i o q r lt c s) = inr (refl, lt)
next_went (join_passes f x y n l m o q q2 r r2 c d lt cl cr) = inr (refl, lt)

past_by : (a : Bool) (n b : ℕ) → n < b → past a n ≤ b
past_by true n b h = omega (arith, h)
past_by false n b h = omega (arith, h)

-- WHAT AN OPERATOR HAS PUT OUT stays its value at the instants that go by, if so do its inputs
abbrev pub Still : ℕ → Input → Type 0
Still b u = (t : ℕ) → u.opens ≤ t → t < b → Same u.bag (u.values t)

node_still : (w : World) (b : ℕ) (node : Node) (k : ℕ) (a a2 : Cell) (ch : ℕ → Input) → IsLawful node → ComesLater node k → ((x : ℕ) → x < k → Still b (ch x)) → Passes w b node a a2
    → GoodCell w node a (ch (left_of node)) (ch (right_of node)) → (t : ℕ) → cell_next a ≤ t → t < b → Same (cell_shown a) (value_by w node (ch (left_of node)) (ch (right_of node)) t)
node_still w b node k a a2 ch same c still (stays node2 a3 h) g t x y = absurd (omega (arith, h, x, y))
node_still w b node k a a2 ch same c still (window_passes s n h e o q r lt lc p shows) g t x y = shows t x y
node_still w b node k a a2 ch same c still (unary_passes f z n i o q r lt p shows) g t x y =
    Same-trans shows (same _ _ (clears_values (ch z).values i (ch z).bag b n (ch z).opens q r (still z c) p g.edge t x y))
node_still w b node k a a2 ch same c still (join_passes f z u n l m o q q2 r r2 d e lt pl pr) g t x y =
    Same-trans g.shows (same _ _ _ _
    (side_values (ch z).values l (ch z).bag b n (ch z).opens d q q2 (still z c.0) pl g.left_edge g.left_ticked t x y)
    (side_values (ch u).values m (ch u).bag b n (ch u).opens e r r2 (still u c.1) pr g.right_edge g.right_ticked t x y))

-- AN INPUT behind it
pub record InputWent (b : ℕ) (u u2 : Input) : Type 0 where
  pub bag : u2.bag ≡ u.bag
  pub values : u2.values ≡ u.values
  pub opens : WentOn b u.opens u2.opens

-- an input that is not behind b stays as it was
input_stays : (b : ℕ) (u u2 : Input) → InputWent b u u2 → b ≤ u.opens → (u2.bag ≡ u.bag) × (u2.values ≡ u.values) × (u2.opens ≡ u.opens)
input_stays b u u2 i h = (i.bag, i.values, ⊎_elim (λ x. x.0) (λ x. absurd (omega (arith, x.1, h))) i.opens)

edge_stays : (b n : ℕ) (i : List Row) (q : List (Entry Row)) (u u2 : Input) → InputWent b u u2 → b ≤ n → Leads u.values i n q u.bag u.opens → Leads u2.values i n q u2.bag u2.opens
edge_stays b n i q u u2 w h l =
    let s : (u2.bag ≡ u.bag) × (u2.values ≡ u.values) × (u2.opens ≡ u.opens) = input_stays b u u2 w (omega (arith, h, Leads-after l)) in
    subst (λ v. Leads v i n q u2.bag u2.opens) (sym s.1) (subst₂ (λ x y. Leads u.values i n q x y) (sym s.0) (sym s.2) l)

edge_goes : (b n : ℕ) (i : List Row) (q r : List (Entry Row)) (u u2 : Input) → InputWent b u u2 → n ≤ b → Clears b n q r → Leads u.values i n q u.bag u.opens → Leads u2.values i b r u2.bag u2.opens
edge_goes b n i q r u u2 w h c l =
    subst (λ v. Leads v i b r u2.bag u2.opens) (sym w.values) (subst (λ x. Leads u.values i b r x u2.opens) (sym w.bag) (clears_leads u.values i u.bag b n u.opens u2.opens q r h w.opens c l))

untrue : {A : Type 0} → false ≡ true → A
untrue h = absurd (true≢false (sym h))

-- IT STAYS GOOD
node_passes : (w : World) (b : ℕ) (node : Node) (a a2 : Cell) (u z u2 z2 : Input) → InputWent b u u2 → InputWent b z z2 → Passes w b node a a2 → GoodCell w node a u z → GoodCell w node a2 u2 z2
node_passes w b node a a2 u z u2 z2 iu iz (window_passes k n h e o q r lt lc c s) g = record {
  rising = g.rising;
  closed = g.closed;
  brings = brings_on b n (w.closed k) q r e (omega (arith, lt)) lc c g.brings;
  stands = λ t later f i. g.stands t later f (omega (arith, i, lt));
}
node_passes w b node a a2 u z u2 z2 iu iz (unary_passes f x n i o q r lt c s) g = record { edge = edge_goes b n i q r u u2 iu (omega (arith, lt)) c g.edge; shows = λ h. s }
node_passes w b node a a2 u z u2 z2 iu iz (join_passes f x y n l m o q q2 r r2 c d lt cl cr) g = record {
  left_edge = edge_goes b (past c n) l q q2 u u2 iu (past_by c n b lt) cl g.left_edge;
  right_edge = edge_goes b (past d n) m r r2 z z2 iz (past_by d n b lt) cr g.right_edge;
  shows = g.shows;
  left_ticked = λ h. untrue h;
  right_ticked = λ h. untrue h;
  not_both = λ h k. untrue h;
}
node_passes w b node a a2 u z u2 z2 iu iz (stays node2 a3 h) g = here node a h g
  where
    at_past : (c : Bool) (n : ℕ) → b ≤ n → b ≤ past c n
    at_past true n h = omega (arith, h)
    at_past false n h = omega (arith, h)

    ticked_at : (c : Bool) (n m : ℕ) → c ≡ true → past c n ≤ m → n < m
    ticked_at true n m h k = omega (arith, k)
    ticked_at false n m h k = untrue h

    here : (node : Node) (a : Cell) → b ≤ cell_next a → GoodCell w node a u z → GoodCell w node a u2 z2
    here (window k) (at_window h e o q n) l g = g
    here (window k) (at_unary q i o n) l g = absurd g
    here (window k) (at_join q r l m o n x y) e g = absurd g
    here (unary f x) (at_window h e o q n) l g = absurd g
    here (unary f x) (at_unary q i o n) l g = record { edge = edge_stays b n i q u u2 iu l g.edge; shows = g.shows }
    here (unary f x) (at_join q r l m o n y s) e g = absurd g
    here (join f x y) (at_window h e o q n) l g = absurd g
    here (join f x y) (at_unary q i o n) l g = absurd g
    here (join f x y) (at_join q r l m o n c d) e g = record {
      left_edge = edge_stays b (past c n) l q u u2 iu (at_past c n e) g.left_edge;
      right_edge = edge_stays b (past d n) m r z z2 iz (at_past d n e) g.right_edge;
      shows = g.shows;
      left_ticked = λ h. subst (λ v. Same l (v n)) (sym iu.values) (g.left_ticked h);
      right_ticked = λ h. subst (λ v. Same m (v n)) (sym iz.values) (g.right_ticked h);
      not_both = g.not_both;
    }

-- ALL OPERATORS
module _ (w : World) (nodes : ℕ → Node) (count : ℕ) (v : ℕ → ℕ → List Row) (least : ℕ → ℕ) (p : Planned w nodes count v least) (b : ℕ) (s s2 : ℕ → Cell) (passes : (k : ℕ) → k < count → Passes w b (nodes k) (s k) (s2 k)) (good : (k : ℕ) → k < count → GoodAt w nodes v s k) where
  still_within : (m k : ℕ) → k < m → k < count → Still b (input_of v s k)
  still_within zero k h kc = absurd (omega (arith, h))
  still_within (suc m) k h kc = λ t x y.
      subst (λ z. Same (cell_shown (s k)) z) (sym (p.value k s kc t))
      (node_still w b (nodes k) k (s k) (s2 k) (input_of v s) (p.lawful k kc) (p.rises k kc) (λ z l. still_within m z (omega (arith, l, h)) (omega (arith, l, kc))) (passes k kc) (good k kc) t x y)

  -- what each has put out is its value at all the instants that it passes
  pub all_still : (k : ℕ) → k < count → Still b (input_of v s k)
  all_still k kc = still_within count k kc kc

  went : (k : ℕ) → k < count → InputWent b (input_of v s k) (input_of v s2 k)
  went k kc = record { bag = shown_same (passes k kc); values = refl; opens = next_went (passes k kc) }

  pub all_passed : (k : ℕ) → k < count → GoodAt w nodes v s2 k
  all_passed k kc = at (nodes k) (p.rises k kc) (passes k kc) (good k kc)
    where
      at : (node : Node) → ComesLater node k → Passes w b node (s k) (s2 k) → GoodCell w node (s k) (input_of v s (left_of node)) (input_of v s (right_of node)) → GoodCell w node (s2 k) (input_of v s2 (left_of node)) (input_of v s2 (right_of node))
      at (window x) c h g = window_by x (s k) (s2 k) h g
        where
          window_by : (x : ℕ) (a a2 : Cell) → Passes w b (window x) a a2 → GoodCell w (window x) a (input_of v s 0) (input_of v s 0) → GoodCell w (window x) a2 (input_of v s2 0) (input_of v s2 0)
          window_by x a a2 h g = node_passes w b (window x) a a2 (input_of v s 0) (input_of v s 0) (input_of v s2 0) (input_of v s2 0) (went 0 (omega (arith, kc))) (went 0 (omega (arith, kc))) h g
      at (unary f x) c h g = node_passes w b (unary f x) (s k) (s2 k) (input_of v s x) (input_of v s 0) (input_of v s2 x) (input_of v s2 0) (went x (omega (arith, c, kc))) (went 0 (omega (arith, kc))) h g
      at (join f x y) c h g = node_passes w b (join f x y) (s k) (s2 k) (input_of v s x) (input_of v s y) (input_of v s2 x) (input_of v s2 y) (went x (omega (arith, c.0, kc))) (went y (omega (arith, c.1, kc))) h g

-- THE ROOT
before_next : (first : ℕ) (v : ℕ → List Row) (t : ℕ) → first ≤ t → before first v (t + 1) ≡ v t
before_next first v t h = let e : t + 1 ≡ suc t = omega arith in ap (before first v) e ∙ ap (λ b. cond b (v t) []) (le-leb first t h)

none_given : (op : StreamOperator) (first : ℕ) (v : ℕ → List Row) (n d : ℕ) → ((t : ℕ) → n ≤ t → t < n + d → given_at op first v t ≡ []) → flat_map (given_at op first v) (range_with_len n d) ≡ []
none_given op first v n zero h = refl
none_given op first v n (suc d) h =
    ap₂ (λ x y. x ++ y) (h n (omega arith) (omega arith)) (none_given op first v (n + 1) d (λ t x y. h t (omega (arith, x)) (omega (arith, y))))

module _ (first start : ℕ) (earlier : List (ℕ × Row)) (v : ℕ → List Row) where
  pub root_passes : (s s2 : State) (b : ℕ) (q r : List (Entry Row)) (below below2 : List Row) (m m2 : ℕ) (given : List (ℕ × Row)) → (g : GoodRoot first start earlier v s q below m given) → g.opens < b → Clears b g.opens q r → below2 ≡ below → WentOn b m m2
      → ((t : ℕ) → m ≤ t → t < b → Same below (v t)) → Silent s g.last g.whole → Moved s b g.whole s2 → (h : GoodRoot first start earlier v s2 r below2 m2 given) × (h.whole ≡ g.whole)
  root_passes s s2 b q r below below2 m m2 given g lt c shown went still silent moved =
      let op : StreamOperator = operator_of s.operator in
      let at : (t : ℕ) → g.opens ≤ t → t < b → Same g.whole (v t) = clears_values v g.whole below b g.opens m q r still c g.edge in
      let was : (t : ℕ) → g.opens ≤ t → t < b → Same g.whole (before first v t) = λ t x y.
      ⊎_elim (λ e. subst (λ z. Same g.whole (before first v z)) e (Same-trans (Same-sym silent.unchanged) g.last_is))
      (λ e. let k : t ≡ (t - 1) + 1 = omega (arith, e) in subst (λ z. Same g.whole z) (sym (ap (before first v) k ∙ before_next first v (t - 1) (omega (arith, e, g.began, g.going)))) (at (t - 1) (omega (arith, e)) (omega (arith, e, y))))
      (here g.opens t x) in
      let none : (t : ℕ) → g.opens ≤ t → t < b → given_at op first v t ≡ [] = λ t x y.
      ap (map (λ r. (t, r))) (listed_same op (before first v t) (v t) g.whole g.whole (Same-sym (was t x y)) (Same-sym (at t x y)) ∙ silent.gives) in
      let nothing : given_from op first v g.opens b ≡ [] = none_given op first v g.opens (b - g.opens) (λ t x y. none t x (omega (arith, x, y))) in (
        record {
          whole = g.whole;
          last = g.whole;
          opens = b;
          edge = subst (λ z. Leads v g.whole b r z m2) (sym shown) (clears_leads v g.whole below b g.opens m m2 q r (omega (arith, lt)) went c g.edge);
          began = g.began;
          going = omega (arith, g.going, lt);
          mark = (let up : b ≡ (b - 1) + 1 = omega (arith, lt) in up ∙ ap (behind first) (sym moved.last));
          stands = moved.stands;
          last_is = (let up : b ≡ (b - 1) + 1 = omega (arith, lt) in subst (λ z. Same g.whole z) (sym (ap (before first v) up ∙ before_next first v (b - 1) (omega (arith, lt, g.began, g.going)))) (at (b - 1) (omega (arith, lt)) (omega (arith, lt))));
          given_is = g.given_is
              ∙ ap (λ z. earlier ++ z) (sym (append-nil (given_from op first v start g.opens)) ∙ ap (λ z. given_from op first v start g.opens ++ z) (sym nothing) ∙ sym (given_more op first v start g.opens b g.going (omega (arith, lt))))
              ∙ ap (λ o. earlier ++ given_from (operator_of o) first v start b) (sym moved.operator);
        },
        refl,
      )
    where
      here : (a c : ℕ) → a ≤ c → (a ≡ c) ⊎ (a + 1 ≤ c)
      here a c e = grind (arith, e)

-- THE QUERY: where all of its operators go on to b, and the root too, it stays good and has given what it had given
pub query_passes : (w : World) (nodes : ℕ → Node) (count : ℕ) (v : ℕ → ℕ → List Row) (least : ℕ → ℕ) → Planned w nodes count v least → 0 < count → (start : ℕ) (earlier : List (ℕ × Row)) (b : ℕ) (cells cells2 : ℕ → Cell)
    → ((k : ℕ) → k < count → Passes w b (nodes k) (cells k) (cells2 k))
    → (s s2 : State) (q r : List (Entry Row)) (given : List (ℕ × Row)) → (g : GoodQuery w nodes count v start earlier cells s q given)
    → g.root.opens < b → Clears b g.root.opens q r → Silent s g.root.last g.root.whole → Moved s b g.root.whole s2
    → (h : GoodQuery w nodes count v start earlier cells2 s2 r given) × (h.root.whole ≡ g.root.whole)
query_passes w nodes count v least p some start earlier b cells cells2 passes s s2 q r given g lt c silent moved =
    let top : ℕ = count - 1 in
    let tc : top < count = omega (arith, some) in
    let on : (h : GoodRoot w.first start earlier (v top) s2 r (cell_shown (cells2 top)) (cell_next (cells2 top)) given) × (h.whole ≡ g.root.whole) =
    root_passes w.first start earlier (v top) s s2 b q r (cell_shown (cells top)) (cell_shown (cells2 top)) (cell_next (cells top)) (cell_next (cells2 top)) given g.root lt c (shown_same (passes top tc)) (next_went (passes top tc))
    (all_still w nodes count v least p b cells cells2 passes g.good top tc) silent moved in
    (record { good = all_passed w nodes count v least p b cells cells2 passes g.good; root = on.0 }, on.1)
