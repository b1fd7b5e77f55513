-- A turn at one operator keeps what is true of all.
use Rattle.std.proofs.Common.{◌≡◌, ◌≢◌, ℕ, ◌<◌, List, ◌++◌, ◌⊎◌, ⊎_elim, refl, sym, ap, ◌∙◌, subst, arith}
use Rattle.values.specs.Row.{Row}
use Rattle.op_queue.specs.Entries.{Entry}
use Rattle.op_queue.specs.Paths.{Leads}
use Rattle.op_queue.specs.Signed.{Same}
use Rattle.op_queue.proofs.PathLemmas.{Leads-append, Leads-values}
use Rattle.op_queue.proofs.SignedLemmas.{Same-refl}
use Rattle.laws_dataflow.specs.Nets.{Node, window, unary, join, World, Cell, at_window, at_unary, at_join, cell_shown, cell_next, Input, IsLawful, GoodOne, GoodTwo, GoodCell, past, Turn, Feeds, to_unary, to_left, to_right, Apart, ComesLater, left_of, right_of, input_of, GoodAt, ValueAt}
use Rattle.laws_dataflow.proofs.TurnLemmas.{TurnKept, turn_kept}

same_number : (a b : ℕ) → (a ≡ b) ⊎ (a ≢ b)
same_number a b = grind arith

-- an operator whose inputs are as before
inputs_kept : (w : World) (i : ℕ) (ch ch2 : ℕ → Input) (k : ℕ) → ((x : ℕ) → x < k → x ≢ i → ch2 x ≡ ch x) → (node : Node) (a : Cell) → ComesLater node k → Apart i node → GoodCell w node a (ch (left_of node)) (ch (right_of node)) → GoodCell w node a (ch2 (left_of node)) (ch2 (right_of node))
inputs_kept w i ch ch2 k e (window j) (at_window h es o q n) c p g = g
inputs_kept w i ch ch2 k e (window j) (at_unary q u o n) c p g = absurd g
inputs_kept w i ch ch2 k e (window j) (at_join q r l m o n a b) c p g = absurd g
inputs_kept w i ch ch2 k e (unary f x) (at_window h es o q n) c p g = absurd g
inputs_kept w i ch ch2 k e (unary f x) (at_unary q u o n) c p g = subst (λ z. GoodOne f z.values q u o n z.bag z.opens) (sym (e x c p)) g
inputs_kept w i ch ch2 k e (unary f x) (at_join q r l m o n a b) c p g = absurd g
inputs_kept w i ch ch2 k e (join f x y) (at_window h es o q n) c p g = absurd g
inputs_kept w i ch ch2 k e (join f x y) (at_unary q u o n) c p g = absurd g
inputs_kept w i ch ch2 k e (join f x y) (at_join q r l m o n a b) c p g =
    subst (λ z. GoodTwo f z.values (ch2 y).values q r l m o n a b z.bag z.opens (ch2 y).bag (ch2 y).opens) (sym (e x c.0 p.0)) (subst (λ d. GoodTwo f (ch x).values d.values q r l m o n a b (ch x).bag (ch x).opens d.bag d.opens) (sym (e y c.1 p.1)) g)

-- the consumer, with the outputs at the end of its queue
fed_good : (w : World) (i : ℕ) (outs : List (Entry Row)) (ch ch2 : ℕ → Input) (k : ℕ) → ((x : ℕ) → x < k → x ≢ i → ch2 x ≡ ch x) → (vs : ℕ → List Row) → (ch i).values ≡ vs → (ch2 i).values ≡ vs → Leads vs (ch i).bag (ch i).opens outs (ch2 i).bag (ch2 i).opens
    → (node : Node) (a b : Cell) → ComesLater node k → Feeds i outs node a b → GoodCell w node a (ch (left_of node)) (ch (right_of node)) → GoodCell w node b (ch2 (left_of node)) (ch2 (right_of node))
fed_good w i outs ch ch2 k e vs p r l node a b cl (to_unary f q u o n) g = record { edge = subst (λ z. Leads z u n (q ++ outs) (ch2 i).bag (ch2 i).opens) (sym r) (Leads-append (subst (λ z. Leads z u n q (ch i).bag (ch i).opens) p g.edge) l); shows = g.shows }
fed_good w i outs ch ch2 k e vs p r l node a b cl (to_left f y q s x m o n c d ne) g = subst (λ z. GoodTwo f (ch2 i).values z.values (q ++ outs) s x m o n c d (ch2 i).bag (ch2 i).opens z.bag z.opens) (sym (e y cl.1 ne)) (record {
  left_edge = subst (λ z. Leads z x (past c n) (q ++ outs) (ch2 i).bag (ch2 i).opens) (sym r) (Leads-append (subst (λ z. Leads z x (past c n) q (ch i).bag (ch i).opens) p g.left_edge) l);
  right_edge = g.right_edge;
  shows = g.shows;
  left_ticked = λ h. subst (λ z. Same x (z n)) (p ∙ sym r) (g.left_ticked h);
  right_ticked = g.right_ticked;
  not_both = g.not_both;
})
fed_good w i outs ch ch2 k e vs p r l node a b cl (to_right f y q s x m o n c d ne) g = subst (λ z. GoodTwo f z.values (ch2 i).values q (s ++ outs) x m o n c d z.bag z.opens (ch2 i).bag (ch2 i).opens) (sym (e y cl.0 ne)) (record {
  left_edge = g.left_edge;
  right_edge = subst (λ z. Leads z m (past d n) (s ++ outs) (ch2 i).bag (ch2 i).opens) (sym r) (Leads-append (subst (λ z. Leads z m (past d n) s (ch i).bag (ch i).opens) p g.right_edge) l);
  shows = g.shows;
  left_ticked = g.left_ticked;
  right_ticked = λ h. subst (λ z. Same m (z n)) (p ∙ sym r) (g.right_ticked h);
  not_both = g.not_both;
})

-- feeding changes nothing that a consumer's consumer sees
fed_input : (i : ℕ) (outs : List (Entry Row)) (node : Node) (a b : Cell) (vs : ℕ → List Row) → Feeds i outs node a b → let c : Input = record { bag = cell_shown b; opens = cell_next b; values = vs } in let d : Input = record { bag = cell_shown a; opens = cell_next a; values = vs } in c ≡ d
fed_input i outs node a b vs (to_unary f q u o n) = refl
fed_input i outs node a b vs (to_left f y q s x m o n c d ne) = refl
fed_input i outs node a b vs (to_right f y q s x m o n c d ne) = refl

-- THE THEOREM: a turn at the operator i whose consumer is j, all others left alone
pub all_kept : (w : World) (nodes : ℕ → Node) (v : ℕ → ℕ → List Row) (s s2 : ℕ → Cell) (i j : ℕ) (outs : List (Entry Row)) (count : ℕ)
    → ((k : ℕ) → k < count → ComesLater (nodes k) k) → ((k : ℕ) → k < count → GoodAt w nodes v s k) → i < count → j < count → IsLawful (nodes i) → ValueAt w nodes v s i
    → Turn w (nodes i) (s i) outs (s2 i) → Feeds i outs (nodes j) (s j) (s2 j) → j ≢ i
    → ((k : ℕ) → k < count → k ≢ i → k ≢ j → s2 k ≡ s k) → ((k : ℕ) → k < count → k ≢ j → Apart i (nodes k))
    → (k : ℕ) → k < count → GoodAt w nodes v s2 k
all_kept w nodes v s s2 i j outs count rises good ic jc lawful value turn feeds ne others apart k kc = ⊎_elim at_i (λ p. ⊎_elim at_j (λ r. at_other p r) (same_number k j)) (same_number k i)
  where
    kept : TurnKept w (nodes i) (s i) outs (s2 i) (input_of v s (left_of (nodes i))) (input_of v s (right_of (nodes i)))
    kept = turn_kept w (nodes i) (s i) (s2 i) outs _ _ lawful turn (good i ic)

    same : (m : ℕ) → m < count → (x : ℕ) → x < m → x ≢ i → input_of v s2 x ≡ input_of v s x
    same m mc x xm p = ⊎_elim
        (λ e. subst (λ z. input_of v s2 z ≡ input_of v s z) (sym e) (fed_input i outs (nodes j) (s j) (s2 j) (v j) feeds))
        (λ r. ap (λ c. record { bag = cell_shown c; opens = cell_next c; values = v x }) (others x (omega (arith, xm, mc)) p r))
        (same_number x j)

    at_i : k ≡ i → GoodAt w nodes v s2 k
    at_i e = subst (λ z. GoodAt w nodes v s2 z) (sym e) (inputs_kept w i (input_of v s) (input_of v s2) i (same i ic) (nodes i) (s2 i) (rises i ic) (apart i ic (λ h. ne (sym h))) kept.good)

    at_j : k ≡ j → GoodAt w nodes v s2 k
    at_j e = subst (λ z. GoodAt w nodes v s2 z) (sym e) (fed_good w i outs (input_of v s) (input_of v s2) j (same j jc) (v i) refl refl
        (Leads-values (λ t a b. subst (λ z. Same z (v i t)) (value t) (Same-refl (v i t))) kept.path) (nodes j) (s j) (s2 j) (rises j jc) feeds (good j jc))

    at_other : k ≢ i → k ≢ j → GoodAt w nodes v s2 k
    at_other p r = subst (λ c. GoodCell w (nodes k) c (input_of v s2 (left_of (nodes k))) (input_of v s2 (right_of (nodes k)))) (sym (others k kc p r)) (inputs_kept w i (input_of v s) (input_of v s2) k (same k kc) (nodes k) (s k) (rises k kc) (apart k kc r) (good k kc))

-- a turn at an operator that no other takes from: its outputs lead on, for the root
pub record LastKept (w : World) (nodes : ℕ → Node) (v : ℕ → ℕ → List Row) (s2 : ℕ → Cell) (count : ℕ) (vs : ℕ → List Row) (a : Cell) (outs : List (Entry Row)) (b : Cell) : Type 0 where
  pub good : (k : ℕ) → k < count → GoodAt w nodes v s2 k
  pub path : Leads vs (cell_shown a) (cell_next a) outs (cell_shown b) (cell_next b)

pub last_kept : (w : World) (nodes : ℕ → Node) (v : ℕ → ℕ → List Row) (s s2 : ℕ → Cell) (i : ℕ) (outs : List (Entry Row)) (count : ℕ)
    → ((k : ℕ) → k < count → ComesLater (nodes k) k) → ((k : ℕ) → k < count → GoodAt w nodes v s k) → i < count → IsLawful (nodes i) → ValueAt w nodes v s i
    → Turn w (nodes i) (s i) outs (s2 i) → ((k : ℕ) → k < count → k ≢ i → s2 k ≡ s k) → ((k : ℕ) → k < count → Apart i (nodes k))
    → LastKept w nodes v s2 count (v i) (s i) outs (s2 i)
last_kept w nodes v s s2 i outs count rises good ic lawful value turn others apart = record { good = all; path = Leads-values (λ t a b. subst (λ z. Same z (v i t)) (value t) (Same-refl (v i t))) kept.path }
  where
    kept : TurnKept w (nodes i) (s i) outs (s2 i) (input_of v s (left_of (nodes i))) (input_of v s (right_of (nodes i)))
    kept = turn_kept w (nodes i) (s i) (s2 i) outs _ _ lawful turn (good i ic)

    same : (m : ℕ) → m < count → (x : ℕ) → x < m → x ≢ i → input_of v s2 x ≡ input_of v s x
    same m mc x xm p = ap (λ c. record { bag = cell_shown c; opens = cell_next c; values = v x }) (others x (omega (arith, xm, mc)) p)

    all : (k : ℕ) → k < count → GoodAt w nodes v s2 k
    all k kc = ⊎_elim
        (λ e. subst (λ z. GoodAt w nodes v s2 z) (sym e) (inputs_kept w i (input_of v s) (input_of v s2) i (same i ic) (nodes i) (s2 i) (rises i ic) (apart i ic) kept.good))
        (λ p. subst (λ c. GoodCell w (nodes k) c (input_of v s2 (left_of (nodes k))) (input_of v s2 (right_of (nodes k)))) (sym (others k kc p)) (inputs_kept w i (input_of v s) (input_of v s2) k (same k kc) (nodes k) (s k) (rises k kc) (apart k kc) (good k kc)))
        (same_number k i)
