-- A heartbeat, an append and forgetting keep what is true of all operators.
use Rattle.std.proofs.Common.{◌≡◌, ℕ, zero, suc, ◌<◌, ◌≤◌, Bool, true, false, cond, nat_le, List, [], ◌∷◌, ◌++◌, refl, sym, ap, ◌∙◌, subst, subst₂, arith, append-nil, append_assoc, le-leb, true≢false}
use Rattle.std.proofs.lemmas.List.Elements.{filter-append}
use Rattle.values.specs.Row.{Row}
use Rattle.values.specs.Perm.{Perm, join}
use Rattle.values.specs.Window.{Element, Window, window_rows}
use Rattle.values.proofs.Perms.{perm-append_left, perm-append_right}
use Rattle.values.proofs.Windows.{AllAfter, perm-window_rows, window_rows-later}
use Rattle.op_queue.specs.Entries.{Entry}
use Rattle.op_queue.specs.Signed.{Same}
use Rattle.op_queue.proofs.PathLemmas.{Leads-after, Leads-values}
use Rattle.op_queue.proofs.SignedLemmas.{Same-sym, Same-trans}
use Rattle.windows.specs.Laws.{ComeAfter, Each, IsLater, IsRising}
use Rattle.windows.proofs.WindowLemmas.{Each_append, Each_map}
use Rattle.laws_dataflow.specs.Windows.{Brings, opened, AreFrom, AreBelow, GoodWindow}
use Rattle.laws_dataflow.specs.Nets.{Node, window, unary, join, World, Cell, at_window, at_unary, at_join, cell_shown, cell_next, Input, IsLawful, GoodCell, value_by, past, left_of, right_of, input_of, GoodAt, LeastAt, ComesLater, Planned}
use Rattle.laws_dataflow.specs.Worlds.{heartbeat_taken, Beat, fed_cell, Change, appended, forgotten, Keeps}
use Rattle.laws_dataflow.proofs.BagLemmas.{perm_same, same_of}
use Rattle.laws_dataflow.proofs.IdleLemmas.{all_below}
use Rattle.laws_dataflow.proofs.JoinLemmas.{past-after}
use Rattle.laws_dataflow.proofs.WindowLemmas.{Brings_after, Brings_append, Brings_from, after_closed}

-- HEARTBEATS

pub rising_append : (es fs : List Element) → IsRising es → IsRising fs → ComeAfter es fs → IsRising (es ++ fs)
rising_append [] fs h k a = k
rising_append (e ∷ es) fs h k a = (Each_append (IsLater e) es fs h.0 (Each_map (λ f. IsLater e f × Each (λ g. IsLater g f) es) (IsLater e) (λ f i. i.0) fs a), rising_append es fs h.1 k (Each_map (λ f. IsLater e f × Each (λ g. IsLater g f) es) (λ f. Each (λ g. IsLater g f) es) (λ f i. i.1) fs a))

pub window_beats : (first : ℕ) (w : Window) (input : List Element) (c c2 : ℕ) (held waiting fresh : List Element) (n : ℕ) (q more : List (Entry Row)) → Brings c more fresh c2 → IsRising fresh → AreBelow c2 fresh → Perm (opened c input) (fresh ++ opened c2 input)
    → GoodWindow first w input c held waiting n q → GoodWindow first w input c2 held (waiting ++ fresh) n (q ++ more)
window_beats first w input c c2 held waiting fresh n q more b r f p g =
    let le : c ≤ c2 = Brings_after c more fresh c2 b in
    record {
      rising = subst IsRising (append_assoc held waiting fresh) (rising_append (held ++ waiting) fresh g.rising r (after_closed c (held ++ waiting) fresh g.closed (Brings_from c more fresh c2 b)));
      closed = subst (AreBelow c2) (append_assoc held waiting fresh) (Each_append (λ e. e.instant < c2) (held ++ waiting) fresh (Each_map (λ e. e.instant < c) (λ e. e.instant < c2) (λ e i. omega (arith, i, le)) (held ++ waiting) g.closed) f);
      brings = Brings_append n q more waiting fresh c c2 g.brings b;
      stands = λ u later k h.
          let moved : Perm (opened c input ++ later) (fresh ++ (opened c2 input ++ later)) = subst (λ l. Perm (opened c input ++ later) l) (append_assoc fresh (opened c2 input) later) (perm-append_left later (opened c input) (fresh ++ opened c2 input) p) in
          let all : Perm (held ++ (waiting ++ (opened c input ++ later))) (held ++ (waiting ++ (fresh ++ (opened c2 input ++ later)))) = perm-append_right held (waiting ++ (opened c input ++ later)) (waiting ++ (fresh ++ (opened c2 input ++ later))) (perm-append_right waiting (opened c input ++ later) (fresh ++ (opened c2 input ++ later)) moved) in
          let e : held ++ (waiting ++ (fresh ++ (opened c2 input ++ later))) ≡ held ++ ((waiting ++ fresh) ++ (opened c2 input ++ later)) = ap (λ l. held ++ l) (sym (append_assoc waiting fresh (opened c2 input ++ later))) in
          Same-trans (g.stands u later (Each_map (λ e. c2 ≤ e.instant) (λ e. c ≤ e.instant) (λ e i. omega (arith, i, le)) later k) h)
          (Same-trans (perm_same (perm-window_rows first w u _ _ all)) (same_of (ap (window_rows first w u) e)));
    }

fed_input : (fresh : ℕ → List Element) (more : ℕ → List (Entry Row)) (node : Node) (a : Cell) (vs : ℕ → List Row)
    → let c : Input = record { bag = cell_shown (fed_cell fresh more node a); opens = cell_next (fed_cell fresh more node a); values = vs } in let d : Input = record { bag = cell_shown a; opens = cell_next a; values = vs } in c ≡ d
fed_input fresh more (window x) (at_window h e o q n) vs = refl
fed_input fresh more (window x) (at_unary q i o n) vs = refl
fed_input fresh more (window x) (at_join q r l m o n a b) vs = refl
fed_input fresh more (unary f x) c vs = refl
fed_input fresh more (join f x y) c vs = refl

module _ (w : World) (closed2 : ℕ → ℕ) (fresh : ℕ → List Element) (more : ℕ → List (Entry Row)) (b : Beat w closed2 fresh more) where
  fed_good : (node : Node) (a : Cell) (c d : Input) → GoodCell w node a c d → GoodCell (heartbeat_taken w closed2) node (fed_cell fresh more node a) c d
  fed_good (window k) (at_window h e o q n) c d g = window_beats w.first (w.windows k) (w.inputs k) (w.closed k) (closed2 k) h e (fresh k) n q (more k) (b.brings k) (b.rising k) (b.below k) (b.parted k) g
  fed_good (window k) (at_unary q i o n) c d g = absurd g
  fed_good (window k) (at_join q r l m o n x y) c d g = absurd g
  fed_good (unary f x) (at_window h e o q n) c d g = absurd g
  fed_good (unary f x) (at_unary q i o n) c d g = g
  fed_good (unary f x) (at_join q r l m o n y z) c d g = absurd g
  fed_good (join f x y) (at_window h e o q n) c d g = absurd g
  fed_good (join f x y) (at_unary q i o n) c d g = absurd g
  fed_good (join f x y) (at_join q r l m o n z u) c d g = g

  -- A HEARTBEAT keeps what is true of all operators
  pub all_fed : (nodes : ℕ → Node) (count : ℕ) (v : ℕ → ℕ → List Row) (s : ℕ → Cell) → ((k : ℕ) → k < count → GoodAt w nodes v s k)
      → (k : ℕ) → k < count → GoodAt (heartbeat_taken w closed2) nodes v (λ x. fed_cell fresh more (nodes x) (s x)) k
  all_fed nodes count v s g k kc =
      subst₂ (λ c d. GoodCell (heartbeat_taken w closed2) (nodes k) (fed_cell fresh more (nodes k) (s k)) c d)
      (sym (fed_input fresh more (nodes (left_of (nodes k))) (s (left_of (nodes k))) (v (left_of (nodes k)))))
      (sym (fed_input fresh more (nodes (right_of (nodes k))) (s (right_of (nodes k))) (v (right_of (nodes k)))))
      (fed_good (nodes k) (s k) _ _ (g k kc))

-- OTHER INPUTS

gone : (t : Bool) (n : ℕ) {j h : ℕ} → t ≡ true → past t n ≤ j → j ≤ h → n < h
gone true n q h k = omega (arith, h, k)
gone false n q h k = absurd (true≢false (sym q))

cell_change : (w u : World) (lo : ℕ) (least : ℕ → ℕ) (v z : ℕ → ℕ → List Row) (s : ℕ → Cell) (node : Node) (k : ℕ) (a : Cell) → Change w u lo → lo ≤ cell_next a → ComesLater node k
    → ((x : ℕ) → x < k → cell_next (s x) ≤ least x) → ((x t : ℕ) → x < k → lo ≤ t → t < least x → Same (v x t) (z x t))
    → GoodCell w node a (input_of v s (left_of node)) (input_of v s (right_of node)) → GoodCell u node a (input_of z s (left_of node)) (input_of z s (right_of node))
cell_change w u lo least v z s (window x) k (at_window h es o q n) c i r b e g = c.windows x h es n q i g
cell_change w u lo least v z s (window x) k (at_unary q y o n) c i r b e g = absurd g
cell_change w u lo least v z s (window x) k (at_join q y l m o n f h) c i r b e g = absurd g
cell_change w u lo least v z s (unary f x) k (at_window h es o q n) c i r b e g = absurd g
cell_change w u lo least v z s (unary f x) k (at_unary q y o n) c i r b e g = record { edge = Leads-values (λ t j d. e x t r (omega (arith, i, j)) (omega (arith, d, b x r))) g.edge; shows = g.shows }
cell_change w u lo least v z s (unary f x) k (at_join q y l m o n d h) c i r b e g = absurd g
cell_change w u lo least v z s (join f x y) k (at_window h es o q n) c i r b e g = absurd g
cell_change w u lo least v z s (join f x y) k (at_unary q l o n) c i r b e g = absurd g
cell_change w u lo least v z s (join f x y) k (at_join q p l m o n a d) c i r b e g = record {
  left_edge = Leads-values (λ t j h. e x t r.0 (omega (arith, i, j, past-after a n)) (omega (arith, h, b x r.0))) g.left_edge;
  right_edge = Leads-values (λ t j h. e y t r.1 (omega (arith, i, j, past-after d n)) (omega (arith, h, b y r.1))) g.right_edge;
  shows = g.shows;
  left_ticked = λ h. Same-trans (g.left_ticked h) (e x n r.0 i (gone a n h (Leads-after g.left_edge) (b x r.0)));
  right_ticked = λ h. Same-trans (g.right_ticked h) (e y n r.1 i (gone d n h (Leads-after g.right_edge) (b y r.1)));
  not_both = g.not_both;
}

value_change : (w u : World) (lo : ℕ) (least : ℕ → ℕ) (v z : ℕ → ℕ → List Row) (s : ℕ → Cell) (node : Node) (k t : ℕ) → Change w u lo → IsLawful node → LeastAt w least node k → ComesLater node k → ((x : ℕ) → x < k → t < least x → Same (v x t) (z x t)) → lo ≤ t → t < least k
    → Same (value_by w node (input_of v s (left_of node)) (input_of v s (right_of node)) t) (value_by u node (input_of z s (left_of node)) (input_of z s (right_of node)) t)
value_change w u lo least v z s (window x) k t c same l r e i j = c.agree x t i (omega (arith, l, j))
value_change w u lo least v z s (unary f x) k t c same l r e i j = same _ _ (e x r (omega (arith, l, j)))
value_change w u lo least v z s (join f x y) k t c same l r e i j = same _ _ _ _ (e x r.0 (omega (arith, l, j))) (e y r.1 (omega (arith, l, j)))

module _ (w u : World) (lo : ℕ) (nodes : ℕ → Node) (count : ℕ) (least least2 : ℕ → ℕ) (v z : ℕ → ℕ → List Row) (s : ℕ → Cell) (c : Change w u lo) (p : Planned w nodes count v least) (r : Planned u nodes count z least2) where
  agree_within : (m k t : ℕ) → k < m → k < count → lo ≤ t → t < least k → Same (v k t) (z k t)
  agree_within zero k t h kc i j = absurd (omega (arith, h))
  agree_within (suc m) k t h kc i j =
      subst₂ (λ a b. Same a b) (sym (p.value k s kc t)) (sym (r.value k s kc t))
      (value_change w u lo least v z s (nodes k) k t c (p.lawful k kc) (p.opens k kc) (p.rises k kc) (λ x y q. agree_within m x t (omega (arith, y, h)) (omega (arith, y, kc)) i q) i j)

  -- the values of the two worlds agree, node by node
  pub values_agree : (k t : ℕ) → k < count → lo ≤ t → t < least k → Same (v k t) (z k t)
  values_agree k t kc i j = agree_within count k t kc kc i j

  -- ANOTHER WORLD keeps what is true of all operators
  pub all_changed : ((k : ℕ) → k < count → lo ≤ cell_next (s k)) → ((k : ℕ) → k < count → GoodAt w nodes v s k) → (k : ℕ) → k < count → GoodAt u nodes z s k
  all_changed i g k kc =
      cell_change w u lo least v z s (nodes k) k (s k) c (i k kc) (p.rises k kc)
      (λ x y. all_below w nodes count v least s p g x (omega (arith, y, kc)))
      (λ x t y j h. values_agree x t (omega (arith, y, kc)) j h) (g k kc)

-- APPEND

opened_all : (c : ℕ) (es : List Element) → AreFrom c es → opened c es ≡ es
opened_all c [] h = refl
opened_all c (e ∷ es) h = here (nat_le c e.instant) (le-leb _ _ h.0) (opened_all c es h.1)
  where
    here : (b : Bool) → b ≡ true → opened c es ≡ es → cond b (e ∷ opened c es) (opened c es) ≡ e ∷ es
    here true x i = ap (λ l. e ∷ l) i
    here false x i = absurd (true≢false (sym x))

all_after : (c t : ℕ) (es : List Element) → t < c → AreFrom c es → AllAfter t es
all_after c t [] h k = tt
all_after c t (e ∷ es) h k = (omega (arith, h, k.0), all_after c t es h k.1)

pub window_appends : (first : ℕ) (w : Window) (input es : List Element) (c : ℕ) (held waiting : List Element) (n : ℕ) (q : List (Entry Row)) → AreFrom c es
    → GoodWindow first w input c held waiting n q → GoodWindow first w (input ++ es) c held waiting n q
window_appends first w input es c held waiting n q f g = record {
  rising = g.rising;
  closed = g.closed;
  brings = g.brings;
  stands = λ u later k h.
      let a : (input ++ es) ++ later ≡ input ++ (es ++ later) = append_assoc input es later in
      let b : opened c input ++ (es ++ later) ≡ opened c (input ++ es) ++ later = sym (append_assoc (opened c input) es later) ∙ ap (λ l. l ++ later) (ap (λ l. opened c input ++ l) (sym (opened_all c es f)) ∙ sym (filter-append (λ (e : Element). nat_le c e.instant) input es)) in
      Same-trans (same_of (ap (window_rows first w u) a)) (Same-trans (g.stands u (es ++ later) (Each_append (λ e. c ≤ e.instant) es later f k) h) (same_of (ap (λ l. window_rows first w u (held ++ (waiting ++ l))) b)));
}

pub append_changes : (w : World) (es : ℕ → List Element) → ((k : ℕ) → AreFrom (w.closed k) (es k)) → Change w (appended w es) 0
append_changes w es f = record {
  agree = λ k t i j. same_of (sym (window_rows-later w.first (w.windows k) t (w.inputs k) (es k) (all_after (w.closed k) t (es k) j (f k))));
  windows = λ k h e n q i g. window_appends w.first (w.windows k) (w.inputs k) (es k) (w.closed k) h e n q (f k) g;
}

-- FORGETTING

pub forgetting_changes : (w : World) (kept : ℕ → List Element) (mark : ℕ) → Keeps w kept mark → Change w (forgotten w kept) mark
forgetting_changes w kept mark h = record {
  agree = λ k t i j. subst₂ (λ y z. Same (window_rows w.first (w.windows k) t y) (window_rows w.first (w.windows k) t z)) (append-nil (w.inputs k)) (append-nil (kept k)) (Same-sym (h.shows k t [] tt i));
  windows = λ k x e n q i g. record {
    rising = g.rising;
    closed = g.closed;
    brings = g.brings;
    stands = λ u later a b. Same-trans (h.shows k u later a (omega (arith, i, b))) (Same-trans (g.stands u later a b) (same_of (ap (λ l. window_rows w.first (w.windows k) u (x ++ (e ++ (l ++ later)))) (sym (h.open_kept k)))));
  };
}
