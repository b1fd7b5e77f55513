-- A query: what keeps it good, and what was given of its answers.
use Rattle.std.proofs.Common.{◌≡◌, ◌≢◌, ℕ, ◌-◌, ◌<◌, ◌≤◌, Bool, Some, List, ◌∷◌, ◌++◌, ◌⊎◌, ⊎_elim, refl, sym, ap, ◌∙◌, subst, subst₂, arith}
use Rattle.values.specs.Row.{Row}
use Rattle.values.specs.Window.{Element}
use Rattle.values.specs.StreamOperators.{operator_of}
use Rattle.op_queue.specs.Entries.{Entry, TickAt}
use Rattle.op_queue.specs.Paths.{Leads}
use Rattle.op_queue.specs.declared.item.Item.TheVariants.{Rows, Tick}
use Rattle.to_stream.specs.Turns.{State, near, out}
use Rattle.to_stream.specs.Law.{StepLaw}
use Rattle.laws_dataflow.specs.Nets.{Node, window, unary, join, World, Cell, at_window, at_unary, at_join, cell_shown, cell_next, batch, Turn, Feeds, to_unary, to_left, to_right, Planned, Laid}
use Rattle.laws_dataflow.specs.Worlds.{heartbeat_taken, Beat, fed_cell, Change, appended}
use Rattle.laws_dataflow.specs.Windows.{AreFrom}
use Rattle.laws_dataflow.specs.Queries.{given_from, GoodRoot, GoodQuery, Idle}
use Rattle.laws_dataflow.proofs.KeptLemmas.{all_kept, last_kept, LastKept}
use Rattle.laws_dataflow.proofs.IdleLemmas.{all_idle, all_below}
use Rattle.laws_dataflow.proofs.ChangeLemmas.{all_fed, all_changed, values_agree, append_changes}
use Rattle.laws_dataflow.proofs.RootLemmas.{root_takes_rows, root_takes_tick, root_fed, root_begins, root_complete, root_changed}

same_number : (a b : ℕ) → (a ≡ b) ⊎ (a ≢ b)
same_number a b = grind arith

fed_shown : {i : ℕ} {outs : List (Entry Row)} {node : Node} {a b : Cell} → Feeds i outs node a b → (cell_shown b ≡ cell_shown a) × (cell_next b ≡ cell_next a)
fed_shown (to_unary f q u o n) = (refl, refl)
fed_shown (to_left f y q r l m o n a b ne) = (refl, refl)
fed_shown (to_right f x q r l m o n a b ne) = (refl, refl)

module _ (w : World) (nodes : ℕ → Node) (count : ℕ) (v : ℕ → ℕ → List Row) (least : ℕ → ℕ) (p : Planned w nodes count v least) (start : ℕ) (earlier : List (ℕ × Row)) where
  -- A TURN of an operator whose consumer is another
  pub query_turns : (to : ℕ → ℕ) → Laid nodes count to → (cells cells2 : ℕ → Cell) (s : State) (q : List (Entry Row)) (given : List (ℕ × Row)) (i : ℕ) (outs : List (Entry Row)) → i < count → to i < count
      → Turn w (nodes i) (cells i) outs (cells2 i) → Feeds i outs (nodes (to i)) (cells (to i)) (cells2 (to i)) → ((k : ℕ) → k < count → k ≢ i → k ≢ to i → cells2 k ≡ cells k)
      → GoodQuery w nodes count v start earlier cells s q given → GoodQuery w nodes count v start earlier cells2 s q given
  query_turns to l cells cells2 s q given i outs ic jc turn feeds others g =
      let top : ℕ = count - 1 in
      let i_top : top ≢ i = λ e. omega (arith, e, l.later i ic, jc, l.some) in
      let same : (cell_shown (cells2 top) ≡ cell_shown (cells top)) × (cell_next (cells2 top) ≡ cell_next (cells top)) =
      ⊎_elim (λ e. subst (λ z. (cell_shown (cells2 z) ≡ cell_shown (cells z)) × (cell_next (cells2 z) ≡ cell_next (cells z))) (sym e) (fed_shown feeds))
      (λ ne. let e : cells2 top ≡ cells top = others top (omega (arith, l.some)) i_top ne in (ap cell_shown e, ap cell_next e))
      (same_number top (to i)) in
      record {
        good = all_kept w nodes v cells cells2 i (to i) outs count p.rises g.good ic jc (p.lawful i ic) (p.value i cells ic) turn feeds (λ e. omega (arith, e, l.later i ic)) others (λ k kc ne. l.apart i k ic kc ne);
        root = subst₂ (λ b m. GoodRoot w.first start earlier (v top) s q b m given) (sym same.0) (sym same.1) g.root;
      }

  -- of the operator below the root
  pub query_last_turns : (to : ℕ → ℕ) → Laid nodes count to → (cells cells2 : ℕ → Cell) (s : State) (q : List (Entry Row)) (given : List (ℕ × Row)) (i : ℕ) (outs : List (Entry Row)) → i < count → to i ≡ count
      → Turn w (nodes i) (cells i) outs (cells2 i) → ((k : ℕ) → k < count → k ≢ i → cells2 k ≡ cells k)
      → GoodQuery w nodes count v start earlier cells s q given → GoodQuery w nodes count v start earlier cells2 s (q ++ outs) given
  query_last_turns to l cells cells2 s q given i outs ic e turn others g =
      let kept : LastKept w nodes v cells2 count (v i) (cells i) outs (cells2 i) = last_kept w nodes v cells cells2 i outs count p.rises g.good ic (p.lawful i ic) (p.value i cells ic) turn others (λ k kc. l.apart i k ic kc (λ z. omega (arith, z, e, kc))) in
      let top : i ≡ count - 1 = omega (arith, l.final i ic e) in
      record {
        good = kept.good;
        root = root_fed w.first start earlier (v (count - 1)) s q outs _ _ _ _ given (subst (λ z. Leads (v z) (cell_shown (cells z)) (cell_next (cells z)) outs (cell_shown (cells2 z)) (cell_next (cells2 z))) top kept.path) g.root;
      }

  -- of the root, at rows and at a tick
  pub query_root_takes_rows : (cells : ℕ → Cell) (s new : State) (n : ℕ) (xs : List (Bool × Row)) (q : List (Entry Row)) (given : List (ℕ × Row)) → StepLaw s (Rows n xs) new → new.operator ≡ s.operator → new.last ≡ s.last
      → (g : GoodQuery w nodes count v start earlier cells s (batch n xs ++ q) given) → g.root.opens ≡ n → GoodQuery w nodes count v start earlier cells new q given
  query_root_takes_rows cells s new n xs q given law same told g e = record { good = g.good; root = root_takes_rows w.first start earlier (v (count - 1)) s new n xs q _ _ given law same told g.root e }

  pub query_root_takes_tick : (cells : ℕ → Cell) (s new : State) (n : ℕ) (q : List (Entry Row)) (given : List (ℕ × Row)) → StepLaw s (Tick n) new → new.operator ≡ s.operator → new.last ≡ Some n
      → GoodQuery w nodes count v start earlier cells s (TickAt n ∷ q) given → GoodQuery w nodes count v start earlier cells new q (given ++ out (Tick n) (near s (Tick n)))
  query_root_takes_tick cells s new n q given law same told g = record { good = g.good; root = root_takes_tick w.first start earlier (v (count - 1)) s new n q _ _ given law same told g.root }

  -- WHAT WAS GIVEN IS A BEGINNING of the answers of the instants that are closed
  pub query_begins : 0 < count → (cells : ℕ → Cell) (s : State) (q : List (Entry Row)) (given : List (ℕ × Row)) → GoodQuery w nodes count v start earlier cells s q given
      → (rest : List (ℕ × Row)) × (earlier ++ given_from (operator_of s.operator) w.first (v (count - 1)) start (least (count - 1)) ≡ given ++ rest)
  query_begins some cells s q given g =
      let below : cell_next (cells (count - 1)) ≤ least (count - 1) = all_below w nodes count v least cells p g.good (count - 1) (omega (arith, some)) in
      (given_from (operator_of s.operator) w.first (v (count - 1)) g.root.opens (least (count - 1)), root_begins w.first start earlier (v (count - 1)) s q _ _ (least (count - 1)) given below g.root)

  -- AND ALL OF THEM where nothing is ready
  pub query_complete : 0 < count → (cells : ℕ → Cell) (s : State) (q : List (Entry Row)) (given : List (ℕ × Row)) → Idle count cells q → GoodQuery w nodes count v start earlier cells s q given
      → given ≡ earlier ++ given_from (operator_of s.operator) w.first (v (count - 1)) start (least (count - 1))
  query_complete some cells s q given i g =
      let top : ℕ = count - 1 in
      let e : cell_next (cells top) ≡ least top = all_idle w nodes count v least cells p g.good i.inner top (omega (arith, some)) in
      root_complete w.first start earlier (v top) s _ (cell_next (cells top)) given (subst (λ z. GoodRoot w.first start earlier (v top) s z (cell_shown (cells top)) (cell_next (cells top)) given) i.root g.root)
      ∙ ap (λ z. earlier ++ given_from (operator_of s.operator) w.first (v top) start z) e

  -- A HEARTBEAT
  fed_same : (fresh : ℕ → List Element) (more : ℕ → List (Entry Row)) (node : Node) (a : Cell) → (cell_shown (fed_cell fresh more node a) ≡ cell_shown a) × (cell_next (fed_cell fresh more node a) ≡ cell_next a)
  fed_same fresh more (window x) (at_window h e o q n) = (refl, refl)
  fed_same fresh more (window x) (at_unary q i o n) = (refl, refl)
  fed_same fresh more (window x) (at_join q r l m o n a b) = (refl, refl)
  fed_same fresh more (unary f x) c = (refl, refl)
  fed_same fresh more (join f x y) c = (refl, refl)

  pub query_beats : (closed2 : ℕ → ℕ) (fresh : ℕ → List Element) (more : ℕ → List (Entry Row)) → Beat w closed2 fresh more → (cells : ℕ → Cell) (s : State) (q : List (Entry Row)) (given : List (ℕ × Row))
      → GoodQuery w nodes count v start earlier cells s q given → GoodQuery (heartbeat_taken w closed2) nodes count v start earlier (λ k. fed_cell fresh more (nodes k) (cells k)) s q given
  query_beats closed2 fresh more b cells s q given g =
      let same : (cell_shown (fed_cell fresh more (nodes (count - 1)) (cells (count - 1))) ≡ cell_shown (cells (count - 1))) × (cell_next (fed_cell fresh more (nodes (count - 1)) (cells (count - 1))) ≡ cell_next (cells (count - 1))) = fed_same fresh more (nodes (count - 1)) (cells (count - 1)) in
      record {
        good = all_fed w closed2 fresh more b nodes count v cells g.good;
        root = subst₂ (λ z m. GoodRoot w.first start earlier (v (count - 1)) s q z m given) (sym same.0) (sym same.1) g.root;
      }

  -- ANOTHER WORLD, of the same first instant
  pub query_changes : (u : World) (lo : ℕ) (least2 : ℕ → ℕ) (z : ℕ → ℕ → List Row) → Change w u lo → u.first ≡ w.first → Planned u nodes count z least2 → 0 < count → lo ≤ start - 1
      → (cells : ℕ → Cell) (s : State) (q : List (Entry Row)) (given : List (ℕ × Row)) → ((k : ℕ) → k < count → lo ≤ cell_next (cells k))
      → GoodQuery w nodes count v start earlier cells s q given → GoodQuery u nodes count z start earlier cells s q given
  query_changes u lo least2 z c e r some h cells s q given ahead g =
      let top : ℕ = count - 1 in
      let below : cell_next (cells top) ≤ least top = all_below w nodes count v least cells p g.good top (omega (arith, some)) in
      record {
        good = all_changed w u lo nodes count least least2 v z cells c p r ahead g.good;
        root = subst (λ f. GoodRoot f start earlier (z top) s q (cell_shown (cells top)) (cell_next (cells top)) given) (sym e)
            (root_changed w.first start earlier (v top) (z top) s q _ _ given (λ t i j. values_agree w u lo nodes count least least2 v z cells c p r top t (omega (arith, some)) (omega (arith, i, h)) (omega (arith, j, below))) g.root);
      }

  -- elements are appended at instants that are not closed
  pub query_appends : (es : ℕ → List Element) → ((k : ℕ) → AreFrom (w.closed k) (es k)) → (least2 : ℕ → ℕ) (z : ℕ → ℕ → List Row) → Planned (appended w es) nodes count z least2 → 0 < count
      → (cells : ℕ → Cell) (s : State) (q : List (Entry Row)) (given : List (ℕ × Row)) → GoodQuery w nodes count v start earlier cells s q given → GoodQuery (appended w es) nodes count z start earlier cells s q given
  query_appends es f least2 z r some cells s q given g = query_changes (appended w es) 0 least2 z (append_changes w es f) refl r some (omega arith) cells s q given (λ k kc. omega arith) g
