-- A query over what an opening keeps of the machine's streams: it goes on from its mark.
use Rattle.std.proofs.Common.{◌≡◌, ℕ, zero, suc, ◌-◌, ◌<◌, ◌≤◌, Bool, true, false, cond, nat_le, max, min, fold, ⊎_elim, List, [], ◌∷◌, ◌++◌, filter, length, get_or, refl, sym, ap, ◌∙◌, subst, subst₂, arith, append-nil, length-append, le-leb, leb-true, true≢false}
use Rattle.std.specs.Prelude.{unwrap_or}
use Rattle.std.specs.List.{reduce}
use Rattle.std.proofs.lemmas.Bool.{cases_lt}
use Rattle.std.proofs.lemmas.List.{get_or_past, length-map}
use Rattle.values.specs.Row.{Row}
use Rattle.values.specs.Needs.{is_needed}
use Rattle.values.specs.Enough.{Each, HasNeeded}
use Rattle.values.specs.Window.{Element, Window}
use Rattle.values.proofs.WindowLaw.{window_law}
use Rattle.op_queue.specs.Entries.{Entry}
use Rattle.to_stream.specs.Turns.{State}
use Rattle.reference.specs.Machine.{Machine, Registered, input_at, opens, until_for}
use Rattle.laws_dataflow.specs.Windows.{opened}
use Rattle.laws_dataflow.specs.Nets.{Cell, Planned}
use Rattle.laws_dataflow.specs.Operators.{net_of}
use Rattle.laws_dataflow.specs.Worlds.{Keeps, forgotten}
use Rattle.laws_dataflow.specs.Queries.{GoodQuery, GoodRoot}
use Rattle.laws_dataflow.specs.Plans.{AreWide, IsPlanOf, comes, consumer_of, inputs_of, least_of}
use Rattle.laws_dataflow.specs.Plans.{value_of, world_by, world_of}
use Rattle.laws_dataflow.specs.Roots.{below_root}
use Rattle.laws_dataflow.proofs.AnswerLemmas.{query_laid, query_least, query_planned, shaped}
use Rattle.laws_dataflow.proofs.BagLemmas.{same_of}
use Rattle.laws_dataflow.proofs.ForgetLemmas.{opens_ahead, query_forgets}
use Rattle.laws_dataflow.proofs.IdleLemmas.{all_below}

-- THE LEAST of the open instants is no greater than each
fold_least : (x : ℕ) (xs : List ℕ) → (fold min x xs ≤ x) × ((k : ℕ) → k < length xs → fold min x xs ≤ get_or xs k 0)
fold_least x [] = (omega arith, λ k h. absurd (omega (arith, h)))
fold_least x (y ∷ ys) = let r = fold_least (min x y) ys in (omega (arith, r.0), both r.0 r.1)
  where
    both : fold min (min x y) ys ≤ min x y → ((k : ℕ) → k < length ys → fold min (min x y) ys ≤ get_or ys k 0) → (k : ℕ) → k < suc (length ys) → fold min (min x y) ys ≤ get_or (y ∷ ys) k 0
    both a f zero h = omega (arith, a)
    both a f (suc k) h = f k (omega (arith, h))

least_each : (xs : List ℕ) (k : ℕ) → k < length xs → unwrap_or (reduce min xs) 0 ≤ get_or xs k 0
least_each [] k h = absurd (omega (arith, h))
least_each (x ∷ xs) zero h = (fold_least x xs).0
least_each (x ∷ xs) (suc k) h = (fold_least x xs).1 k (omega (arith, h))

-- what is open is needed, where `next` is closed
open_needed : (first c next : ℕ) (w : Window) (es all : List Element) (kept : Element → Bool) → next ≤ c → Each (λ e. is_needed first w next all e ≡ true → kept e ≡ true) es → opened c (filter kept es) ≡ opened c es
open_needed first c next w [] all kept le h = refl
open_needed first c next w (e ∷ es) all kept le h = here (kept e) refl (nat_le c e.instant) refl (open_needed first c next w es all kept le h.1)
  where
    needed : nat_le c e.instant ≡ true → is_needed first w next all e ≡ true
    needed i = let l : nat_le next e.instant ≡ true = le-leb next e.instant (omega (arith, le, leb-true c e.instant i)) in rw l refl

    here : (b : Bool) → kept e ≡ b → (d : Bool) → nat_le c e.instant ≡ d → opened c (filter kept es) ≡ opened c es
        → opened c (cond b (e ∷ filter kept es) (filter kept es)) ≡ cond d (e ∷ opened c es) (opened c es)
    here true i d j k = ap (λ x. cond x (e ∷ opened c (filter kept es)) (opened c (filter kept es))) j ∙ ap (λ l. cond d (e ∷ l) l) k
    here false i true j k = absurd (true≢false (sym (h.0 (needed j)) ∙ i))
    here false i false j k = k

-- a root that has given nothing behind what it had given, behind other answers
none_behind : (xs ys : List (ℕ × Row)) → xs ≡ xs ++ ys → ys ≡ []
none_behind xs [] h = refl
none_behind xs (y ∷ ys) h = absurd (omega (arith, ap length h, length-append xs (y ∷ ys)))

root_behind : (first start : ℕ) (v : ℕ → List Row) (s : State) (q : List (Entry Row)) (below : List Row) (n : ℕ) (given waiting : List (ℕ × Row)) → GoodRoot first start given v s q below n given → GoodRoot first start waiting v s q below n waiting
root_behind first start v s q below n given waiting g = record {
  whole = g.whole;
  last = g.last;
  opens = g.opens;
  edge = g.edge;
  began = g.began;
  going = g.going;
  mark = g.mark;
  stands = g.stands;
  last_is = g.last_is;
  given_is = sym (ap (λ l. waiting ++ l) (none_behind given _ g.given_is) ∙ append-nil waiting);
}

module _ (vs : List ℕ) (m m2 : Machine) (q : Registered) (p : IsPlanOf vs q.meaning q.nodes) (wide : AreWide vs m q) (wide2 : AreWide vs m2 q) (same : opens m2.streams q.places ≡ opens m.streams q.places) (came : comes m2.streams q.places ≡ comes m.streams q.places) (next : ℕ) (keep : ℕ → Element → Bool)
    (part : (k : ℕ) → get_or (inputs_of m2 q) k [] ≡ filter (keep k) (get_or (inputs_of m q) k []))
    (needed : (k : ℕ) → HasNeeded q.first ((world_of m q).windows k) next (get_or (inputs_of m q) k []) (keep k)) where
  kept : ℕ → List Element
  kept k = get_or (inputs_of m2 q) k []

  module _ (cells : ℕ → Cell) (s : State) (queue : List (Entry Row)) (given : List (ℕ × Row)) (g : GoodQuery (world_of m q) (net_of q.nodes) (below_root q.nodes) (value_of m q) q.start q.earlier cells s queue given) (at : g.root.opens ≡ next) where
    below_least : next ≤ max q.first (until_for m.streams q.places)
    below_least =
        let count : ℕ = below_root q.nodes in
        let some : 0 < count = omega (arith, (shaped vs m q p wide).two) in
        let top : count - 1 < count = omega (arith, some) in
        omega (
          arith,
          at,
          sym (query_least vs m q p wide),
          opens_ahead (world_of m q) (net_of q.nodes) count (value_of m q) (least_of m q) (query_planned vs m q p wide) (consumer_of q.nodes) (query_laid vs m q p wide) q.start q.earlier cells s queue given g (count - 1) top,
          all_below (world_of m q) (net_of q.nodes) count (value_of m q) (least_of m q) cells (query_planned vs m q p wide) g.good (count - 1) top,
        )

    closed_reached : (k : ℕ) → k < length q.places → next ≤ (world_of m q).closed k
    closed_reached k h = omega (arith, below_least, least_each (opens m.streams q.places) k (subst (λ n. k < n) (sym (length-map q.places _)) h))

    pub open_kept : (k : ℕ) → opened ((world_of m q).closed k) (get_or (inputs_of m2 q) k []) ≡ opened ((world_of m q).closed k) (get_or (inputs_of m q) k [])
    open_kept k = ap (opened ((world_of m q).closed k)) (part k) ∙ ⊎_elim
        (λ l. open_needed q.first ((world_of m q).closed k) next ((world_of m q).windows k) (get_or (inputs_of m q) k []) (get_or (inputs_of m q) k []) (keep k) (closed_reached k l) (needed k))
        (λ l. let none : get_or (inputs_of m q) k [] ≡ [] = get_or_past (inputs_of m q) k [] (omega (arith, l, length-map q.places (input_at m.streams q.first))) in
        ap (λ es. opened ((world_of m q).closed k) (filter (keep k) es)) none ∙ ap (opened ((world_of m q).closed k)) (sym none))
        (cases_lt k (length q.places))

    keeps : Keeps (world_of m q) (λ k. get_or (inputs_of m2 q) k []) (g.root.opens - 1)
    keeps = record {
      shows = λ k t later f h. same_of (ap (λ es. Rattle.values.specs.Window.window_rows q.first ((world_of m q).windows k) t (es ++ later)) (part k)
          ∙ window_law q.first ((world_of m q).windows k) next (get_or (inputs_of m q) k []) (keep k) (needed k) t later (omega (arith, at, h)));
      open_kept = open_kept;
    }

    planned2 : Planned (forgotten (world_of m q) (λ k. get_or (inputs_of m2 q) k [])) (net_of q.nodes) (below_root q.nodes) (value_of m2 q) (least_of m2 q)
    planned2 = subst₂ (λ ops cs. Planned (world_by q.first q.meaning.windows (inputs_of m2 q) ops cs) (net_of q.nodes) (below_root q.nodes) (value_of m2 q) (least_of m2 q)) same came (query_planned vs m2 q p wide2)

    -- IT GOES ON in the other machine, behind these answers that wait
    pub machine_forgets : (waiting : List (ℕ × Row)) → GoodQuery (world_of m2 q) (net_of q.nodes) (below_root q.nodes) (value_of m2 q) next waiting cells s queue waiting
    machine_forgets waiting =
        let f : GoodQuery (forgotten (world_of m q) (λ k. get_or (inputs_of m2 q) k [])) (net_of q.nodes) (below_root q.nodes) (value_of m2 q) g.root.opens given cells s queue given =
        query_forgets (world_of m q) (net_of q.nodes) (below_root q.nodes) (value_of m q) (least_of m q) (query_planned vs m q p wide) (consumer_of q.nodes) (query_laid vs m q p wide) q.start q.earlier
        (λ k. get_or (inputs_of m2 q) k []) (least_of m2 q) (value_of m2 q) planned2 cells s queue given g keeps in
        subst₂ (λ ops cs. GoodQuery (world_by q.first q.meaning.windows (inputs_of m2 q) ops cs) (net_of q.nodes) (below_root q.nodes) (value_of m2 q) next waiting cells s queue waiting) (sym same) (sym came)
        (subst (λ n. GoodQuery (forgotten (world_of m q) (λ k. get_or (inputs_of m2 q) k [])) (net_of q.nodes) (below_root q.nodes) (value_of m2 q) n waiting cells s queue waiting) at
        (record { good = f.good; root = root_behind q.first g.root.opens (value_of m2 q (below_root q.nodes - 1)) s queue _ _ given waiting f.root }))
