-- The turns of Select, Project, Group By and Distinct are turns of a net.
use Rattle.std.proofs.Common.{◌≡◌, ℕ, ◌+◌, ◌<◌, ◌≤◌, ◌^◌, Bool, true, false, List, [], ◌∷◌, ◌++◌, map, filter, length, refl, sym, ap, ap₂, ◌∙◌, subst, arith, true≢false}
use Rattle.std.specs.List.{All}
use Rattle.std.proofs.lemmas.List.Sorted.{All-permutation}
use Rattle.values.specs.Row.{Row, row_cmp, value_at}
use Rattle.values.specs.Bag.{distinct}
use Rattle.values.specs.Condition.{Condition, field}
use Rattle.values.specs.Relation.{Listed, Grouped}
use Rattle.values.specs.Resolved.{columns_of, items_of}
use Rattle.values.proofs.Perms.{perm-permutation}
use Rattle.op_queue.specs.Entries.{Entry, TickAt}
use Rattle.op_queue.specs.Signed.{weigh, Same, Legal, Turns}
use Rattle.op_queue.specs.declared.item.Item.TheVariants.{Rows, Tick}
use Rattle.op_queue.proofs.PathLemmas.{Leads-front_legal, Leads-take_tick}
use Rattle.op_queue.proofs.SignedLemmas.{Same-refl, Same-sym, Same-trans, Turns-none, Turns-same}
use Rattle.lane_kernels.specs.declared.condition.Step.{Step}
use Rattle.row_nodes.specs.Select as select
use Rattle.row_nodes.specs.Project as project
use Rattle.row_nodes.proofs.RowLemmas.{Turns-filter, Turns-map, filter_by}
use Rattle.group.specs.Groups.{grouped, once_each}
use Rattle.group.specs.Turns as group
use Rattle.group.specs.Laws as laws
use Rattle.group.proofs.LawLemmas.{rows_law, outputs_turn, tick_stands}
use Rattle.group.proofs.DistinctLemmas.{distinct_law}
use Rattle.plan.specs.Values.{holds_all, selected, shaped_rows}
use Rattle.plan.specs.Views.{columns_at}
use Rattle.laws_dataflow.specs.Nets.{Unary, World, unary, Cell, at_unary, GoodOne, RowsStep, TickStep, batch, closing, Turn, rows_turn, tick_turn}
use Rattle.laws_dataflow.specs.Operators.{selecting, listing, grouping, once, Tell}
use Rattle.laws_dataflow.proofs.BagLemmas.{same_of, same_perm}
use Rattle.laws_dataflow.proofs.FrontLemmas.{front_instant}
use Rattle.laws_dataflow.proofs.RootLemmas.{After, after}

-- a turn of an operator with one input: the bags that it has taken and put out then, for which its state stands
pub record UnaryMade (w : World) (f : Unary) (x : ℕ) (cell : Cell) (outs : List (Entry Row)) (rest : List (Entry Row)) (n2 : ℕ) (Stand : List Row → List Row → Type 0) : Type 0 where
  pub taken : List Row
  pub shown : List Row
  pub turn : Turn w (unary f x) cell outs (at_unary rest taken shown n2)
  pub stands : Stand shown taken

abbrev pub NoState : List Row → List Row → Type 0
NoState o i = Unit {0}

-- what goes on at rows in a step whose outputs follow the rows
module _ (w : World) (f : Unary) (x : ℕ) (v : ℕ → List Row) (below : List Row) (m : ℕ) where
  rows_at : (t n : ℕ) (b ys : List (Bool × Row)) (q : List (Entry Row)) (i o : List Row) (Stand : List Row → List Row → Type 0) → 0 < length b → GoodOne f v (batch t b ++ q) i o n below m
      → (i2 o2 : List Row) → RowsStep f i b o ys i2 o2 → Stand o2 i2 → UnaryMade w f x (at_unary (batch t b ++ q) i o n) (batch t ys) q n Stand
  rows_at t n b ys q i o Stand l g i2 o2 law s =
      subst (λ j. UnaryMade w f x (at_unary (batch j b ++ q) i o n) (batch j ys) q n Stand) (sym (front_instant t b q l g.edge))
      (record { taken = i2; shown = o2; turn = rows_turn f x n b ys q i i2 o o2 law; stands = s })

  tick_at : (t n : ℕ) (ys : List (Bool × Row)) (q : List (Entry Row)) (i o : List Row) (Stand : List Row → List Row → Type 0) → GoodOne f v (TickAt t ∷ q) i o n below m
      → (o2 : List Row) → TickStep f i o ys o2 → Stand o2 i → UnaryMade w f x (at_unary (TickAt t ∷ q) i o n) (closing t ys) q (n + 1) Stand
  tick_at t n ys q i o Stand g o2 law s =
      subst (λ j. UnaryMade w f x (at_unary (TickAt j ∷ q) i o n) (closing j ys) q (n + 1) Stand) (sym (Leads-take_tick g.edge).0)
      (record { taken = i; shown = o2; turn = tick_turn f x n ys q i o o2 law; stands = s })

  -- an operator that puts out at once passes a tick on
  pub passes_tick : f.streams ≡ true → (t n : ℕ) (q : List (Entry Row)) (i o : List Row) → GoodOne f v (TickAt t ∷ q) i o n below m → UnaryMade w f x (at_unary (TickAt t ∷ q) i o n) (TickAt t ∷ []) q (n + 1) NoState
  passes_tick e t n q i o g = tick_at t n [] q i o NoState g o (record { puts = λ h. Turns-none (Same-refl o); shows = λ h. h e }) tt

-- SELECT

module _ (w : World) (cs : List Condition) (steps : List Step) (tell : Tell steps cs) (x : ℕ) (v : ℕ → List Row) (below : List Row) (m : ℕ) where
  pub select_rows_made : (t n : ℕ) (b : List (Bool × Row)) (q : List (Entry Row)) (i o : List Row) → 0 < length b → GoodOne (selecting cs) v (batch t b ++ q) i o n below m
      → UnaryMade w (selecting cs) x (at_unary (batch t b ++ q) i o n) (select.selected steps (Rows t b)) q n NoState
  select_rows_made t n b q i o l g =
      let p : Row → Bool = λ r. holds_all cs (r ∷ []) in
      let a : After i b = after b i (Leads-front_legal t b q g.edge) in
      let e : filter (select.is_kept steps) b ≡ filter (λ s. p s.1) b = filter_by (select.is_kept steps) (λ s. p s.1) (λ s. tell.tells s.1) b in
      rows_at w (selecting cs) x v below m t n b (filter (select.is_kept steps) b) q i o NoState l g a.bag (selected cs a.bag)
      (record {
        took = λ h. a.adds;
        puts = λ h s. subst (λ ys. Turns o ys (selected cs a.bag)) (sym e) (Turns-same (Same-sym (s refl)) (Same-refl _) (Turns-filter p (record { adds = a.adds; legal = h })));
        shows = λ h r s. Same-refl _;
      }) tt

  pub select_tick_made : (t n : ℕ) (q : List (Entry Row)) (i o : List Row) → GoodOne (selecting cs) v (TickAt t ∷ q) i o n below m → UnaryMade w (selecting cs) x (at_unary (TickAt t ∷ q) i o n) (select.selected steps (Tick t)) q (n + 1) NoState
  select_tick_made t n q i o g = passes_tick w (selecting cs) x v below m refl t n q i o g

-- PROJECT, by the places of its columns

row_listed : (places : List ℕ) (r : Row) → map (field (r ∷ [])) (columns_at places) ≡ project.columns_in places r
row_listed [] r = refl
row_listed (k ∷ places) r = ap (λ (vs : Row). value_at r k ∷ vs) (row_listed places r)

rows_listed : (places : List ℕ) (rows : List Row) → shaped_rows (Listed (columns_at places)) rows ≡ map (project.columns_in places) rows
rows_listed places [] = refl
rows_listed places (r ∷ rows) = ap₂ (λ (x : Row) (xs : List Row). x ∷ xs) (row_listed places r) (rows_listed places rows)

module _ (w : World) (places : List ℕ) (x : ℕ) (v : ℕ → List Row) (below : List Row) (m : ℕ) where
  pub project_rows_made : (t n : ℕ) (b : List (Bool × Row)) (q : List (Entry Row)) (i o : List Row) → 0 < length b → GoodOne (listing (Listed (columns_at places))) v (batch t b ++ q) i o n below m
      → UnaryMade w (listing (Listed (columns_at places))) x (at_unary (batch t b ++ q) i o n) (project.projected places (Rows t b)) q n NoState
  project_rows_made t n b q i o l g =
      let f : Row → Row = project.columns_in places in
      let a : After i b = after b i (Leads-front_legal t b q g.edge) in
      rows_at w (listing (Listed (columns_at places))) x v below m t n b (map (project.projected_row places) b) q i o NoState l g a.bag (shaped_rows (Listed (columns_at places)) a.bag)
      (record {
        took = λ h. a.adds;
        puts = λ h s. Turns-same (Same-sym (Same-trans (s refl) (same_of (rows_listed places i)))) (same_of (sym (rows_listed places a.bag))) (Turns-map f (record { adds = a.adds; legal = h }));
        shows = λ h r s. Same-refl _;
      }) tt

  pub project_tick_made : (t n : ℕ) (q : List (Entry Row)) (i o : List Row) → GoodOne (listing (Listed (columns_at places))) v (TickAt t ∷ q) i o n below m
      → UnaryMade w (listing (Listed (columns_at places))) x (at_unary (TickAt t ∷ q) i o n) (project.projected places (Tick t)) q (n + 1) NoState
  project_tick_made t n q i o g = passes_tick w (listing (Listed (columns_at places))) x v below m refl t n q i o g

-- GROUP BY and DISTINCT: the state has taken in the bag and put out the other

abbrev pub GroupStands : group.GroupState → List Row → List Row → Type 0
GroupStands s o i = laws.Stands s o i

untrue {ℓ} : {A : Type ℓ} → false ≡ true → A
untrue h = absurd (true≢false (sym h))

module _ (w : World) (s : group.GroupState) (x : ℕ) (v : ℕ → List Row) (below : List Row) (m : ℕ) where
  -- an operator that puts out at ticks alone
  silent_rows : (f : Unary) → f.streams ≡ false → (t n : ℕ) (b : List (Bool × Row)) (q : List (Entry Row)) (i o : List Row) → 0 < length b → laws.Stands s o i → GoodOne f v (batch t b ++ q) i o n below m
      → UnaryMade w f x (at_unary (batch t b ++ q) i o n) (group.out s.group (Rows t b) (group.near s (Rows t b))) q n (GroupStands (group.next s (Rows t b) (group.change s.group (Rows t b) (group.near s (Rows t b)))))
  silent_rows f quiet t n b q i o l st g =
      let legal : Legal i b = Leads-front_legal t b q g.edge in
      let a : After i b = after b i legal in
      rows_at w f x v below m t n b [] q i o (GroupStands (group.next s (Rows t b) [])) l g a.bag o
      (record { took = λ h. a.adds; puts = λ h k. Turns-none (Same-refl o); shows = λ h r k. untrue (sym quiet ∙ r) }) (rows_law b s o i a.bag st legal a.adds)

  few : (n : ℕ) (i : List Row) → Same i (v n) → weigh (λ x. 1) (v n) ≤ 2 ^ 62 → weigh (λ x. 1) i ≤ 2 ^ 62
  few n i h k = omega (arith, h.weighs (λ x. 1), k)

  pub group_rows_made : (t n : ℕ) (b : List (Bool × Row)) (q : List (Entry Row)) (i o : List Row) → 0 < length b → laws.Stands s o i → GoodOne (grouping (Grouped (columns_of s.group.by) (items_of s.group.items))) v (batch t b ++ q) i o n below m
      → UnaryMade w (grouping (Grouped (columns_of s.group.by) (items_of s.group.items))) x (at_unary (batch t b ++ q) i o n) (group.out s.group (Rows t b) (group.near s (Rows t b))) q n
      (GroupStands (group.next s (Rows t b) (group.change s.group (Rows t b) (group.near s (Rows t b)))))
  group_rows_made t n b q i o l st g = silent_rows (grouping (Grouped (columns_of s.group.by) (items_of s.group.items))) refl t n b q i o l st g

  -- where no more than 2^62 rows are in the relation below at the tick
  pub group_tick_made : (t n : ℕ) (q : List (Entry Row)) (i o : List Row) → weigh (λ x. 1) (v n) ≤ 2 ^ 62 → laws.Stands s o i → GoodOne (grouping (Grouped (columns_of s.group.by) (items_of s.group.items))) v (TickAt t ∷ q) i o n below m
      → UnaryMade w (grouping (Grouped (columns_of s.group.by) (items_of s.group.items))) x (at_unary (TickAt t ∷ q) i o n) (group.out s.group (Tick t) (group.near s (Tick t))) q (n + 1)
      (GroupStands (group.next s (Tick t) (group.change s.group (Tick t) (group.near s (Tick t)))))
  group_tick_made t n q i o room st g =
      let bound : weigh (λ x. 1) i ≤ 2 ^ 62 = few n i (Leads-take_tick g.edge).1 room in
      tick_at w (grouping (Grouped (columns_of s.group.by) (items_of s.group.items))) x v below m t n (group.outputs s.group (group.near s (Tick t))) q i o
      (GroupStands (group.next s (Tick t) (group.change s.group (Tick t) (group.near s (Tick t))))) g (grouped s.group i)
      (record { puts = λ k. outputs_turn s o i st bound; shows = λ k. Same-refl _ }) (tick_stands s o i st bound)

  pub distinct_rows_made : (t n : ℕ) (b : List (Bool × Row)) (q : List (Entry Row)) (i o : List Row) → 0 < length b → laws.Stands s o i → GoodOne once v (batch t b ++ q) i o n below m
      → UnaryMade w once x (at_unary (batch t b ++ q) i o n) (group.out s.group (Rows t b) (group.near s (Rows t b))) q n (GroupStands (group.next s (Rows t b) (group.change s.group (Rows t b) (group.near s (Rows t b)))))
  distinct_rows_made t n b q i o l st g = silent_rows once refl t n b q i o l st g

  -- and each of them is so wide
  pub distinct_tick_made : (width : ℕ) → s.group ≡ once_each width → 0 < width → (t n : ℕ) (q : List (Entry Row)) (i o : List Row) → weigh (λ x. 1) (v n) ≤ 2 ^ 62 → All (λ r. length r ≡ width) (v n) → laws.Stands s o i
      → GoodOne once v (TickAt t ∷ q) i o n below m
      → UnaryMade w once x (at_unary (TickAt t ∷ q) i o n) (group.out s.group (Tick t) (group.near s (Tick t))) q (n + 1) (GroupStands (group.next s (Tick t) (group.change s.group (Tick t) (group.near s (Tick t)))))
  distinct_tick_made width is some t n q i o room wide st g =
      let h : Same i (v n) = (Leads-take_tick g.edge).1 in
      let bound : weigh (λ x. 1) i ≤ 2 ^ 62 = few n i h room in
      let each : All (λ r. length r ≡ width) i = All-permutation (λ r. length r ≡ width) (v n) i (perm-permutation (v n) i (same_perm (v n) i (Same-sym h))) wide in
      let e : grouped s.group i ≡ distinct row_cmp i = ap (λ k. grouped k i) is ∙ distinct_law width i some each in
      tick_at w once x v below m t n (group.outputs s.group (group.near s (Tick t))) q i o (GroupStands (group.next s (Tick t) (group.change s.group (Tick t) (group.near s (Tick t))))) g (grouped s.group i)
      (record { puts = λ k. outputs_turn s o i st bound; shows = λ k. same_of e }) (tick_stands s o i st bound)
