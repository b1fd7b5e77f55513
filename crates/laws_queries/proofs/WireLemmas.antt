-- The wires of a plan lead to the consumers of its net.
use Rattle.std.proofs.Common.{◌≡◌, ◌≢◌, ℕ, zero, suc, ◌+◌, ◌-◌, ◌<◌, ◌≤◌, ◌==◌, true, false, cond, inl, inr, ◌⊎◌, ⊎_elim, Option, Some, None, List, [], ◌∷◌, length, get_or, refl, sym, ap, ◌∙◌, subst, arith, eqb-true, eq-eqb}
use Rattle.std.proofs.lemmas.Bool.{ne_eqb}
use Rattle.column.specs.declared.batch.Side.{Side}
use Rattle.column.specs.declared.batch.Side.TheVariants.{Left, Right}
use Rattle.physical_plans.specs.Wiring.{on_left, takes_on, wire_from, wire_or}
use Rattle.physical_plans.specs.declared.wiring.Wire.{Wire}
use Rattle.values.specs.Answers.{StreamOperator}
use Rattle.plan.specs.Nodes as plan
use Rattle.plan.specs.Nodes.{Window, Select, Join, Project, Group, Distinct, ToStream}
use Rattle.plan.specs.Paths.{takes}
use Rattle.plan.proofs.Lists.{by_test}
use Rattle.laws_dataflow.specs.Laws as nets
use Rattle.laws_dataflow.specs.Nets.{Laid, Takes}
use Rattle.laws_dataflow.specs.Operators.{net_of, node_of}
use Rattle.laws_dataflow.specs.Plans.{consumer, consumer_of, world_of}
use Rattle.laws_dataflow.specs.Roots.{below_root}
use Rattle.laws_dataflow.proofs.AnswerLemmas.{query_laid, shaped}
use Rattle.laws_dataflow.proofs.PlanLemmas.{Shaped}
use Rattle.reference.specs.Machine.{Machine, Registered}
use Rattle.laws_queries.specs.Plain.{node_at}

-- the operator takes what k puts out, on this side
abbrev pub TakesAt : ℕ → plan.Node → Side → Type 0
TakesAt k (Window s) side = ⊥
TakesAt k (Select j cs) side = (j ≡ k) × (side ≡ Left)
TakesAt k (Join x y ks) side = ((x ≡ k) × (y ≢ k) × (side ≡ Left)) ⊎ ((y ≡ k) × (x ≢ k) × (side ≡ Right))
TakesAt k (Project j columns) side = (j ≡ k) × (side ≡ Left)
TakesAt k (Group j by items) side = (j ≡ k) × (side ≡ Left)
TakesAt k (Distinct j) side = (j ≡ k) × (side ≡ Left)
TakesAt k (ToStream j op) side = (j ≡ k) × (side ≡ Left)

some_side : {a b : Side} → Some a ≡ Some b → b ≡ a
some_side e = cc

on_left_at : (j k : ℕ) (side : Side) → on_left j k ≡ Some side → (j ≡ k) × (side ≡ Left)
on_left_at j k side e = by_test (j == k) (λ t. (eqb-true j k t, some_side (rw t at e))) (λ f. let bad : None ≡ Some side = rw f at e in absurd (cc))

pub takes_at : (k : ℕ) (node : plan.Node) (side : Side) → Takes k (node_of node) → takes_on k node ≡ Some side → TakesAt k node side
takes_at k (Window s) side t e = t
takes_at k (Select j cs) side t e = on_left_at j k side e
takes_at k (Join x y ks) side (inl t) e = let b : (x == k) ≡ true = eq-eqb x k t.0 in inl (t.0, t.1, some_side (rw b at e))
takes_at k (Join x y ks) side (inr t) e =
    let b : (x == k) ≡ false = ne_eqb x k t.1 in
    let c : (y == k) ≡ true = eq-eqb y k t.0 in
    inr (t.0, t.1, some_side (rw (b, c) at e))
takes_at k (Project j columns) side t e = on_left_at j k side e
takes_at k (Group j by items) side t e = on_left_at j k side e
takes_at k (Distinct j) side t e = on_left_at j k side e
takes_at k (ToStream j op) side t e = on_left_at j k side e

-- an operator that takes what k puts out does so on a side
left_some : (j k : ℕ) → (j == k) ≡ true → (side : Side) × (on_left j k ≡ Some side)
left_some j k e = (Left, rw e refl)

left_none : (j k : ℕ) → (j == k) ≡ false → on_left j k ≡ None
left_none j k e = rw e refl

takes_some : (k : ℕ) (node : plan.Node) → takes k node ≡ true → (side : Side) × (takes_on k node ≡ Some side)
takes_some k (Window s) e = absurd (cc)
takes_some k (Select j cs) e = left_some j k e
takes_some k (Join x y ks) e = by_test (x == k) (λ t. (Left, rw t refl)) (λ f. let g : (y == k) ≡ true = rw f at e in (Right, rw (f, g) refl))
takes_some k (Project j columns) e = left_some j k e
takes_some k (Group j by items) e = left_some j k e
takes_some k (Distinct j) e = left_some j k e
takes_some k (ToStream j op) e = left_some j k e

takes_none : (k : ℕ) (node : plan.Node) → takes k node ≡ false → takes_on k node ≡ None
takes_none k (Window s) e = refl
takes_none k (Select j cs) e = left_none j k e
takes_none k (Join x y ks) e = by_test (x == k) (λ t. let bad : true ≡ false = rw t at e in absurd (cc)) (λ f. let g : (y == k) ≡ false = rw f at e in rw (f, g) refl)
takes_none k (Project j columns) e = left_none j k e
takes_none k (Group j by items) e = left_none j k e
takes_none k (Distinct j) e = left_none j k e
takes_none k (ToStream j op) e = left_none j k e

-- THE WIRE of the operator k leads to its consumer
pub wire_to : (n : ℕ) (xs : List plan.Node) (k : ℕ) → (wire_from n xs k).to ≡ consumer k n xs
wire_to n [] k = refl
wire_to n (x ∷ xs) k = by_test (takes k x)
    (λ t. let s : (side : Side) × (takes_on k x ≡ Some side) = takes_some k x t in ap (λ o. (wire_or n (wire_from (suc n) xs k) o).to) s.1 ∙ ap (λ b. cond b n (consumer k (suc n) xs)) (sym t))
    (λ f. ap (λ o. (wire_or n (wire_from (suc n) xs k) o).to) (takes_none k x f) ∙ wire_to (suc n) xs k ∙ ap (λ b. cond b n (consumer k (suc n) xs)) (sym f))

later_of : (n : ℕ) (rest : Wire) (o : Option Side) → suc n < suc rest.to → n < suc (wire_or n rest o).to
later_of n rest (Some side) h = omega arith
later_of n rest None h = omega (arith, h)

later : (n : ℕ) (xs : List plan.Node) (k : ℕ) → n < suc (wire_from n xs k).to
later n [] k = omega arith
later n (x ∷ xs) k = later_of n (wire_from (suc n) xs k) (takes_on k x) (later (suc n) xs k)

side_of : (n k : ℕ) (x : plan.Node) (xs : List plan.Node) (d : plan.Node) (rest : Wire) (o : Option Side) → takes_on k x ≡ o → n < rest.to → ((j : ℕ) → rest.to ≡ suc n + j → j < length xs → takes_on k (get_or xs j d) ≡ Some rest.side)
    → (j : ℕ) → (wire_or n rest o).to ≡ n + j → j < length (x ∷ xs) → takes_on k (get_or (x ∷ xs) j d) ≡ Some (wire_or n rest o).side
side_of n k x xs d rest (Some side) o l f zero e h = o
side_of n k x xs d rest (Some side) o l f (suc j) e h = absurd (omega (arith, e))
side_of n k x xs d rest None o l f zero e h = absurd (omega (arith, e, l))
side_of n k x xs d rest None o l f (suc j) e h = f j (omega (arith, e)) (omega (arith, h))

-- on the side where that takes it
pub wire_side : (n : ℕ) (xs : List plan.Node) (k j : ℕ) (d : plan.Node) → (wire_from n xs k).to ≡ n + j → j < length xs → takes_on k (get_or xs j d) ≡ Some (wire_from n xs k).side
wire_side n [] k j d e h = absurd (omega (arith, h))
wire_side n (x ∷ xs) k j d e h =
    let l : suc n < suc (wire_from (suc n) xs k).to = later (suc n) xs k in
    side_of n k x xs d (wire_from (suc n) xs k) (takes_on k x) refl (omega (arith, l)) (λ i t b. wire_side (suc n) xs k i d t b) j e h

pub at_most : {A : Type 0} (a b : ℕ) → a ≤ b → (a < b → A) → (a ≡ b → A) → A
at_most a b h f g = ⊎_elim f g (let d : (a < b) ⊎ (a ≡ b) = grind arith in d)

-- THE WIRES OF A REGISTERED QUERY
pub record Wired (q : Registered) (k : ℕ) : Type 0 where
  pub consumer : (wire_from 0 q.nodes k).to ≡ consumer_of q.nodes k
  pub later : k < (wire_from 0 q.nodes k).to
  pub within : (wire_from 0 q.nodes k).to ≤ below_root q.nodes
  pub takes : TakesAt k (node_at q (wire_from 0 q.nodes k).to) (wire_from 0 q.nodes k).side

root_takes : (k j : ℕ) (op : StreamOperator) (node : plan.Node) (side : Side) → node ≡ ToStream j op → takes_on k node ≡ Some side → TakesAt k node side
root_takes k j op node side e t = subst (λ n. TakesAt k n side) (sym e) (on_left_at j k side (sym (ap (takes_on k) e) ∙ t))

module _ (vs : List ℕ) (m : Machine) (q : Registered) (stands : nets.Stands vs m q) where
  pub wired : (k : ℕ) → k < below_root q.nodes → Wired q k
  wired k kc =
      let laid : Laid (net_of q.nodes) (below_root q.nodes) (consumer_of q.nodes) = query_laid vs m q stands.plan stands.wide in
      let sh : Shaped (world_of m q).closed q.meaning q.nodes = shaped vs m q stands.plan stands.wide in
      let to : ℕ = (wire_from 0 q.nodes k).to in
      let side : Side = (wire_from 0 q.nodes k).side in
      let e : to ≡ consumer_of q.nodes k = wire_to 0 q.nodes k in
      let most : to ≤ below_root q.nodes = omega (arith, e, laid.within k kc) in
      let two : 2 ≤ length q.nodes = sh.two in
      let z : to ≡ 0 + to = omega arith in
      let on : takes_on k (node_at q to) ≡ Some side = wire_side 0 q.nodes k to (Window 0) z (omega (arith, most, two)) in
      record {
        consumer = e;
        later = omega (arith, e, laid.later k kc);
        within = most;
        takes = at_most to (below_root q.nodes) most
            (λ lt. takes_at k (node_at q to) side (subst (λ n. Takes k (net_of q.nodes n)) (sym e) (laid.taken k kc (omega (arith, e, lt)))) on)
            (λ same. root_takes k (length q.nodes - 2) q.meaning.operator (node_at q to) side (ap (node_at q) same ∙ sh.root) on);
      }
