-- What the operators of a plan mean: the value that turns keep, of each kind, is that of the plan's node.
use Rattle.std.proofs.Common.{◌≡◌, ◌∙◌, ◌+◌, ◌≤◌, ℕ, Bool, true, false, ◌&&◌, Some, List, [], ◌∷◌, ◌++◌, map, filter, cond, refl, ap, ap₂, arith}
use Rattle.std.specs.List.{AllByRecursion, flat_map}
use Rattle.values.specs.Row.{Row, value_at}
use Rattle.values.specs.Condition.{Condition, And, SourceColumn, field, keeps}
use Rattle.values.specs.Relation.{Grouped, Listed, shaped}
use Rattle.values.specs.Resolved.{columns_of, items_of}
use Rattle.values.specs.declared.resolved.ListItem.{ListItem}
use Rattle.values.proofs.Split.{keeps-and}
use Rattle.lane_kernels.specs.Steps.{top}
use Rattle.group.specs.Groups.{column_at, grouped}
use Rattle.join.specs.Pairs as pairs
use Rattle.join.specs.Pairs.{known_equal}
use Rattle.row_nodes.specs.Laws.{Mean, project_value, select_value}
use Rattle.row_nodes.specs.Project.{columns_in}
use Rattle.row_nodes.specs.Steps.{IsOfOneSource, truths_needed}
use Rattle.row_nodes.proofs.StepLemmas.{steps_mean}
use Rattle.plan.specs.Build.{at}
use Rattle.plan.specs.Values as valued
use Rattle.plan.specs.Views.{columns_at, keys_of}
use Rattle.plan.specs.declared.node.Key.{Key}
use Rattle.physical_plans.specs.Beginnings.{grouping, key_pair}
use Rattle.physical_plans.specs.Conjuncts.{all_steps, joined}

-- ---- Select
of_one_source : (c : Condition) (cs : List Condition) → IsOfOneSource c → AllByRecursion IsOfOneSource cs → IsOfOneSource (joined c cs)
of_one_source c [] h k = h
of_one_source c (d ∷ ds) h k = of_one_source (And c d) ds (h, k.0) k.1

mean : (c : Condition) (cs : List Condition) → AllByRecursion IsOfOneSource (c ∷ cs) → Mean (all_steps (c ∷ cs)) (joined c cs)
mean c cs h = record { means = λ row. ap top (steps_mean (joined c cs) row [] (of_one_source c cs h.0 h.1)) }

and_assoc : (a b c : Bool) → ((a && b) && c) ≡ (a && (b && c))
and_assoc true b c = refl
and_assoc false b c = refl

and_true : (b : Bool) → b ≡ (b && true)
and_true true = refl
and_true false = refl

keeps_all : (c : Condition) (cs : List Condition) (rows : List Row) → keeps (Some (joined c cs)) rows ≡ (keeps (Some c) rows && valued.holds_all cs rows)
keeps_all c [] rows = and_true (keeps (Some c) rows)
keeps_all c (d ∷ ds) rows =
    keeps_all (And c d) ds rows
    ∙ ap (λ b. b && valued.holds_all ds rows) (keeps-and c d rows)
    ∙ and_assoc (keeps (Some c) rows) (keeps (Some d) rows) (valued.holds_all ds rows)

filter_same : (p q : Row → Bool) → ((r : Row) → p r ≡ q r) → (rows : List Row) → filter p rows ≡ filter q rows
filter_same p q h [] = refl
filter_same p q h (r ∷ rows) = ap₂ (λ b rest. cond b (r ∷ rest) rest) (h r) (filter_same p q h rows)

selects : (c : Condition) (cs : List Condition) (rows : List Row) → select_value (joined c cs) rows ≡ valued.selected (c ∷ cs) rows
selects c cs rows = filter_same (λ r. keeps (Some (joined c cs)) (r ∷ [])) (λ r. valued.holds_all (c ∷ cs) (r ∷ [])) (λ r. keeps_all c cs (r ∷ [])) rows

truths : (n : ℕ) (c : Condition) (cs : List Condition) → truths_needed c ≤ n → AllByRecursion (λ d. truths_needed d + 1 ≤ n) cs → truths_needed (joined c cs) ≤ n
truths n c [] h k = h
truths n c (d ∷ ds) h k = truths n (And c d) ds (let m = k.0 in omega (arith, h, m)) k.1

-- ---- Project and Group
columns_same : (places : List ℕ) (row : Row) → columns_in places row ≡ map (field (row ∷ [])) (columns_at places)
columns_same [] row = refl
columns_same (k ∷ places) row = ap (λ vs. value_at row k ∷ vs) (columns_same places row)

projects : (places : List ℕ) (rows : List Row) → project_value places rows ≡ valued.shaped_rows (Listed (columns_at places)) rows
projects places [] = refl
projects places (r ∷ rows) = ap₂ (λ (x : Row) (xs : List Row). x ∷ xs) (columns_same places r) (projects places rows)

by_same : (by : List ℕ) → columns_of (map column_at by) ≡ columns_at by
by_same [] = refl
by_same (k ∷ by) = ap (λ (cs : List SourceColumn). at k ∷ cs) (by_same by)

groups : (by : List ℕ) (items : List ListItem) (rows : List Row) → grouped (grouping by items) rows ≡ valued.shaped_rows (Grouped (columns_at by) (items_of items)) rows
groups by items rows = ap (λ (cs : List SourceColumn). shaped (Grouped cs (items_of items)) (map (λ r. r ∷ []) rows)) (by_same by)

-- ---- Join
fits_same : (keys : List Key) (l r : Row) → pairs.fits (map key_pair keys) l r ≡ valued.fits (keys_of keys) l r
fits_same [] l r = refl
fits_same (k ∷ keys) l r = ap (λ b. known_equal (value_at l k.left) (value_at r k.right) && b) (fits_same keys l r)

matches_same : (keys : List Key) (l : Row) (rs : List Row) → flat_map (pairs.pair (map key_pair keys) l) rs ≡ flat_map (valued.pair (keys_of keys) l) rs
matches_same keys l [] = refl
matches_same keys l (r ∷ rs) = ap₂ (λ b (rest : List Row). cond b ((l ++ r) ∷ []) [] ++ rest) (fits_same keys l r) (matches_same keys l rs)

joins : (keys : List Key) (ls rs : List Row) → pairs.joined (map key_pair keys) ls rs ≡ valued.joined (keys_of keys) ls rs
joins keys [] rs = refl
joins keys (l ∷ ls) rs = ap₂ (λ (xs : List Row) (rest : List Row). xs ++ rest) (matches_same keys l rs) (joins keys ls rs)

-- ---- OF EACH KIND; of Distinct, which is the groups of all columns, the groups' own law says it
pub record KindsMeanTheirNodes : Type 0 where
  -- Select's steps mean the conditions joined by And, which hold where all of them do
  pub steps : (c : Condition) (cs : List Condition) → AllByRecursion IsOfOneSource (c ∷ cs) → Mean (all_steps (c ∷ cs)) (joined c cs)
  pub selects : (c : Condition) (cs : List Condition) (rows : List Row) → select_value (joined c cs) rows ≡ valued.selected (c ∷ cs) rows
  -- they need no more truths than n where the first condition needs no more, and each further one fewer
  pub truths : (n : ℕ) (c : Condition) (cs : List Condition) → truths_needed c ≤ n → AllByRecursion (λ d. truths_needed d + 1 ≤ n) cs → truths_needed (joined c cs) ≤ n
  pub projects : (places : List ℕ) (rows : List Row) → project_value places rows ≡ valued.shaped_rows (Listed (columns_at places)) rows
  pub groups : (by : List ℕ) (items : List ListItem) (rows : List Row) → grouped (grouping by items) rows ≡ valued.shaped_rows (Grouped (columns_at by) (items_of items)) rows
  pub joins : (keys : List Key) (ls rs : List Row) → pairs.joined (map key_pair keys) ls rs ≡ valued.joined (keys_of keys) ls rs

pub kinds_mean : KindsMeanTheirNodes
kinds_mean = record { steps = mean; selects = selects; truths = truths; projects = projects; groups = groups; joins = joins }
