-- Operators at their beginning stand for the fresh cells of a net.
use Rattle.std.proofs.Common.{◌≡◌, ℕ, zero, suc, ◌+◌, ◌-◌, ◌<◌, ◌≤◌, ◌==◌, Bool, true, false, cond, ◌&&◌, nat_lt, nat_le, max, Some, List, [], ◌∷◌, ◌++◌, map, filter, flat_map, drop, get_or, refl, sym, ap, ap₂, ◌∙◌, subst, subst₂, arith, All}
use Rattle.std.specs.List.{AllByRecursion, range_with_len}
use Rattle.std.proofs.lemmas.Bool.{le-leb, leb-true, lt-ltb, eq-eqb}
use Rattle.values.specs.Row.{Row}
use Rattle.values.specs.Condition.{SourceColumn, Condition, And, keeps, is_known_true}
use Rattle.values.specs.Resolved.{columns_of, window_of}
use Rattle.values.specs.Window.{Element}
use Rattle.values.specs.declared.resolved.Window.{Window}
use Rattle.values.proofs.Split.{keeps-and}
use Rattle.lane_kernels.specs.Steps.{StepsFit}
use Rattle.op_queue.specs.Entries.{Entry, RowAt, TickAt}
use Rattle.op_queue.specs.Logs.{Closed, cursor_entries, instant_entries, is_shown, log_entries, row_entries}
use Rattle.op_queue.specs.declared.cursor.Cursor.{Cursor}
use Rattle.windows.proofs.WindowLaw.{begins_empty, shows_none}
use Rattle.group.specs.Groups.{column_at}
use Rattle.row_nodes.specs.Steps.{IsOfOneSource, IsOver, OperandIsOfOne, OperandIsOver}
use Rattle.row_nodes.proofs.StepLemmas.{whole_fits}
use Rattle.turn.specs.declared.kinds.Kind.{Kind}
use Rattle.turn.specs.declared.kinds.Kind.TheVariants as kind
use Rattle.operators.specs.Operators.{Belongs}
use Rattle.operators.specs.declared.inboxes.Inbox.{Inbox}
use Rattle.operators.specs.declared.inboxes.Inbox.TheVariants.{First, Between}
use Rattle.operators.specs.declared.states.State.{State}
use Rattle.plan.specs.Build.{at}
use Rattle.plan.specs.Nodes as plan
use Rattle.plan.specs.Values as valued
use Rattle.plan.specs.Views.{columns_at}
use Rattle.plan.proofs.Lists.{each-unmap}
use Rattle.physical_plans.specs.Beginnings.{ReadsSource, WindowStarts}
use Rattle.physical_plans.specs.Conjuncts.{all_steps, joined}
use Rattle.physical_plans.proofs.LawLemmas.{kinds_mean}
use Rattle.laws_dataflow.specs.Operators.{Tell}
use Rattle.laws_queries.specs.Counts.{count}
use Rattle.laws_queries.specs.Queries.{Reads}
use Rattle.laws_queries.specs.Runs.{WindowStands, shown_by}
use Rattle.laws_queries.specs.Widths.{IsStateWide}
use Rattle.laws_queries.proofs.PlanWidths.{NodeFits}

-- LISTS
pub all_from : {X : Type 0} (P : X → Type 0) (xs : List X) → AllByRecursion P xs → All P xs
all_from P [] h k d l = absurd (omega (arith, l))
all_from P (x ∷ xs) h zero d l = h.0
all_from P (x ∷ xs) h (suc k) d l = all_from P xs h.1 k d (omega (arith, l))

pub all_none : {X : Type 0} (P : X → Type 0) → All P []
all_none P k d l = absurd (omega (arith, l))

pub count_none : count [] ≡ 0
unfolding Rattle.op_queue.specs.Signed.weigh
count_none = refl

-- SELECT
operand_one : (w : ℕ) (a : Rattle.values.specs.Condition.Operand) → OperandIsOver w a → OperandIsOfOne a
operand_one w (Rattle.values.specs.Condition.Field c) h = h.0
operand_one w (Rattle.values.specs.Condition.Number z) h = tt

over_one : (w : ℕ) (c : Condition) → IsOver w c → IsOfOneSource c
over_one w (Rattle.values.specs.Condition.Compared a how b) h = (operand_one w a h.0, operand_one w b h.1)
over_one w (Rattle.values.specs.Condition.Not c) h = over_one w c h
over_one w (And c d) h = (over_one w c h.0, over_one w d h.1)
over_one w (Rattle.values.specs.Condition.Or c d) h = (over_one w c h.0, over_one w d h.1)

pub all_one : (w : ℕ) (cs : List Condition) → AllByRecursion (IsOver w) cs → AllByRecursion IsOfOneSource cs
all_one w [] h = tt
all_one w (c ∷ cs) h = (over_one w c h.0, all_one w cs h.1)

joined_over : (w : ℕ) (c : Condition) (cs : List Condition) → IsOver w c → AllByRecursion (IsOver w) cs → IsOver w (joined c cs)
joined_over w c [] h k = h
joined_over w c (d ∷ ds) h k = joined_over w (And c d) ds (h, k.0) k.1

and_assoc : (a b c : Bool) → ((a && b) && c) ≡ (a && (b && c))
and_assoc true b c = refl
and_assoc false b c = refl

and_true : (b : Bool) → b ≡ (b && true)
and_true true = refl
and_true false = refl

keeps_all : (c : Condition) (cs : List Condition) (rows : List Row) → keeps (Some (joined c cs)) rows ≡ (keeps (Some c) rows && valued.holds_all cs rows)
keeps_all c [] rows = and_true (keeps (Some c) rows)
keeps_all c (d ∷ ds) rows =
    keeps_all (And c d) ds rows
    ∙ ap (λ b. b && valued.holds_all ds rows) (keeps-and c d rows)
    ∙ and_assoc (keeps (Some c) rows) (keeps (Some d) rows) (valued.holds_all ds rows)

pub record SelectFits (w : ℕ) (cs : List Condition) : Type 0 where
  pub tell : Tell (all_steps cs) cs
  pub fit : StepsFit w 0 (all_steps cs)

pub select_fits : (vs ws : List ℕ) (i : ℕ) (cs : List Condition) → NodeFits vs ws (plan.Select i cs) → SelectFits (get_or ws i 0) cs
select_fits vs ws i [] h = elim h [ ]
select_fits vs ws i (c ∷ cs) h =
    let w : ℕ = get_or ws i 0 in
    let mean = kinds_mean.steps c cs (all_one w (c ∷ cs) h.0) in
    record {
      tell = record { tells = λ row. ap is_known_true (mean.means row) ∙ keeps_all c cs (row ∷ []) };
      fit = whole_fits (joined c cs) w (joined_over w c cs h.0.0 h.0.1) (kinds_mean.truths 67 c cs h.1.0 h.1.1);
    }

-- PROJECT AND GROUP
pub places_fit : (w : ℕ) (places : List ℕ) → AllByRecursion (λ (c : SourceColumn). c.column < w) (columns_at places) → All (λ k. k < w) places
places_fit w places h = all_from (λ k. k < w) places (each-unmap (λ (c : SourceColumn). c.column < w) at places h)

pub by_same : (by : List ℕ) → columns_at by ≡ columns_of (map column_at by)
by_same [] = refl
by_same (k ∷ by) = ap (λ (cs : List SourceColumn). at k ∷ cs) (by_same by)

-- WINDOWS
pub record WindowBegins (first w : ℕ) (x : Window) (k : Kind) (s : State) : Type 0 where
  pub belongs : Belongs k s
  pub stands : WindowStands first (window_of x) first s []
  pub shows : [] ≡ shown_by s []
  pub wide : IsStateWide w s

pub window_begins : (first w : ℕ) (x : Window) (k : Kind) (s : State) → k ≡ kind.Window → WindowStarts x w s → WindowBegins first w x k s
window_begins first w x k s e h =
    subst₂ (λ k s. WindowBegins first w x k s) (sym e) (sym h.1) (record {
      belongs = (h.0, refl);
      stands = (sym h.2.shows, begins_empty first h.0 h.2.empty);
      shows = shows_none h.0 h.2.empty;
      wide = h.2.wide;
    })

-- nothing of a log that ends before the first instant waits
pub nothing_closed : (place first : ℕ) (log : Closed) → log.until ≤ first → [] ≡ log_entries place first log
nothing_closed place first log l =
    let none : log.until - first ≡ 0 = omega (arith, l) in
    ap (λ n. flat_map (instant_entries place log.elements) (range_with_len first n)) (sym none)

-- WHAT A FIRST QUEUE READS, by what it has of a lone tick and of one row
tick_of : List (Entry Row) → ℕ
tick_of [] = 0
tick_of (RowAt t s ∷ q) = 0
tick_of (TickAt t ∷ q) = t

is_row : List (Entry Row) → Bool
is_row [] = false
is_row (RowAt t s ∷ q) = true
is_row (TickAt t ∷ q) = false

abbrev lone : ℕ → Closed
lone u = record { width = 0; elements = []; until = u }

abbrev element : ℕ → ℕ → Element
element a t = record { arrival = a; instant = t; row = [] }

abbrev one : ℕ → ℕ → Closed
one a t = record { width = 0; elements = element a t ∷ []; until = suc t }

tick_here : (b : Bool) (t : ℕ) (rest : List (Entry Row)) → b ≡ true → tick_of (cond b (TickAt t ∷ rest) []) ≡ t
unfolding tick_of
tick_here true t rest e = refl
tick_here false t rest e = absurd (cc)

cursor_tick : (c : Cursor) (u : ℕ) → c.passed ≡ 0 → c.at < u → tick_of (cursor_entries c (lone u)) ≡ c.at
cursor_tick c u empty l =
    subst (λ p. tick_of (cond (nat_lt c.at u) (row_entries c.at (drop p []) ++ TickAt c.at ∷ log_entries c.place (c.at + 1) (lone u)) []) ≡ c.at) (sym empty)
    (tick_here (nat_lt c.at u) c.at (log_entries c.place (c.at + 1) (lone u)) (lt-ltb c.at u l))

span_tick : (place first n u : ℕ) → u - first ≡ suc n → tick_of (log_entries place first (lone u)) ≡ first
unfolding tick_of
span_tick place first n u e = subst (λ k. tick_of (flat_map (instant_entries place []) (range_with_len first k)) ≡ first) (sym e) refl

row_here : (p a t : ℕ) (b c : Bool) (rest : List (Entry Row)) → b ≡ true → is_row (row_entries t (cond (b && c) (element a t ∷ []) []) ++ TickAt t ∷ rest) ≡ c
unfolding is_row
row_here p a t true true rest e = refl
row_here p a t true false rest e = refl
row_here p a t false c rest e = absurd (cc)

cond_true : (b : Bool) (xs : List (Entry Row)) → b ≡ true → cond b xs [] ≡ xs
cond_true true xs e = refl
cond_true false xs e = absurd (cc)

cursor_row : (c : Cursor) (a t : ℕ) → c.passed ≡ 0 → c.at ≡ t → is_row (cursor_entries c (one a t)) ≡ nat_le c.place a
cursor_row c a t empty e =
    subst₂ (λ p s. is_row (cond (nat_lt s (suc t)) (row_entries s (drop p (filter (is_shown c.place s) (element a t ∷ []))) ++ TickAt s ∷ log_entries c.place (s + 1) (one a t)) []) ≡ nat_le c.place a) (sym empty) (sym e)
    (ap is_row (cond_true (nat_lt t (suc t)) (row_entries t (filter (is_shown c.place t) (element a t ∷ [])) ++ TickAt t ∷ log_entries c.place (t + 1) (one a t)) (lt-ltb t (suc t) (omega arith)))
    ∙ row_here c.place a t (t == t) (nat_le c.place a) (log_entries c.place (t + 1) (one a t)) (eq-eqb t t refl))

row_first : (a t : ℕ) (b c : Bool) (rest : List (Entry Row)) → b ≡ true → is_row ((row_entries t (cond (b && c) (element a t ∷ []) []) ++ TickAt t ∷ []) ++ rest) ≡ c
unfolding is_row
row_first a t true true rest e = refl
row_first a t true false rest e = refl
row_first a t false c rest e = absurd (cc)

span_row : (place a t : ℕ) → is_row (log_entries place t (one a t)) ≡ nat_le place a
span_row place a t =
    let e : suc t - t ≡ suc zero = omega arith in
    subst (λ k. is_row (flat_map (instant_entries place (element a t ∷ [])) (range_with_len t k)) ≡ nat_le place a) (sym e)
    (row_first a t (t == t) (nat_le place a) [] (eq-eqb t t refl))

pub reads_of : (place first : ℕ) (log : Closed) (i : Inbox) → ReadsSource place first i → Reads place first log i
reads_of place first log (Between w) r = let e : true ≡ false = r.unfed in absurd (cc)
reads_of place first log (First c) r =
    let none : c.passed ≡ 0 = (let l : c.passed ≤ 0 = r.within (lone 0) in omega (arith, l)) in
    let u : ℕ = suc (c.at + first) in
    let at_is : c.at ≡ first = sym (cursor_tick c u none (omega arith)) ∙ ap tick_of (r.entries (lone u)) ∙ span_tick place first c.at u (omega arith) in
    let same : (a : ℕ) → nat_le c.place a ≡ nat_le place a = λ a. sym (cursor_row c a first none at_is) ∙ ap is_row (r.entries (one a first)) ∙ span_row place a first in
    let up : c.place ≤ place = leb-true c.place place (same place ∙ le-leb place place (omega arith)) in
    let down : place ≤ c.place = leb-true place c.place (sym (same c.place) ∙ le-leb c.place c.place (omega arith)) in
    (omega (arith, up, down), ap (λ t. max t log.until) at_is)
