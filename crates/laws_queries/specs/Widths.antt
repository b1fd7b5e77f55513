-- How many columns the rows have that operators of a
-- query hold and queue, and what their values are.
use Rattle.std.specs.Prelude.{ℕ, ◌≡◌, ◌+◌, ◌<◌, ◌≤◌, List, [], ◌∷◌, length, get_or}
use Rattle.std.specs.List.{All}
use Rattle.values.specs.declared.TheConstants.{MAX_COLUMNS}
use Rattle.values.specs.Row.{Row}
use Rattle.values.specs.Ranges.{IsAnswerValue}
use Rattle.values.specs.Window.{Element}
use Rattle.lane_kernels.specs.Steps.{StepsFit}
use Rattle.op_queue.specs.Entries.{Entry, RowAt, TickAt}
use Rattle.windows.specs.Laws.{rows_in_order}
use Rattle.windows.specs.Windows.{width_of}
use Rattle.turn.specs.declared.kinds.Kind.{Kind}
use Rattle.turn.specs.declared.kinds.Kind.TheVariants as kind
use Rattle.operators.specs.Ready.{PlainOperator}
use Rattle.operators.specs.declared.states.State.{State}
use Rattle.operators.specs.declared.states.State.TheVariants as state
use Rattle.plan.specs.Nodes as plan
use Rattle.laws_dataflow.specs.Nets.{Cell, at_window, at_unary, at_join}

-- a row of w columns, whose values are of the answer range
pub record IsRow (w : ℕ) (r : Row) : Type 0 where
  pub wide : length r ≡ w
  pub values : All IsAnswerValue r

abbrev pub AreRows : ℕ → List Row → Type 0
AreRows w rows = All (IsRow w) rows

-- the rows of a queue
abbrev pub AreEntries : ℕ → List (Entry Row) → Type 0
AreEntries w [] = Unit {0}
AreEntries w (RowAt t s ∷ q) = IsRow w s.1 × AreEntries w q
AreEntries w (TickAt t ∷ q) = AreEntries w q

-- what a side has taken, and what waits there
pub record IsSideWide (w : ℕ) (took : List Row) (q : List (Entry Row)) : Type 0 where
  pub taken : AreRows w took
  pub queue : AreEntries w q

abbrev pub IsStateWide : ℕ → State → Type 0
IsStateWide w (state.Window s) = width_of s ≡ w
IsStateWide w state.Nothing = ⊥
IsStateWide w (state.Join s) = ⊥
IsStateWide w (state.Groups s) = ⊥
IsStateWide w (state.Root s) = ⊥

pub record IsWindowWide (w : ℕ) (o : PlainOperator) (held : List Element)
    (q : List (Entry Row)) : Type 0 where
  pub state : IsStateWide w o.state
  pub some : 0 < w
  pub side : IsSideWide w (rows_in_order held) q

-- the sides of a join have l and r columns, which its state knows
abbrev pub IsJoinWide : ℕ → ℕ → State → Type 0
IsJoinWide l r (state.Window s) = ⊥
IsJoinWide l r state.Nothing = ⊥
IsJoinWide l r (state.Join s) = (s.left.width ≡ l) × (s.right.width ≡ r)
IsJoinWide l r (state.Groups s) = ⊥
IsJoinWide l r (state.Root s) = ⊥

-- rows of w columns have all that Select's steps or Project's
-- list speak of, and rows of `out` columns come of them
abbrev pub IsKindWide : ℕ → ℕ → Kind → Type 0
IsKindWide w out kind.Window = out ≡ w
IsKindWide w out (kind.Select steps) = StepsFit w 0 steps × (out ≡ w)
IsKindWide w out (kind.Project places) = All (λ k. k < w) places × (out ≡ length places)
IsKindWide w out kind.Join = ⊥
IsKindWide w out (kind.Group g) = out ≡ length g.items
IsKindWide w out kind.ToStream = Unit {0}

pub record IsOneWide (w out : ℕ) (o : PlainOperator) (taken : List Row)
    (q : List (Entry Row)) : Type 0 where
  pub kind : IsKindWide w out o.kind
  pub narrow : w ≤ MAX_COLUMNS
  pub side : IsSideWide w taken q

-- what groups have put out
pub record IsGroupWide (w out : ℕ) (o : PlainOperator) (taken shown : List Row)
    (q : List (Entry Row)) : Type 0 where
  pub one : IsOneWide w out o taken q
  pub puts : AreRows out shown

-- rows are put out as they are taken, each once
pub record IsOnceWide (w out : ℕ) (o : PlainOperator) (taken shown : List Row)
    (q : List (Entry Row)) : Type 0 where
  pub group : IsGroupWide w out o taken shown q
  pub same : w ≡ out

pub record IsBothWide (l r out : ℕ) (o : PlainOperator) (ls rs : List Row)
    (q s : List (Entry Row)) : Type 0 where
  pub state : IsJoinWide l r o.state
  pub sum : out ≡ l + r
  pub narrow : out ≤ MAX_COLUMNS
  pub left : IsSideWide l ls q
  pub right : IsSideWide r rs s

-- how many columns the rows have that the operator k puts out
abbrev pub width_at : List ℕ → ℕ → ℕ
width_at ws k = get_or ws k 0

-- the operator k, of a node below the root
abbrev pub IsWide : List ℕ → ℕ → plan.Node → PlainOperator → Cell → Type 0
IsWide ws k (plan.Window s) o (at_window h e b q n) = IsWindowWide (width_at ws k) o h q
IsWide ws k (plan.Window s) o (at_unary q i b n) = ⊥
IsWide ws k (plan.Window s) o (at_join q r l m b n x y) = ⊥
IsWide ws k (plan.Select i cs) o (at_window h e b q n) = ⊥
IsWide ws k (plan.Select i cs) o (at_unary q t b n) =
    IsOneWide (width_at ws i) (width_at ws k) o t q
IsWide ws k (plan.Select i cs) o (at_join q r l m b n x y) = ⊥
IsWide ws k (plan.Join i j ks) o (at_window h e b q n) = ⊥
IsWide ws k (plan.Join i j ks) o (at_unary q t b n) = ⊥
IsWide ws k (plan.Join i j ks) o (at_join q r l m b n x y) =
    IsBothWide (width_at ws i) (width_at ws j) (width_at ws k) o l m q r
IsWide ws k (plan.Project i columns) o (at_window h e b q n) = ⊥
IsWide ws k (plan.Project i columns) o (at_unary q t b n) =
    IsOneWide (width_at ws i) (width_at ws k) o t q
IsWide ws k (plan.Project i columns) o (at_join q r l m b n x y) = ⊥
IsWide ws k (plan.Group i by items) o (at_window h e b q n) = ⊥
IsWide ws k (plan.Group i by items) o (at_unary q t b n) =
    IsGroupWide (width_at ws i) (width_at ws k) o t b q
IsWide ws k (plan.Group i by items) o (at_join q r l m b n x y) = ⊥
IsWide ws k (plan.Distinct i) o (at_window h e b q n) = ⊥
IsWide ws k (plan.Distinct i) o (at_unary q t b n) =
    IsOnceWide (width_at ws i) (width_at ws k) o t b q
IsWide ws k (plan.Distinct i) o (at_join q r l m b n x y) = ⊥
IsWide ws k (plan.ToStream i op) o c = ⊥
