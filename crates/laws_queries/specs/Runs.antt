-- What the operators of a running query stand for: the cells
-- of a net, which also have the bags that no code holds.
use Rattle.std.specs.Prelude.{ℕ, ◌≡◌, ◌<◌, Bool, false, List, [], ◌∷◌, length}
use Rattle.values.specs.Row.{Row}
use Rattle.values.specs.Condition.{SourceColumn, Condition}
use Rattle.values.specs.Relation.{ListItem}
use Rattle.values.specs.Resolved.{columns_of, items_of}
use Rattle.values.specs.declared.resolved.ListItem as listed
use Rattle.values.specs.Window.{Element, Window}
use Rattle.column.specs.declared.batch.Side.TheVariants.{Left, Right}
use Rattle.lane_kernels.specs.declared.condition.Step.{Step}
use Rattle.op_queue.specs.Entries.{Entry}
use Rattle.op_queue.specs.Logs.{Closed}
use Rattle.windows.specs.Laws as laws
use Rattle.windows.specs.Windows as windows
use Rattle.group.specs.Cells.{TallyState, held, keeps}
use Rattle.group.specs.Groups.{once_each}
use Rattle.group.specs.Turns.{GroupState, cell_of}
use Rattle.group.specs.Laws as groups
use Rattle.join.specs.Pairs as pairs
use Rattle.join.specs.States.{JoinState}
use Rattle.join.specs.Laws as joins
use Rattle.to_stream.specs.Turns as root
use Rattle.turn.specs.declared.kinds.Kind.TheVariants as kind
use Rattle.operators.specs.Operators.{Belongs}
use Rattle.operators.specs.Ready.{PlainOperator, waiting}
use Rattle.operators.specs.declared.states.State.{State}
use Rattle.operators.specs.declared.states.State.TheVariants as state
use Rattle.plan.specs.Nodes as plan
use Rattle.plan.specs.Values as valued
use Rattle.plan.specs.Views.{columns_at}
use Rattle.laws_dataflow.specs.Nets.{World, Cell, at_window, at_unary, at_join}
use Rattle.laws_dataflow.specs.Operators.{Tell}

-- WINDOWS
-- at the open instant n the state stands for the elements that the window holds
abbrev pub WindowStands : ℕ → Window → ℕ → State → List Element → Type 0
WindowStands first w n (state.Window s) held =
    (w ≡ windows.window_of s) × laws.Stands first n s held
WindowStands first w n state.Nothing held = ⊥
WindowStands first w n (state.Join s) held = ⊥
WindowStands first w n (state.Groups s) held = ⊥
WindowStands first w n (state.Root s) held = ⊥

-- what it has put out of them
abbrev pub shown_by : State → List Element → List Row
shown_by (state.Window s) held = laws.shown_by s held
shown_by state.Nothing held = []
shown_by (state.Join s) held = []
shown_by (state.Groups s) held = []
shown_by (state.Root s) held = []

pub record RunsWindow (first : ℕ) (w : Window) (o : PlainOperator) (log : Closed)
    (held : List Element) (shown : List Row) (q : List (Entry Row)) (n : ℕ) : Type 0 where
  pub kind : Belongs o.kind o.state
  pub stands : WindowStands first w n o.state held
  pub shows : shown ≡ shown_by o.state held
  pub queue : q ≡ waiting o log Left

-- SELECT and PROJECT hold nothing
pub record RunsSelect (cs : List Condition) (o : PlainOperator) (log : Closed)
    (q : List (Entry Row)) : Type 0 where
  pub steps : List Step
  pub kind : o.kind ≡ kind.Select steps
  pub state : o.state ≡ state.Nothing
  pub tell : Tell steps cs
  pub queue : q ≡ waiting o log Left

pub record RunsProject (columns : List SourceColumn) (o : PlainOperator) (log : Closed)
    (q : List (Entry Row)) : Type 0 where
  pub places : List ℕ
  pub kind : o.kind ≡ kind.Project places
  pub state : o.state ≡ state.Nothing
  pub listed : columns ≡ columns_at places
  pub queue : q ≡ waiting o log Left

-- GROUPS keep the numbers of a column one by one where an item
-- asks for the least or greatest of them, and of no other item
abbrev pub AreLean : List listed.ListItem → List TallyState → Type 0
AreLean [] ts = Unit {0}
AreLean (i ∷ is) [] = Unit {0}
AreLean (i ∷ is) (t ∷ ts) = (keeps i ≡ false → t.values ≡ []) × AreLean is ts

abbrev pub KeepsFew : GroupState → Type 0
KeepsFew s = (k : Row) → AreLean s.group.items
    (cell_of (length s.group.items) (held k) s.cells).tallies

-- GROUP: the state has taken the one bag and put out the other
pub record RunsGroup (by : List SourceColumn) (items : List ListItem) (o : PlainOperator)
    (log : Closed) (q : List (Entry Row)) (taken shown : List Row) : Type 0 where
  pub held : GroupState
  pub kind : o.kind ≡ kind.Group held.group
  pub state : o.state ≡ state.Groups held
  pub keyed : by ≡ columns_of held.group.by
  pub listed : items ≡ items_of held.group.items
  pub stands : groups.Stands held shown taken
  pub few : KeepsFew held
  pub queue : q ≡ waiting o log Left

-- DISTINCT over rows of this many columns
pub record RunsDistinct (width : ℕ) (o : PlainOperator) (log : Closed) (q : List (Entry Row))
    (taken shown : List Row) : Type 0 where
  pub held : GroupState
  pub kind : o.kind ≡ kind.Group held.group
  pub state : o.state ≡ state.Groups held
  pub all : held.group ≡ once_each width
  pub some : 0 < width
  pub stands : groups.Stands held shown taken
  pub few : KeepsFew held
  pub queue : q ≡ waiting o log Left

-- JOIN: its sides have taken the bags l and m, and those that ticked are marked
pub record RunsJoin (keys : List plan.Key) (o : PlainOperator) (log : Closed)
    (q r : List (Entry Row)) (l m : List Row) (a b : Bool) : Type 0 where
  pub held : JoinState
  pub kind : o.kind ≡ kind.Join
  pub state : o.state ≡ state.Join held
  pub meets : (ls rs : List Row) → pairs.joined held.keys ls rs ≡ valued.joined keys ls rs
  pub stands : joins.Stands held l m
  pub left_ticked : held.left.ticked ≡ a
  pub right_ticked : held.right.ticked ≡ b
  pub left_queue : q ≡ waiting o log Left
  pub right_queue : r ≡ waiting o log Right

-- AN OPERATOR of a plan below the root stands for the
-- cell; the rows that it puts out have so many columns
abbrev pub Runs : World → ℕ → plan.Node → PlainOperator → Closed → Cell → Type 0
Runs w width (plan.Window s) o log (at_window h e b q n) =
    RunsWindow w.first (w.windows s) o log h b q n
Runs w width (plan.Window s) o log (at_unary q i b n) = ⊥
Runs w width (plan.Window s) o log (at_join q r l m b n x y) = ⊥
Runs w width (plan.Select i cs) o log (at_window h e b q n) = ⊥
Runs w width (plan.Select i cs) o log (at_unary q t b n) = RunsSelect cs o log q
Runs w width (plan.Select i cs) o log (at_join q r l m b n x y) = ⊥
Runs w width (plan.Join i j ks) o log (at_window h e b q n) = ⊥
Runs w width (plan.Join i j ks) o log (at_unary q t b n) = ⊥
Runs w width (plan.Join i j ks) o log (at_join q r l m b n x y) = RunsJoin ks o log q r l m x y
Runs w width (plan.Project i columns) o log (at_window h e b q n) = ⊥
Runs w width (plan.Project i columns) o log (at_unary q t b n) = RunsProject columns o log q
Runs w width (plan.Project i columns) o log (at_join q r l m b n x y) = ⊥
Runs w width (plan.Group i by items) o log (at_window h e b q n) = ⊥
Runs w width (plan.Group i by items) o log (at_unary q t b n) = RunsGroup by items o log q t b
Runs w width (plan.Group i by items) o log (at_join q r l m b n x y) = ⊥
Runs w width (plan.Distinct i) o log (at_window h e b q n) = ⊥
Runs w width (plan.Distinct i) o log (at_unary q t b n) = RunsDistinct width o log q t b
Runs w width (plan.Distinct i) o log (at_join q r l m b n x y) = ⊥
Runs w width (plan.ToStream i op) o log c = ⊥

-- THE ROOT, with its state and its queue
pub record RunsRoot (o : PlainOperator) (log : Closed) (s : root.State)
    (q : List (Entry Row)) : Type 0 where
  pub kind : o.kind ≡ kind.ToStream
  pub state : o.state ≡ state.Root s
  pub queue : q ≡ waiting o log Left
