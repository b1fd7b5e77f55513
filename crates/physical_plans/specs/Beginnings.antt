-- The operators of a plan at their beginning.
use Rattle.std.specs.Prelude.{ℕ, ◌+◌, ◌≡◌, ◌≤◌, None, false, List, [], ◌∷◌, ◌++◌, map, length}
use Rattle.std.specs.Prelude.{get_or}
use Rattle.std.specs.List.{AllByRecursion}
use Rattle.values.specs.declared.TheConstants.{MAX_COLUMNS}
use Rattle.values.specs.Resolved.{condition_of, window_of}
use Rattle.values.specs.declared.reach.Reach.TheVariants.{All}
use Rattle.values.specs.declared.resolved.ListItem.{ListItem}
use Rattle.values.specs.declared.resolved.Window.{Window}
use Rattle.values.specs.declared.resolved.Window.TheVariants as window
use Rattle.names.specs.Views.{conditions_of}
use Rattle.op_queue.specs.Logs.{Closed, log_entries}
use Rattle.group.specs.Groups.{GroupBy, column_at, once_each}
use Rattle.group.specs.Turns as groups
use Rattle.join.specs.Turns as join
use Rattle.row_nodes.specs.Steps.{IsOfOneSource}
use Rattle.windows.specs.Windows.{Begins, IsFormed, WindowState}
use Rattle.turn.specs.declared.kinds.Kind.{Kind}
use Rattle.turn.specs.declared.kinds.Kind.TheVariants as kind
use Rattle.operators.specs.Inboxes.{IsInboxWithin, is_fed}
use Rattle.operators.specs.Ready.{PlainOperator, entries_in}
use Rattle.operators.specs.declared.inboxes.Inbox.{Inbox}
use Rattle.operators.specs.declared.states.State.{State}
use Rattle.operators.specs.declared.states.State.TheVariants as state
use Rattle.plan.specs.declared.node.Key.{Key}
use Rattle.plan.specs.declared.node.Node.{Node}
use Rattle.plan.specs.declared.node.Node.TheVariants.{Window as Source, Select, Join, Project}
use Rattle.plan.specs.declared.node.Node.TheVariants.{Group, Distinct, ToStream}
use Rattle.physical_plans.specs.Conjuncts.{all_steps}
use Rattle.physical_plans.specs.Nothing.{nothing_waits}

-- HOW MANY COLUMNS the rows of an operator have, from
-- those of the sources and of the operators before it
abbrev pub width_made : List ℕ → List ℕ → Node → ℕ
width_made vs done (Source s) = get_or vs s 0
width_made vs done (Select i cs) = get_or done i 0
width_made vs done (Join i j keys) = get_or done i 0 + get_or done j 0
width_made vs done (Project i places) = length places.items
width_made vs done (Group i by items) = length items.items
width_made vs done (Distinct i) = get_or done i 0
width_made vs done (ToStream i op) = get_or done i 0

abbrev pub widths_from : List ℕ → List ℕ → List Node → List ℕ
widths_from vs done [] = done
widths_from vs done (n ∷ nodes) = widths_from vs (done ++ width_made vs done n ∷ []) nodes

abbrev pub widths_of : List ℕ → List Node → List ℕ
widths_of vs nodes = widths_from vs [] nodes

-- WHAT IT DOES
abbrev pub window_at : List Window → ℕ → Window
window_at ws s = get_or ws s (window.Instants All)

abbrev pub grouping : List ℕ → List ListItem → GroupBy
grouping by items = record { by = map column_at by; items = items }

abbrev pub kind_made : List ℕ → Node → Kind
kind_made widths (Source s) = kind.Window
kind_made widths (Select i cs) = kind.Select (all_steps (conditions_of cs.items))
kind_made widths (Join i j keys) = kind.Join
kind_made widths (Project i places) = kind.Project places.items
kind_made widths (Group i by items) = kind.Group (grouping by.items items.items)
kind_made widths (Distinct i) = kind.Group (once_each (get_or widths i 0))
kind_made widths (ToStream i op) = kind.ToStream

-- WHAT IT HOLDS: nothing has come yet
abbrev pub WindowStarts : Window → ℕ → State → Type 0
WindowStarts w width s = (held : WindowState) × (s ≡ state.Window held)
    × Begins (window_of w) width held

abbrev pub key_pair : Key → ℕ × ℕ
key_pair k = (k.left, k.right)

abbrev pub StateStarts : List Window → List ℕ → List ℕ → Node → State → Type 0
StateStarts ws vs widths (Source i) s = WindowStarts (window_at ws i) (get_or vs i 0) s
StateStarts ws vs widths (Select i cs) s = s ≡ state.Nothing
StateStarts ws vs widths (Join i j keys) s =
    s ≡ state.Join (join.beginning (map key_pair keys.items) (get_or widths i 0)
    (get_or widths j 0))
StateStarts ws vs widths (Project i places) s = s ≡ state.Nothing
StateStarts ws vs widths (Group i by items) s =
    s ≡ state.Groups (groups.beginning (grouping by.items items.items))
StateStarts ws vs widths (Distinct i) s =
    s ≡ state.Groups (groups.beginning (once_each (get_or widths i 0)))
StateStarts ws vs widths (ToStream i op) s =
    s ≡ state.Root (record {
      operator = op;
      delta = record { entered = []; left = [] };
      whole = [];
      last = None;
    })

pub record ReadsSource (place start : ℕ) (i : Inbox) : Type 0 where
  pub entries : (log : Closed) → entries_in i log ≡ log_entries place start log
  pub within : (log : Closed) → IsInboxWithin i log
  pub unfed : is_fed i ≡ false

abbrev pub InboxStarts : List ℕ → ℕ → Node → Inbox → Type 0
InboxStarts places start (Source s) i = ReadsSource (get_or places s 0) start i
InboxStarts places start (Select j cs) i = i ≡ nothing_waits
InboxStarts places start (Join j k keys) i = i ≡ nothing_waits
InboxStarts places start (Project j columns) i = i ≡ nothing_waits
InboxStarts places start (Group j by items) i = i ≡ nothing_waits
InboxStarts places start (Distinct j) i = i ≡ nothing_waits
InboxStarts places start (ToStream j op) i = i ≡ nothing_waits

-- an operator of a plan at its beginning, for a query whose first instant
-- is `start` and whose sources' streams were so long when it was registered
pub record IsMade (ws : List Window) (vs widths places : List ℕ) (start : ℕ) (node : Node)
    (o : PlainOperator) : Type 0 where
  pub kind : o.kind ≡ kind_made widths node
  pub state : StateStarts ws vs widths node o.state
  pub left : InboxStarts places start node o.left
  pub right : o.right ≡ nothing_waits

-- of what a node's kind is made of: lists of columns are of at most MAX_COLUMNS, and conditions
-- speak of the one row that goes between operators
abbrev pub HasMakeableKind : List ℕ → Node → Type 0
HasMakeableKind widths (Source s) = Unit {0}
HasMakeableKind widths (Select i cs) =
    AllByRecursion (λ c. IsOfOneSource (condition_of c)) cs.items
HasMakeableKind widths (Join i j keys) = get_or widths i 0 + get_or widths j 0 ≤ MAX_COLUMNS
HasMakeableKind widths (Project i places) = length places.items ≤ MAX_COLUMNS
HasMakeableKind widths (Group i by items) =
    (length by.items ≤ MAX_COLUMNS) × (length items.items ≤ MAX_COLUMNS)
HasMakeableKind widths (Distinct i) = get_or widths i 0 ≤ MAX_COLUMNS
HasMakeableKind widths (ToStream i op) = Unit {0}

-- THE CALLER'S CONDITIONS, which the plan of a query that a row has room for meets: so of its kind,
-- and a window moves at the multiples of one or more
abbrev pub IsMakeable : List Window → List ℕ → Node → Type 0
IsMakeable ws widths (Source s) = IsFormed (window_at ws s)
IsMakeable ws widths (Select i cs) = HasMakeableKind widths (Select i cs)
IsMakeable ws widths (Join i j keys) = HasMakeableKind widths (Join i j keys)
IsMakeable ws widths (Project i places) = HasMakeableKind widths (Project i places)
IsMakeable ws widths (Group i by items) = HasMakeableKind widths (Group i by items)
IsMakeable ws widths (Distinct i) = HasMakeableKind widths (Distinct i)
IsMakeable ws widths (ToStream i op) = HasMakeableKind widths (ToStream i op)

-- each operator of the plan in its place
abbrev pub AreMade : List Window → List ℕ → List ℕ → List ℕ → ℕ → List Node
    → List PlainOperator → Type 0
AreMade ws vs widths places start [] [] = Unit {0}
AreMade ws vs widths places start [] (o ∷ os) = ⊥
AreMade ws vs widths places start (n ∷ nodes) [] = ⊥
AreMade ws vs widths places start (n ∷ nodes) (o ∷ os) =
    IsMade ws vs widths places start n o × AreMade ws vs widths places start nodes os

-- the rows of each operator have at most MAX_COLUMNS
abbrev pub HaveNarrowRows : List ℕ → List ℕ → List Node → Type 0
HaveNarrowRows vs done [] = Unit {0}
HaveNarrowRows vs done (n ∷ nodes) =
    (width_made vs done n ≤ MAX_COLUMNS)
    × HaveNarrowRows vs (done ++ width_made vs done n ∷ []) nodes
