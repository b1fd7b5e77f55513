-- What a turn makes of its node, item and excerpt, operator by operator.
use Rattle.std.specs.Prelude.{ℕ, List, []}
use Rattle.std.specs.List.{flat_map}
use Rattle.values.specs.Row.{Row}
use Rattle.column.specs.declared.batch.Side.{Side}
use Rattle.lane_kernels.specs.declared.condition.Step.{Step}
use Rattle.op_queue.specs.Entries.{Entry}
use Rattle.op_queue.specs.Items.{entries_of}
use Rattle.op_queue.specs.declared.item.Item.{Item}
use Rattle.group.specs.Groups.{GroupBy}
use Rattle.group.specs.Turns as group
use Rattle.join.specs.Turns as join
use Rattle.row_nodes.specs.Project.{AreColumns, projected}
use Rattle.row_nodes.specs.Select.{FitItem, selected}
use Rattle.to_stream.specs.Turns as root
use Rattle.windows.specs.Windows as window
use Rattle.turn.specs.Nodes.{PlainNode}
use Rattle.turn.specs.declared.excerpts.Excerpt.{Excerpt}
use Rattle.turn.specs.declared.excerpts.Excerpt.TheVariants as near
use Rattle.turn.specs.declared.kinds.Kind.{Kind}
use Rattle.turn.specs.declared.kinds.Kind.TheVariants.{Window, Select, Project, Join, Group}
use Rattle.turn.specs.declared.kinds.Kind.TheVariants.{ToStream}
use Rattle.turn.specs.declared.outcomes.Change.{Change}
use Rattle.turn.specs.declared.outcomes.Outputs.{Outputs}
use Rattle.turn.specs.declared.outcomes.Outputs.TheVariants.{Items, Answers}

-- what is put out: entries for the queue of the operator above, or answers
pub data Outs : Type 0 where
  Put : List (Entry Row) → Outs
  Answered : List (ℕ × Row) → Outs

abbrev pub outs_in : Outputs → Outs
outs_in (Items items) = Put (flat_map entries_of items.items)
outs_in (Answers answers) = Answered answers

-- THE EXCERPT FITS THE NODE AND THE ITEM

abbrev pub FitsWindow : Item → Excerpt → Type 0
FitsWindow i (near.Window rows) = window.Fits i rows
FitsWindow i n = ⊥

abbrev pub FitsSelect : List Step → Item → Excerpt → Type 0
FitsSelect steps i near.Nothing = FitItem steps i
FitsSelect steps i n = ⊥

abbrev pub FitsProject : List ℕ → Item → Excerpt → Type 0
FitsProject columns i near.Nothing = AreColumns columns i
FitsProject columns i n = ⊥

abbrev pub FitsJoin : Item → Excerpt → Type 0
FitsJoin i (near.Met excerpt) = join.Fits i excerpt
FitsJoin i n = ⊥

abbrev pub FitsGroup : Excerpt → Type 0
FitsGroup (near.Groups groups) = Unit {0}
FitsGroup n = ⊥

abbrev pub FitsRoot : Excerpt → Type 0
FitsRoot (near.Lists lists) = Unit {0}
FitsRoot n = ⊥

abbrev pub FitsKind : Kind → Side → Item → Excerpt → Type 0
FitsKind Window side i n = FitsWindow i n
FitsKind (Select steps) side i n = FitsSelect steps i n
FitsKind (Project columns) side i n = FitsProject columns i n
FitsKind Join side i n = FitsJoin i n
FitsKind (Group g) side i n = FitsGroup n
FitsKind ToStream side i n = FitsRoot n

-- the item has the columns, and the excerpt the kind and the columns, that the node asks for
abbrev pub Fits : PlainNode → Item → Excerpt → Type 0
Fits node i n = FitsKind node.kind node.side i n

-- THE OUTPUTS; an excerpt of another kind gives none

abbrev pub window_outs : Item → Excerpt → Outs
window_outs i (near.Window rows) = Put (window.out i rows)
window_outs i n = Put []

abbrev pub select_outs : List Step → Item → Excerpt → Outs
select_outs steps i near.Nothing = Put (selected steps i)
select_outs steps i n = Put []

abbrev pub project_outs : List ℕ → Item → Excerpt → Outs
project_outs columns i near.Nothing = Put (projected columns i)
project_outs columns i n = Put []

abbrev pub join_outs : Side → Item → Excerpt → Outs
join_outs side i (near.Met excerpt) = Put (join.out side i excerpt)
join_outs side i n = Put []

abbrev pub group_outs : GroupBy → Item → Excerpt → Outs
group_outs g i (near.Groups groups) = Put (group.out g i groups)
group_outs g i n = Put []

abbrev pub root_outs : Item → Excerpt → Outs
root_outs i (near.Lists lists) = Answered (root.out i lists)
root_outs i n = Answered []

abbrev pub outs_at : Kind → Side → Item → Excerpt → Outs
outs_at Window side i n = window_outs i n
outs_at (Select steps) side i n = select_outs steps i n
outs_at (Project columns) side i n = project_outs columns i n
outs_at Join side i n = join_outs side i n
outs_at (Group g) side i n = group_outs g i n
outs_at ToStream side i n = root_outs i n

abbrev pub outs_of : PlainNode → Item → Excerpt → Outs
outs_of node i n = outs_at node.kind node.side i n

-- THE CHANGE: what groups show; else the item says all

-- no group shows anything else
abbrev pub unchanged : Change
unchanged = record { shown = [] }

abbrev pub group_change : GroupBy → Item → Excerpt → Change
group_change g i (near.Groups groups) = record { shown = group.change g i groups }
group_change g i n = unchanged

abbrev pub change_at : Kind → Item → Excerpt → Change
change_at Window i n = unchanged
change_at (Select steps) i n = unchanged
change_at (Project columns) i n = unchanged
change_at Join i n = unchanged
change_at (Group g) i n = group_change g i n
change_at ToStream i n = unchanged

abbrev pub change_of : PlainNode → Item → Excerpt → Change
change_of node i n = change_at node.kind i n
