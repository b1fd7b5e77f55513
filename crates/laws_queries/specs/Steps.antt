-- A finished turn of one operator of a query.
use Rattle.std.specs.Prelude.{ℕ, ◌≡◌, ◌<◌, ◌≤◌, ◌++◌, true, List, length}
use Rattle.values.specs.Row.{Row}
use Rattle.column.specs.declared.batch.Side.{Side}
use Rattle.op_queue.specs.Entries.{Entry}
use Rattle.op_queue.specs.Items.{entries_of}
use Rattle.op_queue.specs.Logs.{Closed}
use Rattle.op_queue.specs.declared.item.Item.{Item}
use Rattle.turn.specs.Turns.{Outs, Put, change_at, outs_at}
use Rattle.operators.specs.Operators.{HasNamedColumns, IsFinished}
use Rattle.operators.specs.States.{HasColumns, HasStood, Takes, near_of}
use Rattle.operators.specs.Ready.{PlainOperator, usable, waiting}
use Rattle.plan.specs.Nodes as plan
use Rattle.laws_dataflow.specs.Nets.{World, Cell, Input, GoodCell, Turn, cell_shown}
use Rattle.laws_dataflow.specs.Operators.{node_of}
use Rattle.laws_queries.specs.Runs.{Runs}
use Rattle.laws_queries.specs.Widths.{IsWide, AreEntries, width_at}
use Rattle.laws_queries.specs.Counts.{AreFew, HasRoom, StaysWithin, count, most_rows}

-- the item stands first on a side that can be used, and is no longer than a batch
pub record IsFirst (o : PlainOperator) (log : Closed) (side : Side) (i : Item) : Type 0 where
  pub rest : List (Entry Row)
  pub some : 0 < length (entries_of i)
  pub few : length (entries_of i) ≤ 1024
  pub is : waiting o log side ≡ entries_of i ++ rest
  pub usable : usable o.state side ≡ true

-- what a turn with the item puts out
abbrev pub outs_at_first : PlainOperator → Side → Item → Outs
outs_at_first o side i = outs_at o.kind side i (near_of o.state side i)

-- THE CALLER'S CONDITIONS hold of the item
pub record MayTake (o : PlainOperator) (side : Side) (i : Item) : Type 0 where
  pub columns : HasColumns o.state side i
  pub named : HasNamedColumns o.kind i
  pub takes : Takes o.state side i (change_at o.kind i (near_of o.state side i))
  pub stood : HasStood o.state side i

-- AFTER IT the operator k stands for another cell, which a turn of the net makes
pub record StepMade (w : World) (ws : List ℕ) (ns : List plan.Node) (k : ℕ) (node : plan.Node)
    (c : Cell) (outs : List (Entry Row)) (o2 : PlainOperator) (log : Closed) : Type 0 where
  pub cell : Cell
  pub turn : Turn w (node_of node) c outs cell
  pub runs : Runs w (width_at ws k) node o2 log cell
  pub wide : IsWide ws k node o2 cell
  pub few : AreFew w ns node cell
  pub outs_wide : AreEntries (width_at ws k) outs
  pub outs_few : StaysWithin (most_rows ns k) (count (cell_shown c)) outs

-- THE OPERATOR k BEFORE A TURN: it stands for a good cell, over inputs d and e
pub record Stands (w : World) (ws : List ℕ) (ns : List plan.Node) (k : ℕ) (node : plan.Node)
    (o : PlainOperator) (log : Closed) (c : Cell) (d e : Input) : Type 0 where
  pub runs : Runs w (width_at ws k) node o log c
  pub wide : IsWide ws k node o c
  pub few : AreFew w ns node c
  pub good : GoodCell w (node_of node) c d e
  pub room : HasRoom ns k node d e

-- the item at its front may be taken
abbrev pub MayLaw : plan.Node → Type 0
MayLaw node = (w : World) (ws : List ℕ) (ns : List plan.Node) (k : ℕ) (o : PlainOperator)
    (log : Closed) (c : Cell) (d e : Input) (side : Side) (i : Item)
    → Stands w ws ns k node o log c d e → IsFirst o log side i → MayTake o side i

-- and a turn with it keeps that the operator stands for a cell, which a turn of the net makes
abbrev pub StepLaw : plan.Node → Type 0
StepLaw node = (w : World) (ws : List ℕ) (ns : List plan.Node) (k : ℕ) (o o2 : PlainOperator)
    (log : Closed) (c : Cell) (d e : Input) (side : Side) (i : Item) (outs : List (Entry Row))
    → Stands w ws ns k node o log c d e → IsFirst o log side i → outs_at_first o side i ≡ Put outs
    → IsFinished o log side i (change_at o.kind i (near_of o.state side i)) o2
    → StepMade w ws ns k node c outs o2 log
