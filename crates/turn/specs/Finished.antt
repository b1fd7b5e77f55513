-- A turn that was run.
use Rattle.std.specs.Prelude.{◌≡◌}
use Rattle.turn.specs.Turns.{change_of, outs_in, outs_of}
use Rattle.turn.specs.declared.parts.Parts.{Parts}
use Rattle.turn.specs.declared.turns.Turn.{Turn}

-- its outputs and its change are those of its node, item and excerpt
pub record IsDone (p : Parts) : Type 0 where
  pub outputs : outs_in p.outputs ≡ outs_of p.node p.item p.near
  pub change : p.change ≡ change_of p.node p.item p.near

-- it is this turn
pub record IsOf (t : Turn) (p : Parts) : Type 0 where
  pub lease : p.lease ≡ t.lease
  pub node : p.node ≡ t.node
  pub item : p.item ≡ t.item
  pub near : p.near ≡ t.near
