-- A query at its registration.
use Rattle.std.specs.Prelude.{None}
use Rattle.std.specs.Prelude.{◌≡◌, ℕ, true, false, []}
use Rattle.values.specs.declared.resolved.StreamOperator.{StreamOperator}
use Rattle.op_queue.specs.Signed.{Same}
use Rattle.to_stream.specs.Turns.{State}
use Rattle.laws_dataflow.specs.Nets.{Node, window, unary, join, Cell, at_window, at_unary, at_join}

-- an operator that has nothing and stands at the instant n
abbrev pub fresh_cell : ℕ → Node → Cell
fresh_cell n (window k) = at_window [] [] [] [] n
fresh_cell n (unary f x) = at_unary [] [] [] n
fresh_cell n (join f x y) = at_join [] [] [] [] [] n false false

abbrev pub fresh_root : StreamOperator → State
fresh_root op = record {
  operator = op;
  delta = record { entered = []; left = [] };
  whole = [];
  last = None;
}

-- what puts out at once has put out what it makes of nothing
abbrev pub StartsEmpty : Node → Type 0
StartsEmpty (window k) = Unit {0}
StartsEmpty (unary f x) = f.streams ≡ true → Same [] (f.value [])
StartsEmpty (join f x y) = Same [] (f.value [] [])
