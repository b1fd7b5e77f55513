-- The definitions at worked examples.
use Rattle.std.specs.Prelude.{None}
use Rattle.std.specs.Prelude.{◌≡◌, ℕ, true, false, Some, pos, [], ◌∷◌, refl}
use Rattle.values.specs.Row.{Row}
use Rattle.values.specs.declared.resolved.StreamOperator.{StreamOperator}
use Rattle.values.specs.declared.resolved.StreamOperator.TheVariants.{Istream, Dstream, Rstream}
use Rattle.op_queue.specs.declared.item.Item.TheVariants.{Rows, Tick}
use Rattle.to_stream.specs.Turns.{State, near, out, next}

-- a row of one number
abbrev row : ℕ → Row
row n = Some (pos n) ∷ []

abbrev empty : StreamOperator → State
empty o = record {
  operator = o;
  delta = record { entered = []; left = [] };
  whole = [];
  last = None;
}

-- at the instant 3 the rows 6 and 5 come, at the instant 4 the
-- row 5 leaves and 7 comes twice, of which one leaves again
abbrev at_three : StreamOperator → State
at_three o = next (empty o) (Rows 3 ((true, row 6) ∷ (true, row 5) ∷ []))

abbrev at_four : StreamOperator → State
at_four o = next (next (at_three o) (Tick 3))
    (Rows 4 ((false, row 5) ∷ (true, row 7) ∷ (true, row 7) ∷ (false, row 7) ∷ []))

first_tick : out (Tick 3) (near (at_three Istream) (Tick 3)) ≡ (3, row 5) ∷ (3, row 6) ∷ []
first_tick = refl

came : out (Tick 4) (near (at_four Istream) (Tick 4)) ≡ (4, row 7) ∷ []
came = refl

gone : out (Tick 4) (near (at_four Dstream) (Tick 4)) ≡ (4, row 5) ∷ []
gone = refl

-- the instant 4 of Rstream: 5 left, and 7 came once; at the instant 5 nothing changes
whole : out (Tick 4) (near (at_four Rstream) (Tick 4)) ≡ (4, row 6) ∷ (4, row 7) ∷ []
whole = refl

unchanged : out (Tick 5) (near (next (at_four Rstream) (Tick 4)) (Tick 5))
    ≡ (5, row 6) ∷ (5, row 7) ∷ []
unchanged = refl
