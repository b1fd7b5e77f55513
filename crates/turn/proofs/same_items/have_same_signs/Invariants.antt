use Rattle.std.proofs.Common.{◌≡◌, ◌<◌, ℕ, get_or, false}
use Rattle.turn.specs.Same.{leaving}
use Rattle.turn.proofs.same_items.have_same_signs.Given as goal

abbrev pub invariant-loop-place : goal.invariant-loop-place
invariant-loop-place l = (k : ℕ) → k < l.place → get_or (leaving l.a) k false ≡ get_or (leaving l.b) k false
