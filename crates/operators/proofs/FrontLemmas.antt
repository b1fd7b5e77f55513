-- What stands first in an inbox.
use Rattle.std.proofs.Common.{◌≡◌, ℕ, ◌<◌, List, [], ◌∷◌, length, refl, arith}
use Rattle.values.specs.Row.{Row}
use Rattle.op_queue.specs.Entries.{Entry, RowAt, TickAt}
use Rattle.op_queue.specs.Items.{IsFrontPart}
use Rattle.op_queue.specs.declared.item.Item.{Item}
use Rattle.op_queue.specs.declared.item.Item.TheVariants as item
use Rattle.turn.specs.declared.kinds.Kind.{Kind}
use Rattle.turn.specs.declared.kinds.Kind.TheVariants as kind
use Rattle.operators.specs.InPlace.{IsRowNode}

-- an item is first where something waits
pub first_item : (rows : ℕ) (es : List (Entry Row)) → 0 < length es → 0 < rows → (i : Item) × IsFrontPart rows es i
first_item rows [] waits some = absurd (omega arith)
first_item rows (RowAt t s ∷ es) waits some = (item.Rows t (s ∷ []), record { some = omega arith; few = omega (arith, some); first = refl })
first_item rows (TickAt t ∷ es) waits some = (item.Tick t, record { some = omega arith; few = omega (arith, some); first = refl })

pub row_node_is : (k : Kind) → IsRowNode k → ((x : _) → k ≡ kind.Select x → ⊥) → ((x : List ℕ) → k ≡ kind.Project x → ⊥) → ⊥
row_node_is kind.Window h s p = h
row_node_is (kind.Select steps) h s p = s steps refl
row_node_is (kind.Project columns) h s p = p columns refl
row_node_is kind.Join h s p = h
row_node_is (kind.Group g) h s p = h
row_node_is kind.ToStream h s p = h
