-- Operators whose state is one of their kind.
use Rattle.std.proofs.Common.{◌≡◌, ◌∙◌, List, [], ◌∷◌, Bool, sym, refl, subst}
use Rattle.values.specs.Row.{Row}
use Rattle.column.specs.declared.batch.Side.{Side}
use Rattle.op_queue.specs.declared.item.Item.{Item}
use Rattle.op_queue.specs.declared.item.Item.TheVariants.{Rows, Tick}
use Rattle.group.specs.Turns.{GroupState, ShownState, row_after, rows_after}
use Rattle.group.specs.Turns as groups
use Rattle.windows.specs.Windows.{WindowState}
use Rattle.turn.specs.Turns.{FitsKind}
use Rattle.turn.specs.declared.excerpts.Excerpt.{Excerpt}
use Rattle.turn.specs.declared.kinds.Kind.{Kind}
use Rattle.turn.specs.declared.kinds.Kind.TheVariants as kind
use Rattle.turn.specs.declared.outcomes.Change.{Change}
use Rattle.operators.specs.Operators.{Belongs, HasNamedColumns, IsOfWindow}
use Rattle.operators.specs.States.{FitsState, IsNext, IsWindowAfter}
use Rattle.operators.specs.declared.states.State.{State}
use Rattle.operators.specs.declared.states.State.TheVariants.{Window, Nothing, Join, Groups, Root}

-- an excerpt that fits the state fits a turn of the kind
pub near_fits : (k : Kind) (s : State) (side : Side) (i : Item) (n : Excerpt) → Belongs k s → HasNamedColumns k i → FitsState s i n → FitsKind k side i n
near_fits kind.Window s side i n b h f = subst (λ t. FitsState t i n) b.1 f
near_fits (kind.Select steps) s side i n b h f = let e = subst (λ t. FitsState t i n) b f in subst (λ m. FitsKind (kind.Select steps) side i m) (sym e) h
near_fits (kind.Project columns) s side i n b h f = let e = subst (λ t. FitsState t i n) b f in subst (λ m. FitsKind (kind.Project columns) side i m) (sym e) h
near_fits kind.Join s side i n b h f = subst (λ t. FitsState t i n) b.1 f
near_fits (kind.Group g) s side i n b h f = subst (λ t. FitsState t i n) b.1 f
near_fits kind.ToStream s side i n b h f = subst (λ t. FitsState t i n) b.1 f

-- the groups are those of the same columns and list
group_rows : (b : List (Bool × Row)) (s : GroupState) → (rows_after s b).group ≡ s.group
group_rows [] s = refl
group_rows (x ∷ b) s = group_rows b (row_after s x)

group_kept : (s : GroupState) (i : Item) (shown : List ShownState) → (groups.next s i shown).group ≡ s.group
group_kept s (Rows t b) shown = group_rows b s
group_kept s (Tick t) shown = refl

window_stays : (s : WindowState) (i : Item) (new : State) → IsWindowAfter s i new → IsOfWindow new
window_stays s i (Window new) h = (new, refl)
window_stays s i Nothing h = elim h [ ]
window_stays s i (Join new) h = elim h [ ]
window_stays s i (Groups new) h = elim h [ ]
window_stays s i (Root new) h = elim h [ ]

-- the state stays one of the kind
pub belongs_next : (k : Kind) (s : State) (side : Side) (i : Item) (c : Change) (new : State) → Belongs k s → IsNext s side i c new → Belongs k new
belongs_next kind.Window s side i c new b h = window_stays b.0 i new (subst (λ t. IsNext t side i c new) b.1 h)
belongs_next (kind.Select steps) s side i c new b h = subst (λ t. IsNext t side i c new) b h
belongs_next (kind.Project columns) s side i c new b h = subst (λ t. IsNext t side i c new) b h
belongs_next kind.Join s side i c new b h = (_, subst (λ t. IsNext t side i c new) b.1 h)
belongs_next (kind.Group g) s side i c new b h = (_, subst (λ t. IsNext t side i c new) b.1 h, group_kept b.0 i c.shown ∙ b.2)
belongs_next kind.ToStream s side i c new b h = (_, subst (λ t. IsNext t side i c new) b.1 h)
