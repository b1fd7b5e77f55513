-- What turns ask for where their queue is new: what they put out is of one instant.
use Rattle.std.proofs.Common.{◌≡◌, ℕ, zero, suc, ◌≤◌, Bool, true, false, cond, List, [], ◌∷◌, ◌++◌, map, not, refl, sym, ◌∙◌, subst, arith}
use Rattle.std.specs.List.{All, filter}
use Rattle.std.proofs.lemmas.List.Elements.{All-append, All-filter}
use Rattle.values.specs.Row.{Row}
use Rattle.values.specs.Window.{Window}
use Rattle.lane_kernels.specs.declared.condition.Step.{Step}
use Rattle.op_queue.specs.Entries.{Entry, RowAt, TickAt}
use Rattle.op_queue.specs.Forward.{IsForward, instant_of}
use Rattle.op_queue.specs.Items.{item_instant}
use Rattle.op_queue.specs.declared.item.Item.{Item}
use Rattle.op_queue.specs.declared.item.Item.TheVariants.{Rows, Tick}
use Rattle.row_nodes.specs.Project.{projected, projected_row}
use Rattle.row_nodes.specs.Select.{is_kept, selected}
use Rattle.op_queue.specs.Paths.{rows_in}
use Rattle.windows.specs.Instants as instants
use Rattle.values.specs.Moving.{moves}
use Rattle.windows.specs.Widths.{IsItemWide}
use Rattle.windows.specs.Windows.{Begins, IsAfter, IsNext, MayTake, WindowState, near, out, width_of}
use Rattle.windows.specs.declared.window.Holding.TheVariants.{Instants, Latest}
use Rattle.windows.proofs.OutLemmas.{out_rows, out_tick}
use Rattle.windows.proofs.WindowLaw.{begins_after, next_same}

rows_at : (t : ℕ) (rows : List (Bool × Row)) → All (λ e. instant_of e ≡ t) (map (RowAt t) rows)
rows_at t [] i d lt = absurd (omega arith)
rows_at t (r ∷ rs) zero d lt = refl
rows_at t (r ∷ rs) (suc i) d lt = rows_at t rs i d (omega (arith, lt))

ticked_at : (t : ℕ) (rows : List (Bool × Row)) → All (λ e. instant_of e ≡ t) (map (RowAt t) rows ++ TickAt t ∷ [])
ticked_at t [] zero d lt = refl
ticked_at t [] (suc i) d lt = absurd (omega arith)
ticked_at t (r ∷ rs) zero d lt = refl
ticked_at t (r ∷ rs) (suc i) d lt = ticked_at t rs i d (omega (arith, lt))

forward_new : (q es : List (Entry Row)) (t : ℕ) → q ≡ [] → All (λ e. instant_of e ≡ t) es → IsForward (q ++ es)
forward_new q es t none same =
    let P : List (Entry Row) → Type 0 = λ q. IsForward (q ++ es) in
    subst P (sym none) (λ i j d le lt. omega (arith, same i d (omega (arith, le, lt)), same j d lt))

pub window_forward : (q : List (Entry Row)) (s : WindowState) (i : Item) → q ≡ [] → IsForward (q ++ out i (near s i))
window_forward q s (Rows t b) none =
    let rows : List (Bool × Row) = rows_in (out (Rows t b) (near s (Rows t b))) in
    subst (λ es. IsForward (q ++ es)) (sym (out_rows s t b)) (forward_new q (map (RowAt t) rows) t none (rows_at t rows))
window_forward q s (Tick t) none =
    let rows : List (Bool × Row) = rows_in (out (Tick t) (near s (Tick t))) in
    subst (λ es. IsForward (q ++ es)) (sym (out_tick s t)) (forward_new q (map (RowAt t) rows ++ TickAt t ∷ []) t none (ticked_at t rows))

pub selected_forward : (q : List (Entry Row)) (steps : List Step) (i : Item) → q ≡ [] → IsForward (q ++ selected steps i)
selected_forward q steps (Rows t b) none =
    let rows : List (Bool × Row) = filter (is_kept steps) b in
    forward_new q (map (RowAt t) rows) t none (rows_at t rows)
selected_forward q steps (Tick t) none = forward_new q (TickAt t ∷ []) t none (ticked_at t [])

pub projected_forward : (q : List (Entry Row)) (columns : List ℕ) (i : Item) → q ≡ [] → IsForward (q ++ projected columns i)
projected_forward q columns (Rows t b) none =
    let rows : List (Bool × Row) = map (projected_row columns) b in
    forward_new q (map (RowAt t) rows) t none (rows_at t rows)
projected_forward q columns (Tick t) none = forward_new q (TickAt t ∷ []) t none (ticked_at t [])

-- ---- what a window asks of the next item
pub record IsOf (w t : ℕ) (s : WindowState) : Type 0 where
  pub wide : width_of s ≡ w
  pub after : IsAfter t s

pub begins_of : (w : ℕ) (told : Window) (s : WindowState) → Begins told w s → IsOf w 0 s
begins_of w told s b = record { wide = b.wide; after = begins_after told w 0 s b }

later_held : (t u : ℕ) (held : List (ℕ × Row)) → t ≤ u → instants.IsAfter t held → instants.IsAfter u held
later_held t u held le h i d lt = omega (arith, le, h i d lt)

later : (t u : ℕ) (s : WindowState) → t ≤ u → IsAfter t s → IsAfter u s
later t u (Instants s) le h = later_held t u s.held le h
later t u (Latest s) le h = tt

pub may_take : (w t : ℕ) (s : WindowState) (i : Item) → IsOf w t s → t ≤ item_instant i → IsItemWide w i → MayTake s i
may_take w t s i h le wide = record { after = later t (item_instant i) s le h.after; wide = subst (λ m. IsItemWide m i) (sym h.wide) wide }

held_after : (t : ℕ) (rows : List (Bool × Row)) → instants.IsAfter t (map (instants.held_at t) rows)
held_after t [] i d lt = absurd (omega arith)
held_after t (r ∷ rs) zero d lt = omega arith
held_after t (r ∷ rs) (suc i) d lt = held_after t rs i d (omega (arith, lt))

instants_after : (s : instants.InstantState) (i : Item) → instants.IsAfter (item_instant i) s.held → instants.IsAfter (item_instant i) (instants.next s i).held
instants_after s (Rows t b) h = All-append (λ (h : ℕ × Row). h.0 ≤ t) s.held (map (instants.held_at t) b) h (held_after t b)
instants_after s (Tick t) h = here (moves s.reach t)
  where
    here : (m : Bool) → instants.IsAfter t (cond m (instants.moved s t) s).held
    here true = All-filter (λ (h : ℕ × Row). not (instants.is_past s.reach t h)) (λ (h : ℕ × Row). h.0 ≤ t) s.held h
    here false = h

next_after : (s new : WindowState) (i : Item) → IsNext s i new → IsAfter (item_instant i) s → IsAfter (item_instant i) new
next_after (Instants s) new i n h = subst (IsAfter (item_instant i)) (sym n) (instants_after s i h)
next_after (Latest s) (Instants new) i n h = absurd n
next_after (Latest s) (Latest new) i n h = tt

pub next_of : (w : ℕ) (s new : WindowState) (i : Item) → IsNext s i new → MayTake s i → width_of s ≡ w → IsOf w (item_instant i) new
next_of w s new i n m wide = record { wide = (next_same s new i n).width ∙ wide; after = next_after s new i n m.after }
