-- Groups whose list is their key put out nothing while they show it.
use Rattle.std.proofs.Common.{◌≡◌, ℕ, zero, suc, ◌+◌, ℤ, pos, Bool, true, false, cond, ◌||◌, Option, Some, None, List, [], ◌∷◌, map, length, refl, sym, ap, ap₂, ◌∙◌, arith}
use Rattle.std.specs.Ordering.{int_cmp, is_lt}
use Rattle.std.specs.List.{range_with_len}
use Rattle.values.specs.Row.{Row, value_at}
use Rattle.values.specs.declared.resolved.ListItem.{ListItem}
use Rattle.values.specs.declared.resolved.ListItem.TheVariants.{Key}
use Rattle.group.specs.Groups.{GroupBy, no_columns}
use Rattle.group.specs.Cells.{Held, held, CellState, TallyState, figures, shown_figure}
use Rattle.group.specs.Turns.{fitted, same_shown, swap_of}
use Rattle.op_queue.specs.Flat.{FlatState, with_signed}
use Rattle.group.specs.Plans.{plan_for, plan_of}
use Rattle.group.specs.Runs.{ShowsKey, put_out, row_at_tick}
use Rattle.group.proofs.DistinctLemmas.{whole_row}
use Rattle.group.proofs.KeyLemmas.{same_held}
use Rattle.group.proofs.RunLemmas.{with_none}

-- THE ROW OF A GROUP WHOSE LIST IS ITS KEY
key_figures : (k : Row) (rows : ℤ) (p n : ℕ) (ts : List TallyState) → length ts ≡ n → map shown_figure (figures k rows (map Key (range_with_len p n)) ts) ≡ map (value_at k) (range_with_len p n)
key_figures k rows p zero ts e = refl
key_figures k rows p (suc n) [] e = absurd (omega (arith, e))
key_figures k rows p (suc n) (t ∷ ts) e = ap (λ (vs : Row). value_at k p ∷ vs) (key_figures k rows (p + 1) n ts (omega (arith, e)))

key_row : (k : Held) (rows : ℤ) (w : ℕ) (ts : List TallyState) → length k.items ≡ w → length ts ≡ w → held (map shown_figure (figures k.items rows (map Key (range_with_len 0 w)) ts)) ≡ k
key_row k rows w ts e f = ap held (key_figures k.items rows 0 w ts f ∙ whole_row w k.items e)

or_true : (a b : Bool) → b ≡ true → (a || b) ≡ true
or_true true b h = refl
or_true false b h = h

pub key_shown : (g : GroupBy) (k : Held) (c : CellState) (w : ℕ) → g.items ≡ map Key (range_with_len 0 w) → length k.items ≡ w → is_lt (int_cmp (pos 0) c.rows) ≡ true → length c.tallies ≡ w → row_at_tick g k c ≡ Some k
key_shown g k c w lists wide rows aligned =
    ap (λ (b : Bool). cond b (Some (held (map shown_figure (figures k.items c.rows g.items c.tallies)))) None) (or_true (no_columns g.by) (is_lt (int_cmp (pos 0) c.rows)) rows)
    ∙ ap (λ (is : List ListItem). Some (held (map shown_figure (figures k.items c.rows is c.tallies)))) lists
    ∙ ap Some (key_row k c.rows w c.tallies wide aligned)

pub same_is : (o : Option Held) (k : Held) → same_shown o (Some k) ≡ true → o ≡ Some k
same_is None k h = cc
same_is (Some r) k h = ap Some ((same_held r k).0 h)

-- A TICK OF A GROUP THAT SHOWS ITS KEY
pub quiet_plan : (g : GroupBy) (k : Held) (c : CellState) → ShowsKey g k c → None ≡ plan_of g k c
quiet_plan g k c h = sym (ap₂ (λ (o p : Option Held). plan_for o p) h.shown h.row ∙ ap (λ (b : Bool). cond b None (Some (Some k))) ((same_held k k).1 refl))

pub nothing_out : (g : GroupBy) (m : ℕ) (k : Held) (c : CellState) → ShowsKey g k c → swap_of m c.shown (row_at_tick g k c) ≡ []
nothing_out g m k c h =
    ap₂ (λ (o p : Option Held). swap_of m o p) h.shown h.row
    ∙ ap (λ (b : Bool). cond b [] ((false, fitted m k) ∷ (true, fitted m k) ∷ [])) ((same_held k k).1 refl)

pub quiet_rows : (g : GroupBy) (k : Held) (c : CellState) (o : FlatState) → ShowsKey g k c → o ≡ put_out g k c o
quiet_rows g k c o h = with_none o ∙ ap (with_signed o) (sym (nothing_out g o.width k c h))
