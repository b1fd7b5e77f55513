-- An operator below the root has a state of its kind, and puts out entries.
use Rattle.std.proofs.Common.{◌≡◌, ℕ, List, refl, sym, subst, subst₂}
use Rattle.values.specs.Row.{Row}
use Rattle.values.specs.Window.{Element, Window as Told}
use Rattle.column.specs.declared.batch.Side.{Side}
use Rattle.op_queue.specs.Entries.{Entry}
use Rattle.op_queue.specs.Logs.{Closed}
use Rattle.op_queue.specs.declared.item.Item.{Item}
use Rattle.turn.specs.Turns.{Put, outs_at}
use Rattle.turn.specs.declared.excerpts.Excerpt.{Excerpt}
use Rattle.turn.specs.declared.excerpts.Excerpt.TheVariants as near
use Rattle.turn.specs.declared.kinds.Kind.{Kind}
use Rattle.turn.specs.declared.kinds.Kind.TheVariants as kind
use Rattle.operators.specs.Operators.{Belongs}
use Rattle.operators.specs.Ready.{PlainOperator}
use Rattle.operators.specs.States.{near_of}
use Rattle.operators.specs.declared.states.State.{State}
use Rattle.operators.specs.declared.states.State.TheVariants as state
use Rattle.plan.specs.Nodes as plan
use Rattle.plan.specs.Nodes.{Window, Select, Join, Project, Group, Distinct, ToStream}
use Rattle.laws_dataflow.specs.Nets.{World, Cell, at_window, at_unary, at_join}
use Rattle.laws_queries.specs.Runs.{Runs, WindowStands}

pub record Puts (k : Kind) (side : Side) (i : Item) (n : Excerpt) : Type 0 where
  pub outs : List (Entry Row)
  pub is : outs_at k side i n ≡ Put outs

window_outs : (side : Side) (i : Item) (n : Excerpt) → Puts kind.Window side i n
window_outs side i near.Nothing = record { outs = _; is = refl }
window_outs side i (near.Window rows) = record { outs = _; is = refl }
window_outs side i (near.Met rows) = record { outs = _; is = refl }
window_outs side i (near.Groups rows) = record { outs = _; is = refl }
window_outs side i (near.Lists lists) = record { outs = _; is = refl }

-- the state of a window is no root's
window_puts : (first : ℕ) (w : Told) (n : ℕ) (held : List Element) (k : Kind) (s : State) (side : Side) (i : Item) → Belongs k s → WindowStands first w n s held → Puts k side i (near_of s side i)
window_puts first w n held kind.Window s side i b h = window_outs side i (near_of s side i)
window_puts first w n held (kind.Select steps) s side i b h = absurd (subst (λ z. WindowStands first w n z held) b h)
window_puts first w n held (kind.Project columns) s side i b h = absurd (subst (λ z. WindowStands first w n z held) b h)
window_puts first w n held kind.Join s side i b h = absurd (subst (λ z. WindowStands first w n z held) b.1 h)
window_puts first w n held (kind.Group g) s side i b h = absurd (subst (λ z. WindowStands first w n z held) b.1 h)
window_puts first w n held kind.ToStream s side i b h = absurd (subst (λ z. WindowStands first w n z held) b.1 h)

here : (o : PlainOperator) (k : Kind) (s : State) (side : Side) (i : Item) → o.kind ≡ k → o.state ≡ s → Puts k side i (near_of s side i) → Puts o.kind side i (near_of o.state side i)
here o k s side i e f p = subst₂ (λ x y. Puts x side i (near_of y side i)) (sym e) (sym f) p

-- WHAT IT PUTS OUT
pub runs_puts : (w : World) (width : ℕ) (node : plan.Node) (o : PlainOperator) (log : Closed) (c : Cell) (side : Side) (i : Item) → Runs w width node o log c → Puts o.kind side i (near_of o.state side i)
runs_puts w width (Window s) o log (at_window h e b q n) side i r = window_puts w.first (w.windows s) n h o.kind o.state side i r.kind r.stands
runs_puts w width (Window s) o log (at_unary q t b n) side i r = absurd r
runs_puts w width (Window s) o log (at_join q u l m b n x y) side i r = absurd r
runs_puts w width (Select j cs) o log (at_window h e b q n) side i r = absurd r
runs_puts w width (Select j cs) o log (at_unary q t b n) side i r = here o _ _ side i r.kind r.state (record { outs = _; is = refl })
runs_puts w width (Select j cs) o log (at_join q u l m b n x y) side i r = absurd r
runs_puts w width (Join j k ks) o log (at_window h e b q n) side i r = absurd r
runs_puts w width (Join j k ks) o log (at_unary q t b n) side i r = absurd r
runs_puts w width (Join j k ks) o log (at_join q u l m b n x y) side i r = here o _ _ side i r.kind r.state (record { outs = _; is = refl })
runs_puts w width (Project j columns) o log (at_window h e b q n) side i r = absurd r
runs_puts w width (Project j columns) o log (at_unary q t b n) side i r = here o _ _ side i r.kind r.state (record { outs = _; is = refl })
runs_puts w width (Project j columns) o log (at_join q u l m b n x y) side i r = absurd r
runs_puts w width (Group j by items) o log (at_window h e b q n) side i r = absurd r
runs_puts w width (Group j by items) o log (at_unary q t b n) side i r = here o _ _ side i r.kind r.state (record { outs = _; is = refl })
runs_puts w width (Group j by items) o log (at_join q u l m b n x y) side i r = absurd r
runs_puts w width (Distinct j) o log (at_window h e b q n) side i r = absurd r
runs_puts w width (Distinct j) o log (at_unary q t b n) side i r = here o _ _ side i r.kind r.state (record { outs = _; is = refl })
runs_puts w width (Distinct j) o log (at_join q u l m b n x y) side i r = absurd r
runs_puts w width (ToStream j op) o log c side i r = absurd r

-- ITS STATE is one of its kind
belongs : (o : PlainOperator) (k : Kind) (s : State) → o.kind ≡ k → o.state ≡ s → Belongs k s → Belongs o.kind o.state
belongs o k s e f b = subst₂ Belongs (sym e) (sym f) b

pub runs_belongs : (w : World) (width : ℕ) (node : plan.Node) (o : PlainOperator) (log : Closed) (c : Cell) → Runs w width node o log c → Belongs o.kind o.state
runs_belongs w width (Window s) o log (at_window h e b q n) r = r.kind
runs_belongs w width (Window s) o log (at_unary q t b n) r = absurd r
runs_belongs w width (Window s) o log (at_join q u l m b n x y) r = absurd r
runs_belongs w width (Select j cs) o log (at_window h e b q n) r = absurd r
runs_belongs w width (Select j cs) o log (at_unary q t b n) r = belongs o (kind.Select r.steps) state.Nothing r.kind r.state refl
runs_belongs w width (Select j cs) o log (at_join q u l m b n x y) r = absurd r
runs_belongs w width (Join j k ks) o log (at_window h e b q n) r = absurd r
runs_belongs w width (Join j k ks) o log (at_unary q t b n) r = absurd r
runs_belongs w width (Join j k ks) o log (at_join q u l m b n x y) r = belongs o kind.Join (state.Join r.held) r.kind r.state (r.held, refl)
runs_belongs w width (Project j columns) o log (at_window h e b q n) r = absurd r
runs_belongs w width (Project j columns) o log (at_unary q t b n) r = belongs o (kind.Project r.places) state.Nothing r.kind r.state refl
runs_belongs w width (Project j columns) o log (at_join q u l m b n x y) r = absurd r
runs_belongs w width (Group j by items) o log (at_window h e b q n) r = absurd r
runs_belongs w width (Group j by items) o log (at_unary q t b n) r = belongs o (kind.Group r.held.group) (state.Groups r.held) r.kind r.state (r.held, refl, refl)
runs_belongs w width (Group j by items) o log (at_join q u l m b n x y) r = absurd r
runs_belongs w width (Distinct j) o log (at_window h e b q n) r = absurd r
runs_belongs w width (Distinct j) o log (at_unary q t b n) r = belongs o (kind.Group r.held.group) (state.Groups r.held) r.kind r.state (r.held, refl, refl)
runs_belongs w width (Distinct j) o log (at_join q u l m b n x y) r = absurd r
runs_belongs w width (ToStream j op) o log c r = absurd r
