-- The turn of a tick in place.
use Rattle.std.proofs.Common.{◌≡◌, ℕ, Bool, true, false, cond, Option, Some, None, unwrap_or, List, [], ◌∷◌, ◌++◌, map, fold, length, refl, sym, ap, ap₂, ◌∙◌, subst, arith, append_assoc, append-nil}
use Rattle.std.specs.declared.cmp.Ordering.{Ordering}
use Rattle.std.specs.declared.cmp.Ordering.TheVariants.{Less}
use Rattle.std.specs.Ordering.{is_eq}
use Rattle.std.specs.Option.{is_some}
use Rattle.std.specs.Map.{lookup, remove_entry}
use Rattle.std.specs.BTreeMap.{is_at}
use Rattle.std.specs.List.{AllByRecursion}
use Rattle.std.specs.List.Sorted.{IsStrictlySortedBy}
use Rattle.std.proofs.lemmas.Map.Keys.{sorted_head}
use Rattle.values.specs.Row.{Row}
use Rattle.values.specs.declared.resolved.ListItem.{ListItem}
use Rattle.std.specs.List.{All}
use Rattle.std.proofs.lemmas.List.Elements.{All-append, All-cons}
use Rattle.op_queue.specs.Entries.{Entry, RowAt, TickAt}
use Rattle.op_queue.specs.Forward.{IsForward, instant_of}
use Rattle.op_queue.specs.declared.item.Item.{Item}
use Rattle.op_queue.specs.declared.item.Item.TheVariants.{Rows, Tick}
use Rattle.group.specs.Groups.{GroupBy}
use Rattle.group.specs.Cells.{Held, held_cmp, CellState, cell_zero, showing}
use Rattle.group.specs.Turns.{has_key, cell_of, shown_at, shown_after, shown_now, excerpt, near_at, out, outputs, same_shown, TouchedState}
use Rattle.op_queue.specs.Flat.{FlatState, with_signed}
use Rattle.group.specs.Runs.{row_at_tick, swapped, changes_at}
use Rattle.group.proofs.KeyLemmas.{held_order, same_key, same_held, cell-shown_in}

-- THE OTHER GROUPS
pub less_not : (o : Ordering) → o ≡ Less → is_eq o ≡ false
less_not o e = ap is_eq e

pub remove_other : (k q : Held) (es : List (Held × CellState)) → is_eq (held_cmp k q) ≡ false → lookup (is_at (held_cmp q)) (remove_entry (is_at (held_cmp k)) es) ≡ lookup (is_at (held_cmp q)) es
remove_other k q [] h = refl
remove_other k q (e ∷ es) h = here (remove_other k q es h) (is_eq (held_cmp k e.0)) refl (is_eq (held_cmp q e.0)) refl
  where
    here : lookup (is_at (held_cmp q)) (remove_entry (is_at (held_cmp k)) es) ≡ lookup (is_at (held_cmp q)) es → (a : Bool) → is_eq (held_cmp k e.0) ≡ a → (b : Bool) → is_eq (held_cmp q e.0) ≡ b → lookup (is_at (held_cmp q)) (cond a es (e ∷ remove_entry (is_at (held_cmp k)) es)) ≡ cond b (Some e.1) (lookup (is_at (held_cmp q)) es)
    here rest true i true j =
        let s : q ≡ k = same_key held_cmp held_order q e.0 j ∙ sym (same_key held_cmp held_order k e.0 i) in
        let t : is_eq (held_cmp k q) ≡ true = subst (λ (x : Held). is_eq (held_cmp k x) ≡ true) (sym (same_key held_cmp held_order q e.0 j)) i in
        cc
    here rest true i false j = refl
    here rest false i true j = ap (λ (b : Bool). cond b (Some e.1) (lookup (is_at (held_cmp q)) (remove_entry (is_at (held_cmp k)) es))) j
    here rest false i false j = ap (λ (b : Bool). cond b (Some e.1) (lookup (is_at (held_cmp q)) (remove_entry (is_at (held_cmp k)) es))) j ∙ rest

-- the group q, which is another than k, stays as it is
pub cell_other : (n : ℕ) (k q : Held) (o : Option Held) (es : List (Held × CellState)) → is_eq (held_cmp k q) ≡ false → cell_of n q (shown_at n k o es) ≡ cell_of n q es
cell_other n k q None es h = ap (λ (r : Option CellState). unwrap_or r (cell_zero n)) (remove_other k q es h)
cell_other n k q (Some r) es h = cell-shown_in n k q r es ∙ ap (λ (b : Bool). cond b (showing (cell_of n k es) (Some r)) (cell_of n q es)) h

near_other : (is : List ListItem) (k : Held) (o : Option Held) (es : List (Held × CellState)) (ks : List Held) → AllByRecursion (λ q. held_cmp k q ≡ Less) ks → near_at is (shown_at (length is) k o es) ks ≡ near_at is es ks
near_other is k o es [] a = refl
near_other is k o es (q ∷ ks) a =
    ap₂ (λ (t : TouchedState) (ts : List TouchedState). t ∷ ts)
    (ap (excerpt is q) (cell_other (length is) k q o es (less_not (held_cmp k q) a.0)))
    (near_other is k o es ks a.1)

-- after the first of the touched keys the others have what they had
pub near_rest : (g : GroupBy) (k : Held) (es : List (Held × CellState)) (ks : List Held) → IsStrictlySortedBy held_cmp (k ∷ ks) → near_at g.items (swapped g k es) ks ≡ near_at g.items es ks
near_rest g k es ks s = near_other g.items k (row_at_tick g k (cell_of (length g.items) k es)) es ks (sorted_head held_cmp k ks s)

-- ONE GROUP AFTER THE OTHER
pub swap_cells : (g : GroupBy) (k : Held) (es : List (Held × CellState)) (ks : List Held) → IsStrictlySortedBy held_cmp (k ∷ ks)
    → fold (shown_after (length g.items)) (swapped g k es) (changes_at g (swapped g k es) ks) ≡ fold (shown_after (length g.items)) es (changes_at g es (k ∷ ks))
swap_cells g k es ks s = ap (λ (ts : List TouchedState). fold (shown_after (length g.items)) (swapped g k es) (map (shown_now g) ts)) (near_rest g k es ks s)

-- ONE GROUP

-- what was shown is shown again
pub shows_same : (c : CellState) (o : Option Held) → same_shown c.shown o ≡ true → c ≡ showing c o
shows_same c o h = ap (showing c) (here c.shown o h)
  where
    here : (a b : Option Held) → same_shown a b ≡ true → a ≡ b
    here None None h = refl
    here None (Some r) h = cc
    here (Some r) None h = cc
    here (Some r) (Some q) h = ap Some ((same_held r q).0 h)

-- a group that the map has not is as a new one
pub cell_absent : (n : ℕ) (k : Held) (es : List (Held × CellState)) → has_key k es ≡ false → cell_of n k es ≡ cell_zero n
cell_absent n k es h = here (lookup (is_at (held_cmp k)) es) h
  where
    here : (r : Option CellState) → is_some r ≡ false → unwrap_or r (cell_zero n) ≡ cell_zero n
    here None h = refl
    here (Some c) h = cc

pub outgoing_rows : (outs : List (Bool × Row)) (o p : FlatState) → o.rows ≡ [] → p ≡ with_signed o outs → p.rows ≡ outs
outgoing_rows outs o p none is = ap (λ (x : FlatState). x.rows) is ∙ ap (λ (rs : List (Bool × Row)). rs ++ outs) none

pub tick_whole : (t : ℕ) (before : List (Entry Row)) (rows outs : List (Bool × Row)) → rows ≡ outs → before ++ (map (RowAt t) outs ++ TickAt t ∷ []) ≡ (before ++ map (RowAt t) rows) ++ TickAt t ∷ []
tick_whole t before rows outs is =
    let at : Bool × Row → Entry Row = RowAt t in
    ap (λ (rs : List (Bool × Row)). before ++ (map at rs ++ TickAt t ∷ [])) (sym is) ∙ sym (append_assoc before (map at rows) (TickAt t ∷ []))

pub with_none : (o : FlatState) → o ≡ with_signed o []
with_none o = ap (λ (rs : List (Bool × Row)). record { width = o.width; rows = rs }) (sym (append-nil o.rows))

-- WHAT IS PUT OUT IS OF ONE INSTANT
rows_at : (t : ℕ) (rs : List (Bool × Row)) → All (λ (e : Entry Row). instant_of e ≡ t) (map (RowAt t) rs)
rows_at t [] = λ k d lt. absurd (omega (arith, lt))
rows_at t (r ∷ rs) = All-cons (λ (e : Entry Row). instant_of e ≡ t) (RowAt t r) (map (RowAt t) rs) refl (rows_at t rs)

tick_at : (t : ℕ) → All (λ (e : Entry Row). instant_of e ≡ t) (TickAt t ∷ [])
tick_at t = All-cons (λ (e : Entry Row). instant_of e ≡ t) (TickAt t) [] refl (λ k d lt. absurd (omega (arith, lt)))

forward_at : (t : ℕ) (es : List (Entry Row)) → All (λ (e : Entry Row). instant_of e ≡ t) es → IsForward es
forward_at t es a = λ i j d le lt. omega (arith, a i d (omega (arith, le, lt)), a j d lt)

pub out_forward : (g : GroupBy) (i : Item) (ts : List TouchedState) → IsForward (out g i ts)
out_forward g (Rows t b) ts = λ i j d le lt. absurd (omega (arith, lt))
out_forward g (Tick t) ts =
    let at : Bool × Row → Entry Row = RowAt t in
    forward_at t (map at (outputs g ts) ++ TickAt t ∷ []) (All-append (λ (e : Entry Row). instant_of e ≡ t) (map at (outputs g ts)) (TickAt t ∷ []) (rows_at t (outputs g ts)) (tick_at t))
