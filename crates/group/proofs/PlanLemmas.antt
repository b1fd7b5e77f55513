-- A tick in two steps does what one step would.
use Rattle.std.proofs.Common.{◌≡◌, ℕ, ◌<◌, pos, Bool, true, false, cond, ◌||◌, Option, Some, None, unwrap_or, List, [], ◌∷◌, ◌++◌, map, fold, length, get_or, refl, sym, ap, ◌∙◌, subst, arith, append_assoc}
use Rattle.std.specs.declared.cmp.Ordering.{Ordering}
use Rattle.std.specs.declared.cmp.Ordering.TheVariants.{Less, Equal, Greater}
use Rattle.std.specs.Ordering.{int_cmp, is_eq, is_lt, match_ordering}
use Rattle.std.specs.Option.{is_some}
use Rattle.std.specs.Map.{lookup, set_value, remove_entry}
use Rattle.std.specs.BTreeMap.{is_at, insert_entry}
use Rattle.std.specs.List.{AllByRecursion}
use Rattle.std.specs.List.Sorted.{IsStrictlySortedBy}
use Rattle.std.proofs.lemmas.Map.Keys.{sorted_head, sorted_tail}
use Rattle.std.proofs.lemmas.Map.Steps.{set_value_same}
use Rattle.values.specs.Row.{Row}
use Rattle.op_queue.specs.Flat.{FlatState, with_signed}
use Rattle.group.specs.Groups.{GroupBy, no_columns}
use Rattle.group.specs.Cells.{Held, held, held_cmp, CellState, cell_zero, showing, shown_figure}
use Rattle.group.specs.Keys.{AreWhole}
use Rattle.group.specs.Plans.{AllThere, Begun, plan_for, plan_in, plan_of, plans_at, put_all, put_in, put_one}
use Rattle.group.specs.Runs.{changes_at, put_out, row_at_tick, swapped}
use Rattle.group.specs.Turns.{TouchedState, cell_of, excerpt, has_key, near_at, outputs, same_shown, shown_at, shown_after, shown_in, swap_of}
use Rattle.group.proofs.BackLemmas.{gone_again}
use Rattle.group.proofs.KeyLemmas.{held_order, key_itself, lookup-insert_entry}
use Rattle.group.proofs.PassedLemmas.{other_shown}
use Rattle.group.proofs.RunLemmas.{cell_absent, cell_other, less_not, near_rest, shows_same, swap_cells}

-- ONE GROUP
-- what was shown is shown again
there_same : (n : ℕ) (k : Held) (es : List (Held × CellState)) (c : CellState) → lookup (is_at (held_cmp k)) es ≡ Some c → cell_of n k es ≡ c
there_same n k es c e = ap (λ (o : Option CellState). unwrap_or o (cell_zero n)) e

put_there : (n : ℕ) (k r : Held) (es : List (Held × CellState)) (o : Option CellState) → lookup (is_at (held_cmp k)) es ≡ o → is_some o ≡ true
    → put_one k (plan_for (cell_of n k es).shown (Some r)) es ≡ shown_in n k r es
put_there n k r es None e h = cc
put_there n k r es (Some c) e h = here (same_shown (cell_of n k es).shown (Some r)) refl
  where
    was : cell_of n k es ≡ c
    was = there_same n k es c e

    now : shown_in n k r es ≡ set_value (is_at (held_cmp k)) es (showing (cell_of n k es) (Some r))
    now = ap (λ (b : Bool). cond b (set_value (is_at (held_cmp k)) es (showing (cell_of n k es) (Some r))) (insert_entry held_cmp es k (showing (cell_zero n) (Some r)))) (ap is_some e)

    here : (b : Bool) → same_shown (cell_of n k es).shown (Some r) ≡ b → put_one k (cond b None (Some (Some r))) es ≡ shown_in n k r es
    here true t =
        sym (now
        ∙ ap (set_value (is_at (held_cmp k)) es) (sym (shows_same (cell_of n k es) (Some r) t) ∙ was)
        ∙ set_value_same (is_at (held_cmp k)) es c e)
    here false t = ap (λ (d : CellState). set_value (is_at (held_cmp k)) es (showing d (Some r))) (there_same 0 k es c e ∙ sym was) ∙ sym now

put_same : (g : GroupBy) (k : Held) (es : List (Held × CellState)) → (is_some (row_at_tick g k (cell_of (length g.items) k es)) ≡ true → has_key k es ≡ true)
    → put_one k (plan_of g k (cell_of (length g.items) k es)) es ≡ swapped g k es
put_same g k es h = here (row_at_tick g k (cell_of (length g.items) k es)) h
  where
    here : (o : Option Held) → (is_some o ≡ true → has_key k es ≡ true) → put_one k (plan_for (cell_of (length g.items) k es).shown o) es ≡ shown_at (length g.items) k o es
    here None i = refl
    here (Some r) i = put_there (length g.items) k r es (lookup (is_at (held_cmp k)) es) refl (i refl)

-- ALL GROUPS
there_rest : (g : GroupBy) (k : Held) (o : Option Held) (es : List (Held × CellState)) (ks : List Held) → AllByRecursion (λ q. held_cmp k q ≡ Less) ks → AllThere g es ks → AllThere g (shown_at (length g.items) k o es) ks
there_rest g k o es [] a h = tt
there_rest g k o es (q ∷ ks) a h =
    let n : ℕ = length g.items in
    let apart : is_eq (held_cmp k q) ≡ false = less_not (held_cmp k q) a.0 in (
      λ s. ap is_some (other_shown n k q o es apart) ∙ h.0 (ap (λ (c : CellState). is_some (row_at_tick g q c)) (sym (cell_other n k q o es apart)) ∙ s),
      there_rest g k o es ks a.1 h.1,
    )

pub put-all : (g : GroupBy) (ks : List Held) (es : List (Held × CellState)) → IsStrictlySortedBy held_cmp ks → AllThere g es ks
    → put_all ks (plans_at g es ks) es ≡ fold (shown_after (length g.items)) es (changes_at g es ks)
put-all g [] es s h = refl
put-all g (k ∷ ks) es s h =
    let fs : List (Held × CellState) = swapped g k es in
    let o : Option Held = row_at_tick g k (cell_of (length g.items) k es) in
    ap (put_all ks (plans_at g es ks)) (put_same g k es h.0)
    ∙ ap (λ (ts : List TouchedState). put_all ks (map (plan_in g) ts) fs) (sym (near_rest g k es ks s))
    ∙ put-all g ks fs (sorted_tail held_cmp k ks s) (there_rest g k o es ks (sorted_head held_cmp k ks s) h.1)
    ∙ swap_cells g k es ks s

-- WHICH GROUPS ARE THERE
nothing_new : (g : GroupBy) (k : Held) → no_columns g.by ≡ false → row_at_tick g k (cell_zero (length g.items)) ≡ None
nothing_new g k e = ap (λ (b : Bool). cond (b || is_lt (int_cmp (pos 0) (pos 0))) (Some (held (map shown_figure (excerpt g.items k (cell_zero (length g.items))).figures))) None) e

pub by_there : (g : GroupBy) (es : List (Held × CellState)) (ks : List Held) → no_columns g.by ≡ false → AllThere g es ks
by_there g es [] e = tt
by_there g es (k ∷ ks) e = (λ s. here (has_key k es) refl s, by_there g es ks e)
  where
    here : (b : Bool) → has_key k es ≡ b → is_some (row_at_tick g k (cell_of (length g.items) k es)) ≡ true → b ≡ true
    here true t s = refl
    here false t s =
        let none : is_some (row_at_tick g k (cell_of (length g.items) k es)) ≡ false = ap (λ (c : CellState). is_some (row_at_tick g k c)) (cell_absent (length g.items) k es t) ∙ ap is_some (nothing_new g k e) in
        cc

-- THE ONE GROUP WITHOUT GROUP BY
one_key : (k : Held) (ks : List Held) → IsStrictlySortedBy held_cmp (k ∷ ks) → AreWhole (k ∷ ks) → ks ≡ []
one_key k [] s a = refl
one_key k (j ∷ ks) s a =
    let l : held_cmp k j ≡ Less = (sorted_head held_cmp k (j ∷ ks) s).0 in
    let same : j ≡ k = a 1 j (omega arith) ∙ sym (a 0 k (omega arith)) in
    let m : held_cmp k k ≡ Less = subst (λ (q : Held). held_cmp k q ≡ Less) same l in
    let e : is_eq (held_cmp k k) ≡ true = key_itself held_cmp held_order k in
    cc

still : (g : GroupBy) (ks : List Held) (es : List (Held × CellState)) → AllThere g es ks → Begun g ks es es false
still g ks es h = record { near = refl; cells = refl; there = h; back = refl }

pub still_by : (g : GroupBy) (ks : List Held) (es : List (Held × CellState)) → no_columns g.by ≡ false → Begun g ks es es false
still_by g ks es e = still g ks es (by_there g es ks e)

pub still_none : (g : GroupBy) (ks : List Held) (es : List (Held × CellState)) → ks ≡ [] → Begun g ks es es false
still_none g ks es e = still g ks es (subst (AllThere g es) (sym e) tt)

pub still_there : (g : GroupBy) (k : Held) (ks : List Held) (es : List (Held × CellState)) → IsStrictlySortedBy held_cmp (k ∷ ks) → AreWhole (k ∷ ks) → has_key k es ≡ true → Begun g (k ∷ ks) es es false
still_there g k ks es s a h = still g (k ∷ ks) es (λ t. h, subst (AllThere g es) (sym (one_key k ks s a)) tt)

-- a group that came takes another value
set_new : (k : Held) (c d : CellState) (es : List (Held × CellState)) → has_key k es ≡ false → set_value (is_at (held_cmp k)) (insert_entry held_cmp es k c) d ≡ insert_entry held_cmp es k d
set_new k c d [] h = ap (λ (b : Bool). cond b ((k, d) ∷ []) ((k, c) ∷ [])) (key_itself held_cmp held_order k)
set_new k c d (e ∷ es) h = here (held_cmp k e.0) refl (set_new k c d es)
  where
    here : (o : Ordering) → held_cmp k e.0 ≡ o → (has_key k es ≡ false → set_value (is_at (held_cmp k)) (insert_entry held_cmp es k c) d ≡ insert_entry held_cmp es k d)
        → set_value (is_at (held_cmp k)) (match_ordering o ((k, c) ∷ e ∷ es) ((e.0, c) ∷ es) (e ∷ insert_entry held_cmp es k c)) d ≡ match_ordering o ((k, d) ∷ e ∷ es) ((e.0, d) ∷ es) (e ∷ insert_entry held_cmp es k d)
    here Less i ih = ap (λ (b : Bool). cond b ((k, d) ∷ e ∷ es) ((k, c) ∷ set_value (is_at (held_cmp k)) (e ∷ es) d)) (key_itself held_cmp held_order k)
    here Equal i ih = ap (λ (o : Ordering). cond (is_eq o) ((e.0, d) ∷ es) ((e.0, c) ∷ set_value (is_at (held_cmp k)) es d)) i
    here Greater i ih =
        ap (λ (o : Ordering). cond (is_eq o) ((e.0, d) ∷ insert_entry held_cmp es k c) (e ∷ set_value (is_at (held_cmp k)) (insert_entry held_cmp es k c) d)) i
        ∙ ap (λ (fs : List (Held × CellState)). e ∷ fs) (ih (sym (ap (λ (o : Ordering). is_some (cond (is_eq o) (Some e.1) (lookup (is_at (held_cmp k)) es))) i) ∙ h))

absent_none : (k : Held) (es : List (Held × CellState)) → has_key k es ≡ false → lookup (is_at (held_cmp k)) es ≡ None
absent_none k es h = here (lookup (is_at (held_cmp k)) es) h
  where
    here : (o : Option CellState) → is_some o ≡ false → o ≡ None
    here None e = refl
    here (Some c) e = cc

pub begun_new : (g : GroupBy) (k : Held) (ks : List Held) (es fs : List (Held × CellState)) → no_columns g.by ≡ true → IsStrictlySortedBy held_cmp (k ∷ ks) → AreWhole (k ∷ ks) → has_key k es ≡ false → fs ≡ insert_entry held_cmp es k (cell_zero (length g.items))
    → Begun g (k ∷ ks) es fs true
begun_new g k ks es fs whole s a new came =
    subst (λ (js : List Held). Begun g (k ∷ js) es fs true) (sym (one_key k ks s a))
    (subst (λ (xs : List (Held × CellState)). Begun g (k ∷ []) es xs true) (sym came)
    (record {
      near = ap (λ (c : CellState). excerpt g.items k c ∷ []) same;
      cells =
          ap (λ (c : CellState). shown_at n k (row_at_tick g k c) with_new) same
          ∙ here (row_at_tick g k (cell_of n k es)) some;
      there = (λ t. has, tt);
      back = gone_again held_cmp held_order k (cell_zero n) es (absent_none k es new);
    }))
  where
    n : ℕ
    n = length g.items

    with_new : List (Held × CellState)
    with_new = insert_entry held_cmp es k (cell_zero n)

    found : lookup (is_at (held_cmp k)) with_new ≡ Some (cell_zero n)
    found = lookup-insert_entry held_cmp held_order k k (cell_zero n) es ∙ ap (λ (b : Bool). cond b (Some (cell_zero n)) (lookup (is_at (held_cmp k)) es)) (key_itself held_cmp held_order k)

    has : has_key k with_new ≡ true
    has = ap is_some found

    same : cell_of n k with_new ≡ cell_of n k es
    same = there_same n k with_new (cell_zero n) found ∙ sym (cell_absent n k es new)

    some : is_some (row_at_tick g k (cell_of n k es)) ≡ true
    some = ap (λ (b : Bool). is_some (cond (b || is_lt (int_cmp (pos 0) (cell_of n k es).rows)) (Some (held (map shown_figure (excerpt g.items k (cell_of n k es)).figures))) None)) whole

    here : (o : Option Held) → is_some o ≡ true → shown_at n k o with_new ≡ shown_at n k o es
    here None t = cc
    here (Some r) t =
        ap (λ (b : Bool). cond b (set_value (is_at (held_cmp k)) with_new (showing (cell_of n k with_new) (Some r))) (insert_entry held_cmp with_new k (showing (cell_zero n) (Some r)))) has
        ∙ ap (λ (c : CellState). set_value (is_at (held_cmp k)) with_new (showing c (Some r))) (there_same n k with_new (cell_zero n) found)
        ∙ set_new k (cell_zero n) (showing (cell_zero n) (Some r)) es new
        ∙ sym (ap (λ (b : Bool). cond b (set_value (is_at (held_cmp k)) es (showing (cell_of n k es) (Some r))) (insert_entry held_cmp es k (showing (cell_zero n) (Some r)))) new)

-- the same of the first key
pub still_first : (g : GroupBy) (ks : List Held) (k : Held) (es : List (Held × CellState)) → IsStrictlySortedBy held_cmp ks → AreWhole ks → k ≡ get_or ks 0 k → has_key k es ≡ true → Begun g ks es es false
still_first g [] k es s a e h = still_none g [] es refl
still_first g (j ∷ ks) k es s a e h = still_there g j ks es s a (ap (λ (q : Held). has_key q es) (sym e) ∙ h)

pub begun_first : (g : GroupBy) (ks : List Held) (k : Held) (es fs : List (Held × CellState)) → no_columns g.by ≡ true → IsStrictlySortedBy held_cmp ks → AreWhole ks → 0 < length ks → k ≡ get_or ks 0 k → has_key k es ≡ false → fs ≡ insert_entry held_cmp es k (cell_zero (length g.items))
    → Begun g ks es fs true
begun_first g [] k es fs w s a l e h i = absurd (omega (arith, l))
begun_first g (j ∷ ks) k es fs w s a l e h i =
    begun_new g j ks es fs w s a (ap (λ (q : Held). has_key q es) (sym e) ∙ h) (i ∙ ap (λ (q : Held). insert_entry held_cmp es q (cell_zero (length g.items))) e)

-- THE LOOPS
pub put-rows : (g : GroupBy) (k : Held) (es : List (Held × CellState)) (ks : List Held) (o p : FlatState) → o.width ≡ length g.items → p ≡ put_out g k (cell_of (length g.items) k es) o
    → with_signed p (outputs g (near_at g.items es ks)) ≡ with_signed o (outputs g (near_at g.items es (k ∷ ks)))
put-rows g k es ks o p w is =
    let c : CellState = cell_of (length g.items) k es in
    let rest : List (Bool × Row) = outputs g (near_at g.items es ks) in
    ap (λ (q : FlatState). with_signed q rest) is
    ∙ ap (λ (rs : List (Bool × Row)). record { width = o.width; rows = rs })
    (append_assoc o.rows (swap_of o.width c.shown (row_at_tick g k c)) rest
    ∙ ap (λ (m : ℕ). o.rows ++ (swap_of m c.shown (row_at_tick g k c) ++ rest)) w)

-- a group that is not there is not set
pub set_absent : (k : Held) (c : CellState) (es : List (Held × CellState)) → lookup (is_at (held_cmp k)) es ≡ None → set_value (is_at (held_cmp k)) es c ≡ es
set_absent k c [] h = refl
set_absent k c (e ∷ es) h = here (is_eq (held_cmp k e.0)) h (set_absent k c es)
  where
    here : (b : Bool) → cond b (Some e.1) (lookup (is_at (held_cmp k)) es) ≡ None → (lookup (is_at (held_cmp k)) es ≡ None → set_value (is_at (held_cmp k)) es c ≡ es) → cond b ((e.0, c) ∷ es) (e ∷ set_value (is_at (held_cmp k)) es c) ≡ e ∷ es
    here true i ih = cc
    here false i ih = ap (λ (fs : List (Held × CellState)). e ∷ fs) (ih i)

pub put_some : (k : Held) (o : Option Held) (es : List (Held × CellState)) → is_some o ≡ true → put_in k o es ≡ set_value (is_at (held_cmp k)) es (showing (cell_of 0 k es) o)
put_some k None es h = cc
put_some k (Some r) es h = refl

pub put_none : (k : Held) (o : Option Held) (es : List (Held × CellState)) → is_some o ≡ false → put_in k o es ≡ remove_entry (is_at (held_cmp k)) es
put_none k None es h = refl
put_none k (Some r) es h = cc
