-- Keys longer than all keys of a map, and maps that are moved.
use Rattle.std.proofs.Common.{◌≡◌, ℕ, ◌<◌, Bool, true, false, cond, List, [], ◌∷◌, ◌++◌, Some, None, length, refl, ap, sym, subst, ◌∙◌, arith, append_assoc, append-nil}
use Rattle.std.specs.declared.cmp.Ordering.{Ordering}
use Rattle.std.specs.declared.cmp.Ordering.TheVariants.{Less}
use Rattle.std.specs.Option.{is_some}
use Rattle.std.specs.Ordering.{is_eq, match_ordering}
use Rattle.std.specs.List.{All}
use Rattle.std.specs.List.Sorted.{IsStrictlySortedBy}
use Rattle.std.specs.Map.{keys_of, lookup, remove_entry}
use Rattle.std.specs.BTreeMap.{is_at, insert_entry}
use Rattle.std.proofs.lemmas.Map.Views.{All-keys-insert_entry}
use Rattle.std.proofs.lemmas.Map.Keys.{sorted_tail}
use Rattle.std.proofs.lemmas.Map.Views.{All-after_first}
use Rattle.std.proofs.lemmas.List.Elements.{All-cons, All-head, All-tail}
use Rattle.group.specs.Cells.{Held, held_cmp, CellState}
use Rattle.group.specs.Keys.{IsShort, Short}
use Rattle.group.specs.Turns.{has_key}
use Rattle.group.proofs.KeyLemmas.{held_order, same_key}

-- KEYS THAT ARE TOO LONG
longer-differs : (n : ℕ) (k q : Held) → n < length k.items → IsShort n q → is_eq (held_cmp k q) ≡ false
longer-differs n k q h s = here (is_eq (held_cmp k q)) refl
  where
    here : (b : Bool) → is_eq (held_cmp k q) ≡ b → b ≡ false
    here false e = refl
    here true e = absurd (omega (arith, h, s, ap (λ (r : Held). length r.items) (same_key held_cmp held_order k q e)))

pub lookup-longer : (n : ℕ) (k : Held) (es : List (Held × CellState)) → n < length k.items → Short n es → lookup (is_at (held_cmp k)) es ≡ None
lookup-longer n k [] h s = refl
lookup-longer n k (e ∷ es) h s =
    ap (λ b. cond b (Some e.1) (lookup (is_at (held_cmp k)) es)) (longer-differs n k e.0 h (All-head (IsShort n) e.0 (keys_of es) s))
    ∙ lookup-longer n k es h (All-tail (IsShort n) e.0 (keys_of es) s)

pub remove-longer : (n : ℕ) (k : Held) (es : List (Held × CellState)) → n < length k.items → Short n es → remove_entry (is_at (held_cmp k)) es ≡ es
remove-longer n k [] h s = refl
remove-longer n k (e ∷ es) h s =
    ap (λ b. cond b es (e ∷ remove_entry (is_at (held_cmp k)) es)) (longer-differs n k e.0 h (All-head (IsShort n) e.0 (keys_of es) s))
    ∙ ap (λ (fs : List (Held × CellState)). e ∷ fs) (remove-longer n k es h (All-tail (IsShort n) e.0 (keys_of es) s))

-- KEYS STAY SHORT
pub short-insert : (n : ℕ) (k : Held) (c : CellState) (es : List (Held × CellState)) → IsShort n k → Short n es → Short n (insert_entry held_cmp es k c)
short-insert n k c es h s = All-keys-insert_entry held_cmp k c (IsShort n) es s h

-- ALL KEYS ARE MOVED, THE LAST FIRST
next-below : (rest es : List (Held × CellState)) (p e : Held × CellState) → IsStrictlySortedBy held_cmp (keys_of (rest ++ p ∷ e ∷ es)) → held_cmp p.0 e.0 ≡ Less
next-below [] es p e s = All-head (λ q. held_cmp p.0 q ≡ Less) e.0 (keys_of es) (All-after_first held_cmp p.0 (keys_of (e ∷ es)) s)
next-below (f ∷ rest) es p e s = next-below rest es p e (sorted_tail held_cmp f.0 (keys_of (rest ++ p ∷ e ∷ es)) s)

insert-first : (rest ws : List (Held × CellState)) (p : Held × CellState) → IsStrictlySortedBy held_cmp (keys_of (rest ++ p ∷ ws)) → insert_entry held_cmp ws p.0 p.1 ≡ p ∷ ws
insert-first rest [] p s = refl
insert-first rest (e ∷ es) p s = ap (λ o. match_ordering o (p ∷ e ∷ es) ((e.0, p.1) ∷ es) (e ∷ insert_entry held_cmp es p.0 p.1)) (next-below rest es p e s)

short-front : (n : ℕ) (xs ys : List (Held × CellState)) → Short n (xs ++ ys) → Short n xs
short-front n [] ys s = λ k d lt. absurd (omega (arith, lt))
short-front n (x ∷ xs) ys s = All-cons (IsShort n) x.0 (keys_of xs) (All-head (IsShort n) x.0 (keys_of (xs ++ ys)) s) (short-front n xs ys (All-tail (IsShort n) x.0 (keys_of (xs ++ ys)) s))

-- of all entries, whose keys are short, some are left at the front, and the others went over
pub record Moved (n : ℕ) (rest ws all : List (Held × CellState)) : Type 0 where
  pub same : rest ++ ws ≡ all
  pub sorted : IsStrictlySortedBy held_cmp (keys_of all)
  pub short : Short n all

pub moved-none : (n : ℕ) (ws all : List (Held × CellState)) → ws ≡ [] → IsStrictlySortedBy held_cmp (keys_of all) → Short n all → Moved n all ws all
moved-none n ws all none s h = record { same = ap (λ (es : List (Held × CellState)). all ++ es) none ∙ append-nil all; sorted = s; short = h }

moved-left : (n : ℕ) (rest ws all : List (Held × CellState)) → Moved n rest ws all → Short n rest
moved-left n rest ws all m = short-front n rest ws (subst (Short n) (sym m.same) m.short)

-- the last entry of those that are left goes to the front of those that went over
pub moved-one : (n : ℕ) (old rest ws news all : List (Held × CellState)) (p : Held × CellState) (k : Held) → old ≡ rest ++ p ∷ [] → k ≡ p.0 → news ≡ insert_entry held_cmp ws k p.1 → Moved n old ws all → Moved n rest news all
moved-one n old rest ws news all p k split same put m =
    let one : rest ++ p ∷ ws ≡ all = sym (append_assoc rest (p ∷ []) ws) ∙ ap (λ (es : List (Held × CellState)). es ++ ws) (sym split) ∙ m.same in
    let first : news ≡ p ∷ ws = put ∙ ap (λ (q : Held). insert_entry held_cmp ws q p.1) same ∙ insert-first rest ws p (subst (λ (es : List (Held × CellState)). IsStrictlySortedBy held_cmp (keys_of es)) (sym one) m.sorted) in
    record { same = ap (λ (es : List (Held × CellState)). rest ++ es) first ∙ one; sorted = m.sorted; short = m.short }

-- those that stay when one more goes over
pub moved-stay : (n : ℕ) (old rest ws all : List (Held × CellState)) (p : Held × CellState) → old ≡ rest ++ p ∷ [] → Moved n old ws all → Short n rest
moved-stay n old rest ws all p split m = short-front n rest (p ∷ []) (subst (Short n) split (moved-left n old ws all m))

-- where none are left, all went over
pub moved-all : (n : ℕ) (rest ws all : List (Held × CellState)) → length rest ≡ 0 → Moved n rest ws all → ws ≡ all
moved-all n [] ws all none m = m.same
moved-all n (e ∷ rest) ws all none m = absurd (omega (arith, none))

-- the last entry of those that are left is not among those that went over
pub absent-above : (k : Held) (ws : List (Held × CellState)) → All (λ q. held_cmp k q ≡ Less) (keys_of ws) → lookup (is_at (held_cmp k)) ws ≡ None
absent-above k [] a = refl
absent-above k (e ∷ es) a =
    ap (λ (o : Ordering). cond (is_eq o) (Some e.1) (lookup (is_at (held_cmp k)) es)) (All-head (λ q. held_cmp k q ≡ Less) e.0 (keys_of es) a)
    ∙ absent-above k es (All-tail (λ q. held_cmp k q ≡ Less) e.0 (keys_of es) a)

sorted-after : (xs ys : List (Held × CellState)) → IsStrictlySortedBy held_cmp (keys_of (xs ++ ys)) → IsStrictlySortedBy held_cmp (keys_of ys)
sorted-after [] ys s = s
sorted-after (x ∷ xs) ys s = sorted-after xs ys (sorted_tail held_cmp x.0 (keys_of (xs ++ ys)) s)

pub moved-new : (n : ℕ) (old rest ws all : List (Held × CellState)) (p : Held × CellState) → old ≡ rest ++ p ∷ [] → Moved n old ws all → has_key p.0 ws ≡ false
moved-new n old rest ws all p split m =
    let one : rest ++ p ∷ ws ≡ all = sym (append_assoc rest (p ∷ []) ws) ∙ ap (λ (es : List (Held × CellState)). es ++ ws) (sym split) ∙ m.same in
    let sorted : IsStrictlySortedBy held_cmp (keys_of (p ∷ ws)) = sorted-after rest (p ∷ ws) (subst (λ (es : List (Held × CellState)). IsStrictlySortedBy held_cmp (keys_of es)) (sym one) m.sorted) in
    ap is_some (absent-above p.0 ws (All-after_first held_cmp p.0 (keys_of ws) sorted))

pub moved-short : (n : ℕ) (old rest ws all : List (Held × CellState)) (p : Held × CellState) → old ≡ rest ++ p ∷ [] → Moved n old ws all → IsShort n p.0
moved-short n old rest ws all p split m = All-head (IsShort n) p.0 (keys_of ws) (short-back n rest (p ∷ ws) (subst (Short n) (sym (sym (append_assoc rest (p ∷ []) ws) ∙ ap (λ (es : List (Held × CellState)). es ++ ws) (sym split) ∙ m.same)) m.short))
  where
    short-back : (n : ℕ) (xs ys : List (Held × CellState)) → Short n (xs ++ ys) → Short n ys
    short-back n [] ys s = s
    short-back n (x ∷ xs) ys s = short-back n xs ys (All-tail (IsShort n) x.0 (keys_of (xs ++ ys)) s)
