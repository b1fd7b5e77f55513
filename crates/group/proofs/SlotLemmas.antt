-- Groups by their places in a list.
use Rattle.std.proofs.Common.{◌≡◌, ◌≢◌, ℕ, Bool, true, false, cond, Option, Some, None, unwrap_or, List, [], ◌∷◌, ◌++◌, refl, sym, ap, ap₂, subst, ◌∙◌}
use Rattle.std.specs.declared.cmp.Ordering.{Ordering}
use Rattle.std.specs.declared.cmp.Ordering.TheVariants.{Less, Equal, Greater}
use Rattle.std.specs.Ordering.{is_eq, match_ordering}
use Rattle.std.specs.Option.{is_some, option_map}
use Rattle.std.specs.Map.{lookup, set_value, remove_entry, keys_of}
use Rattle.std.specs.BTreeMap.{is_at, insert_entry}
use Rattle.std.specs.Cmp.{eq_by_cmp_equiv}
use Rattle.std.specs.List.{All, Contains}
use Rattle.std.specs.List.Sorted.{IsStrictlySortedBy}
use Rattle.std.proofs.lemmas.Bool.{eq-eqb, eqb-true}
use Rattle.std.proofs.Math.Dec.{eqb}
use Rattle.std.proofs.lemmas.Map.{keys-set_value, lookup-set_value, lookup-remove_entry}
use Rattle.std.proofs.lemmas.Map.Keys.{IsDistinct-from_sorted, sorted_tail}
use Rattle.std.proofs.lemmas.Map.Views.{All-after_first, All-keys-insert_entry, All-map-remove_entry}
use Rattle.group.specs.Cells.{Held, held_cmp, CellState, cell_zero}
use Rattle.group.specs.Keys.{IsShort, Short}
use Rattle.group.specs.Slots.{IsPlaced, KeepsKeys, Writes, cell_at, held_at, key_at}
use Rattle.group.specs.Turns.{cell_of, has_key, with_cell}
use Rattle.group.proofs.KeyLemmas.{held_order, key_itself, lookup-insert_entry, same_key, same_test, same_turned}
use Rattle.group.proofs.ShortLemmas.{absent-above}
use Rattle.group.proofs.SetLemmas.{above, in-head, in-tail}

abbrev Found : Type 0
Found = ℕ → Option (Held × CellState)

inside : {A : Type 0} (x y : A) → Some x ≡ Some y → x ≡ y
inside x y e = ap (λ o. unwrap_or o x) e

-- THE GROUPS BY KEY
lookup-held : (f : Found) (t : Held → Bool) (ps : List (Held × ℕ)) → lookup t (held_at f ps) ≡ option_map (λ (p : ℕ). cell_at (f p)) (lookup t ps)
lookup-held f t [] = refl
lookup-held f t (e ∷ ps) = here (lookup-held f t ps) (t e.0)
  where
    here : lookup t (held_at f ps) ≡ option_map (λ (p : ℕ). cell_at (f p)) (lookup t ps) → (b : Bool) → cond b (Some (cell_at (f e.1))) (lookup t (held_at f ps)) ≡ option_map (λ (p : ℕ). cell_at (f p)) (cond b (Some e.1) (lookup t ps))
    here ih true = refl
    here ih false = ih

pub keys-held : (f : Found) (ps : List (Held × ℕ)) → keys_of (held_at f ps) ≡ keys_of ps
keys-held f [] = refl
keys-held f (e ∷ ps) = ap (λ (ks : List Held). e.0 ∷ ks) (keys-held f ps)

held-insert : (f : Found) (k : Held) (p : ℕ) (ps : List (Held × ℕ)) → held_at f (insert_entry held_cmp ps k p) ≡ insert_entry held_cmp (held_at f ps) k (cell_at (f p))
held-insert f k p [] = refl
held-insert f k p (e ∷ ps) = here (held-insert f k p ps) (held_cmp k e.0)
  where
    here : held_at f (insert_entry held_cmp ps k p) ≡ insert_entry held_cmp (held_at f ps) k (cell_at (f p)) → (o : Ordering) → held_at f (match_ordering o ((k, p) ∷ e ∷ ps) ((e.0, p) ∷ ps) (e ∷ insert_entry held_cmp ps k p)) ≡ match_ordering o ((k, cell_at (f p)) ∷ (e.0, cell_at (f e.1)) ∷ held_at f ps) ((e.0, cell_at (f p)) ∷ held_at f ps) ((e.0, cell_at (f e.1)) ∷ insert_entry held_cmp (held_at f ps) k (cell_at (f p)))
    here ih Less = refl
    here ih Equal = refl
    here ih Greater = ap (λ (es : List (Held × CellState)). (e.0, cell_at (f e.1)) ∷ es) ih

pub held-remove : (f : Found) (t : Held → Bool) (ps : List (Held × ℕ)) → held_at f (remove_entry t ps) ≡ remove_entry t (held_at f ps)
held-remove f t [] = refl
held-remove f t (e ∷ ps) = here (held-remove f t ps) (t e.0)
  where
    here : held_at f (remove_entry t ps) ≡ remove_entry t (held_at f ps) → (b : Bool) → held_at f (cond b ps (e ∷ remove_entry t ps)) ≡ cond b (held_at f ps) ((e.0, cell_at (f e.1)) ∷ remove_entry t (held_at f ps))
    here ih true = refl
    here ih false = ap (λ (es : List (Held × CellState)). (e.0, cell_at (f e.1)) ∷ es) ih

pub short-held : (n : ℕ) (f : Found) (ps : List (Held × ℕ)) → All (IsShort n) (keys_of ps) → Short n (held_at f ps)
short-held n f ps s = subst (All (IsShort n)) (sym (keys-held f ps)) s

-- entries with the same keys in order are the same where each look-up is
abbrev first_key : Held → List Held → Held
first_key d [] = d
first_key d (k ∷ ks) = k

abbrev other_keys : List Held → List Held
other_keys [] = []
other_keys (k ∷ ks) = ks

lookup_first : (e : Held × CellState) (es : List (Held × CellState)) → lookup (is_at (held_cmp e.0)) (e ∷ es) ≡ Some e.1
lookup_first e es = ap (λ (b : Bool). cond b (Some e.1) (lookup (is_at (held_cmp e.0)) es)) (key_itself held_cmp held_order e.0)

lookup_above : (e : Held × CellState) (es : List (Held × CellState)) → IsStrictlySortedBy held_cmp (keys_of (e ∷ es)) → lookup (is_at (held_cmp e.0)) es ≡ None
lookup_above e es s = absent-above e.0 es (All-after_first held_cmp e.0 (keys_of es) s)

by_lookups : (es fs : List (Held × CellState)) → keys_of es ≡ keys_of fs → IsStrictlySortedBy held_cmp (keys_of es) → ((q : Held) → lookup (is_at (held_cmp q)) es ≡ lookup (is_at (held_cmp q)) fs) → es ≡ fs
by_lookups [] [] same s h = refl
by_lookups [] (f ∷ fs) same s h = let n : None ≡ Some f.1 = h f.0 ∙ lookup_first f fs in cc
by_lookups (e ∷ es) [] same s h = let n : Some e.1 ≡ None = sym (lookup_first e es) ∙ h e.0 in cc
by_lookups (e ∷ es) (f ∷ fs) same s h =
    ap₂ (λ (x : Held × CellState) (xs : List (Held × CellState)). x ∷ xs) (ap₂ (λ (k : Held) (c : CellState). (k, c)) key value)
    (by_lookups es fs keys (sorted_tail held_cmp e.0 (keys_of es) s) (λ q. here q (is_eq (held_cmp q e.0)) refl))
  where
    key : e.0 ≡ f.0
    key = ap (first_key e.0) same

    keys : keys_of es ≡ keys_of fs
    keys = ap other_keys same

    value : e.1 ≡ f.1
    value = inside e.1 f.1 (sym (lookup_first e es) ∙ h e.0 ∙ ap (λ (k : Held). lookup (is_at (held_cmp k)) (f ∷ fs)) key ∙ lookup_first f fs)

    sorted : IsStrictlySortedBy held_cmp (keys_of (f ∷ fs))
    sorted = subst (IsStrictlySortedBy held_cmp) same s

    here : (q : Held) (b : Bool) → is_eq (held_cmp q e.0) ≡ b → lookup (is_at (held_cmp q)) es ≡ lookup (is_at (held_cmp q)) fs
    here q true t =
        let at : q ≡ e.0 = same_key held_cmp held_order q e.0 t in
        ap (λ (k : Held). lookup (is_at (held_cmp k)) es) at
        ∙ lookup_above e es s
        ∙ sym (lookup_above f fs sorted)
        ∙ ap (λ (k : Held). lookup (is_at (held_cmp k)) fs) (sym (at ∙ key))
    here q false t =
        ap (λ (b : Bool). cond b (Some e.1) (lookup (is_at (held_cmp q)) es)) (sym t)
        ∙ h q
        ∙ ap (λ (k : Held). cond (is_eq (held_cmp q k)) (Some f.1) (lookup (is_at (held_cmp q)) fs)) (sym key)
        ∙ ap (λ (b : Bool). cond b (Some f.1) (lookup (is_at (held_cmp q)) fs)) t

pub sorted-held : (f : Found) (ps : List (Held × ℕ)) → IsStrictlySortedBy held_cmp (keys_of ps) → IsStrictlySortedBy held_cmp (keys_of (held_at f ps))
sorted-held f ps s = subst (IsStrictlySortedBy held_cmp) (sym (keys-held f ps)) s

held-same : (f g : Found) (ps : List (Held × ℕ)) → IsStrictlySortedBy held_cmp (keys_of ps) → ((k : Held) (p : ℕ) → lookup (is_at (held_cmp k)) ps ≡ Some p → cell_at (g p) ≡ cell_at (f p)) → held_at g ps ≡ held_at f ps
held-same f g ps s h =
    by_lookups (held_at g ps) (held_at f ps) (keys-held g ps ∙ sym (keys-held f ps)) (sorted-held g ps s)
    (λ k. lookup-held g (is_at (held_cmp k)) ps ∙ here k (lookup (is_at (held_cmp k)) ps) refl ∙ sym (lookup-held f (is_at (held_cmp k)) ps))
  where
    here : (k : Held) (o : Option ℕ) → lookup (is_at (held_cmp k)) ps ≡ o → option_map (λ (p : ℕ). cell_at (g p)) o ≡ option_map (λ (p : ℕ). cell_at (f p)) o
    here k None e = refl
    here k (Some p) e = ap Some (h k p e)

-- A PLACE OF ANOTHER GROUP
apart : (f : Found) (k j : Held) (p q : ℕ) → key_at (f p) ≡ Some k → key_at (f q) ≡ Some j → is_eq (held_cmp k j) ≡ false → q ≢ p
apart f k j p q a b h e =
    let same : k ≡ j = inside k j (sym a ∙ ap (λ (r : ℕ). key_at (f r)) (sym e) ∙ b) in
    let t : is_eq (held_cmp k j) ≡ true = ap (λ (i : Held). is_eq (held_cmp k i)) (sym same) ∙ key_itself held_cmp held_order k in
    cc

-- a place without a group
apart_none : (f : Found) (j : Held) (p q : ℕ) → f p ≡ None → key_at (f q) ≡ Some j → q ≢ p
apart_none f j p q a b e =
    let n : key_at (f q) ≡ None = ap (λ (r : ℕ). key_at (f r)) e ∙ ap key_at a in
    let t : Some j ≡ None = sym b ∙ n in
    cc

-- WHAT IS KEPT OF A GROUP CHANGES
pub placed_kept : (n : ℕ) (ps : List (Held × ℕ)) (f g : Found) → KeepsKeys f g → IsPlaced n ps f → IsPlaced n ps g
placed_kept n ps f g keeps h = record {
  room = h.room;
  sorted = h.sorted;
  short = h.short;
  there = λ k p e. keeps p ∙ h.there k p e;
  back = λ k p e. h.back k p (sym (keeps p) ∙ e);
}

pub held_set : (n : ℕ) (ps : List (Held × ℕ)) (f g : Found) (k : Held) (p : ℕ) (c : CellState) → IsPlaced n ps f → lookup (is_at (held_cmp k)) ps ≡ Some p → Writes f g p c → held_at g ps ≡ set_value (is_at (held_cmp k)) (held_at f ps) c
held_set n ps f g k p c h found w =
    by_lookups (held_at g ps) (set_value (is_at (held_cmp k)) (held_at f ps) c)
    (keys-held g ps ∙ sym (keys-held f ps) ∙ sym (keys-set_value (is_at (held_cmp k)) (held_at f ps) c)) (sorted-held g ps h.sorted)
    (λ j. lookup-held g (is_at (held_cmp j)) ps
    ∙ here j (is_eq (held_cmp k j)) refl
    ∙ sym (lookup-set_value (eq_by_cmp_equiv held_order.total) (is_at (held_cmp k)) (same_test held_cmp held_order k) j c (held_at f ps) (ap is_some (lookup-held f (is_at (held_cmp k)) ps ∙ ap (option_map (λ (q : ℕ). cell_at (f q))) found))))
  where
    other : (j : Held) → is_eq (held_cmp k j) ≡ false → (o : Option ℕ) → lookup (is_at (held_cmp j)) ps ≡ o → option_map (λ (q : ℕ). cell_at (g q)) o ≡ option_map (λ (q : ℕ). cell_at (f q)) o
    other j t None e = refl
    other j t (Some q) e = ap (λ (x : Option (Held × CellState)). Some (cell_at x)) (w.others q (apart f k j p q (h.there k p found) (h.there j q e) t))

    here : (j : Held) (b : Bool) → is_eq (held_cmp k j) ≡ b → option_map (λ (q : ℕ). cell_at (g q)) (lookup (is_at (held_cmp j)) ps) ≡ cond b (Some c) (lookup (is_at (held_cmp j)) (held_at f ps))
    here j true t =
        ap (λ (i : Held). option_map (λ (q : ℕ). cell_at (g q)) (lookup (is_at (held_cmp i)) ps)) (sym (same_key held_cmp held_order k j t))
        ∙ ap (option_map (λ (q : ℕ). cell_at (g q))) found
        ∙ ap Some w.cell
    here j false t = other j t (lookup (is_at (held_cmp j)) ps) refl ∙ sym (lookup-held f (is_at (held_cmp j)) ps)

-- A GROUP COMES
pub held_came : (n : ℕ) (ps : List (Held × ℕ)) (f g : Found) (k : Held) (p : ℕ) (c : CellState) → IsPlaced n ps f → f p ≡ None → g p ≡ Some (k, c) → ((q : ℕ) → q ≢ p → g q ≡ f q) → held_at g (insert_entry held_cmp ps k p) ≡ insert_entry held_cmp (held_at f ps) k c
held_came n ps f g k p c h free now others =
    held-insert g k p ps
    ∙ ap (λ (x : Option (Held × CellState)). insert_entry held_cmp (held_at g ps) k (cell_at x)) now
    ∙ ap (λ (es : List (Held × CellState)). insert_entry held_cmp es k c)
    (held-same f g ps h.sorted (λ j q e. ap cell_at (others q (apart_none f j p q free (h.there j q e)))))

-- A GROUP GOES
-- what a look-up finds when the group k has gone
lookup-gone : (k j : Held) (q : ℕ) (ps : List (Held × ℕ)) → IsStrictlySortedBy held_cmp (keys_of ps) → lookup (is_at (held_cmp j)) (remove_entry (is_at (held_cmp k)) ps) ≡ cond (is_eq (held_cmp k j)) None (lookup (is_at (held_cmp j)) ps)
lookup-gone k j q ps s = lookup-remove_entry (eq_by_cmp_equiv held_order.total) (is_at (held_cmp k)) (same_test held_cmp held_order k) j ps (IsDistinct-from_sorted held_cmp (keys_of ps) s)

record StillThere (k j : Held) (q : ℕ) (ps : List (Held × ℕ)) : Type 0 where
  differs : is_eq (held_cmp k j) ≡ false
  found : lookup (is_at (held_cmp j)) ps ≡ Some q

still_there : (k j : Held) (q : ℕ) (ps : List (Held × ℕ)) → IsStrictlySortedBy held_cmp (keys_of ps) → lookup (is_at (held_cmp j)) (remove_entry (is_at (held_cmp k)) ps) ≡ Some q → StillThere k j q ps
still_there k j q ps s e = here (is_eq (held_cmp k j)) refl
  where
    here : (b : Bool) → is_eq (held_cmp k j) ≡ b → StillThere k j q ps
    here true t = let n : None ≡ Some q = ap (λ (b : Bool). cond b None (lookup (is_at (held_cmp j)) ps)) (sym t) ∙ sym (lookup-gone k j q ps s) ∙ e in cc
    here false t = record { differs = t; found = ap (λ (b : Bool). cond b None (lookup (is_at (held_cmp j)) ps)) (sym t) ∙ sym (lookup-gone k j q ps s) ∙ e }

pub held_went : (n : ℕ) (ps : List (Held × ℕ)) (f g : Found) (k : Held) (p : ℕ) → IsPlaced n ps f → IsStrictlySortedBy held_cmp (keys_of (remove_entry (is_at (held_cmp k)) ps)) → lookup (is_at (held_cmp k)) ps ≡ Some p → ((q : ℕ) → q ≢ p → g q ≡ f q) → held_at g (remove_entry (is_at (held_cmp k)) ps) ≡ remove_entry (is_at (held_cmp k)) (held_at f ps)
held_went n ps f g k p h s found others =
    held-same f g (remove_entry (is_at (held_cmp k)) ps) s
    (λ j q e. let u : StillThere k j q ps = still_there k j q ps h.sorted e in ap cell_at (others q (apart f k j p q (h.there k p found) (h.there j q u.found) u.differs)))
    ∙ held-remove f (is_at (held_cmp k)) ps

-- the same groups at the same places
pub placed_same : (n : ℕ) (ps : List (Held × ℕ)) (f g : Found) → IsPlaced n ps f → ((q : ℕ) → g q ≡ f q) → IsPlaced n ps g
placed_same n ps f g h same = record {
  room = h.room;
  sorted = h.sorted;
  short = h.short;
  there = λ j q e. ap key_at (same q) ∙ h.there j q e;
  back = λ j q e. h.back j q (sym (ap key_at (same q)) ∙ e);
}

-- PLACES AFTER A GROUP CAME OR WENT
differs : (q p : ℕ) → eqb q p ≡ false → q ≢ p
differs q p t e = let u : eqb q p ≡ true = eq-eqb q p e in cc

pub placed_came : (n : ℕ) (ps : List (Held × ℕ)) (f g : Found) (k : Held) (p : ℕ) (c : CellState) → IsPlaced n ps f → IsStrictlySortedBy held_cmp (keys_of (insert_entry held_cmp ps k p)) → IsShort n k → lookup (is_at (held_cmp k)) ps ≡ None → f p ≡ None → g p ≡ Some (k, c) → ((q : ℕ) → q ≢ p → g q ≡ f q) → IsPlaced n (insert_entry held_cmp ps k p) g
placed_came n ps f g k p c h s few new free now others = record {
  room = h.room;
  sorted = s;
  short = All-keys-insert_entry held_cmp k p (IsShort n) ps h.short few;
  there = λ j q e. there j q (is_eq (held_cmp j k)) refl (sym (lookup-insert_entry held_cmp held_order k j p ps) ∙ e);
  back = λ j q e. lookup-insert_entry held_cmp held_order k j p ps ∙ back j q (eqb q p) refl e;
}
  where
    there : (j : Held) (q : ℕ) (b : Bool) → is_eq (held_cmp j k) ≡ b → cond (is_eq (held_cmp j k)) (Some p) (lookup (is_at (held_cmp j)) ps) ≡ Some q → key_at (g q) ≡ Some j
    there j q true t e =
        let at : Some p ≡ Some q = ap (λ (b : Bool). cond b (Some p) (lookup (is_at (held_cmp j)) ps)) (sym t) ∙ e in
        ap (λ (r : ℕ). key_at (g r)) (sym (inside p q at)) ∙ ap key_at now ∙ ap Some (sym (same_key held_cmp held_order j k t))
    there j q false t e =
        let was : lookup (is_at (held_cmp j)) ps ≡ Some q = ap (λ (b : Bool). cond b (Some p) (lookup (is_at (held_cmp j)) ps)) (sym t) ∙ e in
        ap key_at (others q (apart_none f j p q free (h.there j q was))) ∙ h.there j q was

    old : (j : Held) (q : ℕ) (b : Bool) → is_eq (held_cmp j k) ≡ b → lookup (is_at (held_cmp j)) ps ≡ Some q → cond (is_eq (held_cmp j k)) (Some p) (lookup (is_at (held_cmp j)) ps) ≡ Some q
    old j q true t e = let n : None ≡ Some q = sym new ∙ ap (λ (i : Held). lookup (is_at (held_cmp i)) ps) (sym (same_key held_cmp held_order j k t)) ∙ e in cc
    old j q false t e = ap (λ (b : Bool). cond b (Some p) (lookup (is_at (held_cmp j)) ps)) t ∙ e

    back : (j : Held) (q : ℕ) (b : Bool) → eqb q p ≡ b → key_at (g q) ≡ Some j → cond (is_eq (held_cmp j k)) (Some p) (lookup (is_at (held_cmp j)) ps) ≡ Some q
    back j q true t e =
        let at : q ≡ p = eqb-true q p t in
        let same : k ≡ j = inside k j (sym (ap key_at now) ∙ ap (λ (r : ℕ). key_at (g r)) (sym at) ∙ e) in
        ap (λ (i : Held). cond (is_eq (held_cmp i k)) (Some p) (lookup (is_at (held_cmp i)) ps)) (sym same)
        ∙ ap (λ (b : Bool). cond b (Some p) (lookup (is_at (held_cmp k)) ps)) (key_itself held_cmp held_order k)
        ∙ ap Some (sym at)
    back j q false t e = old j q (is_eq (held_cmp j k)) refl (h.back j q (sym (ap key_at (others q (differs q p t))) ∙ e))

pub placed_went : (n : ℕ) (ps : List (Held × ℕ)) (f g : Found) (k : Held) (p : ℕ) → IsPlaced n ps f → IsStrictlySortedBy held_cmp (keys_of (remove_entry (is_at (held_cmp k)) ps)) → lookup (is_at (held_cmp k)) ps ≡ Some p → g p ≡ None → ((q : ℕ) → q ≢ p → g q ≡ f q) → IsPlaced n (remove_entry (is_at (held_cmp k)) ps) g
placed_went n ps f g k p h s found gone others = record {
  room = h.room;
  sorted = s;
  short = All-map-remove_entry (is_at (held_cmp k)) (λ e. e.0) (IsShort n) ps h.short;
  there = λ j q e. there j q (still_there k j q ps h.sorted e);
  back = λ j q e. lookup-gone k j q ps h.sorted ∙ back j q (eqb q p) refl e;
}
  where
    there : (j : Held) (q : ℕ) → StillThere k j q ps → key_at (g q) ≡ Some j
    there j q u = ap key_at (others q (apart f k j p q (h.there k p found) (h.there j q u.found) u.differs)) ∙ h.there j q u.found

    old : (j : Held) (q : ℕ) → q ≢ p → (b : Bool) → is_eq (held_cmp k j) ≡ b → lookup (is_at (held_cmp j)) ps ≡ Some q → cond (is_eq (held_cmp k j)) None (lookup (is_at (held_cmp j)) ps) ≡ Some q
    old j q other true t e = absurd (other (inside q p (sym e ∙ ap (λ (i : Held). lookup (is_at (held_cmp i)) ps) (sym (same_key held_cmp held_order k j t)) ∙ found)))
    old j q other false t e = ap (λ (b : Bool). cond b None (lookup (is_at (held_cmp j)) ps)) t ∙ e

    back : (j : Held) (q : ℕ) (b : Bool) → eqb q p ≡ b → key_at (g q) ≡ Some j → cond (is_eq (held_cmp k j)) None (lookup (is_at (held_cmp j)) ps) ≡ Some q
    back j q true t e = let n : None ≡ Some j = sym (ap key_at gone) ∙ ap (λ (r : ℕ). key_at (g r)) (sym (eqb-true q p t)) ∙ e in cc
    back j q false t e = old j q (differs q p t) (is_eq (held_cmp k j)) refl (h.back j q (sym (ap key_at (others q (differs q p t))) ∙ e))

-- THE GROUPS AS CALLERS SEE THEM
pub occupied : (o : Option (Held × CellState)) (k : Held) → key_at o ≡ Some k → is_some o ≡ true
occupied None k e = cc
occupied (Some x) k e = refl

pub found-held : (f : Found) (ps : List (Held × ℕ)) (k : Held) (p : ℕ) → lookup (is_at (held_cmp k)) ps ≡ Some p → lookup (is_at (held_cmp k)) (held_at f ps) ≡ Some (cell_at (f p))
found-held f ps k p found = lookup-held f (is_at (held_cmp k)) ps ∙ ap (option_map (λ (q : ℕ). cell_at (f q))) found

pub absent-held : (f : Found) (ps : List (Held × ℕ)) (k : Held) → lookup (is_at (held_cmp k)) ps ≡ None → lookup (is_at (held_cmp k)) (held_at f ps) ≡ None
absent-held f ps k none = lookup-held f (is_at (held_cmp k)) ps ∙ ap (option_map (λ (q : ℕ). cell_at (f q))) none

-- from the groups to their places
pub none_held : (f : Found) (ps : List (Held × ℕ)) (k : Held) → has_key k (held_at f ps) ≡ false → lookup (is_at (held_cmp k)) ps ≡ None
none_held f ps k h = here (lookup (is_at (held_cmp k)) ps) (sym (ap is_some (lookup-held f (is_at (held_cmp k)) ps)) ∙ h)
  where
    here : (o : Option ℕ) → is_some (option_map (λ (q : ℕ). cell_at (f q)) o) ≡ false → o ≡ None
    here None e = refl
    here (Some q) e = cc

pub cell-held : (m : ℕ) (f : Found) (ps : List (Held × ℕ)) (k : Held) (p : ℕ) → lookup (is_at (held_cmp k)) ps ≡ Some p → cell_of m k (held_at f ps) ≡ cell_at (f p)
cell-held m f ps k p found = ap (λ (o : Option CellState). unwrap_or o (cell_zero m)) (found-held f ps k p found)

-- a group that is there is kept otherwise
pub with_there : (n m : ℕ) (ps : List (Held × ℕ)) (f g : Found) (k : Held) (p : ℕ) (u : CellState → CellState) (fresh : CellState) → IsPlaced n ps f → lookup (is_at (held_cmp k)) ps ≡ Some p → Writes f g p (u (cell_at (f p))) → held_at g ps ≡ with_cell k (u (cell_of m k (held_at f ps))) fresh (held_at f ps)
with_there n m ps f g k p u fresh h found w =
    held_set n ps f g k p (u (cell_at (f p))) h found w
    ∙ ap (λ (c : CellState). set_value (is_at (held_cmp k)) (held_at f ps) (u c)) (sym (cell-held m f ps k p found))
    ∙ sym (ap (λ (b : Bool). cond b (set_value (is_at (held_cmp k)) (held_at f ps) (u (cell_of m k (held_at f ps)))) (insert_entry held_cmp (held_at f ps) k fresh)) (ap is_some (found-held f ps k p found)))

-- one that is not there comes
pub with_new : (k : Held) (there fresh : CellState) (es : List (Held × CellState)) → has_key k es ≡ false → insert_entry held_cmp es k fresh ≡ with_cell k there fresh es
with_new k there fresh es h = sym (ap (λ (b : Bool). cond b (set_value (is_at (held_cmp k)) es there) (insert_entry held_cmp es k fresh)) h)

-- THE LAST GROUP
last_in : (rest : List (Held × ℕ)) (e : Held × ℕ) → Contains (keys_of (rest ++ e ∷ [])) e.0
last_in [] e = in-head e.0 e.0 [] refl
last_in (x ∷ rest) e = in-tail x.0 e.0 (keys_of (rest ++ e ∷ [])) (last_in rest e)

above_last : (x : Held × ℕ) (rest : List (Held × ℕ)) (e : Held × ℕ) → IsStrictlySortedBy held_cmp (keys_of (x ∷ rest ++ e ∷ [])) → is_eq (held_cmp e.0 x.0) ≡ false
above_last x rest e s = same_turned held_cmp held_order e.0 x.0 ∙ ap is_eq (above x.0 e.0 (keys_of (rest ++ e ∷ [])) s (last_in rest e))

remove-last : (rest : List (Held × ℕ)) (e : Held × ℕ) → IsStrictlySortedBy held_cmp (keys_of (rest ++ e ∷ [])) → remove_entry (is_at (held_cmp e.0)) (rest ++ e ∷ []) ≡ rest
remove-last [] e s = ap (λ (b : Bool). cond b [] (e ∷ [])) (key_itself held_cmp held_order e.0)
remove-last (x ∷ rest) e s =
    ap (λ (b : Bool). cond b (rest ++ e ∷ []) (x ∷ remove_entry (is_at (held_cmp e.0)) (rest ++ e ∷ []))) (above_last x rest e s)
    ∙ ap (λ (ps : List (Held × ℕ)). x ∷ ps) (remove-last rest e (sorted_tail held_cmp x.0 (keys_of (rest ++ e ∷ [])) s))

lookup-last : (rest : List (Held × ℕ)) (e : Held × ℕ) → IsStrictlySortedBy held_cmp (keys_of (rest ++ e ∷ [])) → lookup (is_at (held_cmp e.0)) (rest ++ e ∷ []) ≡ Some e.1
lookup-last [] e s = ap (λ (b : Bool). cond b (Some e.1) None) (key_itself held_cmp held_order e.0)
lookup-last (x ∷ rest) e s =
    ap (λ (b : Bool). cond b (Some x.1) (lookup (is_at (held_cmp e.0)) (rest ++ e ∷ []))) (above_last x rest e s)
    ∙ lookup-last rest e (sorted_tail held_cmp x.0 (keys_of (rest ++ e ∷ [])) s)

pub last_found : (n : ℕ) (ps rest : List (Held × ℕ)) (f : Found) (e : Held × ℕ) → ps ≡ rest ++ e ∷ [] → IsPlaced n ps f → lookup (is_at (held_cmp e.0)) ps ≡ Some e.1
last_found n ps rest f e split h =
    ap (lookup (is_at (held_cmp e.0))) split
    ∙ lookup-last rest e (subst (λ (qs : List (Held × ℕ)). IsStrictlySortedBy held_cmp (keys_of qs)) split h.sorted)

last_left : (n : ℕ) (ps rest : List (Held × ℕ)) (f : Found) (e : Held × ℕ) → ps ≡ rest ++ e ∷ [] → IsPlaced n ps f → remove_entry (is_at (held_cmp e.0)) ps ≡ rest
last_left n ps rest f e split h =
    ap (remove_entry (is_at (held_cmp e.0))) split
    ∙ remove-last rest e (subst (λ (qs : List (Held × ℕ)). IsStrictlySortedBy held_cmp (keys_of qs)) split h.sorted)

pub placed_last : (n : ℕ) (ps rest : List (Held × ℕ)) (f g : Found) (e : Held × ℕ) → ps ≡ rest ++ e ∷ [] → IsPlaced n ps f → IsStrictlySortedBy held_cmp (keys_of rest) → g e.1 ≡ None → ((q : ℕ) → q ≢ e.1 → g q ≡ f q) → IsPlaced n rest g
placed_last n ps rest f g e split h s gone others =
    let left : remove_entry (is_at (held_cmp e.0)) ps ≡ rest = last_left n ps rest f e split h in
    subst (λ (qs : List (Held × ℕ)). IsPlaced n qs g) left
    (placed_went n ps f g e.0 e.1 h (subst (λ (qs : List (Held × ℕ)). IsStrictlySortedBy held_cmp (keys_of qs)) (sym left) s) (last_found n ps rest f e split h) gone others)

pub held_last : (n : ℕ) (ps rest : List (Held × ℕ)) (f g : Found) (e : Held × ℕ) → ps ≡ rest ++ e ∷ [] → IsPlaced n ps f → IsStrictlySortedBy held_cmp (keys_of rest) → ((q : ℕ) → q ≢ e.1 → g q ≡ f q) → held_at f ps ≡ held_at g rest ++ (e.0, cell_at (f e.1)) ∷ []
held_last n ps rest f g e split h s others =
    let left : remove_entry (is_at (held_cmp e.0)) ps ≡ rest = last_left n ps rest f e split h in
    let sorted : IsStrictlySortedBy held_cmp (keys_of (remove_entry (is_at (held_cmp e.0)) ps)) = subst (λ (qs : List (Held × ℕ)). IsStrictlySortedBy held_cmp (keys_of qs)) (sym left) s in
    let same : held_at g rest ≡ held_at f rest =
    ap (held_at g) (sym left)
    ∙ held_went n ps f g e.0 e.1 h sorted (last_found n ps rest f e split h) others
    ∙ sym (held-remove f (is_at (held_cmp e.0)) ps)
    ∙ ap (held_at f) left in
    ap (held_at f) split
    ∙ appended rest
    ∙ ap (λ (es : List (Held × CellState)). es ++ (e.0, cell_at (f e.1)) ∷ []) (sym same)
  where
    appended : (qs : List (Held × ℕ)) → held_at f (qs ++ e ∷ []) ≡ held_at f qs ++ (e.0, cell_at (f e.1)) ∷ []
    appended [] = refl
    appended (x ∷ qs) = ap (λ (es : List (Held × CellState)). (x.0, cell_at (f x.1)) ∷ es) (appended qs)
