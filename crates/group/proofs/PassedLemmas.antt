-- A tick may pass over groups that are quiet.
use Rattle.std.proofs.Common.{get_or, ◌≡◌, ℕ, Bool, true, false, cond, Option, Some, None, unwrap_or, List, [], ◌∷◌, ◌++◌, map, fold, length, ◌⊎◌, ⊎_elim, inl, inr, refl, sym, ap, ◌∙◌, subst, arith}
use Rattle.std.specs.declared.cmp.Ordering.{Ordering}
use Rattle.std.specs.declared.cmp.Ordering.TheVariants.{Less, Equal, Greater}
use Rattle.std.specs.Ordering.{is_eq, match_ordering, ordering_reverse}
use Rattle.std.specs.Option.{is_some}
use Rattle.std.specs.Map.{lookup, set_value}
use Rattle.std.specs.BTreeMap.{is_at, insert_entry}
use Rattle.std.specs.BTreeSet.{insert_key}
use Rattle.std.specs.Cmp.{eq_by_cmp_equiv}
use Rattle.std.specs.List.{Contains, range_with_len}
use Rattle.std.specs.List.Sorted.{IsStrictlySortedBy}
use Rattle.std.proofs.lemmas.List.Sums.{fold-append}
use Rattle.std.proofs.lemmas.List.Elements.{All-contains, Contains-append_left, Contains-append_right, Contains-append_cases}
use Rattle.std.proofs.lemmas.Cmp.{tied_itself}
use Rattle.std.proofs.lemmas.Map.{lookup-set_value}
use Rattle.std.proofs.lemmas.Map.Steps.{set_value_same}
use Rattle.values.specs.Row.{Row}
use Rattle.values.specs.declared.resolved.ListItem.{ListItem}
use Rattle.values.specs.declared.resolved.ListItem.TheVariants.{Key}
use Rattle.group.specs.Groups.{GroupBy}
use Rattle.group.specs.Cells.{Held, held, held_cmp, CellState, cell_zero, cell_after, showing}
use Rattle.std.proofs.lemmas.List.{get_or_default}
use Rattle.group.specs.Keys.{AreWhole, in_set}
use Rattle.group.specs.Quiet.{AreQuiet, IsQuiet, ListsKeys}
use Rattle.group.specs.Runs.{ShowsKey, changes_at, row_at_tick}
use Rattle.group.specs.Turns.{cell_of, has_key, near_at, outputs, shown_after, shown_at, swap_of, taken_in, with_cell}
use Rattle.group.proofs.KeyLemmas.{held_order, same_key, same_test, same_turned, lookup-insert_entry}
use Rattle.group.proofs.QuietLemmas.{key_shown, nothing_out}
use Rattle.group.proofs.RunLemmas.{remove_other}
use Rattle.group.proofs.SetLemmas.{has-fold, has-insert, in-head, in-insert, in-tail, in_set-in, keeps-insert, same_sets, sorted-in_set}
use Rattle.group.proofs.StateLemmas.{sorted-insert_key}

-- THE OTHER GROUPS
other_with_cell : (k q : Held) (c d : CellState) (es : List (Held × CellState)) → is_eq (held_cmp k q) ≡ false → lookup (is_at (held_cmp q)) (with_cell k c d es) ≡ lookup (is_at (held_cmp q)) es
other_with_cell k q c d es h = here (has_key k es) refl
  where
    here : (b : Bool) → has_key k es ≡ b → lookup (is_at (held_cmp q)) (cond b (set_value (is_at (held_cmp k)) es c) (insert_entry held_cmp es k d)) ≡ lookup (is_at (held_cmp q)) es
    here true some =
        lookup-set_value (eq_by_cmp_equiv held_order.total) (is_at (held_cmp k)) (same_test held_cmp held_order k) q c es some
        ∙ ap (λ (b : Bool). cond b (Some c) (lookup (is_at (held_cmp q)) es)) h
    here false none =
        lookup-insert_entry held_cmp held_order k q d es
        ∙ ap (λ (b : Bool). cond b (Some d) (lookup (is_at (held_cmp q)) es)) (sym (same_turned held_cmp held_order k q) ∙ h)

pub other_shown : (n : ℕ) (k q : Held) (o : Option Held) (es : List (Held × CellState)) → is_eq (held_cmp k q) ≡ false → lookup (is_at (held_cmp q)) (shown_at n k o es) ≡ lookup (is_at (held_cmp q)) es
other_shown n k q None es h = remove_other k q es h
other_shown n k q (Some r) es h = other_with_cell k q (showing (cell_of n k es) (Some r)) (showing (cell_zero n) (Some r)) es h

-- A QUIET GROUP
shows_key : (g : GroupBy) (k : Held) (es : List (Held × CellState)) → (q : IsQuiet es k) → g.items ≡ map Key (range_with_len 0 (length k.items)) → ShowsKey g k (cell_of (length g.items) k es)
shows_key g k es q lists =
    let same : cell_of (length g.items) k es ≡ q.cell = ap (λ (o : Option CellState). unwrap_or o (cell_zero (length g.items))) q.there in
    subst (ShowsKey g k) (sym same) (record {
      row = key_shown g k q.cell (length k.items) lists refl q.quiet.rows q.quiet.tallies;
      shown = q.quiet.shown;
    })

-- it shows its key again, which changes nothing
shown_again : (n : ℕ) (k : Held) (c : CellState) (es : List (Held × CellState)) → lookup (is_at (held_cmp k)) es ≡ Some c → c.shown ≡ Some k → shown_at n k (Some k) es ≡ es
shown_again n k c es there shown =
    let has : has_key k es ≡ true = ap is_some there in
    let same : cell_of n k es ≡ c = ap (λ (o : Option CellState). unwrap_or o (cell_zero n)) there in
    ap (λ (b : Bool). cond b (set_value (is_at (held_cmp k)) es (showing (cell_of n k es) (Some k))) (insert_entry held_cmp es k (showing (cell_zero n) (Some k)))) has
    ∙ ap (λ (d : CellState). set_value (is_at (held_cmp k)) es (showing d (Some k))) same
    ∙ ap (λ (o : Option Held). set_value (is_at (held_cmp k)) es (showing c o)) (sym shown)
    ∙ set_value_same (is_at (held_cmp k)) es c there

-- ONE KEY MORE
outputs-more : (g : GroupBy) (es : List (Held × CellState)) (k : Held) (ks : List Held) → ShowsKey g k (cell_of (length g.items) k es) → outputs g (near_at g.items es (insert_key held_cmp ks k)) ≡ outputs g (near_at g.items es ks)
outputs-more g es k [] h = ap (λ (rs : List (Bool × Row)). rs ++ []) (nothing_out g (length g.items) k (cell_of (length g.items) k es) h)
outputs-more g es k (j ∷ ks) h = here (held_cmp k j) (outputs-more g es k ks h)
  where
    here : (o : Ordering) → outputs g (near_at g.items es (insert_key held_cmp ks k)) ≡ outputs g (near_at g.items es ks) → outputs g (near_at g.items es (match_ordering o (k ∷ j ∷ ks) (j ∷ ks) (j ∷ insert_key held_cmp ks k))) ≡ outputs g (near_at g.items es (j ∷ ks))
    here Less ih = ap (λ (rs : List (Bool × Row)). rs ++ outputs g (near_at g.items es (j ∷ ks))) (nothing_out g (length g.items) k (cell_of (length g.items) k es) h)
    here Equal ih = refl
    here Greater ih = ap (λ (rs : List (Bool × Row)). swap_of (length g.items) (cell_of (length g.items) j es).shown (row_at_tick g j (cell_of (length g.items) j es)) ++ rs) ih

-- fs stands where the groups of the keys before ks are changed
cells-more : (g : GroupBy) (es fs : List (Held × CellState)) (k : Held) (c : CellState) (ks : List Held) → ShowsKey g k (cell_of (length g.items) k es) → lookup (is_at (held_cmp k)) fs ≡ Some c → c.shown ≡ Some k
    → fold (shown_after (length g.items)) fs (changes_at g es (insert_key held_cmp ks k)) ≡ fold (shown_after (length g.items)) fs (changes_at g es ks)
cells-more g es fs k c [] h there shown = ap (λ (o : Option Held). shown_at (length g.items) k o fs) h.row ∙ shown_again (length g.items) k c fs there shown
cells-more g es fs k c (j ∷ ks) h there shown =
    here (held_cmp k j) refl (λ apart. cells-more g es (next fs) k c ks h (other_shown (length g.items) j k (row_at_tick g j (cell_of (length g.items) j es)) fs apart ∙ there) shown)
  where
    next : List (Held × CellState) → List (Held × CellState)
    next xs = shown_at (length g.items) j (row_at_tick g j (cell_of (length g.items) j es)) xs

    here : (o : Ordering) → held_cmp k j ≡ o → (is_eq (held_cmp j k) ≡ false → fold (shown_after (length g.items)) (next fs) (changes_at g es (insert_key held_cmp ks k)) ≡ fold (shown_after (length g.items)) (next fs) (changes_at g es ks))
        → fold (shown_after (length g.items)) fs (changes_at g es (match_ordering o (k ∷ j ∷ ks) (j ∷ ks) (j ∷ insert_key held_cmp ks k))) ≡ fold (shown_after (length g.items)) fs (changes_at g es (j ∷ ks))
    here Less e ih = ap (λ (xs : List (Held × CellState)). fold (shown_after (length g.items)) xs (changes_at g es (j ∷ ks))) (ap (λ (o : Option Held). shown_at (length g.items) k o fs) h.row ∙ shown_again (length g.items) k c fs there shown)
    here Equal e ih = refl
    here Greater e ih = ih (ap is_eq (held_order.total.antisymm j k ∙ ap ordering_reverse e))

-- a key that is there changes nothing
inserted_again : (k : Held) (ks : List Held) → IsStrictlySortedBy held_cmp ks → Contains ks k → insert_key held_cmp ks k ≡ ks
inserted_again k ks sorted has =
    same_sets (insert_key held_cmp ks k) ks (sorted-insert_key k ks sorted) sorted
    (λ z c. ⊎_elim (λ e. subst (Contains ks) e has) (λ t. t) (in-insert k z ks c))
    (λ z c. keeps-insert k z ks c)

-- MANY KEYS MORE
-- each key is among the first, or it may be passed over
outputs-many : (g : GroupBy) (es : List (Held × CellState)) (ts acc qs : List Held) → IsStrictlySortedBy held_cmp acc → ((z : Held) → Contains ts z → Contains acc z) → ((k : Held) → Contains qs k → Contains ts k ⊎ ShowsKey g k (cell_of (length g.items) k es))
    → outputs g (near_at g.items es (fold (insert_key held_cmp) acc qs)) ≡ outputs g (near_at g.items es acc)
outputs-many g es ts acc [] sorted among each = refl
outputs-many g es ts acc (q ∷ qs) sorted among each =
    outputs-many g es ts (insert_key held_cmp acc q) qs (sorted-insert_key q acc sorted) (λ z c. keeps-insert q z acc (among z c)) (λ k c. each k (in-tail q k qs c))
    ∙ ⊎_elim (λ c. ap (λ (ks : List Held). outputs g (near_at g.items es ks)) (inserted_again q acc sorted (among q c))) (λ h. outputs-more g es q acc h) (each q (in-head q q qs refl))

record Passed (g : GroupBy) (es : List (Held × CellState)) (k : Held) : Type 0 where
  pub row : ShowsKey g k (cell_of (length g.items) k es)
  pub cell : CellState
  pub there : lookup (is_at (held_cmp k)) es ≡ Some cell
  pub shown : cell.shown ≡ Some k

cells-many : (g : GroupBy) (es : List (Held × CellState)) (ts acc qs : List Held) → IsStrictlySortedBy held_cmp acc → ((z : Held) → Contains ts z → Contains acc z) → ((k : Held) → Contains qs k → Contains ts k ⊎ Passed g es k)
    → fold (shown_after (length g.items)) es (changes_at g es (fold (insert_key held_cmp) acc qs)) ≡ fold (shown_after (length g.items)) es (changes_at g es acc)
cells-many g es ts acc [] sorted among each = refl
cells-many g es ts acc (q ∷ qs) sorted among each =
    cells-many g es ts (insert_key held_cmp acc q) qs (sorted-insert_key q acc sorted) (λ z c. keeps-insert q z acc (among z c)) (λ k c. each k (in-tail q k qs c))
    ∙ ⊎_elim (λ c. ap (λ (ks : List Held). fold (shown_after (length g.items)) es (changes_at g es ks)) (inserted_again q acc sorted (among q c))) (λ h. cells-more g es es q h.cell acc h.row h.there h.shown) (each q (in-head q q qs refl))

passed : (g : GroupBy) (es : List (Held × CellState)) (ts qs : List Held) → AreQuiet es ts qs → ListsKeys g qs → (k : Held) → Contains qs k → Contains ts k ⊎ Passed g es k
passed g es ts qs quiet lists k c =
    ⊎_elim inl
    (λ q. inr (record {
      row = shows_key g k es q (All-contains (λ (j : Held). g.items ≡ map Key (range_with_len 0 (length j.items))) qs k lists c);
      cell = q.cell;
      there = q.there;
      shown = q.quiet.shown;
    }))
    (quiet k c)

among-set : (ts : List Held) (z : Held) → Contains ts z → Contains (in_set ts) z
among-set ts z c = has-fold z [] ts c

-- WHAT A TICK LOOKS AT
pub sorted-gathered : (ts qs : List Held) (b : Bool) → IsStrictlySortedBy held_cmp (cond b (in_set ts) (in_set (ts ++ qs)))
sorted-gathered ts qs true = sorted-in_set ts
sorted-gathered ts qs false = sorted-in_set (ts ++ qs)

pub same_outputs : (g : GroupBy) (es : List (Held × CellState)) (ts qs : List Held) (b : Bool) → (b ≡ true → AreQuiet es ts qs) → (b ≡ true → ListsKeys g qs)
    → outputs g (near_at g.items es (cond b (in_set ts) (in_set (ts ++ qs)))) ≡ outputs g (near_at g.items es (in_set (ts ++ qs)))
same_outputs g es ts qs false quiet lists = refl
same_outputs g es ts qs true quiet lists =
    sym (ap (λ (ks : List Held). outputs g (near_at g.items es ks)) (fold-append (insert_key held_cmp) [] ts qs)
    ∙ outputs-many g es ts (in_set ts) qs (sorted-in_set ts) (among-set ts) (λ k c. ⊎_elim inl (λ h. inr h.row) (passed g es ts qs (quiet refl) (lists refl) k c)))

pub same_changes : (g : GroupBy) (es : List (Held × CellState)) (ts qs : List Held) (b : Bool) → (b ≡ true → AreQuiet es ts qs) → (b ≡ true → ListsKeys g qs)
    → fold (shown_after (length g.items)) es (changes_at g es (cond b (in_set ts) (in_set (ts ++ qs)))) ≡ fold (shown_after (length g.items)) es (changes_at g es (in_set (ts ++ qs)))
same_changes g es ts qs false quiet lists = refl
same_changes g es ts qs true quiet lists =
    sym (ap (λ (ks : List Held). fold (shown_after (length g.items)) es (changes_at g es ks)) (fold-append (insert_key held_cmp) [] ts qs)
    ∙ cells-many g es ts (in_set ts) qs (sorted-in_set ts) (among-set ts) (passed g es ts qs (quiet refl) (lists refl)))

-- TWO LISTS OF KEYS
in_both : (ts qs : List Held) (z : Held) → Contains (in_set (ts ++ qs)) z → Contains (in_set ts) z ⊎ Contains (in_set qs) z
in_both ts qs z c = ⊎_elim (λ a. inl (among-set ts z a)) (λ b. inr (among-set qs z b)) (Contains-append_cases ts qs z (in_set-in z (ts ++ qs) c))

pub of_first : (ts qs : List Held) (z : Held) → Contains (in_set ts) z → Contains (in_set (ts ++ qs)) z
of_first ts qs z c = among-set (ts ++ qs) z (Contains-append_left ts qs z (in_set-in z ts c))

of_second : (ts qs : List Held) (z : Held) → Contains (in_set qs) z → Contains (in_set (ts ++ qs)) z
of_second ts qs z c = among-set (ts ++ qs) z (Contains-append_right ts qs z (in_set-in z qs c))

pub same_both : (ts qs us vs : List Held) → in_set us ≡ in_set ts → in_set vs ≡ in_set qs → in_set (us ++ vs) ≡ in_set (ts ++ qs)
same_both ts qs us vs e f =
    same_sets (in_set (us ++ vs)) (in_set (ts ++ qs)) (sorted-in_set (us ++ vs)) (sorted-in_set (ts ++ qs))
    (λ z c. ⊎_elim (λ a. of_first ts qs z (subst (λ (ks : List Held). Contains ks z) e a)) (λ b. of_second ts qs z (subst (λ (ks : List Held). Contains ks z) f b)) (in_both us vs z c))
    (λ z c. ⊎_elim (λ a. of_first us vs z (subst (λ (ks : List Held). Contains ks z) (sym e) a)) (λ b. of_second us vs z (subst (λ (ks : List Held). Contains ks z) (sym f) b)) (in_both ts qs z c))

-- a key more in the first list
pub more_first : (ts us qs : List Held) (k : Held) → in_set us ≡ insert_key held_cmp (in_set ts) k → in_set (us ++ qs) ≡ insert_key held_cmp (in_set (ts ++ qs)) k
more_first ts us qs k e =
    same_sets (in_set (us ++ qs)) (insert_key held_cmp (in_set (ts ++ qs)) k) (sorted-in_set (us ++ qs)) (sorted-insert_key k (in_set (ts ++ qs)) (sorted-in_set (ts ++ qs)))
    (λ z c. ⊎_elim
    (λ a. ⊎_elim (λ f. subst (Contains (insert_key held_cmp (in_set (ts ++ qs)) k)) f (has-insert k (in_set (ts ++ qs)))) (λ b. keeps-insert k z (in_set (ts ++ qs)) (of_first ts qs z b)) (in-insert k z (in_set ts) (subst (λ (ks : List Held). Contains ks z) e a)))
    (λ b. keeps-insert k z (in_set (ts ++ qs)) (of_second ts qs z b))
    (in_both us qs z c))
    (λ z c. ⊎_elim
    (λ f. of_first us qs z (subst (λ (ks : List Held). Contains ks z) (sym e) (subst (Contains (insert_key held_cmp (in_set ts) k)) f (has-insert k (in_set ts)))))
    (λ a. ⊎_elim (λ b. of_first us qs z (subst (λ (ks : List Held). Contains ks z) (sym e) (keeps-insert k z (in_set ts) b))) (λ b. of_second us qs z b) (in_both ts qs z a))
    (in-insert k z (in_set (ts ++ qs)) c))

-- or in the second
more_second : (ts qs us : List Held) (k : Held) → in_set us ≡ insert_key held_cmp (in_set qs) k → in_set (ts ++ us) ≡ insert_key held_cmp (in_set (ts ++ qs)) k
more_second ts qs us k e =
    same_sets (in_set (ts ++ us)) (insert_key held_cmp (in_set (ts ++ qs)) k) (sorted-in_set (ts ++ us)) (sorted-insert_key k (in_set (ts ++ qs)) (sorted-in_set (ts ++ qs)))
    (λ z c. ⊎_elim
    (λ a. keeps-insert k z (in_set (ts ++ qs)) (of_first ts qs z a))
    (λ b. ⊎_elim (λ f. subst (Contains (insert_key held_cmp (in_set (ts ++ qs)) k)) f (has-insert k (in_set (ts ++ qs)))) (λ d. keeps-insert k z (in_set (ts ++ qs)) (of_second ts qs z d)) (in-insert k z (in_set qs) (subst (λ (ks : List Held). Contains ks z) e b)))
    (in_both ts us z c))
    (λ z c. ⊎_elim
    (λ f. of_second ts us z (subst (λ (ks : List Held). Contains ks z) (sym e) (subst (Contains (insert_key held_cmp (in_set qs) k)) f (has-insert k (in_set qs)))))
    (λ a. ⊎_elim (λ b. of_first ts us z b) (λ b. of_second ts us z (subst (λ (ks : List Held). Contains ks z) (sym e) (keeps-insert k z (in_set qs) b))) (in_both ts qs z a))
    (in-insert k z (in_set (ts ++ qs)) c))

pub more_either : (ts qs us vs : List Held) (k : Held) (b : Bool) → in_set us ≡ cond b (in_set ts) (insert_key held_cmp (in_set ts) k) → in_set vs ≡ cond b (insert_key held_cmp (in_set qs) k) (in_set qs) → in_set (us ++ vs) ≡ insert_key held_cmp (in_set (ts ++ qs)) k
more_either ts qs us vs k true e f = same_both ts vs us vs e refl ∙ more_second ts qs vs k f
more_either ts qs us vs k false e f = same_both us qs us vs refl f ∙ more_first ts us qs k e

-- A ROW
other_quiet : (k q : Held) (is : List ListItem) (r : Bool × Row) (es : List (Held × CellState)) → is_eq (held_cmp k q) ≡ false → IsQuiet es q → IsQuiet (taken_in is k r es) q
other_quiet k q is r es apart h =
    record {
      cell = h.cell;
      there = other_with_cell k q (cell_after is (cell_of (length is) k es) r) (cell_after is (cell_zero (length is)) r) es apart ∙ h.there;
      quiet = h.quiet;
    }

-- a group that took a row is among the touched ones, or it is quiet
pub quiet_either : (is : List ListItem) (k : Held) (r : Bool × Row) (es fs : List (Held × CellState)) (ts qs us vs : List Held) (b : Bool) → in_set us ≡ cond b (in_set ts) (insert_key held_cmp (in_set ts) k) → in_set vs ≡ cond b (insert_key held_cmp (in_set qs) k) (in_set qs)
    → fs ≡ taken_in is k r es → (b ≡ true → IsQuiet fs k) → AreQuiet es ts qs → AreQuiet fs us vs
quiet_either is k r es fs ts qs us vs b e f cells now quiet q c = here (is_eq (held_cmp k q)) refl
  where
    old : (d : Bool) → Contains (cond d (insert_key held_cmp (in_set qs) k) (in_set qs)) q → is_eq (held_cmp k q) ≡ false → Contains qs q
    old true i h =
        ⊎_elim
        (λ s. let g : is_eq (held_cmp k q) ≡ true = ap is_eq (subst (λ (z : Held). held_cmp k z ≡ Equal) s (tied_itself held_order.total k)) in cc)
        (λ j. in_set-in q qs j)
        (in-insert k q (in_set qs) i)
    old false i h = in_set-in q qs i

    kept : (d : Bool) → Contains ts q → Contains (cond d (in_set ts) (insert_key held_cmp (in_set ts) k)) q
    kept true i = among-set ts q i
    kept false i = keeps-insert k q (in_set ts) (among-set ts q i)

    first : Contains (cond b (in_set ts) (insert_key held_cmp (in_set ts) k)) q → Contains us q
    first i = in_set-in q us (subst (λ (ks : List Held). Contains ks q) (sym e) i)

    same : (d : Bool) → (Contains (cond d (in_set ts) (insert_key held_cmp (in_set ts) k)) q → Contains us q) → (d ≡ true → IsQuiet fs k) → k ≡ q → Contains us q ⊎ IsQuiet fs q
    same true to n s = inr (subst (IsQuiet fs) s (n refl))
    same false to n s = inl (to (subst (Contains (insert_key held_cmp (in_set ts) k)) s (has-insert k (in_set ts))))

    here : (d : Bool) → is_eq (held_cmp k q) ≡ d → Contains us q ⊎ IsQuiet fs q
    here true h = same b first now (same_key held_cmp held_order k q h)
    here false h =
        ⊎_elim
        (λ i. inl (first (kept b i)))
        (λ i. inr (subst (λ (xs : List (Held × CellState)). IsQuiet xs q) (sym cells) (other_quiet k q is r es h i)))
        (quiet q (old b (subst (λ (ks : List Held). Contains ks q) f (among-set vs q c)) h))

pub none_quiet : (es : List (Held × CellState)) (ts qs : List Held) → qs ≡ [] → AreQuiet es ts qs
none_quiet es ts qs e k c = let d : Contains [] k = subst (λ (ks : List Held). Contains ks k) e c in absurd (omega (arith, d.1))

-- THE ONE GROUP WITHOUT GROUP BY
whole_first : (ts qs : List Held) → AreWhole (in_set (ts ++ qs)) → AreWhole (in_set ts)
whole_first ts qs a = λ k d lt.
    let z : Held = get_or (in_set ts) k d in
    All-contains (λ (j : Held). j ≡ held []) (in_set (ts ++ qs)) z a (of_first ts qs z (k, lt, get_or_default (in_set ts) k z d lt))

pub whole_gathered : (ts qs : List Held) (b : Bool) → AreWhole (in_set (ts ++ qs)) → AreWhole (cond b (in_set ts) (in_set (ts ++ qs)))
whole_gathered ts qs true a = whole_first ts qs a
whole_gathered ts qs false a = a
