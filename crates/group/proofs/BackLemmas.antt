-- What a row that entered leaves behind when it is taken back: nothing.
use Rattle.std.proofs.Common.{◌≡◌, ℕ, ℤ, zero, suc, ◌+◌, ◌-◌, ◌<◌, ◌+ℤ◌, pos, Bool, true, false, cond, nat_lt, Option, Some, None, unwrap_or, List, [], ◌∷◌, length, get_or, refl, sym, ap, ap₂, ◌∙◌, arith, lt-ltb, ltb-true}
use Rattle.std.specs.declared.cmp.Ordering.{Ordering}
use Rattle.std.specs.declared.cmp.Ordering.TheVariants.{Less, Equal, Greater}
use Rattle.std.specs.Ordering.{is_eq, match_ordering}
use Rattle.std.specs.List.{All}
use Rattle.std.specs.List.Sorted.{IsStrictlySortedBy}
use Rattle.std.specs.Option.{IfSome}
use Rattle.std.specs.Map.{lookup, set_value, remove_entry, keys_of, values_of}
use Rattle.std.specs.BTreeMap.{is_at, insert_entry}
use Rattle.std.proofs.lemmas.Int.{ints}
use Rattle.std.proofs.lemmas.Map.Keys.{sorted_tail}
use Rattle.std.proofs.lemmas.Map.Views.{All-values-insert_entry, All-values-set_value, All-map-remove_entry, IfSome-lookup_from_All}
use Rattle.row_bags.proofs.SpreadLemmas.{lookup-below}
use Rattle.values.specs.Orders.{IsExactOrder}
use Rattle.values.specs.Row.{Row, value_cmp}
use Rattle.values.specs.Ranges.{IsAnswerValue}
use Rattle.values.proofs.Order.{value_order}
use Rattle.values.specs.declared.resolved.ListItem.{ListItem}
use Rattle.values.specs.declared.resolved.ListItem.TheVariants.{Key}
use Rattle.group.specs.Cells.{Values, count_of, one_more, one_less, values_by, TallyState, TallyRoom, tally_by, tally_after, tally_zero, partly, keeps, number_of, signed_by}
use Rattle.group.proofs.KeyLemmas.{key_itself, lookup-insert_entry}
use Rattle.group.proofs.RoomLemmas.{first_and, tally_room, tally_room_le}

-- A MAP
module _ {K V : Type 0} (cmp : K → K → Ordering) (order : IsExactOrder cmp) where
  -- an entry that came goes again
  pub gone_again : (k : K) (v : V) (es : List (K × V)) → lookup (is_at (cmp k)) es ≡ None → remove_entry (is_at (cmp k)) (insert_entry cmp es k v) ≡ es
  gone_again k v [] h = ap (λ (b : Bool). cond b [] ((k, v) ∷ [])) (key_itself cmp order k)
  gone_again k v (e ∷ es) h = here (cmp k e.0) refl (gone_again k v es)
    where
      here : (o : Ordering) → cmp k e.0 ≡ o → (lookup (is_at (cmp k)) es ≡ None → remove_entry (is_at (cmp k)) (insert_entry cmp es k v) ≡ es) → remove_entry (is_at (cmp k)) (match_ordering o ((k, v) ∷ e ∷ es) ((e.0, v) ∷ es) (e ∷ insert_entry cmp es k v)) ≡ e ∷ es
      here Less i ih = ap (λ (b : Bool). cond b (e ∷ es) ((k, v) ∷ remove_entry (is_at (cmp k)) (e ∷ es))) (key_itself cmp order k)
      here Equal i ih = let n : Some e.1 ≡ None = sym (ap (λ (o : Ordering). cond (is_eq o) (Some e.1) (lookup (is_at (cmp k)) es)) i) ∙ h in cc
      here Greater i ih =
          ap (λ (o : Ordering). cond (is_eq o) (insert_entry cmp es k v) (e ∷ remove_entry (is_at (cmp k)) (insert_entry cmp es k v))) i
          ∙ ap (λ (fs : List (K × V)). e ∷ fs) (ih (sym (ap (λ (o : Ordering). cond (is_eq o) (Some e.1) (lookup (is_at (cmp k)) es)) i) ∙ h))

module _ {K : Type 0} (cmp : K → K → Ordering) (order : IsExactOrder cmp) where
  -- an entry that was there is written back
  pub back_again : (k : K) (v w : ℕ) (es : List (K × ℕ)) → IsStrictlySortedBy cmp (keys_of es) → lookup (is_at (cmp k)) es ≡ Some w → set_value (is_at (cmp k)) (insert_entry cmp es k v) w ≡ es
  back_again k v w [] s h = cc
  back_again k v w (e ∷ es) s h = here (cmp k e.0) refl (back_again k v w es (sorted_tail cmp e.0 (keys_of es) s))
    where
      inside : (a b : ℕ) → Some a ≡ Some b → a ≡ b
      inside a b i = cc

      here : (o : Ordering) → cmp k e.0 ≡ o → (lookup (is_at (cmp k)) es ≡ Some w → set_value (is_at (cmp k)) (insert_entry cmp es k v) w ≡ es) → set_value (is_at (cmp k)) (match_ordering o ((k, v) ∷ e ∷ es) ((e.0, v) ∷ es) (e ∷ insert_entry cmp es k v)) w ≡ e ∷ es
      here Less i ih = let n : None ≡ Some w = sym (lookup-below cmp order k e es s i) ∙ h in cc
      here Equal i ih =
          let at : e.1 ≡ w = inside e.1 w (sym (ap (λ (o : Ordering). cond (is_eq o) (Some e.1) (lookup (is_at (cmp k)) es)) i) ∙ h) in
          ap (λ (o : Ordering). cond (is_eq o) ((e.0, w) ∷ es) ((e.0, v) ∷ set_value (is_at (cmp k)) es w)) i
          ∙ ap (λ (x : ℕ). (e.0, x) ∷ es) (sym at)
      here Greater i ih =
          ap (λ (o : Ordering). cond (is_eq o) ((e.0, w) ∷ insert_entry cmp es k v) (e ∷ set_value (is_at (cmp k)) (insert_entry cmp es k v) w)) i
          ∙ ap (λ (fs : List (K × ℕ)). e ∷ fs) (ih (sym (ap (λ (o : Ordering). cond (is_eq o) (Some e.1) (lookup (is_at (cmp k)) es)) i) ∙ h))

-- VALUES
count_now : (v : Option ℤ) (n : ℕ) (es : Values) → count_of v (insert_entry value_cmp es v n) ≡ n
count_now v n es =
    ap (λ (o : Option ℕ). unwrap_or o 0) (lookup-insert_entry value_cmp value_order v v n es)
    ∙ ap (λ (b : Bool). unwrap_or (cond b (Some n) (lookup (is_at (value_cmp v)) es)) 0) (key_itself value_cmp value_order v)

less_one : (m : ℕ) → suc m + 1 - 1 ≡ suc m
less_one m = omega arith

pub less_more : (v : Option ℤ) (es : Values) → IsStrictlySortedBy value_cmp (keys_of es) → All (λ m. 0 < m) (values_of es) → one_less v (one_more v es) ≡ es
less_more v es s some =
    ap (λ (n : ℕ). cond (nat_lt 1 n) (set_value (is_at (value_cmp v)) (one_more v es) (n - 1)) (remove_entry (is_at (value_cmp v)) (one_more v es))) (count_now v (count_of v es + 1) es)
    ∙ here (lookup (is_at (value_cmp v)) es) refl (IfSome-lookup_from_All (λ m. 0 < m) (is_at (value_cmp v)) es some)
  where
    here : (o : Option ℕ) → lookup (is_at (value_cmp v)) es ≡ o → IfSome o (λ m. 0 < m)
        → cond (nat_lt 1 (unwrap_or o 0 + 1)) (set_value (is_at (value_cmp v)) (insert_entry value_cmp es v (unwrap_or o 0 + 1)) (unwrap_or o 0 + 1 - 1)) (remove_entry (is_at (value_cmp v)) (insert_entry value_cmp es v (unwrap_or o 0 + 1))) ≡ es
    here None e l = gone_again value_cmp value_order v 1 es e
    here (Some zero) e l = absurd (omega (arith, l))
    here (Some (suc m)) e l =
        ap (λ (b : Bool). cond b (set_value (is_at (value_cmp v)) (insert_entry value_cmp es v (suc m + 1)) (suc m + 1 - 1)) (remove_entry (is_at (value_cmp v)) (insert_entry value_cmp es v (suc m + 1)))) (lt-ltb 1 (suc m + 1) (omega arith))
        ∙ ap (λ (n : ℕ). set_value (is_at (value_cmp v)) (insert_entry value_cmp es v (suc m + 1)) n) (less_one m)
        ∙ back_again value_cmp value_order v (suc m + 1) (suc m) es s e

-- none is there no times
pub values_some : (enters kept : Bool) (v : Option ℤ) (es : Values) → All (λ m. 0 < m) (values_of es) → All (λ m. 0 < m) (values_of (cond kept (values_by enters v es) es))
values_some enters false v es h = h
values_some true true v es h = All-values-insert_entry value_cmp v (count_of v es + 1) (λ m. 0 < m) es h (omega arith)
values_some false true v es h = here (nat_lt 1 (count_of v es)) refl
  where
    here : (b : Bool) → nat_lt 1 (count_of v es) ≡ b → All (λ m. 0 < m) (values_of (cond b (set_value (is_at (value_cmp v)) es (count_of v es - 1)) (remove_entry (is_at (value_cmp v)) es)))
    here true e = All-values-set_value (is_at (value_cmp v)) (λ m. 0 < m) es (count_of v es - 1) h (omega (arith, ltb-true 1 (count_of v es) e))
    here false e = All-map-remove_entry (is_at (value_cmp v)) (λ e. e.1) (λ m. 0 < m) es h

-- A TALLY
there_and_back : (z d : ℤ) → (z +ℤ signed_by true d) +ℤ signed_by false d ≡ z
there_and_back z d = omega (arith, ints)

pub tally_back : (kept : Bool) (v : Option ℤ) (t : TallyState) → (kept ≡ true → one_less v (one_more v t.values) ≡ t.values) → tally_by false kept v (tally_by true kept v t) ≡ t
tally_back kept None t h = refl
tally_back true (Some z) t h =
    ap₂ (λ (n s : ℤ). record { numbers = n; total = s; values = one_less (Some z) (one_more (Some z) t.values) }) (there_and_back t.numbers (pos 1)) (there_and_back t.total z)
    ∙ ap (λ (vs : Values). record { numbers = t.numbers; total = t.total; values = vs }) (h refl)
tally_back false (Some z) t h = ap₂ (λ (n s : ℤ). record { numbers = n; total = s; values = t.values }) (there_and_back t.numbers (pos 1)) (there_and_back t.total z)

-- THE TALLIES OF A GROUP
-- the first p are taken back
pub partly-back : (r : Row) (p : ℕ) (is : List ListItem) (ts : List TallyState) → length ts ≡ length is
    → ((k : ℕ) → k < p → tally_after (false, r) (get_or is k (Key 0)) (tally_after (true, r) (get_or is k (Key 0)) (get_or ts k tally_zero)) ≡ get_or ts k tally_zero)
    → partly (tally_after (false, r)) p is (partly (tally_after (true, r)) p is ts) ≡ ts
partly-back r zero is ts l h = refl
partly-back r (suc p) [] ts l h = refl
partly-back r (suc p) (i ∷ is) [] l h = refl
partly-back r (suc p) (i ∷ is) (t ∷ ts) l h = ap₂ (λ (u : TallyState) (us : List TallyState). u ∷ us) (h 0 (omega arith)) (partly-back r p is ts (omega (arith, l)) (λ k lt. h (suc k) (omega (arith, lt))))

-- room where the first p took a row
pub partly-room : (n : ℕ) (s : Bool × Row) (p : ℕ) (is : List ListItem) (ts : List TallyState)
    → ((k : ℕ) → k < p → IsAnswerValue (number_of (get_or is k (Key 0)) s.1)) → All (TallyRoom n) ts → All (TallyRoom (n + 1)) (partly (tally_after s) p is ts)
partly-room n s zero is ts h a = λ k d lt. tally_room_le n (n + 1) _ (omega arith) (a k d lt)
partly-room n s (suc p) [] ts h a = λ k d lt. tally_room_le n (n + 1) _ (omega arith) (a k d lt)
partly-room n s (suc p) (i ∷ is) [] h a = λ k d lt. absurd (omega (arith, lt))
partly-room n s (suc p) (i ∷ is) (t ∷ ts) h a =
    first_and (TallyRoom (n + 1)) (tally_after s i t) (partly (tally_after s) p is ts)
    (tally_room n s.0 (keeps i) (number_of i s.1) t (h 0 (omega arith)) (a 0 t (omega arith)))
    (partly-room n s p is ts (λ j lj. h (suc j) (omega (arith, lj))) (λ j e lj. a (suc j) e (omega (arith, lj))))
