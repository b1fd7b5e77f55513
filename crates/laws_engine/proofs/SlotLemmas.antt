-- Slots of a table, of which one changes or those of a query leave.
use Rattle.std.proofs.Common.{◌≡◌, ◌≢◌, ℕ, ◌<◌, Bool, true, false, not, ◌==◌, ◌||◌, cond, inl, inr, ◌⊎◌, ⊎_elim, Option, Some, None, List, [], ◌∷◌, filter, refl, sym, ap, ap₂, ◌∙◌, subst, eqb-true, eq-eqb}
use Rattle.std.specs.Cmp.{ranks}
use Rattle.column.specs.declared.batch.Side.{Side}
use Rattle.envelope.specs.Fraction.{fraction_cmp}
use Rattle.std.specs.Ordering.{MatchOrdering, bool_cmp, is_eq, match_ordering, nat_cmp, ordering_then, ordering_reverse}
use Rattle.std.specs.declared.cmp.Ordering.{Ordering}
use Rattle.std.specs.declared.cmp.Ordering.TheVariants.{Less, Equal, Greater}
use Rattle.plan.proofs.Lists.{by_test}
use Rattle.run_queue.specs.Slots.{slot_cmp}
use Rattle.run_queue.specs.Changes.{changed, has, put, with_next, without, without_query}
use Rattle.run_queue.specs.declared.slots.Slot.{Slot}
use Rattle.run_queue.proofs.SlotLemmas.{put_ordered, slots_total, without_ordered, without_query_ordered}
use Rattle.laws_engine.specs.Good.{HasSlots, IsIn}

-- LISTS
pub in_filter : {X : Type 0} (p : X → Bool) (xs : List X) (x : X) → IsIn (filter p xs) x → IsIn xs x × (p x ≡ true)
in_filter p [] x h = absurd h
in_filter p (y ∷ ys) x h = by_test (p y)
    (λ t. let g : IsIn (y ∷ filter p ys) x = rw t at h in ⊎_elim (λ e. (inl e, sym (ap p e) ∙ t)) (λ i. let r = in_filter p ys x i in (inr r.0, r.1)) g)
    (λ f. let g : IsIn (filter p ys) x = rw f at h in let r = in_filter p ys x g in (inr r.0, r.1))

pub filter_in : {X : Type 0} (p : X → Bool) (xs : List X) (x : X) → IsIn xs x → p x ≡ true → IsIn (filter p xs) x
filter_in p [] x h t = absurd h
filter_in p (y ∷ ys) x (inl e) t = let s : p y ≡ true = ap p e ∙ t in rw s (inl e)
filter_in p (y ∷ ys) x (inr i) t = let g : IsIn (filter p ys) x = filter_in p ys x i t in by_test (p y) (λ s. rw s (inr g)) (λ f. rw f g)

-- ORDER
then_equal : (o p : Ordering) → ordering_then o p ≡ Equal → (o ≡ Equal) × (p ≡ Equal)
then_equal Less p e = absurd (cc)
then_equal Equal p e = (refl, e)
then_equal Greater p e = absurd (cc)

nat_equal : (a b : ℕ) → nat_cmp a b ≡ Equal → a ≡ b
nat_equal a b e = subst (λ o. MatchOrdering o (a < b) (a ≡ b) (b < a)) e (ranks a b)

-- equal slots are of one operator
same_operator : (a b : Slot) → slot_cmp a b ≡ Equal → (a.query ≡ b.query) × (a.operator ≡ b.operator)
same_operator a b e =
    let one = then_equal (bool_cmp a.is_idle b.is_idle) _ e in
    let two = then_equal (fraction_cmp b.slope.0 a.slope.0) _ one.1 in
    let three = then_equal (nat_cmp a.instant b.instant) _ two.1 in
    let four = then_equal (nat_cmp a.query b.query) (nat_cmp a.operator b.operator) three.1 in
    (nat_equal a.query b.query four.0, nat_equal a.operator b.operator four.1)

itself : (s : Slot) → slot_cmp s s ≡ Equal
itself s = by_turn (slot_cmp s s) (slots_total.antisymm s s) where
  by_turn : (o : Ordering) → o ≡ ordering_reverse o → o ≡ Equal
  by_turn Less e = absurd (cc)
  by_turn Equal e = refl
  by_turn Greater e = absurd (cc)

-- WHAT IS PUT
put_old : (slots : List Slot) (s x : Slot) → IsIn slots x → IsIn (put slots s) x
put_old [] s x h = absurd h
put_old (y ∷ slots) s x h = by_order (slot_cmp s y) h (put_old slots s x) where
  by_order : (o : Ordering) → IsIn (y ∷ slots) x → (IsIn slots x → IsIn (put slots s) x) → IsIn (match_ordering o (s ∷ y ∷ slots) (y ∷ slots) (y ∷ put slots s)) x
  by_order Less h later = inr h
  by_order Equal h later = h
  by_order Greater (inl e) later = inl e
  by_order Greater (inr i) later = inr (later i)

put_cases : (slots : List Slot) (s x : Slot) → IsIn (put slots s) x → IsIn slots x ⊎ (s ≡ x)
put_cases [] s x (inl e) = inr e
put_cases [] s x (inr i) = absurd i
put_cases (y ∷ slots) s x h = by_order (slot_cmp s y) h (put_cases slots s x) where
  by_order : (o : Ordering) → IsIn (match_ordering o (s ∷ y ∷ slots) (y ∷ slots) (y ∷ put slots s)) x → (IsIn (put slots s) x → IsIn slots x ⊎ (s ≡ x)) → IsIn (y ∷ slots) x ⊎ (s ≡ x)
  by_order Less (inl e) later = inr e
  by_order Less (inr i) later = inl i
  by_order Equal i later = inl i
  by_order Greater (inl e) later = inl (inl e)
  by_order Greater (inr i) later = ⊎_elim (λ j. inl (inr j)) (λ e. inr e) (later i)

put_new : (slots : List Slot) (s : Slot) → ((t : Slot) → IsIn slots t → slot_cmp s t ≢ Equal) → IsIn (put slots s) s
put_new [] s none = inl refl
put_new (y ∷ slots) s none = by_order (slot_cmp s y) (none y (inl refl)) (put_new slots s (λ t i. none t (inr i))) where
  by_order : (o : Ordering) → o ≢ Equal → IsIn (put slots s) s → IsIn (match_ordering o (s ∷ y ∷ slots) (y ∷ slots) (y ∷ put slots s)) s
  by_order Less ne later = inl refl
  by_order Equal ne later = absurd (ne refl)
  by_order Greater ne later = inr later

has_in : (slots : List Slot) (s : Slot) → IsIn slots s → has s slots ≡ true
has_in [] s h = absurd h
has_in (y ∷ slots) s (inl e) = let t : is_eq (slot_cmp y s) ≡ true = ap (λ z. is_eq (slot_cmp z s)) e ∙ ap is_eq (itself s) in rw t refl
has_in (y ∷ slots) s (inr i) = let t : has s slots ≡ true = has_in slots s i in by_test (is_eq (slot_cmp y s)) (λ u. rw u refl) (λ f. rw (f, t) refl)

equal_by : (o : Ordering) → is_eq o ≡ true → o ≡ Equal
equal_by Less e = absurd (cc)
equal_by Equal e = refl
equal_by Greater e = absurd (cc)

-- a table has the slots of an operator at its numbers
abbrev pub AreNumbered : (ℕ → ℕ → Option Slot) → Type 0
AreNumbered table = (n k : ℕ) (t : Slot) → table n k ≡ Some t → (t.query ≡ n) × (t.operator ≡ k)

pub numbers : (n k a b : ℕ) → ((n ≡ a) × (k ≡ b)) ⊎ ((n ≢ a) ⊎ (k ≢ b))
numbers n k a b = by_test (n == a) (λ t. by_test (k == b) (λ u. inl (eqb-true n a t, eqb-true k b u)) (λ f. inr (inr (λ e. absurd (let g : (k == b) ≡ true = eq-eqb k b e in cc)))))
    (λ f. inr (inl (λ e. absurd (let g : (n == a) ≡ true = eq-eqb n a e in cc))))

some_slot : {a b : Slot} → Some a ≡ Some b → a ≡ b
some_slot e = cc

none_some : {s : Slot} → None ≡ Some s → ⊥
none_some e = cc

-- ONE OPERATOR has something else to take
module _ (table table2 : ℕ → ℕ → Option Slot) (slots : List Slot) (s : Slot) (next : Option (Side × ℕ)) (h : HasSlots table slots) (named : AreNumbered table)
    (before : table s.query s.operator ≡ Some s) (after : table2 s.query s.operator ≡ Some (with_next s next))
    (others : (n k : ℕ) → (n ≢ s.query) ⊎ (k ≢ s.operator) → table2 n k ≡ table n k) where
  is_there : IsIn slots s
  is_there = h.there s.query s.operator s before

  -- no other slot is of its operator
  alone : (t : Slot) → IsIn (without s slots) t → slot_cmp (with_next s next) t ≢ Equal
  alone t i e =
      let f = in_filter _ slots t i in
      let n = same_operator (with_next s next) t e in
      let at : table s.query s.operator ≡ Some t = ap (λ z. table z s.operator) n.0 ∙ ap (λ z. table t.query z) n.1 ∙ h.only t f.0 in
      let same : s ≡ t = some_slot (sym before ∙ at) in
      let eq : is_eq (slot_cmp t s) ≡ true = ap (λ z. is_eq (slot_cmp z s)) (sym same) ∙ ap is_eq (itself s) in
      let bad : false ≡ true = ap not (sym eq) ∙ f.1 in
      cc

  put_there : (n k : ℕ) (t : Slot) → table2 n k ≡ Some t → IsIn (put (without s slots) (with_next s next)) t
  put_there n k t e = ⊎_elim
      (λ n2. let same : with_next s next ≡ t = some_slot (sym after ∙ ap (λ z. table2 z s.operator) (sym n2.0) ∙ ap (λ z. table2 n z) (sym n2.1) ∙ e) in
      subst (IsIn (put (without s slots) (with_next s next))) same (put_new (without s slots) (with_next s next) alone))
      (λ ne.
      let e2 : table n k ≡ Some t = sym (others n k ne) ∙ e in
      let at = named n k t e2 in
      let differs : is_eq (slot_cmp t s) ≡ false = by_test (is_eq (slot_cmp t s))
      (λ eq. let same = same_operator t s (equal_by _ eq) in absurd (⊎_elim (λ bad. bad (sym at.0 ∙ same.0)) (λ bad. bad (sym at.1 ∙ same.1)) ne)) (λ f. f) in
      put_old (without s slots) (with_next s next) t (filter_in _ slots t (h.there n k t e2) (ap not differs)))
      (numbers n k s.query s.operator)

  put_only : (t : Slot) → IsIn (put (without s slots) (with_next s next)) t → table2 t.query t.operator ≡ Some t
  put_only t i = ⊎_elim
      (λ j.
      let f = in_filter _ slots t j in
      let at : table t.query t.operator ≡ Some t = h.only t f.0 in
      ⊎_elim
      (λ n2.
      let same : s ≡ t = some_slot (sym before ∙ ap (λ z. table z s.operator) (sym n2.0) ∙ ap (λ z. table t.query z) (sym n2.1) ∙ at) in
      let eq : is_eq (slot_cmp t s) ≡ true = ap (λ z. is_eq (slot_cmp z s)) (sym same) ∙ ap is_eq (itself s) in
      let bad : false ≡ true = ap not (sym eq) ∙ f.1 in
      absurd (cc))
      (λ ne. others t.query t.operator ne ∙ at)
      (numbers t.query t.operator s.query s.operator))
      (λ e. subst (λ z. table2 z.query z.operator ≡ Some z) e after)
      (put_cases (without s slots) (with_next s next) t i)

  pub changed_slots : HasSlots table2 (changed s next slots)
  changed_slots =
      let t : has s slots ≡ true = has_in slots s is_there in
      let new : HasSlots table2 (put (without s slots) (with_next s next)) = record {
        ordered = put_ordered (without s slots) (with_next s next) (without_ordered slots s h.ordered);
        there = put_there;
        only = put_only;
      } in
      subst (λ b. HasSlots table2 (cond b (put (without s slots) (with_next s next)) slots)) (sym t) new

-- ONE OPERATOR that was told already is told again
has_one : (slots : List Slot) (s : Slot) → has s slots ≡ true → (t : Slot) × (IsIn slots t × (slot_cmp t s ≡ Equal))
has_one [] s h = absurd (cc)
has_one (y ∷ slots) s h = by_test (is_eq (slot_cmp y s))
    (λ b. (y, (inl refl, equal_by (slot_cmp y s) b)))
    (λ f. let g : has s slots ≡ true = rw f at h in let later = has_one slots s g in (later.0, (inr later.1.0, later.1.1)))

-- equal slots are found alike, and leave alike
same_to : (a b t : Slot) → slot_cmp a b ≡ Equal → slot_cmp t a ≡ slot_cmp t b
same_to a b t e = slots_total.antisymm t a ∙ ap ordering_reverse (slots_total.congr a b t e) ∙ sym (slots_total.antisymm t b)

has_alike : (slots : List Slot) (a b : Slot) → slot_cmp a b ≡ Equal → has a slots ≡ has b slots
has_alike [] a b e = refl
has_alike (t ∷ slots) a b e = ap₂ (λ o there. is_eq o || there) (same_to a b t e) (has_alike slots a b e)

without_alike : (slots : List Slot) (a b : Slot) → slot_cmp a b ≡ Equal → without a slots ≡ without b slots
without_alike [] a b e = refl
without_alike (t ∷ slots) a b e = ap₂ (λ o rest. cond (not (is_eq o)) (t ∷ rest) rest) (same_to a b t e) (without_alike slots a b e)

changed_alike : (slots : List Slot) (a b : Slot) (next : Option (Side × ℕ)) → slot_cmp a b ≡ Equal → with_next a next ≡ with_next b next → changed a next slots ≡ changed b next slots
changed_alike slots a b next e same =
    ap (λ there. cond there (put (without a slots) (with_next a next)) slots) (has_alike slots a b e)
    ∙ ap₂ (λ rest s. cond (has b slots) (put rest s) slots) (without_alike slots a b e) same

pub told_again : (table : ℕ → ℕ → Option Slot) (slots : List Slot) (s : Slot) (next : Option (Side × ℕ)) → HasSlots table slots → AreNumbered table → table s.query s.operator ≡ Some (with_next s next) → HasSlots table (changed s next slots)
told_again table slots s next h named after = by_test (has s slots)
    (λ b.
    let one = has_one slots s b in
    let t : Slot = one.0 in
    let same = same_operator t s one.1.1 in
    let before : table t.query t.operator ≡ Some t = h.only t one.1.0 in
    let is : with_next s next ≡ t = some_slot (sym after ∙ ap (λ z. table z s.operator) (sym same.0) ∙ ap (λ z. table t.query z) (sym same.1) ∙ before) in
    let again : with_next t next ≡ with_next s next = ap (λ z. with_next z next) (sym is) in
    subst (HasSlots table) (changed_alike slots t s next one.1.1 again)
    (changed_slots table table slots t next h named before (before ∙ ap Some (sym (again ∙ is))) (λ n k ne. refl)))
    (λ f. rw f h)

-- A QUERY'S SLOTS leave
pub left_slots : (table table2 : ℕ → ℕ → Option Slot) (slots : List Slot) (query : ℕ) → HasSlots table slots → AreNumbered table → ((k : ℕ) → table2 query k ≡ None) → ((n k : ℕ) → n ≢ query → table2 n k ≡ table n k)
    → HasSlots table2 (without_query query slots)
left_slots table table2 slots query h named none others = record {
  ordered = without_query_ordered slots query h.ordered;
  there = λ n k t e. by_test (n == query)
      (λ b. let at : n ≡ query = eqb-true n query b in absurd (none_some (sym (none k) ∙ ap (λ z. table2 z k) (sym at) ∙ e)))
      (λ f. let ne : n ≢ query = λ z. absurd (let g : (n == query) ≡ true = eq-eqb n query z in cc) in
      let e2 : table n k ≡ Some t = sym (others n k ne) ∙ e in
      let apart : (t.query == query) ≡ false = ap (λ z. z == query) (named n k t e2).0 ∙ f in
      filter_in _ slots t (h.there n k t e2) (ap not apart));
  only = λ t i.
      let f = in_filter _ slots t i in
      let ne : t.query ≢ query = λ z. absurd (let g : (t.query == query) ≡ true = eq-eqb t.query query z in let bad : false ≡ true = ap not (sym g) ∙ f.1 in cc) in
      others t.query t.operator ne ∙ h.only t f.0;
}

-- AN OPERATOR COMES, of which the table had no slot
module _ (table table2 : ℕ → ℕ → Option Slot) (slots : List Slot) (s : Slot) (h : HasSlots table slots) (before : table s.query s.operator ≡ None) (after : table2 s.query s.operator ≡ Some s)
    (others : (n k : ℕ) → (n ≢ s.query) ⊎ (k ≢ s.operator) → table2 n k ≡ table n k) where
  absent : (t : Slot) → IsIn slots t → (s.query ≡ t.query) → (s.operator ≡ t.operator) → ⊥
  absent t i q o = none_some (sym before ∙ ap (λ z. table z s.operator) q ∙ ap (λ z. table t.query z) o ∙ h.only t i)

  come_there : (n k : ℕ) (t : Slot) → table2 n k ≡ Some t → IsIn (put slots s) t
  come_there n k t e = ⊎_elim
      (λ at. let same : s ≡ t = some_slot (sym after ∙ ap (λ z. table2 z s.operator) (sym at.0) ∙ ap (λ z. table2 n z) (sym at.1) ∙ e) in
      subst (IsIn (put slots s)) same (put_new slots s (λ x i c. let n2 = same_operator s x c in absent x i n2.0 n2.1)))
      (λ ne. put_old slots s t (h.there n k t (sym (others n k ne) ∙ e)))
      (numbers n k s.query s.operator)

  come_only : (t : Slot) → IsIn (put slots s) t → table2 t.query t.operator ≡ Some t
  come_only t i = ⊎_elim
      (λ j. ⊎_elim (λ at. absurd (absent t j (sym at.0) (sym at.1))) (λ ne. others t.query t.operator ne ∙ h.only t j) (numbers t.query t.operator s.query s.operator))
      (λ e. subst (λ z. table2 z.query z.operator ≡ Some z) e after)
      (put_cases slots s t i)

  pub come_slots : HasSlots table2 (put slots s)
  come_slots = record { ordered = put_ordered slots s h.ordered; there = come_there; only = come_only }
