-- What a heartbeat closes of a stream, as a query's input sees it.
use Rattle.std.proofs.Common.{◌≡◌, ◌≢◌, ℕ, zero, suc, ◌+◌, ◌-◌, ◌<◌, ◌≤◌, ◌==◌, ◌&&◌, nat_le, nat_lt, Bool, true, false, cond, ◌⊎◌, inl, inr, ⊎_elim, List, [], ◌∷◌, ◌++◌, filter, flat_map, length, refl, sym, ap, ap₂, ◌∙◌, subst, subst₂, arith, append-nil, append_assoc}
use Rattle.std.specs.List.{AllByRecursion, range_with_len}
use Rattle.std.proofs.lemmas.Bool.{eq-eqb, eqb-true, le-leb, le-ltb, lt-leb, lt-ltb, ne_eqb}
use Rattle.std.proofs.lemmas.List.Elements.{filter-append}
use Rattle.values.specs.Perm.{Perm, same, keep, flip, join}
use Rattle.values.specs.Window.{Element, input_of}
use Rattle.values.proofs.Perms.{perm-append_right, perm-sym, perm-to_front}
use Rattle.op_queue.specs.Logs.{is_shown, shown}
use Rattle.windows.specs.Laws.{Each, IsLater, IsRising}
use Rattle.plan.proofs.Lists.{each-weaken}
use Rattle.stream_store.specs.Closing.{by_instant, by_key}
use Rattle.stream_store.specs.Stored.{IsByArrival}
use Rattle.stream_store.proofs.KeptLemmas.{by_arrival_filter}
use Rattle.laws_dataflow.specs.Windows.{opened}
use Rattle.laws_dataflow.proofs.BeatLemmas.{closed_at}
use Rattle.laws_queries.proofs.WireLemmas.{at_most}

-- ONE INSTANT

same_instant : (place t : ℕ) (es : List Element) → shown place t (filter (λ e. e.instant == t) es) ≡ shown place t es
same_instant place t [] = refl
same_instant place t (e ∷ es) = here (e.instant == t) refl (same_instant place t es)
  where
    here : (b : Bool) → (e.instant == t) ≡ b → shown place t (filter (λ e. e.instant == t) es) ≡ shown place t es → shown place t (cond b (e ∷ filter (λ e. e.instant == t) es) (filter (λ e. e.instant == t) es)) ≡ shown place t (e ∷ es)
    here true h r = ap (cond (is_shown place t e) (e ∷ shown place t (filter (λ e. e.instant == t) es))) r ∙ ap (λ l. cond (is_shown place t e) (e ∷ l) (shown place t es)) r
    here false h r = rw h r

other_instant : (place t a : ℕ) (es : List Element) → a ≢ t → shown place t (filter (λ e. e.instant == a) es) ≡ []
other_instant place t a [] ne = refl
other_instant place t a (e ∷ es) ne = here (e.instant == a) refl (other_instant place t a es ne)
  where
    here : (b : Bool) → (e.instant == a) ≡ b → shown place t (filter (λ e. e.instant == a) es) ≡ [] → shown place t (cond b (e ∷ filter (λ e. e.instant == a) es) (filter (λ e. e.instant == a) es)) ≡ []
    here true h r = let d : (e.instant == t) ≡ false = ne_eqb e.instant t (λ i. ne (sym (eqb-true e.instant a h) ∙ i)) in rw d r
    here false h r = r

unfoldable pub by_instants : ℕ → ℕ → List Element → List Element
by_instants a n es = by_key (λ e. e.instant) a n es

-- of elements that are listed by instant none is shown at other instants
pub shown_out : (place t a n : ℕ) (es : List Element) → (t < a) ⊎ (a + n ≤ t) → shown place t (by_instants a n es) ≡ []
unfolding by_instants
shown_out place t a zero es out = refl
shown_out place t a (suc n) es out =
    filter-append (is_shown place t) (filter (λ e. e.instant == a) es) (by_key (λ e. e.instant) (a + 1) n es)
    ∙ ap₂ (λ x y. x ++ y) (other_instant place t a es (⊎_elim (λ l e. omega (arith, l, e)) (λ g e. omega (arith, g, e)) out))
    (shown_out place t (a + 1) n es (⊎_elim (λ l. inl (omega (arith, l))) (λ g. inr (omega (arith, g))) out))

-- and at theirs they are
shown_in : (place t a n : ℕ) (es : List Element) → a ≤ t → t < a + n → shown place t (by_instants a n es) ≡ shown place t es
unfolding by_instants
shown_in place t a zero es le lt = absurd (omega (arith, le, lt))
shown_in place t a (suc n) es le lt =
    filter-append (is_shown place t) (filter (λ e. e.instant == a) es) (by_key (λ e. e.instant) (a + 1) n es) ∙ at_most a t le
    (λ l. ap₂ (λ x y. x ++ y) (other_instant place t a es (λ e. omega (arith, e, l))) (shown_in place t (a + 1) n es (omega (arith, l)) (omega (arith, lt))))
    (λ e.
    let z : t ≡ a = sym e in
    ap₂ (λ x y. x ++ y) (subst (λ i. shown place t (filter (λ e. e.instant == i) es) ≡ shown place t es) z (same_instant place t es)) (shown_out place t (a + 1) n es (inl (omega (arith, e)))) ∙ append-nil (shown place t es))

-- at an instant that is closed
pub shown_now : (place t start until : ℕ) (es : List Element) → start ≤ t → t < until → shown place t (by_instant start until es) ≡ shown place t es
unfolding by_instants
shown_now place t start until es le lt = shown_in place t start (until - start) es le (omega (arith, le, lt))

all_at : (place t : ℕ) (es : List Element) → AllByRecursion (λ e. e.instant ≡ t) (shown place t es)
all_at place t [] = tt
all_at place t (e ∷ es) = here (e.instant == t) refl (nat_le place e.arrival) (all_at place t es)
  where
    here : (b : Bool) → (e.instant == t) ≡ b → (c : Bool) → AllByRecursion (λ e. e.instant ≡ t) (shown place t es) → AllByRecursion (λ e. e.instant ≡ t) (cond (b && c) (e ∷ shown place t es) (shown place t es))
    here true h true r = (eqb-true _ _ h, r)
    here true h false r = r
    here false h c r = r

-- elements that stand by arrival rise at one instant
later_of : (e : Element) (es : List Element) → AllByRecursion (λ f. e.arrival < f.arrival) es → AllByRecursion (λ f. f.instant ≡ e.instant) es → Each (IsLater e) es
later_of e [] h k = tt
later_of e (f ∷ es) h k =
    let a : nat_lt e.instant f.instant ≡ false = le-ltb e.instant f.instant (omega (arith, k.0)) in
    let b : (e.instant == f.instant) ≡ true = eq-eqb e.instant f.instant (sym k.0) in
    let c : nat_lt e.arrival f.arrival ≡ true = lt-ltb e.arrival f.arrival h.0 in
    (rw (a, b, c) refl, later_of e es h.1 k.1)

inside : (a t n : ℕ) → ((a ≤ t) × (t < a + n)) ⊎ ((t < a) ⊎ (a + n ≤ t))
inside a t n = grind arith

rises_at_one : (t : ℕ) (es : List Element) → IsByArrival es → AllByRecursion (λ e. e.instant ≡ t) es → IsRising es
rises_at_one t [] h k = tt
rises_at_one t (e ∷ es) h k = (later_of e es h.0 (each-weaken (λ f. f.instant ≡ t) (λ f. f.instant ≡ e.instant) (λ f i. i ∙ sym k.0) es k.1), rises_at_one t es h.1 k.1)

-- WHAT IS CLOSED rises at each instant
pub closing_rises : (place t start until : ℕ) (es : List Element) → IsByArrival es → IsRising (shown place t (by_instant start until es))
unfolding by_instants
closing_rises place t start until es h =
    ⊎_elim
    (λ i. subst IsRising (sym (shown_in place t start (until - start) es i.0 i.1)) (rises_at_one t (shown place t es) (by_arrival_filter (is_shown place t) es h) (all_at place t es)))
    (λ o. subst IsRising (sym (shown_out place t start (until - start) es o)) tt)
    (inside start t (until - start))

same_parts : {X : Type 0} (f g : ℕ → List X) (a n : ℕ) → ((k : ℕ) → a ≤ k → k < a + n → f k ≡ g k) → flat_map f (range_with_len a n) ≡ flat_map g (range_with_len a n)
same_parts f g a zero h = refl
same_parts f g a (suc n) h = ap₂ (λ x y. x ++ y) (h a (omega arith) (omega arith)) (same_parts f g (a + 1) n (λ k le lt. h k (omega (arith, le)) (omega (arith, lt))))

closed_same : (place start until near n : ℕ) (es : List Element) → start ≤ near → ((t : ℕ) → near ≤ t → t < near + n → t < until) → closed_at place (by_instant start until es) near n ≡ closed_at place es near n
closed_same place start until near n es le few = same_parts (λ t. shown place t (by_instant start until es)) (λ t. shown place t es) near n (λ t a b. shown_now place t start until es (omega (arith, a, le)) (few t a b))

-- WHAT IS OPEN parts into what is closed and what is open still
skip : (p : Element → Bool) (b : Bool) (e : Element) (xs : List Element) → p e ≡ false → filter p (cond b (e ∷ xs) xs) ≡ filter p xs
skip p true e xs h = rw h refl
skip p false e xs h = refl

three : {A : Type 0} (a b : ℕ) → (a < b → A) → (a ≡ b → A) → (b < a → A) → A
three a b f g h = ⊎_elim f (λ r. ⊎_elim g h r) (let d : (a < b) ⊎ ((a ≡ b) ⊎ (b < a)) = grind arith in d)

module _ (place first c : ℕ) (le : first ≤ c) (e : Element) (xs ys : List Element) where
  -- one element more
  below_part : (a : Bool) → e.instant < c → Perm (opened c xs) (ys ++ opened (c + 1) xs) → Perm (opened c (cond (a && nat_le first e.instant) (e ∷ xs) xs)) (cond ((e.instant == c) && a) (e ∷ ys) ys ++ opened (c + 1) (cond (a && nat_le first e.instant) (e ∷ xs) xs))
  below_part a lt h =
      let p : nat_le c e.instant ≡ false = lt-leb c e.instant lt in
      let r : nat_le (c + 1) e.instant ≡ false = lt-leb (c + 1) e.instant (omega (arith, lt)) in
      let d : (e.instant == c) ≡ false = ne_eqb e.instant c (λ i. omega (arith, i, lt)) in
      subst₂ Perm (sym (skip (λ f. nat_le c f.instant) (a && nat_le first e.instant) e xs p)) (ap₂ (λ x y. x ++ y) (ap (λ b. cond (b && a) (e ∷ ys) ys) (sym d)) (sym (skip (λ f. nat_le (c + 1) f.instant) (a && nat_le first e.instant) e xs r))) h

  at_part : (a : Bool) → e.instant ≡ c → Perm (opened c xs) (ys ++ opened (c + 1) xs) → Perm (opened c (cond (a && nat_le first e.instant) (e ∷ xs) xs)) (cond ((e.instant == c) && a) (e ∷ ys) ys ++ opened (c + 1) (cond (a && nat_le first e.instant) (e ∷ xs) xs))
  at_part false i h = let d : (e.instant == c) ≡ true = eq-eqb e.instant c i in rw d h
  at_part true i h =
      let p : nat_le c e.instant ≡ true = le-leb c e.instant (omega (arith, i)) in
      let f : nat_le first e.instant ≡ true = le-leb first e.instant (omega (arith, i, le)) in
      let r : nat_le (c + 1) e.instant ≡ false = lt-leb (c + 1) e.instant (omega (arith, i)) in
      let d : (e.instant == c) ≡ true = eq-eqb e.instant c i in
      rw (f, d, p, r) (keep e _ _ h)

  past_part : (a : Bool) → c < e.instant → Perm (opened c xs) (ys ++ opened (c + 1) xs) → Perm (opened c (cond (a && nat_le first e.instant) (e ∷ xs) xs)) (cond ((e.instant == c) && a) (e ∷ ys) ys ++ opened (c + 1) (cond (a && nat_le first e.instant) (e ∷ xs) xs))
  past_part false g h = let d : (e.instant == c) ≡ false = ne_eqb e.instant c (λ i. omega (arith, i, g)) in rw d h
  past_part true g h =
      let p : nat_le c e.instant ≡ true = le-leb c e.instant (omega (arith, g)) in
      let f : nat_le first e.instant ≡ true = le-leb first e.instant (omega (arith, g, le)) in
      let r : nat_le (c + 1) e.instant ≡ true = le-leb (c + 1) e.instant (omega (arith, g)) in
      let d : (e.instant == c) ≡ false = ne_eqb e.instant c (λ i. omega (arith, i, g)) in
      rw (f, d, p, r) (join _ _ _ (keep e _ _ h) (perm-sym _ _ (perm-to_front ys e (opened (c + 1) xs))))

part_one : (place first c : ℕ) → first ≤ c → (es : List Element) → Perm (opened c (input_of place first es)) (shown place c es ++ opened (c + 1) (input_of place first es))
part_one place first c le [] = same []
part_one place first c le (e ∷ es) =
    let rest : Perm (opened c (input_of place first es)) (shown place c es ++ opened (c + 1) (input_of place first es)) = part_one place first c le es in
    three e.instant c
    (λ l. below_part place first c le e (input_of place first es) (shown place c es) (nat_le place e.arrival) l rest)
    (λ i. at_part place first c le e (input_of place first es) (shown place c es) (nat_le place e.arrival) i rest)
    (λ g. past_part place first c le e (input_of place first es) (shown place c es) (nat_le place e.arrival) g rest)

pub parts : (place first c k : ℕ) (es : List Element) → first ≤ c → Perm (opened c (input_of place first es)) (closed_at place es c k ++ opened (c + k) (input_of place first es))
parts place first c zero es le = let z : c + 0 ≡ c = omega arith in subst (λ i. Perm (opened c (input_of place first es)) (opened i (input_of place first es))) (sym z) (same (opened c (input_of place first es)))
parts place first c (suc k) es le =
    let z : c + 1 + k ≡ c + suc k = omega arith in
    let rest : Perm (opened (c + 1) (input_of place first es)) (closed_at place es (c + 1) k ++ opened (c + suc k) (input_of place first es)) =
    subst (λ i. Perm (opened (c + 1) (input_of place first es)) (closed_at place es (c + 1) k ++ opened i (input_of place first es))) z (parts place first (c + 1) k es (omega (arith, le))) in
    subst (Perm (opened c (input_of place first es))) (sym (append_assoc (shown place c es) (closed_at place es (c + 1) k) (opened (c + suc k) (input_of place first es))))
    (join _ _ _ (part_one place first c le es) (perm-append_right (shown place c es) _ _ rest))

-- of what a heartbeat closes
pub closing_parts : (place first c until2 start k : ℕ) (es : List Element) → first ≤ c → start ≤ c → ((t : ℕ) → c ≤ t → t < c + k → t < until2)
    → Perm (opened c (input_of place first es)) (closed_at place (by_instant start until2 es) c k ++ opened (c + k) (input_of place first es))
closing_parts place first c until2 start k es le a b =
    subst (λ l. Perm (opened c (input_of place first es)) (l ++ opened (c + k) (input_of place first es))) (sym (closed_same place start until2 c k es a b)) (parts place first c k es le)

pub perm_length : (xs ys : List Element) → Perm xs ys → length xs ≡ length ys
perm_length xs ys (same zs) = refl
perm_length xs ys (keep x us vs h) = ap suc (perm_length us vs h)
perm_length xs ys (flip x y zs) = refl
perm_length xs ys (join us vs zs h k) = perm_length us vs h ∙ perm_length vs zs k
