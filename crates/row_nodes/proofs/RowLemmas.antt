-- The laws of operators that make at most one row of a row.
use Rattle.std.proofs.Common.{ℕ, zero, suc, ◌+◌, ◌≡◌, List, [], ◌∷◌, map, filter, take, Bool, true, false, cond, refl, sym, ap, ◌∙◌, subst, arith}
use Rattle.values.specs.Row.{Row}
use Rattle.values.specs.Condition.{Condition, truth, is_known_true}
use Rattle.lane_kernels.specs.declared.condition.Step.{Step}
use Rattle.op_queue.specs.Entries.{RowAt}
use Rattle.op_queue.specs.Paths.{rows_in}
use Rattle.op_queue.specs.Signed.{weigh, gain, loss, up, down, Same, Adds, Legal, Turns}
use Rattle.op_queue.proofs.PathLemmas.{rows_in-batch}
use Rattle.op_queue.proofs.SignedLemmas.{weigh-map, Same-refl, Same-sym, Turns-same}
use Rattle.row_nodes.specs.Laws.{RowsLaw, Mean, select_value, project_value}
use Rattle.row_nodes.specs.Project.{projected_row, columns_in}
use Rattle.row_nodes.specs.Select.{is_kept}

-- the weight of the rows that pass
abbrev of_kept : {X : Type 0} → (X → Bool) → (X → ℕ) → X → ℕ
of_kept p w x = cond (p x) (w x) 0

abbrev signed_by : {X : Type 0} → (X → Bool) → Bool × X → Bool
signed_by p s = p s.1

weigh-filter : {X : Type 0} (p : X → Bool) (w : X → ℕ) (xs : List X) → weigh w (filter p xs) ≡ weigh (of_kept p w) xs
unfolding weigh
weigh-filter p w [] = refl
weigh-filter p w (x ∷ xs) = here (p x) (weigh-filter p w xs)
  where
    here : (b : Bool) → weigh w (filter p xs) ≡ weigh (of_kept p w) xs → weigh w (cond b (x ∷ filter p xs) (filter p xs)) ≡ cond b (w x) 0 + weigh (of_kept p w) xs
    here true h = ap (λ n. w x + n) h
    here false h = omega (arith, h)

up-filter : {X : Type 0} (p : X → Bool) (w : X → ℕ) (xs : List (Bool × X)) → up w (filter (signed_by p) xs) ≡ up (of_kept p w) xs
unfolding weigh
up-filter p w [] = refl
up-filter p w ((true, x) ∷ xs) = here (p x) (up-filter p w xs)
  where
    here : (b : Bool) → up w (filter (signed_by p) xs) ≡ up (of_kept p w) xs → up w (cond b ((true, x) ∷ filter (signed_by p) xs) (filter (signed_by p) xs)) ≡ cond b (w x) 0 + up (of_kept p w) xs
    here true h = ap (λ n. w x + n) h
    here false h = omega (arith, h)
up-filter p w ((false, x) ∷ xs) = here (p x) (up-filter p w xs)
  where
    here : (b : Bool) → up w (filter (signed_by p) xs) ≡ up (of_kept p w) xs → up w (cond b ((false, x) ∷ filter (signed_by p) xs) (filter (signed_by p) xs)) ≡ 0 + up (of_kept p w) xs
    here true h = ap (λ n. 0 + n) h
    here false h = omega (arith, h)

down-filter : {X : Type 0} (p : X → Bool) (w : X → ℕ) (xs : List (Bool × X)) → down w (filter (signed_by p) xs) ≡ down (of_kept p w) xs
unfolding weigh
down-filter p w [] = refl
down-filter p w ((true, x) ∷ xs) = here (p x) (down-filter p w xs)
  where
    here : (b : Bool) → down w (filter (signed_by p) xs) ≡ down (of_kept p w) xs → down w (cond b ((true, x) ∷ filter (signed_by p) xs) (filter (signed_by p) xs)) ≡ 0 + down (of_kept p w) xs
    here true h = ap (λ n. 0 + n) h
    here false h = omega (arith, h)
down-filter p w ((false, x) ∷ xs) = here (p x) (down-filter p w xs)
  where
    here : (b : Bool) → down w (filter (signed_by p) xs) ≡ down (of_kept p w) xs → down w (cond b ((false, x) ∷ filter (signed_by p) xs) (filter (signed_by p) xs)) ≡ cond b (w x) 0 + down (of_kept p w) xs
    here true h = ap (λ n. w x + n) h
    here false h = omega (arith, h)

-- a cut of what passes is what passes of a cut
cut_filter : {X : Type 0} (p : X → Bool) (xs : List X) (k : ℕ) → (j : ℕ) × (take k (filter p xs) ≡ filter p (take j xs))
cut_filter p xs zero = (0, refl)
cut_filter p [] (suc k) = (0, refl)
cut_filter p (x ∷ xs) (suc k) = here (p x) refl (cut_filter p xs k) (cut_filter p xs (suc k))
  where
    here : (b : Bool) → p x ≡ b → (j : ℕ) × (take k (filter p xs) ≡ filter p (take j xs)) → (j : ℕ) × (take (suc k) (filter p xs) ≡ filter p (take j xs))
        → (j : ℕ) × (take (suc k) (cond b (x ∷ filter p xs) (filter p xs)) ≡ filter p (take j (x ∷ xs)))
    here true e h i = (suc h.0, ap (λ l. x ∷ l) h.1 ∙ sym (ap (λ c. cond c (x ∷ filter p (take h.0 xs)) (filter p (take h.0 xs))) e))
    here false e h i = (suc i.0, i.1 ∙ sym (ap (λ c. cond c (x ∷ filter p (take i.0 xs)) (filter p (take i.0 xs))) e))

Legal-filter : {X : Type 0} (p : X → Bool) {b : List X} {xs : List (Bool × X)} → Legal b xs → Legal (filter p b) (filter (signed_by p) xs)
Legal-filter p {b = b} {xs = xs} h = record {
  fits = λ w k.
      let c = cut_filter (signed_by p) xs k in
      rw c.1 (omega (arith, h.fits (of_kept p w) c.0, weigh-filter p w b, up-filter p w (take c.0 xs), down-filter p w (take c.0 xs)));
}

pub Turns-filter : {X : Type 0} (p : X → Bool) {b c : List X} {xs : List (Bool × X)} → Turns b xs c → Turns (filter p b) (filter (signed_by p) xs) (filter p c)
Turns-filter p {b = b} {c = c} {xs = xs} h = record {
  adds = record { weighs = λ w. omega (arith, h.adds.weighs (of_kept p w), weigh-filter p w b, weigh-filter p w c, up-filter p w xs, down-filter p w xs) };
  legal = Legal-filter p h.legal;
}

pub Same-filter : {X : Type 0} (p : X → Bool) (b c : List X) → Same b c → Same (filter p b) (filter p c)
Same-filter p b c h = record { weighs = λ w. omega (arith, h.weighs (of_kept p w), weigh-filter p w b, weigh-filter p w c) }

-- ---- each row changed
abbrev change : {X : Type 0} → (X → X) → Bool × X → Bool × X
change f s = (s.0, f s.1)

up-map : {X : Type 0} (f : X → X) (w : X → ℕ) (xs : List (Bool × X)) → up w (map (change f) xs) ≡ up (λ x. w (f x)) xs
up-map f w xs = weigh-map (gain w) (change f) xs

down-map : {X : Type 0} (f : X → X) (w : X → ℕ) (xs : List (Bool × X)) → down w (map (change f) xs) ≡ down (λ x. w (f x)) xs
down-map f w xs = weigh-map (loss w) (change f) xs

cut_map : {A B : Type 0} (f : A → B) (xs : List A) (k : ℕ) → take k (map f xs) ≡ map f (take k xs)
cut_map f xs zero = refl
cut_map f [] (suc k) = refl
cut_map f (x ∷ xs) (suc k) = ap (λ l. f x ∷ l) (cut_map f xs k)

pub Turns-map : {X : Type 0} (f : X → X) {b c : List X} {xs : List (Bool × X)} → Turns b xs c → Turns (map f b) (map (change f) xs) (map f c)
Turns-map f {b = b} {c = c} {xs = xs} h = record {
  adds = record { weighs = λ w. omega (arith, h.adds.weighs (λ x. w (f x)), weigh-map w f b, weigh-map w f c, up-map f w xs, down-map f w xs) };
  legal = record { fits = λ w k. rw (cut_map (change f) xs k) (omega (arith, h.legal.fits (λ x. w (f x)) k, weigh-map w f b, up-map f w (take k xs), down-map f w (take k xs))) };
}

pub Same-map : {X : Type 0} (f : X → X) (b c : List X) → Same b c → Same (map f b) (map f c)
Same-map f b c h = record { weighs = λ w. omega (arith, h.weighs (λ x. w (f x)), weigh-map w f b, weigh-map w f c) }

-- ---- the laws
pub filter_by : {X : Type 0} (p q : X → Bool) → ((x : X) → p x ≡ q x) → (xs : List X) → filter p xs ≡ filter q xs
filter_by p q e [] = refl
filter_by p q e (x ∷ xs) = ap (λ b. cond b (x ∷ filter p xs) (filter p xs)) (e x) ∙ ap (λ l. cond (q x) (x ∷ l) l) (filter_by p q e xs)

pub select_law : (c : Condition) (steps : List Step) (t : ℕ) (xs : List (Bool × Row)) (i i2 o : List Row)
    → Mean steps c → Adds i xs i2 → RowsLaw (select_value c) i xs o (rows_in (map (RowAt t) (filter (is_kept steps) xs))) i2 (select_value c i2)
select_law c steps t xs i i2 o m a =
    let p : Row → Bool = λ r. is_known_true (truth c (r ∷ [])) in
    let e : rows_in (map (RowAt t) (filter (is_kept steps) xs)) ≡ filter (signed_by p) xs =
    rows_in-batch t (filter (is_kept steps) xs) ∙ filter_by (is_kept steps) (signed_by p) (λ s. ap is_known_true (m.means s.1)) xs in
    record {
      took = λ h. a;
      puts = λ h s. subst (λ ys. Turns o ys (filter p i2)) (sym e) (Turns-same (Same-sym s) (Same-refl _) (Turns-filter p (record { adds = a; legal = h })));
      shows = λ h s. Same-refl _;
    }

pub project_law : (columns : List ℕ) (t : ℕ) (xs : List (Bool × Row)) (i i2 o : List Row)
    → Adds i xs i2 → RowsLaw (project_value columns) i xs o (rows_in (map (RowAt t) (map (projected_row columns) xs))) i2 (project_value columns i2)
project_law columns t xs i i2 o a =
    let f : Row → Row = columns_in columns in
    let e : rows_in (map (RowAt t) (map (projected_row columns) xs)) ≡ map (change f) xs = rows_in-batch t (map (projected_row columns) xs) in
    record {
      took = λ h. a;
      puts = λ h s. subst (λ ys. Turns o ys (map f i2)) (sym e) (Turns-same (Same-sym s) (Same-refl _) (Turns-map f (record { adds = a; legal = h })));
      shows = λ h s. Same-refl _;
    }
