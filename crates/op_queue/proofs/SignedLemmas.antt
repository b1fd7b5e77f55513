-- Laws of bags and of signed rows.
use Rattle.std.proofs.Common.{inl, inr, ⊎_elim, ◌⊎◌, ℕ, zero, suc, ◌+◌, ◌≤◌, ◌≡◌, List, [], ◌∷◌, ◌++◌, take, length, map, Bool, refl, sym, ap, ◌∙◌, arith, zero-add}
use Rattle.std.proofs.Math.Seq.{take-append-add}
use Rattle.op_queue.specs.Signed.{weigh, gain, loss, up, down, Same, Adds, Legal, Turns}

pub weigh-append : {X : Type 0} (w : X → ℕ) (xs ys : List X) → weigh w (xs ++ ys) ≡ weigh w xs + weigh w ys
unfolding weigh
weigh-append w [] ys = sym (zero-add _)
weigh-append w (x ∷ xs) ys = omega (arith, weigh-append w xs ys)

pub weigh-map : {X Y : Type 0} (w : Y → ℕ) (f : X → Y) (xs : List X) → weigh w (map f xs) ≡ weigh (λ x. w (f x)) xs
unfolding weigh
weigh-map w f [] = refl
weigh-map w f (x ∷ xs) = ap (λ n. w (f x) + n) (weigh-map w f xs)

pub Same-refl : {X : Type 0} (xs : List X) → Same xs xs
Same-refl xs = record { weighs = λ w. refl }

pub Same-sym : {X : Type 0} {xs ys : List X} → Same xs ys → Same ys xs
Same-sym h = record { weighs = λ w. sym (h.weighs w) }

pub Same-trans : {X : Type 0} {xs ys zs : List X} → Same xs ys → Same ys zs → Same xs zs
Same-trans h k = record { weighs = λ w. h.weighs w ∙ k.weighs w }

pub Adds-none : {X : Type 0} {b c : List X} → Same b c → Adds b [] c
unfolding weigh
Adds-none h = record { weighs = λ w. omega (arith, h.weighs w) }

pub Same-from_none : {X : Type 0} {b c : List X} → Adds b [] c → Same b c
unfolding weigh
Same-from_none h = record { weighs = λ w. omega (arith, h.weighs w) }

pub Adds-append : {X : Type 0} {b c d : List X} {xs ys : List (Bool × X)} → Adds b xs c → Adds c ys d → Adds b (xs ++ ys) d
Adds-append {xs = xs} {ys = ys} h k = record { weighs = λ w. omega (arith, h.weighs w, k.weighs w, weigh-append (gain w) xs ys, weigh-append (loss w) xs ys) }

-- what is left of xs ++ ys after xs
pub Adds-rest : {X : Type 0} {b c d : List X} {xs ys : List (Bool × X)} → Adds b xs c → Adds b (xs ++ ys) d → Adds c ys d
Adds-rest {xs = xs} {ys = ys} h k = record { weighs = λ w. omega (arith, h.weighs w, k.weighs w, weigh-append (gain w) xs ys, weigh-append (loss w) xs ys) }

pub Adds-same : {X : Type 0} {b b2 c c2 : List X} {xs : List (Bool × X)} → Same b b2 → Same c c2 → Adds b xs c → Adds b2 xs c2
Adds-same h k a = record { weighs = λ w. omega (arith, h.weighs w, k.weighs w, a.weighs w) }

pub Adds-one : {X : Type 0} {b c d : List X} {xs : List (Bool × X)} → Adds b xs c → Adds b xs d → Same c d
Adds-one h k = record { weighs = λ w. omega (arith, h.weighs w, k.weighs w) }

-- a front of xs ++ ys
pub front : {S : Type 0} (k : ℕ) (xs ys : List S) → (take k (xs ++ ys) ≡ take k xs) ⊎ ((j : ℕ) × (take k (xs ++ ys) ≡ xs ++ take j ys))
front zero xs ys = inl refl
front (suc k) [] ys = inr (suc k, refl)
front (suc k) (x ∷ xs) ys = ⊎_elim (λ e. inl (ap (λ l. x ∷ l) e)) (λ r. inr (r.0, ap (λ l. x ∷ l) r.1)) (front k xs ys)

front_of : {S : Type 0} (k : ℕ) (xs ys : List S) → (j : ℕ) × (take j (xs ++ ys) ≡ take k xs)
front_of zero xs ys = (0, refl)
front_of (suc k) [] ys = (0, refl)
front_of (suc k) (x ∷ xs) ys = (suc (front_of k xs ys).0, ap (λ l. x ∷ l) (front_of k xs ys).1)

pub Legal-append : {X : Type 0} {b c : List X} {xs ys : List (Bool × X)} → Adds b xs c → Legal b xs → Legal c ys → Legal b (xs ++ ys)
Legal-append {b = b} {c = c} {xs = xs} {ys = ys} a h k = record { fits = λ w i. ⊎_elim (λ e. rw e (h.fits w i)) (λ r. rw r.1 (omega (arith, a.weighs w, k.fits w r.0, weigh-append (gain w) xs (take r.0 ys), weigh-append (loss w) xs (take r.0 ys)))) (front i xs ys) }

pub Legal-front : {X : Type 0} {b : List X} (xs ys : List (Bool × X)) → Legal b (xs ++ ys) → Legal b xs
Legal-front xs ys h = record { fits = λ w i. rw (← (front_of i xs ys).1) (h.fits w (front_of i xs ys).0) }

pub Legal-rest : {X : Type 0} {b c : List X} {xs ys : List (Bool × X)} → Adds b xs c → Legal b (xs ++ ys) → Legal c ys
Legal-rest {xs = xs} {ys = ys} a h = record { fits = λ w i. omega (arith, a.weighs w, rw take-append-add at (h.fits w (length xs + i)), weigh-append (gain w) xs (take i ys), weigh-append (loss w) xs (take i ys)) }

pub Legal-none : {X : Type 0} {b : List X} → Legal b []
unfolding weigh
Legal-none {X = X} {b = b} = record { fits = λ w i. nothing w i }
  where
    nothing : (w : X → ℕ) (i : ℕ) → down w (take i []) ≤ up w (take i []) + weigh w b
    nothing w zero = omega arith
    nothing w (suc i) = omega arith

pub Legal-same : {X : Type 0} {b c : List X} {xs : List (Bool × X)} → Same b c → Legal b xs → Legal c xs
Legal-same s h = record { fits = λ w i. omega (arith, s.weighs w, h.fits w i) }

pub Turns-none : {X : Type 0} {b c : List X} → Same b c → Turns b [] c
Turns-none h = record { adds = Adds-none h; legal = Legal-none }

pub Turns-append : {X : Type 0} {b c d : List X} {xs ys : List (Bool × X)} → Turns b xs c → Turns c ys d → Turns b (xs ++ ys) d
Turns-append h k = record { adds = Adds-append h.adds k.adds; legal = Legal-append h.adds h.legal k.legal }

pub Turns-rest : {X : Type 0} {b c d : List X} {xs ys : List (Bool × X)} → Adds b xs c → Turns b (xs ++ ys) d → Turns c ys d
Turns-rest a h = record { adds = Adds-rest a h.adds; legal = Legal-rest a h.legal }

pub Turns-same : {X : Type 0} {b b2 c c2 : List X} {xs : List (Bool × X)} → Same b b2 → Same c c2 → Turns b xs c → Turns b2 xs c2
Turns-same h k m = record { adds = Adds-same h k m.adds; legal = Legal-same h m.legal }
