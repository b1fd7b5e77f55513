-- Turns that are out, and what is left of queries, in the lists of the code and in those of the plain engine.
use Rattle.std.proofs.Common.{◌≡◌, ◌≢◌, ◌<◌, ◌==◌, ℕ, zero, suc, Bool, true, false, inl, inr, Some, None, List, [], ◌∷◌, filter, length, map, get_or, set, refl, sym, ap, ◌∙◌, subst, arith, eq-eqb}
use Rattle.std.specs.List.{find}
use Rattle.std.proofs.lemmas.List.{get_or-set_same, length-map, map-set}
use Rattle.plan.proofs.Lists.{by_test}
use Rattle.laws_queries.specs.Plain.{PlainQuery}
use Rattle.laws_engine.specs.Engines.{Dropped, Lease, PlainRemains, Running}
use Rattle.laws_engine.specs.Good.{IsIn}
use Rattle.laws_engine.proofs.SlotLemmas.{in_filter}
use Rattle.leases.specs.Views.{lease_of, remains_of}
use Rattle.turn.specs.declared.turns.Turn.{Turn}
use Rattle.leases.specs.declared.remains.Remains.{Remains}

-- THE TURNS that are out
pub turn_in : (gs : List Turn) (g : Turn) → IsIn gs g → IsIn (map lease_of gs) (lease_of g)
turn_in [] g i = absurd i
turn_in (x ∷ gs) g (inl e) = inl (ap lease_of e)
turn_in (x ∷ gs) g (inr i) = inr (turn_in gs g i)

pub record IsOfTurn (gs : List Turn) (l : Lease) : Type 0 where
  pub turn : Turn
  pub known : IsIn gs turn
  pub is : lease_of turn ≡ l

pub turn_of : (gs : List Turn) (l : Lease) → IsIn (map lease_of gs) l → IsOfTurn gs l
turn_of [] l i = absurd i
turn_of (x ∷ gs) l (inl e) = record { turn = x; known = inl refl; is = e }
turn_of (x ∷ gs) l (inr i) = let r = turn_of gs l i in record { turn = r.turn; known = inr r.known; is = r.is }

-- those that pass a test
pub leases_left : (p : Lease → Bool) (gs : List Turn) → map lease_of (filter (λ g. p (lease_of g)) gs) ≡ filter p (map lease_of gs)
leases_left p [] = refl
leases_left p (g ∷ gs) = by_test (p (lease_of g)) (λ t. rw t (ap (λ z. lease_of g ∷ z) (leases_left p gs))) (λ f. rw f (leases_left p gs))

pub left_in : (test : Turn → Bool) (gs left : List Turn) → left ≡ filter test gs → (g : Turn) → IsIn left g → IsIn gs g
left_in test gs left e g i = (in_filter test gs g (subst (λ z. IsIn z g) e i)).0

-- the first that passes a test
pub found_in : (p : Turn → Bool) (gs : List Turn) (g : Turn) → Some g ≡ find p gs → IsIn gs g × (p g ≡ true)
found_in p [] g e = absurd (cc)
found_in p (x ∷ gs) g e = by_test (p x)
    (λ t. let f : Some g ≡ Some x = rw t at e in let same : x ≡ g = cc in (inl same, ap p (sym same) ∙ t))
    (λ h. let f : Some g ≡ find p gs = rw h at e in let r = found_in p gs g f in (inr r.0, r.1))

pub none_found : (p : Turn → Bool) (gs : List Turn) → None ≡ find p gs → (g : Turn) → IsIn gs g → p g ≡ false
none_found p [] e g i = absurd i
none_found p (x ∷ gs) e g (inl is) = by_test (p x) (λ t. let bad : None ≡ Some x = rw t at e in absurd (cc)) (λ f. ap p (sym is) ∙ f)
none_found p (x ∷ gs) e g (inr i) = by_test (p x) (λ t. let bad : None ≡ Some x = rw t at e in absurd (cc)) (λ f. none_found p gs (rw f at e) g i)

-- none has a number
pub none_numbered : (gs : List Turn) (n : ℕ) → None ≡ find (λ g. g.lease == n) gs → (l : Lease) → IsIn (map lease_of gs) l → l.number ≢ n
none_numbered gs n e l i same =
    let r = turn_of gs l i in
    let no : (r.turn.lease == n) ≡ false = none_found (λ g. g.lease == n) gs e r.turn r.known in
    let is : r.turn.lease ≡ n = ap (λ z. z.number) r.is ∙ same in
    let bad : (r.turn.lease == n) ≡ true = eq-eqb r.turn.lease n is in
    cc

-- WHAT IS LEFT of queries
pub item_remains : (ks : List Remains) (n : ℕ) (d : Remains) (p : PlainQuery) → get_or (map remains_of ks) n Dropped ≡ Running p → remains_of (get_or ks n d) ≡ Running p
item_remains [] n d p e = absurd (cc)
item_remains (k ∷ ks) zero d p e = e
item_remains (k ∷ ks) (suc n) d p e = item_remains ks n d p e

pub item_within : (ks : List Remains) (n : ℕ) (p : PlainQuery) → get_or (map remains_of ks) n Dropped ≡ Running p → n < length ks
item_within [] n p e = absurd (cc)
item_within (k ∷ ks) zero p e = omega arith
item_within (k ∷ ks) (suc n) p e = let h = item_within ks n p e in omega (arith, h)

pub remains_set : (ks : List Remains) (n : ℕ) (k : Remains) → map remains_of (set ks n k) ≡ set (map remains_of ks) n (remains_of k)
remains_set ks n k = map-set remains_of ks n k

pub remains_set_here : (ks : List Remains) (n : ℕ) (k : Remains) → n < length ks → get_or (map remains_of (set ks n k)) n Dropped ≡ remains_of k
remains_set_here ks n k h = ap (λ z. get_or z n Dropped) (remains_set ks n k) ∙ get_or-set_same (map remains_of ks) n (remains_of k) Dropped (omega (arith, h, length-map ks remains_of))

-- one of them is written, at a number that is spelt in two ways
pub remains_written : (ks : List Remains) (n m : ℕ) (k : Remains) (remains : PlainRemains) → n ≡ m → remains_of k ≡ remains → map remains_of (set ks n k) ≡ set (map remains_of ks) m remains
remains_written ks n m k remains same is = remains_set ks n k ∙ ap (λ z. set (map remains_of ks) z (remains_of k)) same ∙ ap (set (map remains_of ks) m) is

pub remains_written_here : (ks : List Remains) (n m : ℕ) (k : Remains) (remains : PlainRemains) (p : PlainQuery) → n ≡ m → get_or (map remains_of ks) m Dropped ≡ Running p → remains_of k ≡ remains → get_or (map remains_of (set ks n k)) n Dropped ≡ remains
remains_written_here ks n m k remains p same running is =
    let at : get_or (map remains_of ks) n Dropped ≡ Running p = ap (λ z. get_or (map remains_of ks) z Dropped) same ∙ running in
    remains_set_here ks n k (item_within ks n p at) ∙ is

pub item_running : (ks : List Remains) (n m : ℕ) (k : Remains) (p : PlainQuery) → n ≡ m → get_or (map remains_of ks) m Dropped ≡ Running p → k ≡ get_or ks n k → remains_of k ≡ Running p
item_running ks n m k p same running is = ap remains_of is ∙ item_remains ks n k p (ap (λ z. get_or (map remains_of ks) z Dropped) same ∙ running)
