-- What clients call leaves an engine whole.
use Rattle.std.proofs.Common.{◌≡◌, ℕ, zero, suc, ℤ, Option, Result, Ok, Err, OnOk, OnErr, List, [], ◌∷◌, ◌++◌, get_or, inl, inr, ◌⊎◌, ⊎_elim, refl, sym, ap, ◌∙◌, subst}
use Rattle.values.specs.Row.{Row}
use Rattle.reference.specs.Commands.{change}
use Rattle.reference.specs.Machine.{Registered}
use Rattle.reference.specs.declared.fault.Fault.{Fault}
use Rattle.reference.specs.declared.fault.Fault.TheVariants as fault
use Rattle.reference.specs.declared.fault.Fault.TheVariants.{Query, BadName, NameTaken, BadColumns, TooMany, UnknownStream, UnknownQuery, BadWidth, ValueRange, InstantRange, Late, Backward, Leap, StreamFull, BadLimit, UnknownLease, Stranger, TooManyLeases, HistoryFull, OutOfMemory, Foreign}
use Rattle.laws_queries.specs.Plain.{PlainQuery}
use Rattle.laws_engine.specs.Calls.{dropped, of_others, registered, remains_after, taken}
use Rattle.laws_engine.specs.Engines.{Broken, Dropped, PlainEngine, PlainRemains, Running}
use Rattle.leases.specs.Registering.{Registers}
use Rattle.leases.specs.Takes.{Takes, count_of}
use Rattle.leases.specs.Whole.{IsWholeEngine}

-- a call that is refused changes nothing
pub whole_by : {A : Type 0} (r : Result A Fault) (old made new : PlainEngine) → OnOk r (new ≡ made) → OnErr r (new ≡ old) → (IsWholeEngine old → IsWholeEngine made) → IsWholeEngine old → IsWholeEngine new
whole_by (Ok a) old made new ok err h w = subst IsWholeEngine (sym ok) (h w)
whole_by (Err f) old made new ok err h w = subst IsWholeEngine (sym err) w

-- one that leaves the queries' operators and the turns as they are
pub whole_same : {A : Type 0} (r : Result A Fault) (old made new : PlainEngine) → OnOk r (new ≡ made) → OnErr r (new ≡ old) → made.leases ≡ old.leases → made.queries ≡ old.queries → IsWholeEngine old → IsWholeEngine new
whole_same r old made new ok err leases queries =
    whole_by r old made new ok err (λ w. record { returned = leases ∙ w.returned; unbroken = λ n answers upto h. w.unbroken n answers upto (ap (λ ks. get_or ks n Dropped) (sym queries) ∙ h) })

-- A REGISTRATION: one more runs
unbroken_more : (ks : List PlainRemains) (n : ℕ) (p : PlainQuery) (answers : List (ℕ × Row)) (upto : ℕ) → get_or (ks ++ Running p ∷ []) n Dropped ≡ Broken answers upto → get_or ks n Dropped ≡ Broken answers upto
unbroken_more [] zero p answers upto h = absurd (cc)
unbroken_more [] (suc n) p answers upto h = h
unbroken_more (k ∷ ks) zero p answers upto h = h
unbroken_more (k ∷ ks) (suc n) p answers upto h = unbroken_more ks n p answers upto h

registered_whole : (e : PlainEngine) (q : Registered) (p : PlainQuery) → IsWholeEngine e → IsWholeEngine (registered e q p)
registered_whole e q p w = record { returned = w.returned; unbroken = λ n answers upto h. w.unbroken n answers upto (unbroken_more e.queries n p answers upto h) }

pub registration_whole : (r : Result ℕ Fault) (old new : PlainEngine) (name text : List ℕ) (chart : Option (List (ℤ × ℤ)))
    → OnOk r (Registers old name text chart new) → OnErr r (new ≡ old) → IsWholeEngine old → IsWholeEngine new
registration_whole (Ok a) old new name text chart ok err w = subst IsWholeEngine (sym ok.1.1.1) (registered_whole old ok.0 ok.1.0 w)
registration_whole (Err f) old new name text chart ok err w = subst IsWholeEngine (sym err) w

-- A DROP
unbroken_dropped : (ks : List PlainRemains) (i n : ℕ) (answers : List (ℕ × Row)) (upto : ℕ) → get_or (change i (λ remains. Dropped) ks) n Dropped ≡ Broken answers upto → get_or ks n Dropped ≡ Broken answers upto
unbroken_dropped [] i n answers upto h = h
unbroken_dropped (k ∷ ks) zero zero answers upto h = absurd (cc)
unbroken_dropped (k ∷ ks) zero (suc n) answers upto h = h
unbroken_dropped (k ∷ ks) (suc i) zero answers upto h = h
unbroken_dropped (k ∷ ks) (suc i) (suc n) answers upto h = unbroken_dropped ks i n answers upto h

pub dropped_whole : (e : PlainEngine) (n : ℕ) → IsWholeEngine e → IsWholeEngine (dropped e n)
dropped_whole e n w = record { returned = ap (of_others n) w.returned; unbroken = λ j answers upto h. w.unbroken j answers upto (unbroken_dropped e.queries n j answers upto h) }

-- A TAKE
abbrev IsBrokenSo : PlainRemains → Type 0
IsBrokenSo k = (before : List (ℕ × Row)) × ((upto : ℕ) × (k ≡ Broken before upto))

broken_before : (count : ℕ) (k : PlainRemains) (answers : List (ℕ × Row)) (upto : ℕ) → remains_after count k ≡ Broken answers upto → IsBrokenSo k
broken_before count (Running p) answers upto h = absurd (cc)
broken_before count (Broken before there) answers upto h = (before, (there, refl))
broken_before count Dropped answers upto h = absurd (cc)

taken_before : (count : ℕ) (ks : List PlainRemains) (i n : ℕ) (answers : List (ℕ × Row)) (upto : ℕ) → get_or (change i (remains_after count) ks) n Dropped ≡ Broken answers upto → IsBrokenSo (get_or ks n Dropped)
taken_before count [] i n answers upto h = (answers, (upto, h))
taken_before count (k ∷ ks) zero zero answers upto h = broken_before count k answers upto h
taken_before count (k ∷ ks) zero (suc n) answers upto h = (answers, (upto, h))
taken_before count (k ∷ ks) (suc i) zero answers upto h = (answers, (upto, h))
taken_before count (k ∷ ks) (suc i) (suc n) answers upto h = taken_before count ks i n answers upto h

taken_whole : (e : PlainEngine) (n : ℕ) (limit : ℤ) (count : ℕ) → IsWholeEngine e → IsWholeEngine (taken e n limit count)
taken_whole e n limit count w = record { returned = w.returned; unbroken = λ j answers upto h. let was = taken_before count e.queries n j answers upto h in w.unbroken j was.0 was.1.0 was.1.1 }

pub take_makes : {A : Type 0} (view : A → List (ℤ × Row)) (old : PlainEngine) (n : ℕ) (limit : ℤ) (r : Result A Fault) (new : PlainEngine) → Takes view old n limit r new
    → (new ≡ taken old n limit (count_of old n limit)) ⊎ (new ≡ old)
take_makes view old n limit (Ok rows) new h = inl h.2
take_makes view old n limit (Err fault.Broken) new h = inr h.2
take_makes view old n limit (Err OutOfMemory) new h = inr h.1
take_makes view old n limit (Err (Query x)) new h = inr h.1
take_makes view old n limit (Err BadName) new h = inr h.1
take_makes view old n limit (Err NameTaken) new h = inr h.1
take_makes view old n limit (Err BadColumns) new h = inr h.1
take_makes view old n limit (Err TooMany) new h = inr h.1
take_makes view old n limit (Err UnknownStream) new h = inr h.1
take_makes view old n limit (Err UnknownQuery) new h = inr h.1
take_makes view old n limit (Err BadWidth) new h = inr h.1
take_makes view old n limit (Err ValueRange) new h = inr h.1
take_makes view old n limit (Err InstantRange) new h = inr h.1
take_makes view old n limit (Err Late) new h = inr h.1
take_makes view old n limit (Err Backward) new h = inr h.1
take_makes view old n limit (Err Leap) new h = inr h.1
take_makes view old n limit (Err StreamFull) new h = inr h.1
take_makes view old n limit (Err BadLimit) new h = inr h.1
take_makes view old n limit (Err UnknownLease) new h = inr h.1
take_makes view old n limit (Err Stranger) new h = inr h.1
take_makes view old n limit (Err HistoryFull) new h = inr h.1
take_makes view old n limit (Err (Foreign entries)) new h = inr h.1
take_makes view old n limit (Err TooManyLeases) new h = inr h.1

pub takes_whole : {A : Type 0} (view : A → List (ℤ × Row)) (old : PlainEngine) (n : ℕ) (limit : ℤ) (r : Result A Fault) (new : PlainEngine) → Takes view old n limit r new → IsWholeEngine old → IsWholeEngine new
takes_whole view old n limit r new h w = ⊎_elim
    (λ made. subst IsWholeEngine (sym made) (taken_whole old n limit (count_of old n limit) w))
    (λ same. subst IsWholeEngine (sym same) w)
    (take_makes view old n limit r new h)
