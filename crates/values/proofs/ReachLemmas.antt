-- Which instants a window shows, when it moves, and which instants it still needs: the first and the last that it shows never fall.
use Rattle.std.proofs.Common.{◌≡◌, ℕ, zero, suc, ◌+◌, ◌-◌, ◌*◌, ◌/◌, ◌≤◌, ◌<◌, Bool, true, false, min, max, not, ◌&&◌, ◌||◌, nat_lt, nat_le, refl, ap, sym, ◌∙◌, subst, arith, ◌⊎◌, inl, inr, ltb-true, ltb-false, le-leb, leb-true, leb-false, eqb-true, eq-eqb, true≢false, mul-le-mul, le_refl}
use Rattle.std.proofs.lemmas.Bool.{cases_lt, lt-leb}
use Rattle.std.proofs.lemmas.Bool.Decides.{nat_tests}
use Rattle.std.proofs.lemmas.Nat.{le-div}
use Rattle.std.proofs.Math.Nat.{div-lt_iff_lt-mul, div-mul-le_self, div-zero, mul-div_left, mul-le-mul_right, suc-mul}
use Rattle.values.specs.Reach.{reaches, still_reaches}
use Rattle.values.specs.Moving.{HasStep, at_once, moves, needs, oldest}
use Rattle.values.specs.declared.reach.Reach.{Reach}
use Rattle.values.specs.declared.reach.Reach.TheVariants.{All, Last, Steps}

-- ---- tests
and_true : (a b : Bool) → (a && b) ≡ true → (a ≡ true) × (b ≡ true)
and_true true true h = (refl, refl)
and_true true false h = cc
and_true false b h = cc

and_both : (a b : Bool) → a ≡ true → b ≡ true → (a && b) ≡ true
and_both true true h k = refl
and_both true false h k = cc
and_both false b h k = cc

and_false : (a b : Bool) → b ≡ false → (a && b) ≡ false
and_false true b h = h
and_false false b h = refl

or_right : (a b : Bool) → b ≡ true → (a || b) ≡ true
or_right true b h = refl
or_right false b h = h

or_left : (a b : Bool) → a ≡ true → (a || b) ≡ true
or_left true b h = refl
or_left false b h = cc

either : (a b : Bool) → (a || b) ≡ true → (a ≡ true) ⊎ (b ≡ true)
either true b h = inl refl
either false b h = inr h

-- ---- multiples
multiple_le : (t l : ℕ) → t / l * l ≤ t
multiple_le t zero = omega arith
multiple_le t (suc l) = let h : 0 < suc l = omega arith in omega arith

-- a multiple is not above the last one of a later instant
multiple_stays : (t u l : ℕ) → t / l * l ≡ t → t ≤ u → t ≤ u / l * l
multiple_stays t u zero e h = omega (arith, e)
multiple_stays t u (suc l) e h =
    let q : t / suc l ≤ u / suc l = le-div (t / suc l) u (suc l) (omega arith) (omega (arith, e, h)) in
    let m : t / suc l * suc l ≤ u / suc l * suc l = mul-le-mul q (le_refl (suc l)) in
    omega (arith, e, m)

-- at an instant that is none, the last one is that of the instant before
multiple_before : (u l : ℕ) → (suc u / l * l ≡ suc u → ⊥) → suc u / l * l ≡ u / l * l
multiple_before u zero n = omega arith
multiple_before u (suc l) n =
    let below : suc u / suc l * suc l ≤ suc u = multiple_le (suc u) (suc l) in
    let less : suc u / suc l * suc l ≤ u = here (suc u / suc l * suc l) below n in
    let a : suc u / suc l ≤ u / suc l = le-div (suc u / suc l) u (suc l) (omega arith) less in
    let b : u / suc l ≤ suc u / suc l = le-div (u / suc l) (suc u) (suc l) (omega arith) (omega (arith, multiple_le u (suc l))) in
    let e : suc u / suc l ≡ u / suc l = omega (arith, a, b) in
    ap (λ k. k * suc l) e
  where
    here : (m : ℕ) → m ≤ suc u → (m ≡ suc u → ⊥) → m ≤ u
    here m h k = elim (cases_lt m (suc u)) [ inl l ↦ omega (arith, l) | inr g ↦ absurd (k (omega (arith, h, g))) ]

-- a multiple at u or later is that of t, or the next one, or later
multiples : (t u l : ℕ) → t ≤ u → (u / l ≡ t / l) ⊎ (t / l + 1 ≤ u / l)
multiples t u zero h = inl (div-zero u ∙ sym (div-zero t))
multiples t u (suc l) h = order (t / suc l) (u / suc l) (le-div (t / suc l) u (suc l) (omega arith) (omega (arith, h, div-mul-le_self t (suc l))))
  where
    order : (a b : ℕ) → a ≤ b → (b ≡ a) ⊎ (a + 1 ≤ b)
    order a b i = grind (arith, i)

-- the multiple after this one
after_one : (m l q : ℕ) → m ≡ q * l → m + l ≡ (q + 1) * l
after_one m l q e =
    let o : q + 1 ≡ suc q = omega arith in ap (λ x. x + l) e ∙ sym (ap (λ x. x * l) o ∙ suc-mul q l)

-- ---- WHAT IT SHOWS
-- nothing of a later instant
pub not_reached : (r : Reach) (start t i : ℕ) → t < i → reaches start r t i ≡ false
not_reached All start t i h = lt-leb i t h
not_reached (Last n) start t i h = and_false (nat_le (t - n) i) (nat_le i t) (lt-leb i t h)
not_reached (Steps n l) start t i h =
    let k : nat_le i (t / l * l) ≡ false = lt-leb i (t / l * l) (omega (arith, multiple_le t l, h)) in
    and_false (nat_le start (t / l * l) && nat_le (t / l * l - n) i) (nat_le i (t / l * l)) k

between : (low t i : ℕ) → i ≤ t → (nat_le low i && nat_le i t) ≡ not (nat_lt i low)
between low t i u = here (nat_lt i low) refl
  where
    here : (b : Bool) → nat_lt i low ≡ b → (nat_le low i && nat_le i t) ≡ not b
    here true h = ap (λ c. c && nat_le i t) (lt-leb low i (ltb-true _ _ h))
    here false h = ap (λ c. c && nat_le i t) (le-leb _ _ (ltb-false _ _ h)) ∙ le-leb _ _ u

-- once it has moved it shows what is not past
pub now_shown : (r : Reach) (start t i : ℕ) → moves r t ≡ true → start ≤ t → i ≤ t → reaches start r t i ≡ not (nat_lt i (oldest r t))
now_shown All start t i m b u = absurd (true≢false (sym m))
now_shown (Last n) start t i m b u = between (t - n) t i u
now_shown (Steps n l) start t i m b u =
    let g : ℕ → Bool = λ k. nat_le start k && nat_le (k - n) i && nat_le i k in
    ap g (eqb-true _ _ m) ∙ ap (λ b. b && nat_le (t - n) i && nat_le i t) (le-leb start t b) ∙ between (t - n) t i u

-- later it shows nothing that was past
pub past_gone : (r : Reach) (start t u i : ℕ) → moves r t ≡ true → t < u → not (nat_lt i (oldest r t)) ≡ false → reaches start r u i ≡ false
past_gone All start t u i m lt h = absurd (true≢false (sym m))
past_gone (Last n) start t u i m lt h = here (nat_lt i (t - n)) refl h
  where
    here : (b : Bool) → nat_lt i (t - n) ≡ b → not b ≡ false → (nat_le (u - n) i && nat_le i u) ≡ false
    here true k g = ap (λ c. c && nat_le i u) (lt-leb (u - n) i (omega (arith, ltb-true _ _ k, lt)))
    here false k g = cc
past_gone (Steps n l) start t u i m lt h = here (nat_lt i (t - n)) refl h
  where
    last : ℕ
    last = u / l * l

    above : t ≤ last
    above = multiple_stays t u l (eqb-true _ _ m) (omega (arith, lt))

    gone : (a : Bool) → nat_le (last - n) i ≡ false → (a && nat_le (last - n) i && nat_le i last) ≡ false
    gone true k = ap (λ c. c && nat_le i last) k
    gone false k = refl

    here : (b : Bool) → nat_lt i (t - n) ≡ b → not b ≡ false → reaches start (Steps n l) u i ≡ false
    here true k g = gone (nat_le start last) (lt-leb (last - n) i (omega (arith, ltb-true _ _ k, above)))
    here false k g = cc

-- where rows are shown at once and it does not move, it shows all
pub all_shown : (r : Reach) (start t i : ℕ) → at_once r ≡ true → moves r t ≡ false → i ≤ t → reaches start r t i ≡ true
all_shown All start t i o m u = le-leb _ _ u
all_shown (Last n) start t i o m u = absurd (true≢false m)
all_shown (Steps n l) start t i o m u = absurd (true≢false (sym o))

-- where they wait and it does not move, it shows what it showed at the instant before
pub still_shown : (r : Reach) (start u i : ℕ) → at_once r ≡ false → moves r (suc u) ≡ false → reaches start r (suc u) i ≡ reaches start r u i
still_shown All start u i o m = absurd (true≢false o)
still_shown (Last n) start u i o m = absurd (true≢false o)
still_shown (Steps n l) start u i o m =
    ap (λ k. nat_le start k && nat_le (k - n) i && nat_le i k)
    (multiple_before u l (λ q. true≢false (sym (eq-eqb _ _ q) ∙ m)))

-- it moves at the first instant of all
pub moves_first : (r : Reach) → at_once r ≡ false → moves r 0 ≡ true
moves_first All o = absurd (true≢false o)
moves_first (Last n) o = refl
moves_first (Steps n l) o = eq-eqb (0 / l * l) 0 (let z : 0 / l * l ≤ 0 = multiple_le 0 l in omega (arith, z))

-- none of its rows is past at an instant, so none is before
pub oldest_rises : (r : Reach) (t u : ℕ) → t ≤ u → oldest r t ≤ oldest r u
oldest_rises All t u le = omega arith
oldest_rises (Last n) t u le = omega (arith, le)
oldest_rises (Steps n l) t u le = omega (arith, le)

-- ---- WHAT IT STILL NEEDS
steps_needed : (start n l next t i : ℕ) → next ≤ t + 1 → ((nat_le start (t / l * l) && nat_le (t / l * l - n) i) && nat_le i (t / l * l)) ≡ true → needs start (Steps n l) next i ≡ true
steps_needed start n l next t i h k = here (nat_le next i) refl
  where
    parts : (nat_le start (t / l * l) ≡ true) × ((nat_le (t / l * l - n) i ≡ true) × (nat_le i (t / l * l) ≡ true))
    parts = let a = and_true (nat_le start (t / l * l) && nat_le (t / l * l - n) i) (nat_le i (t / l * l)) k in let b = and_true (nat_le start (t / l * l)) (nat_le (t / l * l - n) i) a.0 in (b.0, (b.1, a.1))

    m : ℕ
    m = next - 1

    same : t / l ≡ m / l → ((nat_le start (m / l * l) && nat_le (m / l * l - n) i) && nat_le i (m / l * l)) ≡ true
    same e = subst (λ z. ((nat_le start (z * l) && nat_le (z * l - n) i) && nat_le i (z * l)) ≡ true) e k

    further : m / l + 1 ≤ t / l → nat_le ((m / l + 1) * l - n) i ≡ true
    further j = le-leb _ i (omega (arith, mul-le-mul_right l j, leb-true (t / l * l - n) i parts.1.0))

    at_mark : (t / l ≡ m / l) ⊎ (m / l + 1 ≤ t / l) → (((nat_le start (m / l * l) && nat_le (m / l * l - n) i) && nat_le i (m / l * l)) || nat_le ((m / l + 1) * l - n) i) ≡ true
    at_mark (inl j) = or_left _ _ (same j)
    at_mark (inr j) = or_right _ _ (further j)

    here : (b : Bool) → nat_le next i ≡ b → (b || (((nat_le start (m / l * l) && nat_le (m / l * l - n) i) && nat_le i (m / l * l)) || nat_le ((m / l + 1) * l - n) i)) ≡ true
    here true j = refl
    here false j = at_mark (multiples m t l (omega (arith, h)))

-- what it shows at the mark or later, it needs
pub reached_needed : (r : Reach) (start next t i : ℕ) → next ≤ t + 1 → reaches start r t i ≡ true → needs start r next i ≡ true
reached_needed All start next t i h k = here (nat_le next i) refl
  where
    here : (b : Bool) → nat_le next i ≡ b → (b || nat_le i (next - 1)) ≡ true
    here true j = refl
    here false j = le-leb i (next - 1) (omega (arith, leb-false next i j))
reached_needed (Last n) start next t i h k = here (nat_le next i) refl
  where
    here : (b : Bool) → nat_le next i ≡ b → (b || (nat_le (next - 1 - n) i && nat_le i (next - 1))) ≡ true
    here true j = refl
    here false j = let a = and_true (nat_le (t - n) i) _ k in
        and_both (nat_le (next - 1 - n) i) _ (le-leb (next - 1 - n) i (omega (arith, leb-true (t - n) i a.0, h))) (le-leb i (next - 1) (omega (arith, leb-false next i j)))
reached_needed (Steps n l) start next t i h k = steps_needed start n l next t i h k

-- it shows the instant i at some instant from the mark on
abbrev pub IsReachedFrom : ℕ → Reach → ℕ → ℕ → Type 0
IsReachedFrom start r next i = (t : ℕ) × ((next ≤ t + 1) × (reaches start r t i ≡ true))

at_next : (start n l m i : ℕ) → 0 < l → start ≤ m + 1 → i ≤ m → nat_le ((m / l + 1) * l - n) i ≡ true → reaches start (Steps n l) ((m / l + 1) * l) i ≡ true
at_next start n l m i some began low h =
    let same : (m / l + 1) * l / l ≡ m / l + 1 = mul-div_left (m / l + 1) some in
    let less : m / l < m / l + 1 = omega arith in
    let past : m < (m / l + 1) * l = (div-lt_iff_lt-mul some).0 less in
    subst (λ z. ((nat_le start (z * l) && nat_le (z * l - n) i) && nat_le i (z * l)) ≡ true) (sym same)
    (and_both _ _ (and_both _ _ (le-leb start ((m / l + 1) * l) (omega (arith, began, past))) h) (le-leb i ((m / l + 1) * l) (omega (arith, low, past))))

-- what it needs below the mark, it shows at the mark or later
pub needed_reached : (r : Reach) (start next i : ℕ) → HasStep r → start ≤ next → i < next → still_reaches start r (next - 1) i ≡ true → IsReachedFrom start r next i
needed_reached All start next i s b l h = (next - 1, (omega arith, h))
needed_reached (Last n) start next i s b l h = (next - 1, (omega arith, h))
needed_reached (Steps n step) start next i s b l h = here (either (reaches start (Steps n step) (next - 1) i) (nat_le (((next - 1) / step + 1) * step - n) i) h)
  where
    past : next - 1 < ((next - 1) / step + 1) * step
    past = let less : (next - 1) / step < (next - 1) / step + 1 = omega arith in (div-lt_iff_lt-mul s).0 less

    here : (reaches start (Steps n step) (next - 1) i ≡ true) ⊎ (nat_le (((next - 1) / step + 1) * step - n) i ≡ true) → IsReachedFrom start (Steps n step) next i
    here (inl k) = (next - 1, (omega arith, k))
    here (inr k) = (((next - 1) / step + 1) * step, (omega (arith, past), at_next start n step (next - 1) i s (omega (arith, b)) (omega (arith, l)) k))

-- ---- THE INSTANTS that the code says it needs
pub all_needs : (first next i : ℕ) → (nat_le first i || (nat_le 0 i && nat_lt i 0)) ≡ (nat_le first i && needs first All next i)
all_needs first next i = grind (arith, nat_tests)

pub last_needs : (first next n since i : ℕ) → since ≡ max first (next - 1 - n) → (nat_le since i || (nat_le 0 i && nat_lt i 0)) ≡ (nat_le first i && needs first (Last n) next i)
last_needs first next n since i e = grind (arith, nat_tests, e)

-- m is the multiple up to the mark, and what the next one shows begins at b
moved_numbers : (first next m n b i : ℕ) → m ≤ next - 1 → first ≤ m
    → (nat_le (max first (min next b)) i || (nat_le (max first (m - n)) i && nat_lt i (m + 1))) ≡ (nat_le first i && (nat_le next i || (((nat_le first m && nat_le (m - n) i) && nat_le i m) || nat_le b i)))
moved_numbers first next m n b i h k = grind (arith, nat_tests)

unmoved_numbers : (first next m n b i : ℕ) → m < first
    → (nat_le (max first (min next b)) i || (nat_le 0 i && nat_lt i 0)) ≡ (nat_le first i && (nat_le next i || (((nat_le first m && nat_le (m - n) i) && nat_le i m) || nat_le b i)))
unmoved_numbers first next m n b i k = grind (arith, nat_tests)

pub moved_needs : (first next n l m since low high i : ℕ) → m ≡ (next - 1) / l * l → m ≤ next - 1 → first ≤ m → since ≡ max first (min next (m + l - n)) → low ≡ max first (m - n) → high ≡ m + 1
    → (nat_le since i || (nat_le low i && nat_lt i high)) ≡ (nat_le first i && needs first (Steps n l) next i)
moved_needs first next n l m since low high i e u f s w h =
    let b : m + l ≡ ((next - 1) / l + 1) * l = after_one m l ((next - 1) / l) e in
    let s2 : since ≡ max first (min next (((next - 1) / l + 1) * l - n)) = s ∙ ap (λ x. max first (min next (x - n))) b in
    ap (λ x. nat_le x i || (nat_le low i && nat_lt i high)) s2
    ∙ ap (λ x. nat_le (max first (min next (((next - 1) / l + 1) * l - n))) i || (nat_le x i && nat_lt i high)) w
    ∙ ap (λ x. nat_le (max first (min next (((next - 1) / l + 1) * l - n))) i || (nat_le (max first (m - n)) i && nat_lt i x)) h
    ∙ moved_numbers first next m n (((next - 1) / l + 1) * l - n) i u f
    ∙ ap (λ x. nat_le first i && (nat_le next i || (((nat_le first x && nat_le (x - n) i) && nat_le i x) || nat_le (((next - 1) / l + 1) * l - n) i))) e

pub unmoved_needs : (first next n l m since i : ℕ) → m ≡ (next - 1) / l * l → m < first → since ≡ max first (min next (m + l - n))
    → (nat_le since i || (nat_le 0 i && nat_lt i 0)) ≡ (nat_le first i && needs first (Steps n l) next i)
unmoved_needs first next n l m since i e f s =
    let b : m + l ≡ ((next - 1) / l + 1) * l = after_one m l ((next - 1) / l) e in
    let s2 : since ≡ max first (min next (((next - 1) / l + 1) * l - n)) = s ∙ ap (λ x. max first (min next (x - n))) b in
    ap (λ x. nat_le x i || (nat_le 0 i && nat_lt i 0)) s2
    ∙ unmoved_numbers first next m n (((next - 1) / l + 1) * l - n) i f
    ∙ ap (λ x. nat_le first i && (nat_le next i || (((nat_le first x && nat_le (x - n) i) && nat_le i x) || nat_le (((next - 1) / l + 1) * l - n) i))) e
