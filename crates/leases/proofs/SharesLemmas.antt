-- Jobs that are cut into two parts, where what holds of both holds of the whole; and jobs that run
-- one after the other.
use Rattle.std.proofs.Common.{◌≡◌, ◌<◌, ◌≤◌, ◌+◌, ◌-◌, ◌++◌, ⊎_elim, ℕ, zero, suc, List, [], ◌∷◌, length, get_or, set, refl, sym, ap, ◌∙◌, subst, arith, length-append}
use Rattle.std.proofs.lemmas.Bool.{cases_lt}
use Rattle.std.proofs.lemmas.Grind.{get_or-set_at}
use Rattle.std.proofs.lemmas.List.{get_or-set_other, get_or_default, length-set}
use Rattle.reference.specs.Machine.{Stream}
use Rattle.leases.specs.Jobs.{HasRunJob, HaveRunJobs, MayRunJob, MayRunJobs}
use Rattle.leases.specs.declared.registered.Registration.{Registration}
use Rattle.leases.specs.declared.state.jobs.Job.{Job}
use Rattle.leases.specs.declared.state.jobs.Quota.{Quota}

front_at : (xs ys : List Job) (i : ℕ) (d : Job) → i < length xs → get_or (xs ++ ys) i d ≡ get_or xs i d
front_at [] ys i d lt = absurd (omega (arith, lt))
front_at (x ∷ xs) ys zero d lt = refl
front_at (x ∷ xs) ys (suc i) d lt = front_at xs ys i d (omega (arith, lt))

back_at : (xs ys : List Job) (i n : ℕ) (d : Job) → n ≡ length xs + i → get_or (xs ++ ys) n d ≡ get_or ys i d
back_at [] ys i n d is = ap (λ k. get_or ys k d) (let z : n ≡ i = omega (arith, is) in z)
back_at (x ∷ xs) ys i zero d is = absurd (omega (arith, is))
back_at (x ∷ xs) ys i (suc n) d is = back_at xs ys i n d (omega (arith, is))

-- each part may run
pub may_front : (streams : List Stream) (all : List Registration) (js a b : List Job) → js ≡ a ++ b → MayRunJobs streams all js → MayRunJobs streams all a
may_front streams all js a b e may i j lt is =
    let many : length js ≡ length a + length b = ap length e ∙ length-append a b in
    may i j (omega (arith, lt, many)) (is ∙ sym (ap (λ z. get_or z i j) e ∙ front_at a b i j lt))

pub may_back : (streams : List Stream) (all : List Registration) (js a b : List Job) → js ≡ a ++ b → MayRunJobs streams all js → MayRunJobs streams all b
may_back streams all js a b e may i j lt is =
    let many : length js ≡ length a + length b = ap length e ∙ length-append a b in
    may (length a + i) j (omega (arith, lt, many)) (is ∙ sym (ap (λ z. get_or z (length a + i) j) e ∙ back_at a b i (length a + i) j refl))

-- both have run
pub both_shares : (streams : List Stream) (quota : Quota) (js a b a2 b2 : List Job) → js ≡ a ++ b → HaveRunJobs streams quota a a2 → HaveRunJobs streams quota b b2 → HaveRunJobs streams quota js (a2 ++ b2)
both_shares streams quota js a b a2 b2 e one two = record {
  many = length-append a2 b2 ∙ (let z : length a2 + length b2 ≡ length a + length b = omega (arith, one.many, two.many) in z) ∙ sym (ap length e ∙ length-append a b);
  each = λ i d lt. ⊎_elim
      (λ (less : i < length a).
      subst (λ x. HasRunJob streams quota x (get_or (a2 ++ b2) i d)) (sym (ap (λ z. get_or z i d) e ∙ front_at a b i d less))
      (subst (HasRunJob streams quota (get_or a i d)) (sym (front_at a2 b2 i d (omega (arith, less, one.many)))) (one.each i d less)))
      (λ (most : length a ≤ i).
      let k : ℕ = i - length a in
      let at : i ≡ length a + k = omega (arith, most) in
      let at2 : i ≡ length a2 + k = omega (arith, most, one.many) in
      let many : length js ≡ length a + length b = ap length e ∙ length-append a b in
      let within : k < length b = omega (arith, lt, many, most) in
      subst (λ x. HasRunJob streams quota x (get_or (a2 ++ b2) i d)) (sym (ap (λ z. get_or z i d) e ∙ back_at a b k i d at))
      (subst (HasRunJob streams quota (get_or b k d)) (sym (back_at a2 b2 k i d at2)) (two.each k d within)))
      (cases_lt i (length a));
}

-- ONE AFTER THE OTHER: the jobs before a place have run, and the others are as they were
pub record HaveSomeRun (streams : List Stream) (quota : Quota) (js js2 : List Job) (k : ℕ) : Type 0 where
  pub many : length js2 ≡ length js
  pub done : (i : ℕ) (d : Job) → i < k → i < length js → HasRunJob streams quota (get_or js i d) (get_or js2 i d)
  pub left : (i : ℕ) (d : Job) → k ≤ i → get_or js2 i d ≡ get_or js i d

pub none_has_run : (streams : List Stream) (quota : Quota) (js : List Job) → HaveSomeRun streams quota js js 0
none_has_run streams quota js = record {
  many = refl;
  done = λ i d before within. absurd (omega (arith, before));
  left = λ i d from. refl;
}

pub all_have_run : (streams : List Stream) (quota : Quota) (js js2 : List Job) (k : ℕ) → length js2 ≤ k → HaveSomeRun streams quota js js2 k → HaveRunJobs streams quota js js2
all_have_run streams quota js js2 k end h = record {
  many = h.many;
  each = λ i d lt. h.done i d (omega (arith, lt, end, h.many)) lt;
}

module _ (streams : List Stream) (quota : Quota) (js js2 : List Job) (k : ℕ) (d0 : Job) where
  pub may_next : (all : List Registration) → k < length js2 → MayRunJobs streams all js → HaveSomeRun streams quota js js2 k → MayRunJob streams all (get_or js2 k d0)
  may_next all lt may h =
      let at : get_or js2 k d0 ≡ get_or js k d0 = h.left k d0 (omega arith) in
      let within : k < length js = omega (arith, lt, h.many) in
      may k (get_or js2 k d0) within (at ∙ get_or_default js k d0 (get_or js2 k d0) within)

  pub one_has_run : (j2 : Job) → k < length js2 → HaveSomeRun streams quota js js2 k → HasRunJob streams quota (get_or js2 k d0) j2 → HaveSomeRun streams quota js (set js2 k j2) (k + 1)
  one_has_run j2 lt h one = record {
    many = length-set js2 k j2 ∙ h.many;
    done = λ i d before within. ⊎_elim
        (λ (less : i < k).
        subst (HasRunJob streams quota (get_or js i d)) (sym (get_or-set_other js2 k i j2 d (λ same. absurd (omega (arith, same, less))))) (h.done i d less within))
        (λ (most : k ≤ i).
        let at : i ≡ k = omega (arith, most, before) in
        let was : get_or js2 k d0 ≡ get_or js i d = h.left k d0 (omega arith) ∙ get_or_default js k d0 d (omega (arith, lt, h.many)) ∙ ap (λ n. get_or js n d) (sym at) in
        subst (HasRunJob streams quota (get_or js i d)) (sym (get_or-set_at js2 k i j2 d at lt)) (subst (λ z. HasRunJob streams quota z j2) was one))
        (cases_lt i k);
    left = λ i d from. get_or-set_other js2 k i j2 d (λ same. absurd (omega (arith, same, from))) ∙ h.left i d (omega (arith, from));
  }
