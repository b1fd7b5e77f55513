-- The steps of a world are steps of its machine.
use Rattle.std.proofs.Common.{◌≡◌, ◌∙◌, ℕ, ℤ, Option, Some, None, Result, Ok, Err, List, [], ◌++◌, length, take, drop, min, nat_abs, refl, sym, ap, subst, arith}
use Rattle.std.proofs.lemmas.List.{take-append-le, length-take-le, length-map}
use Rattle.values.specs.Row.{Row}
use Rattle.reference.specs.declared.fault.Fault.{Fault}
use Rattle.reference.specs.Machine.{Machine, Registered, query_at, closed_answers}
use Rattle.reference.specs.Commands.{Declare, Register, Append, Heartbeat, Take, Drop, first_fault, after, of_query, take_tests}
use Rattle.reference.specs.Replies.{Number, Done, Rows}
use Rattle.reference.specs.Steps.{AreNext, IsStep}
use Rattle.reference.specs.World.{World, Step, WaitingAreNext, unless, declare_step, register_step, append_step, heartbeat_step, take_step, drop_step, handed, waiting_at}

ok_is : {A : Type 0} (a b : A) (r : Result A Fault) → r ≡ Ok a → r ≡ Ok b → b ≡ a
ok_is a b r first second = cc

err_is : {A : Type 0} (f : Fault) (b : A) (r : Result A Fault) → r ≡ Err f → r ≡ Ok b → ⊥
err_is f b r first second = cc

-- a step that was accepted did what it does without a fault
accepted : {A : Type 0} (first : Option Fault) (w made new : World) (a b : A) → unless first w a made ≡ (Ok b, new) → (first ≡ None) × (b ≡ a) × (new ≡ made)
accepted {A = A} None w made new a b e =
    (refl, ok_is a b (Ok a) refl (ap (λ (s : Step A). s.0) e), sym (ap (λ (s : Step A). s.1) e))
accepted {A = A} (Some f) w made new a b e = absurd (err_is f b (Err f) refl (ap (λ (s : Step A). s.0) e))

pub declare_is_step : (w new : World) (name : List ℕ) (columns : List (List ℕ)) (start : ℤ) (k : ℕ) → declare_step w name columns start ≡ (Ok k, new)
    → IsStep w.machine (Declare name columns start) (Number k) new.machine
unfolding declare_step
declare_is_step w new name columns start k e =
    let h = accepted (first_fault w.machine (Declare name columns start)) w _ new _ k e in
    record { accepted = h.0; gives = h.1; after = ap (λ (x : World). x.machine) h.2 }

pub register_is_step : (w new : World) (name source : List ℕ) (given : Option (List (ℤ × ℤ))) (k : ℕ) → register_step w name source given ≡ (Ok k, new)
    → IsStep w.machine (Register name source given) (Number k) new.machine
unfolding register_step
register_is_step w new name source given k e =
    let h = accepted (first_fault w.machine (Register name source given)) w _ new _ k e in
    record { accepted = h.0; gives = h.1; after = ap (λ (x : World). x.machine) h.2 }

pub append_is_step : (w new : World) (n : ℕ) (rows : List (ℤ × List (Option ℤ))) → append_step w n rows ≡ (Ok tt, new)
    → IsStep w.machine (Append n rows) Done new.machine
unfolding append_step
append_is_step w new n rows e =
    let h = accepted (first_fault w.machine (Append n rows)) w _ new _ tt e in
    record { accepted = h.0; gives = tt; after = ap (λ (x : World). x.machine) h.2 }

pub heartbeat_is_step : (w new : World) (n : ℕ) (at : ℤ) → heartbeat_step w n at ≡ (Ok tt, new) → IsStep w.machine (Heartbeat n at) Done new.machine
unfolding heartbeat_step
heartbeat_is_step w new n at e =
    let h = accepted (first_fault w.machine (Heartbeat n at)) w _ new _ tt e in
    record { accepted = h.0; gives = tt; after = ap (λ (x : World). x.machine) h.2 }

pub drop_is_step : (w new : World) (n : ℕ) → drop_step w n ≡ (Ok tt, new) → IsStep w.machine (Drop n) Done new.machine
unfolding drop_step
drop_is_step w new n e =
    let h = accepted (first_fault w.machine (Drop n)) w _ new _ tt e in
    record { accepted = h.0; gives = tt; after = ap (λ (x : World). x.machine) h.2 }

-- an accepted take names a query
query_of : (m : Machine) (n : ℕ) (limit : ℤ) (o : Option Registered) → o ≡ query_at m n → of_query (take_tests limit) o ≡ None
    → (q : Registered) × (query_at m n ≡ Some q)
query_of m n limit None is h = cc
query_of m n limit (Some q) is h = (q, sym is)

module _ (waiting rest : List (ℕ × Row)) (most : ℕ) where
  abbrev count : ℕ
  count = min most (length waiting)

  handed_length : length (handed (take count waiting)) ≡ count
  handed_length = length-map (take count waiting) _ ∙ length-take-le count waiting (omega arith)

  handed_next : handed (take count waiting) ≡ handed (take (length (handed (take count waiting))) (waiting ++ rest))
  handed_next =
      ap handed (sym (take-append-le (min most (length waiting)) waiting rest (omega arith))) ∙ ap (λ k. handed (take k (waiting ++ rest))) (sym handed_length)

-- what a take hands out, where the next answers wait
pub next_handed : (w : World) (n : ℕ) (limit : ℤ) (rows : List (ℤ × Row)) → WaitingAreNext w → first_fault w.machine (Take n limit) ≡ None
    → rows ≡ handed (take (min (nat_abs limit) (length (waiting_at w n))) (waiting_at w n)) → AreNext w.machine n limit rows
next_handed w n limit rows next accepts is =
    let waiting = waiting_at w n in
    let q = query_of w.machine n limit (query_at w.machine n) refl accepts in
    let more = next n q.0 q.1 in
    let long : length rows ≡ min (nat_abs limit) (length waiting) = ap length is ∙ handed_length waiting more.0 (nat_abs limit) in
    let all = handed_next waiting more.0 (nat_abs limit) in
    record {
      query = q.0;
      registered = q.1;
      few = omega (arith, long);
      next = subst (λ (rs : List (ℤ × Row)). rs ≡ handed (take (length rs) (drop q.0.taken (closed_answers w.machine q.0)))) (sym is)
          (subst (λ (xs : List (ℕ × Row)). handed (take (min (nat_abs limit) (length waiting)) waiting) ≡ handed (take (length (handed (take (min (nat_abs limit) (length waiting)) waiting))) xs)) (sym more.1) all);
    }

pub take_is_step : (w new : World) (n : ℕ) (limit : ℤ) (rows : List (ℤ × Row)) → WaitingAreNext w → take_step w n limit ≡ (Ok rows, new)
    → IsStep w.machine (Take n limit) (Rows rows) new.machine
unfolding take_step
take_is_step w new n limit rows next e =
    let h = accepted (first_fault w.machine (Take n limit)) w _ new _ rows e in
    let long : length rows ≡ min (nat_abs limit) (length (waiting_at w n)) = ap length h.1 ∙ handed_length (waiting_at w n) [] (nat_abs limit) in
    record {
      accepted = h.0;
      gives = next_handed w n limit rows next h.0 h.1;
      after = ap (λ (x : World). x.machine) h.2 ∙ ap (after w.machine (Take n limit)) (sym long);
    }
