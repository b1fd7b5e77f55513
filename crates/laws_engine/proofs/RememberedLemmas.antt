-- Whatever an engine forgets, it gives the answers of the machine that forgets nothing.
use Rattle.std.proofs.Common.{◌≡◌, ℕ, zero, suc, Bool, true, cond, inl, inr, ⊎_elim, None, Some, List, [], ◌∷◌, ◌++◌, drop, get_or, length, set, refl, sym, ap, ◌∙◌, subst, append_assoc, true≢false}
use Rattle.std.specs.Prelude.{slice_get}
use Rattle.std.specs.Option.{option_map_or}
use Rattle.values.specs.Row.{Row}
use Rattle.reference.specs.Commands.{Append, Command, Declare, Drop, Heartbeat, Register, Take, after, change, first_fault}
use Rattle.reference.specs.Machine as machine
use Rattle.reference.specs.Machine.{Machine, Registered, closed_answers}
use Rattle.reference.specs.World.{untaken}
use Rattle.laws_forgetting.specs.Partly.{PartlyAlike}
use Rattle.laws_forgetting.proofs.CommandLemmas.{commands_partly}
use Rattle.laws_forgetting.proofs.EquivalenceLemmas.{partly_joined}
use Rattle.laws_forgetting.proofs.FaultLemmas.{faults_same}
use Rattle.laws_forgetting.proofs.PartlyLemmas.{alike_of_fewer, ends_partly}
use Rattle.laws_queries.specs.Plain.{PlainQuery}
use Rattle.laws_queries.proofs.BeatLemmas.{same_number}
use Rattle.laws_engine.specs.Engines.{Broken, Dropped, HasGiven, Lease, PlainEngine, PlainRemains}
use Rattle.laws_engine.specs.Engines.{Running, query_at, remains_at}
use Rattle.laws_engine.specs.Good.{AreRemains, GoodEngine, Goes, upto_at}
use Rattle.laws_engine.specs.Calls.{remains_after}
use Rattle.laws_engine.specs.Histories.{Abandons, Breaks, Call, ComesBack, Finishes, Forgets, IsCallStep, IsCommandStep, Leases, Stays, Told, empty}
use Rattle.laws_engine.specs.Openings.{forgotten}
use Rattle.laws_engine.specs.Unbroken.{goes_on, is_running}
use Rattle.laws_engine.specs.Promises.{HasGivenAll, HasNothingToRun}
use Rattle.laws_engine.specs.Remembered.{GivesAsRemembered, LeadBoth, handed_by, remembered}
use Rattle.laws_engine.proofs.AlikeLemmas.{forgotten_partly}
use Rattle.laws_engine.proofs.BrokenLemmas.{BrokenBegin, running_within, set_before, set_broken, set_itself, told_broken}
use Rattle.laws_engine.proofs.HistoryLemmas.{empty_good, step_good}
use Rattle.laws_engine.proofs.IdleLemmas.{behind}
use Rattle.laws_engine.proofs.PromiseLemmas.{keeps_its_promises, remains_given}

-- WHO GOES ON behind a call went on before it
abbrev on : List PlainRemains → ℕ → Bool
on ks n = option_map_or is_running (slice_get ks n) true

on_pushed : (p : PlainQuery) (ks : List PlainRemains) (n : ℕ) → on (ks ++ Running p ∷ []) n ≡ true → on ks n ≡ true
on_pushed p [] n h = refl
on_pushed p (k ∷ ks) zero h = h
on_pushed p (k ∷ ks) (suc n) h = on_pushed p ks n h

on_changed : (f : PlainRemains → PlainRemains) → ((k : PlainRemains) → is_running (f k) ≡ true → is_running k ≡ true) → (i : ℕ) (ks : List PlainRemains) (n : ℕ) → on (change i f ks) n ≡ true → on ks n ≡ true
on_changed f w i [] n h = refl
on_changed f w zero (k ∷ ks) zero h = w k h
on_changed f w zero (k ∷ ks) (suc n) h = h
on_changed f w (suc i) (k ∷ ks) zero h = h
on_changed f w (suc i) (k ∷ ks) (suc n) h = on_changed f w i ks n h

on_set : (x : PlainRemains) (i : ℕ) (ks : List PlainRemains) → (is_running x ≡ true → is_running (get_or ks i Dropped) ≡ true) → (n : ℕ) → on (set ks i x) n ≡ true → on ks n ≡ true
on_set x i [] w n h = refl
on_set x zero (k ∷ ks) w zero h = w h
on_set x zero (k ∷ ks) w (suc n) h = h
on_set x (suc i) (k ∷ ks) w zero h = h
on_set x (suc i) (k ∷ ks) w (suc n) h = on_set x i ks w n h

runs_on : (ks : List PlainRemains) (n : ℕ) (p : PlainQuery) → get_or ks n Dropped ≡ Running p → on ks n ≡ true
runs_on [] n p h = refl
runs_on (k ∷ ks) zero p h = ap is_running h
runs_on (k ∷ ks) (suc n) p h = runs_on ks n p h

after_take : (count : ℕ) (k : PlainRemains) → is_running (remains_after count k) ≡ true → is_running k ≡ true
after_take count (Running p) h = refl
after_take count (Broken answers upto) h = h
after_take count Dropped h = h

told_on : (e e2 : PlainEngine) (c : Command) → IsCommandStep e c e2 → (n : ℕ) → goes_on e2 n ≡ true → goes_on e n ≡ true
told_on e e2 (Declare name columns start) t n h = subst (λ z. goes_on z n ≡ true) t.1 h
told_on e e2 (Register name text chart) t n h = on_pushed t.1.0 e.queries n (subst (λ z. goes_on z n ≡ true) t.1.1.1 h)
told_on e e2 (Append s rows) t n h = subst (λ z. goes_on z n ≡ true) t.1 h
told_on e e2 (Heartbeat s at) t n h = subst (λ z. goes_on z n ≡ true) t.1 h
told_on e e2 (Take k limit) t n h = on_changed (remains_after t.0) (after_take t.0) k e.queries n (subst (λ z. goes_on z n ≡ true) t.1.1 h)
told_on e e2 (Drop k) t n h = on_changed (λ remains. Dropped) (λ r i. absurd (true≢false (sym i))) k e.queries n (subst (λ z. goes_on z n ≡ true) t.1 h)

-- THE MACHINE of a command
told_machine : (e e2 : PlainEngine) (c : Command) → IsCommandStep e c e2 → (first_fault e.machine c ≡ None) × (e2.machine ≡ after e.machine c (handed_by e c))
told_machine e e2 (Declare name columns start) t = (t.0, ap (λ (z : PlainEngine). z.machine) t.1)
told_machine e e2 (Register name text chart) t = (t.1.1.0.accepted, ap (λ (z : PlainEngine). z.machine) t.1.1.1 ∙ sym t.1.1.0.registers)
told_machine e e2 (Append s rows) t = (t.0, ap (λ (z : PlainEngine). z.machine) t.1)
told_machine e e2 (Heartbeat s at) t = (t.0.accepted, ap (λ (z : PlainEngine). z.machine) t.1)
told_machine e e2 (Take n limit) t = (t.1.0.accepted, ap (λ (z : PlainEngine). z.machine) t.1.1 ∙ ap (after e.machine (Take n limit)) t.1.0.many)
told_machine e e2 (Drop n) t = (t.0, ap (λ (z : PlainEngine). z.machine) t.1)

-- ONE CALL
abbrev AreSame : PlainEngine → Machine → Type 0
AreSame e m = PartlyAlike (goes_on e) m e.machine

module _ (e : PlainEngine) (m : Machine) (h : AreSame e m) where
  told_same : (e2 : PlainEngine) (c : Command) → IsCommandStep e c e2 → AreSame e2 (after m c (handed_by e c))
  told_same e2 c t =
      let k : ℕ = handed_by e c in
      let told = told_machine e e2 c t in
      let same : PartlyAlike (goes_on e) (after m c k) (after e.machine c k) = commands_partly (goes_on e) m e.machine h c k k (faults_same (goes_on e) m e.machine h c ∙ told.0) (λ i. refl) in
      alike_of_fewer (goes_on e2) (goes_on e) (after m c k) e2.machine (told_on e e2 c t) (subst (PartlyAlike (goes_on e) (after m c k)) (sym told.1) same)

  -- a turn that comes back
  set_same : (n : ℕ) (x : PlainRemains) → (is_running x ≡ true → is_running (remains_at e n) ≡ true) → PartlyAlike (on (set e.queries n x)) m e.machine
  set_same n x w = alike_of_fewer (on (set e.queries n x)) (goes_on e) m e.machine (on_set x n e.queries w) h

  comes_same : (e2 : PlainEngine) (l : Lease) (q : Registered) (p p2 : PlainQuery) → ComesBack e l q p p2 e2 → AreSame e2 m
  comes_same e2 l q p p2 (inl t) = subst (λ z. AreSame z m) (sym t.1) (set_same l.query (Running p2) (λ i. ap is_running t.0.of.running))
  comes_same e2 l q p p2 (inr t) = subst (λ z. AreSame z m) (sym t.1) (set_same l.query (Running p2) (λ i. ap is_running t.0.of.running))

  step_same : (e2 : PlainEngine) (c : Call) → GoodEngine e → IsCallStep e c e2 → AreSame e2 (remembered e c m)
  step_same e2 (Told c) g t = told_same e2 c t
  step_same e2 (Leases l) g t = subst (λ z. AreSame z m) (sym t.1.1.1.1) h
  step_same e2 (Finishes l) g t = comes_same e2 l t.1.0 t.1.1.0 t.1.1.1.0 t.1.1.1.1
  step_same e2 (Abandons l) g t = subst (λ z. AreSame z m) (sym t.1.1.1.1) h
  step_same e2 (Breaks l) g t = subst (λ z. AreSame z m) (sym t.1.1.1.1) (set_same l.query (Broken t.1.1.0.answers (upto_at e l.query)) (λ i. absurd (true≢false (sym i))))
  step_same e2 Forgets g t = subst (λ z. AreSame z m) (sym t) (partly_joined (goes_on e) m e.machine (forgotten e).machine h (forgotten_partly e g))
  step_same e2 Stays g t = subst (λ z. AreSame z m) (sym t) h

-- WHAT WAITS
module _ (e : PlainEngine) (g : GoodEngine e) (m : Machine) (h : AreSame e m) (n : ℕ) (q r : Registered) (p : PlainQuery) (here : slice_get m.queries n ≡ Some q) (there : query_at e n ≡ Some r) (runs : remains_at e n ≡ Running p) where
  goes : Goes e.machine r p
  goes = subst (AreRemains e.machine r) runs (g.queries n r there)

  same_untaken : untaken m q ≡ drop r.taken (closed_answers e.machine r)
  same_untaken = (ends_partly (goes_on e) m e.machine h).answers n q r here there (runs_on e.queries n p runs) ∙ ap (λ b. cond b [] (drop r.taken (closed_answers e.machine r))) goes.lives

  begins_same : (rest : List (ℕ × Row)) × (untaken m q ≡ p.answers ++ rest)
  begins_same =
      let given : HasGiven e.machine r p.answers = remains_given e.machine r (Running p) goes in
      (given.rest, same_untaken ∙ ap (drop r.taken) (given.begins ∙ append_assoc given.taken p.answers given.rest) ∙ behind r.taken given.taken (p.answers ++ given.rest) given.counted)

  all_same : HasNothingToRun e n r p → untaken m q ≡ p.answers
  all_same none =
      let all : HasGivenAll e r p = (keeps_its_promises e g).all n r p there runs none in
      same_untaken ∙ ap (drop r.taken) (sym all.all) ∙ behind r.taken all.taken p.answers all.counted

-- WHAT WAITS OF A BROKEN QUERY
module _ (e : PlainEngine) (g : GoodEngine e) (m : Machine) (h : AreSame e m) (broken : BrokenBegin e m) where
  as_many : length e.queries ≡ length m.queries
  as_many = g.many ∙ sym (ends_partly (goes_on e) m e.machine h).many

  comes_broken : (e2 : PlainEngine) (l : Lease) (q : Registered) (p p2 : PlainQuery) → ComesBack e l q p p2 e2 → BrokenBegin e2 m
  comes_broken e2 l q p p2 (inl t) n r answers upto here left = broken n r answers upto here (set_before p2 e.queries l.query n answers upto (sym (ap (λ z. remains_at z n) t.1) ∙ left))
  comes_broken e2 l q p p2 (inr t) n r answers upto here left = broken n r answers upto here (set_before p2 e.queries l.query n answers upto (sym (ap (λ z. remains_at z n) t.1) ∙ left))

  step_broken : (e2 : PlainEngine) (c : Call) → IsCallStep e c e2 → BrokenBegin e2 (remembered e c m)
  step_broken e2 (Told c) t n q answers upto here left = told_broken e m as_many broken e2 c t (faults_same (goes_on e) m e.machine h c ∙ (told_machine e e2 c t).0) n q answers upto here left
  step_broken e2 (Leases l) t n q answers upto here left = broken n q answers upto here (sym (ap (λ z. remains_at z n) t.1.1.1.1) ∙ left)
  step_broken e2 (Finishes l) t n q answers upto here left = comes_broken e2 l t.1.0 t.1.1.0 t.1.1.1.0 t.1.1.1.1 n q answers upto here left
  step_broken e2 (Abandons l) t n q answers upto here left = broken n q answers upto here (sym (ap (λ z. remains_at z n) t.1.1.1.1) ∙ left)
  step_broken e2 (Breaks l) t n q answers upto here left =
      let p : PlainQuery = t.1.1.0 in
      let x : PlainRemains = Broken p.answers (upto_at e l.query) in
      let now : get_or (set e.queries l.query x) n Dropped ≡ Broken answers upto = sym (ap (λ z. remains_at z n) t.1.1.1.1) ∙ left in
      ⊎_elim
      (λ same.
      let is : x ≡ Broken answers upto = sym (set_itself x e.queries l.query (running_within e.queries l.query p t.1.1.1.0.running)) ∙ ap (λ i. get_or (set e.queries l.query x) i Dropped) (sym same) ∙ now in
      let waits : p.answers ≡ answers = cc in
      let begun = begins_same e g m h n q t.1.0 p here (ap (query_at e) same ∙ t.1.1.1.0.registered) (ap (remains_at e) same ∙ t.1.1.1.0.running) in
      (begun.0, begun.1 ∙ ap (λ z. z ++ begun.0) waits))
      (λ ne. broken n q answers upto here (sym (set_broken x e.queries l.query n ne) ∙ now))
      (same_number n l.query)
  step_broken e2 Forgets t n q answers upto here left = broken n q answers upto here (sym (ap (λ z. remains_at z n) t) ∙ left)
  step_broken e2 Stays t n q answers upto here left = broken n q answers upto here (sym (ap (λ z. remains_at z n) t) ∙ left)

-- CALLS IN TURN
record AreBoth (e : PlainEngine) (m : Machine) : Type 0 where
  good : GoodEngine e
  same : AreSame e m
  broken : BrokenBegin e m

both_same : (e e3 : PlainEngine) (m m3 : Machine) (calls : List Call) → AreBoth e m → LeadBoth e m calls e3 m3 → AreBoth e3 m3
both_same e e3 m m3 [] b t = subst (λ z. AreBoth z m3) (sym t.0) (subst (AreBoth e) (sym t.1) b)
both_same e e3 m m3 (c ∷ calls) b t =
    both_same t.0 e3 (remembered e c m) m3 calls
    (record { good = step_good e t.0 c b.good t.1.0; same = step_same e m b.same t.0 c b.good t.1.0; broken = step_broken e b.good m b.same b.broken t.0 c t.1.0 }) t.1.1

pub forget_none : (calls : List Call) (e : PlainEngine) (m : Machine) → LeadBoth empty machine.empty calls e m → GivesAsRemembered e m
forget_none calls e m t =
    let none : BrokenBegin empty machine.empty = λ n q answers upto here left. absurd (cc) in
    let both : AreBoth e m = both_same empty e machine.empty m calls (record { good = empty_good; same = record { streams = refl; queries = tt }; broken = none }) t in
    record { end = ends_partly (goes_on e) m e.machine both.same; begins = begins_same e both.good m both.same; broken = both.broken; all = all_same e both.good m both.same }
