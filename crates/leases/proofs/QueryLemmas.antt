-- What a registration answers, and makes of the world.
use Rattle.std.proofs.Common.{◌≡◌, ◌∙◌, ℕ, ℤ, Option, None, Some, List, [], ◌∷◌, ◌++◌, length, map, sym, ap, ap₂, Ok, Err}
use Rattle.std.proofs.lemmas.List.{map-append}
use Rattle.values.specs.Row.{Row}
use Rattle.names.specs.Faults.{first_of}
use Rattle.reference.specs.Commands.{Found, Register, after, first_fault, found, place_at, query_tests, register_tests}
use Rattle.reference.specs.Finds.{Finds}
use Rattle.reference.specs.Machine.{Machine, Registered, first_for}
use Rattle.reference.specs.Told.{IsTold}
use Rattle.reference.specs.World.{Does, Step, World, begins_at, register_step, unless}
use Rattle.reference.specs.declared.fault.Fault.{Fault}
use Rattle.reference.specs.declared.fault.Fault.TheVariants.{OutOfMemory}
use Rattle.reference.proofs.StepLemmas.{lacked, refused_before, refused_text}
use Rattle.laws_queries.specs.Plain.{PlainQuery}
use Rattle.laws_engine.specs.Calls.{IsRegistration, registered}
use Rattle.laws_engine.specs.Engines.{PlainEngine, Running, answers_in, next_of, upto_by, world_of}
use Rattle.laws_engine.proofs.UptoLemmas.{upto_added}

-- the world with the query, of which nothing waits
abbrev with_query : World → List ℕ → List ℕ → Option (List (ℤ × ℤ)) → World
with_query w name source given = record {
  machine = after w.machine (Register name source given) 0;
  waiting = w.waiting ++ [] ∷ [];
  upto = w.upto ++ begins_at w.machine (found w.machine source given) ∷ [];
}

module _ (w : World) (name source : List ℕ) (given : Option (List (ℤ × ℤ))) where
  pub refused_early : (f : Fault) → Some f ≡ first_of (register_tests w.machine name) → IsTold f → Does (λ (n : ℕ). n) w (register_step w name source given) (Err f) w
  unfolding register_step
  refused_early f e t =
      refused_before (λ (n : ℕ). n) w (with_query w name source given) (length w.machine.queries) (register_tests w.machine name) (query_tests (found w.machine source given)) f e t

  pub refused_later : (f : Fault) → None ≡ first_of (register_tests w.machine name) → Finds (found w.machine source given) (Err f) → Does (λ (n : ℕ). n) w (register_step w name source given) (Err f) w
  unfolding register_step
  refused_later f e h =
      refused_text (λ (n : ℕ). n) w (with_query w name source given) (length w.machine.queries) (register_tests w.machine name) (found w.machine source given) f e h

  pub lacks_memory : (new : World) → first_fault w.machine (Register name source given) ≡ None → new ≡ w → Does (λ (n : ℕ). n) w (register_step w name source given) (Err OutOfMemory) new
  unfolding register_step
  lacks_memory new accepted same =
      lacked (λ (n : ℕ). n) w (with_query w name source given) (length w.machine.queries) (first_fault w.machine (Register name source given)) new (sym accepted) same

abbrev answer : ℕ → World → Step ℕ
answer k w = (Ok k, w)

-- ACCEPTED, the query stands behind the others, and nothing of it waits
pub registers : (e new : PlainEngine) (name source : List ℕ) (given : Option (List (ℤ × ℤ))) (q : Registered) (p : PlainQuery) (n : ℕ) (f : Found) → IsRegistration e name source given q p → p.answers ≡ [] → length e.queries ≡ length e.machine.queries
    → found e.machine source given ≡ Ok f → q.first ≡ first_for e.machine.streams (map (place_at e.machine) f.streams) → next_of q p ≡ q.first → n ≡ length e.machine.queries → new ≡ registered e q p
    → register_step (world_of e) name source given ≡ (Ok n, world_of new)
unfolding register_step
registers e new name source given q p n f r none many finds first begun number same =
    let next : World = with_query (world_of e) name source given in
    let waiting : map answers_in (e.queries ++ Running p ∷ []) ≡ map answers_in e.queries ++ [] ∷ [] = map-append answers_in e.queries (Running p ∷ []) ∙ ap (λ (rows : List (ℕ × Row)). map answers_in e.queries ++ rows ∷ []) none in
    let begins : next_of q p ≡ begins_at e.machine (found e.machine source given) = begun ∙ first ∙ ap (begins_at e.machine) (sym finds) in
    let upto : upto_by (e.machine.queries ++ q ∷ []) (e.queries ++ Running p ∷ []) ≡ upto_by e.machine.queries e.queries ++ begins_at e.machine (found e.machine source given) ∷ [] =
    upto_added e.machine.queries e.queries q (Running p) many ∙ ap (λ (u : ℕ). upto_by e.machine.queries e.queries ++ u ∷ []) begins in
    let world : world_of new ≡ next =
    ap world_of same ∙ ap₂ (λ (rows : List (List (ℕ × Row))) (us : List ℕ). record { machine = (registered e q p).machine; waiting = rows; upto = us }) waiting upto
    ∙ ap (λ (m : Machine). record { machine = m; waiting = map answers_in e.queries ++ [] ∷ []; upto = upto_by e.machine.queries e.queries ++ begins_at e.machine (found e.machine source given) ∷ [] }) (sym r.registers) in
    ap (λ (o : Option Fault). unless o (world_of e) (length e.machine.queries) next) r.accepted
    ∙ ap (λ (k : ℕ). answer k next) (sym number) ∙ ap (answer n) (sym world)
