-- What is made of a plan is the newest query, at its beginning.
use Rattle.std.proofs.Common.{◌≡◌, ◌∙◌, ℕ, ℤ, false, Option, List, [], ◌∷◌, map, refl, ap, subst, Result, Ok, Err}
use Rattle.std.specs.Prelude.{IfOk, OnOk}
use Rattle.values.specs.Resolved.{resolved_of}
use Rattle.cql_reader.specs.Query as syntax
use Rattle.cql_reader.specs.Judging.{reading}
use Rattle.names.specs.Resolved.{widths}
use Rattle.plan.specs.Views.{nodes_of}
use Rattle.plan.specs.declared.operators.Plan.{Plan}
use Rattle.reference.specs.Commands.{catalog_of, found, place_at}
use Rattle.reference.specs.Finds.{Finds}
use Rattle.reference.specs.Machine as machine
use Rattle.reference.specs.Machine.{Machine, Registered, first_for}
use Rattle.reference.specs.declared.fault.Fault.{Fault}
use Rattle.laws_queries.specs.Plain.{PlainQuery}
use Rattle.laws_queries.specs.Registrations.{lengths_of}
use Rattle.query_runtime.specs.Turns.{IsBeginning}
use Rattle.laws_engine.specs.Accepted.{IsBegun, IsPlanOfText, newest}
use Rattle.laws_engine.proofs.FoundLemmas.{plan_of_text}
use Rattle.leases.specs.Views.{place_of}
use Rattle.leases.specs.declared.registered.SourcePlace.{SourcePlace}

map_twice : {X Y Z : Type 0} (f : Y → Z) (g : X → Y) (xs : List X) → map (λ x. f (g x)) xs ≡ map f (map g xs)
map_twice f g [] = refl
map_twice f g (x ∷ xs) = ap (λ zs. f (g x) ∷ zs) (map_twice f g xs)

streams_again : (m : Machine) (ns : List ℕ) → map (λ (p : machine.Place). p.stream) (map (place_at m) ns) ≡ ns
streams_again m [] = refl
streams_again m (n ∷ ns) = ap (λ l. n ∷ l) (streams_again m ns)

module _ (m : Machine) (name : List ℕ) (plan : Plan) (places : List SourcePlace) (first : ℕ) (at : map place_of places ≡ map (place_at m) plan.streams.items) (begins : first ≡ first_for m.streams (map (place_at m) plan.streams.items)) where
  abbrev made : List machine.Place → ℕ → Registered
  made ps n = record { name = name; meaning = resolved_of plan.meaning; nodes = nodes_of plan.nodes.items; measures = plan.measures.items; places = ps; first = n; start = n; earlier = []; taken = 0; ever_taken = 0; is_dropped = false }

  pub told_is : (q : Registered) → q ≡ made (map place_of places) first → q ≡ newest m name plan
  told_is q is = is ∙ ap (λ ps. made ps first) at ∙ ap (made (map (place_at m) plan.streams.items)) begins

  pub begun : (p : PlainQuery) → IsBeginning plan.meaning.windows.items plan.widths.items (map (λ x. (place_of x).stream) places) (map (λ x. (place_of x).arrivals) places) first plan.nodes.items p → IsBegun plan (newest m name plan) p
  begun p is =
      let streams : map (λ x. (place_of x).stream) places ≡ plan.streams.items = map_twice (λ (x : machine.Place). x.stream) place_of places ∙ ap (map (λ (x : machine.Place). x.stream)) at ∙ streams_again m plan.streams.items in
      let lengths : map (λ x. (place_of x).arrivals) places ≡ lengths_of (newest m name plan) = map_twice (λ (x : machine.Place). x.arrivals) place_of places ∙ ap (map (λ (x : machine.Place). x.arrivals)) at in
      subst (λ n. IsBeginning plan.meaning.windows.items plan.widths.items plan.streams.items (lengths_of (newest m name plan)) n plan.nodes.items p) begins
      (subst (λ ls. IsBeginning plan.meaning.windows.items plan.widths.items plan.streams.items ls first plan.nodes.items p) lengths
      (subst (λ ss. IsBeginning plan.meaning.windows.items plan.widths.items ss (map (λ x. (place_of x).arrivals) places) first plan.nodes.items p) streams is))

pub on_ok : {A E : Type 0} {P Q : Type 0} (r : Result A E) → (P → Q) → OnOk r P → OnOk r Q
on_ok (Ok a) f h = f h
on_ok (Err e) f h = h

pub plan_found : (m : Machine) (source : List ℕ) (chart : Option (List (ℤ × ℤ))) (r : Result Plan Fault) → Finds (found m source chart) r
    → IfOk r (λ p. (query : syntax.Query) → reading source ≡ Ok query → p.widths.items ≡ widths query (catalog_of m.streams)) → IfOk r (IsPlanOfText m source chart)
plan_found m source chart (Ok p) finds wide = plan_of_text m source chart p finds wide
plan_found m source chart (Err f) finds wide = tt
