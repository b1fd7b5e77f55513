use Rattle.std.proofs.Common.{◌≡◌, ◌∙◌, ap, map, refl, rules, subst, sym, arith}
use Rattle.laws_queries.specs.Machines.{IsMachine}
use Rattle.laws_queries.specs.Registrations.{HaveColumnNames}
use Rattle.laws_engine.specs.Bounds.{HaveFewClosed}
use Rattle.laws_engine.specs.Engines.{PlainEngine}
use Rattle.laws_engine.specs.Good.{GoodEngine, IsIn}
use Rattle.leases.specs.Readers.{readers_of}
use Rattle.leases.specs.Sound.{is_gone}
use Rattle.leases.specs.Undropped.{undropped_of}
use Rattle.leases.specs.Views.{empty_engine, engine_of}
use Rattle.reference.specs.Machine.{empty}
use Rattle.leases.proofs.ViewLemmas.{empty_good}
use Rattle.leases.proofs.state.EngineState.new.Goals as goal

no_machine : IsMachine empty
no_machine = record { streams = tt; queries = tt; limits = tt }

pub returns-clause-sound : goal.returns-clause-sound
returns-clause-sound c =
    let is : engine_of c.new.result c.new-3.result.items c.new-4.result.items c.new-6.result.items 0 c.new-7.result ≡ empty_engine
    = rw (c.new.ensures, c.new-3.ensures.items, c.new-4.ensures.items, c.new-6.ensures.items, c.new-7.ensures) refl in
    record {
      good = subst GoodEngine (sym is) (empty_good no_machine);
      kinds = λ t i. absurd (subst (λ l. IsIn l t) c.new-6.ensures.items i);
      few = rw c.new-6.ensures.items (omega arith);
      numbers = omega arith;
      named = c.new-2.ensures ∙ ap (λ (e : PlainEngine). undropped_of e.machine.queries) (sym is);
      gone = subst (λ (e : PlainEngine). map (λ q. q.is_dropped) e.machine.queries ≡ map is_gone e.queries) (sym is) refl;
      columns = subst (λ (e : PlainEngine). HaveColumnNames e.machine) (sym is) (search rules);
      closed = subst (λ (e : PlainEngine). HaveFewClosed e.machine) (sym is) (record { streams = tt; queries = tt });
      readers = c.new-5.ensures ∙ ap readers_of (sym is);
    }
