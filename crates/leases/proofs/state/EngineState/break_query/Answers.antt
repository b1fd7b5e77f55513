-- What is left of the query, of the turns and of the slots.
use Rattle.std.proofs.Common.{◌≡◌, ◌==◌, not, List, map, set, ap, ◌∙◌}
use Rattle.run_queue.specs.declared.slots.Slot.{Slot}
use Rattle.laws_engine.specs.Calls.{of_others}
use Rattle.laws_engine.specs.Engines.{Broken, Lease, PlainRemains, Running}
use Rattle.leases.specs.Shown.{engine_in}
use Rattle.leases.specs.Views.{lease_of, remains_of}
use Rattle.turn.specs.declared.turns.Turn.{Turn}
use Rattle.leases.specs.declared.state.EngineState.{EngineState}
use Rattle.leases.proofs.OutLemmas.{item_remains, leases_left, left_in, remains_set}
use Rattle.leases.proofs.state.EngineState.break_query.Goals as goal

pub returns-clause-engine : goal.returns-clause-engine
returns-clause-engine c p running =
    let leases : map lease_of c.stop.new.self.leases.items ≡ of_others c.args.query (engine_in c.args.self.now).leases =
    ap (λ gs. map lease_of gs) c.stop.ensures.leases ∙ leases_left (λ (l : Lease). not (l.query == c.args.query)) c.args.self.now.leases.items in
    let here : remains_of c.index_mut.result.now ≡ Running p =
    ap remains_of c.index_mut.ensures.value ∙ item_remains c.args.self.now.remains.items c.args.query c.index_mut.result.now p running in
    let queries : map remains_of (set c.args.self.now.remains.items c.args.query c.give_up.new.self) ≡ set (engine_in c.args.self.now).queries c.args.query (Broken p.answers c.args.reach.next) =
    remains_set c.args.self.now.remains.items c.args.query c.give_up.new.self ∙ ap (set (engine_in c.args.self.now).queries c.args.query) (c.give_up.ensures p here) in
    ap (λ (s : EngineState). engine_in s) c.stop.ensures.rest
    ∙ ap (λ (qs : List PlainRemains). record (engine_in c.args.self.now) { queries = qs; leases = map lease_of c.stop.new.self.leases.items; slots = c.stop.new.self.slots }) queries
    ∙ ap (λ (ls : List Lease). record (engine_in c.args.self.now) { queries = set (engine_in c.args.self.now).queries c.args.query (Broken p.answers c.args.reach.next); leases = ls; slots = c.stop.new.self.slots }) leases
    ∙ ap (λ (ss : List Slot). record (engine_in c.args.self.now) { queries = set (engine_in c.args.self.now).queries c.args.query (Broken p.answers c.args.reach.next); leases = of_others c.args.query (engine_in c.args.self.now).leases; slots = ss }) c.stop.ensures.slots

pub returns-clause-forgets : goal.returns-clause-forgets
returns-clause-forgets c = record {
  undropped = ap (λ (s : EngineState). s.undropped) c.stop.ensures.rest;
  readers = c.stop.ensures.readers;
  leases = left_in (λ (g : Turn). not (g.node.query == c.args.query)) c.args.self.now.leases.items c.stop.new.self.leases.items c.stop.ensures.leases;
}
