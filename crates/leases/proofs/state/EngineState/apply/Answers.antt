-- What is left of the turn's query.
use Rattle.std.proofs.Common.{◌≡◌, ◌==◌, not, filter, List, map, set, ap, ◌∙◌, get_or}
use Rattle.std.proofs.lemmas.List.{set-set}
use Rattle.turn.specs.declared.parts.Parts.{Parts}
use Rattle.run_queue.specs.Changes.{without_query}
use Rattle.laws_engine.specs.Calls.{broken_at, of_others}
use Rattle.laws_engine.specs.Engines.{Broken, Dropped, PlainRemains, Running, remains_at}
use Rattle.laws_engine.specs.Good.{upto_at}
use Rattle.leases.specs.Shown.{engine_in}
use Rattle.leases.specs.Views.{remains_of}
use Rattle.leases.specs.declared.reader.WindowReader.{WindowReader}
use Rattle.leases.proofs.OutLemmas.{item_running, remains_written, remains_written_here}
use Rattle.leases.proofs.state.EngineState.apply.Goals as goal

pub reach-reach-requires-clause-running : goal.reach-reach-requires-clause-running
reach-reach-requires-clause-running c =
    let same : c.parts.inside.0.1.0.query ≡ c.args.parts.node.query = ap (λ (d : Parts). d.node.query) c.parts.view_is in
    (c.requires.may.0, ap (remains_at (engine_in c.args.self.now)) same ∙ c.requires.may.1.0)

pub break_query-requires : goal.break_query-requires
break_query-requires c =
    let same : c.parts.inside.0.1.0.query ≡ c.args.parts.node.query = ap (λ (d : Parts). d.node.query) c.parts.view_is in
    let was = item_running c.args.self.now.remains.items c.parts.inside.0.1.0.query c.args.parts.node.query c.index_mut.result.now c.requires.may.0 same c.requires.may.1.0 c.index_mut.ensures.value in
    let now = c.in-Err.ensures.err c.requires.may.0 was in
    (now.0, remains_written_here c.args.self.now.remains.items c.parts.inside.0.1.0.query c.args.parts.node.query c.take_turn.new.remains (Running now.0) c.requires.may.0 same c.requires.may.1.0 now.1.0)

pub returns-in-Ok-clause-ok : goal.returns-in-Ok-clause-ok
returns-in-Ok-clause-ok c p running =
    let same : c.parts.inside.0.1.0.query ≡ c.args.parts.node.query = ap (λ (d : Parts). d.node.query) c.parts.view_is in
    let was = item_running c.args.self.now.remains.items c.parts.inside.0.1.0.query c.args.parts.node.query c.index_mut.result.now p same running c.index_mut.ensures.value in
    let now = c.in-Ok.ensures.ok p was in (
      now.0,
      (
        now.1.1,
        ap (λ (qs : List PlainRemains). record (engine_in c.args.self.now) { queries = qs })
            (remains_written c.args.self.now.remains.items c.parts.inside.0.1.0.query c.args.parts.node.query c.take_turn.new.remains (Running now.0) same now.1.0),
      ),
    )

pub returns-in-Err-clause-err : goal.returns-in-Err-clause-err
returns-in-Err-clause-err c p running =
    let same : c.parts.inside.0.1.0.query ≡ c.args.parts.node.query = ap (λ (d : Parts). d.node.query) c.parts.view_is in
    let was = item_running c.args.self.now.remains.items c.parts.inside.0.1.0.query c.args.parts.node.query c.index_mut.result.now p same running c.index_mut.ensures.value in
    let now = c.in-Err.ensures.err p was in
    let here : get_or (map remains_of (set c.args.self.now.remains.items c.parts.inside.0.1.0.query c.take_turn.new.remains)) c.parts.inside.0.1.0.query Dropped ≡ Running now.0 =
    remains_written_here c.args.self.now.remains.items c.parts.inside.0.1.0.query c.args.parts.node.query c.take_turn.new.remains (Running now.0) p same running now.1.0 in
    let queries : set (map remains_of (set c.args.self.now.remains.items c.parts.inside.0.1.0.query c.take_turn.new.remains)) c.args.parts.node.query (Broken now.0.answers c.reach-reach.result.next) ≡ set (engine_in c.args.self.now).queries c.args.parts.node.query (Broken p.answers c.reach-reach.result.next) =
    ap (λ z. set z c.args.parts.node.query (Broken now.0.answers c.reach-reach.result.next)) (remains_written c.args.self.now.remains.items c.parts.inside.0.1.0.query c.args.parts.node.query c.take_turn.new.remains (Running now.0) same now.1.0)
    ∙ set-set (engine_in c.args.self.now).queries c.args.parts.node.query (Running now.0) (Broken now.0.answers c.reach-reach.result.next)
    ∙ ap (λ z. set (engine_in c.args.self.now).queries c.args.parts.node.query (Broken z c.reach-reach.result.next)) now.1.1 in
    c.break_query.ensures.engine now.0 here
    ∙ ap (λ z. record (engine_in c.args.self.now) { queries = set (map remains_of (set c.args.self.now.remains.items c.parts.inside.0.1.0.query c.take_turn.new.remains)) z (Broken now.0.answers c.reach-reach.result.next); leases = of_others z (engine_in c.args.self.now).leases; slots = without_query z c.args.self.now.slots }) same
    ∙ ap (λ (qs : List PlainRemains). record (engine_in c.args.self.now) { queries = qs; leases = of_others c.args.parts.node.query (engine_in c.args.self.now).leases; slots = without_query c.args.parts.node.query c.args.self.now.slots }) queries
    ∙ ap (broken_at (engine_in c.args.self.now) c.args.parts.node.query p) (c.reach-reach.ensures ∙ ap (upto_at (engine_in c.args.self.now)) same)

pub returns-in-Err-clause-forgets : goal.returns-in-Err-clause-forgets
returns-in-Err-clause-forgets c =
    let same : c.parts.inside.0.1.0.query ≡ c.args.parts.node.query = ap (λ (d : Parts). d.node.query) c.parts.view_is in
    let f = c.break_query.ensures.forgets in
    record { undropped = f.undropped; readers = f.readers ∙ ap (λ n. filter (λ (r : WindowReader). not (r.query == n)) c.args.self.now.readers) same; leases = f.leases }
