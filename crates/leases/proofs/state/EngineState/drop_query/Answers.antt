use Rattle.std.proofs.Common.{◌≡◌, ◌<◌, ◌==◌, false, not, filter, None, Some, length, map, set, get_or, string_bytes, refl, sym, ap, ◌∙◌, subst, arith}
use Rattle.std.specs.Prelude.{slice_get}
use Rattle.laws_engine.specs.Bounds.{HaveFewClosed}
use Rattle.laws_engine.specs.Engines.{Dropped, PlainEngine, world_of}
use Rattle.laws_engine.specs.Good.{GoodEngine, IsIn}
use Rattle.laws_engine.proofs.InstantLemmas.{few_closed_stand}
use Rattle.laws_engine.proofs.DropLemmas.{drop_good}
use Rattle.laws_engine.proofs.SlotLemmas.{in_filter}
use Rattle.laws_engine.proofs.TakeLemmas.{changed_or_there}
use Rattle.std.proofs.lemmas.List.{map-set}
use Rattle.reference.specs.Commands as machine
use Rattle.reference.specs.Commands.{change}
use Rattle.leases.specs.Readers.{readers_from, runs}
use Rattle.leases.specs.Shown.{engine_in}
use Rattle.leases.specs.Sound.{IsSound, is_gone}
use Rattle.leases.specs.Undropped.{UndroppedQueries, undropped_of}
use Rattle.leases.specs.Views.{query_of, remains_of}
use Rattle.leases.specs.declared.undropped.RowLimit.{RowLimit}
use Rattle.leases.proofs.LimitLemmas.{kept, undropped_less}
use Rattle.turn.specs.declared.turns.Turn.{Turn}
use Rattle.leases.specs.declared.reader.WindowReader.{WindowReader}
use Rattle.leases.specs.declared.registered.Registration.{Registration}
use Rattle.leases.specs.declared.state.EngineState.{EngineState}
use Rattle.leases.proofs.DropLemmas.{another, drops, gone_dropped, is_dropped, named_there, refused, registered_dropped, registered_within, remains_dropped, remains_within, there}
use Rattle.leases.proofs.LeaveLemmas.{fewer}
use Rattle.leases.specs.declared.remains.Remains.TheVariants as code
use Rattle.leases.proofs.OutLemmas.{remains_set}
use Rattle.leases.proofs.ListedLemmas.{readers_changed, readers_left}
use Rattle.leases.proofs.state.EngineState.drop_query.Goals as goal

pub returns-in-Some-clause-does : goal.returns-in-Some-clause-does
returns-in-Some-clause-does c = sym (ap (λ z. z.0) (refused (engine_in c.args.self.now) c.args.query c.in-Some.fault (sym c.query_fault.ensures.first ∙ c.in-Some.is)))

pub returns-in-Some-clause-world : goal.returns-in-Some-clause-world
returns-in-Some-clause-world c = sym (ap (λ z. z.1) (refused (engine_in c.args.self.now) c.args.query c.in-Some.fault (sym c.query_fault.ensures.first ∙ c.in-Some.is)))

pub index-requires : goal.index-requires
index-requires c =
    let within : c.args.query < length c.args.self.now.registered.items = registered_within c.args.self.now.registered.items c.args.query (there (engine_in c.args.self.now).machine c.args.query (sym c.query_fault.ensures.first ∙ c.in_default.is)) in
    omega (arith, within)

pub index_mut-requires : goal.index_mut-requires
index_mut-requires c =
    let within : c.args.query < length c.args.self.now.registered.items = registered_within c.args.self.now.registered.items c.args.query (there (engine_in c.args.self.now).machine c.args.query (sym c.query_fault.ensures.first ∙ c.in_default.is)) in
    omega (arith, within)

pub index_mut-requires-2 : goal.index_mut-requires-2
index_mut-requires-2 c =
    let within : c.args.query < length c.args.self.now.remains.items = remains_within (engine_in c.args.self.now) c.args.self.now.remains.items c.args.query c.requires.good refl (there (engine_in c.args.self.now).machine c.args.query (sym c.query_fault.ensures.first ∙ c.in_default.is)) in
    omega (arith, within)

pub returns-clause-does : goal.returns-clause-does
returns-clause-does c = sym (ap (λ z. z.0) (drops (engine_in c.args.self.now) c.args.query (sym c.query_fault.ensures.first ∙ c.in_default.is)))

pub returns-clause-engine : goal.returns-clause-engine
returns-clause-engine c =
    ap (λ (s : EngineState). engine_in s) c.stop.ensures.rest
    ∙ is_dropped c.args.self.now.streams c.args.self.now.registered.items c.args.self.now.remains.items c.args.self.now.leases.items c.stop.new.self.leases.items c.args.self.now.next c.args.self.now.slots c.stop.new.self.slots c.args.query
    c.stop.ensures.leases c.stop.ensures.slots c.leave.new.query c.index_mut.result.now (c.leave.ensures ∙ ap (λ z. machine.dropped (query_of z)) c.index_mut.ensures.value)

pub returns-clause-world : goal.returns-clause-world
returns-clause-world c =
    ap (λ e. world_of e) (returns-clause-engine c)
    ∙ sym (ap (λ z. z.1) (drops (engine_in c.args.self.now) c.args.query (sym c.query_fault.ensures.first ∙ c.in_default.is)))

pub returns-clause-sound : goal.returns-clause-sound
returns-clause-sound c =
    let is = is_dropped c.args.self.now.streams c.args.self.now.registered.items c.args.self.now.remains.items c.args.self.now.leases.items c.stop.new.self.leases.items c.args.self.now.next c.args.self.now.slots c.stop.new.self.slots c.args.query
    c.stop.ensures.leases c.stop.ensures.slots c.leave.new.query c.index_mut.result.now (c.leave.ensures ∙ ap (λ z. machine.dropped (query_of z)) c.index_mut.ensures.value) in
    subst IsSound (sym c.stop.ensures.rest) (record {
      good = subst GoodEngine (sym is)
          (drop_good (engine_in c.args.self.now) c.args.query c.requires.good (sym c.query_fault.ensures.first ∙ c.in_default.is));
      kinds = λ g i p runs.
          let left = subst (λ gs. IsIn gs g) c.stop.ensures.leases i in
          let other = another c.args.query c.args.self.now.leases.items g left in
          c.requires.kinds g (in_filter (λ (z : Turn). not (z.node.query == c.args.query)) c.args.self.now.leases.items g left).0 p
          (sym (changed_or_there (λ remains. Dropped) c.args.query g.node.query (map remains_of c.args.self.now.remains.items) Dropped other)
          ∙ ap (λ ks. get_or ks g.node.query Dropped) (sym (remains_dropped c.args.self.now.remains.items c.args.query)) ∙ runs);
      few =
          let many : length c.stop.new.self.leases.items ≡ _ = ap (λ gs. length gs) c.stop.ensures.leases in
          let less = fewer (λ (z : Turn). not (z.node.query == c.args.query)) c.args.self.now.leases.items in
          omega (arith, many, less, c.requires.few);
      numbers = c.requires.numbers;
      named =
          c.free.ensures
          (ap (λ (u : UndroppedQueries). slice_get u.names c.args.query) c.requires.named
          ∙ named_there c.args.self.now.registered.items c.args.query c.index.result.now (there (engine_in c.args.self.now).machine c.args.query (sym c.query_fault.ensures.first ∙ c.in_default.is))
          ∙ ap (λ (r : Registration). Some (Some (string_bytes r.name))) (sym c.index.ensures) ∙ ap (λ z. Some (Some z)) (sym c.as_str.ensures.value))
          ∙ ap (λ (u : UndroppedQueries). kept (set u.names c.args.query None) (filter (λ (l : RowLimit). not (l.query == c.args.query)) u.limits)) c.requires.named
          ∙ undropped_less (map query_of c.args.self.now.registered.items) c.args.query
          ∙ ap undropped_of (sym (registered_dropped c.args.self.now.registered.items c.args.query c.leave.new.query c.index_mut.result.now (c.leave.ensures ∙ ap (λ z. machine.dropped (query_of z)) c.index_mut.ensures.value)));
      gone =
          ap (λ z. map (λ q. q.is_dropped) z) (registered_dropped c.args.self.now.registered.items c.args.query c.leave.new.query c.index_mut.result.now (c.leave.ensures ∙ ap (λ z. machine.dropped (query_of z)) c.index_mut.ensures.value))
          ∙ gone_dropped (map query_of c.args.self.now.registered.items) (map remains_of c.args.self.now.remains.items) c.args.query c.requires.gone
          ∙ ap (λ z. map is_gone z) (sym (remains_dropped c.args.self.now.remains.items c.args.query));
      columns = c.requires.columns;
      closed = subst (λ (e : PlainEngine). HaveFewClosed e.machine) (sym is)
          (few_closed_stand.goes_on (engine_in c.args.self.now).machine (machine.Drop c.args.query) 0 (sym c.query_fault.ensures.first ∙ c.in_default.is) c.requires.closed);
      readers =
          c.stop.ensures.readers ∙ ap (λ rs. filter (λ (r : WindowReader). not (r.query == c.args.query)) rs) c.requires.readers
          ∙ readers_left c.args.query 0 c.args.query (map query_of c.args.self.now.registered.items) (map runs (map remains_of c.args.self.now.remains.items)) (omega arith)
          ∙ sym (readers_changed machine.dropped (λ q j. refl) (λ q. refl) 0 c.args.query (map query_of c.args.self.now.registered.items) (set (map runs (map remains_of c.args.self.now.remains.items)) c.args.query false))
          ∙ ap (readers_from 0 (change c.args.query machine.dropped (map query_of c.args.self.now.registered.items)))
          (sym (ap (λ ks. map runs ks) (remains_set c.args.self.now.remains.items c.args.query code.Dropped) ∙ map-set runs (map remains_of c.args.self.now.remains.items) c.args.query Dropped))
          ∙ ap (λ z. readers_from 0 z (map runs (map remains_of (set c.args.self.now.remains.items c.args.query code.Dropped)))) (sym (registered_dropped c.args.self.now.registered.items c.args.query c.leave.new.query c.index_mut.result.now (c.leave.ensures ∙ ap (λ z. machine.dropped (query_of z)) c.index_mut.ensures.value)));
    })
