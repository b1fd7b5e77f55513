use Rattle.std.proofs.Common.{◌≡◌, ◌∙◌, Some, [], ◌∷◌, ◌++◌, ap, ap₂, arith, length, map, refl, sym, subst, subst₂}
use Rattle.std.specs.List.{position}
use Rattle.std.proofs.lemmas.List.{length-map}
use Rattle.reference.specs.Named.{name_of_registered}
use Rattle.name_table.specs.Names.{bears}
use Rattle.run_queue.specs.Changes.{without_query}
use Rattle.laws_engine.specs.Calls.{registered}
use Rattle.leases.specs.ByStream.{but_query}
use Rattle.leases.specs.Readers.{runs, windows_from}
use Rattle.leases.specs.Registering.{with_first}
use Rattle.leases.specs.Shown.{engine_in}
use Rattle.leases.specs.Undropped.{UndroppedQueries, limits_in}
use Rattle.leases.proofs.LimitLemmas.{kept}
use Rattle.leases.specs.Views.{query_of}
use Rattle.leases.specs.declared.remains.Remains.TheVariants as code
use Rattle.leases.specs.declared.state.EngineState.{EngineState}
use Rattle.leases.proofs.AddLemmas.{engine_still, engine_with, free_name, new_operators, new_sources, none_there, slots_are, sound_still, sound_with}
use Rattle.leases.proofs.ListedLemmas.{earlier_stay}
use Rattle.leases.proofs.RegisterLemmas.{left_again}
use Rattle.leases.proofs.state.EngineState.add.Goals as goal

pub put_slots-requires-clause-operators : goal.put_slots-requires-clause-operators
put_slots-requires-clause-operators c =
    new_operators (engine_in c.args.self.now) (query_of c.args.told) c.args.running c.deref.result.now c.requires.sound.good.many c.requires.good (c.deref.ensures.value ∙ c.args.told.sloped)

pub put_slots-requires-clause-new : goal.put_slots-requires-clause-new
put_slots-requires-clause-new c =
    subst (λ n. without_query n c.args.self.now.slots ≡ c.args.self.now.slots) (sym c.next_query-number.ensures) (none_there (engine_in c.args.self.now) c.requires.sound.good)

pub list-requires-clause-room : goal.list-requires-clause-room
list-requires-clause-room c =
    let rs = c.args.self.now.registered in
    let many : length c.args.self.now.undropped.names ≡ length (map name_of_registered (map query_of rs.items)) = ap (λ (u : UndroppedQueries). length u.names) c.requires.sound.named in
    omega (arith, many, length-map (map query_of rs.items) name_of_registered, length-map rs.items query_of, rs.ok)

pub list-requires-clause-fresh : goal.list-requires-clause-fresh
list-requires-clause-fresh c = ap (λ (u : UndroppedQueries). position (bears c.args.name.now) u.names) c.requires.sound.named ∙ free_name (engine_in c.args.self.now).machine c.args.name.now c.requires.fresh

pub list-requires-clause-others : goal.list-requires-clause-others
list-requires-clause-others c =
    let s = c.args.self.now in
    let e = engine_in s in
    let number = c.next_query-number.ensures in
    ap (but_query c.next_query-number.result) c.requires.sound.readers
    ∙ earlier_stay c.next_query-number.result 0 e.machine.queries (map runs e.queries) (omega (arith, number))
    ∙ sym c.requires.sound.readers

pub list-requires-clause-sources : goal.list-requires-clause-sources
list-requires-clause-sources c =
    new_sources (engine_in c.args.self.now) (query_of c.args.told) c.args.running c.deref.result.now c.requires.sound.good.many c.requires.good (c.deref.ensures.value ∙ c.args.told.sloped)

pub returns-clause-engine : goal.returns-clause-engine
returns-clause-engine c =
    let s = c.args.self.now in
    let at = c.in-Ok.ensures.ok in
    let queries : c.push_reserved.new.self.items ≡ s.registered.items ++ c.args.told ∷ [] =
    c.push_reserved.ensures.items ∙ ap (λ (z : EngineState). z.registered.items ++ c.args.told ∷ []) at ∙ ap (λ l. l ++ c.args.told ∷ []) c.reserve.ensures.items in
    let remains : c.push_reserved-2.new.self.items ≡ s.remains.items ++ code.Running c.args.running ∷ [] =
    c.push_reserved-2.ensures.items ∙ ap (λ (z : EngineState). z.remains.items ++ code.Running c.args.running ∷ []) at ∙ ap (λ l. l ++ code.Running c.args.running ∷ []) c.reserve-2.ensures.items in
    let put : c.put_slots.new.slots ≡ (registered (engine_in s) (query_of c.args.told) c.args.running).slots =
    c.in_ok-put_slots.ensures.ok ∙ ap (λ n. with_first s.streams c.args.running c.deref.result.now n (length c.deref.result.now) s.slots) c.next_query-number.ensures
    ∙ slots_are (engine_in s) (query_of c.args.told) c.args.running c.deref.result.now c.requires.sound.good.many c.requires.good (c.deref.ensures.value ∙ c.args.told.sloped) c.requires.sound.good in
    subst (λ (z : EngineState). engine_in (record z { registered = c.push_reserved.new.self; remains = c.push_reserved-2.new.self }) ≡ registered (engine_in s) (query_of c.args.told) c.args.running) (sym at)
    (engine_with s.streams s.registered.items c.push_reserved.new.self.items s.remains.items c.push_reserved-2.new.self.items s.leases.items s.next s.slots c.put_slots.new.slots c.args.told c.args.running queries remains put)

pub returns-clause-sound : goal.returns-clause-sound
returns-clause-sound c =
    let s = c.args.self.now in
    let q = query_of c.args.told in
    let at = c.in-Ok.ensures.ok in
    sound_with s _ q c.args.running c.requires.sound c.requires.good c.requires.live c.requires.earlier (returns-clause-engine c)
    (ap (λ (z : EngineState). z.leases.items) at)
    (ap (λ (z : EngineState). z.next) at)
    (ap (λ (z : EngineState). z.undropped) at ∙ ap₂ (λ n k. kept (s.undropped.names ++ Some n ∷ []) (s.undropped.limits ++ limits_in k q)) (sym c.requires.named) c.next_query-number.ensures)
    (ap (λ (z : EngineState). z.readers) at ∙ ap (λ n. s.readers ++ windows_from q n 0 q.nodes) c.next_query-number.ensures)

pub returns-in_default-clause-err : goal.returns-in_default-clause-err
returns-in_default-clause-err c =
    let s = c.args.self.now in
    let still = c.in_default.ensures.err in
    let none : without_query c.next_query-number.result s.slots ≡ s.slots = subst (λ n. without_query n s.slots ≡ s.slots) (sym c.next_query-number.ensures) (none_there (engine_in s) c.requires.sound.good) in
    let left : c.drop_query.new.self ≡ s.slots = left_again s.streams c.args.running c.deref.result.now c.next_query-number.result (length c.deref.result.now) s.slots c.put_slots.new.slots c.drop_query.new.self c.in_ok-put_slots.ensures.ok none
    (c.drop_query.ensures ∙ ap (λ (z : EngineState). without_query c.next_query-number.result z.slots) still) in
    subst (λ (z : EngineState). engine_in (record z { slots = c.drop_query.new.self }) ≡ engine_in s) (sym still)
    (engine_still s.streams s.registered.items c.reserve.new.self.items s.remains.items c.reserve-2.new.self.items s.leases.items s.next s.slots c.drop_query.new.self c.reserve.ensures.items c.reserve-2.ensures.items left)

pub returns-in_default-clause-sound : goal.returns-in_default-clause-sound
returns-in_default-clause-sound c =
    let s = c.args.self.now in
    let still = c.in_default.ensures.err in
    let none : without_query c.next_query-number.result s.slots ≡ s.slots = subst (λ n. without_query n s.slots ≡ s.slots) (sym c.next_query-number.ensures) (none_there (engine_in s) c.requires.sound.good) in
    let left : c.drop_query.new.self ≡ s.slots = left_again s.streams c.args.running c.deref.result.now c.next_query-number.result (length c.deref.result.now) s.slots c.put_slots.new.slots c.drop_query.new.self c.in_ok-put_slots.ensures.ok none
    (c.drop_query.ensures ∙ ap (λ (z : EngineState). without_query c.next_query-number.result z.slots) still) in
    sound_still s _ (ap (λ (z : EngineState). z.streams) still) (ap (λ (z : EngineState). z.undropped) still)
    (ap (λ (z : EngineState). z.registered.items) still ∙ c.reserve.ensures.items) (ap (λ (z : EngineState). z.remains.items) still ∙ c.reserve-2.ensures.items)
    (ap (λ (z : EngineState). z.leases.items) still) (ap (λ (z : EngineState). z.next) still) left (ap (λ (z : EngineState). z.readers) still) c.requires.sound
