-- What a peek showed leaves what waits, and counts as taken.
use Rattle.std.proofs.Common.{◌≡◌, ◌∙◌, ap, length, pos, refl, arith}
use Rattle.reference.specs.Commands.{took}
use Rattle.leases.proofs.TakeLemmas.{few_handed, handed_takes, registered_within, room_at, flat_many, shown_hands, sound_taken}
use Rattle.leases.specs.Shown.{engine_in}
use Rattle.leases.specs.Takes.{count_in, count_of}
use Rattle.leases.specs.Views.{query_of, remains_of}
use Rattle.leases.proofs.state.EngineState.take_out_shown.Goals as goal

pub index_mut-requires-2 : goal.index_mut-requires-2
index_mut-requires-2 c = let within = registered_within c.args.self.now c.args.query (pos c.args.limit) c.requires.shown.0 in omega (arith, within, c.args.self.now.registered.ok)

pub count_taken-requires : goal.count_taken-requires
count_taken-requires c =
    let room = room_at c.args.self.now c.args.query (pos c.args.limit) c.index_mut.result.now c.index_mut-2.result.now (count_in (remains_of c.index_mut.result.now) c.args.limit) c.requires.sound c.requires.shown.0 c.index_mut.ensures.value
    c.index_mut-2.ensures.value (few_handed (remains_of c.index_mut.result.now) c.args.limit) in
    let hands = shown_hands c.args.self.now c.args.query c.args.limit c.index_mut.result.now _ c.args.shown.now c.requires.sound c.requires.shown c.index_mut.ensures.value c.drop_first.ensures in
    let many : length c.args.shown.now ≡ count_in (remains_of c.index_mut.result.now) c.args.limit = flat_many c.args.shown.now (remains_of c.index_mut.result.now) c.args.limit hands.0 in
    omega (arith, room, many, c.len.ensures)

pub returns-clause-takes : goal.returns-clause-takes
returns-clause-takes c =
    let hands = shown_hands c.args.self.now c.args.query c.args.limit c.index_mut.result.now _ c.args.shown.now c.requires.sound c.requires.shown c.index_mut.ensures.value c.drop_first.ensures in
    let many : length c.args.shown.now ≡ count_in (remains_of c.index_mut.result.now) c.args.limit = flat_many c.args.shown.now (remains_of c.index_mut.result.now) c.args.limit hands.0 in
    let len : c.len.result ≡ count_in (remains_of c.index_mut.result.now) c.args.limit = omega (arith, many, c.len.ensures) in
    handed_takes (λ rows. rows) c.args.self.now _ c.args.query c.args.limit c.index_mut.result.now c.drop_first.new.remains c.index_mut-2.result.now c.count_taken.new.registered c.args.shown.now c.requires.sound c.requires.shown.0
    c.index_mut.ensures.value c.index_mut-2.ensures.value hands (c.count_taken.ensures ∙ ap (λ n. took n (query_of c.index_mut-2.result.now)) len) refl

pub returns-clause-sound : goal.returns-clause-sound
returns-clause-sound c =
    sound_taken c.args.self.now _ c.args.query (pos c.args.limit) (count_of (engine_in c.args.self.now) c.args.query (pos c.args.limit)) c.requires.sound (record { accepted = c.requires.shown.0; many = refl }) (returns-clause-takes c).2
    refl refl refl refl
