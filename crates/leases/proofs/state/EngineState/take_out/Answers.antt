-- What is handed out leaves what waits, and counts as taken.
use Rattle.std.proofs.Common.{◌≡◌, ◌∙◌, ℤ, Option, Vec, ap, length, pos, refl, arith}
use Rattle.std.specs.Global.{Global}
use Rattle.arrayvec.specs.ArrayVec.{ArrayVec}
use Rattle.std.proofs.lemmas.Result.{err_from_is_err_and}
use Rattle.reference.specs.CallViews.{handed_of}
use Rattle.reference.specs.Commands.{took}
use Rattle.leases.proofs.TakeLemmas.{few_handed, handed_takes, refused_same, refused_takes, registered_within, room_at, rows_many, signed_at, sound_again, sound_taken}
use Rattle.leases.specs.Shown.{engine_in}
use Rattle.leases.specs.Takes.{count_in, count_of}
use Rattle.leases.specs.Views.{query_of, remains_of}
use Rattle.leases.proofs.state.EngineState.take_out.Goals as goal

pub hand_out-requires : goal.hand_out-requires
hand_out-requires c = signed_at c.args.self.now c.args.query (pos c.args.limit) c.index_mut.result.now c.requires.sound c.requires.accepted c.index_mut.ensures.value

pub returns-in_err-rows-clause-takes : goal.returns-in_err-rows-clause-takes
returns-in_err-rows-clause-takes c =
    let p = err_from_is_err_and c.from_residual.result c.from_residual.ensures.1 in
    refused_takes (λ v. handed_of v.items) c.args.self.now _ c.args.query c.args.limit c.index_mut.result.now c.hand_out.new.remains c.in_err-rows.field-0.0 c.from_residual.result (rw (p.1, p.2) refl) c.requires.sound c.requires.accepted
    c.index_mut.ensures.value c.in_err-rows.ensures refl

pub returns-in_err-rows-clause-sound : goal.returns-in_err-rows-clause-sound
returns-in_err-rows-clause-sound c =
    sound_again c.args.self.now _ c.requires.sound
    (refused_same (λ (v : Vec (ℤ × ArrayVec (Option ℤ)) Global). handed_of v.items) c.args.self.now _ c.args.query c.args.limit c.index_mut.result.now c.hand_out.new.remains c.in_err-rows.field-0.0 c.requires.sound c.requires.accepted c.index_mut.ensures.value c.in_err-rows.ensures refl)
    refl refl refl refl

pub index_mut-requires-2 : goal.index_mut-requires-2
index_mut-requires-2 c = let within = registered_within c.args.self.now c.args.query (pos c.args.limit) c.requires.accepted in omega (arith, within, c.args.self.now.registered.ok)

pub count_taken-requires : goal.count_taken-requires
count_taken-requires c =
    let room = room_at c.args.self.now c.args.query (pos c.args.limit) c.index_mut.result.now c.index_mut-2.result.now (count_in (remains_of c.index_mut.result.now) c.args.limit) c.requires.sound c.requires.accepted c.index_mut.ensures.value
    c.index_mut-2.ensures.value (few_handed (remains_of c.index_mut.result.now) c.args.limit) in
    let many : length c.in_ok-rows.rows.items ≡ count_in (remains_of c.index_mut.result.now) c.args.limit = rows_many c.in_ok-rows.rows.items (remains_of c.index_mut.result.now) c.args.limit c.in_ok-rows.ensures.0 in
    omega (arith, room, many, c.len.ensures, c.in_ok-rows.rows.ok)

pub returns-clause-takes : goal.returns-clause-takes
returns-clause-takes c =
    let many : length c.in_ok-rows.rows.items ≡ count_in (remains_of c.index_mut.result.now) c.args.limit = rows_many c.in_ok-rows.rows.items (remains_of c.index_mut.result.now) c.args.limit c.in_ok-rows.ensures.0 in
    let len : c.len.result ≡ count_in (remains_of c.index_mut.result.now) c.args.limit = omega (arith, many, c.len.ensures, c.in_ok-rows.rows.ok) in
    handed_takes (λ v. handed_of v.items) c.args.self.now _ c.args.query c.args.limit c.index_mut.result.now c.hand_out.new.remains c.index_mut-2.result.now c.count_taken.new.registered c.in_ok-rows.rows c.requires.sound c.requires.accepted
    c.index_mut.ensures.value c.index_mut-2.ensures.value c.in_ok-rows.ensures (c.count_taken.ensures ∙ ap (λ n. took n (query_of c.index_mut-2.result.now)) len) refl

pub returns-clause-sound : goal.returns-clause-sound
returns-clause-sound c =
    sound_taken c.args.self.now _ c.args.query (pos c.args.limit) (count_of (engine_in c.args.self.now) c.args.query (pos c.args.limit)) c.requires.sound (record { accepted = c.requires.accepted; many = refl }) (returns-clause-takes c).2
    refl refl refl refl
