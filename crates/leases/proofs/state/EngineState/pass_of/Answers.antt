use Rattle.std.proofs.Common.{◌≡◌, ◌<◌, ◌≤◌, ℕ, arith, ap, subst, length, map, List, []}
use Rattle.std.proofs.lemmas.List.{nil_from_length}
use Rattle.turn.specs.declared.turns.Turn.{Turn}
use Rattle.leases.specs.Passing.{AreSlotsOf}
use Rattle.leases.specs.Shown.{engine_in}
use Rattle.leases.specs.Views.{lease_of}
use Rattle.leases.proofs.state.EngineState.pass_of.Goals as goal

pub returns-in-Ok : goal.returns-in-Ok
returns-in-Ok c =
    let s = c.args.self.now in
    let until : ℕ = c.quiet_until-until.result in
    let later : c.in-Some.start < until = omega (arith, c.if-until-start.false) in
    let enough : c.saturating_add-least.result ≤ until = omega (arith, c.if-until-least.false) in
    let none : length s.leases.items ≡ 0 = omega (arith, c.len.ensures, c.if-len-gt0.false) in
    record {
      returned = ap (λ ts. map lease_of ts) (nil_from_length s.leases.items none);
      start = c.in-Some.start;
      may = λ p running. c.quiet_until-until.ensures p running until later (omega arith) enough;
      listed = subst (λ (n : ℕ). AreSlotsOf (engine_in s) n c.in-Ok.slots.items) c.query.ensures c.in-Ok.ensures;
    }
