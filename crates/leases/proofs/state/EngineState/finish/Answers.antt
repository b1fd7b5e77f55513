-- The turn of the number is not there, or is another, or comes back.
use Rattle.std.proofs.Common.{◌≡◌, ◌==◌, Some, None, true, false, IsTrue, refl, sym, ap, ◌∙◌, subst, eqb-true}
use Rattle.std.specs.List.{find}
use Rattle.turn.specs.declared.parts.Parts.{Parts}
use Rattle.leases.specs.Applied.{IsOutIn, IsTurn}
use Rattle.leases.specs.Shown.{engine_in}
use Rattle.turn.specs.declared.turns.Turn.{Turn}
use Rattle.leases.proofs.FinishBackLemmas.{HasComeBack}
use Rattle.leases.proofs.OutLemmas.{found_in, none_numbered}
use Rattle.leases.proofs.FinishSoundLemmas.{stranger, turn_out}
use Rattle.leases.proofs.state.EngineState.finish.Goals as goal

pub returns-in_default-clause-finishes : goal.returns-in_default-clause-finishes
returns-in_default-clause-finishes c =
    let e : None ≡ find (λ (g : Turn). g.lease == c.parts.result.now.lease) c.args.self.now.leases.items = c.in_default.ensures in
    ((λ l i same. none_numbered c.args.self.now.leases.items c.parts.result.now.lease e l i (same ∙ sym (ap (λ (d : Parts). d.lease) c.parts.ensures.value))), refl)

pub returns-then-not-is_turn-clause-finishes : goal.returns-then-not-is_turn-clause-finishes
returns-then-not-is_turn-clause-finishes c =
    let e : Some c.in-Some.turn.now ≡ find (λ (g : Turn). g.lease == c.parts.result.now.lease) c.args.self.now.leases.items = c.in-Some.ensures in
    let f = found_in (λ (g : Turn). g.lease == c.parts.result.now.lease) c.args.self.now.leases.items c.in-Some.turn.now e in
    let number : c.in-Some.turn.now.lease ≡ c.args.done.lease = eqb-true c.in-Some.turn.now.lease c.parts.result.now.lease f.1 ∙ ap (λ (d : Parts). d.lease) c.parts.ensures.value in
    let test : c.is_turn.result ≡ false = c.if-not-is_turn.true in (
      stranger c.args.self.now c.args.done c.in-Some.turn.now c.requires f.0 number
          (λ t. let is : IsTrue c.is_turn.result = c.is_turn.ensures.1 (subst (IsTurn c.in-Some.turn.now) (sym c.parts-2.ensures.value) t) in let bad : false ≡ true = sym test ∙ is in absurd (cc)),
      refl,
    )

pub take_back-requires-clause-out : goal.take_back-requires-clause-out
take_back-requires-clause-out c =
    let e : Some c.in-Some.turn.now ≡ find (λ (g : Turn). g.lease == c.parts.result.now.lease) c.args.self.now.leases.items = c.in-Some.ensures in
    let f = found_in (λ (g : Turn). g.lease == c.parts.result.now.lease) c.args.self.now.leases.items c.in-Some.turn.now e in
    let number : c.in-Some.turn.now.lease ≡ c.args.done.lease = eqb-true c.in-Some.turn.now.lease c.parts.result.now.lease f.1 ∙ ap (λ (d : Parts). d.lease) c.parts.ensures.value in
    subst (IsOutIn (engine_in c.args.self.now)) (sym c.into_parts.ensures.value)
    (turn_out c.args.self.now c.args.done c.in-Some.turn.now c.requires f.0 number (subst (IsTurn c.in-Some.turn.now) c.parts-2.ensures.value (c.is_turn.ensures.0 c.if-not-is_turn.false)))

pub returns-clause-finishes : goal.returns-clause-finishes
returns-clause-finishes c = subst (λ d. HasComeBack (engine_in c.args.self.now) d (engine_in c.take_back.new.self)) c.into_parts.ensures.value c.in_ok-take_back.ensures.back
