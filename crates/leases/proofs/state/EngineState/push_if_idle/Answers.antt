use Rattle.std.proofs.Common.{◌++◌, ap, sym, ◌∙◌}
use Rattle.leases.specs.Shown.{engine_in}
use Rattle.leases.proofs.ReaderLemmas.{resting_asked, resting_comes}
use Rattle.leases.proofs.state.EngineState.push_if_idle.Goals as goal

pub slot-requires : goal.slot-requires
slot-requires c = resting_asked (engine_in c.args.self.now) c.requires c.args.reader.now.query c.args.reader.now.operator (sym c.is_idle.ensures ∙ c.if-not-is_idle.false)

pub returns : goal.returns
returns c =
    c.in_ok-push.ensures.items
    ∙ ap (λ z. c.args.slots.now.items ++ z)
    (sym (resting_comes (engine_in c.args.self.now) c.requires c.args.reader.now.query c.args.reader.now.operator c.slot.result (sym c.is_idle.ensures ∙ c.if-not-is_idle.false) c.slot.ensures))
