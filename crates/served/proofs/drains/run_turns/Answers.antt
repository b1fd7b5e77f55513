use Rattle.std.proofs.Common.{◌∙◌, ap, rules, subst, Ok, Err}
use Rattle.hub.specs.Steps.{Hands}
use Rattle.served.proofs.Requests.{full_of}
use Rattle.served.proofs.drains.run_turns.Goals as goal
use Rattle.served.proofs.drains.run_turns.Goals.{in-None, in-Some+in-Ok-Idle}

pub returns : goal.returns
returns g c = elim c.match-next.branch [
  | in-None w ↦ search rules
  | in-Some+in-Ok-Idle w ↦
      let h = w.lease.ensures in
      (h.0, h.1, subst (λ r. Hands h.0 c.args.rows r h.1) (w.in-Ok-Idle.is ∙ ap Ok w.in-Ok-Idle.field-0-is) h.2)
]

pub returns-in-Err-TooManyLeases : goal.returns-in-Err-TooManyLeases
returns-in-Err-TooManyLeases g c =
    full_of c.lease.ensures.0 c.lease.ensures.1 c.args.rows c.lease.result (c.in-Err-TooManyLeases.is ∙ ap Err c.in-Err-TooManyLeases.field-0-is) c.lease.ensures.2
