use Rattle.std.proofs.Common.{rules, ◌≡◌, ◌≤◌, Result, Ok, Err, OnOk}
use Rattle.std.specs.Prelude.{⊤}
use Rattle.std.specs.Result.{result_and}
use Rattle.reference.specs.declared.fault.Fault.{Fault}
use Rattle.reference.specs.declared.limits.TheConstants.{MAX_TURN}
use Rattle.workers.proofs.pool.Pool.drain.Goals as goal

-- what the first of two answers says at Ok, where both are Ok
first_says : (own others r : Result ⊤ Fault) (u : ⊤) (P : Type 0) → OnOk own P → r ≡ result_and own others → r ≡ Ok u → P
first_says (Ok a) others r u P says is ok = says
first_says (Err fault) others r u P says is ok = absurd (cc)

pub returns-in-Ok-clause-ok : goal.returns-in-Ok-clause-ok
returns-in-Ok-clause-ok g c = first_says c.scoped-own.result c.match-into_inner.others c.and.result _ _ c.scoped-own.ensures.1 c.and.ensures c.in-Ok.is

pub returns-in-Err-clause-full : goal.returns-in-Err-clause-full
returns-in-Err-clause-full g c =
    let low : 1 ≤ c.args.rows = search rules in
    let high : c.args.rows ≤ MAX_TURN = search rules in
    λ is. c.want.invariant.turns is c.args.rows low high
