use Rattle.std.proofs.Common.{◌≡◌, Ok, Err, refl, sym, subst, to_z, of_z, w64, arith}
use Rattle.std.proofs.lemmas.Int.{ints, to_z-of_z}
use Rattle.std.proofs.lemmas.Result.{err_from_is_err_and}
use Rattle.reference.specs.Looks.{Sees, look_at, look_of, seen_in, seen_of, status}
use Rattle.reference.specs.PlainViews.{world_of}
use Rattle.reference.specs.StatusViews.{status_in}
use Rattle.reference.specs.World.{Looks}
use Rattle.reference.specs.declared.fault.Fault.TheVariants.{OutOfMemory}
use Rattle.reference.proofs.plain.Plain.seen.Goals as goal

pub returns-in-Peek-clause-looks : goal.returns-in-Peek-clause-looks
returns-in-Peek-clause-looks c =
    let limit : to_z w64 (of_z w64 c.in-Peek.limit) ≡ c.in-Peek.limit = grind (arith, ints, to_z-of_z) in
    subst (λ l. Looks seen_of (look_at (world_of c.args.self.now) (look_of l)) c.peek_named.result) (sym c.in-Peek.is)
    (simp limit at (rw c.as_str.ensures.value at c.peek_named.ensures.looks))

pub returns-in-Peek-clause-sees : goal.returns-in-Peek-clause-sees
returns-in-Peek-clause-sees c =
    let limit : to_z w64 (of_z w64 c.in-Peek.limit) ≡ c.in-Peek.limit = grind (arith, ints, to_z-of_z) in
    subst (λ l. Sees (world_of c.args.self.now) (look_of l) (seen_in c.peek_named.result)) (sym c.in-Peek.is)
    (simp limit at (rw c.as_str.ensures.value at c.peek_named.ensures.sees))

pub returns-in_ok-all_status-in-Status-clause-sees : goal.returns-in_ok-all_status-in-Status-clause-sees
returns-in_ok-all_status-in-Status-clause-sees c =
    let found = status_in c.in_ok-all_status-in-Status.field-0 in
    subst (λ l. Sees (world_of c.args.self.now) (look_of l) (Ok (status found))) (sym c.in-Status.is) (Ok found, refl, tt)

pub returns-in_err-all_status-in-Status-clause-sees : goal.returns-in_err-all_status-in-Status-clause-sees
returns-in_err-all_status-in-Status-clause-sees c =
    let p = err_from_is_err_and c.from_residual.result c.from_residual.ensures.1 in
    rw (p.1, p.2) (subst (λ l. Sees (world_of c.args.self.now) (look_of l) (Err OutOfMemory)) (sym c.in-Status.is) (Err OutOfMemory, refl, refl))
