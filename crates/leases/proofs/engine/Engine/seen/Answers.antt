use Rattle.std.specs.Bool.{⊤}
use Rattle.std.proofs.Common.{◌≡◌, sym, subst, to_z, of_z, w64, arith}
use Rattle.std.proofs.lemmas.Int.{ints, to_z-of_z}
use Rattle.reference.specs.Looks.{NeedsWhole, Sees, look_at, look_of, seen_in, seen_of}
use Rattle.reference.specs.World.{Looks}
use Rattle.leases.specs.Looks.{Shows}
use Rattle.leases.specs.Shown.{engine_in, world_in}
use Rattle.leases.specs.Whole.{IsWhole}
use Rattle.leases.proofs.engine.Engine.seen.Goals as goal

pub returns-in-Peek-clause-looks : goal.returns-in-Peek-clause-looks
returns-in-Peek-clause-looks c =
    let limit : to_z w64 (of_z w64 c.in-Peek.limit) ≡ c.in-Peek.limit = grind (arith, ints, to_z-of_z) in
    subst (λ l. (NeedsWhole (look_of l) → IsWhole c.args.self.now) → Looks seen_of (look_at (world_in c.args.self.now) (look_of l)) c.peek_named.result) (sym c.in-Peek.is)
    (λ (whole : ⊤ → IsWhole c.args.self.now). (simp limit at (rw c.as_str.ensures.value at c.peek_named.ensures.looks)) (whole tt))

pub returns-in-Peek-clause-sees : goal.returns-in-Peek-clause-sees
returns-in-Peek-clause-sees c =
    let limit : to_z w64 (of_z w64 c.in-Peek.limit) ≡ c.in-Peek.limit = grind (arith, ints, to_z-of_z) in
    subst (λ l. Sees (world_in c.args.self.now) (look_of l) (seen_in c.peek_named.result)) (sym c.in-Peek.is)
    (simp limit at (rw c.as_str.ensures.value at c.peek_named.ensures.sees))

pub returns-in-Peek-clause-shows : goal.returns-in-Peek-clause-shows
returns-in-Peek-clause-shows c =
    let limit : to_z w64 (of_z w64 c.in-Peek.limit) ≡ c.in-Peek.limit = grind (arith, ints, to_z-of_z) in
    subst (λ l. Shows (engine_in c.args.self.now) (look_of l) (seen_in c.peek_named.result)) (sym c.in-Peek.is)
    (simp limit at (rw c.as_str.ensures.value at c.peek_named.ensures.shows))
