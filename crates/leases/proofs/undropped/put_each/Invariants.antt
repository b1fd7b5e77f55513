use Rattle.std.proofs.Common.{◌≡◌, ◌+◌, ◌++◌, ◌≤◌, drop, length, map}
use Rattle.std.specs.Vec.{vec_capacity, vec_len}
use Rattle.leases.specs.Undropped.{limit_at}
use Rattle.leases.specs.Views.{place_of}
use Rattle.leases.proofs.undropped.put_each.Given as goal

-- with the limits of the sources that are left all have come, and there is room for them
abbrev pub invariant-loop-place : goal.invariant-loop-place
invariant-loop-place l = record {
  room : vec_len l.limits + length (drop l.place-index l.places) ≤ vec_capacity l.limits;
  come : l.limits.items ++ map (limit_at l.query l.rows) (map place_of (drop l.place-index l.places)) ≡ l.fn.limits.items ++ map (limit_at l.query l.rows) (map place_of l.places);
}
