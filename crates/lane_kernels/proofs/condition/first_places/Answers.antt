use Rattle.std.proofs.Common.{arith, ap, ◌∙◌, ◌≡◌, ◌-◌, ◌^◌}
use Rattle.std.specs.Int.{bit_at}
use Rattle.std.proofs.lemmas.Nat.Bits.{ones_shr, bit_at_ones, bit_at_ones_above}
use Rattle.lane_kernels.proofs.condition.first_places.Goals as goal

pub returns-clause-inside : goal.returns-clause-inside
returns-clause-inside c = λ k h.
    let e : 64 - (64 - c.args.count) ≡ c.args.count = omega arith in
    ap (λ n. bit_at n k) (ones_shr 64 (64 - c.args.count) (omega arith)) ∙ ap (λ m. bit_at (2 ^ m - 1) k) e ∙ bit_at_ones c.args.count k h

pub returns-clause-outside : goal.returns-clause-outside
returns-clause-outside c = λ k h.
    let e : 64 - (64 - c.args.count) ≡ c.args.count = omega arith in
    ap (λ n. bit_at n k) (ones_shr 64 (64 - c.args.count) (omega arith)) ∙ ap (λ m. bit_at (2 ^ m - 1) k) e ∙ bit_at_ones_above c.args.count k h
