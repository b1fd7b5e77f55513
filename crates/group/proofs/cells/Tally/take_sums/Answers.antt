use Rattle.std.proofs.Common.{◌∙◌, sym, subst, arith, ℤ}
use Rattle.std.proofs.lemmas.Int.{to_z-of_z}
use Rattle.lane_kernels.specs.Lanes.{IsWithin}
use Rattle.group.proofs.BatchLemmas.{count_within}
use Rattle.group.proofs.cells.Tally.take_sums.Goals as goal
use mir.Syntax.{w64}

pub count_added-self-inside-requires-clause-more : goal.count_added-self-inside-requires-clause-more
count_added-self-inside-requires-clause-more c =
    subst (λ (z : ℤ). IsWithin 1024 z) (sym (to_z-of_z w64 c.count_signed.result (record { sfits = c.count_signed.type_inv }) ∙ c.count_signed.ensures))
    (count_within _ c.args.lane.now (omega (arith, c.len.ensures.value, c.len.ensures.few)))
