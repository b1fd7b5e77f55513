use Rattle.std.proofs.Common.{◌≡◌, ◌∙◌, ◌*◌, ◌-ℤ◌, ℕ, ℤ, pos, sym, ap₂, subst, length, arith, to_z, of_z}
use Rattle.std.proofs.lemmas.Int.{to_z-of_z}
use Rattle.lane_kernels.specs.Lanes.{IsWithin}
use Rattle.group.specs.Batches.{rows_counted}
use Rattle.group.proofs.BatchLemmas.{leaving_counted, counted_by_leaving, few_within}
use Rattle.group.proofs.cells.rows_counted.Goals as goal
use mir.Syntax.{w64}

value : (c : goal.After-less_twice) → to_z w64 (of_z w64 c.less_twice.result) ≡ rows_counted c.args.batch.now
value c =
    let rs = c.args.batch.now in
    let words = c.leaving_words.result.now in
    to_z-of_z w64 c.less_twice.result (record { sfits = c.less_twice.type_inv })
    ∙ c.less_twice.ensures
    ∙ ap₂ (λ (n m : ℕ). pos n -ℤ pos (2 * m)) c.len.ensures.value
    (c.count_set.ensures ∙ leaving_counted rs words (64 * length words) (omega (arith, c.leaving_words.ensures.clear.words_fit)) c.leaving_words.ensures.value c.leaving_words.ensures.clear.clear)
    ∙ counted_by_leaving rs

pub returns-clause-value : goal.returns-clause-value
returns-clause-value c = value c

pub returns-clause-few : goal.returns-clause-few
returns-clause-few c = subst (λ (z : ℤ). IsWithin 1024 z) (sym (value c)) (few_within c.args.batch.now c.len.ensures.batch.few)
