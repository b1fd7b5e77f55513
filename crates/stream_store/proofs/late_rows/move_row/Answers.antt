use Rattle.std.proofs.Common.{◌≡◌, ◌∙◌, ◌*◌, ◌+◌, ◌-◌, ap, arith, drop, set, ℕ, ℤ, List, Option}
use Rattle.std.proofs.Math.Seq.{paste}
use Rattle.std.proofs.lemmas.List.{take_at}
use Rattle.stream_store.specs.LateRows.{rows_in}
use Rattle.stream_store.proofs.KeepLemmas.{moved-row}
use Rattle.stream_store.proofs.late_rows.move_row.Goals as goal

pub returns-clause-rows : goal.returns-clause-rows
returns-clause-rows c = λ r.
    let numbers : List ℕ = c.args.numbers.now.items in
    let values : List (Option ℤ) = c.args.values.now.items in
    let width = c.args.width in
    let to : ℕ = c.args.to * width in
    let start : ℕ = c.args.from * width in
    let span : start + width - start ≡ width = omega arith in
    let whole = take_at c.copy_within.new.self _ c.args.values.now.len (c.copy_within.ensures.len ∙ c.as_mut_slice.ensures.len) in
    let pasted : c.copy_within.new.self ≡ paste values to (drop start values) width =
    c.copy_within.ensures.after
    ∙ ap (λ (vs : List (Option ℤ)). paste vs to (drop start vs) (start + width - start)) c.as_mut_slice.ensures.value
    ∙ ap (λ n. paste values to (drop start values) n) span in
    ap (λ (vs : List (Option ℤ)). rows_in width (set numbers c.args.to c.index.result.now) vs) (whole ∙ pasted)
    ∙ moved-row width c.args.from c.args.to numbers values c.index.result.now r c.requires.before c.requires.within c.requires.full c.index.ensures
