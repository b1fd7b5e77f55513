use Rattle.std.proofs.Common.{◌≡◌, ◌++◌, ◌∷◌, List, [], ℤ, Option, ap, ap₂, ◌∙◌, to_z, of_z, w64}
use Rattle.wire.specs.Usual.{RowIsShort}
use Rattle.wire.proofs.Scanning.{in_word, one_more_row, rows_end, AllByRecursion-push}
use Rattle.wire.proofs.scan.rows.Goals as goal

pub rows-preserved : goal.rows-preserved
rows-preserved c =
    let values = c.row.new.values.items in
    let row = rw c.in-Some.is at c.in_ok-at.ensures in
    let at : to_z w64 (of_z w64 c.in-Some.at) ≡ c.in-Some.at = in_word c.in-Some.at row.1.0 in
    let pushed : c.push_row.new.self ≡ c.rows.rows ++ (c.in-Some.at, values) ∷ [] =
    c.in_ok-push_row.ensures.ok ∙ ap₂ (λ (z : ℤ) (vs : List (Option ℤ)). c.rows.rows ++ (z, vs) ∷ []) at c.deref.ensures.value in
    let next = c.in-Some-eq44-default.behind.now in
    let comma : c.in-Some.behind.now ≡ 44 ∷ next = c.in-Some-eq44-default.ensures.cases.0 ∙ ap (λ b. b ∷ next) c.in-Some-eq44-default.field-0-0-test in
    let kept = c.rows.invariant in (
      one_more_row c.args.text.now c.rows.rest.now c.in-Some.behind.now next c.rows.rows c.push_row.new.self (c.in-Some.at, values) kept.0 row.0 comma pushed,
      rw pushed (AllByRecursion-push RowIsShort c.rows.rows (c.in-Some.at, values) kept.1 row.1),
    )

pub returns-in-Some-eq93-default : goal.returns-in-Some-eq93-default
returns-in-Some-eq93-default c =
    let values = c.row.new.values.items in
    let row = rw c.in-Some.is at c.in_ok-at.ensures in
    let at : to_z w64 (of_z w64 c.in-Some.at) ≡ c.in-Some.at = in_word c.in-Some.at row.1.0 in
    let pushed : c.push_row.new.self ≡ c.rows.rows ++ (c.in-Some.at, values) ∷ [] =
    c.in_ok-push_row.ensures.ok ∙ ap₂ (λ (z : ℤ) (vs : List (Option ℤ)). c.rows.rows ++ (z, vs) ∷ []) at c.deref.ensures.value in
    let next = c.in-Some-eq93-default.behind.now in
    let bracket : c.in-Some.behind.now ≡ 93 ∷ next = c.in-Some-eq93-default.ensures.cases.0 ∙ ap (λ b. b ∷ next) c.in-Some-eq93-default.field-0-0-test in
    let kept = c.rows.invariant in (
      rows_end c.args.text.now c.rows.rest.now c.in-Some.behind.now next c.rows.rows c.push_row.new.self (c.in-Some.at, values) kept.0 row.0 bracket pushed,
      rw pushed (AllByRecursion-push RowIsShort c.rows.rows (c.in-Some.at, values) kept.1 row.1),
    )
