use Rattle.std.proofs.Common.{◌<◌, ◌-◌, ◌∙◌, ap, sym, arith, length, length-drop, take, drop, List, Option, ℤ, ℕ, Some, w64}
use Rattle.std.specs.List.{slice_get}
use Rattle.std.proofs.lemmas.Int.{to_z-of_z}
use Rattle.std.proofs.lemmas.List.{length-take-le}
use Rattle.answer_rows.specs.declared.AnswerHead.{AnswerHead}
use Rattle.answer_rows.proofs.RowLemmas.{answer-at, is_at, length-rows_from}
use Rattle.answer_rows.proofs.AnswerRows.answer.Goals as goal

pub index-head-requires : goal.index-head-requires
index-head-requires c =
    let s = c.self.inside in
    omega (arith, s.heads.ok.0, c.requires, length-rows_from 0 s.heads.items s.values.items, ap (λ (es : List (ℤ × List (Option ℤ))). length es) c.self.view_is)

pub start_of-start-requires : goal.start_of-start-requires
start_of-start-requires c =
    let s = c.self.inside in
    rw c.deref.ensures.value
    (omega (arith, c.requires, length-rows_from 0 s.heads.items s.values.items, ap (λ (es : List (ℤ × List (Option ℤ))). length es) c.self.view_is))

pub part-requires-clause-order : goal.part-requires-clause-order
part-requires-clause-order c =
    let s = c.self.inside in
    let lt : c.args.number < length s.heads.items = omega (arith, c.requires, length-rows_from 0 s.heads.items s.values.items, ap (λ (es : List (ℤ × List (Option ℤ))). length es) c.self.view_is) in
    let at = is_at 0 s.heads.items (length s.values.items) c.args.number c.index-head.result.now c.self.invariant lt c.index-head.ensures in
    omega (arith, at.order, (rw c.deref.ensures.value at c.start_of-start.ensures))

pub part-requires-clause-within : goal.part-requires-clause-within
part-requires-clause-within c =
    let s = c.self.inside in
    let lt : c.args.number < length s.heads.items = omega (arith, c.requires, length-rows_from 0 s.heads.items s.values.items, ap (λ (es : List (ℤ × List (Option ℤ))). length es) c.self.view_is) in
    let at = is_at 0 s.heads.items (length s.values.items) c.args.number c.index-head.result.now c.self.invariant lt c.index-head.ensures in
    omega (arith, at.within, ap (λ (v : List (Option ℤ)). length v) c.deref-2.ensures.value)

pub returns-clause-answer : goal.returns-clause-answer
returns-clause-answer c =
    let s = c.self.inside in
    let h : AnswerHead = c.index-head.result.now in
    let lt : c.args.number < length s.heads.items = omega (arith, c.requires, length-rows_from 0 s.heads.items s.values.items, ap (λ (es : List (ℤ × List (Option ℤ))). length es) c.self.view_is) in
    let start = rw c.deref.ensures.value at c.start_of-start.ensures in
    let part = rw c.deref-2.ensures.value at c.part.ensures in
    ap (λ (es : List (ℤ × List (Option ℤ))). slice_get es c.args.number) (sym c.self.view_is)
    ∙ answer-at 0 s.heads.items s.values.items c.args.number h lt c.index-head.ensures
    ∙ ap (λ (n : ℕ). Some (h.instant, take (h.end - n) (drop n s.values.items))) (sym start)
    ∙ ap (λ (v : List (Option ℤ)). Some (h.instant, v)) (sym part)
    ∙ ap (λ (at : ℤ). Some (at, c.part.result.now)) (sym (to_z-of_z w64 c.at.result (record { sfits = c.at.type_inv }) ∙ c.at.ensures))

pub returns-clause-few : goal.returns-clause-few
returns-clause-few c =
    let s = c.self.inside in
    let h : AnswerHead = c.index-head.result.now in
    let lt : c.args.number < length s.heads.items = omega (arith, c.requires, length-rows_from 0 s.heads.items s.values.items, ap (λ (es : List (ℤ × List (Option ℤ))). length es) c.self.view_is) in
    let at = is_at 0 s.heads.items (length s.values.items) c.args.number h c.self.invariant lt c.index-head.ensures in
    let start = rw c.deref.ensures.value at c.start_of-start.ensures in
    let part = rw c.deref-2.ensures.value at c.part.ensures in
    omega (
      arith,
      at.few,
      at.within,
      start,
      ap (λ (v : List (Option ℤ)). length v) part,
      length-take-le (h.end - c.start_of-start.result) (drop c.start_of-start.result s.values.items)
          (omega (arith, at.within, length-drop c.start_of-start.result s.values.items)),
    )
