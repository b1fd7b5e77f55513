use Rattle.std.proofs.Common.{◌≡◌, ◌∙◌, ap, ap₂, sym, subst, length, length-append, List, ◌∷◌, ◌++◌, ◌+◌, [], ℕ, Option, ℤ, w64}
use Rattle.std.proofs.lemmas.Int.{to_z-of_z}
use Rattle.answer_rows.specs.declared.AnswerHead.{AnswerHead}
use Rattle.answer_rows.specs.Rows.{rows_from, AreEnded}
use Rattle.answer_rows.proofs.RowLemmas.{rows_from-more, AreEnded-more}
use Rattle.answer_rows.proofs.AnswerRows.push.Goals as goal

pub invariant_of-self-2 : goal.invariant_of-self-2
invariant_of-self-2 c =
    let hs : List AnswerHead = c.self.inside.heads.items in
    let vs : List (Option ℤ) = c.self.inside.values.items in
    let r : List (Option ℤ) = c.args.row.now in
    let h : AnswerHead = record { instant = c.args.at; end = c.len-end.result } in
    let heads : c.push_reserved.new.self.items ≡ hs ++ h ∷ [] = (simp (to_z-of_z w64 c.args.at c.ranges.at) at c.push_reserved.ensures.items) ∙ ap (λ (l : List AnswerHead). l ++ h ∷ []) c.in_ok-reserve.ensures.items in
    let values : c.extend_from_slice.new.self.items ≡ vs ++ r = c.in_ok-extend_from_slice.ensures.items in
    let long : length c.extend_from_slice.new.self.items ≡ length vs + length r = ap length values ∙ length-append vs r in
    let ends : h.end ≡ length vs + length r = c.len-end.ensures ∙ c.extend_from_slice.new.self.ok.0 ∙ long in
    subst (λ (l : List AnswerHead). AreEnded 0 l (length c.extend_from_slice.new.self.items)) (sym heads)
    (subst (λ (n : ℕ). AreEnded 0 (hs ++ h ∷ []) n) (sym long) (AreEnded-more 0 hs (length vs) (length r) h c.self.invariant ends c.requires))

pub returns-clause-ok : goal.returns-clause-ok
returns-clause-ok c =
    let hs : List AnswerHead = c.self.inside.heads.items in
    let vs : List (Option ℤ) = c.self.inside.values.items in
    let r : List (Option ℤ) = c.args.row.now in
    let h : AnswerHead = record { instant = c.args.at; end = c.len-end.result } in
    let heads : c.push_reserved.new.self.items ≡ hs ++ h ∷ [] = (simp (to_z-of_z w64 c.args.at c.ranges.at) at c.push_reserved.ensures.items) ∙ ap (λ (l : List AnswerHead). l ++ h ∷ []) c.in_ok-reserve.ensures.items in
    let values : c.extend_from_slice.new.self.items ≡ vs ++ r = c.in_ok-extend_from_slice.ensures.items in
    let long : length c.extend_from_slice.new.self.items ≡ length vs + length r = ap length values ∙ length-append vs r in
    let ends : h.end ≡ length vs + length r = c.len-end.ensures ∙ c.extend_from_slice.new.self.ok.0 ∙ long in
    ap₂ (λ (l : List AnswerHead) (v : List (Option ℤ)). rows_from 0 l v) heads values
    ∙ rows_from-more 0 hs vs r h c.self.invariant ends
    ∙ ap (λ (es : List (ℤ × List (Option ℤ))). es ++ (c.args.at, r) ∷ []) c.self.view_is
