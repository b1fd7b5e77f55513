use Rattle.std.proofs.Common.{◌∙◌, ap, sym, arith, ◌++◌, ◌∷◌, [], ◌≡◌, length, true, false, get_or, append-nil, filter}
use Rattle.std.specs.List.{range_with_len}
use Rattle.column.proofs.BatchLemmas.{filter_more, few_true, true_within}
use Rattle.column.specs.Bits.{true_places}
use Rattle.column.proofs.mask.Mask.places.Goals.{then-get+in_ok-push, else-get}
use Rattle.column.proofs.mask.Mask.places.Goals as goal

pub loop-i-preserved : goal.loop-i-preserved
loop-i-preserved c = elim c.if-get.branch [
  | then-get+in_ok-push w ↦
      ap (λ v. v.items) w.places-is ∙ w.in_ok-push.ensures.items ∙ ap (λ l. l ++ c.loop-i.i ∷ []) c.loop-i.invariant
      ∙ sym (filter_more (λ i. get_or c.args.self.now i false) c.loop-i.i true (sym c.get.ensures ∙ w.if-get.true))
  | else-get w ↦
      ap (λ v. v.items) w.places-is ∙ c.loop-i.invariant ∙ sym (append-nil _)
      ∙ sym (filter_more (λ i. get_or c.args.self.now i false) c.loop-i.i false (sym c.get.ensures ∙ w.if-get.false))
]

pub returns-clause-few : goal.returns-clause-few
returns-clause-few c =
    let done : c.loop-i.places.items ≡ true_places c.args.self.now = c.loop-i.invariant ∙ ap (λ n. filter (λ i. get_or c.args.self.now i false) (range_with_len 0 n)) (omega arith) in
    omega (arith, ap length done, few_true c.args.self.now, c.len-i-end.ensures.few, c.len-i-end.ensures.value)

pub returns-clause-within : goal.returns-clause-within
returns-clause-within c =
    let done : c.loop-i.places.items ≡ true_places c.args.self.now = c.loop-i.invariant ∙ ap (λ n. filter (λ i. get_or c.args.self.now i false) (range_with_len 0 n)) (omega arith) in
    rw done (true_within c.args.self.now)
