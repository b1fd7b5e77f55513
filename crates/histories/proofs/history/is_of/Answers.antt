use Rattle.std.proofs.Common.{◌≡◌, ◌≤◌, ◌+◌, ◌-◌, ◌∙◌, sym, length, rules, arith, None, Some}
use Rattle.std.proofs.lemmas.Option.{slice_get_past}
use Rattle.histories.specs.Receipts.{IsOf}
use Rattle.histories.proofs.history.is_of.Goals as goal

pub returns-in-None : goal.returns-in-None
returns-in-None c =
    let k = c.number-number.result - c.args.first in
    let past : length c.args.history.now ≤ k = search rules in
    let at : c.args.receipt.now.number ≡ c.args.first + k = omega (arith, c.if-number-first.false, c.number-number.ensures.value) in (
      λ f. cc,
      λ (h : IsOf c.args.first c.args.history.now c.args.receipt.now).
          let some : Some c.args.receipt.now.entry ≡ None = sym (h.entry k at) ∙ slice_get_past c.args.history.now k past in
          cc,
    )
