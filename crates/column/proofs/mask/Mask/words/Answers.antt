use Rattle.std.proofs.Common.{◌∙◌, ap, sym, ℕ, subst, List}
use Rattle.column.specs.Bits.{bits, IsClear}
use Rattle.column.proofs.BitLemmas.{length-seen}
use Rattle.column.proofs.mask.Mask.words.Goals as goal

pub returns-clause-value : goal.returns-clause-value
returns-clause-value c = ap (bits _) c.as_slice.ensures ∙ ap (λ n. bits n c.self.inside.words) (sym (length-seen _ _ _ c.self.view_is)) ∙ c.self.view_is

pub returns-clause-clear : goal.returns-clause-clear
returns-clause-clear c =
    let P : ℕ → Type 0 = λ n. IsClear n c.as_slice.result.now in
    let Q : List ℕ → Type 0 = λ ws. IsClear c.self.inside.len ws in
    subst P (length-seen _ _ _ c.self.view_is) (subst Q (sym c.as_slice.ensures) c.self.invariant.0)
