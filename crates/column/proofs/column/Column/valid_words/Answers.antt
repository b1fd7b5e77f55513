use Rattle.std.proofs.Common.{◌∙◌, ap, sym, map, is_some, ℕ, subst}
use Rattle.column.specs.Bits.{bits, IsClear}
use Rattle.column.proofs.ColumnLemmas.{valids_again, length-column}
use Rattle.column.proofs.column.Column.valid_words.Goals as goal

pub returns-clause-value : goal.returns-clause-value
returns-clause-value c =
    ap (λ n. bits n c.words.result.now) (sym (length-column _ _ _ c.self.invariant c.self.view_is)) ∙ c.words.ensures.value ∙ sym (valids_again _ _ c.self.invariant) ∙ ap (map is_some) c.self.view_is

pub returns-clause-clear : goal.returns-clause-clear
returns-clause-clear c =
    let P : ℕ → Type 0 = λ n. IsClear n c.words.result.now in subst P (length-column _ _ _ c.self.invariant c.self.view_is) c.words.ensures.clear
