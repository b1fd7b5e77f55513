use Rattle.std.proofs.Common.{refl}
use Rattle.reference.proofs.KeptLemmas.{same_parts}
use Rattle.reference.proofs.new_rows.same_kept.Goals as goal

pub returns-then-not-same_instants : goal.returns-then-not-same_instants
returns-then-not-same_instants c =
    (λ f. cc, λ e. c.if-not-same_instants.ensures.1 (same_parts _ _ _ _ _ _ c.requires.lengths c.requires.all c.requires.other_lengths c.requires.other_all e).0)

pub returns-then-not-same_widths : goal.returns-then-not-same_widths
returns-then-not-same_widths c =
    (λ f. cc, λ e. c.if-not-same_widths.ensures.1 (same_parts _ _ _ _ _ _ c.requires.lengths c.requires.all c.requires.other_lengths c.requires.other_all e).1)

pub returns : goal.returns
returns c = (
  λ t. let i = c.if-not-same_instants.ensures.0 refl in let w = c.if-not-same_widths.ensures.0 refl in let v = c.same_values.ensures.0 t in rw (i, w, v) refl,
  λ e. c.same_values.ensures.1 (same_parts _ _ _ _ _ _ c.requires.lengths c.requires.all c.requires.other_lengths c.requires.other_all e).2,
)
