use Rattle.std.proofs.Common.{◌∙◌, ap, arith, ◌++◌, ◌∷◌, [], replicate}
use Rattle.column.specs.Bits.{bits}
use Rattle.std.proofs.lemmas.List.{replicate-append-replicate}
use Rattle.column.proofs.mask.Mask.filled_by_words.Goals as goal

pub loop-from-preserved : goal.loop-from-preserved
loop-from-preserved c = record {
  le = omega (arith, c.min-more.ensures, c.loop-from.invariant.le);
  whole = λ h. omega (arith, c.loop-from.invariant.whole (omega arith), c.min-more.ensures, h);
  filled =
      c.in_ok-push_word.ensures.ok ∙ ap (λ l. l ++ bits c.min-more.result (c.all_bits.result ∷ [])) c.loop-from.invariant.filled ∙ ap (λ l. replicate c.loop-from.from c.args.truth ++ l) c.all_bits.ensures.value
      ∙ replicate-append-replicate c.loop-from.from c.min-more.result c.args.truth;
}

pub returns : goal.returns
returns c = c.loop-from.invariant.filled ∙ ap (λ n. replicate n c.args.truth) (omega arith)
