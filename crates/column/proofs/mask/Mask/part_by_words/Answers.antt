use Rattle.std.proofs.Common.{◌≡◌, ◌∙◌, ap, subst, arith, List, Bool, ◌/◌, ◌+◌, IfOk, slice_range}
use Rattle.column.specs.Bits.{place}
use Rattle.column.proofs.BitLemmas.{part_seen, length-seen}
use Rattle.column.proofs.Slices.{slice_range_none}
use Rattle.column.proofs.mask.Mask.part_by_words.Goals as goal

pub returns-then-end-from : goal.returns-then-end-from
returns-then-end-from c =
    let P : List Bool → Type 0 = λ bs. IfOk c.with_capacity.result (λ m. m ≡ bs) in
    subst P (slice_range_none c.args.self.now c.args.from c.args.to c.min-end.result (omega (arith, c.min-end.ensures, length-seen _ _ _ c.self.view_is)) c.if-end-from.true) c.with_capacity.ensures

pub returns : goal.returns
returns c =
    part_seen _ _ _ c.args.from c.args.to c.min-end.result c.clear_past.new.words c.self.view_is c.requires c.min-end.ensures c.if-end-from.false
    (λ i h. c.clear_past.ensures.same i h ∙ ap (λ ws. place ws i) (c.in_ok-words.ensures ∙ ap (λ ws. slice_range ws (c.args.from / 64) ((c.min-end.result + 63) / 64)) c.as_slice.ensures))
