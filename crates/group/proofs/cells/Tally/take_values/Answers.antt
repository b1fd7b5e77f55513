use Rattle.std.proofs.Common.{◌≡◌, ◌∙◌, ◌+◌, ◌^◌, ◌<◌, ℕ, ℤ, Bool, not, false, Option, None, sym, ap, ap₂, subst, length, arith, drop, get_or}
use Rattle.std.proofs.lemmas.List.{get_or_default}
use Rattle.values.specs.Ranges.{IsAnswerValue}
use Rattle.column.specs.Bits.{bits}
use Rattle.column.proofs.BitLemmas.{length-bits, get_or-bits}
use Rattle.group.specs.Cells.{TallyState, TallyRoom, tally_by}
use Rattle.group.specs.Batches.{tally_values}
use Rattle.group.proofs.TallyLemmas.{below_more}
use Rattle.group.proofs.RoomLemmas.{tally_room, tally_room_le}
use Rattle.group.proofs.BatchLemmas.{value_more, values_end}
use Rattle.group.proofs.cells.Tally.take_values.Goals as goal

pub take-requires : goal.take-requires
take-requires c = tally_room_le (2 ^ 62 + c.loop-place.place) (2 ^ 62 + 1024) c.loop-place.self (omega (arith, c.loop-place-test.true, c.len-place-end.ensures.few)) c.loop-place.invariant.room

pub loop-place-preserved : goal.loop-place-preserved
loop-place-preserved c =
    let p = c.loop-place.place in
    let t = c.loop-place.self in
    let vs = c.args.lane.now in
    let ms = bits (length vs) c.args.minus.now in
    let within : p < length vs = omega (arith, c.loop-place-test.true, c.len-place-end.ensures.value) in
    let taken : c.take.new.self ≡ tally_by (not (get_or ms p false)) c.args.keeps (get_or vs p None) t =
    c.in_ok-take.ensures.tally ∙ ap₂ (λ (b : Bool) (v : Option ℤ). tally_by (not b) c.args.keeps v t) (c.is_set.ensures ∙ sym (get_or-bits (length vs) c.args.minus.now p false within)) c.get.ensures in
    let range : IsAnswerValue (get_or vs p None) = subst IsAnswerValue c.get.ensures c.in_ok-take.ensures.range in
    let more : 2 ^ 62 + p + 1 ≡ 2 ^ 62 + (p + 1) = omega arith in
    record {
      done =
          ap (λ (u : TallyState). tally_values c.args.keeps (drop (p + 1) ms) (drop (p + 1) vs) u) taken
          ∙ value_more c.args.keeps ms vs p t (omega (arith, within, length-bits (length vs) c.args.minus.now)) within
          ∙ c.loop-place.invariant.done;
      room = subst (λ (n : ℕ). TallyRoom n c.take.new.self) more (subst (TallyRoom (2 ^ 62 + p + 1)) (sym taken) (tally_room (2 ^ 62 + p) (not (get_or ms p false)) c.args.keeps (get_or vs p None) t range c.loop-place.invariant.room));
      range = λ k h. below_more (λ j. IsAnswerValue (get_or vs j None)) p c.loop-place.invariant.range range k (omega (arith, h));
    }

pub returns-clause-tally : goal.returns-clause-tally
returns-clause-tally c =
    let vs = c.args.lane.now in
    let ms = bits (length vs) c.args.minus.now in
    sym (values_end c.args.keeps c.loop-place.place ms (drop c.loop-place.place vs) c.loop-place.self (omega (arith, length-bits (length vs) c.args.minus.now, c.loop-place-test.false, c.len-place-end.ensures.value)))
    ∙ c.loop-place.invariant.done

pub returns-clause-range : goal.returns-clause-range
returns-clause-range c = λ k d h.
    subst IsAnswerValue (get_or_default c.args.lane.now k None d h) (c.loop-place.invariant.range k (omega (arith, h, c.loop-place-test.false, c.len-place-end.ensures.value)))
