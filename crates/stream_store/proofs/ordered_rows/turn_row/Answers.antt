use Rattle.std.proofs.Common.{◌≡◌, ◌∙◌, ◌*◌, ap, ap₂, arith, length, sym, true, false, ℤ, List, Option}
use Rattle.stream_store.specs.declared.ordered_rows.OrderedHead.{OrderedHead}
use Rattle.stream_store.specs.OpenRows.{instant_of, risen_in}
use Rattle.stream_store.specs.Starts.{has_reader, is_read}
use Rattle.stream_store.proofs.KeepLemmas.{front_full, gone_full, length-turned, turned-gone, turned-kept}
use Rattle.stream_store.proofs.ordered_rows.turn_row.Goals as goal

pub rotate_left-requires-then-is_read : goal.rotate_left-requires-then-is_read
rotate_left-requires-then-is_read c =
    omega (arith, front_full c.args.width c.args.heads.now.items c.args.values.now.items c.requires.some c.requires.full, c.args.values.now.ok)

pub returns-then-is_read-clause-full : goal.returns-then-is_read-clause-full
returns-then-is_read-clause-full c =
    let heads = c.args.heads.now.items in
    let values = c.args.values.now.items in
    ap length c.rotate_left-then-is_read.ensures.items
    ∙ length-turned c.args.width values (front_full c.args.width heads values c.requires.some c.requires.full)
    ∙ c.requires.full
    ∙ ap (λ n. n * c.args.width) (sym (length-turned 1 heads (omega (arith, c.requires.some))) ∙ ap length (sym c.rotate_left.ensures.items))

pub returns-then-is_read-clause-rows : goal.returns-then-is_read-clause-rows
returns-then-is_read-clause-rows c =
    let heads = c.args.heads.now.items in
    let values = c.args.values.now.items in
    let h : OrderedHead = c.index-head.result.now in
    let passes : is_read c.args.starts.now h.number (instant_of h) ≡ true = ap (λ t. is_read c.args.starts.now h.number t) (sym c.instant.ensures) ∙ sym c.is_read.ensures ∙ c.if-is_read.true in
    ap₂ (λ (hs : List OrderedHead) (vs : List (Option ℤ)). risen_in c.args.width hs vs) c.rotate_left.ensures.items c.rotate_left-then-is_read.ensures.items
    ∙ turned-kept (has_reader c.args.starts.now) c.args.width h heads values c.requires.some c.requires.full c.index-head.ensures passes

pub returns-clause-full : goal.returns-clause-full
returns-clause-full c =
    let heads = c.args.heads.now.items in
    let values = c.args.values.now.items in
    ap length c.leave_values.ensures
    ∙ gone_full c.args.width heads values c.requires.some c.requires.full
    ∙ ap (λ (hs : List OrderedHead). length hs * c.args.width) (sym c.leave_heads.ensures)

pub returns-clause-rows : goal.returns-clause-rows
returns-clause-rows c =
    let heads = c.args.heads.now.items in
    let values = c.args.values.now.items in
    let h : OrderedHead = c.index-head.result.now in
    let fails : is_read c.args.starts.now h.number (instant_of h) ≡ false = ap (λ t. is_read c.args.starts.now h.number t) (sym c.instant.ensures) ∙ sym c.is_read.ensures ∙ c.if-is_read.false in
    ap₂ (λ (hs : List OrderedHead) (vs : List (Option ℤ)). risen_in c.args.width hs vs) c.leave_heads.ensures c.leave_values.ensures
    ∙ turned-gone (has_reader c.args.starts.now) c.args.width h heads values c.requires.some c.index-head.ensures fails
