use Rattle.std.proofs.Common.{◌≤◌, ◌∙◌, ◌++◌, ◌*◌, ap, sym, arith, length, map, ℤ, Option, List}
use Rattle.values.specs.Window.{Element}
use Rattle.stream_store.specs.declared.ordered_rows.OrderedHead.{OrderedHead}
use Rattle.stream_store.specs.LateRows.{lent_rows}
use Rattle.stream_store.specs.OpenRows.{RisenRows, key_of, keys_from, risen_in, with_risen}
use Rattle.stream_store.proofs.FlatLemmas.{append_full, pushed_heads, pushed_risen}
use Rattle.stream_store.proofs.RisingLemmas.{risen_push}
use Rattle.stream_store.proofs.ordered_rows.OrderedRows.push_all.Goals as goal

pub invariant_of-self-2 : goal.invariant_of-self-2
invariant_of-self-2 c =
    let o = c.self.inside in
    let t = c.args.instant in
    let n = c.args.first in
    let instants = c.args.instants.now in
    let values = c.args.values.now in
    let heads = c.push_heads.new.heads.items in
    let given = c.requires.full ∙ ap (λ (r : RisenRows). length instants * r.width) (sym c.self.view_is) in
    let keyed = c.push_heads.ensures ∙ ap (λ (hs : List OrderedHead). map key_of hs ++ keys_from t n (length instants)) c.in_ok-reserve.ensures.items in
    let valued = c.push_values.ensures ∙ ap (λ (vs : List (Option ℤ)). vs ++ values) c.in_ok-reserve-2.ensures.items in
    let pushed = ap (λ (vs : List (Option ℤ)). risen_in o.width heads vs) valued ∙ pushed_risen o.width t n o.heads.items heads o.values.items values instants c.self.invariant.flat.full keyed in
    let reached = ap (λ (r : RisenRows). r.reached) c.self.view_is in
    let later : o.reached ≤ t = omega (arith, reached, c.requires.later) in
    let full = ap length valued ∙ append_full o.width (length instants) o.heads.items heads o.values.items values c.self.invariant.flat.full given (pushed_heads t n (length instants) o.heads.items heads keyed) in
    risen_push o.width o.reached o.heads.items o.values.items c.self.invariant t n (lent_rows o.width instants values) heads c.push_values.new.values.items later pushed full

pub returns-clause-ok : goal.returns-clause-ok
returns-clause-ok c =
    let o = c.self.inside in
    let t = c.args.instant in
    let n = c.args.first in
    let instants = c.args.instants.now in
    let values = c.args.values.now in
    let heads = c.push_heads.new.heads.items in
    let given = c.requires.full ∙ ap (λ (r : RisenRows). length instants * r.width) (sym c.self.view_is) in
    let keyed = c.push_heads.ensures ∙ ap (λ (hs : List OrderedHead). map key_of hs ++ keys_from t n (length instants)) c.in_ok-reserve.ensures.items in
    let valued = c.push_values.ensures ∙ ap (λ (vs : List (Option ℤ)). vs ++ values) c.in_ok-reserve-2.ensures.items in
    let pushed = ap (λ (vs : List (Option ℤ)). risen_in o.width heads vs) valued ∙ pushed_risen o.width t n o.heads.items heads o.values.items values instants c.self.invariant.flat.full keyed in
    ap (λ (es : List Element). record { width = o.width; reached = t; rows = es }) pushed
    ∙ ap (λ (r : RisenRows). with_risen t n (lent_rows r.width instants values) r) c.self.view_is
