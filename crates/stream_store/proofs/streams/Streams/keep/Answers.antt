use Rattle.std.proofs.Common.{◌≡◌, ◌<◌, ◌∙◌, length, List, Some, ap, arith, subst, sym}
use Rattle.std.specs.Option.{option_map}
use Rattle.std.specs.Prelude.{slice_get}
use Rattle.std.proofs.Math.Seq.{map-set_same}
use Rattle.reference.specs.Machine.{Stream}
use Rattle.reference.specs.Commands.{change}
use Rattle.reference.proofs.StepLemmas.{set-change_self}
use Rattle.stream_store.specs.Kept.{SaysKept, SaysKeptOf, count_closed, kept_stream}
use Rattle.stream_store.proofs.KeepLemmas.{said_there, stream_found, stream_there}
use Rattle.stream_store.proofs.streams.Streams.keep.Goals as goal

pub index_mut-requires : goal.index_mut-requires
index_mut-requires c =
    let xs = c.self.inside.streams.items in
    let there = subst (λ (ys : List Stream). option_map count_closed (slice_get ys c.args.stream) ≡ Some (length c.args.kept.now)) (sym c.self.view_is) c.requires in
    omega (arith, stream_there count_closed xs c.args.stream (length c.args.kept.now) there, c.self.inside.streams.ok)

pub keep-requires : goal.keep-requires
keep-requires c =
    let xs = c.self.inside.streams.items in
    let old = c.index_mut.result.now in
    let there = subst (λ (ys : List Stream). option_map count_closed (slice_get ys c.args.stream) ≡ Some (length c.args.kept.now)) (sym c.self.view_is) c.requires in
    sym (stream_found count_closed xs c.args.stream (length c.args.kept.now) old there) ∙ ap (λ (s : Stream). count_closed s) (sym c.index_mut.ensures.value)

pub invariant_of-self : goal.invariant_of-self
invariant_of-self c =
    let old = c.index_mut.result.now in
    c.self.invariant
    ∙ sym (map-set_same (λ (s : Stream). Some s.name) c.self.inside.streams.items c.args.stream c.keep.new.self old
    (ap (λ (s : Stream). Some s.name) c.keep.ensures.rest ∙ ap (λ (s : Stream). Some s.name) c.index_mut.ensures.value))

pub returns : goal.returns
returns c = λ keep says.
    let xs = c.self.inside.streams.items in
    let old = c.index_mut.result.now in
    let there = subst (λ (ys : List Stream). option_map count_closed (slice_get ys c.args.stream) ≡ Some (length c.args.kept.now)) (sym c.self.view_is) c.requires in
    let lt : c.args.stream < length xs = stream_there count_closed xs c.args.stream (length c.args.kept.now) there in
    let said = said_there c.args.kept.now c.args.starts.now keep xs c.args.stream old lt (subst (λ (ys : List Stream). SaysKeptOf c.args.kept.now c.args.starts.now keep (slice_get ys c.args.stream)) (sym c.self.view_is) says) in
    let here = subst (λ (s : Stream). SaysKept c.args.kept.now c.args.starts.now keep s) (sym c.index_mut.ensures.value) said in
    set-change_self (kept_stream keep) xs c.args.stream c.keep.new.self old lt (c.keep.ensures.elements keep here ∙ ap (λ (s : Stream). kept_stream keep s) c.index_mut.ensures.value)
    ∙ ap (λ (ys : List Stream). change c.args.stream (kept_stream keep) ys) c.self.view_is
