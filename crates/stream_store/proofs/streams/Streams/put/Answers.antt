use Rattle.std.proofs.Common.{◌≡◌, ◌<◌, ◌∙◌, List, Some, None, length, ap, sym, subst, refl}
use Rattle.std.proofs.Math.Seq.{map-set_same}
use Rattle.reference.specs.Machine.{Stream}
use Rattle.reference.specs.Commands.{append_tests, appended, change, of_stream}
use Rattle.std.specs.Prelude.{slice_get}
use Rattle.reference.proofs.StepLemmas.{set-change_self, on_ok, stream_in}
use Rattle.stream_store.proofs.BesideLemmas.{kept_name}
use Rattle.stream_store.proofs.streams.Streams.put.Goals as goal

pub invariant_of-self : goal.invariant_of-self
invariant_of-self c =
    let old = c.index_mut.result.now in
    c.self.invariant
    ∙ sym (map-set_same (λ (s : Stream). Some s.name) c.self.inside.streams.items c.args.stream c.append.new.self old
    (ap (λ n. Some n) (kept_name c.append.result (appended c.args.rows.now) c.append.new.self old refl c.append.ensures.ok c.append.ensures.err) ∙ ap (λ (s : Stream). Some s.name) c.index_mut.ensures.value))

pub returns-clause-ok : goal.returns-clause-ok
returns-clause-ok c =
    let xs = c.self.inside.streams.items in
    let old = c.index_mut.result.now in
    let accepted = subst (λ (ys : List Stream). of_stream (λ s. append_tests s c.args.rows.now) (slice_get ys c.args.stream) ≡ None) (sym c.self.view_is) c.requires in
    let lt : c.args.stream < length xs = stream_in (λ s. append_tests s c.args.rows.now) xs c.args.stream accepted in
    on_ok c.append.result
    (λ h. set-change_self (appended c.args.rows.now) xs c.args.stream c.append.new.self old lt (h ∙ ap (appended c.args.rows.now) c.index_mut.ensures.value)
    ∙ ap (λ (ys : List Stream). change c.args.stream (appended c.args.rows.now) ys) c.self.view_is) c.append.ensures.ok
