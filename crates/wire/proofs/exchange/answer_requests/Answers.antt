use Rattle.std.proofs.Common.{◌∙◌, ◌++◌, [], refl, ap, subst}
use Rattle.std.proofs.lemmas.Result.{err_from_is_err_and}
use Rattle.wire.specs.Devices.{Rises}
use Rattle.wire.specs.Held.{pending, ahead}
use Rattle.wire.specs.Printed.{line_of}
use Rattle.wire.proofs.Sinks.{Appends-nothing}
use Rattle.wire.proofs.Printing.{writes_both, wrote_nothing, wrote_more, wrote_same, wrote_well, wrote_all, wrote_failed, wrote_front}
use Rattle.wire.proofs.Exchanges.{progress_none, progress_more, stands_front, runs_all, leads_none, leads_more}
use Rattle.wire.proofs.exchange.answer_requests.Goals as goal

-- ---- before anything was read

pub returns-in_default-clause-stands : goal.returns-in_default-clause-stands
returns-in_default-clause-stands g c =
    stands_front (g.A.Responder.replies c.args.responder.now) (g.A.Responder.notes c.args.responder.now) _ (g.S.Source.left c.args.source.now) _ _ _ _ _ []
    (progress_none (g.A.Responder.replies c.args.responder.now) (g.A.Responder.notes c.args.responder.now) c.args.state.now (g.S.Source.left c.args.source.now) [] refl)
    ([], [], refl, Appends-nothing (g.K.Sink.taken c.args.sink.now))

pub returns-in_default-clause-leads : goal.returns-in_default-clause-leads
returns-in_default-clause-leads g c = leads_none (g.A.Responder.replies c.args.responder.now) (g.A.Responder.notes c.args.responder.now) c.args.state.now

pub requests-init : goal.requests-init
requests-init g c = (
  [],
  wrote_nothing (g.K.Sink.taken c.args.sink.now) (g.K.Sink.failures c.args.sink.now) c.new-page.result c.new-page.ensures.sound c.new-page.ensures.empty,
  progress_none (g.A.Responder.replies c.args.responder.now) (g.A.Responder.notes c.args.responder.now) c.args.state.now (g.S.Source.left c.args.source.now) (pending c.in-Ok.lines) c.in-Ok.ensures,
  leads_none (g.A.Responder.replies c.args.responder.now) (g.A.Responder.notes c.args.responder.now) c.args.state.now,
  refl,
  c.new-page.ensures.sound,
)

-- ---- one more request

pub requests-preserved : goal.requests-preserved
requests-preserved g c =
    let inv = c.requests.invariant in
    let next = rw c.in-Some.is at c.in_ok-next.ensures.request in
    let w = c.add_answer-is_noted.ensures in (
      inv.0 ++ line_of w.0,
      wrote_more _ _ _ _ _ _ c.requests.page c.add_answer-is_noted.new.page inv.0 (line_of w.0) inv.1 (writes_both c.await_request.ensures.writes w.3),
      progress_more (g.A.Responder.replies c.args.responder.now) (g.A.Responder.notes c.args.responder.now) _ _ c.requests.noted c.add_answer-is_noted.result c.is_either-any.result c.requests.state c.add_answer-is_noted.new.state
          (ahead c.requests.lines (g.S.Source.left c.requests.source)) (ahead c.await_request.new.lines (g.S.Source.left c.await_request.new.source))
          inv.0 c.in-Some.read w.0 inv.2 next w.1 w.2 c.is_either-any.ensures,
      leads_more (g.A.Responder.replies c.args.responder.now) (g.A.Responder.notes c.args.responder.now) c.args.state.now c.requests.state c.add_answer-is_noted.new.state c.in-Some.read w.0 inv.3 w.1,
      c.in_ok-next.ensures.ok ∙ inv.4,
      c.if-not-page.false,
    )

-- ---- the end of the source

pub returns-in_default-next-clause-text : goal.returns-in_default-next-clause-text
returns-in_default-next-clause-text g c =
    let inv = c.requests.invariant in
    let wrote = wrote_same _ _ _ _ _ _ c.requests.page c.await_request.new.page inv.0 inv.1 c.await_request.ensures.writes in
    runs_all (g.A.Responder.replies c.args.responder.now) (g.A.Responder.notes c.args.responder.now) _ _ _ c.requests.noted c.requests.state (ahead c.requests.lines (g.S.Source.left c.requests.source)) _ inv.0 inv.2
    (rw c.in_default-next.is at c.in_ok-next.ensures.request)
    (wrote_all _ _ _ _ c.await_request.new.page inv.0 (c.in_ok-next.ensures.sound inv.5) (c.in_ok-next.ensures.given c.in_default-next.is) wrote)

pub returns-in_default-next-clause-sound : goal.returns-in_default-next-clause-sound
returns-in_default-next-clause-sound g c =
    let inv = c.requests.invariant in
    let wrote = wrote_same _ _ _ _ _ _ c.requests.page c.await_request.new.page inv.0 inv.1 c.await_request.ensures.writes in
    (c.in_ok-next.ensures.ok ∙ inv.4, wrote_well _ _ _ _ c.await_request.new.page inv.0 (c.in_ok-next.ensures.sound inv.5) wrote)

-- ---- a device failed

pub returns-in_err-next-clause-stands : goal.returns-in_err-next-clause-stands
returns-in_err-next-clause-stands g c =
    let inv = c.requests.invariant in
    let wrote = wrote_same _ _ _ _ _ _ c.requests.page c.await_request.new.page inv.0 inv.1 c.await_request.ensures.writes in
    let p = err_from_is_err_and c.from_residual.result c.from_residual.ensures.1 in
    rw p.1 (stands_front (g.A.Responder.replies c.args.responder.now) (g.A.Responder.notes c.args.responder.now) _ _ _ c.requests.noted c.requests.state (ahead c.requests.lines (g.S.Source.left c.requests.source)) _ inv.0 inv.2
    (wrote_front _ _ _ _ c.await_request.new.page inv.0 wrote))

pub returns-in_err-next-clause-read : goal.returns-in_err-next-clause-read
returns-in_err-next-clause-read g c =
    let inv = c.requests.invariant in
    let wrote = wrote_same _ _ _ _ _ _ c.requests.page c.await_request.new.page inv.0 inv.1 c.await_request.ensures.writes in
    let p = err_from_is_err_and c.from_residual.result c.from_residual.ensures.1 in
    rw (p.1, p.2) (λ is.
    let r = c.in_err-next.ensures.read is in
    (subst (λ n. Rises n (g.S.Source.failures c.await_request.new.source)) inv.4 r.0, wrote_well _ _ _ _ c.await_request.new.page inv.0 r.1 wrote))

pub returns-in_err-next-clause-write : goal.returns-in_err-next-clause-write
returns-in_err-next-clause-write g c =
    let inv = c.requests.invariant in
    let wrote = wrote_same _ _ _ _ _ _ c.requests.page c.await_request.new.page inv.0 inv.1 c.await_request.ensures.writes in
    let p = err_from_is_err_and c.from_residual.result c.from_residual.ensures.1 in
    rw (p.1, p.2) (λ is.
    let w = c.in_err-next.ensures.write is in
    ((wrote_failed _ _ _ _ c.await_request.new.page inv.0 w.1 wrote).1, ap g.S.Source.failures w.0 ∙ inv.4))

pub returns-in_err-next-clause-memory : goal.returns-in_err-next-clause-memory
returns-in_err-next-clause-memory g c =
    let p = err_from_is_err_and c.from_residual.result c.from_residual.ensures.1 in
    rw (p.1, p.2) (λ is. absurd (c.in_err-next.ensures.fault is))

pub returns-then-not-page-clause-stands : goal.returns-then-not-page-clause-stands
returns-then-not-page-clause-stands g c =
    let inv = c.requests.invariant in
    let next = rw c.in-Some.is at c.in_ok-next.ensures.request in
    let w = c.add_answer-is_noted.ensures in
    stands_front (g.A.Responder.replies c.args.responder.now) (g.A.Responder.notes c.args.responder.now) _ _ _ _ c.add_answer-is_noted.new.state (ahead c.await_request.new.lines (g.S.Source.left c.await_request.new.source)) _ (inv.0 ++ line_of w.0)
    (progress_more (g.A.Responder.replies c.args.responder.now) (g.A.Responder.notes c.args.responder.now) _ _ c.requests.noted c.add_answer-is_noted.result _ c.requests.state c.add_answer-is_noted.new.state
    (ahead c.requests.lines (g.S.Source.left c.requests.source)) (ahead c.await_request.new.lines (g.S.Source.left c.await_request.new.source))
    inv.0 c.in-Some.read w.0 inv.2 next w.1 w.2 refl)
    (wrote_front _ _ _ _ c.add_answer-is_noted.new.page (inv.0 ++ line_of w.0) (wrote_more _ _ _ _ _ _ c.requests.page c.add_answer-is_noted.new.page inv.0 (line_of w.0) inv.1 (writes_both c.await_request.ensures.writes w.3)))

pub returns-then-not-page-clause-leads : goal.returns-then-not-page-clause-leads
returns-then-not-page-clause-leads g c =
    let w = c.add_answer-is_noted.ensures in
    leads_more (g.A.Responder.replies c.args.responder.now) (g.A.Responder.notes c.args.responder.now) c.args.state.now c.requests.state c.add_answer-is_noted.new.state c.in-Some.read w.0 c.requests.invariant.3 w.1

pub returns-then-not-page-clause-write : goal.returns-then-not-page-clause-write
returns-then-not-page-clause-write g c =
    let inv = c.requests.invariant in
    let w = c.add_answer-is_noted.ensures in
    λ is. (
      (wrote_failed _ _ _ _ c.add_answer-is_noted.new.page (inv.0 ++ line_of w.0) c.if-not-page.true (wrote_more _ _ _ _ _ _ c.requests.page c.add_answer-is_noted.new.page inv.0 (line_of w.0) inv.1 (writes_both c.await_request.ensures.writes w.3))).1,
      c.in_ok-next.ensures.ok ∙ inv.4,
    )
