use Rattle.std.proofs.Common.{◌≡◌, ◌≤◌, ◌∙◌, ◌+◌, ◌++◌, suc, sym, ap, subst, ℕ, List, arith, nat_abs, length, w64}
use Rattle.std.proofs.lemmas.Int.{to_z-of_z}
use Rattle.cql_reader.specs.Names.{name_of}
use Rattle.names.specs.Names.{names_of}
use Rattle.values.specs.Window.{Element}
use Rattle.op_queue.specs.Cursors.{GainsClosed}
use Rattle.op_queue.specs.Logs.{Closed}
use Rattle.op_queue.specs.Closings.{IsClosing}
use Rattle.reference.specs.Machine.{Stream}
use Rattle.reference.specs.Commands.{closed_to}
use Rattle.stream_store.specs.Open.{up_to}
use Rattle.stream_store.specs.Closing.{closed_of}
use Rattle.stream_store.specs.Gains.{closing_of}
use Rattle.stream_store.specs.Stored.{IsStored, stream_in}
use Rattle.stream_store.proofs.ArrivalLemmas.{given_lists}
use Rattle.stream_store.proofs.StoredLemmas.{closed_stream, closing_stream, is_closing, stored_closed, closed_stream_to}
use Rattle.stream_store.proofs.stored.Stored.close.Goals as goal

pub close-requires-clause-numbers : goal.close-requires-clause-numbers
close-requires-clause-numbers c =
    let s = c.self.inside in
    let rows = s.open_rows.rows in
    let m = c.last_closed-last.result in
    let last : m ≡ nat_abs c.args.at = c.last_closed-last.ensures.value ∙ ap nat_abs (to_z-of_z w64 c.args.at c.ranges.at) in
    let e = c.requires.closing ∙ ap (λ (s : Stream). closing_of c.args.at s) (sym c.self.view_is)
    ∙ closing_stream (name_of s.name) s.columns.items s.arrivals s.log rows c.args.at c.self.invariant.0 c.until-until.ensures.ordered c.until-until.ensures.closed
    ∙ ap (λ (n : ℕ). up_to n rows) (sym last) in
    let le : s.log.until ≤ m = omega (arith, c.last_closed-last.ensures.later, ap (λ (s : Stream). s.first_open) c.self.view_is) in
    let closing = subst (λ (es : List Element). IsClosing s.log es (m + 1)) (sym e)
    (is_closing (length s.columns.items) s.arrivals s.log rows c.self.invariant.0 c.until-until.ensures.ordered c.until-until.ensures.closed m le) in
    let given = given_lists s.log.width c.args.rows.now.elements closing.wide c.instants.result.now c.numbers.result.now c.values.result.now c.instants.ensures c.numbers.ensures c.values.ensures in
    given.counted

pub close-requires-clause-values : goal.close-requires-clause-values
close-requires-clause-values c =
    let s = c.self.inside in
    let rows = s.open_rows.rows in
    let m = c.last_closed-last.result in
    let last : m ≡ nat_abs c.args.at = c.last_closed-last.ensures.value ∙ ap nat_abs (to_z-of_z w64 c.args.at c.ranges.at) in
    let e = c.requires.closing ∙ ap (λ (s : Stream). closing_of c.args.at s) (sym c.self.view_is)
    ∙ closing_stream (name_of s.name) s.columns.items s.arrivals s.log rows c.args.at c.self.invariant.0 c.until-until.ensures.ordered c.until-until.ensures.closed
    ∙ ap (λ (n : ℕ). up_to n rows) (sym last) in
    let le : s.log.until ≤ m = omega (arith, c.last_closed-last.ensures.later, ap (λ (s : Stream). s.first_open) c.self.view_is) in
    let closing = subst (λ (es : List Element). IsClosing s.log es (m + 1)) (sym e)
    (is_closing (length s.columns.items) s.arrivals s.log rows c.self.invariant.0 c.until-until.ensures.ordered c.until-until.ensures.closed m le) in
    let given = given_lists s.log.width c.args.rows.now.elements closing.wide c.instants.result.now c.numbers.result.now c.values.result.now c.instants.ensures c.numbers.ensures c.values.ensures in
    given.full

pub close-requires-clause-closing : goal.close-requires-clause-closing
close-requires-clause-closing c =
    let s = c.self.inside in
    let rows = s.open_rows.rows in
    let m = c.last_closed-last.result in
    let last : m ≡ nat_abs c.args.at = c.last_closed-last.ensures.value ∙ ap nat_abs (to_z-of_z w64 c.args.at c.ranges.at) in
    let e = c.requires.closing ∙ ap (λ (s : Stream). closing_of c.args.at s) (sym c.self.view_is)
    ∙ closing_stream (name_of s.name) s.columns.items s.arrivals s.log rows c.args.at c.self.invariant.0 c.until-until.ensures.ordered c.until-until.ensures.closed
    ∙ ap (λ (n : ℕ). up_to n rows) (sym last) in
    let le : s.log.until ≤ m = omega (arith, c.last_closed-last.ensures.later, ap (λ (s : Stream). s.first_open) c.self.view_is) in
    let closing = subst (λ (es : List Element). IsClosing s.log es (m + 1)) (sym e)
    (is_closing (length s.columns.items) s.arrivals s.log rows c.self.invariant.0 c.until-until.ensures.ordered c.until-until.ensures.closed m le) in
    let given = given_lists s.log.width c.args.rows.now.elements closing.wide c.instants.result.now c.numbers.result.now c.values.result.now c.instants.ensures c.numbers.ensures c.values.ensures in
    subst (λ (es : List Element). IsClosing s.log es (m + 1)) (sym given.rows) closing

pub invariant_of-self-2 : goal.invariant_of-self-2
invariant_of-self-2 c =
    let s = c.self.inside in
    let rows = s.open_rows.rows in
    let m = c.last_closed-last.result in
    let last : m ≡ nat_abs c.args.at = c.last_closed-last.ensures.value ∙ ap nat_abs (to_z-of_z w64 c.args.at c.ranges.at) in
    let e = c.requires.closing ∙ ap (λ (s : Stream). closing_of c.args.at s) (sym c.self.view_is)
    ∙ closing_stream (name_of s.name) s.columns.items s.arrivals s.log rows c.args.at c.self.invariant.0 c.until-until.ensures.ordered c.until-until.ensures.closed
    ∙ ap (λ (n : ℕ). up_to n rows) (sym last) in
    let le : s.log.until ≤ m = omega (arith, c.last_closed-last.ensures.later, ap (λ (s : Stream). s.first_open) c.self.view_is) in
    let closing = subst (λ (es : List Element). IsClosing s.log es (m + 1)) (sym e)
    (is_closing (length s.columns.items) s.arrivals s.log rows c.self.invariant.0 c.until-until.ensures.ordered c.until-until.ensures.closed m le) in
    let given = given_lists s.log.width c.args.rows.now.elements closing.wide c.instants.result.now c.numbers.result.now c.values.result.now c.instants.ensures c.numbers.ensures c.values.ensures in
    let more = c.in_ok-close.ensures.elements ∙ ap (λ (es : List Element). s.log.elements ++ es) (given.rows ∙ e) in
    let left = c.drop_up_to.ensures.rows in (
      subst (λ (es : List Element). IsStored (length s.columns.items) s.arrivals c.close.new.self es) (sym left)
          (stored_closed (length s.columns.items) s.arrivals m s.log c.close.new.self rows c.self.invariant.0 more c.in_ok-close.ensures.until c.in_ok-close.ensures.width c.last_closed-last.ensures.range),
      c.drop_up_to.ensures.width ∙ c.self.invariant.1,
    )

pub returns-clause-ok : goal.returns-clause-ok
returns-clause-ok c =
    let s = c.self.inside in
    let rows = s.open_rows.rows in
    let m = c.last_closed-last.result in
    let last : m ≡ nat_abs c.args.at = c.last_closed-last.ensures.value ∙ ap nat_abs (to_z-of_z w64 c.args.at c.ranges.at) in
    let e = c.requires.closing ∙ ap (λ (s : Stream). closing_of c.args.at s) (sym c.self.view_is)
    ∙ closing_stream (name_of s.name) s.columns.items s.arrivals s.log rows c.args.at c.self.invariant.0 c.until-until.ensures.ordered c.until-until.ensures.closed
    ∙ ap (λ (n : ℕ). up_to n rows) (sym last) in
    let le : s.log.until ≤ m = omega (arith, c.last_closed-last.ensures.later, ap (λ (s : Stream). s.first_open) c.self.view_is) in
    let closing = subst (λ (es : List Element). IsClosing s.log es (m + 1)) (sym e)
    (is_closing (length s.columns.items) s.arrivals s.log rows c.self.invariant.0 c.until-until.ensures.ordered c.until-until.ensures.closed m le) in
    let given = given_lists s.log.width c.args.rows.now.elements closing.wide c.instants.result.now c.numbers.result.now c.values.result.now c.instants.ensures c.numbers.ensures c.values.ensures in
    let more = c.in_ok-close.ensures.elements ∙ ap (λ (es : List Element). s.log.elements ++ es) (given.rows ∙ e) in
    let left = c.drop_up_to.ensures.rows in
    ap (λ (es : List Element). stream_in (name_of s.name) (names_of s.columns.items) s.arrivals c.close.new.self es) left
    ∙ closed_stream_to (length s.columns.items) s.arrivals m s.log c.close.new.self rows c.self.invariant.0 more c.in_ok-close.ensures.until
    (name_of s.name) (names_of s.columns.items) c.args.at last
    ∙ ap (λ (s : Stream). closed_to c.args.at s) c.self.view_is

pub returns-clause-queues : goal.returns-clause-queues
returns-clause-queues c =
    let s = c.self.inside in
    let rows = s.open_rows.rows in
    let m = c.last_closed-last.result in
    let last : m ≡ nat_abs c.args.at = c.last_closed-last.ensures.value ∙ ap nat_abs (to_z-of_z w64 c.args.at c.ranges.at) in
    let e = c.requires.closing ∙ ap (λ (s : Stream). closing_of c.args.at s) (sym c.self.view_is)
    ∙ closing_stream (name_of s.name) s.columns.items s.arrivals s.log rows c.args.at c.self.invariant.0 c.until-until.ensures.ordered c.until-until.ensures.closed
    ∙ ap (λ (n : ℕ). up_to n rows) (sym last) in
    let le : s.log.until ≤ m = omega (arith, c.last_closed-last.ensures.later, ap (λ (s : Stream). s.first_open) c.self.view_is) in
    let closing = subst (λ (es : List Element). IsClosing s.log es (m + 1)) (sym e)
    (is_closing (length s.columns.items) s.arrivals s.log rows c.self.invariant.0 c.until-until.ensures.ordered c.until-until.ensures.closed m le) in
    let given = given_lists s.log.width c.args.rows.now.elements closing.wide c.instants.result.now c.numbers.result.now c.values.result.now c.instants.ensures c.numbers.ensures c.values.ensures in
    let more = c.in_ok-close.ensures.elements ∙ ap (λ (es : List Element). s.log.elements ++ es) (given.rows ∙ e) in
    let left = c.drop_up_to.ensures.rows in
    let kept = subst (λ (es : List Element). IsStored (length s.columns.items) s.arrivals c.close.new.self es) (sym left)
    (stored_closed (length s.columns.items) s.arrivals m s.log c.close.new.self rows c.self.invariant.0 more c.in_ok-close.ensures.until c.in_ok-close.ensures.width c.last_closed-last.ensures.range) in
    let before : s.log ≡ closed_of c.args.self.now =
    sym (closed_stream (name_of s.name) s.columns.items s.arrivals s.log rows c.self.invariant.0 c.until-until.ensures.ordered c.until-until.ensures.closed)
    ∙ ap (λ (s : Stream). closed_of s) c.self.view_is in
    let after = sym (closed_stream (name_of s.name) s.columns.items s.arrivals c.close.new.self c.drop_up_to.new.self.rows kept c.until-closed.ensures.ordered c.until-closed.ensures.closed) in
    let zero = subst (λ (es : List Element). GainsClosed s.log es (m + 1) c.close.new.self) given.rows c.in_ok-close.ensures.queues in
    let one = subst (λ (l : Closed). GainsClosed l c.args.rows.now.elements (m + 1) c.close.new.self) before zero in
    let two = subst (λ (rows : List Element). GainsClosed (closed_of c.args.self.now) rows (m + 1) c.close.new.self) c.requires.closing one in
    let next : m + 1 ≡ suc (nat_abs c.args.at) = omega (arith, last) in
    let three = subst (λ (k : ℕ). GainsClosed (closed_of c.args.self.now) (closing_of c.args.at c.args.self.now) k c.close.new.self) next two in
    subst (λ (l : Closed). GainsClosed (closed_of c.args.self.now) (closing_of c.args.at c.args.self.now) (suc (nat_abs c.args.at)) l) after three
