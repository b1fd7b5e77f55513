use Rattle.std.proofs.Common.{◌∙◌, ap, refl, subst, w64, ℕ}
use Rattle.std.proofs.lemmas.Int.{to_z-of_z}
use Rattle.reference.specs.Machine.{query_named, stream_named}
use Rattle.reference.specs.declared.fault.Fault.TheVariants.{UnknownQuery, UnknownStream}
use Rattle.std.specs.Prelude.{string_bytes}
use Rattle.plan.specs.Chart.{given_by}
use Rattle.histories.specs.Histories.{Told}
use Rattle.reference.specs.CallViews.{texts_of}
use Rattle.reference.specs.Commands.{Declare, Heartbeat, Register, Take}
use Rattle.reference.specs.Replies as replies
use Rattle.wire.specs.Printed.{answer_of}
use Rattle.served.specs.Serving.{Carries, CarriesNamed}
use Rattle.served.specs.Numbers.{number_in}
use Rattle.served.proofs.Requests.{carried, forgot, serves_as}
use Rattle.served.proofs.client.Client.answer.Goals as goal

pub returns-in-Stream : goal.returns-in-Stream
returns-in-Stream g c =
    let same = to_z-of_z w64 c.number_in-number.result (record { sfits = c.number_in-number.type_inv }) ∙ c.number_in-number.ensures ∙ ap number_in c.in-Stream.is in
    serves_as (g.D.Drainer.drains c.args.self.now.drainer) c.args.seat.now c.stream.new.seat c.args.request _ (answer_of c.done.result) c.in-Stream.is
    (subst (λ z. Carries c.args.seat.now (Declare (string_bytes c.in-Stream.name) (texts_of c.in-Stream.columns.items) z) (answer_of c.done.result) c.stream.new.seat) same
    (carried (λ (r : ℕ × Told). r.1) (λ (r : ℕ × Told). replies.Number r.0) c.args.seat.now c.stream.new.seat _ c.stream.result (answer_of c.done.result)
    (λ x. refl) c.stream.ensures.ok c.stream.ensures.err c.done.ensures))

pub returns-in-Query : goal.returns-in-Query
returns-in-Query g c =
    serves_as (g.D.Drainer.drains c.args.self.now.drainer) c.args.seat.now c.query.new.seat c.args.request _ (answer_of c.done-in-Query.result) c.in-Query.is
    (carried (λ (r : ℕ × Told). r.1) (λ (r : ℕ × Told). replies.Number r.0) c.args.seat.now c.query.new.seat (Register (string_bytes c.in-Query.name) (string_bytes c.in-Query.text) (given_by c.in-Query.chart)) c.query.result (answer_of c.done-in-Query.result)
    (λ x. refl) c.query.ensures.ok c.query.ensures.err c.done-in-Query.ensures)

pub returns-in-Append : goal.returns-in-Append
returns-in-Append g c =
    serves_as (g.D.Drainer.drains c.args.self.now.drainer) c.args.seat.now c.append.new.seat c.args.request _ (answer_of c.append.result) c.in-Append.is (rw c.as_str.ensures.value at c.append.ensures)

pub returns-in-Heartbeat : goal.returns-in-Heartbeat
returns-in-Heartbeat g c =
    let same = to_z-of_z w64 c.number_in-number.result (record { sfits = c.number_in-number.type_inv }) ∙ c.number_in-number.ensures ∙ ap number_in c.in-Heartbeat.is in
    serves_as (g.D.Drainer.drains c.args.self.now.drainer) c.args.seat.now c.close_instants.new.seat c.args.request _ (answer_of c.close_instants.result) c.in-Heartbeat.is
    (subst (λ z. CarriesNamed stream_named (string_bytes c.in-Heartbeat.stream) UnknownStream (λ n. Heartbeat n z) c.args.seat.now (answer_of c.close_instants.result) c.close_instants.new.seat) same
    (rw c.as_str-in-Heartbeat.ensures.value at c.close_instants.ensures))

pub returns-in-Take : goal.returns-in-Take
returns-in-Take g c =
    let same = to_z-of_z w64 c.number_in-number.result (record { sfits = c.number_in-number.type_inv }) ∙ c.number_in-number.ensures ∙ ap number_in c.in-Take.is in
    serves_as (g.D.Drainer.drains c.args.self.now.drainer) c.args.seat.now c.take.new.seat c.args.request _ (answer_of c.take.result) c.in-Take.is
    (subst (λ z. CarriesNamed query_named (string_bytes c.in-Take.query) UnknownQuery (λ n. Take n z) c.args.seat.now (answer_of c.take.result) c.take.new.seat) same
    (rw c.as_str-in-Take.ensures.value at c.take.ensures))

pub returns-in-Drop : goal.returns-in-Drop
returns-in-Drop g c =
    serves_as (g.D.Drainer.drains c.args.self.now.drainer) c.args.seat.now c.drop_query.new.seat c.args.request _ (answer_of c.drop_query.result) c.in-Drop.is (rw c.as_str-in-Drop.ensures.value at c.drop_query.ensures)

pub returns-in-Forget : goal.returns-in-Forget
returns-in-Forget g c =
    serves_as (g.D.Drainer.drains c.args.self.now.drainer) c.args.seat.now c.args.seat.now c.args.request _ (answer_of c.done-in-Forget.result) c.in-Forget.is
    (forgot c.forget.result (answer_of c.done-in-Forget.result) c.forget.ensures c.done-in-Forget.ensures, refl)

pub returns-in-Look : goal.returns-in-Look
returns-in-Look g c =
    serves_as (g.D.Drainer.drains c.args.self.now.drainer) c.args.seat.now c.args.seat.now c.args.request _ (answer_of c.show.result) c.in-Look.is (c.show.ensures, refl)
