use Rattle.std.proofs.Common.{◌≡◌, ℕ, IfOk, IfErr, string_bytes, subst, w64}
use Rattle.std.proofs.lemmas.Int.{to_z-of_z}
use Rattle.reference.specs.Replies as replies
use Rattle.reference.specs.Commands.{Declare}
use Rattle.reference.specs.CallViews.{texts_of}
use Rattle.histories.specs.Histories.{Told}
use Rattle.hub.specs.Steps.{Spurned, Took}
use Rattle.hub.proofs.KnownLemmas.{spurned, took}
use Rattle.hub.proofs.hub.Hub.stream.Goals as goal

pub returns-clause-ok : goal.returns-clause-ok
returns-clause-ok g c = subst (λ z. IfOk c.stream.result (λ (r : ℕ × Told). (r.1.entry.reply ≡ replies.Number r.0) × Took c.args.seat.now (Declare (string_bytes c.args.name) (texts_of c.args.columns.items) z) (r.1) c.stream.new.seat)) (to_z-of_z w64 c.args.from c.ranges.from) (took (λ (r : ℕ × Told). r.1) (λ (r : ℕ × Told). r.1.entry.reply ≡ replies.Number r.0) c.stream.result _ _ _ _ _ c.stream.ensures.ok)

pub returns-clause-err : goal.returns-clause-err
returns-clause-err g c = subst (λ z. IfErr c.stream.result (λ f. Spurned c.args.seat.now (Declare (string_bytes c.args.name) (texts_of c.args.columns.items) z) f c.stream.new.seat)) (to_z-of_z w64 c.args.from c.ranges.from) (spurned c.stream.result _ _ _ _ _ c.stream.ensures.err)
