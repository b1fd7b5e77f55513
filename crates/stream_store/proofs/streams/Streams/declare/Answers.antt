use Rattle.std.proofs.Common.{ℕ, length, w64}
use Rattle.std.proofs.lemmas.Int.{to_z-of_z}
use Rattle.std.proofs.lemmas.Result.{err_from_is_err_and}
use Rattle.reference.specs.CallViews.{texts_of}
use Rattle.reference.specs.Commands.{first_fault, declared, Declare}
use Rattle.reference.specs.Places.{machine_of}
use Rattle.reference.specs.World.{World, declare_step}
use Rattle.stream_store.proofs.BesideLemmas.{beside_refused, beside_lacked, beside_done, declare_is}
use Rattle.stream_store.proofs.streams.Streams.declare.Goals as goal

pub returns-in_err-add-in-None : goal.returns-in_err-add-in-None
returns-in_err-add-in-None c =
    let p = err_from_is_err_and c.from_residual.result c.from_residual.ensures.1 in
    let old = c.args.self.now in
    rw (p.1, p.2) (beside_lacked (λ (n : ℕ). n) (λ (w : World). declare_step w c.args.name.now (texts_of c.args.columns.now) c.args.from) old ((declared (machine_of old) c.args.name.now (texts_of c.args.columns.now) c.args.from).streams) (length old) (first_fault (machine_of old) (Declare c.args.name.now (texts_of c.args.columns.now) c.args.from)) (declare_is old c.args.name.now (texts_of c.args.columns.now) c.args.from) c.add.new.self (simp (to_z-of_z w64 c.args.from c.ranges.from) at c.in-None.ensures.first) c.in_err-add-in-None.ensures.err)

pub returns-in-Some : goal.returns-in-Some
returns-in-Some c =
    let old = c.args.self.now in
    beside_refused (λ (n : ℕ). n) (λ (w : World). declare_step w c.args.name.now (texts_of c.args.columns.now) c.args.from) old ((declared (machine_of old) c.args.name.now (texts_of c.args.columns.now) c.args.from).streams) (length old) (first_fault (machine_of old) (Declare c.args.name.now (texts_of c.args.columns.now) c.args.from)) (declare_is old c.args.name.now (texts_of c.args.columns.now) c.args.from) c.in-Some.fault (simp (to_z-of_z w64 c.args.from c.ranges.from) at c.in-Some.ensures.first) c.in-Some.ensures.told

pub returns-in_ok-add-in-None : goal.returns-in_ok-add-in-None
returns-in_ok-add-in-None c =
    let old = c.args.self.now in
    beside_done (λ (n : ℕ). n) (λ (w : World). declare_step w c.args.name.now (texts_of c.args.columns.now) c.args.from) old ((declared (machine_of old) c.args.name.now (texts_of c.args.columns.now) c.args.from).streams) (length old) (first_fault (machine_of old) (Declare c.args.name.now (texts_of c.args.columns.now) c.args.from)) (declare_is old c.args.name.now (texts_of c.args.columns.now) c.args.from) c.in_ok-add-in-None.field-0 c.add.new.self (simp (to_z-of_z w64 c.args.from c.ranges.from) at c.in-None.ensures.first) c.in_ok-add-in-None.ensures.number (simp (to_z-of_z w64 c.args.from c.ranges.from) at c.in_ok-add-in-None.ensures.ok)
