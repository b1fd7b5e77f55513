use Rattle.std.proofs.Common.{◌∙◌, ap, Some, ℕ, List, Option, position}
use Rattle.name_table.specs.Names.{bears}
use Rattle.reference.specs.CallViews.{texts_of}
use Rattle.reference.specs.Machine.{Stream}
use Rattle.reference.specs.Places.{machine_of}
use Rattle.reference.proofs.NameLemmas.{short, declared_name, position-map}
use Rattle.stream_store.proofs.BesideLemmas.{name_free}
use Rattle.stream_store.proofs.streams.Streams.add.Goals as goal

pub new-requires : goal.new-requires
new-requires c = rw c.as_bytes.ensures.value (short c.args.name.now (declared_name (machine_of c.args.self.now) c.args.name.now (texts_of c.args.columns.now) c.args.from c.requires))

pub push-requires-clause-fresh : goal.push-requires-clause-fresh
push-requires-clause-fresh c =
    ap (λ (xs : List (Option (List ℕ))). position (bears c.args.name.now) xs) c.self.invariant
    ∙ position-map (bears c.args.name.now) (λ (s : Stream). Some s.name) c.self.inside.streams.items
    ∙ ap (λ (xs : List Stream). position (λ s. bears c.args.name.now (Some s.name)) xs) c.self.view_is
    ∙ name_free (machine_of c.args.self.now) c.args.name.now (texts_of c.args.columns.now) c.args.from c.requires
