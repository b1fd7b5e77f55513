use Rattle.std.proofs.Common.{◌≡◌, refl}
use Rattle.leases.specs.Views.{query_of}
use Rattle.leases.specs.declared.reader.WindowReader.{WindowReader}
use Rattle.leases.proofs.ListedLemmas.{others_left}
use Rattle.leases.proofs.state.EngineState.list.Goals as goal

pub returns-in_default-add-clause-err : goal.returns-in_default-add-clause-err
returns-in_default-add-clause-err c =
    let left : c.forget-in_default-add.new.self ≡ c.args.self.now.readers =
    others_left (query_of c.args.told.now) c.args.number c.args.self.now.readers c.put_readers.new.readers c.forget-in_default-add.new.self c.requires.others c.in-Ok.ensures.ok c.forget-in_default-add.ensures in
    rw (c.in_default-add.ensures.err, left) refl
