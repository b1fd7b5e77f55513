use Rattle.column.proofs.KeptLemmas.{kept_in_word}
use Rattle.column.proofs.mask.Mask.keep.Goals as goal

pub returns-in-Some-Some : goal.returns-in-Some-Some
returns-in-Some-Some c =
    kept_in_word c.self.inside.len c.mask.inside.len c.in-Some-Some.word c.in-Some-Some.choice c.kept_bits-kept.result.0 c.kept_bits-kept.result.1 c.self.inside.words c.mask.inside.words c.set.new.self c.truncate.new.self c.args.self.now c.args.mask.now
    (c.in-Some-Some.ensures) (c.in-Some-Some.ensures') c.self.view_is c.mask.view_is c.requires c.kept_bits-kept.ensures.kept c.set.ensures c.truncate.ensures
