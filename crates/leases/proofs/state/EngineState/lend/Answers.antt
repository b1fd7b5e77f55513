-- One more job has its query.
use Rattle.std.proofs.Common.{◌∙◌, refl, slice_index_or, arith}
use Rattle.std.proofs.lemmas.List.{length-set}
use Rattle.leases.specs.declared.state.jobs.Job.{Job}
use Rattle.leases.proofs.LendAllLemmas.{lends_within, one_lent}
use Rattle.leases.proofs.state.EngineState.lend.Goals as goal

pub lend_to-requires : goal.lend_to-requires
lend_to-requires c =
    lends_within c.args.self.now c.loop-place.self c.loop-place.jobs c.loop-place.place c.index-jobs-place.result (omega (arith, c.loop-place-test.true, c.loop-place.invariant.many)) c.loop-place.invariant.partly

pub loop-place-preserved : goal.loop-place-preserved
loop-place-preserved c =
    let j : Job = slice_index_or c.loop-place.jobs c.loop-place.place c.index-jobs-place.result in
    record {
      partly = one_lent c.args.self.now c.loop-place.jobs c.loop-place.place c.loop-place.self c.lend_to.new.self j c.lend_to.new.job c.index-jobs-place.result (omega (arith, c.loop-place-test.true, c.loop-place.invariant.many)) refl
          c.loop-place.invariant.partly c.lend_to.ensures.job.0 c.lend_to.ensures.job.1 c.lend_to.ensures.job.2 c.lend_to.ensures.state c.lend_to.ensures.rest;
      many = length-set c.loop-place.jobs c.loop-place.place c.lend_to.new.job ∙ c.loop-place.invariant.many;
    }
