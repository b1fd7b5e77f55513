use Rattle.std.proofs.Common.{◌≡◌, ◌+◌, ◌≤◌, drop, sum}
use Rattle.plan.proofs.Narrow.{widths_of}
use Rattle.plan.proofs.fits.fits_a_row.Given as goal
use Rattle.values.specs.declared.TheConstants.{MAX_COLUMNS}

abbrev pub invariant-loop-source : goal.invariant-loop-source
invariant-loop-source l = record {
  sum : sum (widths_of l.fn.catalog (drop l.source-index l.fn.query.sources.items)) + MAX_COLUMNS ≡ sum (widths_of l.fn.catalog l.fn.query.sources.items) + l.left;
  room : l.left ≤ MAX_COLUMNS;
}
