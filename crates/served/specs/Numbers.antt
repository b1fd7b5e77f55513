-- The number of a request that is read.
use Rattle.std.specs.Prelude.{ℤ, pos}
use Rattle.wire.specs.declared.request.Request.{Request}
use Rattle.wire.specs.declared.request.Request.TheVariants as request

-- the first instant of a stream, the instant of a heartbeat, or the limit of a take
abbrev pub number_in : Request → ℤ
number_in (request.Stream name columns start) = start
number_in (request.Heartbeat stream at) = at
number_in (request.Take query limit) = limit
number_in r = pos 0
