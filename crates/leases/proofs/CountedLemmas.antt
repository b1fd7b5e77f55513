-- What is counted of the rows changes nothing that an engine knows of itself.
use Rattle.std.proofs.Common.{◌≡◌, subst, sym}
use Rattle.leases.specs.Sound.{IsSound}
use Rattle.leases.specs.declared.state.EngineState.{EngineState}

pub counted_sound : (s t : EngineState) → t ≡ record s { stored = t.stored } → IsSound s → IsSound t
counted_sound s t is h = subst IsSound (sym is) (record {
  good = h.good;
  kinds = h.kinds;
  few = h.few;
  numbers = h.numbers;
  named = h.named;
  gone = h.gone;
  columns = h.columns;
  closed = h.closed;
  readers = h.readers;
})

pub left_sound : (s t : EngineState) → t ≡ record s { stored = t.stored; left = t.left } → IsSound s → IsSound t
left_sound s t is h = subst IsSound (sym is) (record {
  good = h.good;
  kinds = h.kinds;
  few = h.few;
  numbers = h.numbers;
  named = h.named;
  gone = h.gone;
  columns = h.columns;
  closed = h.closed;
  readers = h.readers;
})
