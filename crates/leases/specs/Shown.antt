-- The engine as its clients see it.
use Rattle.laws_engine.specs.Engines.{PlainEngine, world_of}
use Rattle.reference.specs.World.{World}
use Rattle.leases.specs.Views.{engine_of}
use Rattle.leases.specs.declared.state.EngineState.{EngineState}

abbrev pub engine_in : EngineState → PlainEngine
engine_in s = engine_of s.streams s.registered.items s.remains.items s.leases.items s.next s.slots

-- the machine, and the answers that wait
abbrev pub world_in : EngineState → World
world_in s = world_of (engine_in s)
