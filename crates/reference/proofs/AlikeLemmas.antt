-- A world is alike to itself.
use Rattle.std.proofs.Common.{List, [], ◌∷◌, refl}
use Rattle.reference.specs.Alike.{Alike, AlikeMachines, AreAlike}
use Rattle.reference.specs.Machine.{Machine, Registered}
use Rattle.reference.specs.World.{World}

itself : (m : Machine) (qs : List Registered) → AreAlike m m qs qs
itself m [] = tt
itself m (q ∷ qs) = (record { bare = refl; counts = refl; answers = λ d more o until l. refl }, itself m qs)

machine_itself : (m : Machine) → AlikeMachines m m
machine_itself m = record { streams = refl; queries = itself m m.queries }

pub world_itself : (w : World) → Alike w w
world_itself w = record { machines = machine_itself w.machine; waiting = refl; upto = refl }
