-- Queues in which nothing waits.
use Rattle.std.proofs.Common.{◌≡◌, ℕ, Bool, false, Option, Some, None, is_some, List, [], ◌∷◌, refl}
use Rattle.values.specs.Row.{Row}
use Rattle.op_queue.specs.Entries.{Entry}
use Rattle.op_queue.specs.Items.{first_instant}

pub none_waits : (es : List (Entry Row)) → None ≡ first_instant es → es ≡ []
none_waits [] h = refl
none_waits (e ∷ es) h = absurd (cc)

pub none_of : (o : Option ℕ) (t : Bool) → t ≡ is_some o → t ≡ false → None ≡ o
none_of None t is not = refl
none_of (Some n) t is not = absurd (cc)
