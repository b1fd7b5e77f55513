-- TO BELIEVE: the theorem rests on these definitions, and no proof can check them.
-- An input at which nothing waits.
use Rattle.std.specs.Prelude.{[]}
use Rattle.operators.specs.declared.inboxes.Inbox.{Inbox}
use Rattle.operators.specs.declared.inboxes.Inbox.TheVariants.{Between}

-- no row and no tick
abbrev pub nothing_waits : Inbox
nothing_waits = Between (record { entries = []; begins = []; pieces = 0 })
