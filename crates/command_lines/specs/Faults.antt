-- Why words are refused.
use Rattle.std.specs.Prelude.{◌≡◌, ◌≢◌, None, true}
use Rattle.clap.specs.Words.{kind_of}
use Rattle.clap.specs.declared.error.kind.ErrorKind.TheVariants.{OutOfMemory}
use Rattle.command_lines.specs.declared.run.RunOptions.{RunOptions}
use Rattle.command_lines.specs.declared.fault.WordsFault.{WordsFault}
use Rattle.command_lines.specs.declared.fault.WordsFault.TheVariants.{Words, PlainWithWorkers}
use Rattle.command_lines.specs.declared.fault.WordsFault.TheVariants.{ForgetWithoutWorkers}

abbrev pub LacksMemory : WordsFault → Type 0
LacksMemory (Words error) = kind_of error ≡ OutOfMemory
LacksMemory PlainWithWorkers = ⊥
LacksMemory ForgetWithoutWorkers = ⊥

-- the plain engine, and threads
abbrev pub ChoosesBoth : RunOptions → Type 0
ChoosesBoth o = (o.is_plain ≡ true) × (o.workers ≢ None)

-- to forget, and no threads
abbrev pub ChoosesToForget : RunOptions → Type 0
ChoosesToForget o = (o.forget ≢ None) × (o.workers ≡ None)

-- options that are refused so
abbrev pub RefusesChoice : RunOptions → WordsFault → Type 0
RefusesChoice o (Words error) = ⊥
RefusesChoice o PlainWithWorkers = ChoosesBoth o
RefusesChoice o ForgetWithoutWorkers = ChoosesToForget o
