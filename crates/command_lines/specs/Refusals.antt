-- TO BELIEVE: the theorem rests on these definitions, and no proof can check them.
-- Which words of `cqlrun` are refused, and why.
use Rattle.std.specs.Prelude.{◌≡◌, List, []}
use Rattle.clap.specs.Words.{HasKind, Text}
use Rattle.command_lines.specs.CommandLine.{AsksBoth, ForgetsAlone, refusals}
use Rattle.command_lines.specs.declared.fault.WordsFault.{WordsFault}
use Rattle.command_lines.specs.declared.fault.WordsFault.TheVariants.{Words, PlainWithWorkers}
use Rattle.command_lines.specs.declared.fault.WordsFault.TheVariants.{ForgetWithoutWorkers}

-- the words of `cqlrun` are refused so: as clap's definition
-- of a parse says, or for what it takes and we do not
abbrev pub RefusesRun : List Text → WordsFault → Type 0
RefusesRun words (Words error) = HasKind (refusals words) error
RefusesRun words PlainWithWorkers = (refusals words ≡ []) × AsksBoth words
RefusesRun words ForgetWithoutWorkers = (refusals words ≡ []) × ForgetsAlone words
