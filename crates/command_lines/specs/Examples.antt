-- Worked command lines.
use Rattle.std.specs.Prelude.{◌≡◌, List, [], ◌∷◌, Some, None, codes, refl}
use Rattle.clap.specs.Words.{Text}
use Rattle.clap.specs.declared.error.kind.ErrorKind.TheVariants.{DisplayHelp, DisplayVersion}
use Rattle.clap.specs.declared.error.kind.ErrorKind.TheVariants.{UnknownArgument, ValueValidation}
use Rattle.clap.specs.declared.error.kind.ErrorKind.TheVariants.{InvalidValue, ArgumentConflict}
use Rattle.clap.specs.declared.error.kind.ErrorKind.TheVariants.{MissingRequiredArgument}
use Rattle.clap.proofs.OnLiterals.{clap_on_literals}
use Rattle.command_lines.specs.CommandLine.{refusals, run_text, serve_refusals, serve_text}
use Rattle.command_lines.specs.CommandLine.{number_or}

-- `cqlrun` and these words
abbrev said : List Text → List Text
said words = codes "cqlrun" ∷ words

plain : (refusals (said (codes "--plain" ∷ [])) ≡ [])
    × (run_text (codes "plain") (said (codes "--plain" ∷ [])) ≡ Some (codes "true"))
unfolding refusals run_text clap_on_literals
plain = (refl, refl)

bare : (refusals (said []) ≡ []) × (run_text (codes "plain") (said []) ≡ Some (codes "false"))
    × (run_text (codes "turn") (said []) ≡ None) × (run_text (codes "workers") (said []) ≡ None)
unfolding refusals run_text clap_on_literals
bare = (refl, refl, refl, refl)

least : (refusals (said (codes "--turn" ∷ codes "1" ∷ [])) ≡ [])
    × (number_or 256 (run_text (codes "turn") (said (codes "--turn" ∷ codes "1" ∷ []))) ≡ 1)
unfolding refusals run_text clap_on_literals
least = (refl, refl)

most : (refusals (said (codes "--turn=1024" ∷ codes "--plain" ∷ [])) ≡ [])
    × (number_or 256 (run_text (codes "turn")
    (said (codes "--turn=1024" ∷ codes "--plain" ∷ []))) ≡ 1024)
unfolding refusals run_text clap_on_literals
most = (refl, refl)

none : refusals (said (codes "--turn" ∷ codes "0" ∷ [])) ≡ ValueValidation ∷ []
unfolding refusals clap_on_literals
none = refl

over : refusals (said (codes "--turn" ∷ codes "1025" ∷ [])) ≡ ValueValidation ∷ []
unfolding refusals clap_on_literals
over = refl

word : refusals (said (codes "--turn" ∷ codes "all" ∷ [])) ≡ ValueValidation ∷ []
unfolding refusals clap_on_literals
word = refl

nothing : refusals (said (codes "--turn" ∷ [])) ≡ InvalidValue ∷ []
unfolding refusals clap_on_literals
nothing = refl

twice : refusals (said (codes "--turn=7" ∷ codes "--turn=7" ∷ [])) ≡ ArgumentConflict ∷ []
unfolding refusals clap_on_literals
twice = refl

threads : (refusals (said (codes "--workers=64" ∷ [])) ≡ [])
    × (run_text (codes "workers") (said (codes "--workers=64" ∷ [])) ≡ Some (codes "64"))
unfolding refusals run_text clap_on_literals
threads = (refl, refl)

no_threads : refusals (said (codes "--workers=0" ∷ [])) ≡ ValueValidation ∷ []
unfolding refusals clap_on_literals
no_threads = refl

too_many_threads : refusals (said (codes "--workers=65" ∷ [])) ≡ ValueValidation ∷ []
unfolding refusals clap_on_literals
too_many_threads = refl

help : refusals (said (codes "--help" ∷ [])) ≡ DisplayHelp ∷ []
unfolding refusals clap_on_literals
help = refl

version : refusals (said (codes "--version" ∷ [])) ≡ DisplayVersion ∷ []
unfolding refusals clap_on_literals
version = refl

wrong : refusals (said (codes "--plane" ∷ [])) ≡ UnknownArgument ∷ []
unfolding refusals clap_on_literals
wrong = refl

-- `cqld` and these words
abbrev asked : List Text → List Text
asked words = codes "cqld" ∷ words

served : (serve_refusals (asked
    (codes "--port=0" ∷ codes "--workers=1" ∷ codes "--clients=64" ∷ [])) ≡ [])
    × (number_or 1 (serve_text (codes "clients")
    (asked (codes "--port=0" ∷ codes "--workers=1" ∷ codes "--clients=64" ∷ []))) ≡ 64)
    × (serve_text (codes "serve")
    (asked (codes "--port=0" ∷ codes "--workers=1" ∷ codes "--clients=64" ∷ [])) ≡ None)
unfolding serve_refusals serve_text clap_on_literals
served = (refl, refl, refl)

portless : serve_refusals (asked (codes "--workers=1" ∷ codes "--clients=1" ∷ []))
    ≡ MissingRequiredArgument ∷ []
unfolding serve_refusals clap_on_literals
portless = refl

far_port : serve_refusals (asked
    (codes "--port=65536" ∷ codes "--workers=1" ∷ codes "--clients=1" ∷ [])) ≡ ValueValidation ∷ []
unfolding serve_refusals clap_on_literals
far_port = refl

too_long : serve_refusals (asked
    (codes "--port=1" ∷ codes "--workers=1" ∷ codes "--clients=1" ∷ codes "--serve=1000001" ∷ []))
    ≡ ValueValidation ∷ []
unfolding serve_refusals clap_on_literals
too_long = refl

served_version : serve_refusals (asked (codes "--version" ∷ [])) ≡ DisplayVersion ∷ []
unfolding serve_refusals clap_on_literals
served_version = refl

idle : (serve_refusals (asked (codes "--port=0" ∷ codes "--workers=1" ∷ codes "--clients=1"
    ∷ codes "--idle=86400" ∷ [])) ≡ [])
    × (serve_text (codes "idle") (asked
    (codes "--port=0" ∷ codes "--workers=1" ∷ codes "--clients=1" ∷ codes "--idle=86400" ∷ []))
    ≡ Some (codes "86400"))
unfolding serve_refusals serve_text clap_on_literals
idle = (refl, refl)

never_idle : serve_refusals (asked
    (codes "--port=0" ∷ codes "--workers=1" ∷ codes "--clients=1" ∷ codes "--idle=0" ∷ []))
    ≡ ValueValidation ∷ []
unfolding serve_refusals clap_on_literals
never_idle = refl

idle_for_long : serve_refusals
    (asked (codes "--port=0" ∷ codes "--workers=1" ∷ codes "--clients=1" ∷ codes "--idle=86401"
    ∷ [])) ≡ ValueValidation ∷ []
unfolding serve_refusals clap_on_literals
idle_for_long = refl

forgetful : (serve_refusals (asked (codes "--port=0" ∷ codes "--workers=1" ∷ codes "--clients=1"
    ∷ codes "--forget=1099511627776" ∷ [])) ≡ [])
    × (number_or 8388608 (serve_text (codes "forget")
    (asked (codes "--port=0" ∷ codes "--workers=1" ∷ codes "--clients=1"
    ∷ codes "--forget=0" ∷ []))) ≡ 0)
    × (number_or 8388608 (serve_text (codes "forget")
    (asked (codes "--port=0" ∷ codes "--workers=1" ∷ codes "--clients=1" ∷ []))) ≡ 8388608)
unfolding serve_refusals serve_text clap_on_literals
forgetful = (refl, refl, refl)

too_much_kept : serve_refusals (asked (codes "--port=0" ∷ codes "--workers=1" ∷ codes "--clients=1"
    ∷ codes "--forget=1099511627777" ∷ [])) ≡ ValueValidation ∷ []
unfolding serve_refusals clap_on_literals
too_much_kept = refl

run_forgets : (refusals (said (codes "--workers=1" ∷ codes "--forget=16" ∷ [])) ≡ [])
    × (run_text (codes "forget") (said (codes "--workers=1" ∷ codes "--forget=16" ∷ []))
    ≡ Some (codes "16"))
unfolding refusals run_text clap_on_literals
run_forgets = (refl, refl)
