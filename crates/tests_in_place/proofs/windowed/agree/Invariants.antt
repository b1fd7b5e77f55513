use Rattle.tests_in_place.proofs.TurnLemmas.{IsOf}
use Rattle.tests_in_place.proofs.windowed.agree.Given as goal

abbrev pub invariant-loop-came : goal.invariant-loop-came
invariant-loop-came l = record {
  placed : IsOf 2 l.last l.placed;
  stepped : IsOf 2 l.last l.stepped;
}
