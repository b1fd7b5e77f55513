use Rattle.std.proofs.Common.{◌≡◌, ◌∙◌, ◌++◌, [], List, ap, ap₂, append-nil, refl, rules}
use Rattle.group.specs.Cells.{Held}
use Rattle.group.specs.Keys.{in_set}
use Rattle.group.proofs.PassedLemmas.{same_both}
use Rattle.group.proofs.SetLemmas.{in_set-again}
use Rattle.group.proofs.keyed.gather.Goals as goal

pub returns-then-pass_over-clause-same : goal.returns-then-pass_over-clause-same
returns-then-pass_over-clause-same g c =
    same_both c.args.touched.now.items c.args.quiet.now.items c.settle.new.touched.items c.args.quiet.now.items (ap in_set c.settle.ensures ∙ in_set-again c.args.touched.now.items) refl

pub returns-clause-same : goal.returns-clause-same
returns-clause-same g c =
    let all : List Held = c.args.touched.now.items ++ c.args.quiet.now.items in
    let now : c.settle-2.new.touched.items ≡ in_set all = search rules in
    let none : c.append.new.other.items ≡ [] = search rules in
    ap₂ (λ (ks js : List Held). in_set (ks ++ js)) now none ∙ ap in_set (append-nil (in_set all)) ∙ in_set-again all
