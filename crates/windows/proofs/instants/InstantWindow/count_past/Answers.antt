use Rattle.std.proofs.Common.{◌≡◌, subst}
use Rattle.windows.specs.Instants.{InstantState, past_count}
use Rattle.values.specs.Moving.{oldest}
use Rattle.windows.proofs.InstantsLemmas.{count_is}
use Rattle.windows.proofs.instants.InstantWindow.count_past.Goals as goal

pub returns : goal.returns
returns c =
    let s : InstantState = record { reach = c.self.inside.reach; width = c.self.inside.held.width; held = c.self.inside.held.held; shown = c.self.inside.shown } in
    subst (λ (x : InstantState). c.count_older.result ≡ past_count x c.args.at) c.self.view_is
    (count_is (oldest s.reach c.args.at) c.count_older.result c.oldest.result s.held c.count_older.ensures.few c.count_older.ensures.older c.oldest.ensures)
