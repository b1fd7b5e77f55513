use Rattle.std.proofs.Common.{◌≡◌, ap, subst, ◌∙◌, sym, arith, length, List, ℕ, map, nat_lt, take}
use Rattle.std.specs.List.{filter, zip}
use Rattle.std.specs.List.Sorted.{IsNonDecreasingBy}
use Rattle.std.proofs.lemmas.List.Sums.{prefix_len-le-length}
use Rattle.std.proofs.lemmas.Slice.Zip.{seconds-zip}
use Rattle.values.specs.Row.{Row}
use Rattle.windows.specs.Held.{HeldState, instants_in}
use Rattle.windows.proofs.HeldLemmas.{length-held, older_rows}
use Rattle.windows.proofs.held.HeldRows.count_older.Goals as goal

pub returns-clause-few : goal.returns-clause-few
returns-clause-few c =
    omega (arith, prefix_len-le-length (λ t. nat_lt t c.args.first) (instants_in c.self.inside.runs.items), c.count_below.ensures, c.self.invariant.same, length-held (instants_in c.self.inside.runs.items) c.self.inside.rows.rows c.self.invariant.same, ap (λ (s : HeldState). length s.held) c.self.view_is)

pub returns-clause-older : goal.returns-clause-older
returns-clause-older c =
    let ts : List ℕ = instants_in c.self.inside.runs.items in
    let rows : List Row = c.self.inside.rows.rows in
    let k : ℕ = c.count_below.result in
    let is : zip ts rows ≡ c.args.self.now.held = ap (λ (s : HeldState). s.held) c.self.view_is in
    let sorted = subst (λ (hs : List (ℕ × Row)). IsNonDecreasingBy (λ h. h.0) hs) (sym is) c.requires in
    subst (λ (hs : List (ℕ × Row)). take k (map (λ h. h.1) hs) ≡ map (λ h. h.1) (filter (λ h. nat_lt h.0 c.args.first) hs)) is
    (ap (take k) (seconds-zip ts rows (sym c.self.invariant.same)) ∙ older_rows c.args.first k ts rows c.self.invariant.same sorted c.count_below.ensures)
