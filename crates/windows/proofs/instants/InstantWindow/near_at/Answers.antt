use Rattle.std.proofs.Common.{subst, ap, ap₂, sym, ◌∙◌, ◌≡◌, ◌-◌, ℕ, Bool, List, arith, length, map, take, drop, min, max}
use Rattle.values.specs.Row.{Row}
use Rattle.windows.specs.Instants.{HaveOneWidthIn, InstantExcerpt, InstantState, near_at, past_count}
use Rattle.values.specs.Moving.{oldest}
use Rattle.windows.proofs.InstantsLemmas.{Parted, near_wide, parted, past_few}
use Rattle.windows.proofs.instants.InstantWindow.near_at.Goals as goal

pub part-requires-2-clause-within : goal.part-requires-2-clause-within
part-requires-2-clause-within c =
    let s : InstantState = record { reach = c.self.inside.reach; width = c.self.inside.held.width; held = c.self.inside.held.held; shown = c.self.inside.shown } in
    let older : ℕ = c.count_past-older.result in
    let counted : older ≡ past_count s c.args.at = subst (λ (x : InstantState). older ≡ past_count x c.args.at) (sym c.self.view_is) c.count_past-older.ensures in
    omega (arith, c.max-middle.ensures, past_few s c.args.at older counted, c.self.invariant.few)

pub part-requires-3-clause-ordered : goal.part-requires-3-clause-ordered
part-requires-3-clause-ordered c =
    let s : InstantState = record { reach = c.self.inside.reach; width = c.self.inside.held.width; held = c.self.inside.held.held; shown = c.self.inside.shown } in
    let older : ℕ = c.count_past-older.result in
    let counted : older ≡ past_count s c.args.at = subst (λ (x : InstantState). older ≡ past_count x c.args.at) (sym c.self.view_is) c.count_past-older.ensures in
    omega (arith, c.max-middle.ensures, c.len.ensures, past_few s c.args.at older counted, c.self.invariant.few)

pub returns-clause-value : goal.returns-clause-value
returns-clause-value c =
    let s : InstantState = record { reach = c.self.inside.reach; width = c.self.inside.held.width; held = c.self.inside.held.held; shown = c.self.inside.shown } in
    let n : ℕ = oldest s.reach c.args.at in
    let older : ℕ = c.count_past-older.result in
    let f : ℕ × Row → Row = λ h. h.1 in
    let counted : older ≡ past_count s c.args.at = subst (λ (x : InstantState). older ≡ past_count x c.args.at) (sym c.self.view_is) c.count_past-older.ensures in
    let p : Parted n s.shown s.held older = parted n s.shown older s.held c.self.invariant.order.ordered c.self.invariant.few counted in
    let a : c.min.result - 0 ≡ min older s.shown = omega (arith, c.min.ensures) in
    let m : c.max-middle.result ≡ max older s.shown = omega (arith, c.max-middle.ensures) in
    let l : c.len.result ≡ length s.held = c.len.ensures in
    let leave = c.in_ok-leave.ensures ∙ ap (λ (j : ℕ). map f (take j s.held)) a ∙ ap (map f) p.leave in
    let pass = c.in_ok-pass.ensures ∙ ap (λ (j : ℕ). map f (take (j - s.shown) (drop s.shown s.held))) m ∙ ap (map f) p.pass in
    let enter = c.in_ok-enter.ensures ∙ ap₂ (λ (i j : ℕ). map f (take (i - j) (drop j s.held))) l m ∙ ap (map f) p.enter in
    let with_once : Bool → InstantExcerpt = λ x. record { at_once = x; leave = c.in_ok-leave.leave; pass = c.in_ok-pass.pass; enter = c.in_ok-enter.enter } in
    let with_leave : List Row → InstantExcerpt = λ x. record { at_once = (near_at s c.args.at).at_once; leave = x; pass = c.in_ok-pass.pass; enter = c.in_ok-enter.enter } in
    let with_pass : List Row → InstantExcerpt = λ x. record { at_once = (near_at s c.args.at).at_once; leave = (near_at s c.args.at).leave; pass = x; enter = c.in_ok-enter.enter } in
    let with_enter : List Row → InstantExcerpt = λ x. record { at_once = (near_at s c.args.at).at_once; leave = (near_at s c.args.at).leave; pass = (near_at s c.args.at).pass; enter = x } in
    ap with_once c.shows_at_once-at_once.ensures ∙ ap with_leave leave ∙ ap with_pass pass ∙ ap with_enter enter ∙ ap (λ (x : InstantState). near_at x c.args.at) c.self.view_is

pub returns-clause-wide : goal.returns-clause-wide
returns-clause-wide c =
    let s : InstantState = record { reach = c.self.inside.reach; width = c.self.inside.held.width; held = c.self.inside.held.held; shown = c.self.inside.shown } in
    subst HaveOneWidthIn (sym (returns-clause-value c)) (subst (λ (x : InstantState). HaveOneWidthIn (near_at x c.args.at)) c.self.view_is (near_wide s c.args.at c.self.invariant.order))
