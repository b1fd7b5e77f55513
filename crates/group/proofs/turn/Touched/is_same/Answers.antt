use Rattle.std.proofs.Common.{◌≡◌, false, refl}
use Rattle.std.proofs.lemmas.Slice.Eq.{slice_eq-Decides}
use Rattle.std.proofs.lemmas.Bool.Decides.{Decides-int_eq, Decides-like}
use Rattle.group.proofs.ExcerptLemmas.{differs}
use Rattle.group.proofs.turn.Touched.is_same.Goals as goal

pub returns-then-not-same : goal.returns-then-not-same
returns-then-not-same c =
    let unlike : c.eq-same.result ≡ false = c.if-not-same.true in
    differs _ false unlike refl (slice_eq-Decides Decides-int_eq _ _ _ c.eq-same.ensures) (λ e. e.1.1.0)

pub returns : goal.returns
returns c =
    let keys : c.args.self.now.keys ≡ c.args.other.now.keys = c.is_same.ensures.0 c.if-not-is_same.false in
    let shown : c.args.self.now.shown ≡ c.args.other.now.shown = c.is_same-2.ensures.0 c.if-not-is_same-2.false in
    let rows : c.args.self.now.rows.items ≡ c.args.other.now.rows.items = (slice_eq-Decides Decides-int_eq _ _ _ c.eq-same.ensures).0 c.if-not-same.false in
    Decides-like _ (λ e. (keys, (shown, (rows, e)))) (λ e. e.1.1.1) c.is_same-3.ensures
