-- What `==` says of figures and of what is grouped by.
use Rattle.std.proofs.Common.{◌≡◌, Bool, false, ap}
use Rattle.std.specs.Bool.{Decides}
use Rattle.std.proofs.lemmas.Bool.Decides.{Decides-int_eq, Decides-and, Decides-like}
use Rattle.values.proofs.Equality.{some_decides, value_decides}
use Rattle.group.specs.Groups.{GroupBy}
use Rattle.group.specs.Same.{figure_eq}
use Rattle.group.specs.declared.cells.Figure.{Figure}

pub figure_decides : (a b : Figure) → Decides (figure_eq a b) (a ≡ b)
figure_decides a b =
    Decides-like _ (λ e. λ i. record { number = e.0 i; value = e.1 i }) (λ e. (ap (λ (f : Figure). f.number) e, ap (λ (f : Figure). f.value) e))
    (Decides-and _ _ (some_decides Decides-int_eq a.number b.number) (value_decides a.value b.value))

-- groups by the same columns are the same where their lists are
pub lists_same : (g h : GroupBy) (r : Bool) → g.by ≡ h.by → Decides r (g.items ≡ h.items) → Decides r (g ≡ h)
lists_same g h r e d = Decides-like r (λ f. λ i. record { by = e i; items = f i }) (ap (λ (k : GroupBy). k.items)) d

pub lists_differ : (g h : GroupBy) (r : Bool) → r ≡ false → Decides r (g.by ≡ h.by) → Decides r (g ≡ h)
lists_differ g h r f d = (λ t. cc, λ e. d.1 (ap (λ (k : GroupBy). k.by) e))
