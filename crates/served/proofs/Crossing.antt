-- A runtime that threads may share: what says so has at most one proof.
use mathlib.Core.Path.{refl}
use base.Fml.{Lft, Fml, ftrue, ffalse, feq, flt, fsep, fand, for, fwand, fex, fall, fupd, fhide, fat, froom, fleft, fdies, flft, fdead, fobs, fauth, fres, fown, fbor, fobor, flent, fshr_bor, finv, fnamed, ftok, fkid, fme, fsent}
use base.Shift.{Keyless}
use Rattle.served.specs.Crossing.{IsShared}
use Rattle.std.proofs.Math.Logic.{∥∥₁_elim}
use Rattle.std.proofs.Common.{ℕ}

keyless_prop : (P : Fml) → IsProp (Keyless P)
keyless_prop ftrue p q = refl
keyless_prop ffalse p q = refl
keyless_prop (feq d x y) p q = refl
keyless_prop (flt m n) p q = refl
keyless_prop (fat r τ b o v) p q = refl
keyless_prop (froom τ b o) p q = refl
keyless_prop (fleft r ω τs b o) p q = refl
keyless_prop (fdies τ b) p q = refl
keyless_prop (flft κ r) p q = refl
keyless_prop (fdead κ) p q = refl
keyless_prop (fobs γ x) p q = refl
keyless_prop (fauth γ x) p q = refl
keyless_prop (fres γ x) p q = refl
keyless_prop (fown R γ x) p q = refl
keyless_prop (fsep P Q) p q = λ i. (keyless_prop P p.0 q.0 i, keyless_prop Q p.1 q.1 i)
keyless_prop (fand P Q) p q = λ i. (keyless_prop P p.0 q.0 i, keyless_prop Q p.1 q.1 i)
keyless_prop (for P Q) p q = λ i. (keyless_prop P p.0 q.0 i, keyless_prop Q p.1 q.1 i)
keyless_prop (fwand P Q) p q = λ i. (keyless_prop P p.0 q.0 i, keyless_prop Q p.1 q.1 i)
keyless_prop (fupd P) p q = keyless_prop P p q
keyless_prop (fhide P) p q = keyless_prop P p q
keyless_prop (fbor κ P) p q = keyless_prop P p q
keyless_prop (fobor κ r P) p q = keyless_prop P p q
keyless_prop (flent κ P) p q = keyless_prop P p q
keyless_prop (finv P) p q = keyless_prop P p q
keyless_prop (fnamed nm P) p q = keyless_prop P p q
keyless_prop (fex X F) p q = λ i x. keyless_prop (F x) (p x) (q x) i
keyless_prop (fall X F) p q = λ i x. keyless_prop (F x) (p x) (q x) i
keyless_prop (fshr_bor κ F) p q = λ i r. keyless_prop (F r) (p r) (q r) i
keyless_prop (ftok E) p q = absurd p
keyless_prop (fkid h a) p q = absurd p
keyless_prop (fme h) p q = absurd p
keyless_prop (fsent E) p q = refl

pub is_shared : {D : Type 0} (s : D → ℕ → ℕ → Lft → Fml) → ∥ IsShared s ∥₁ → IsShared s
is_shared s is = ∥∥₁_elim is (λ p q i x b o κ. keyless_prop (s x b o κ) (p x b o κ) (q x b o κ) i) (λ x. x)
