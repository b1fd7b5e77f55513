-- The steps of the machine.
use Rattle.std.proofs.Common.{◌≡◌, ℕ, zero, suc, ◌+◌, ◌*◌, ◌<◌, ◌≤◌, Bool, true, false, List, [], ◌∷◌, ◌++◌, Option, Some, None, Result, Err, refl, sym, ap, ◌∙◌, subst, arith, reverse, length}
use Rattle.std.proofs.lemmas.List.{reverse-append}
use Rattle.std.proofs.lemmas.Bool.{false_from_ne_true}
use denote.Enum.Bare.{true_same, same_true}
use Rattle.cql_reader.specs.contracts.tokens.TokenKind.{the_type}
use Rattle.cql_reader.specs.declared.tokens.TokenKind.{TokenKind}
use Rattle.cql_reader.specs.declared.symbols.Part.{Part}
use Rattle.cql_reader.specs.declared.symbols.Role.{Role}
use Rattle.cql_reader.specs.declared.symbols.Mark.{Mark}
use Rattle.cql_reader.specs.declared.symbols.Symbol.{Symbol}
use Rattle.cql_reader.specs.declared.symbols.Symbol.TheVariants.{Read, Rule, Emit}
use Rattle.cql_reader.specs.Lexis.{number_of}
use Rattle.cql_reader.specs.Tokens.{Token}
use Rattle.cql_reader.specs.Scanning.{Scan, End, Bad, Then}
use Rattle.cql_reader.specs.Fault.{Fault, BadToken, Unexpected, NumberRange, TooDeep}
use Rattle.cql_reader.specs.Grammar.{Draft, kind_of, in_range, may_open, took, did, whole, start}
use Rattle.cql_reader.specs.Prediction.{same_kind, chosen, ahead, stopped, closed, taken, along, run, weight, weights, count, parsed}
use Rattle.cql_reader.proofs.Theory.{effort, effort_emit, effort_read, effort_rule}

-- a bound on the steps that are left
abbrev pub left : List Symbol → Scan → ℕ
left stack rest = 64 * count rest + effort stack

-- with as many steps as it may take, the stack gives this result
pub record Runs (stack : List Symbol) (d : Draft) (rest : Scan) (result : Result Draft Fault) : Type 0 where
  pub fuel : ℕ
  pub enough : left stack rest < fuel
  pub same : run fuel stack d rest ≡ result

pub runs_start : (rest : Scan) → Runs whole start rest (parsed rest)
unfolding parsed weights weight
runs_start rest = record { fuel = 64 * (count rest + 2); enough = omega arith; same = refl }

-- one step taken from the fuel
step : (n m : ℕ) → m < n → (k : ℕ) × (n ≡ suc k) × (m ≤ k)
step zero m h = absurd (omega arith)
step (suc k) m h = (k, refl, omega arith)

pub runs_emit : (mark : Mark) (xs : List Symbol) (d : Draft) (rest : Scan) (result : Result Draft Fault) → Runs (Emit mark ∷ xs) d rest result → Runs xs (did mark d) rest result
unfolding run
runs_emit mark xs d rest result r =
    let k = step r.fuel (left (Emit mark ∷ xs) rest) r.enough in
    let e : run (suc k.0) (Emit mark ∷ xs) d rest ≡ result = subst (λ (n : ℕ). run n (Emit mark ∷ xs) d rest ≡ result) k.1 r.same in
    record { fuel = k.0; enough = omega (arith, k.2, effort_emit mark xs); same = e }

pub taken_fits : (a b c : Bool) (place : ℕ) (after : Result Draft Fault) → a ≡ true → b ≡ true → c ≡ true → taken a b c place after ≡ after
taken_fits true true true place after e f g = refl
taken_fits false b c place after e f g = cc
taken_fits true false c place after e f g = cc
taken_fits true true false place after e f g = cc

pub taken_odd : (a b c : Bool) (place : ℕ) (after : Result Draft Fault) → a ≡ false → taken a b c place after ≡ Err (Unexpected place)
taken_odd false b c place after e = refl
taken_odd true b c place after e = cc

pub taken_outside : (a b c : Bool) (place : ℕ) (after : Result Draft Fault) → a ≡ true → b ≡ false → taken a b c place after ≡ Err (NumberRange place)
taken_outside true false c place after e f = refl
taken_outside false b c place after e f = cc
taken_outside true true c place after e f = cc

pub taken_deep : (a b c : Bool) (place : ℕ) (after : Result Draft Fault) → a ≡ true → b ≡ true → c ≡ false → taken a b c place after ≡ Err (TooDeep place)
taken_deep true true false place after e f g = refl
taken_deep false b c place after e f g = cc
taken_deep true false c place after e f g = cc
taken_deep true true true place after e f g = cc

pub runs_read : (role : Role) (xs : List Symbol) (d : Draft) (t : Token) (more : Scan) (result : Result Draft Fault) → t.kind ≡ kind_of role → in_range role (number_of t.bytes) ≡ true → may_open role d.depth ≡ true → Runs (Read role ∷ xs) d (Then t more) result → Runs xs (took role t.bytes d) more result
unfolding run count
runs_read role xs d t more result f g h r =
    let k = step r.fuel (left (Read role ∷ xs) (Then t more)) r.enough in
    let e : run (suc k.0) (Read role ∷ xs) d (Then t more) ≡ result = subst (λ (n : ℕ). run n (Read role ∷ xs) d (Then t more) ≡ result) k.1 r.same in
    record {
      fuel = k.0;
      enough = omega (arith, k.2, effort_read role xs);
      same = sym (taken_fits (same_kind t.kind (kind_of role)) (in_range role (number_of t.bytes)) (may_open role d.depth) t.place (run k.0 xs (took role t.bytes d) more) (true_same the_type t.kind (kind_of role) f) g h) ∙ e;
    }

pub runs_rule : (part : Part) (ys xs : List Symbol) (d : Draft) (rest : Scan) (result : Result Draft Fault) → chosen part (ahead rest) ≡ Some ys → Runs (Rule part ∷ xs) d rest result → Runs (ys ++ xs) d rest result
unfolding run
runs_rule part ys xs d rest result f r =
    let k = step r.fuel (left (Rule part ∷ xs) rest) r.enough in
    let e : run (suc k.0) (Rule part ∷ xs) d rest ≡ result = subst (λ (n : ℕ). run n (Rule part ∷ xs) d rest ≡ result) k.1 r.same in
    record {
      fuel = k.0;
      enough = omega (arith, k.2, effort_rule part (ahead rest) ys xs f);
      same = sym (ap (λ (v : Option (List Symbol)). along v rest (λ zs. run k.0 (zs ++ xs) d rest)) f) ∙ e;
    }

pub stops_rule : (part : Part) (xs : List Symbol) (d : Draft) (rest : Scan) (result : Result Draft Fault) → chosen part (ahead rest) ≡ None → Runs (Rule part ∷ xs) d rest result → result ≡ Err (stopped rest)
unfolding run
stops_rule part xs d rest result f r =
    let k = step r.fuel (left (Rule part ∷ xs) rest) r.enough in
    let e : run (suc k.0) (Rule part ∷ xs) d rest ≡ result = subst (λ (n : ℕ). run n (Rule part ∷ xs) d rest ≡ result) k.1 r.same in
    sym e ∙ ap (λ (v : Option (List Symbol)). along v rest (λ zs. run k.0 (zs ++ xs) d rest)) f

pub stops_end : (role : Role) (xs : List Symbol) (d : Draft) (place : ℕ) (result : Result Draft Fault) → Runs (Read role ∷ xs) d (End place) result → result ≡ Err (Unexpected place)
unfolding run
stops_end role xs d place result r =
    let k = step r.fuel (left (Read role ∷ xs) (End place)) r.enough in
    let e : run (suc k.0) (Read role ∷ xs) d (End place) ≡ result = subst (λ (n : ℕ). run n (Read role ∷ xs) d (End place) ≡ result) k.1 r.same in
    sym e

not_same : (a b : TokenKind) → (a ≡ b → ⊥) → same_kind a b ≡ false
not_same a b f = false_from_ne_true (same_kind a b) (λ h. f (same_true the_type tt a b h))

pub stops_odd : (role : Role) (xs : List Symbol) (d : Draft) (t : Token) (more : Scan) (result : Result Draft Fault) → (t.kind ≡ kind_of role → ⊥) → Runs (Read role ∷ xs) d (Then t more) result → result ≡ Err (Unexpected t.place)
unfolding run
stops_odd role xs d t more result f r =
    let k = step r.fuel (left (Read role ∷ xs) (Then t more)) r.enough in
    let e : run (suc k.0) (Read role ∷ xs) d (Then t more) ≡ result = subst (λ (n : ℕ). run n (Read role ∷ xs) d (Then t more) ≡ result) k.1 r.same in
    sym e ∙ taken_odd (same_kind t.kind (kind_of role)) (in_range role (number_of t.bytes)) (may_open role d.depth) t.place (run k.0 xs (took role t.bytes d) more) (not_same t.kind (kind_of role) f)

pub stops_outside : (role : Role) (xs : List Symbol) (d : Draft) (t : Token) (more : Scan) (result : Result Draft Fault) → t.kind ≡ kind_of role → in_range role (number_of t.bytes) ≡ false → Runs (Read role ∷ xs) d (Then t more) result → result ≡ Err (NumberRange t.place)
unfolding run
stops_outside role xs d t more result f g r =
    let k = step r.fuel (left (Read role ∷ xs) (Then t more)) r.enough in
    let e : run (suc k.0) (Read role ∷ xs) d (Then t more) ≡ result = subst (λ (n : ℕ). run n (Read role ∷ xs) d (Then t more) ≡ result) k.1 r.same in
    sym e ∙ taken_outside (same_kind t.kind (kind_of role)) (in_range role (number_of t.bytes)) (may_open role d.depth) t.place (run k.0 xs (took role t.bytes d) more) (true_same the_type t.kind (kind_of role) f) g

pub stops_deep : (role : Role) (xs : List Symbol) (d : Draft) (t : Token) (more : Scan) (result : Result Draft Fault) → t.kind ≡ kind_of role → in_range role (number_of t.bytes) ≡ true → may_open role d.depth ≡ false → Runs (Read role ∷ xs) d (Then t more) result → result ≡ Err (TooDeep t.place)
unfolding run
stops_deep role xs d t more result f g h r =
    let k = step r.fuel (left (Read role ∷ xs) (Then t more)) r.enough in
    let e : run (suc k.0) (Read role ∷ xs) d (Then t more) ≡ result = subst (λ (n : ℕ). run n (Read role ∷ xs) d (Then t more) ≡ result) k.1 r.same in
    sym e ∙ taken_deep (same_kind t.kind (kind_of role)) (in_range role (number_of t.bytes)) (may_open role d.depth) t.place (run k.0 xs (took role t.bytes d) more) (true_same the_type t.kind (kind_of role) f) g h

pub stops_closed : (d : Draft) (rest : Scan) (result : Result Draft Fault) → Runs [] d rest result → result ≡ closed d rest
unfolding run
stops_closed d rest result r =
    let k = step r.fuel (left [] rest) r.enough in
    let e : run (suc k.0) [] d rest ≡ result = subst (λ (n : ℕ). run n [] d rest ≡ result) k.1 r.same in
    sym e

along_same : (o : Option (List Symbol)) (rest : Scan) (go : List Symbol → Result Draft Fault) → ((ys : List Symbol) → go ys ≡ Err (stopped rest)) → along o rest go ≡ Err (stopped rest)
along_same None rest go h = refl
along_same (Some ys) rest go h = h ys

-- where no token begins, that is the fault
run_bad : (n : ℕ) (xs : List Symbol) (d : Draft) (place : ℕ) → run n xs d (Bad place) ≡ Err (BadToken place)
unfolding run
run_bad zero xs d place = refl
run_bad (suc n) [] d place = refl
run_bad (suc n) (Emit mark ∷ xs) d place = run_bad n xs (did mark d) place
run_bad (suc n) (Read role ∷ xs) d place = refl
run_bad (suc n) (Rule part ∷ xs) d place = along_same (chosen part None) (Bad place) (λ ys. run n (ys ++ xs) d (Bad place)) (λ ys. run_bad n (ys ++ xs) d place)

pub stops_bad : (stack : List Symbol) (d : Draft) (place : ℕ) (result : Result Draft Fault) → Runs stack d (Bad place) result → result ≡ Err (BadToken place)
stops_bad stack d place result r = sym r.same ∙ run_bad r.fuel stack d place

pub popped : (old new : List Symbol) (x y : Symbol) → old ≡ new ++ x ∷ [] → x ≡ y → reverse old ≡ y ∷ reverse new
popped old new x y e q = ap (λ (v : List Symbol). reverse v) e ∙ reverse-append new (x ∷ []) ∙ ap (λ (v : Symbol). v ∷ reverse new) q

pub emptied : (xs : List Symbol) → length xs ≡ 0 → reverse xs ≡ []
emptied [] e = refl
emptied (x ∷ xs) e = absurd (omega arith)
