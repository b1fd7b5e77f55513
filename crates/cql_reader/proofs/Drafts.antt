-- What the program's draft says after a token.
use Rattle.std.proofs.Common.{◌≡◌, ℕ, ℤ, List, sym, ap, ◌∙◌}
use Rattle.cql_reader.specs.declared.symbols.Role.{Role}
use Rattle.cql_reader.specs.declared.symbols.Role.TheVariants as r
use Rattle.cql_reader.specs.Lexis.{number_of}
use Rattle.cql_reader.specs.Query.{Number}
use Rattle.cql_reader.specs.Grammar.{Draft, Terms, sided, took}

-- the draft with these terms
abbrev pub termed : Draft → Terms → Draft
termed d t = record d { terms = t }

pub take_number : (d : Draft) (t : Terms) (role : Role) (bytes : List ℕ) (z : ℤ) → role ≡ r.Number → z ≡ number_of bytes → t ≡ sided (Number z) d.terms → termed d t ≡ took role bytes d
unfolding took
take_number d t role bytes z e h q =
    ap (termed d) (q ∙ ap (λ (v : ℤ). sided (Number v) d.terms) h) ∙ sym (ap (λ (v : Role). took v bytes d) e)
