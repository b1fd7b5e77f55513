-- Worked lines.
use Rattle.std.specs.Prelude.{◌≡◌, [], ◌∷◌, Some, None, true, codes, pos, negsuc, refl}
use Rattle.std.specs.Fmt.{digits}
use Rattle.envelope.specs.Fraction.{fraction}
use Rattle.names.specs.declared.fault.ResolveFault.TheVariants.{NotGrouped}
use Rattle.plan.specs.declared.fault.PlanFault.TheVariants.{Unresolved}
use Rattle.plan.specs.declared.node.NodeKind.TheVariants.{Window, ToStream}
use Rattle.reference.specs.FaultTexts.{fault_text}
use Rattle.reference.specs.Looks.{operators}
use Rattle.reference.specs.declared.fault.Fault.TheVariants.{Query, Late}
use Rattle.reference.specs.declared.fault.QueryFault.TheVariants.{Unexpected, Planned}
use Rattle.wire.specs.Lines.{lines_of}
use Rattle.wire.specs.Requests.{is_blank}
use Rattle.wire.specs.Printed.{rows, seen, refused, line_of, rows_text, row_text, value_text}
use Rattle.wire.specs.Printed.{operators_text, operator_text, seen_line}

-- a text of two lines and the beginning of a third, the second of which is blank
lines : lines_of (codes "[]\n\t\r\n{") ≡ codes "[]" ∷ codes "\t\r" ∷ codes "{" ∷ []
lines = refl

blank : is_blank (codes "\t\r ") ≡ true
blank = refl

-- two answers, the second of which has a null
take : line_of (rows ((pos 1, Some (pos 5) ∷ Some (negsuc 6) ∷ []) ∷ (pos 30, None ∷ []) ∷ []))
    ≡ codes "{\"ok\":true,\"rows\":[[1,5,-7],[30,null]]}\n"
unfolding line_of rows_text row_text value_text digits
take = refl

none : line_of (rows []) ≡ codes "{\"ok\":true,\"rows\":[]}\n"
unfolding line_of rows_text
none = refl

plan : line_of (seen (operators ((Window, fraction 250000 1) ∷ (ToStream, fraction 0 1) ∷ [])))
    ≡ codes "{\"ok\":true,\"operators\":[[\"Window\",\"250000/1\"],[\"ToStream\",\"0/1\"]]}\n"
unfolding line_of seen_line operators_text operator_text digits
plan = refl

late : line_of (refused Late) ≡ codes "{\"error\":\"E10 Late\"}\n"
unfolding line_of fault_text
late = refl

misread : line_of (refused (Query (Unexpected 17))) ≡ codes "{\"error\":\"Q4 Unexpected at 17\"}\n"
unfolding line_of fault_text digits
misread = refl

-- a fault of the names, which plans and engines hand on
ungrouped : line_of (refused (Query (Planned (Unresolved NotGrouped))))
    ≡ codes "{\"error\":\"Q12 NotGrouped\"}\n"
unfolding line_of fault_text
ungrouped = refl
