use Rattle.std.proofs.Common.{◌≡◌, take, length}
use Rattle.names.specs.Names.{names_of}
use Rattle.reference.specs.CallViews.{texts_of}
use Rattle.reference.proofs.plain.changes.names_of.Given as goal

abbrev pub invariant-loop-text : goal.invariant-loop-text
invariant-loop-text l = record {
  names : names_of l.names.items ≡ texts_of (take l.text-index l.texts);
  len : length l.names.items ≡ l.text-index;
}
