-- `resolve::writer::Writer::put_names` meets its contract: the words of as many names are written.
use mathlib.Core.List.{map}
use lib.ListN.{take}
use Rattle.resolve.specs.Writing.{Writes}
use Rattle.resolve.proofs.WriteLaws.{name_word}
use Rattle.resolve.proofs.writer.Writer.put_names.Given as goal

abbrev pub invariant-loop-name : goal.invariant-loop-name
invariant-loop-name l = Writes l.initial.self (map name_word (take l.name-index l.names)) l.self
