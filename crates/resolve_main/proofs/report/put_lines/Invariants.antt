-- `resolve_main::report::put_lines` meets its contract: a line for each word that was passed.
use Rattle.std.proofs.Common.{◌≡◌, ◌++◌, ◌+◌, ◌*◌, take}
use mathlib.Core.List.{map}
use mir.Syntax.{w32}
use Rattle.std.specs.Int.{from_le_bytes}
use Rattle.arrayvec.specs.ArrayVec.{array_vec_len}
use Rattle.definitions.specs.Text.{lines_of}
use Rattle.resolve_main.proofs.report.put_lines.Given as goal

abbrev pub invariant-loop-word : goal.invariant-loop-word
invariant-loop-word g l = record {
  text : l.text.items ≡ l.initial.text.items ++ lines_of (map (from_le_bytes w32) (take l.word-index l.word-items));
  long : array_vec_len l.text ≡ array_vec_len l.initial.text + 9 * l.word-index;
}
