use Rattle.std.proofs.Common.{◌≡◌, ◌+◌}
use Rattle.std.specs.Iterator.Adapters.{enumerate_source, enumerate_count}
use Rattle.script.specs.Plain.{heard}
use Rattle.script.specs.Scripts.{told, lines_of, meaning, written_out}
use Rattle.script.proofs.scripts.parse.Given as goal

abbrev pub invariant-loop-i : goal.invariant-loop-i
invariant-loop-i l = meaning l.input ≡ written_out (told (enumerate_count l.i-iterator + 1) (heard l.said) (lines_of (enumerate_source l.i-iterator).rest.now))
