use Rattle.std.proofs.Common.{◌≡◌, ◌+◌, ◌-◌, ◌*◌, drop, fold}
use Rattle.script.specs.Fields.{number_of, digits}
use Rattle.script.proofs.numbers.number_of.Given as goal

abbrev pub invariant-loop-b : goal.invariant-loop-b
invariant-loop-b l =
    record {
      value : fold (λ a b. a * 10 + (b - 48)) 0 l.word ≡ fold (λ a b. a * 10 + (b - 48)) l.number (drop l.b-index l.word);
      read : number_of l.word ≡ digits l.number (drop l.b-index l.word);
    }
