use Rattle.std.proofs.Common.{◌≡◌, ◌%◌, length, vec_items}
use Rattle.std.specs.Slice.Iter.{chunks_rest, chunks_size}
use Rattle.script.specs.Fields.{pairs}
use Rattle.script.proofs.Digits.{joined_to}
use Rattle.script.proofs.numbers.pairs_of.Given as goal

abbrev pub invariant-loop-digits : goal.invariant-loop-digits
invariant-loop-digits l =
    record {
      by_two : chunks_size l.digits-iterator ≡ 2;
      even : length (chunks_rest l.digits-iterator) % 2 ≡ 0;
      read : pairs l.word ≡ joined_to (vec_items l.bytes) (pairs (chunks_rest l.digits-iterator));
    }
