-- What is told of a line that breaks the rules of a script.
use Rattle.std.specs.Prelude.{ℕ, List, codes}
use Rattle.script.specs.declared.wrong.Wrong.{Wrong}
use Rattle.script.specs.declared.wrong.Wrong.TheVariants.{Command, Missing, Left, Number, TooLarge, OverLimit, NoText, OpenText, Escape, Table, Store, Twice, Late}

abbrev pub words : Wrong → List ℕ
words Command = codes "no such command"
words Missing = codes "a field is missing"
words Left = codes "more than the command takes"
words Number = codes "not a number in base ten"
words TooLarge = codes "a number that does not fit 64 bits"
words OverLimit = codes "a number above 1000000"
words NoText = codes "not a text in double quotes"
words OpenText = codes "a text without its closing quote"
words Escape = codes "no such escape in a text"
words Table = codes "neither pairs of hex digits nor -"
words Store = codes "a store that is neither flat nor gap"
words Twice = codes "a set-up line of this kind came before"
words Late = codes "a set-up line behind a request"
