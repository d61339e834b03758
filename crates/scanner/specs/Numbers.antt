-- The codes that entries give.
use Rattle.std.specs.Prelude.{ℕ, List, map}
use Rattle.reading.specs.Reading.{Entry}

-- the codes that records give to the list above them
abbrev pub kinds_of : List Entry → List ℕ
kinds_of es = map (λ e. e.kind) es
