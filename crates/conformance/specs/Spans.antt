-- What is compared: the kind and the length of each token, the end token included.
use Rattle.std.specs.Prelude.{ℕ, List, map}
use Rattle.reading.specs.Reading.{Entry, batch}
use Rattle.house.specs.House.{house_tokens}
use Rattle.conformance.specs.declared.vectors.Span.{Span}

abbrev pub span : Entry → Span
span e = record { kind = e.kind; length = e.length }

abbrev pub spans : List Entry → List Span
spans es = map span es

-- those of a sheet under the house token book
abbrev pub spans_of : List ℕ → List Span
spans_of sheet = spans (batch house_tokens sheet)
