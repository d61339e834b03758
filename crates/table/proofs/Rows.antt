-- The rows of a table, one more at a time.
use Rattle.std.proofs.Common.{◌≡◌, ℕ, ◌+◌, List, [], ◌∷◌, ◌++◌, sym, ap, ◌∙◌, zero-add}
use Rattle.std.specs.List.{range_with_len, flat_map}
use Rattle.std.proofs.lemmas.List.FromFn.{map-range_with_len_more}
use Rattle.std.proofs.lemmas.List.{flat_map_more, map-id}
use Rattle.reading.specs.Reading.{Entry, at, start}
use Rattle.table.specs.Table.{row, columns, header, rows}

counting_more : (n : ℕ) → range_with_len 0 (n + 1) ≡ range_with_len 0 n ++ (n ∷ [])
counting_more n =
    sym (map-id (range_with_len 0 (n + 1))) ∙ map-range_with_len_more (λ k. k) 0 n n (zero-add n) ∙ ap (λ xs. xs ++ (n ∷ [])) (map-id (range_with_len 0 n))

-- row n behind the n rows before it
pub rows_more : (es : List Entry) (n : ℕ) → (header ++ rows es n) ++ row (columns n (start es n) (at es n)) ≡ header ++ rows es (n + 1)
unfolding rows
rows_more es n =
    let line : ℕ → List ℕ = λ j. row (columns j (start es j) (at es j)) in
    flat_map_more line header (range_with_len 0 n) n ∙ ap (λ ks. header ++ flat_map line ks) (sym (counting_more n))
