-- The bytes of a text, read one by one.
use Rattle.std.proofs.Common.{◌≡◌, ℕ, ◌+◌, ◌<◌, List, ◌∷◌, length, get_or, drop, sym, ap, ◌∙◌, zero, suc, arith}
use Rattle.std.specs.List.{slice_get, cons_option, filter_map, range_with_len}
use Rattle.std.proofs.lemmas.List.{drop_all, drop_more}
use Rattle.std.proofs.lemmas.Option.{slice_get-get_or}

-- those from place a on
pub all_from : (xs : List ℕ) (a n : ℕ) → a + n ≡ length xs → filter_map (slice_get xs) (range_with_len a n) ≡ drop a xs
all_from xs a zero e = sym (drop_all a xs (omega arith))
all_from xs a (suc n) e =
    let within : a < length xs = omega arith in
    ap (λ o. cons_option o (filter_map (slice_get xs) (range_with_len (a + 1) n))) (slice_get-get_or xs a 0 within)
    ∙ ap (λ ys. get_or xs a 0 ∷ ys) (all_from xs (a + 1) n (omega arith))
    ∙ sym (drop_more xs a 0 within)
