-- What each request to a sheet is answered, and what a sheet's text is after any list of requests.
-- A sheet is known by its text alone: its two lists are those of batch reading. t and l are the token and the line book, room is the store's capacity.
use Rattle.std.specs.Prelude.{◌≡◌, ℕ, zero, suc, ◌+◌, ◌-◌, ◌*◌, ◌<◌, Bool, true, false, cond, ◌&&◌, ltb, List, [], ◌∷◌, ◌++◌, length, take, drop, is_some, Some, None, Option, ◌==◌, nat_le, nat_lt, slice_index, slice_index_or}
use Rattle.std.specs.Option.{option_map}
use Rattle.std.specs.List.{slice_get}
use Rattle.counts.specs.declared.Refusal.{Refusal}
use Rattle.text.specs.Refused as store
use Rattle.text.specs.Replaced.{replaced}
use Rattle.books.specs.Tables.{Tables}
use Rattle.reading.specs.Reading.{Entry, batch, kinds, at, start}
use Rattle.reading.specs.Laws.{total_length}
use Rattle.reading.specs.Report.{Edit, edit, report, edit_above, least, Covers}
use Rattle.requests.specs.Asked.{Asked, correct, token, line, where_is, time, copy, alike, Reports, Answered, refused, reported, entry_is, stands, time_is, copied, not_copied, alike_is}

-- the two lists of a text
abbrev pub token_list : Tables → List ℕ → List Entry
token_list t s = batch t s

abbrev pub line_list : Tables → Tables → List ℕ → List Entry
line_list t l s = batch l (kinds (batch t s))

-- the reports of the correction that turns text s into u by edit e
unfoldable pub reports : Tables → Tables → List ℕ → List ℕ → Edit → Reports
reports t l s u e =
    let r = report (token_list t s) (token_list t u) e in
    record { tokens = r; lines = report (line_list t l s) (line_list t l u) (edit_above (token_list t u) r) }

-- the token that place p lies in, and the offset there; at the text's length the end token; beyond it none
unfoldable pub where_in : List Entry → ℕ → Option (ℕ × ℕ)
where_in es p =
    let j = least (λ i. ltb p (start es (suc i))) (length es) in
    cond (nat_lt j (length es)) (Some (j, p - start es j)) (cond (p == total_length es && nat_lt 0 (length es)) (Some (length es - 1, 0)) None)

-- the bytes of token n
abbrev pub bytes_of : List ℕ → List Entry → ℕ → List ℕ
bytes_of s es n = take (at es n).length (drop (start es n) s)

abbrev pub is_digit : ℕ → Bool
is_digit b = nat_le 48 b && nat_le b 57

abbrev pub two_digits : List ℕ → ℕ → Bool
two_digits w i = is_digit (slice_index w i) && is_digit (slice_index w (suc i))

abbrev pub number : List ℕ → ℕ → ℕ
number w i = 10 * (slice_index w i - 48) + (slice_index w (suc i) - 48)

-- [mm:ss.hh] and nothing more
abbrev pub is_stamp : List ℕ → Bool
is_stamp w =
    (length w == 10) && (slice_index w 0 == 91 && (two_digits w 1 && (slice_index w 3 == 58 && (two_digits w 4 && (slice_index w 6 == 46 && (two_digits w 7 && slice_index w 9 == 93))))))

-- the time of a stamp in hundredths of a second
unfoldable pub time_of : List ℕ → Option ℕ
time_of w = cond (is_stamp w) (Some (number w 1 * 6000 + number w 4 * 100 + number w 7)) None

-- 14. is the token there? 15. is the buffer at least as long as the token?
abbrev pub no_token : ℕ → Refusal
no_token n = record { layer = 3; number = 14; detail = n }

abbrev pub short_buffer : ℕ → Refusal
short_buffer n = record { layer = 3; number = 15; detail = n }

unfoldable pub copy_of : List ℕ → List Entry → ℕ → List ℕ → Answered
copy_of s es n buffer =
    cond (nat_lt n (length es))
    (cond (nat_le (at es n).length (length buffer))
    (copied (at es n).length (bytes_of s es n ++ drop (at es n).length buffer))
    (not_copied (short_buffer (at es n).length) buffer))
    (not_copied (no_token n) buffer)

-- the kinds of the tokens of line n
abbrev pub kinds_in : List ℕ → List Entry → ℕ → List ℕ
kinds_in ks ls n = take (at ls n).length (drop (start ls n) ks)

abbrev pub same : List ℕ → List ℕ → Bool
same [] [] = true
same [] (y ∷ ys) = false
same (x ∷ xs) [] = false
same (x ∷ xs) (y ∷ ys) = x == y && same xs ys

unfoldable pub alike_in : List ℕ → List Entry → ℕ → ℕ → Option Bool
alike_in ks ls a b =
    cond (nat_lt a (length ls) && nat_lt b (length ls)) (Some (same (kinds_in ks ls a) (kinds_in ks ls b))) None

-- what a correction of text s is answered: the store's refusal, or the reports
abbrev pub corrected : Tables → Tables → List ℕ → ℕ → ℕ → List ℕ → Option Refusal → Answered
corrected t l s a c i None = reported (reports t l s (replaced s a c i) (edit a c (length i)))
corrected t l s a c i (Some f) = refused f

-- why the store refuses a correction, as it is told
abbrev pub refusal : ℕ → List ℕ → ℕ → ℕ → List ℕ → Option Refusal
refusal room s a c i = option_map store.told (store.refused (length s) room a c (length i))

-- the answer to a request that meets text s
unfoldable pub answer : Tables → Tables → ℕ → List ℕ → Asked → Answered
answer t l room s (correct a c i) = corrected t l s a c i (refusal room s a c i)
answer t l room s (token n) = entry_is (slice_get (token_list t s) n)
answer t l room s (line n) = entry_is (slice_get (line_list t l s) n)
answer t l room s (where_is p) = stands (where_in (token_list t s) p)
answer t l room s (time n) = time_is (cond (nat_lt n (length (token_list t s))) (time_of (bytes_of s (token_list t s) n)) None)
answer t l room s (copy n buffer) = copy_of s (token_list t s) n buffer
answer t l room s (alike a b) = alike_is (alike_in (kinds (token_list t s)) (line_list t l s) a b)

-- the text after a request that meets text s: a correction that is not refused is made in it
unfoldable pub text_after : ℕ → List ℕ → Asked → List ℕ
text_after room s (correct a c i) = cond (is_some (refusal room s a c i)) s (replaced s a c i)
text_after room s (token n) = s
text_after room s (line n) = s
text_after room s (where_is p) = s
text_after room s (time n) = s
text_after room s (copy n buffer) = s
text_after room s (alike a b) = s

-- the text that request n meets: the opening text after the first n requests
unfoldable pub text_at : ℕ → List ℕ → List Asked → ℕ → List ℕ
text_at room s rs zero = s
text_at room s [] (suc n) = s
text_at room s (r ∷ rs) (suc n) = text_at room (text_after room s r) rs n

-- entries outside the reports of a correction that turns s into u are the same in each field
pub record Outside (t l : Tables) (s u : List ℕ) (e : Edit) : Type 0 where
  pub tokens : Covers (token_list t s) (token_list t u) (reports t l s u e).tokens
  pub lines : Covers (line_list t l s) (line_list t l u) (reports t l s u e).lines

-- A history: any list of requests put to a sheet that was opened on a text, one after the other, with their answers.
-- Every answer is the one that is defined for the text that its request met, and for the lists of batch reading of that text.
pub record History (t l : Tables) (room : ℕ) (opening : List ℕ) (rs : List Asked) (answers : List Answered) (closing : List ℕ) (tokens lines : List Entry) : Type 0 where
  pub each : length answers ≡ length rs
  pub right : (n : ℕ) → n < length rs → slice_get answers n ≡ Some (answer t l room (text_at room opening rs n) (slice_index_or rs n (token 0)))
  pub text : closing ≡ text_at room opening rs (length rs)
  pub token_list_of : tokens ≡ token_list t closing
  pub line_list_of : lines ≡ line_list t l closing
  pub outside : (n a c : ℕ) (i : List ℕ) → n < length rs → slice_index_or rs n (token 0) ≡ correct a c i → refusal room (text_at room opening rs n) a c i ≡ None →
      Outside t l (text_at room opening rs n) (text_at room opening rs (suc n)) (edit a c (length i))
