-- What holds of each entry of a reading: what it reads, and where it starts.
use Rattle.std.proofs.Common.{◌≡◌, ℕ, zero, suc, ◌+◌, ◌-◌, ◌<◌, ◌≤◌, not, eqb, ltb, List, length, drop, sym, ap, ◌∙◌, subst, ap₂, inl, inr, arith}
use Rattle.std.proofs.lemmas.Bool.{cases_lt, lt-ltb, ltb-false}
use Rattle.books.specs.Tables.{Tables, accept, start_state}
use Rattle.books.specs.Sound.{Sound}
use Rattle.reading.specs.Reading.{Entry, path, state, longest, reading, matched, token, read, start, at, reach}
use Rattle.reading.specs.Laws.{mode_before}
use Rattle.reading.specs.Report.{first}
use Rattle.reading.proofs.Greatest.{greatest_le}
use Rattle.reading.proofs.Least.{least_below, least_up_to}
use Rattle.reading.proofs.Local.{token_reading}
use Rattle.reading.proofs.Token.{token_some, token_reads}
use Rattle.reading.proofs.Lists.{read_some, read_each, read_end, read_reads, read_adds_up, start_step, start_up, start_end, mode_from_before}
use Rattle.reading.proofs.Batch.{mode_before_below}
use Rattle.reading.proofs.Split.{start_zero}

-- a token is no longer than what its scan read
matched_short : (t : Tables) (m r n rule : ℕ) → 1 ≤ r → n ≤ r → (matched t m r n rule).length ≤ r
matched_short t m r zero rule h l = h
matched_short t m r (suc n) rule h l = l

longest_short : (t : Tables) (s : ℕ) (ps : List ℕ) → longest t s ps ≤ reading t s ps
longest_short t s ps = omega (arith, greatest_le (λ n. not (eqb (accept t (state s ps n)) 255)) (length ps))

pub token_short : (t : Tables) → Sound t → (m : ℕ) → m < length t.starts → (xs : List ℕ) → (token t m xs).length ≤ (token t m xs).reading
unfolding token
token_short t b m h xs =
    let s = start_state t m in
    let ps = path t s xs in
    let r : (token t m xs).reading ≡ reading t s ps = token_reading t m xs in
    let l : (token t m xs).length ≤ reading t s ps = matched_short t m (reading t s ps) (longest t s ps) (accept t (state s ps (longest t s ps))) (omega (arith, token_reads t b m h xs)) (longest_short t s ps) in
    omega arith

module _ (t : Tables) (b : Sound t) (xs : List ℕ) where
  abbrev es : List Entry
  es = read t 0 0 xs

  -- each entry before the last is the token at its start
  pub each_token : (j : ℕ) → suc j < length es → at es j ≡ token t (mode_before es j) (drop (start es j) xs)
  each_token j h = read_each t 0 xs j h ∙ ap (λ m. token t m (drop (start es j) xs)) (mode_from_before es j)

  -- each entry reads something, and is no longer than what it read
  pub each_reads : (j : ℕ) → j < length es → 1 ≤ (at es j).reading
  each_reads j h = read_reads t b 0 0 xs j b.some_mode h

  pub each_short : (j : ℕ) → j < length es → (at es j).length ≤ (at es j).reading
  each_short j h =
      elim (cases_lt (suc j) (length es)) [
        | inl l ↦ subst (λ e. e.length ≤ e.reading) (sym (each_token j l)) (token_short t b (mode_before es j) (mode_before_below t b xs j) (drop (start es j) xs))
        | inr l ↦ subst (λ e. e.length ≤ e.reading) (sym (read_end t 0 xs j (omega arith))) (omega arith)
      ]

  -- each but the last has a length
  pub each_some : (j : ℕ) → suc j < length es → 1 ≤ (at es j).length
  each_some j h = subst (λ e. 1 ≤ e.length) (sym (each_token j h)) (token_some t (mode_before es j) (drop (start es j) xs))

  -- so no two start at one place
  pub each_apart : (i j : ℕ) → i < j → j < length es → start es i < start es j
  each_apart i j h l = omega (arith, start_step es i, each_some i (omega arith), start_up es (suc i) j h)

  -- the last starts at the text's end, and reads it
  pub last_start : (j : ℕ) → suc j ≡ length es → start es j ≡ length xs
  last_start j h =
      omega (arith, start_step es j, ap (λ e. e.length) (read_end t 0 xs j h), ap (start es) h, start_end es, read_adds_up t 0 0 xs)

  pub last_reach : (j : ℕ) → suc j ≡ length es → reach es j ≡ length xs + 1
  last_reach j h = ap₂ (λ n e. n + e.reading) (last_start j h) (read_end t 0 xs j h)

  -- the first entry that reads place a or a later one
  pub first_within : (a : ℕ) → a ≤ length xs → first es a < length es
  first_within a h =
      let some : 1 ≤ length es = read_some t 0 0 xs in
      let last : suc (length es - 1) ≡ length es = omega arith in
      omega (arith, least_up_to (λ j. ltb a (reach es j)) (length es) (length es - 1) (lt-ltb a (reach es (length es - 1)) (omega (arith, last_reach (length es - 1) last))))

  pub first_before : (a j : ℕ) → j < first es a → reach es j ≤ a
  first_before a j h = ltb-false a (reach es j) (least_below (λ j. ltb a (reach es j)) (length es) j h)

  -- an entry that starts at or behind a place that all before f only reach is not before f
  pub first_or_later : (a f k : ℕ) → ((j : ℕ) → j < f → reach es j ≤ a) → k < length es → a ≤ start es k → f ≤ k
  first_or_later a f k before h l = elim (cases_lt k f) [ inl c ↦ absurd (omega (arith, before k c, each_reads k h)) | inr c ↦ c ]

  -- where all entries before f reach no further than a, f starts there or before
  pub starts_before : (a f : ℕ) → f ≤ length es → ((j : ℕ) → j < f → reach es j ≤ a) → start es f ≤ a
  starts_before a zero h before = omega (arith, start_zero es)
  starts_before a (suc f) h before = omega (arith, start_step es f, each_short f h, before f (omega arith))
