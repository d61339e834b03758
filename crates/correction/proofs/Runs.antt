-- A run of entries that is written where others stood.
use Rattle.std.proofs.Common.{◌≡◌, ℕ, ◌+◌, ◌-◌, ◌<◌, ◌≤◌, ◌⊎◌, List, [], ◌∷◌, ◌++◌, length, take, drop, set, sym, refl, ap, ◌∙◌, ap₂, inl, inr, add-zero, arith}
use lib.Seq.{paste}
use borrow.Rule.Slice.PartMut.{put_mid, post_of}
use Rattle.std.proofs.Math.Seq.{take-add}
use Rattle.std.proofs.lemmas.List.{append_assoc, length-append, length-drop, length-take-le, take_more, take_more_set, take_at, take-take, drop_at, drop-drop, drop-take, get_or-drop, take-append-le, take_all, take_rest, length-set}
use Rattle.books.specs.Tables.{Tables}
use Rattle.reading.specs.Reading.{Entry, token, read, none, at}
use Rattle.reading.proofs.Lists.{read_none, read_more}
use Rattle.reading.proofs.Token.{token_within, token_reading_within}
use Rattle.scanner.specs.Scanned.{scanned}

-- a reading begins with what a scan gives, and goes on behind that, unless it was the end token
scanned_on : (t : Tables) (m : ℕ) (ys : List ℕ) →
    (read t m 0 ys ≡ scanned t m ys ∷ []) ⊎ (read t m 0 ys ≡ scanned t m ys ∷ read t (scanned t m ys).mode 0 (drop (scanned t m ys).length ys))
scanned_on t m [] = inl (read_none t m [] refl)
scanned_on t m (y ∷ ys) = inr (read_more t m (y ∷ ys) (omega arith))

scanned_long : (t : Tables) (m : ℕ) (ys : List ℕ) → (scanned t m ys).length ≤ length ys
scanned_long t m [] = omega arith
scanned_long t m (y ∷ ys) = token_within t m (y ∷ ys) (omega arith)

-- no scan goes past the end of the text
pub scanned_within : (t : Tables) (m p : ℕ) (xs : List ℕ) → (scanned t m (drop p xs)).length ≤ length xs - p
scanned_within t m p xs = omega (arith, scanned_long t m (drop p xs), length-drop p xs)

scanned_reads : (t : Tables) (m : ℕ) (ys : List ℕ) → (scanned t m ys).reading ≤ length ys + 1
scanned_reads t m [] = omega arith
scanned_reads t m (y ∷ ys) = token_reading_within t m (y ∷ ys)

pub scanned_reach : (t : Tables) (m p : ℕ) (xs : List ℕ) → p ≤ length xs → p + (scanned t m (drop p xs)).reading ≤ length xs + 1
scanned_reach t m p xs h = omega (arith, scanned_reads t m (drop p xs), length-drop p xs)

scanned_is : (t : Tables) (m : ℕ) (ys : List ℕ) → 0 < length ys → scanned t m ys ≡ token t m ys
scanned_is t m [] h = absurd (omega arith)
scanned_is t m (y ∷ ys) h = refl

-- before the end of the text a scan gives a token
pub scanned_token : (t : Tables) (m p : ℕ) (xs : List ℕ) → p < length xs → scanned t m (drop p xs) ≡ token t m (drop p xs)
scanned_token t m p xs h = scanned_is t m (drop p xs) (omega (arith, length-drop p xs))

-- one entry more of a reading that is known from entry i on
module _ (t : Tables) (m p : ℕ) (xs : List ℕ) (fresh : List Entry) (i : ℕ) (known : drop i fresh ≡ read t m 0 (drop p xs)) where
  abbrev next : Entry
  next = scanned t m (drop p xs)

  pub run_at : at fresh i ≡ next
  run_at =
      let here : at fresh i ≡ at (drop i fresh) 0 = cc (get_or-drop i fresh 0 none, add-zero i) in
      elim (scanned_on t m (drop p xs)) [ inl e ↦ cc (here, known, e) | inr e ↦ cc (here, known, e) ]

  pub run_on : i + 1 < length fresh → drop (i + 1) fresh ≡ read t next.mode 0 (drop (p + next.length) xs)
  run_on h =
      elim (scanned_on t m (drop p xs)) [
        | inl e ↦ absurd (omega (arith, ap length (known ∙ e), length-drop i fresh))
        | inr e ↦ cc (drop-drop 1 i fresh, known, e, drop-drop next.length p xs)
      ]

module _ (t : Tables) (codes : List ℕ) (fresh : List Entry) where
  -- the first n of the slots have the first n entries of the reading, which goes on here in this mode
  pub record Running (slots : List Entry) (n here mode : ℕ) : Type 0 where
    pub written : length slots ≤ length fresh → take n slots ≡ take n fresh
    pub on : n < length fresh → drop n fresh ≡ read t mode 0 (drop here codes)

  pub running_none : (slots : List Entry) (here mode : ℕ) → fresh ≡ read t mode 0 (drop here codes) → Running slots 0 here mode
  running_none slots here mode e = record { written = λ h. refl; on = λ h. e }

  pub running_more : (slots : List Entry) (n here mode spot : ℕ) → Running slots n here mode → n < length slots →
      (x : Entry) (long onward : ℕ) → spot ≡ here → x ≡ scanned t mode (drop spot codes) → long ≡ x.length → onward ≡ x.mode →
      Running (set slots n x) (n + 1) (here + long) onward
  running_more slots n here mode spot r room x long onward same is size mode-is =
      record {
        written = λ h.
            let some : n < length fresh = omega (arith, length-set slots n x) in
            cc (take_more_set slots n x room, take_more fresh n none some, r.written (omega (arith, length-set slots n x)), run_at t mode here codes fresh n (r.on some));
        on = λ h. cc (run_on t mode here codes fresh n (r.on (omega arith)) h);
      }

  -- at the end, in the part that the slots are the first of, with the place by another name
  pub record Ran (before : List Entry) (m p added : ℕ) (part : List Entry) : Type 0 where
    pub written : added ≤ length (read t m 0 (drop p codes)) → take added part ≡ take added (read t m 0 (drop p codes))
    pub rest : drop added part ≡ drop added before

  pub running_all : (before slots : List Entry) (added n here mode m p q : ℕ) → length slots ≡ added → Running slots n here mode → n ≡ added → fresh ≡ read t m 0 (drop p codes) → p ≡ q →
      Ran before m q added (slots ++ drop added before)
  running_all before slots added n here mode m p q long r e is same =
      let all : fresh ≡ read t m 0 (drop q codes) = is ∙ ap (λ i. read t m 0 (drop i codes)) same in
      record {
        written = λ h.
            take_at slots (drop added before) added long ∙ sym (take_all added slots (omega (arith, long))) ∙ ap (λ i. take i slots) (sym e) ∙
            r.written (omega (arith, long, ap length all)) ∙ ap₂ take e all;
        rest = drop_at slots (drop added before) added long;
      }

-- entries moved from one place to another
pub moved_paste : {A : Type 0} (part : List A) (from to kept : ℕ) → from + kept ≤ length part → to + kept ≤ length part →
    take kept (drop to (paste part to (drop from part) kept)) ≡ take kept (drop from part)
moved_paste part from to kept h l =
    let front : length (take to part) ≡ to = length-take-le to part (omega arith) in
    let some : length (take kept (drop from part)) ≡ kept = length-take-le kept (drop from part) (omega (arith, length-drop from part)) in
    let rest = drop (to + kept) part in
    ap (λ es. take kept (drop to es)) (append_assoc (take to part) (take kept (drop from part)) rest) ∙
    ap (take kept) (drop_at (take to part) (take kept (drop from part) ++ rest) to front) ∙
    take_at (take kept (drop from part)) rest kept some

-- what was written, and behind it what was moved there before
pub spliced_part : (fresh before moved after : List Entry) (out added kept : ℕ) → take kept (drop added moved) ≡ take kept (drop out before) → drop added after ≡ drop added moved →
    take added after ≡ take added fresh → take (added + kept) after ≡ take added fresh ++ take kept (drop out before)
spliced_part fresh before moved after out added kept move rest written = take-add added kept after ∙ ap₂ (λ x y. x ++ y) written (ap (take kept) rest ∙ move)

-- The whole memory, of which the part from f on was lent and is now `part`
module _ (memory part : List Entry) (f : ℕ) (long : length part ≡ length memory - f) (there : f ≤ length memory) where
  abbrev whole : List Entry
  whole = put_mid f (length memory - f) memory part

  front : length (take f memory) ≡ f
  front = length-take-le f memory there

  pub whole_front : take f whole ≡ take f memory
  whole_front = take_at (take f memory) (part ++ post_of f (length memory - f) memory) f front

  pub length_whole : length whole ≡ length memory
  length_whole =
      let past : length (post_of f (length memory - f) memory) ≡ 0 = omega (arith, length-drop (length memory - f) (drop f memory), length-drop f memory) in
      omega (arith, length-append (take f memory) (part ++ post_of f (length memory - f) memory), length-append part (post_of f (length memory - f) memory), past, front)

  -- and its front, after the first `entries` records were lent and are now `given`
  pub whole_head : (given : List Entry) (entries m : ℕ) → length given ≡ entries → f ≤ entries → m ≡ f → take m given ≡ take m (take entries whole) → take m (given ++ drop entries whole) ≡ take m memory
  whole_head given entries m size within same head =
      take-append-le m given (drop entries whole) (omega arith) ∙ head ∙ take-take m entries whole (omega arith) ∙ ap (λ i. take i whole) same ∙ whole_front ∙ ap (λ i. take i memory) (sym same)

-- the memory's first entries after its part from f on was lent and has come back as `part`, which begins with what was written and goes on with what was kept
pub whole_put : (memory part fresh : List Entry) (f out k added kept count entries : ℕ) → f ≤ length memory → f + out ≡ k → k + kept ≡ count → entries ≡ f + added + kept → added + kept ≤ length part →
    take (added + kept) part ≡ take added fresh ++ take kept (drop out (take (length memory - f) (drop f memory))) →
    take entries (put_mid f (length memory - f) memory part) ≡ take f (take count memory) ++ (take added fresh ++ drop k (take count memory))
whole_put memory part fresh f out k added kept count entries there k-is count-is entries-is room is =
    let more = part ++ post_of f (length memory - f) memory in
    let front : length (take f memory) ≡ f = length-take-le f memory there in
    let all : entries ≡ f + (added + kept) = omega arith in
    let behind : take kept (drop out (take (length memory - f) (drop f memory))) ≡ drop k (take count memory) = cc (take_rest memory f, drop-drop out f memory, drop-take k kept memory) in
    cc (
      all,
      behind,
      take-add f (added + kept) (take f memory ++ more),
      take_at (take f memory) more f front,
      take-take f count memory (omega arith),
      drop_at (take f memory) more f front,
      take-append-le (added + kept) part (post_of f (length memory - f) memory) room,
    )
