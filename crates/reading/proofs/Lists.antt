-- Lists of entries: the reading of a text entry by entry, and what giving the lookbacks leaves.
use Rattle.std.proofs.Common.{◌≡◌, ℕ, zero, suc, pred, ◌+◌, ◌-◌, ◌<◌, ◌≤◌, List, [], ◌∷◌, ◌++◌, length, get_or, drop, sym, refl, ap, ◌∙◌, subst, ap₂, le_of_suc-le-suc, add-zero, add_comm, add-one, arith, drop-drop}
use Rattle.std.proofs.Math.Seq.{drop-nil}
use Rattle.std.proofs.lemmas.List.{append_assoc, length-drop, get_or-drop}
use Rattle.books.specs.Tables.{Tables}
use Rattle.books.specs.Sound.{Sound}
use Rattle.reading.specs.Reading.{Entry, entry, token, read, start, none, at, kinds}
use Rattle.reading.specs.Laws.{mode_before, total_length}
use Rattle.reading.proofs.Token.{token_some, token_within, token_mode, token_reads}

-- a reading that skips k symbols is one of the text after them
pub read_skip : (t : Tables) (m k : ℕ) (xs : List ℕ) → read t m k xs ≡ read t m 0 (drop k xs)
unfolding read
read_skip t m k [] = ap (read t m 0) (sym (drop-nil k))
read_skip t m zero (x ∷ xs) = refl
read_skip t m (suc k) (x ∷ xs) = read_skip t m k xs

-- at the end there is the end token
pub read_none : (t : Tables) (m : ℕ) (xs : List ℕ) → length xs ≡ 0 → read t m 0 xs ≡ entry 1 0 1 m 0 ∷ []
unfolding read
read_none t m [] h = refl
read_none t m (x ∷ xs) h = absurd (omega arith)

-- before it there is a token, and then the reading of what follows, in the token's mode
pub read_more : (t : Tables) (m : ℕ) (xs : List ℕ) → 0 < length xs → read t m 0 xs ≡ token t m xs ∷ read t (token t m xs).mode 0 (drop (token t m xs).length xs)
unfolding read
read_more t m [] h = absurd (omega arith)
read_more t m (x ∷ xs) h =
    let e = token t m (x ∷ xs) in
    let l : suc (pred e.length) ≡ e.length = omega (arith, token_some t m (x ∷ xs)) in
    ap (λ es. e ∷ es) (read_skip t e.mode (pred e.length) xs ∙ ap (λ n. read t e.mode 0 (drop n (x ∷ xs))) l)

-- a loop that has read the entries es, up to place p: one more, and the end
pub read_push : (t : Tables) (m p : ℕ) (xs : List ℕ) (es all : List Entry) → p < length xs → es ++ read t m 0 (drop p xs) ≡ all →
    (es ++ token t m (drop p xs) ∷ []) ++ read t (token t m (drop p xs)).mode 0 (drop (p + (token t m (drop p xs)).length) xs) ≡ all
read_push t m p xs es all h q =
    let e = token t m (drop p xs) in
    append_assoc es (e ∷ []) _ ∙
    ap (λ ys. es ++ e ∷ read t e.mode 0 ys) (sym (drop-drop e.length p xs)) ∙
    ap (λ fs. es ++ fs) (sym (read_more t m (drop p xs) (omega (arith, length-drop p xs)))) ∙ q

pub read_last : (t : Tables) (m p : ℕ) (xs : List ℕ) (es all : List Entry) → length xs ≤ p → es ++ read t m 0 (drop p xs) ≡ all → es ++ entry 1 0 1 m 0 ∷ [] ≡ all
read_last t m p xs es all h q = ap (λ fs. es ++ fs) (sym (read_none t m (drop p xs) (omega (arith, length-drop p xs)))) ∙ q

-- the number of entries
pub read_some : (t : Tables) (m k : ℕ) (xs : List ℕ) → 1 ≤ length (read t m k xs)
unfolding read
read_some t m k [] = omega arith
read_some t m zero (x ∷ xs) = omega arith
read_some t m (suc k) (x ∷ xs) = read_some t m k xs

pub read_length : (t : Tables) (m k : ℕ) (xs : List ℕ) → length (read t m k xs) ≤ (length xs - k) + 1
unfolding read
read_length t m k [] = omega arith
read_length t m zero (x ∷ xs) = let e = token t m (x ∷ xs) in omega (arith, token_some t m (x ∷ xs), read_length t e.mode (pred e.length) xs)
read_length t m (suc k) (x ∷ xs) = omega (arith, read_length t m k xs)

-- where more than one entry is left, the text is not at its end; where one is, it is
pub more_left : (t : Tables) (m : ℕ) (xs : List ℕ) → 1 < length (read t m 0 xs) → 0 < length xs
unfolding read
more_left t m [] h = absurd (omega arith)
more_left t m (x ∷ xs) h = omega arith

pub none_left : (t : Tables) (m : ℕ) (xs : List ℕ) → length (read t m 0 xs) ≡ 1 → length xs ≡ 0
unfolding read
none_left t m [] h = refl
none_left t m (x ∷ xs) h = let e = token t m (x ∷ xs) in absurd (omega (arith, read_some t e.mode (pred e.length) xs))

-- the lengths add up
pub read_adds_up : (t : Tables) (m k : ℕ) (xs : List ℕ) → total_length (read t m k xs) ≡ length xs - k
unfolding read
read_adds_up t m k [] = omega arith
read_adds_up t m zero (x ∷ xs) =
    let e = token t m (x ∷ xs) in
    omega (arith, token_some t m (x ∷ xs), token_within t m (x ∷ xs) (omega arith), read_adds_up t e.mode (pred e.length) xs)
read_adds_up t m (suc k) (x ∷ xs) = omega (arith, read_adds_up t m k xs)

-- the mode in which entry j is read, where the first is read in mode m
abbrev pub mode_from : ℕ → List Entry → ℕ → ℕ
mode_from m es zero = m
mode_from m es (suc j) = (at es j).mode

pub mode_from_next : (m : ℕ) (e : Entry) (es : List Entry) (j : ℕ) → mode_from m (e ∷ es) (suc j) ≡ mode_from e.mode es j
mode_from_next m e es zero = refl
mode_from_next m e es (suc j) = refl

pub mode_from_before : (es : List Entry) (j : ℕ) → mode_from 0 es j ≡ mode_before es j
mode_from_before es zero = refl
mode_from_before es (suc j) = refl

pub start_zero : (es : List Entry) → start es 0 ≡ 0
start_zero [] = refl
start_zero (e ∷ es) = refl

-- from entry j on, the list is the reading of the text from its start on, in its mode
pub suffix : (t : Tables) (m : ℕ) (xs : List ℕ) (j : ℕ) → j < length (read t m 0 xs) →
    drop j (read t m 0 xs) ≡ read t (mode_from m (read t m 0 xs) j) 0 (drop (start (read t m 0 xs) j) xs)
suffix t m xs zero h = ap (λ n. read t m 0 (drop n xs)) (sym (start_zero (read t m 0 xs)))
suffix t m xs (suc j) h =
    let e = token t m xs in
    let rest = read t e.mode 0 (drop e.length xs) in
    let more : read t m 0 xs ≡ e ∷ rest = read_more t m xs (more_left t m xs (omega arith)) in
    let ih = suffix t e.mode (drop e.length xs) j (omega (arith, ap length more)) in
    let on : drop (suc j) (e ∷ rest) ≡ read t (mode_from m (e ∷ rest) (suc j)) 0 (drop (start (e ∷ rest) (suc j)) xs) =
    ih ∙ ap₂ (λ k ys. read t k 0 ys) (sym (mode_from_next m e rest j)) (drop-drop (start rest j) e.length xs) in
    subst (λ es. drop (suc j) es ≡ read t (mode_from m es (suc j)) 0 (drop (start es (suc j)) xs)) (sym more) on

at_drop : (es : List Entry) (j : ℕ) → at es j ≡ at (drop j es) 0
at_drop es j = sym (get_or-drop j es 0 none ∙ ap (at es) (add-zero j))

-- entry j of a reading, before the last
pub read_each : (t : Tables) (m : ℕ) (xs : List ℕ) (j : ℕ) → suc j < length (read t m 0 xs) →
    at (read t m 0 xs) j ≡ token t (mode_from m (read t m 0 xs) j) (drop (start (read t m 0 xs) j) xs)
read_each t m xs j h =
    let es = read t m 0 xs in
    let k = mode_from m es j in
    let ys = drop (start es j) xs in
    let there : drop j es ≡ read t k 0 ys = suffix t m xs j (omega arith) in
    let left : 0 < length ys = more_left t k ys (omega (arith, ap length there, length-drop j es)) in
    at_drop es j ∙ ap (λ fs. at fs 0) (there ∙ read_more t k ys left)

-- and the last
pub read_end : (t : Tables) (m : ℕ) (xs : List ℕ) (j : ℕ) → suc j ≡ length (read t m 0 xs) → at (read t m 0 xs) j ≡ entry 1 0 1 (mode_from m (read t m 0 xs) j) 0
read_end t m xs j h =
    let es = read t m 0 xs in
    let k = mode_from m es j in
    let ys = drop (start es j) xs in
    let there : drop j es ≡ read t k 0 ys = suffix t m xs j (omega arith) in
    let left : length ys ≡ 0 = none_left t k ys (omega (arith, ap length there, length-drop j es)) in
    at_drop es j ∙ ap (λ fs. at fs 0) (there ∙ read_none t k ys left)

-- in a sound book each entry leaves a mode of the book, and reads something
pub read_modes : (t : Tables) → Sound t → (m k : ℕ) (xs : List ℕ) (j : ℕ) → m < length t.starts → (at (read t m k xs) j).mode < length t.starts
unfolding read
read_modes t b m k [] zero h = h
read_modes t b m k [] (suc j) h = b.some_mode
read_modes t b m zero (x ∷ xs) zero h = token_mode t b m h (x ∷ xs)
read_modes t b m zero (x ∷ xs) (suc j) h = let e = token t m (x ∷ xs) in read_modes t b e.mode (pred e.length) xs j (token_mode t b m h (x ∷ xs))
read_modes t b m (suc k) (x ∷ xs) j h = read_modes t b m k xs j h

pub read_reads : (t : Tables) → Sound t → (m k : ℕ) (xs : List ℕ) (j : ℕ) → m < length t.starts → j < length (read t m k xs) → 1 ≤ (at (read t m k xs) j).reading
unfolding read
read_reads t b m k [] zero h l = omega arith
read_reads t b m k [] (suc j) h l = absurd (omega arith)
read_reads t b m zero (x ∷ xs) zero h l = token_reads t b m h (x ∷ xs)
read_reads t b m zero (x ∷ xs) (suc j) h l = let e = token t m (x ∷ xs) in read_reads t b e.mode (pred e.length) xs j (token_mode t b m h (x ∷ xs)) (le_of_suc-le-suc l)
read_reads t b m (suc k) (x ∷ xs) j h l = read_reads t b m k xs j h l

-- where entries start
pub start_step : (es : List Entry) (j : ℕ) → start es (suc j) ≡ start es j + (at es j).length
start_step [] j = refl
start_step (e ∷ es) zero = ap (λ n. e.length + n) (start_zero es) ∙ add_comm e.length 0
start_step (e ∷ es) (suc j) = omega (arith, start_step es j)

pub start_more : (es : List Entry) (j : ℕ) → start es (j + 1) ≡ start es j + (at es j).length
start_more es j = ap (start es) (add-one j) ∙ start_step es j

pub mode_before_more : (es : List Entry) (j : ℕ) → mode_before es (j + 1) ≡ (at es j).mode
mode_before_more es j = ap (mode_before es) (add-one j)

pub start_up : (es : List Entry) (i j : ℕ) → i ≤ j → start es i ≤ start es j
start_up [] i j h = omega arith
start_up (e ∷ es) zero j h = omega arith
start_up (e ∷ es) (suc i) zero h = absurd (omega arith)
start_up (e ∷ es) (suc i) (suc j) h = omega (arith, start_up es i j (omega arith))

pub start_end : (es : List Entry) → start es (length es) ≡ total_length es
start_end [] = refl
start_end (e ∷ es) = omega (arith, start_end es)

pub start_within : (es : List Entry) (j : ℕ) → start es j ≤ total_length es
start_within [] j = omega arith
start_within (e ∷ es) zero = omega arith
start_within (e ∷ es) (suc j) = omega (arith, start_within es j)

pub total_push : (es : List Entry) (e : Entry) → total_length (es ++ e ∷ []) ≡ total_length es + e.length
total_push [] e = omega arith
total_push (f ∷ es) e = omega (arith, total_push es e)

-- the kinds of all but the last
pub length_kinds : (es : List Entry) → length (kinds es) ≡ length es - 1
length_kinds [] = refl
length_kinds (e ∷ []) = refl
length_kinds (e ∷ f ∷ es) = omega (arith, length_kinds (f ∷ es))

pub getD_kinds : (es : List Entry) (j d : ℕ) → suc j < length es → get_or (kinds es) j d ≡ (at es j).kind
getD_kinds [] j d h = absurd (omega arith)
getD_kinds (e ∷ []) j d h = absurd (omega arith)
getD_kinds (e ∷ f ∷ es) zero d h = refl
getD_kinds (e ∷ f ∷ es) (suc j) d h = getD_kinds (f ∷ es) j d (omega arith)
