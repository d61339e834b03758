-- A text that is read byte by byte: what is known after one more. A text alone, and with what is wrong.
use Rattle.std.proofs.Common.{◌≡◌, ℕ, ◌+◌, ◌<◌, ◌≤◌, List, [], ◌∷◌, ◌++◌, length, get_or, drop, Some, None, Ok, Err, Option, Result, sym, refl, ap, ◌∙◌, append_assoc}
use Rattle.std.specs.Result.{result_ok}
use Rattle.std.proofs.lemmas.List.{at_drop_more, at_drop_all, append-nil}
use Rattle.script.specs.declared.wrong.Wrong.{Wrong}
use Rattle.script.specs.declared.wrong.Wrong.TheVariants.{OpenText, Escape}
use Rattle.script.specs.declared.texts.Spot.{Spot}
use Rattle.script.specs.declared.texts.Spot.TheVariants.{Plain}
use Rattle.script.specs.declared.texts.Move.{Move}
use Rattle.script.specs.declared.texts.Move.TheVariants.{Close, Give, Go}
use Rattle.script.specs.Texts.{moves, behind, going, reading, text_of}
use Rattle.script.specs.Quoted.{then_read, on_move, read_from, quoted_text}

pub then_then : (xs ys : List ℕ) (o : Result (List ℕ × List ℕ) Wrong) → then_read xs (then_read ys o) ≡ then_read (xs ++ ys) o
then_then xs ys (Err w) = refl
then_then xs ys (Ok x) = ap (λ l. Ok (l, x.1)) (sym (append_assoc xs ys x.0))

-- what one more byte does where m is its move, or none
pub more : (bs : List ℕ) (i : ℕ) (q : Spot) (m : Option Move) → i < length bs → moves q (get_or bs i 0) ≡ m →
    read_from (drop i bs) q ≡ on_move m (drop (i + 1) bs) (λ p. read_from (drop (i + 1) bs) p)
more bs i q m h e =
    let one : read_from (drop i bs) q ≡ on_move (moves q (get_or bs i 0)) (drop (i + 1) bs) (λ p. read_from (drop (i + 1) bs) p) =
    at_drop_more (λ xs. read_from xs q) bs i 0 h in
    one ∙ ap (λ k. on_move k (drop (i + 1) bs) (λ p. read_from (drop (i + 1) bs) p)) e

pub closes : (bs : List ℕ) (i : ℕ) (q : Spot) (whole : Result (List ℕ × List ℕ) Wrong) (text : List ℕ) → i < length bs → moves q (get_or bs i 0) ≡ Some Close →
    whole ≡ then_read text (read_from (drop i bs) q) → whole ≡ Ok (text, drop (i + 1) bs)
closes bs i q whole text h e inv =
    inv ∙ ap (then_read text) (more bs i q (Some Close) h e) ∙ ap (λ l. Ok (l, drop (i + 1) bs)) (append-nil text)

pub gives : (bs : List ℕ) (i : ℕ) (q : Spot) (b : ℕ) (whole : Result (List ℕ × List ℕ) Wrong) (text : List ℕ) → i < length bs → moves q (get_or bs i 0) ≡ Some (Give b) →
    whole ≡ then_read text (read_from (drop i bs) q) → whole ≡ then_read (text ++ (b ∷ [])) (read_from (drop (i + 1) bs) Plain)
gives bs i q b whole text h e inv =
    inv ∙ ap (then_read text) (more bs i q (Some (Give b)) h e) ∙ then_then text (b ∷ []) (read_from (drop (i + 1) bs) Plain)

pub goes : (bs : List ℕ) (i : ℕ) (q p : Spot) (whole : Result (List ℕ × List ℕ) Wrong) (text : List ℕ) → i < length bs → moves q (get_or bs i 0) ≡ Some (Go p) →
    whole ≡ then_read text (read_from (drop i bs) q) → whole ≡ then_read text (read_from (drop (i + 1) bs) p)
goes bs i q p whole text h e inv = inv ∙ ap (then_read text) (more bs i q (Some (Go p)) h e)

pub fails : (bs : List ℕ) (i : ℕ) (q : Spot) (whole : Result (List ℕ × List ℕ) Wrong) (text : List ℕ) → i < length bs → moves q (get_or bs i 0) ≡ None →
    whole ≡ then_read text (read_from (drop i bs) q) → whole ≡ Err Escape
fails bs i q whole text h e inv = inv ∙ ap (then_read text) (more bs i q None h e)

pub stays_open : (bs : List ℕ) (i : ℕ) (q : Spot) (whole : Result (List ℕ × List ℕ) Wrong) (text : List ℕ) → length bs ≤ i →
    whole ≡ then_read text (read_from (drop i bs) q) → whole ≡ Err OpenText
stays_open bs i q whole text h inv = inv ∙ ap (then_read text) (at_drop_all (λ xs. read_from xs q) bs i h)

-- the text alone, where nothing is said of what is wrong
then_as : (bs : List ℕ) (d : Result (List ℕ × List ℕ) Wrong) → behind bs (result_ok d) ≡ result_ok (then_read bs d)
then_as bs (Ok x) = refl
then_as bs (Err w) = refl

move_as : (m : Option Move) (bs : List ℕ) (f : Spot → Option (List ℕ × List ℕ)) (g : Spot → Result (List ℕ × List ℕ) Wrong) → ((p : Spot) → f p ≡ result_ok (g p)) →
    going m bs f ≡ result_ok (on_move m bs g)
move_as (Some Close) bs f g e = refl
move_as (Some (Give b)) bs f g e = ap (behind (b ∷ [])) (e Plain) ∙ then_as (b ∷ []) (g Plain)
move_as (Some (Go q)) bs f g e = e q
move_as None bs f g e = refl

pub read_as : (bs : List ℕ) (q : Spot) → reading bs q ≡ result_ok (read_from bs q)
read_as [] q = refl
read_as (b ∷ bs) q = move_as (moves q b) bs (λ p. reading bs p) (λ p. read_from bs p) (λ p. read_as bs p)

pub text_alone : (bs : List ℕ) (x : List ℕ × List ℕ) → quoted_text bs ≡ Ok x → text_of bs ≡ Some x
text_alone bs x e = read_as bs Plain ∙ ap result_ok e
