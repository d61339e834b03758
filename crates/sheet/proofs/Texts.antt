-- The text that each request meets, with one more request at the end.
use Rattle.std.proofs.Common.{◌≡◌, ℕ, zero, suc, ◌+◌, ◌≤◌, List, [], ◌∷◌, ◌++◌, length, is_some, Some, None, sym, refl, ap, arith}
use Rattle.std.proofs.lemmas.Bool.{cond-true, cond-false}
use Rattle.books.proofs.Questions.{mapped_none}
use Rattle.counts.specs.declared.Refusal.{Refusal}
use Rattle.text.specs.Refused as store
use Rattle.text.specs.Replaced.{replaced}
use Rattle.text.proofs.Facts.{taken}
use Rattle.requests.specs.Asked.{Asked, correct}
use Rattle.requests.specs.Sheets.{text_at, text_after, refusal}

pub text_before : (room : ℕ) (s : List ℕ) (rs : List Asked) (r : Asked) (n : ℕ) → n ≤ length rs → text_at room s (rs ++ r ∷ []) n ≡ text_at room s rs n
unfolding text_at
text_before room s rs r zero h = refl
text_before room s [] r (suc n) h = absurd (omega arith)
text_before room s (x ∷ rs) r (suc n) h = text_before room (text_after room s x) rs r n (omega arith)

pub text_last : (room : ℕ) (s : List ℕ) (rs : List Asked) (r : Asked) → text_at room s (rs ++ r ∷ []) (suc (length rs)) ≡ text_after room (text_at room s rs (length rs)) r
unfolding text_at
text_last room s [] r = refl
text_last room s (x ∷ rs) r = text_last room (text_after room s x) rs r

-- what a taken correction cuts is in the text
pub taken_within : (room : ℕ) (s : List ℕ) (a c : ℕ) (i : List ℕ) → refusal room s a c i ≡ None → a + c ≤ length s
taken_within room s a c i e = (taken (length s) room a c (length i) (sym (mapped_none store.told _ e))).0

pub text_taken : (room : ℕ) (s : List ℕ) (a c : ℕ) (i : List ℕ) → refusal room s a c i ≡ None → text_after room s (correct a c i) ≡ replaced s a c i
unfolding text_after
text_taken room s a c i e = cond-false (is_some (refusal room s a c i)) s (replaced s a c i) (ap is_some e)

pub text_refused : (room : ℕ) (s : List ℕ) (a c : ℕ) (i : List ℕ) (f : Refusal) → refusal room s a c i ≡ Some f → text_after room s (correct a c i) ≡ s
unfolding text_after
text_refused room s a c i f e = cond-true (is_some (refusal room s a c i)) s (replaced s a c i) (ap is_some e)
