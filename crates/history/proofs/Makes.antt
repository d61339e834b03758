-- What each request to a sheet comes to, where its lists are those of its text.
use Rattle.std.proofs.Common.{◌≡◌, ℕ, suc, Bool, cond, ltb, List, length, IfOk, Some, None, Ok, Err, Option, Result, sym, refl, ap, ◌∙◌, subst, ap₂, subst₂, arith, MatchResult}
use Rattle.std.specs.Option.{option_map}
use Rattle.std.specs.Result.{result_err}
use Rattle.std.specs.List.{slice_get}
use Rattle.text.specs.declared.fault.StoreFault.{StoreFault}
use Rattle.text.specs.Refused as store
use Rattle.text.specs.Replaced.{replaced}
use Rattle.books.specs.Tables.{Tables}
use Rattle.books.specs.Meaning.{tables}
use Rattle.books.proofs.Questions.{mapped_none}
use Rattle.reading.specs.Reading.{Entry, batch, kinds}
use Rattle.reading.specs.Report.{edit}
use Rattle.reading.proofs.Lists.{start_step, start_within}
use Rattle.reading.proofs.Batch.{batch_adds_up}
use Rattle.requests.specs.declared.faults.SheetFault.{SheetFault}
use Rattle.requests.specs.declared.faults.SheetFault.TheVariants.{Store}
use Rattle.requests.specs.Asked.{Asked, correct, token, line, where_is, time, copy, alike, Reports, Answered, refused, reported, entry_is, stands, time_is, alike_is}
use Rattle.requests.specs.Sheets.{token_list, line_list, reports, refusal, where_in, bytes_of, time_of, copy_of, alike_in, answer, text_after}
use Rattle.requests.specs.Sheets as sheets
use Rattle.requests.specs.Told.{told}
use Rattle.requests.specs.Plain.{corrected}
use Rattle.questions.specs.Loose.{LiesWithin}
use Rattle.sheet.specs.declared.sheets.Sheet.{Sheet}
use Rattle.sheet.specs.Lists.{tokens_of, lines_of, Right}
use Rattle.history.specs.Made.{Made}
use Rattle.sheet.proofs.Texts.{text_taken, text_refused}

-- every token of a text's own list lies within the text
pub lies_within : (t : Tables) (s : List ℕ) (n : ℕ) → LiesWithin s (batch t s) n
lies_within t s n = omega (arith, start_step (batch t s) n, start_within (batch t s) (suc n), batch_adds_up t s)

-- a request under another name
pub asked_as : {S : Type 0} (h k : Sheet S) (s u : List ℕ) (room : ℕ) (r q : Asked) (a : Answered) → r ≡ q → Made h k s u room q a → Made h k s u room r a
asked_as h k s u room r q a e m = subst (λ x. Made h k s u room x a) (sym e) m

module _ {S : Type 0} (h : Sheet S) (s : List ℕ) (room : ℕ) (ok : Right h s room) where
  pub own_lies : (n : ℕ) → LiesWithin s (tokens_of h) n
  own_lies n = subst (λ es. LiesWithin s es n) (sym ok.tokens) (lies_within (tables h.tokens.book) s n)

  pub made_token : (n : ℕ) (x : Option Entry) → x ≡ slice_get (tokens_of h) n → Made h h s s room (token n) (entry_is x)
  unfolding answer text_after
  made_token n x e = record { text = refl; right = ok; answer_is = ap entry_is (e ∙ ap (λ es. slice_get es n) ok.tokens) }

  pub made_line : (n : ℕ) (x : Option Entry) → x ≡ slice_get (lines_of h) n → Made h h s s room (line n) (entry_is x)
  unfolding answer text_after
  made_line n x e = record { text = refl; right = ok; answer_is = ap entry_is (e ∙ ap (λ es. slice_get es n) ok.lines) }

  pub made_where : (p : ℕ) (x : Option (ℕ × ℕ)) → x ≡ where_in (tokens_of h) p → Made h h s s room (where_is p) (stands x)
  unfolding answer text_after
  made_where p x e = record { text = refl; right = ok; answer_is = ap stands (e ∙ ap (λ es. where_in es p) ok.tokens) }

  pub made_time : (n : ℕ) (x : Option ℕ) → (LiesWithin s (tokens_of h) n → x ≡ cond (ltb n (length (tokens_of h))) (time_of (bytes_of s (tokens_of h) n)) None) → Made h h s s room (time n) (time_is x)
  unfolding answer text_after
  made_time n x e =
      record {
        text = refl;
        right = ok;
        answer_is = ap time_is (e (own_lies n) ∙ ap (λ es. cond (ltb n (length es)) (time_of (bytes_of s es n)) None) ok.tokens);
      }

  pub made_copy : (n : ℕ) (b : List ℕ) (x : Answered) → (LiesWithin s (tokens_of h) n → x ≡ copy_of s (tokens_of h) n b) → Made h h s s room (copy n b) x
  unfolding answer text_after
  made_copy n b x e = record { text = refl; right = ok; answer_is = e (own_lies n) ∙ ap (λ es. copy_of s es n b) ok.tokens }

  pub made_alike : (a b : ℕ) (x : Option Bool) → x ≡ alike_in (kinds (tokens_of h)) (lines_of h) a b → Made h h s s room (alike a b) (alike_is x)
  unfolding answer text_after
  made_alike a b x e = record { text = refl; right = ok; answer_is = ap alike_is (e ∙ ap₂ (λ es ls. alike_in (kinds es) ls a b) ok.tokens ok.lines) }

  -- a correction, as it is answered and as it is defined
  module _ (k : Sheet S) (u : List ℕ) (a c : ℕ) (i : List ℕ) where
    abbrev t : Tables
    t = tables h.tokens.book

    abbrev l : Tables
    l = tables h.lines.book

    not_taken : (y : SheetFault) (f : Option StoreFault) → Some y ≡ option_map Store f → (z : StoreFault) × (f ≡ Some z) × (y ≡ Store z)
    not_taken y None e = absurd cc
    not_taken y (Some f) e = (f, refl, cc)

    pub made_correct : (r : Result Reports SheetFault) →
        result_err r ≡ option_map Store (store.refused (length s) room a c (length i)) →
        MatchResult r (λ _. u ≡ replaced s a c i) (λ _. (k ≡ h) × (u ≡ s)) →
        IfOk r (λ p. Right k u room × (p ≡ reports t l s u (edit a c (length i)))) →
        Made h k s u room (correct a c i) (corrected r)
    unfolding answer
    made_correct (Ok p) e m q =
        let none : refusal room s a c i ≡ None = ap (option_map store.told) (mapped_none Store _ (sym e)) in
        record {
          text = m ∙ sym (text_taken room s a c i none);
          right = q.0;
          answer_is = ap reported (q.1 ∙ ap (λ x. reports t l s x (edit a c (length i))) m) ∙ ap (sheets.corrected t l s a c i) (sym none);
        }
    made_correct (Err y) e m q =
        let f = not_taken y _ e in
        let some : refusal room s a c i ≡ Some (store.told f.0) = ap (option_map store.told) f.1 in
        record {
          text = m.1 ∙ sym (text_refused room s a c i (store.told f.0) some);
          right = subst₂ (λ x y. Right x y room) (sym m.0) (sym m.1) ok;
          answer_is = ap (λ x. refused (told x)) f.2 ∙ ap (sheets.corrected t l s a c i) (sym some);
        }
