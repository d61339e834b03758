-- A history grows by one request at a time.
use Rattle.std.proofs.Common.{◌≡◌, ℕ, zero, suc, ◌+◌, ◌<◌, ◌≤◌, List, [], ◌∷◌, ◌++◌, length, get_or, Some, None, sym, refl, ap, ◌∙◌, subst₂, inl, inr, arith}
use Rattle.std.specs.List.{slice_get}
use Rattle.std.proofs.lemmas.List.{length_push, get_or_push, get_or_append_left}
use Rattle.std.proofs.lemmas.Bool.{cases_lt}
use Rattle.text.specs.Replaced.{replaced}
use Rattle.books.specs.Tables.{Tables}
use Rattle.books.specs.Sound.{Sound}
use Rattle.reading.specs.Reading.{Entry, kinds}
use Rattle.reading.specs.Report.{edit, Edited, report, edit_above}
use Rattle.reading.proofs.Covers.{covers}
use Rattle.reading.proofs.Edits.{replaced_edited, kinds_edited}
use Rattle.requests.specs.Asked.{Asked, correct, token, Answered}
use Rattle.requests.specs.Sheets.{token_list, line_list, reports, refusal, answer, text_after, text_at, Outside, History}
use Rattle.sheet.proofs.Texts.{text_before, text_last, taken_within, text_taken}

-- the law of the reports of a taken correction
pub taken_outside : (t l : Tables) → Sound t → Sound l → (s : List ℕ) (a c : ℕ) (i : List ℕ) → a + c ≤ length s → Outside t l s (replaced s a c i) (edit a c (length i))
unfolding reports
taken_outside t l b d s a c i h =
    let u = replaced s a c i in
    let e = edit a c (length i) in
    let edited : Edited e s u = replaced_edited s i a c h in
    record {
      tokens = covers t b e s u edited;
      lines = covers l d (edit_above (token_list t u) (report (token_list t s) (token_list t u) e)) (kinds (token_list t s)) (kinds (token_list t u)) (kinds_edited t b e s u edited);
    }

pub nth_before : {X : Type 0} (xs : List X) (x : X) (n : ℕ) → n < length xs → slice_get (xs ++ x ∷ []) n ≡ slice_get xs n
nth_before [] x n h = absurd (omega arith)
nth_before (y ∷ ys) x zero h = refl
nth_before (y ∷ ys) x (suc n) h = nth_before ys x n (omega arith)

pub nth_last : {X : Type 0} (xs : List X) (x : X) (n : ℕ) → n ≡ length xs → slice_get (xs ++ x ∷ []) n ≡ Some x
nth_last [] x zero h = refl
nth_last [] x (suc n) h = absurd (omega arith)
nth_last (y ∷ ys) x zero h = absurd (omega arith)
nth_last (y ∷ ys) x (suc n) h = nth_last ys x n (omega arith)

-- before the first request
pub history_none : (t l : Tables) (room : ℕ) (s : List ℕ) (tokens lines : List Entry) → tokens ≡ token_list t s → lines ≡ line_list t l s →
    History t l room s [] [] s tokens lines
unfolding text_at
history_none t l room s tokens lines et el =
    record {
      each = refl;
      right = λ n h. absurd (omega arith);
      text = refl;
      token_list_of = et;
      line_list_of = el;
      outside = λ n a c i h e f. absurd (omega arith);
    }

module _ (t l : Tables) (b : Sound t) (d : Sound l) (room : ℕ) (s : List ℕ) (rs : List Asked) (answers : List Answered) (met : List ℕ) (tokens lines : List Entry)
    (so_far : History t l room s rs answers met tokens lines) (r : Asked) where
  more_text : text_at room s (rs ++ r ∷ []) (suc (length rs)) ≡ text_after room met r
  more_text = text_last room s rs r ∙ ap (λ x. text_after room x r) (sym so_far.text)

  met_last : text_at room s (rs ++ r ∷ []) (length rs) ≡ met
  met_last = text_before room s rs r (length rs) (omega arith) ∙ sym so_far.text

  asked_before : (n : ℕ) → n < length rs → get_or (rs ++ r ∷ []) n (token 0) ≡ get_or rs n (token 0)
  asked_before n h = get_or_append_left rs (r ∷ []) (token 0) n h

  asked_last : get_or (rs ++ r ∷ []) (length rs) (token 0) ≡ r
  asked_last = get_or_push rs r (token 0) (length rs) refl

  more_right : (n : ℕ) → n < length (rs ++ r ∷ []) →
      slice_get (answers ++ answer t l room met r ∷ []) n ≡ Some (answer t l room (text_at room s (rs ++ r ∷ []) n) (get_or (rs ++ r ∷ []) n (token 0)))
  more_right n h =
      elim (cases_lt n (length rs)) [
        | inl q ↦
            nth_before answers _ n (omega (arith, so_far.each)) ∙ so_far.right n q ∙
            rw (text_before room s rs r n (omega arith), asked_before n q) refl
        | inr q ↦
            let is : n ≡ length rs = omega (arith, length_push rs r) in
            nth_last answers _ n (is ∙ sym so_far.each) ∙
            rw (is, met_last, asked_last) refl
      ]

  more_outside : (n a c : ℕ) (i : List ℕ) → n < length (rs ++ r ∷ []) → get_or (rs ++ r ∷ []) n (token 0) ≡ correct a c i → refusal room (text_at room s (rs ++ r ∷ []) n) a c i ≡ None →
      Outside t l (text_at room s (rs ++ r ∷ []) n) (text_at room s (rs ++ r ∷ []) (suc n)) (edit a c (length i))
  more_outside n a c i h e f =
      elim (cases_lt n (length rs)) [
        | inl q ↦
            let here = text_before room s rs r n (omega arith) in
            let next = text_before room s rs r (suc n) (omega arith) in
            subst₂ (λ x y. Outside t l x y (edit a c (length i))) (sym here) (sym next)
            (so_far.outside n a c i q (sym (asked_before n q) ∙ e) (ap (λ x. refusal room x a c i) (sym here) ∙ f))
        | inr q ↦
            let is : n ≡ length rs = omega (arith, length_push rs r) in
            let here : text_at room s (rs ++ r ∷ []) n ≡ met = ap (text_at room s (rs ++ r ∷ [])) is ∙ met_last in
            let what : r ≡ correct a c i = sym asked_last ∙ ap (λ m. get_or (rs ++ r ∷ []) m (token 0)) (sym is) ∙ e in
            let none : refusal room met a c i ≡ None = ap (λ x. refusal room x a c i) (sym here) ∙ f in
            let next : text_at room s (rs ++ r ∷ []) (suc n) ≡ replaced met a c i =
            ap (λ m. text_at room s (rs ++ r ∷ []) (suc m)) is ∙ more_text ∙ ap (text_after room met) what ∙ text_taken room met a c i none in
            subst₂ (λ x y. Outside t l x y (edit a c (length i))) (sym here) (sym next)
            (taken_outside t l b d met a c i (taken_within room met a c i none))
      ]

  -- one more request, with the answer that is defined for what it met
  pub history_more : (a : Answered) (after : List ℕ) (tokens' lines' : List Entry) → a ≡ answer t l room met r → after ≡ text_after room met r → tokens' ≡ token_list t after → lines' ≡ line_list t l after →
      History t l room s (rs ++ r ∷ []) (answers ++ a ∷ []) after tokens' lines'
  history_more a after tokens' lines' ea es et el =
      record {
        each = length_push answers a ∙ ap (λ n. n + 1) so_far.each ∙ sym (length_push rs r);
        right = λ n h. ap (λ x. slice_get (answers ++ x ∷ []) n) ea ∙ more_right n h;
        text = es ∙ sym more_text ∙ ap (text_at room s (rs ++ r ∷ [])) (omega (arith, length_push rs r));
        token_list_of = et;
        line_list_of = el;
        outside = more_outside;
      }
