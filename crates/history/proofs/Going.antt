-- A history that is under way: some requests are made, and some are left.
use Rattle.std.proofs.Common.{◌≡◌, ℕ, ◌+◌, ◌≤◌, List, [], ◌∷◌, ◌++◌, map, length, vec_items, vec_len, vec_capacity, Vec, sym, refl, ap, ◌∙◌, subst, append_assoc, append-nil, arith}
use Rattle.std.specs.declared.alloc.Global.{Global}
use Rattle.std.proofs.lemmas.List.{map_push}
use Rattle.books.specs.Meaning.{tables}
use Rattle.books.proofs.Facts.{book_sound}
use Rattle.requests.specs.declared.requests.Request.{Request}
use Rattle.requests.specs.declared.answers.Answer.{Answer}
use Rattle.requests.specs.Plain.{asked, answered}
use Rattle.requests.specs.Sheets.{token_list, line_list, answer, text_after, History}
use Rattle.sheet.specs.declared.sheets.Sheet.{Sheet}
use Rattle.sheet.specs.Lists.{tokens_of, lines_of, Right, Keeps}
use Rattle.history.specs.Made.{Made}
use Rattle.history.proofs.Growing.{history_none, history_more}

module _ {S : Type 0} (text : S → List ℕ) (room : S → ℕ) (h : Sheet S) (all : List Request) where
  -- the sheet h has become k
  pub record Going (k : Sheet S) (answers : Vec Answer Global) (done left : List Request) : Type 0 where
    pub whole : done ++ left ≡ all
    pub enough : vec_len answers + length left ≤ vec_capacity answers
    pub history : History (tables h.tokens.book) (tables h.lines.book) (room h.store) (text h.store) (map asked done) (map answered (vec_items answers)) (text k.store) (tokens_of k) (lines_of k)
    pub right : Right k (text k.store) (room k.store)
    pub same_room : room k.store ≡ room h.store
    pub kept : Keeps h k

  pub going_none : (answers : Vec Answer Global) → Right h (text h.store) (room h.store) → vec_items answers ≡ [] → vec_len answers + length all ≤ vec_capacity answers → Going h answers [] all
  going_none answers ok e n =
      let t = tables h.tokens.book in
      let l = tables h.lines.book in
      record {
        whole = refl;
        enough = n;
        history = subst (λ as'. History t l (room h.store) (text h.store) [] (map answered as') (text h.store) (tokens_of h) (lines_of h)) (sym e)
            (history_none t l (room h.store) (text h.store) (tokens_of h) (lines_of h) ok.tokens ok.lines);
        right = ok;
        same_room = refl;
        kept = record { token_book = refl; line_book = refl; token_memory = refl; line_memory = refl };
      }

  pub going_more : (k k' : Sheet S) (answers answers' : Vec Answer Global) (done left : List Request) (r : Request) (a : Answer) →
      Going k answers done (r ∷ left) →
      (Right k (text k.store) (room k.store) → Made k k' (text k.store) (text k'.store) (room k.store) (asked r) (answered a)) →
      Keeps k k' → room k'.store ≡ room k.store →
      vec_items answers' ≡ vec_items answers ++ a ∷ [] → vec_len answers' ≡ vec_len answers + 1 → vec_capacity answers' ≡ vec_capacity answers →
      Going k' answers' (done ++ r ∷ []) left
  going_more k k' answers answers' done left r a go makes keeps rooms items len cap =
      let m = makes go.right in
      let t = tables h.tokens.book in
      let l = tables h.lines.book in
      let s = text k.store in
      let u = text k'.store in
      let t-is = go.kept.token_book in
      let l-is = go.kept.line_book in
      let kept : Keeps h k' =
      record {
        token_book = keeps.token_book ∙ t-is;
        line_book = keeps.line_book ∙ l-is;
        token_memory = keeps.token_memory ∙ go.kept.token_memory;
        line_memory = keeps.line_memory ∙ go.kept.line_memory;
      } in
      let ea : answered a ≡ answer t l (room h.store) s (asked r) =
      m.answer_is
      ∙ ap (λ b. answer (tables b) (tables k.lines.book) (room k.store) s (asked r)) t-is
      ∙ ap (λ b. answer t (tables b) (room k.store) s (asked r)) l-is
      ∙ ap (λ n. answer t l n s (asked r)) go.same_room in
      let es : u ≡ text_after (room h.store) s (asked r) = m.text ∙ ap (λ n. text_after n s (asked r)) go.same_room in
      let et : tokens_of k' ≡ token_list t u = m.right.tokens ∙ ap (λ b. token_list (tables b) u) kept.token_book in
      let el : lines_of k' ≡ line_list t l u =
      m.right.lines ∙ ap (λ b. line_list (tables b) (tables k'.lines.book) u) kept.token_book ∙ ap (λ b. line_list t (tables b) u) kept.line_book in
      let more = history_more t l (book_sound h.tokens.book) (book_sound h.lines.book) (room h.store) (text h.store) (map asked done) (map answered (vec_items answers)) s (tokens_of k) (lines_of k) go.history (asked r) (answered a) u (tokens_of k') (lines_of k') ea es et el in
      let as_is : map answered (vec_items answers) ++ answered a ∷ [] ≡ map answered (vec_items answers') = sym (ap (map answered) items ∙ map_push answered (vec_items answers) a) in
      record {
        whole = append_assoc done (r ∷ []) left ∙ go.whole;
        enough = omega (arith, go.enough);
        history = subst (λ qs. History t l (room h.store) (text h.store) qs (map answered (vec_items answers')) u (tokens_of k') (lines_of k')) (sym (map_push asked done r))
            (subst (λ xs. History t l (room h.store) (text h.store) (map asked done ++ asked r ∷ []) xs u (tokens_of k') (lines_of k')) as_is more);
        right = subst (λ n. Right k' u n) (sym rooms) m.right;
        same_room = rooms ∙ go.same_room;
        kept = kept;
      }

  pub going_all : (k : Sheet S) (answers : Vec Answer Global) (done left : List Request) → Going k answers done left → left ≡ [] →
      History (tables h.tokens.book) (tables h.lines.book) (room h.store) (text h.store) (map asked all) (map answered (vec_items answers)) (text k.store) (tokens_of k) (lines_of k)
  going_all k answers done left go e =
      let is : done ≡ all = sym (append-nil done) ∙ ap (λ x. done ++ x) (sym e) ∙ go.whole in
      subst (λ qs. History (tables h.tokens.book) (tables h.lines.book) (room h.store) (text h.store) (map asked qs) (map answered (vec_items answers)) (text k.store) (tokens_of k) (lines_of k)) is go.history
