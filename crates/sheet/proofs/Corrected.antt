-- What both re-readings of a correction meet, and what they report together.
use Rattle.std.proofs.Common.{◌≡◌, ℕ, ◌+◌, ◌≤◌, List, length, vec_len, sym, ap, ◌∙◌, subst, ap₂, subst₂, arith}
use Rattle.text.specs.Replaced.{replaced}
use Rattle.books.specs.Tables.{Tables}
use Rattle.books.specs.Meaning.{tables}
use Rattle.books.proofs.Facts.{book_sound}
use Rattle.reading.specs.Reading.{Entry, batch, kinds}
use Rattle.reading.specs.Report.{Edit, edit, Edited, Report, report, edit_above}
use Rattle.reading.proofs.Edits.{replaced_edited, kinds_edited}
use Rattle.correction.specs.Promise.{Brought}
use Rattle.correction.specs.Walks.{Met}
use Rattle.requests.specs.Asked.{Reports}
use Rattle.requests.specs.Sheets.{line_list, reports}
use Rattle.sheet.specs.declared.sheets.Sheet.{Sheet}
use Rattle.sheet.specs.Lists.{tokens_of, lines_of, Right}
use Rattle.sheet.proofs.Codes.{kinds_within}

abbrev pub both : Report → Report → Reports
both r q = record { tokens = r; lines = q }

module _ {S : Type 0} (h : Sheet S) (s : List ℕ) (room : ℕ) (ok : Right h s room) (a c : ℕ) (i u : List ℕ)
    (within : a + c ≤ length s) (made : u ≡ replaced s a c i) (before : length s ≤ room) (after : length u ≤ room) where
  abbrev t : Tables
  t = tables h.tokens.book

  abbrev l : Tables
  l = tables h.lines.book

  abbrev e : Edit
  e = edit a c (length i)

  text_edited : Edited e s u
  text_edited = subst (λ x. Edited e s x) (sym made) (replaced_edited s i a c within)

  pub met_tokens : Met t e s u (tokens_of h) (vec_len h.tokens.memory)
  met_tokens = record { list = ok.tokens; edited = text_edited; room_before = omega (arith, ok.token_room); room_after = omega (arith, ok.token_room) }

  module _ (n : ℕ) (new : List Entry) (r : Report) (on-tokens : Brought t e s u n new r) (f : Edit) (f-is : f ≡ edit_above new r) where
    above_is : f ≡ edit_above (batch t u) (report (batch t s) (batch t u) e)
    above_is = f-is ∙ ap₂ edit_above on-tokens.list on-tokens.report_is

    pub met_lines : Met l f (kinds (batch t s)) (kinds new) (lines_of h) (vec_len h.lines.memory)
    met_lines =
        let same : kinds new ≡ kinds (batch t u) = ap kinds on-tokens.list in
        record {
          list = ok.lines;
          edited = subst₂ (λ x y. Edited x (kinds (batch t s)) y) (sym above_is) (sym same) (kinds_edited t (book_sound h.tokens.book) e s u text_edited);
          room_before = omega (arith, ok.line_room, kinds_within t s);
          room_after = omega (arith, ok.line_room, kinds_within t u, ap length same);
        }

    pub lines_are : (m : ℕ) (list : List Entry) (q : Report) → Brought l f (kinds (batch t s)) (kinds new) m list q → list ≡ line_list t l u
    lines_are m list q on-lines = on-lines.list ∙ ap (λ x. batch l (kinds x)) on-tokens.list

    pub reports_are : (m : ℕ) (list : List Entry) (q : Report) → Brought l f (kinds (batch t s)) (kinds new) m list q → both r q ≡ reports t l s u e
    unfolding reports
    reports_are m list q on-lines =
        ap₂ both on-tokens.report_is
        (on-lines.report_is ∙ ap₂ (λ x y. report (line_list t l s) (batch l (kinds x)) y) on-tokens.list above_is)
