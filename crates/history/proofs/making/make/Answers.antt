use Rattle.std.proofs.Common.{vec_items, sym, refl, ap, ◌∙◌, subst}
use Rattle.std.proofs.lemmas.List.{with_items_is}
use Rattle.std.proofs.lemmas.Result.{MatchResult-weaker}
use Rattle.requests.specs.Asked.{correct}
use Rattle.requests.specs.Plain.{asked, copied_as}
use Rattle.requests.specs.Sheets.{copy_of}
use Rattle.sheet.specs.Lists.{Right, tokens_of}
use Rattle.history.proofs.Makes.{asked_as, made_token, made_line, made_where, made_time, made_copy, made_alike, made_correct}
use Rattle.history.proofs.making.make.Goals as goal

pub returns-in-Token : goal.returns-in-Token
returns-in-Token g c =
    let h = c.args.sheet.now in
    let s = g.S.TextStore.text h.store in
    let room = g.S.TextStore.room h.store in
    record {
      room = refl;
      kept = record { token_book = refl; line_book = refl; token_memory = refl; line_memory = refl };
      made = λ ok. asked_as h h s s room (asked c.args.request) _ _ (ap asked c.in-Token.is) (made_token h s room ok c.in-Token.number _ c.token.ensures);
    }

pub returns-in-Line : goal.returns-in-Line
returns-in-Line g c =
    let h = c.args.sheet.now in
    let s = g.S.TextStore.text h.store in
    let room = g.S.TextStore.room h.store in
    record {
      room = refl;
      kept = record { token_book = refl; line_book = refl; token_memory = refl; line_memory = refl };
      made = λ ok. asked_as h h s s room (asked c.args.request) _ _ (ap asked c.in-Line.is) (made_line h s room ok c.in-Line.number _ c.line.ensures);
    }

pub returns-in-Where : goal.returns-in-Where
returns-in-Where g c =
    let h = c.args.sheet.now in
    let s = g.S.TextStore.text h.store in
    let room = g.S.TextStore.room h.store in
    record {
      room = refl;
      kept = record { token_book = refl; line_book = refl; token_memory = refl; line_memory = refl };
      made = λ ok. asked_as h h s s room (asked c.args.request) _ _ (ap asked c.in-Where.is) (made_where h s room ok c.in-Where.place _ c.find.ensures);
    }

pub returns-in-Time : goal.returns-in-Time
returns-in-Time g c =
    let h = c.args.sheet.now in
    let s = g.S.TextStore.text h.store in
    let room = g.S.TextStore.room h.store in
    record {
      room = refl;
      kept = record { token_book = refl; line_book = refl; token_memory = refl; line_memory = refl };
      made = λ ok. asked_as h h s s room (asked c.args.request) _ _ (ap asked c.in-Time.is) (made_time h s room ok c.in-Time.number _ c.time.ensures);
    }

pub returns-in-Alike : goal.returns-in-Alike
returns-in-Alike g c =
    let h = c.args.sheet.now in
    let s = g.S.TextStore.text h.store in
    let room = g.S.TextStore.room h.store in
    record {
      room = refl;
      kept = record { token_book = refl; line_book = refl; token_memory = refl; line_memory = refl };
      made = λ ok. asked_as h h s s room (asked c.args.request) _ _ (ap asked c.in-Alike.is) (made_alike h s room ok c.in-Alike.a c.in-Alike.b _ c.alike.ensures);
    }

pub returns-in-Copy : goal.returns-in-Copy
returns-in-Copy g c =
    let h = c.args.sheet.now in
    let s = g.S.TextStore.text h.store in
    let room = g.S.TextStore.room h.store in
    let n = c.in-Copy.token in
    let items = with_items_is c.in-Copy.buffer c.copy-count.new.buffer (c.copy-count.auto.buffer ∙ c.as_mut_slice.ensures.len) in
    record {
      room = refl;
      kept = record { token_book = refl; line_book = refl; token_memory = refl; line_memory = refl };
      made = λ ok.
          asked_as h h s s room (asked c.args.request) _ _ (ap asked c.in-Copy.is)
          (made_copy h s room ok n (vec_items c.in-Copy.buffer) _
          (λ w. ap (copied_as c.copy-count.result) items ∙ c.copy-count.ensures.copied w ∙ ap (copy_of s (tokens_of h) n) c.as_mut_slice.ensures.value));
    }

pub returns-in-Correct : goal.returns-in-Correct
returns-in-Correct g c =
    let h = c.args.sheet.now in
    let k = c.correct.new.self in
    let s = g.S.TextStore.text h.store in
    let u = g.S.TextStore.text k.store in
    let room = g.S.TextStore.room h.store in
    record {
      room = c.correct.ensures.room;
      kept = c.correct.ensures.kept;
      made = λ ok.
          let i = c.as_slice.result.now in
          let p = c.in-Correct.place in
          let n = c.in-Correct.cut in
          let after = MatchResult-weaker c.correct.result c.correct.ensures.after (λ x e. e) (λ y e. (e, ap (λ z. g.S.TextStore.text z.store) e)) in
          let right = MatchResult-weaker c.correct.result (c.correct.ensures.right ok) (λ x q. (subst (λ m. Right k u m) c.correct.ensures.room q.0, q.1)) (λ y q. tt) in
          asked_as h k s u room (asked c.args.request) (correct p n i) _ (ap asked c.in-Correct.is ∙ ap (correct p n) (sym c.as_slice.ensures.value))
          (made_correct h s room ok k u p n i c.correct.result c.correct.ensures.answer after right);
    }
