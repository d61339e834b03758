-- Lines as a format writes them, piece by piece.
use Rattle.std.proofs.Common.{◌≡◌, ℕ, List, [], ◌∷◌, ◌++◌, Ok, Err, String, string_bytes, codes, decimal, Result, IfOk, refl, ap, ◌∙◌, sym, append_assoc}
use Rattle.script.specs.Shown.{quoted}
use Rattle.telling.specs.Lines.{spaced, line, line_with, broken_line}

-- numbers, a blank before each, and what ends the line
abbrev pub row : List ℕ → List ℕ → List ℕ
row [] end = end
row (n ∷ ns) end = 32 ∷ decimal n ++ row ns end

row_spaced : (ns end : List ℕ) → row ns end ≡ spaced ns ++ end
row_spaced [] end = refl
row_spaced (n ∷ ns) end = ap (λ xs. 32 ∷ decimal n ++ xs) (row_spaced ns end) ∙ sym (append_assoc (32 ∷ decimal n) (spaced ns) end)

pub row_line : (name ns : List ℕ) → name ++ row ns (10 ∷ []) ≡ line name ns
row_line name ns = ap (λ xs. name ++ xs) (row_spaced ns (10 ∷ [])) ∙ sym (append_assoc name (spaced ns) (10 ∷ []))

-- a line that begins so, with a text in quotes behind that
pub row_with_text : (name ns text : List ℕ) → ((name ++ row ns (32 ∷ [])) ++ quoted text) ++ (10 ∷ []) ≡ line_with name ns text
row_with_text name ns text = ap (λ xs. (xs ++ quoted text) ++ (10 ∷ [])) (ap (λ xs. name ++ xs) (row_spaced ns (32 ∷ [])) ∙ sym (append_assoc name (spaced ns) (32 ∷ [])))

pub row_line_with : (name ns text : List ℕ) → name ++ row ns (32 ∷ quoted text ++ (10 ∷ [])) ≡ line_with name ns text
row_line_with name ns text =
    ap (λ xs. name ++ xs) (row_spaced ns (32 ∷ quoted text ++ (10 ∷ [])))
    ∙ sym (append_assoc name (spaced ns) (32 ∷ quoted text ++ (10 ∷ [])))
    ∙ sym (append_assoc (name ++ spaced ns) (32 ∷ []) (quoted text ++ (10 ∷ [])))
    ∙ sym (append_assoc ((name ++ spaced ns) ++ (32 ∷ [])) (quoted text) (10 ∷ []))

pub row_broken : (n : ℕ) (words : List ℕ) → codes "line " ++ (decimal n ++ (codes ": " ++ (words ++ (10 ∷ [])))) ≡ broken_line n words
row_broken n words =
    let front = codes "line" ++ (32 ∷ decimal n) in
    sym (append_assoc (codes "line ") (decimal n) (codes ": " ++ (words ++ (10 ∷ []))))
    ∙ sym (append_assoc front (codes ": ") (words ++ (10 ∷ [])))
    ∙ sym (append_assoc (front ++ codes ": ") words (10 ∷ []))

-- what was made is the line
pub laid : {Z E : Type 0} (r : Result (String Z) E) {xs ys : List ℕ} → xs ≡ ys → IfOk r (λ s. string_bytes s ≡ xs) → IfOk r (λ s. string_bytes s ≡ ys)
laid (Ok s) e h = h ∙ e
laid (Err x) e h = h

-- three numbers that were printed as one value, and four twice
pub three_shown : (name end : List ℕ) (a b c : ℕ) →
    name ++ (32 ∷ (decimal a ++ (32 ∷ decimal b ++ (32 ∷ decimal c))) ++ end) ≡ name ++ row (a ∷ b ∷ c ∷ []) end
three_shown name end a b c = simp append_assoc

abbrev pub shown_four : ℕ → ℕ → ℕ → ℕ → List ℕ
shown_four a b c d = decimal a ++ (32 ∷ decimal b ++ (32 ∷ decimal c ++ (32 ∷ decimal d)))

pub eight_shown : (name end : List ℕ) (a b c d e f g h : ℕ) →
    name ++ (32 ∷ shown_four a b c d ++ (32 ∷ shown_four e f g h ++ end)) ≡ name ++ row (a ∷ b ∷ c ∷ d ∷ e ∷ f ∷ g ∷ h ∷ []) end
eight_shown name end a b c d e f g h = simp append_assoc
