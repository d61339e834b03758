-- What the kinds of the house token book mean: each is a pattern over bytes. Nothing here speaks of states or tables.
use Rattle.std.specs.Prelude.{◌≡◌, ℕ, zero, suc, Bool, true, false, cond, not, ◌||◌, ◌⊎◌, List, [], ◌∷◌, ◌++◌, take, drop, codes, ◌==◌}

abbrev pub among : List ℕ → ℕ → Bool
among [] b = false
among (x ∷ xs) b = b == x || among xs b

-- a set of bytes: those listed, or all but those listed
pub data Bytes : Type 0 where
  of : List ℕ → Bytes
  but : List ℕ → Bytes

abbrev pub has : Bytes → ℕ → Bool
has (of xs) b = among xs b
has (but xs) b = not (among xs b)

-- each byte of w is in the set
abbrev pub AllIn : Bytes → List ℕ → Type 0
AllIn s [] = Unit {0}
AllIn s (b ∷ w) = (has s b ≡ true) × AllIn s w

-- a part of a pattern: one byte of a set, or zero or more of them
pub data Item : Type 0 where
  one : Bytes → Item
  many : Bytes → Item

-- the byte string w, all of it, is made up of the items in their order
abbrev pub Matches : List Item → List ℕ → Type 0
Matches [] [] = Unit {0}
Matches [] (b ∷ w) = ⊥
Matches (one s ∷ is) [] = ⊥
Matches (one s ∷ is) (b ∷ w) = (has s b ≡ true) × Matches is w
Matches (many s ∷ is) w = (n : ℕ) × AllIn s (take n w) × Matches is (drop n w)

-- space, tab and carriage return
abbrev pub blank : Bytes
blank = of (32 ∷ 9 ∷ 13 ∷ [])

abbrev pub newline : Bytes
newline = of (10 ∷ [])

abbrev pub blank_or_newline : Bytes
blank_or_newline = of (32 ∷ 9 ∷ 13 ∷ 10 ∷ [])

abbrev pub digit : Bytes
digit = of (codes "0123456789")

-- all but blanks, newlines and the brackets, braces, angles and star that the other kinds use
abbrev pub word_byte : Bytes
word_byte = but (32 ∷ 9 ∷ 13 ∷ 10 ∷ codes "[]{}<>*")

abbrev pub blanks : List Item
blanks = one blank ∷ many blank ∷ []

abbrev pub word : List Item
word = one word_byte ∷ many word_byte ∷ []

-- minutes, seconds and hundredths, two digits each: [dd:dd.dd]
abbrev pub stamp : List Item
stamp =
    one (of (codes "["))
    ∷ one digit ∷ one digit
    ∷ one (of (codes ":"))
    ∷ one digit ∷ one digit
    ∷ one (of (codes "."))
    ∷ one digit ∷ one digit
    ∷ one (of (codes "]"))
    ∷ []

-- <, anything but >, then >
abbrev pub chorus : List Item
chorus = one (of (codes "<")) ∷ many (but (codes ">")) ∷ one (of (codes ">")) ∷ []

-- a chorus, then a star behind zero or more blanks and newlines
abbrev pub starred_chorus : List Item
starred_chorus = chorus ++ (many blank_or_newline ∷ one (of (codes "*")) ∷ [])

-- what stands between braces, without the closing one
abbrev pub comment : List Item
comment = one (but (codes "}")) ∷ many (but (codes "}")) ∷ []

-- a rule gives its kind to what its pattern matches, and the mode in which reading goes on
pub record Rule : Type 0 where
  pub kind : ℕ
  pub pattern : List Item
  pub next : ℕ

abbrev pub rule : ℕ → List Item → ℕ → Rule
rule k p v = record { kind = k; pattern = p; next = v }

-- mode 0 reads the sheet, mode 1 what stands between braces
abbrev pub rules_of : ℕ → List Rule
rules_of zero =
    rule 2 blanks 0
    ∷ rule 3 word 0
    ∷ rule 4 stamp 0
    ∷ rule 5 (one newline ∷ []) 0
    ∷ rule 6 (one (of (codes "{")) ∷ []) 1
    ∷ rule 7 chorus 0
    ∷ rule 8 starred_chorus 0
    ∷ []
rules_of (suc zero) = rule 9 comment 1 ∷ rule 10 (one (of (codes "}")) ∷ []) 0 ∷ []
rules_of (suc (suc m)) = []

-- a rule of the list that gives kind k and next mode v matches w
abbrev pub GivenBy : List Rule → ℕ → ℕ → List ℕ → Type 0
GivenBy [] k v w = ⊥
GivenBy (r ∷ rs) k v w = ((r.kind ≡ k) × (r.next ≡ v) × Matches r.pattern w) ⊎ GivenBy rs k v w

-- some rule of mode m matches w
abbrev pub Matched : ℕ → List ℕ → Type 0
Matched m w = (k : ℕ) × (v : ℕ) × GivenBy (rules_of m) k v w

-- the classes, by their bytes: the number beside the set that has b, or 0 for every other byte
abbrev pub numbered : List (Bytes × ℕ) → ℕ → ℕ
numbered [] b = 0
numbered (c ∷ cs) b = cond (has c.0 b) c.1 (numbered cs b)

abbrev pub class_rule : ℕ → ℕ
class_rule =
    numbered
    (
    (blank, 1)
    ∷ (newline, 2)
    ∷ (of (codes "["), 3)
    ∷ (of (codes "]"), 4)
    ∷ (digit, 5)
    ∷ (of (codes ":"), 6)
    ∷ (of (codes "."), 7)
    ∷ (of (codes "{"), 8)
    ∷ (of (codes "}"), 9)
    ∷ (of (codes "<"), 10)
    ∷ (of (codes ">"), 11)
    ∷ (of (codes "*"), 12)
    ∷ []
    )
