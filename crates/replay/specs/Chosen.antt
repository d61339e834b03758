-- The books that a script is played with: a plan of its own decides, and without one the house's book stands.
use Rattle.std.specs.Prelude.{◌≡◌, Some, None, Ok, Option, Result, MatchResult}
use Rattle.books.specs.declared.book.Book.{Book}
use Rattle.books.specs.declared.fault.BookFault.{BookFault}
use Rattle.books.specs.Check.{Plan, fault, first}
use Rattle.books.specs.Meaning.{tables}
use Rattle.books.specs.Tables.{Tables}
use Rattle.house_sheet.specs.declared.Books.{Books}

-- the book of one plan, or its fault
abbrev pub Chosen : Option Plan → Book → Result Book BookFault → Type 0
Chosen None house r = r ≡ Ok house
Chosen (Some p) house r = MatchResult r (λ b. (fault p ≡ None) × (tables b ≡ p.tables)) (λ f. fault p ≡ Some f)

abbrev pub chosen_fault : Option Plan → Option BookFault
chosen_fault None = None
chosen_fault (Some p) = fault p

abbrev pub chosen_tables : Option Plan → Tables → Tables
chosen_tables None house = house
chosen_tables (Some p) house = p.tables

-- both books, where neither plan has a fault; the token book's fault comes before the line book's
abbrev pub BothChosen : Option Plan → Tables → Option Plan → Tables → Result Books BookFault → Type 0
BothChosen t token_house l line_house r =
    MatchResult r
    (λ b.
    (first (chosen_fault t) (chosen_fault l) ≡ None)
    × (tables b.tokens ≡ chosen_tables t token_house)
    × (tables b.lines ≡ chosen_tables l line_house))
    (λ f. first (chosen_fault t) (chosen_fault l) ≡ Some f)
