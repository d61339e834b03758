-- How a book's fault is told: layer 2, the number of the question that got the first no, and its detail.
use Rattle.std.specs.Prelude.{ℕ}
use Rattle.counts.specs.declared.Refusal.{Refusal}
use Rattle.books.specs.declared.fault.BookFault.{BookFault}
use Rattle.books.specs.declared.fault.BookFault.TheVariants.{Count, Length, Class, Step, Accept, Rule, Start}

abbrev pub told : ℕ → ℕ → Refusal
told question detail = record { layer = 2; number = question; detail = detail }

abbrev pub refusal_of : BookFault → Refusal
refusal_of (Count place) = told 1 place
refusal_of (Length place) = told 2 place
refusal_of (Class code) = told 3 code
refusal_of (Step place) = told 4 place
refusal_of (Accept state) = told 5 state
refusal_of (Rule rule) = told 6 rule
refusal_of (Start mode) = told 7 mode
