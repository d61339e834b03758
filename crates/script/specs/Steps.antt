-- One thing read after another: the first that is wrong ends it.
use Rattle.std.specs.Prelude.{◌≡◌, Ok, Err, Result, MatchResult}
use Rattle.script.specs.declared.wrong.Wrong.{Wrong}
use Rattle.script.specs.declared.wrong.Stop.{Stop}
use Rattle.script.specs.declared.wrong.Stop.TheVariants as stop

abbrev pub on : {X Y : Type 0} → Result X Wrong → (X → Result Y Wrong) → Result Y Wrong
on (Ok x) f = f x
on (Err w) f = Err w

-- what a call says that stops: this is wrong, or nothing where it is memory that is wanting
abbrev pub Stopped : {X : Type 0} → Result X Wrong → Stop → Type 0
Stopped d stop.NoMemory = Unit {0}
Stopped d (stop.Wrong w) = d ≡ Err w

-- a call answers what is defined, its value read so, or what is wrong
abbrev pub Answers : {X Y : Type 0} → Result X Wrong → Result Y Wrong → (X → Y) → Type 0
Answers r d value = MatchResult r (λ x. d ≡ Ok (value x)) (λ w. d ≡ Err w)

-- the same of a call that may want memory
abbrev pub AnswersOrStops : {X Y : Type 0} → Result X Stop → Result Y Wrong → (X → Y) → Type 0
AnswersOrStops r d value = MatchResult r (λ x. d ≡ Ok (value x)) (λ s. Stopped d s)
