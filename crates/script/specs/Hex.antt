-- Hex digits, of either case, and the byte of a pair of them.
use Rattle.std.specs.Prelude.{ℕ, ◌+◌, ◌-◌, ◌*◌, cond, ◌&&◌, Some, None, Option, nat_le}

abbrev pub hex : ℕ → Option ℕ
hex b =
    cond (nat_le 48 b && nat_le b 57) (Some (b - 48))
    (cond (nat_le 97 b && nat_le b 102) (Some (b - 97 + 10))
    (cond (nat_le 65 b && nat_le b 70) (Some (b - 65 + 10)) None))

abbrev pub both : Option ℕ → Option ℕ → Option ℕ
both (Some h) (Some l) = Some (16 * h + l)
both (Some h) None = None
both None (Some l) = None
both None None = None

abbrev pub pair : ℕ → ℕ → Option ℕ
pair h l = both (hex h) (hex l)
