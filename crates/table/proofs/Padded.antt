-- A number that is printed in a column.
use Rattle.std.proofs.Common.{◌≡◌, ℕ, ◌-◌, ◌^◌, refl, arith, decimal}
use Rattle.std.specs.Fmt.{styled_decimal, format_spec}
use Rattle.std.proofs.Padding.{padded_integral_right}
use Rattle.table.specs.Table.{field}

pub right_justified : (s : _) (n : ℕ) → s ≡ format_spec 32 3 0 6 (2 ^ 64 - 1) → styled_decimal s n ≡ field n
right_justified s n e = rw e (padded_integral_right (format_spec 32 3 0 6 (2 ^ 64 - 1)) (decimal n) refl refl (omega arith) (omega arith) (omega arith))
