-- What a hole with zeros in front writes.
use Rattle.std.proofs.Common.{◌≡◌, ℕ, ◌-◌, ◌^◌, [], false, append-nil, arith}
use Rattle.std.specs.Prelude.{decimal}
use Rattle.std.specs.Fmt.{padded_integral, format_spec, styled_decimal, char_count}
use Rattle.hm_generator.specs.Generated.{in_digits}

minus_zero : (number : ℕ) → number - 0 ≡ number
minus_zero number = omega arith

zeros_in_front : (width number : ℕ) → padded_integral (format_spec 32 0 4 width (2 ^ 64 - 1)) false [] (decimal number) ≡ in_digits width number
unfolding padded_integral char_count in_digits
zeros_in_front width number = simp (append-nil, minus_zero)

pub five_digits : (number : ℕ) → styled_decimal (format_spec 32 0 4 5 (2 ^ 64 - 1)) number ≡ in_digits 5 number
five_digits number = zeros_in_front 5 number

pub seven_digits : (number : ℕ) → styled_decimal (format_spec 32 0 4 7 (2 ^ 64 - 1)) number ≡ in_digits 7 number
seven_digits number = zeros_in_front 7 number
