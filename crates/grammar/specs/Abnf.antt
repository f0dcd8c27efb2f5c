-- What RFC 5424's ABNF takes for granted: its classes of bytes, and repetition.
use Rattle.std.specs.Prelude.{ℕ, ◌≤◌, Bool, not, ◌&&◌, ◌||◌, List, length, eqb}
use Rattle.base.specs.Choose.{within}
use Rattle.base.specs.Runs.{All}
pub use Rattle.digits.specs.Digits.{is_digit}

-- PRINTUSASCII = %d33-126
abbrev pub print_us_ascii : ℕ → Bool
print_us_ascii b = within 33 126 b

-- a byte of an SD-NAME: PRINTUSASCII except '=', SP, ']', %d34
abbrev pub sd_name_byte : ℕ → Bool
sd_name_byte b = print_us_ascii b && not (eqb b 61 || eqb b 93 || eqb b 34)

-- least*most of a class
pub record Repeat (least most : ℕ) (p : ℕ → Bool) (t : List ℕ) : Type 0 where
  pub at_least : least ≤ length t
  pub at_most : length t ≤ most
  pub all : All p t
