-- Whose octets a line has. The lines are those that `tshark -q -z follow,tcp,raw,N` prints: of hexadecimal digits, those that
-- begin with a tab of the side that accepted; and other lines, of which one that begins with `Follow:` stands at the head of each
-- connection.
use Rattle.std.specs.Prelude.{ℕ, ◌==◌, codes, Bool, true, false, List, [], ◌∷◌, Result, Ok, Err, if◌then◌else◌}
use Rattle.hex.specs.Hex.{decode_of}
use Rattle.hex.specs.declared.error.FromHexError.{FromHexError}
use Rattle.giop_tap.specs.declared.sender.Sender.{Sender}
use Rattle.giop_tap.specs.declared.sender.Sender.TheVariants.{Opener, Acceptor}

-- what a line is: the head of the next connection, octets of a side, or one that is passed over
pub data Line : Type 0 where
  head : Line
  gives : Sender → List ℕ → Line
  other : Line

-- digits of a side, at least two
abbrev pub given_by : Sender → Result (List ℕ) FromHexError → Line
given_by sender (Ok []) = other
given_by sender (Ok (octet ∷ octets)) = gives sender (octet ∷ octets)
given_by sender (Err e) = other

-- behind a tab stand those of the side that accepted
abbrev pub digits_of : List ℕ → Line
digits_of [] = other
digits_of (octet ∷ digits) = if octet == 9 then given_by Acceptor (decode_of digits) else given_by Opener (decode_of (octet ∷ digits))

-- whether a line begins so
abbrev pub begins : List ℕ → List ℕ → Bool
begins [] line = true
begins (c ∷ cs) [] = false
begins (c ∷ cs) (d ∷ line) = if c == d then begins cs line else false

abbrev pub line_of : List ℕ → Line
line_of line = if begins (codes "Follow:") line then head else digits_of line
