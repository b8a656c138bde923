-- Bits as bytes. Assumes nothing.
use Rattle.std.specs.Prelude.{◌≡◌, refl, ℕ, zero, suc, ◌<◌, true, false, List, map, get_or}
use Rattle.std.proofs.Common.{arith}
use Rattle.std.proofs.Math.ListN.{get_or-map}
use Rattle.rules.specs.Meaning.{Signal, dark}
use Rattle.rules.specs.Run.{to_byte, from_byte}

pub byte-inj : (a b : Signal) → to_byte a ≡ to_byte b → a ≡ b
unfolding Signal to_byte
byte-inj true true e = refl
byte-inj true false e = absurd (omega arith)
byte-inj false true e = absurd (omega arith)
byte-inj false false e = refl

pub byte-below : (b : Signal) → to_byte b < 2
unfolding Signal to_byte
byte-below true = omega arith
byte-below false = omega arith

pub byte-not-2 : (b : Signal) → to_byte b ≡ 2 → ⊥
byte-not-2 b e = omega (arith, byte-below b)

pub from-to : (b : Signal) → from_byte (to_byte b) ≡ b
unfolding Signal to_byte from_byte
from-to true = refl
from-to false = refl

pub to-from : (x : ℕ) → x < 2 → to_byte (from_byte x) ≡ x
unfolding Signal to_byte from_byte
to-from zero h = refl
to-from (suc zero) h = refl
to-from (suc (suc x)) h = absurd (omega arith)

-- the bit of a byte among the inputs
pub input-bit : (ins : List ℕ) (i : ℕ) → get_or (map from_byte ins) i dark ≡ from_byte (get_or ins i 0)
unfolding Signal dark from_byte
input-bit ins i = get_or-map from_byte ins i 0
