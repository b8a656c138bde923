-- One word of the tape: a kind, a head of three bits and a value, as (kind * 8 + head) * 2^25 + value. Assumes nothing.
use Rattle.std.specs.Prelude.{ℕ, ◌+◌, ◌*◌, ◌-◌, ◌/◌, ◌%◌, ◌<◌, ◌≡◌, length, eqb}
use Rattle.std.proofs.Common.{arith}
use Rattle.rules.specs.Text.{pick}
use Rattle.rules.specs.Syntax.{Name, Op, plus, minus, times}

abbrev pub pack : ℕ → ℕ → ℕ → ℕ
pack k h v = (k * 8 + h) * 33554432 + v

abbrev pub kind_of : ℕ → ℕ
kind_of w = w / 268435456

abbrev pub head_in : ℕ → ℕ
head_in w = w / 33554432 % 8

abbrev pub value_of : ℕ → ℕ
value_of w = w % 33554432

-- ---- kinds

-- factors of an expression; the value of a bracket is the number of words inside it
abbrev pub NUMBER : ℕ
NUMBER = 0

abbrev pub NAME : ℕ
NAME = 1

abbrev pub BRACKET : ℕ
BRACKET = 2

-- a call's name, and its arguments: with head 1 the words of a subscript follow
abbrev pub CALL : ℕ
CALL = 3

abbrev pub INPUT : ℕ
INPUT = 4

abbrev pub OUTPUT : ℕ
OUTPUT = 5

-- a loop's place, and its index; the value of a body is the number of words inside it
abbrev pub LOOP : ℕ
LOOP = 6

abbrev pub INDEX : ℕ
INDEX = 7

abbrev pub BODY : ℕ
BODY = 8

-- a block's name, and what it declares; head: 0 WIRE, 1 VECTOR, whose bounds' words follow, 2 NUM
abbrev pub BLOCK : ℕ
BLOCK = 9

abbrev pub GENERIC : ℕ
GENERIC = 10

abbrev pub IN : ℕ
IN = 11

abbrev pub OUT : ℕ
OUT = 12

abbrev pub VAR : ℕ
VAR = 13

-- ---- heads of factors: twice the mark before it (0 none, 1 +, 2 -, 3 *), and one more if the minuses before it are odd in number

unfoldable pub head_of : Op → ℕ
head_of plus = 2
head_of minus = 4
head_of times = 6

unfoldable pub flip : ℕ → ℕ
flip h = pick (eqb (h % 2) 0) (h + 1) (h - 1)

-- ---- names: a place and a length

abbrev pub spelt : ℕ → ℕ → ℕ
spelt p q = p * 32 + (q - p)

unfoldable pub name_w : Name → ℕ
name_w n = n.place * 32 + length n.letters

-- ---- a word taken apart is what it was made of

module _ (k h v : ℕ) (head : h < 8) (value : v < 33554432) where
  pub kind-of : kind_of (pack k h v) ≡ k
  kind-of = omega arith

  pub head-of : head_in (pack k h v) ≡ h
  head-of = omega arith

  pub value-of : value_of (pack k h v) ≡ v
  value-of = omega arith
