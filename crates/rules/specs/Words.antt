-- 01, "Words and order of words": the word that stands at a place of a text, a bad one included. Assumes nothing.
use Rattle.std.specs.Prelude.{ℕ, suc, ◌+◌, ◌-◌, ◌*◌, Bool, true, ◌&&◌, ◌||◌, cond, List, [], ◌∷◌, map, length, get_or, take, drop, ltb, leb, eqb}
use Prim.Native.String.{String}
use lib.Text.{eqt}
use Rattle.rules.specs.Text.{bytes, pick, index_of, is_in}
use Rattle.rules.specs.declared.Word.{Word}
use Rattle.rules.specs.declared.Word.TheVariants.{Bad, Name, Number, Mark}

-- "Spaces, tabs, CR and LF separate."
abbrev pub is_separator : ℕ → Bool
is_separator b = eqb b 32 || eqb b 9 || eqb b 13 || eqb b 10

-- letters and digits are those of ASCII
abbrev pub is_digit : ℕ → Bool
is_digit b = leb 48 b && leb b 57

abbrev pub is_letter : ℕ → Bool
is_letter b = leb 65 b && leb b 90 || leb 97 b && leb b 122

-- "letters, digits and underscores"
abbrev pub in_word : ℕ → Bool
in_word b = is_letter b || is_digit b || eqb b 95

-- "Marks: ( ) [ ] , ; : = + - * .." but for the last: ( ) * + , - are 40 to 45
abbrev pub is_mark : ℕ → Bool
is_mark b = leb 40 b && leb b 45 || eqb b 58 || eqb b 59 || eqb b 61 || eqb b 91 || eqb b 93

-- "Reserved": numbered from 1, so that no number is a mark's byte, and 0 is left for the end
abbrev pub reserved : List String
reserved =
    "BLOCK" ∷ "VAR" ∷ "BEGIN" ∷ "END" ∷ "GENERATE" ∷ "FOR" ∷ "IF" ∷ "THEN" ∷ "WIRE" ∷ "VECTOR" ∷ "OF" ∷ "NUM" ∷ "BESIDE" ∷ "BELOW" ∷ []

-- how many bytes at the front pass the test
unfoldable pub run : (ℕ → Bool) → List ℕ → ℕ
run p [] = 0
run p (b ∷ r) = pick (p b) (suc (run p r)) 0

unfoldable pub all : (ℕ → Bool) → List ℕ → Bool
all p [] = true
all p (b ∷ r) = p b && all p r

-- digits, read after the number v
unfoldable pub value_of : ℕ → List ℕ → ℕ
value_of v [] = v
value_of v (d ∷ r) = value_of (v * 10 + (d - 48)) r

-- a word from p to q by its letters: "A name is a letter and up to 15 more"; "A number is 1 to 6 digits"
unfoldable pub spelled : ℕ → ℕ → List ℕ → Word
spelled p q w =
    pick (is_in w (map bytes reserved)) (Mark (suc (index_of w (map bytes reserved))) p q)
    (pick (all is_digit w && leb (length w) 6) (Number p q (value_of 0 w))
    (pick (is_letter (get_or w 0 0) && leb (length w) 16) (Name p q) (Bad p)))

-- what begins at p: "An unbroken run of letters, digits and underscores is one word"; a mark; two dots
unfoldable pub begun : List ℕ → ℕ → Word
begun s p =
    let b = get_or s p 0 in
    let n = run in_word (drop p s) in
    pick (in_word b) (spelled p (p + n) (take n (drop p s)))
    (pick (is_mark b) (Mark b p (p + 1))
    (pick (eqb b 46 && eqb (get_or s (p + 1) 0) 46) (Mark b p (p + 2)) (Bad p)))

-- the first word at or after a place; at the end of the text, the end
unfoldable pub word_at : List ℕ → ℕ → Word
word_at s at =
    let p = at + run is_separator (drop at s) in
    pick (ltb p (length s)) (begun s p) (Mark 0 (length s) (length s))

-- ---- how a mark or a reserved word is called: `key ";"`, `key "BEGIN"`, and `key ""` for the end

abbrev first : List ℕ → ℕ
first w = get_or w 0 0

abbrev numbered : ℕ → List String → String → ℕ
numbered n [] t = first (bytes t)
numbered n (r ∷ rs) t = cond (eqt t r) n (numbered (suc n) rs t)

abbrev pub key : String → ℕ
key t = numbered 1 reserved t
