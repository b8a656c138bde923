-- One word of the tape for two bytes of text: what readers spend, and the room that they want. Assumes nothing.
use Rattle.std.specs.Prelude.{ℕ, ◌+◌, ◌*◌, ◌≤◌, ◌<◌, cond, Result, Ok, Err, List, length, get_or, eqb}
use Rattle.words.specs.Onward.{widths}
use Rattle.tape.specs.declared.Read.{Read}
use Rattle.rules.specs.declared.Refusal.{Refusal}
use Rattle.marks.specs.declared.Spot.{Spot}
use Rattle.marks.specs.declared.Joint.{Joint}
use Rattle.marks.specs.declared.Divided.{Divided}
use Rattle.marks.specs.declared.Divided.TheVariants.{Another, Last}

-- room for what is left of the text at one word for two bytes, and `extra` bytes more
abbrev pub Room : ℕ → List ℕ → List ℕ → ℕ → ℕ → Type 0
Room extra text tape at to = (length text ≤ 16384) × (at ≤ length text) × (length text + 2 * to + extra ≤ at + 2 * length tape)

-- from `at` to n words were written from `to` to m: one for two bytes, but for `extra` bytes at the end, and with `spare` bytes left over
abbrev pub Spends : ℕ → ℕ → ℕ → ℕ → ℕ → Result Read Refusal → Type 0
Spends extra spare len at to (Ok r) = (at ≤ r.next) × (r.next ≤ len) × (to ≤ r.end) × (2 * r.end + at + spare ≤ 2 * to + r.next + extra)
Spends extra spare len at to (Err e) = Unit {0}

-- the bytes of a mark or reserved word
abbrev pub wide : ℕ → ℕ
wide code = cond (eqb code 46) 2 (get_or widths code 1)

-- a mark was passed
abbrev pub Past : ℕ → ℕ → ℕ → Spot → Type 0
Past code len at s = (at ≤ s.place) × (s.place + wide code ≤ s.next) × (s.next ≤ len)

-- a name was passed
abbrev pub Named : ℕ → ℕ → Spot → Type 0
Named len at s = (at ≤ s.place) × (s.place < s.next) × (s.next ≤ len) × (s.next ≤ s.place + 16)

-- a mark that joins was passed; its head fits
abbrev pub Joined : ℕ → ℕ → Joint → Type 0
Joined len at j = (at < j.next) × (j.next ≤ len) × (j.head < 8)

-- a mark that divides or closes was passed
abbrev pub Parted : ℕ → ℕ → ℕ → ℕ → Divided → Type 0
Parted sep close len at (Another s) = Past sep len at s
Parted sep close len at (Last n) = (at + wide close ≤ n) × (n ≤ len)
