-- What a call names, by the rules' number: a primitive by its kind, a block by its number and 10. Assumes nothing.
use Rattle.std.specs.Prelude.{◌≡◌, refl, ℕ, ◌+◌, ◌<◌, List, Result, Ok, Err}
use borrow.Author.Tests.{lt-ltb}
use Rattle.rules.specs.Text.{pick}
use Rattle.rules.specs.Outcome.{Out, ok, refuse}
use Rattle.rules.specs.Reasons.{number}
use Rattle.rules.specs.declared.Refusal.{Refusal}
use Rattle.sweep.specs.declared.Heading.{Heading}
use Rattle.sweep.specs.Sweep.{gate_heading, heading_of}
use Rattle.headings.specs.declared.Callee.{Callee}
use Rattle.headings.specs.declared.Callee.TheVariants.{Primitive, Block}

abbrev pub code : Callee → ℕ
code (Primitive k) = k
code (Block b) = 10 + b

-- what a call wants, by its callee
abbrev pub wanted : List ℕ → List ℕ → Callee → Heading
wanted H F (Primitive k) = gate_heading k
wanted H F (Block b) = heading_of H F (10 + b)

-- a kind there is, or one of at most 64 blocks
abbrev pub Known : Callee → Type 0
Known (Primitive k) = k < 10
Known (Block b) = b < 64

-- the callee that an outcome gives, or its refusal
abbrev pub Calls : Out ℕ → Result Callee Refusal → Type 0
Calls o (Ok c) = (o ≡ ok (code c)) × Known c
Calls o (Err e) = o ≡ refuse (number e.reason) e.place

-- what a known callee wants is what the rules' number wants
pub wanted-is : (H F : List ℕ) (c : Callee) → Known c → wanted H F c ≡ heading_of H F (code c)
unfolding heading_of pick
wanted-is H F (Primitive k) h = rw (lt-ltb k 10 h)
wanted-is H F (Block b) h = refl
