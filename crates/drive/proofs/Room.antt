-- What was written has room in the text that was lent for it. Assumes nothing.
use Rattle.std.proofs.Common.{List, ℕ, ◌≤◌, length, arith, length-append}
use Rattle.netlist.specs.Answers.{Told}
use Rattle.write.specs.Wrote.{Wrote, short-text, bad-netlist, wrote}

pub written_fits : {net : List ℕ} {len : ℕ} {t : Told} {text : List ℕ} → Wrote net len t text → t.length ≤ length text
written_fits (short-text h) = omega arith
written_fits (bad-netlist h x) = omega arith
written_fits (wrote h x) = omega (arith, length-append {A = ℕ})
