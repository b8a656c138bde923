-- What is printed for 01's design, and for some refusals, by the definition. Assumes nothing.
use Rattle.std.specs.Prelude.{◌≡◌, refl, ◌++◌}
use Rattle.std.proofs.Common.{ap, ◌∙◌}
use Rattle.rules.specs.Text.{bytes, joined, pick, zeros}
use Rattle.rules.specs.Netlist.{records}
use Rattle.rules.specs.Flatten.{answer, flatten}
use Rattle.rules.proofs.Edges.{design, designed, edges}
use Rattle.rules.proofs.Laws.Records.{flat-same}
use Rattle.pebble.specs.Decimal.{spelled, decimal}
use Rattle.pebble.specs.Printed.{refused_text, shown, printed}

-- 01, "The program prints, whole, each line ended by LF"
pub worked : printed (bytes design) ≡ bytes "BLOCK main\n[w0:WIRE,w1:WIRE,w2:WIRE]\n[w3:WIRE]\nVAR w4:WIRE;\nVAR w5:WIRE;\nVAR w6:WIRE;\nVAR w7:WIRE;\nBEGIN\nzero [] [w4];\nxor [w4,w0] [w5];\nxor [w5,w1] [w6];\nxor [w6,w2] [w7];\nconnect [w7] [w3]\nEND;\n"
unfolding printed shown flatten answer pick records
worked = ap (λ o. shown (answer 5124 o)) edges.p5 ∙ flat-same (designed ++ zeros 5095) designed refl ∙ edges.p5-printed

pub first-place : refused_text 4 0 ≡ bytes "refused 4 0\n"
unfolding refused_text joined decimal spelled
first-place = refl

pub last-place : refused_text 18 16384 ≡ bytes "refused 18 16384\n"
unfolding refused_text joined decimal spelled
last-place = refl

pub tens : refused_text 10 100 ≡ bytes "refused 10 100\n"
unfolding refused_text joined decimal spelled
tens = refl
