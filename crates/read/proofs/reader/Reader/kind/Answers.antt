use Rattle.std.proofs.Common.{true, false, refl, rules}
use Rattle.std.proofs.lemmas.Iterator.{first_from_Range}
use Rattle.rules.specs.Text.{joined}
use Rattle.netlist.specs.Decides.{holds, fails}
use Rattle.write.specs.Pieces.{call_of}
use Rattle.compare.specs.Match.{Starts}
use Rattle.read.specs.Ahead.{kind-found}
use Rattle.read.proofs.reader.Reader.kind.Goals as goal

pub returns : goal.returns
returns c =
    let t = c.args.self.now.rest.now in
    kind-found c.find.result
    (first_from_Range (record { start = 0; end = 9 }) _ _ c.find.result (λ k. Starts t 0 (joined (call_of k))) (λ k. Starts t 0 (joined (call_of k)) → ⊥) c.find.ensures.ran
    (λ x q k. holds {b = true} (search rules) refl) (λ x q k. (search rules, fails {b = false} (search rules) refl)))
    c.unwrap_or.ensures
