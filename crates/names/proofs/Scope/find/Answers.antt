use Rattle.std.proofs.Common.{ap}
use Rattle.rules.specs.Reasons.{number}
use Rattle.rules.specs.declared.Refusal.{Refusal}
use Rattle.sweep.proofs.Laws.Steps.{find-answers}
use Rattle.names.proofs.Scope.find.Goals as goal

pub returns-clause-rules : goal.returns-clause-rules
returns-clause-rules c = rw c.ok_or.ensures.value (find-answers c.args.self.now.text.now c.args.self.now.words.now c.args.word c.find.result c.refusal-unknown.result (rw c.letters-name.ensures at c.find.ensures) (ap (λ (r : Refusal). number r.reason) c.refusal-unknown.ensures) (ap (λ (r : Refusal). r.place) c.refusal-unknown.ensures))
