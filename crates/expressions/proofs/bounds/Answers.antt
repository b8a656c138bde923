use Rattle.std.proofs.Common.{refl, ◌∙◌}
use Rattle.expressions.specs.Words.{bounds_w}
use Rattle.marks.specs.Laws.Exits.{gives_on, ended_by}
use Rattle.tape.specs.Encoding.{exp_w}
use Rattle.tape.specs.Layout.{name_w}
use Rattle.marks.specs.Laws.One.{on, stop, passed}
use Rattle.rules.specs.Grammar.{bounds as bounds_at}
use Rattle.tape.specs.Written.{none}
use Rattle.expressions.proofs.bounds.Goals as goal

pub returns-in_err-first-clause-gives : goal.returns-in_err-first-clause-gives
unfolding bounds_at
returns-in_err-first-clause-gives c = gives_on none bounds_w _ _ _ _ _ c.from_residual.ensures.1 (stop _ _ _ c.in_err-first.ensures.gives)

pub returns-in_err-dots-clause-gives : goal.returns-in_err-dots-clause-gives
unfolding bounds_at
returns-in_err-dots-clause-gives c = gives_on none bounds_w _ _ _ _ _ c.from_residual-in_err-dots.ensures.1 (on _ _ _ c.in_ok-first.ensures.gives.reads ∙ stop _ _ _ (passed ".." _ _ c.in_err-dots.ensures.tells))

pub returns-clause-gives : goal.returns-clause-gives
unfolding bounds_at bounds_w
returns-clause-gives c =
    let a = c.in_ok-first.ensures.gives in
    ended_by (λ b. (a.value, b)) (exp_w name_w 0) bounds_w _ _ _ c.value-2.result (on _ _ _ a.reads ∙ on _ _ _ (passed ".." _ _ c.in_ok-dots.ensures.tells)) (λ b. refl) a.wrote c.value-2.ensures.gives
