use Rattle.std.proofs.Common.{arith, ◌∙◌}
use Rattle.marks.specs.Laws.One.{on, stop, passed}
use Rattle.rules.specs.Grammar.{looping}
use Rattle.statements.specs.Heads.{headed, heads_on}
use Rattle.statements.proofs.loop_head.Goals as goal

pub returns-in_err-each-clause-heads : goal.returns-in_err-each-clause-heads
unfolding looping
returns-in_err-each-clause-heads c = heads_on _ _ _ _ _ _ _ _ c.from_residual.ensures.1 (λ inside. stop _ _ _ (passed "FOR" _ _ c.in_err-each.ensures.tells))

pub returns-in_err-index-clause-heads : goal.returns-in_err-index-clause-heads
unfolding looping
returns-in_err-index-clause-heads c =
    heads_on _ _ _ _ _ _ _ _ c.from_residual-in_err-index.ensures.1 (λ inside. on _ _ _ (passed "FOR" _ _ c.in_ok-each.ensures.tells) ∙ stop _ _ _ c.in_err-index.ensures.tells)

pub returns-in_err-equals-clause-heads : goal.returns-in_err-equals-clause-heads
unfolding looping
returns-in_err-equals-clause-heads c =
    heads_on _ _ _ _ _ _ _ _ c.from_residual-in_err-equals.ensures.1
    (λ inside. on _ _ _ (passed "FOR" _ _ c.in_ok-each.ensures.tells) ∙ on _ _ _ c.in_ok-index.ensures.tells ∙ stop _ _ _ (passed "=" _ _ c.in_err-equals.ensures.tells))

pub returns-in_err-bounds-clause-heads : goal.returns-in_err-bounds-clause-heads
unfolding looping
returns-in_err-bounds-clause-heads c =
    heads_on _ _ _ _ _ _ _ _ c.from_residual-in_err-bounds.ensures.1
    (λ inside. on _ _ _ (passed "FOR" _ _ c.in_ok-each.ensures.tells) ∙ on _ _ _ c.in_ok-index.ensures.tells ∙ on _ _ _ (passed "=" _ _ c.in_ok-equals.ensures.tells) ∙ stop _ _ _ c.in_err-bounds.ensures.gives)

pub returns-in_err-begin-clause-heads : goal.returns-in_err-begin-clause-heads
unfolding looping
returns-in_err-begin-clause-heads c =
    heads_on _ _ _ _ _ _ _ _ c.from_residual-in_err-begin.ensures.1
    (λ inside. on _ _ _ (passed "FOR" _ _ c.in_ok-each.ensures.tells) ∙ on _ _ _ c.in_ok-index.ensures.tells ∙ on _ _ _ (passed "=" _ _ c.in_ok-equals.ensures.tells) ∙ on _ _ _ c.in_ok-bounds.ensures.gives.reads
    ∙ stop _ _ _ (passed "BEGIN" _ _ c.in_err-begin.ensures.tells))

pub returns-clause-heads : goal.returns-clause-heads
returns-clause-heads c =
    let i = c.in_ok-index.ensures in
    headed (passed "FOR" _ _ c.in_ok-each.ensures.tells) i.tells (omega arith) (passed "=" _ _ c.in_ok-equals.ensures.tells) c.store.ensures c.store_name.ensures c.in_ok-bounds.ensures.gives (passed "BEGIN" _ _ c.in_ok-begin.ensures.tells)
