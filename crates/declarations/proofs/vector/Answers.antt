use Rattle.declarations.specs.Parts.{vectors_on, bounds-off, close-off, of-off, kind-off, vectored-got}
use Rattle.marks.specs.Laws.One.{stop, passed}
use Rattle.rules.specs.Grammar.{vectored}
use Rattle.declarations.proofs.vector.Goals as goal

pub returns-in_err-open-clause-vectors : goal.returns-in_err-open-clause-vectors
unfolding vectored
returns-in_err-open-clause-vectors c = vectors_on _ _ _ _ _ _ _ c.from_residual.ensures.1 (stop _ _ _ (passed "(" _ _ c.in_err-open.ensures.tells))

pub returns-in_err-read-clause-vectors : goal.returns-in_err-read-clause-vectors
returns-in_err-read-clause-vectors c = vectors_on _ _ _ _ _ _ _ c.from_residual-in_err-read.ensures.1 (bounds-off _ _ (passed "(" _ _ c.in_ok-open.ensures.tells) c.in_err-read.ensures.gives)

pub returns-in_err-close-clause-vectors : goal.returns-in_err-close-clause-vectors
returns-in_err-close-clause-vectors c = vectors_on _ _ _ _ _ _ _ c.from_residual-in_err-close.ensures.1 (close-off _ _ (passed "(" _ _ c.in_ok-open.ensures.tells) c.in_ok-read.ensures.gives (passed ")" _ _ c.in_err-close.ensures.tells))

pub returns-in_err-of-clause-vectors : goal.returns-in_err-of-clause-vectors
returns-in_err-of-clause-vectors c = vectors_on _ _ _ _ _ _ _ c.from_residual-in_err-of.ensures.1 (of-off _ _ (passed "(" _ _ c.in_ok-open.ensures.tells) c.in_ok-read.ensures.gives (passed ")" _ _ c.in_ok-close.ensures.tells) (passed "OF" _ _ c.in_err-of.ensures.tells))

pub returns-in_err-wire-clause-vectors : goal.returns-in_err-wire-clause-vectors
returns-in_err-wire-clause-vectors c = vectors_on _ _ _ _ _ _ _ c.from_residual-in_err-wire.ensures.1 (kind-off _ _ (passed "(" _ _ c.in_ok-open.ensures.tells) c.in_ok-read.ensures.gives (passed ")" _ _ c.in_ok-close.ensures.tells) (passed "OF" _ _ c.in_ok-of.ensures.tells) (passed "WIRE" _ _ c.in_err-wire.ensures.tells))

pub returns-clause-vectors : goal.returns-clause-vectors
returns-clause-vectors c = vectored-got _ _ (passed "(" _ _ c.in_ok-open.ensures.tells) c.in_ok-read.ensures.gives (passed ")" _ _ c.in_ok-close.ensures.tells) (passed "OF" _ _ c.in_ok-of.ensures.tells) (passed "WIRE" _ _ c.in_ok-wire.ensures.tells)
