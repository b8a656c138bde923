-- The lists of statements, and their words. Assumes nothing.
use Rattle.std.specs.Prelude.{◌≡◌, refl, ℕ, List, [], ◌∷◌, ◌++◌}
use Rattle.std.proofs.Common.{append_assoc}
use Rattle.rules.specs.Syntax.{end, call, loop, before}
use Rattle.rules.specs.Grammar.{Body, expression, argument, statement}
use Rattle.rules.proofs.Laws.Enough.{enough}
use Rattle.tape.specs.Layout.{name_w}
use Rattle.tape.specs.Encoding.{exp_w, arg_w, list_w, stmts_w, callee_w}
use Rattle.tape.specs.Written.{none}
use Rattle.marks.specs.Laws.Lists.{Row, list-empty, list-split}

pub arguments-row : (s : List ℕ) (k : ℕ) → Row s none (arg_w name_w k) (λ _. none) (list_w (arg_w name_w k)) [] ◌∷◌ (λ _ _. argument s) "," "]"
arguments-row s k = record { empty = list-empty _; split = list-split _; grows = λ k a b. refl; again = (enough s).argument-lists }

pub values-row : (s : List ℕ) → Row s none (exp_w name_w 0) (λ _. none) (list_w (exp_w name_w 0)) [] ◌∷◌ (λ _ _. expression s) "," ")"
values-row s = record { empty = list-empty _; split = list-split _; grows = λ k a b. refl; again = (enough s).generic-values }

before_split : (a b : Body) → stmts_w name_w callee_w a ++ stmts_w name_w callee_w b ≡ stmts_w name_w callee_w (before a b)
unfolding stmts_w before
before_split end b = refl
before_split (call p c gs ins outs r) b = simp (append_assoc, before_split r b)
before_split (loop p i x y body r) b = simp (append_assoc, before_split r b)

pub end_empty : stmts_w name_w callee_w end ≡ []
unfolding stmts_w
end_empty = refl

pub statements-row : (s : List ℕ) (left : ℕ) → Row s none (stmts_w name_w callee_w) (λ _. none) (stmts_w name_w callee_w) end before (λ _ _. statement s left) ";" "END"
statements-row s left = record { empty = end_empty; split = before_split; grows = λ k a b. refl; again = (enough s).bodies left }
