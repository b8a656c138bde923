-- The lists of declarations, and their words. Assumes nothing.
use Rattle.std.specs.Prelude.{◌≡◌, ℕ, suc, List, [], ◌∷◌}
use Rattle.std.proofs.Common.{arith}
use Rattle.rules.specs.Grammar.{declared, port, local}
use Rattle.rules.proofs.Laws.Enough.{enough}
use Rattle.tape.specs.Layout.{name_w, VAR}
use Rattle.tape.specs.Encoding.{list_w, decl_w, generic_w}
use Rattle.tape.specs.Written.{none}
use Rattle.marks.specs.Laws.Lists.{Row, list-empty, list-split}
use Rattle.lists.specs.Items.{from}

pub grows : {A : Type 0} (k : ℕ) (a : A) (b : List A) → from (suc k) b ≡ from k (a ∷ b)
grows k a b = omega arith

pub generics-row : (s : List ℕ) → Row s none generic_w from (list_w generic_w) [] ◌∷◌ (λ k _. declared s k) "," ")"
generics-row s = record { empty = list-empty _; split = list-split _; grows = grows; again = (enough s).generic-names }

pub ports-row : (s : List ℕ) (k : ℕ) → Row s none (decl_w name_w k) from (list_w (decl_w name_w k)) [] ◌∷◌ (port s) "," "]"
ports-row s k = record { empty = list-empty _; split = list-split _; grows = grows; again = (enough s).port-lists }

pub locals-row : (s : List ℕ) → Row s none (decl_w name_w VAR) from (list_w (decl_w name_w VAR)) [] ◌∷◌ (local s) "VAR" "BEGIN"
locals-row s = record { empty = list-empty _; split = list-split _; grows = grows; again = (enough s).variables }
