-- What reading a text leaves is what resolving its names takes. Assumes nothing.
use Rattle.std.specs.Prelude.{◌≡◌, ℕ, ◌≤◌, List, length, drop}
use Rattle.std.proofs.Common.{sym, subst, arith, leb→le}
use Rattle.rules.specs.Outcome.{ok}
use Rattle.rules.specs.Syntax.{Spelled}
use Rattle.rules.specs.Grammar.{grammar}
use Rattle.rules.proofs.Laws.Outcomes.{inv, need-yes}
use Rattle.rules.proofs.Laws.Numbered.{spelled-text}
use Rattle.tape.specs.Encoding.{tape_of}
use Rattle.tape.specs.Lies.{Lies, lies-front}
use Rattle.sweep.specs.Resolves.{Holds}
use Rattle.grammar.specs.Promise.{read_text, Stands}

-- a text that is read is not too long, and the grammar reads it
read-so : {X : Type 0} (text : List ℕ) (table : ℕ) {Bs : Spelled} → read_text text table ≡ ok Bs → (length text ≤ 16384 → grammar text ≡ ok Bs → X) → X
unfolding read_text
read-so text table e f = inv _ _ e λ _ _ e₁. inv _ _ e₁ λ _ l e₂. f (leb→le _ _ (need-yes _ _ l)) e₂

pub handed : (text before after : List ℕ) (n m c : ℕ) (S : Stands text before n m c after) → Holds text after m S.program
handed text before after n m c S =
    read-so text (length before) S.reads λ few e.
    let spelt = spelled-text text S.program e in
    record {
      lies = subst (λ t. Lies t 0 (tape_of S.program)) (sym S.table) (lies-front (tape_of S.program) (drop m before));
      size = S.words;
      short = omega (arith, S.half);
      spelt = spelt.0;
      many = spelt.1;
      few = few;
    }
