-- A block up to its BEGIN. Assumes nothing.
use Rattle.std.specs.Prelude.{◌≡◌, ℕ, Result, Ok, Err, IsErrAnd, List, ◌∷◌, ◌++◌}
use Rattle.std.proofs.lemmas.Result.{err_from_is_err_and}
use Rattle.rules.specs.Outcome.{refuse}
use Rattle.rules.specs.Syntax.{Name, Decl}
use Rattle.rules.specs.Readers.{◌>>=◌, give, mark}
use Rattle.rules.specs.Grammar.{body, a_block}
use Rattle.tape.specs.Layout.{pack, BLOCK, IN, OUT, VAR, name_w}
use Rattle.tape.specs.Encoding.{list_w, decl_w, generic_w}
use Rattle.tape.specs.Written.{Wrote}
use Rattle.tape.specs.declared.Read.{Read}
use Rattle.rules.specs.Reasons.{number}
use Rattle.rules.specs.declared.Refusal.{Refusal}
use Rattle.marks.specs.Laws.Exits.{Refused}

-- it was read up to n, so that the block is what its body makes of it
pub record Titled (s : List ℕ) (at : ℕ) (t : List ℕ) (to : ℕ) (u : List ℕ) (n m : ℕ) : Type 0 where
  pub called : Name
  pub generics : List Name
  pub inputs : List (Decl Name)
  pub outputs : List (Decl Name)
  pub locals : List (Decl Name)
  pub goes : a_block s 0 0 at ≡ (body s >>= λ b. mark s ";" >>= λ _. give (record { name = called; generics = generics; inputs = inputs; outputs = outputs; locals = locals; body = b })) n
  pub wrote : Wrote t to (pack BLOCK 0 (name_w called) ∷ (list_w generic_w generics ++ (list_w (decl_w name_w IN) inputs ++ (list_w (decl_w name_w OUT) outputs ++ list_w (decl_w name_w VAR) locals)))) u m

abbrev pub Titles : List ℕ → ℕ → List ℕ → ℕ → List ℕ → Result Read Refusal → Type 0
Titles s at t to u (Ok r) = Titled s at t to u r.next r.end
Titles s at t to u (Err e) = a_block s 0 0 at ≡ refuse (number e.reason) e.place

-- the exit of a `?`: the refusal of a part is that of the whole
pub titles_on : (s : List ℕ) (at : ℕ) (t : List ℕ) (to : ℕ) (u : List ℕ) (r : Result Read Refusal) (e : Refusal) → IsErrAnd r (λ y. y ≡ e) → Refused (a_block s 0 0 at) e → Titles s at t to u r
titles_on s at t to u r e h g = let p = err_from_is_err_and r h in rw (p.1, p.2) g
