-- The exit of a `?`, where the refusal of a part is that of the whole; and a last part. Assumes nothing.
use Rattle.std.specs.Prelude.{◌≡◌, ℕ, Result, Ok, Err, IsErrAnd, List, ◌++◌}
use Rattle.std.proofs.Common.{sym, ◌∙◌}
use Rattle.std.proofs.lemmas.Result.{err_from_is_err_and}
use Rattle.rules.specs.Outcome.{Out, refuse, ◌>>=◌ as ◌and-then◌}
use Rattle.rules.specs.Readers.{Reader, ◌>>=◌, give}
use Rattle.rules.specs.Reasons.{number}
use Rattle.rules.specs.declared.Refusal.{Refusal}
use Rattle.tape.specs.declared.Read.{Read}
use Rattle.tape.specs.Written.{Wrote, Gives, none, later, as-words}
use Rattle.marks.specs.declared.Spot.{Spot}
use Rattle.marks.specs.Marks.{Tells}

-- the rules refuse, for the reason and at the place of e
abbrev pub Refused : {A : Type 0} → Out (A × ℕ) → Refusal → Type 0
Refused o e = o ≡ refuse (number e.reason) e.place

pub gives_on : {A : Type 0} (size : A → ℕ) (words : A → List ℕ) {o : Out (A × ℕ)} (t : List ℕ) (to : ℕ) (u : List ℕ) (r : Result Read Refusal) (e : Refusal) → IsErrAnd r (λ y. y ≡ e) → Refused o e → Gives size words o t to u r
gives_on size words t to u r e h g = let p = err_from_is_err_and r h in rw (p.1, p.2) g

pub tells_on : {A : Type 0} (make : ℕ → ℕ → A) {o : Out (A × ℕ)} (r : Result Spot Refusal) (e : Refusal) → IsErrAnd r (λ y. y ≡ e) → Refused o e → Tells make o r
tells_on make r e h g = let p = err_from_is_err_and r h in rw (p.1, p.2) g

-- the last part, whose value and words complete those that stand before it
pub ended_by : {A B : Type 0} (f : A → B) (words : A → List ℕ) (words' : B → List ℕ) (m : Reader A) (x : ℕ) {o : Out (B × ℕ)} {t : List ℕ} {to : ℕ} {ws u : List ℕ} {z : ℕ} (v : List ℕ) (r : Result Read Refusal) → o ≡ (m >>= λ a. give (f a)) x
    → ((a : A) → words' (f a) ≡ ws ++ words a) → Wrote t to ws u z → Gives none words (m x) u z v r → Gives none words' o t to v r
unfolding ◌>>=◌ ◌and-then◌ give
ended_by f words words' m x v (Ok r) e w h g = record { value = f g.value; reads = e ∙ rw g.reads; wrote = as-words (sym (w g.value)) (later h g.wrote); counts = g.counts }
ended_by f words words' m x v (Err r) e w h g = e ∙ rw g
