-- How the code comes to its answer, layer by layer. Assumes nothing.
use Rattle.std.specs.Prelude.{◌≡◌, refl, ℕ, ◌≤◌, ◌<◌, Bool, true, false, ◌&&◌, List, length, leb, Result, Ok, Err}
use Rattle.std.proofs.Common.{sym, ap, ◌∙◌, subst, le-leb}
use Rattle.std.proofs.lemmas.Bool.{lt-leb, false≢true}
use Rattle.std.specs.Result.{is_err}
use Rattle.rules.specs.Text.{zeros}
use Rattle.rules.specs.Outcome.{Out, ok, refuse, ◌>>=◌, need}
use Rattle.rules.specs.Syntax.{Spelled, Program}
use Rattle.rules.specs.Reasons.{number}
use Rattle.rules.specs.declared.Refusal.{Refusal}
use Rattle.rules.specs.Grammar.{grammar}
use Rattle.rules.specs.Resolve.{names}
use Rattle.rules.specs.Unfold.{Unfolded, unfold_main}
use Rattle.rules.specs.Flatten.{program, flattened, answer, flatten}
use Rattle.rules.proofs.Laws.Outcomes.{inv}
use Rattle.tape.specs.declared.Read.{Read}
use Rattle.grammar.specs.Promise.{read_text, Reads}
use Rattle.sweep.specs.Resolves.{Holds, Resolves}
use Rattle.names.specs.Handed.{handed}
use Rattle.places.specs.Held.{Held}
use Rattle.places.specs.Handed.{held}
use Rattle.unfolding.specs.Nets.{Nets, MainHeld}
use Rattle.flatten.specs.Promise.{told, seen}

-- of a text that was read: its names, then its unfolding
abbrev pub after-reading : List ℕ → Spelled → Out Unfolded
after-reading s Bs = names (length s) Bs >>= unfold_main

-- a text was read onto the first `end` words of the table
pub record WasRead (s t : List ℕ) (end : ℕ) : Type 0 where
  pub program : Spelled
  pub reads : grammar s ≡ ok program
  pub holds : Holds s t end program

-- ---- answers

pub refused-is : {o : Out Unfolded} (e : Refusal) (len : ℕ) {words : List ℕ} → words ≡ zeros len → o ≡ refuse (number e.reason) e.place → seen (told (Err e)) words ≡ answer len o
unfolding answer
refused-is d len w e = rw (e, w)

-- what the unfolding left, where it came to an end
pub done-is : (o : Out Unfolded) (r : Result ℕ Refusal) (len : ℕ) (words : List ℕ) → is_err r ≡ false → Nets o len r words → seen (told r) words ≡ answer len o
unfolding answer Nets
done-is o (Ok n) len words e (u, is, steps, all) = rw (is, steps, all)
done-is o (Err d) len words e a = absurd (false≢true (sym e))

-- and where it was refused, and then its words are cleared
pub no-is : (o : Out Unfolded) (r : Result ℕ Refusal) (len : ℕ) (words : List ℕ) {cleared : List ℕ} → is_err r ≡ true → Nets o len r words → cleared ≡ zeros len → seen (told r) cleared ≡ answer len o
unfolding Nets
no-is o (Ok n) len words e a z = absurd (false≢true e)
no-is o (Err d) len words e a z = refused-is {o = o} d len z a

pub not_is : {o : Out Unfolded} {r : Result ℕ Refusal} {d : Refusal} (len : ℕ) (words : List ℕ) → r ≡ Err d → Nets o len r words → o ≡ refuse (number d.reason) d.place
unfolding Nets
not_is {o} len words e a = subst (λ r. Nets o len r words) e a

-- ---- names

pub named-wrong : (s : List ℕ) (Bs : Spelled) (t u : List ℕ) {r : Result ℕ Refusal} {d : Refusal} → r ≡ Err d → Resolves s Bs t u r → (names (length s) Bs >>= unfold_main) ≡ refuse (number d.reason) d.place
unfolding ◌>>=◌
named-wrong s Bs t u {d = d} e a = let h : names (length s) Bs ≡ refuse (number d.reason) d.place = subst (Resolves s Bs t u) e a in rw h

-- the names are right: the resolved program lies on the table
pub record Named-right (s : List ℕ) (Bs : Spelled) (u : List ℕ) (end m : ℕ) : Type 0 where
  pub program : Program
  pub held : Held s u end program
  pub main : program.main ≡ m
  pub is : (names (length s) Bs >>= unfold_main) ≡ unfold_main program

pub named-right : {s : List ℕ} {Bs : Spelled} {t : List ℕ} (u : List ℕ) {r : Result ℕ Refusal} {end m : ℕ} → r ≡ Ok m → grammar s ≡ ok Bs → Holds s t end Bs → Resolves s Bs t u r → Named-right s Bs u end m
unfolding ◌>>=◌
named-right {s} {Bs} {t} u e g h a =
    let x = subst (Resolves s Bs t u) e a in
    record { program = x.program; held = held h x g; main = x.main; is = rw x.named }

pub main-held : {s : List ℕ} {Bs : Spelled} {u : List ℕ} {end m : ℕ} → Named-right s Bs u end m → MainHeld u end m
main-held {s} n = record { text = s; program = n.program; held = n.held; is = n.main }

-- ---- lengths, then the text

pub net-short : (text : List ℕ) (work net : ℕ) → net < 5124 → flattened text work net ≡ refuse 1 0
unfolding flattened need ◌>>=◌
net-short text work net h = rw (lt-leb 5124 net h) (go (leb 16384 work))
  where
    go : (b : Bool) → (need (b && false) 1 >>= λ _. need (leb (length text) 16384) 2 >>= λ _. program text >>= unfold_main) ≡ refuse 1 0
    go true = refl
    go false = refl

layers : (b c : Bool) (g : Out Spelled) (N : Spelled → Out Program) (U : Program → Out Unfolded)
    → (need (b && true) 1 >>= λ _. need c 2 >>= λ _. (g >>= N) >>= U) ≡ ((need b 1 >>= λ _. need c 2 >>= λ _. g) >>= λ Bs. N Bs >>= U)
unfolding need ◌>>=◌
layers true true (ok Bs) N U = refl
layers true true (refuse n p) N U = refl
layers true false g N U = refl
layers false c g N U = refl

net-enough : (text : List ℕ) (work net : ℕ) → 5124 ≤ net → flattened text work net ≡ (read_text text work >>= λ Bs. names (length text) Bs >>= unfold_main)
unfolding flattened program read_text
net-enough text work net h = rw (le-leb 5124 net h) (layers (leb 16384 work) (leb (length text) 16384) (grammar text) (names (length text)) unfold_main)

pub read_no : (text before after : List ℕ) {r : Result Read Refusal} {d : Refusal} (net : ℕ) → 5124 ≤ net → r ≡ Err d → Reads text before r after → flattened text (length before) net ≡ refuse (number d.reason) d.place
unfolding ◌>>=◌
read_no text before after net h e a =
    let x = subst (λ r. Reads text before r after) e a in
    net-enough text (length before) net h ∙ rw x.0

-- the text was read onto the table
pub record Read-right (text before after : List ℕ) (end : ℕ) : Type 0 where
  pub program : Spelled
  pub reads : grammar text ≡ ok program
  pub holds : Holds text after end program
  pub is : (net : ℕ) → 5124 ≤ net → flattened text (length before) net ≡ (names (length text) program >>= unfold_main)

read-grammar : (text : List ℕ) (table : ℕ) {Bs : Spelled} → read_text text table ≡ ok Bs → grammar text ≡ ok Bs
unfolding read_text
read-grammar text table e = inv _ _ e λ _ _ e₁. inv _ _ e₁ λ _ _ e₂. e₂

pub read_right : (text before after : List ℕ) {r : Result Read Refusal} {d : Read} → r ≡ Ok d → Reads text before r after → Read-right text before after d.end
unfolding ◌>>=◌
read_right text before after {d = d} e a =
    let s = subst (λ r. Reads text before r after) e a in
    record {
      program = s.program;
      reads = read-grammar text (length before) s.reads;
      holds = handed text before after d.next d.end d.names s;
      is = λ net h. net-enough text (length before) net h ∙ rw s.reads;
    }

pub was_read : {text before after : List ℕ} {end : ℕ} → Read-right text before after end → WasRead text after end
was_read r = record { program = r.program; reads = r.reads; holds = r.holds }

-- the whole
pub flatten-is : (r : Result ℕ Refusal) (text words : List ℕ) (work net : ℕ) {o : Out Unfolded} → flattened text work net ≡ o → seen (told r) words ≡ answer net o → seen (told r) words ≡ flatten text work net
unfolding flatten
flatten-is r text words work net e a = a ∙ ap (answer net) (sym e)

-- refused, and the netlist holds zeros
pub refused-so : (d : Refusal) (text words : List ℕ) (work net : ℕ) → words ≡ zeros net → flattened text work net ≡ refuse (number d.reason) d.place → seen (told (Err d)) words ≡ flatten text work net
refused-so d text words work net z e = flatten-is (Err d) text words work net e (refused-is d net z refl)
