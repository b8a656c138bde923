-- Which refusals unfolding gives: of a text whose names are resolved, 10 to 18. So each number of 01's table comes from its own layer,
-- and a success is known by its number, 0. Assumes nothing.
use Rattle.std.specs.Prelude.{◌≡◌, refl, ℕ, zero, suc, ◌<◌, length, replicate, ℤ, pos, negsuc}
use Rattle.std.proofs.Common.{sym, ap, ◌∙◌, arith}
use Rattle.std.proofs.Math.Path.{subst}
use mathlib.Core.List.{List, [], ◌∷◌, ◌++◌, map}
use Rattle.std.proofs.Math.IntN.{suc_ℤ}
use Rattle.rules.specs.Outcome.{Out, ok, refuse, ◌>>=◌, at, nth}
use Rattle.rules.specs.Primitives.{inputs_of}
use Rattle.rules.specs.Syntax.{Exp, number, name, neg, group, both, Sort, wire, vector, num, Arg, whole, part, Stmts, end, call, loop, Decl, Block, Callee, Program}
use Rattle.rules.specs.Names.{Role, a-wire}
use Rattle.rules.specs.Values.{Env, ranged, eval, evals, width, shape}
use Rattle.rules.specs.Frames.{Frame, offset, resolve, resolves, tie}
use Rattle.rules.specs.Unfold.{Range, Wires, State, tick, declare, emit, Act, add_gate, act, turns, unfolds, enter, deep, Unfolded, unfold_main}
use Rattle.rules.specs.Flatten.{program, flattened, answer, flatten}
use Rattle.rules.proofs.Laws.Outcomes.{no_ok, ok-inj, inv, at_ok}
use Rattle.rules.proofs.Laws.Within.{Within, fine, no, wider, within-then, within-next, within-at, within-need, grammar-within, names-within}
use Rattle.rules.proofs.Laws.Suits.{Suits, suits-nth, Sized, resolves-sized, ends-fit, entered-suits, main-suits}
use Rattle.rules.proofs.Laws.Scoped.{roles, ports_of, names_of, ArgOk, ArgsOk, Wanted, by-gate, by-block, StmtsOk, BlocksOk, Scoped, names-scoped}

abbrev Unfolding : {A : Type 0} → Out A → Type 0
Unfolding o = Within 10 18 o

-- ---- values

ranged-within : (v : ℤ) → Unfolding (ranged v)
unfolding ranged
ranged-within v = within-then (within-need _ 10 (omega arith) (omega arith)) λ _. fine

eval-within : (ρ : Env) (e : Exp ℕ) → Unfolding (eval ρ e)
unfolding eval
eval-within ρ (number n) = ranged-within _
eval-within ρ (name i) = ranged-within _
eval-within ρ (neg e) = within-then (eval-within ρ e) λ x. ranged-within _
eval-within ρ (group e) = eval-within ρ e
eval-within ρ (both op d e) = within-then (eval-within ρ d) λ x. within-then (eval-within ρ e) λ y. ranged-within _

evals-within : (ρ : Env) (es : List (Exp ℕ)) → Unfolding (evals ρ es)
unfolding evals
evals-within ρ [] = fine
evals-within ρ (e ∷ es) = within-then (eval-within ρ e) λ v. within-then (evals-within ρ es) λ vs. fine

width-within : (d : ℤ) → Unfolding (width d)
unfolding width
width-within (pos k) = within-then (within-need _ 11 (omega arith) (omega arith)) λ _. fine
width-within (negsuc k) = no {n = 11} (omega arith) (omega arith)

shape-within : (ρ : Env) (t : Sort ℕ) → Unfolding (shape ρ t)
unfolding shape
shape-within ρ wire = fine
shape-within ρ (vector a b) = within-then (eval-within ρ a) λ x. within-then (eval-within ρ b) λ y. within-then (width-within _) λ n. fine
shape-within ρ num = fine

offset-within : (d : ℤ) → Unfolding (offset d)
unfolding offset
offset-within (pos k) = fine
offset-within (negsuc k) = no {n = 12} (omega arith) (omega arith)

is-there : {A B : Type 0} {o : Out A} {a : A} (f : A → Out B) → o ≡ ok a → Unfolding (f a) → Unfolding (o >>= f)
unfolding ◌>>=◌
is-there f e w = rw e w

module _ (ρ : Env) (σ : Frame Range) (E : List Role) (suits : Suits σ E) where
  resolve-within : (w : Role) (a : Arg ℕ) → ArgOk E w a → Unfolding (resolve Wires ρ σ a)
  unfolding resolve ArgOk
  resolve-within w (whole k) h = is-there _ (suits-nth σ E k suits h.0).1 fine
  resolve-within w (part k e) h =
      is-there _ (suits-nth σ E k suits h).1
      (within-then (eval-within ρ e) λ v. within-then (offset-within _) λ i. within-then (within-need _ 12 (omega arith) (omega arith)) λ _. fine)

  resolves-within : (ws : List Role) (args : List (Arg ℕ)) → ArgsOk E ws args → Unfolding (resolves Wires ρ σ args)
  unfolding resolves ArgsOk
  resolves-within [] [] h = fine
  resolves-within [] (a ∷ args) h = absurd h
  resolves-within (w ∷ ws) [] h = absurd h
  resolves-within (w ∷ ws) (a ∷ args) h = within-then (resolve-within w a h.0) λ c. within-then (resolves-within ws args h.1) λ cs. fine

-- ---- ports and locals

done_at : (p : ℕ) → at {A = Unit {0}} p (ok tt) ≡ ok tt
unfolding at
done_at p = refl

tie-within : (ρ : Env) (ds : List (Decl ℕ)) (rs : List Range) → Sized (roles ds) rs → Unfolding (tie Wires ρ ds rs)
unfolding tie Sized
tie-within ρ [] [] z = fine
tie-within ρ [] (r ∷ rs) z = absurd z
tie-within ρ (d ∷ ds) [] z = absurd z
tie-within ρ (d ∷ ds) (r ∷ rs) z = within-then (shape-within ρ d.sort) λ h. within-then (within-need _ 13 (omega arith) (omega arith)) λ _. within-then (tie-within ρ ds rs z.1) λ r. fine

declare-within : (ρ : Env) (ds : List (Decl ℕ)) (σ : Frame Range) (s : State) → Unfolding (declare ρ ds σ s)
unfolding declare
declare-within ρ [] σ s = fine
declare-within ρ (d ∷ ds) σ s =
    within-then (within-at d.name.place (shape-within ρ d.sort)) λ h. within-then (within-at d.name.place (within-need _ 16 (omega arith) (omega arith))) λ _. declare-within ρ ds _ _

-- ---- calls

tick-within : (s : State) → Unfolding (tick s)
unfolding tick
tick-within s = within-then (within-need _ 15 (omega arith) (omega arith)) λ _. fine

-- what a call does, on wires that suit what it wants
abbrev Acts : List Role → Act → Type 0
Acts ws go = (p : ℕ) (vs : List ℤ) (rs : List Range) (s : State) → Sized ws rs → Unfolding (go p vs rs s)

gate-within : (nin k : ℕ) → k < 10 → Acts (replicate (suc (inputs_of k)) a-wire) (add_gate nin k)
unfolding add_gate emit
gate-within nin k h p vs rs s z =
    is-there _ (ap (at p) (ends-fit k rs h z) ∙ done_at p)
    (within-at p (within-then (within-need _ 17 (omega arith) (omega arith)) λ _. within-then (within-need _ 18 (omega arith) (omega arith)) λ _. fine))

turns-within : (p : ℕ) (f : ℤ → State → Out State) → ((v : ℤ) (s : State) → Unfolding (f v s)) → (v : ℤ) (n : ℕ) (s : State) → Unfolding (turns p f v n s)
unfolding turns
turns-within p f g v zero s = fine
turns-within p f g v (suc n) s = within-then (within-at p (tick-within s)) λ s. within-then (g v s) λ s. turns-within p f g (suc_ℤ v) n s

-- what may be done is within, and so is what it then does
record Deeper (ws : List Role) (o : Out Act) : Type 0 where
  may : Unfolding o
  does : (go : Act) → o ≡ ok go → Acts ws go

module _ (nin : ℕ) (deeper : ℕ → Out Act) (sigs : List (List Role)) (below : (b : ℕ) (ws : List Role) → nth 7 sigs b ≡ ok ws → Deeper ws (deeper b)) where
  act-within : {c : Callee} {ws : List Role} → Wanted sigs c ws → Deeper ws (act nin deeper c)
  unfolding act
  act-within (by-gate {k} h) = record { may = fine; does = λ go e. subst (Acts (replicate (suc (inputs_of k)) a-wire)) (ok-inj e) (gate-within nin k h) }
  act-within (by-block {b} {ws} e) = below b ws e

  unfolds-within : (E : List Role) (c : Stmts ℕ Callee) → StmtsOk sigs E c → (ρ : Env) (σ : Frame Range) (s : State) → Suits σ E → Unfolding (unfolds nin deeper c ρ σ s)
  unfolding unfolds StmtsOk
  unfolds-within E end h ρ σ s u = fine
  unfolds-within E (call p c gs ins outs rest) h ρ σ s u =
      let (ws, w, a) = h.0 in
      let d = act-within w in
      within-then (within-at p (tick-within s)) λ s.
      within-next (within-at p d.may) λ go eg.
      within-then (within-at p (evals-within ρ gs)) λ vs.
      within-next (within-at p (resolves-within ρ σ E u ws (ins ++ outs) a)) λ rs er.
      within-then (d.does go (at_ok p _ eg) p vs rs s (resolves-sized ρ σ E u ws (ins ++ outs) a (at_ok p _ er))) λ s.
      unfolds-within E rest h.1 ρ σ s u
  unfolds-within E (loop p i a b body rest) h ρ σ s u =
      within-then (within-at p (tick-within s)) λ s. within-then (within-at p (eval-within ρ a)) λ x. within-then (within-at p (eval-within ρ b)) λ y.
      within-then (turns-within p _ (λ v t. unfolds-within E body h.0 _ σ t u) _ _ s) λ s. unfolds-within E rest h.1 ρ σ s u

  enter-within : (B : Block ℕ Callee) → StmtsOk sigs (names_of B) B.body → Acts (ports_of B) (enter nin deeper B)
  unfolding enter
  enter-within B scoped p vs rs s z =
      within-next (within-at p (tie-within _ (B.inputs ++ B.outputs) rs z)) λ τ et.
      within-next (within-at p (declare-within _ B.locals _ _)) λ r er.
      unfolds-within (names_of B) B.body scoped _ _ _
      (entered-suits _ B rs s (at_ok p _ et) (at_ok p _ er))

pub nth-both : (sigs : List (List Role)) (Bs : List (Block ℕ Callee)) (b : ℕ) {ws : List Role} → BlocksOk sigs Bs → nth 7 (map ports_of Bs) b ≡ ok ws
    → (B : Block ℕ Callee) × (nth 7 Bs b ≡ ok B) × (ports_of B ≡ ws) × StmtsOk sigs (names_of B) B.body
unfolding nth BlocksOk
nth-both sigs [] b h e = absurd (no_ok e)
nth-both sigs (B ∷ Bs) zero h e = (B, refl, ok-inj e, h.0)
nth-both sigs (B ∷ Bs) (suc b) h e = nth-both sigs Bs b h.1 e

deep-within : (nin : ℕ) (P : Program) → Scoped P → (d b : ℕ) (ws : List Role) → nth 7 (map ports_of P.blocks) b ≡ ok ws → Deeper ws (deep nin P d b)
unfolding deep
deep-within nin P scoped zero b ws e = record { may = no {n = 14} (omega arith) (omega arith); does = λ go e. absurd (no_ok e) }
deep-within nin P scoped (suc d) b ws e =
    let (B, e_b, ports, body) = nth-both (map ports_of P.blocks) P.blocks b scoped.blocks e in
    record {
      may = is-there _ e_b fine;
      does = λ go eg. inv _ _ eg λ B' e_b' f.
          subst (Acts ws) (ok-inj f)
          (subst (λ B. Acts ws (enter nin (deep nin P d) B)) (ok-inj (sym e_b ∙ e_b'))
          (subst (λ ws. Acts ws (enter nin (deep nin P d) B)) ports (enter-within nin (deep nin P d) (map ports_of P.blocks) (deep-within nin P scoped d) B body)));
    }

pub nth-there : (sigs : List (List Role)) (Bs : List (Block ℕ Callee)) (n b : ℕ) → BlocksOk sigs Bs → b < length Bs → (B : Block ℕ Callee) × (nth n Bs b ≡ ok B) × StmtsOk sigs (names_of B) B.body
unfolding nth BlocksOk
nth-there sigs [] n b h l = absurd (omega arith)
nth-there sigs (B ∷ Bs) n zero h l = (B, refl, h.0)
nth-there sigs (B ∷ Bs) n (suc b) h l = nth-there sigs Bs n b h.1 (omega arith)

pub unfold-within : (P : Program) → Scoped P → Within 10 18 (unfold_main P)
unfolding unfold_main
unfold-within P scoped =
    let (M, e_m, body) = nth-there (map ports_of P.blocks) P.blocks 9 P.main scoped.blocks scoped.main in
    is-there _ e_m
    (within-next (declare-within _ M.inputs _ _) λ i ei. within-next (declare-within _ M.outputs _ _) λ o eo. within-next (declare-within _ M.locals _ _) λ l el.
    within-then (unfolds-within _ _ (map ports_of P.blocks) (deep-within _ P scoped 15) (names_of M) M.body body _ _ _
    (main-suits _ M _ ei eo el)) λ s. fine)

-- ---- flattening

-- 3 to 5 in reading, 6 to 9 in names
pub program-within : (text : List ℕ) → Within 3 9 (program text)
unfolding program
program-within text = within-then (wider (omega arith) (omega arith) (grammar-within text)) λ S. wider (omega arith) (omega arith) (names-within (length text) S)

-- then 10 to 18
pub text-within : (text : List ℕ) (P : Program) → program text ≡ ok P → Within 10 18 (unfold_main P)
unfolding program
text-within text P e = inv _ _ e λ S _ e_p. unfold-within P (names-scoped (length text) S P e_p)

pub flattened-within : (text : List ℕ) (work net : ℕ) → Within 1 18 (flattened text work net)
unfolding flattened
flattened-within text work net =
    within-then (within-need _ 1 (omega arith) (omega arith)) λ _. within-then (within-need _ 2 (omega arith) (omega arith)) λ _.
    within-next (wider (omega arith) (omega arith) (program-within text)) λ P e. wider (omega arith) (omega arith) (text-within text P e)

done-is : (net : ℕ) (o : Out Unfolded) → Within 1 18 o → (answer net o).number ≡ 0 → (u : Unfolded) × (o ≡ ok u)
unfolding answer
done-is net (ok u) (fine) e = (u, refl)
done-is net (refuse n p) (no a b) e = absurd (omega arith)

-- the answer 0 is a success
pub done : (text : List ℕ) (work net : ℕ) → (flatten text work net).number ≡ 0 → (u : Unfolded) × (flattened text work net ≡ ok u)
unfolding flatten
done text work net e = done-is net (flattened text work net) (flattened-within text work net) e
