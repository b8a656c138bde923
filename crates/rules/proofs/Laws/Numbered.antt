-- A resolved text: every name is the number of a declaration, below 48, every callee a primitive or a block there is, and the rest is as the
-- text spells it. Assumes nothing.
use Rattle.std.specs.Prelude.{◌≡◌, refl, length}
use Rattle.std.proofs.Common.{arith}
use Rattle.std.proofs.Math.Path.{ap, subst}
use Prim.Native.Nat.{ℕ, suc, ◌+◌, ◌≤◌, ◌<◌}
use Rattle.std.proofs.Math.Logic.{⊎_elim}
use mathlib.Core.List.{List, [], ◌∷◌, ◌++◌, map}
use Rattle.std.proofs.Math.ListN.{length-append}
use Rattle.std.proofs.lemmas.List.{length-map}
use Rattle.std.proofs.Math.Dec.{ltb→lt}
use Rattle.rules.specs.Outcome.{ok}
use Rattle.rules.specs.Syntax.{Name, Exp, number, name, neg, group, both, Sort, wire, vector, num, Arg, whole, part, Stmts, end, call, loop, Decl, Block, Spelled, Callee, gate, block, Program}
use Rattle.rules.specs.Names.{Role, Scope, scope_of, generic, declared, expression, expressions, argument, arguments}
use Rattle.rules.specs.Resolve.{Wants, called, statements, sort, declarations, resolve_block, resolve_blocks, names}
use Rattle.rules.proofs.Laws.Outcomes.{no_ok, ok-inj, inv, inv_at, at_ok}
use Rattle.rules.proofs.Laws.Spelt.{SpeltName, SpeltCall, SpeltBlock, All, AllExp, AllSort, AllArg, AllStmts, AllDecl, AllBlock}
use Rattle.rules.specs.Grammar.{grammar}
use Rattle.rules.specs.Flatten.{program}
use Rattle.rules.proofs.Laws.Sure.{sure-ok, sure-blocks}
use Rattle.rules.proofs.Laws.Scoped.{found, pick-or, nth-below}

-- a number of a declaration
abbrev pub Slot : ℕ → Type 0
Slot k = k < 48

-- a call at a place of a text of a length
unfoldable pub CalleeOf : ℕ → ℕ → Callee → Type 0
CalleeOf len p (gate k) = (p < len) × (k < 10)
CalleeOf len p (block b) = (p < len) × (b < 64)

module _ (s : List ℕ) where
  abbrev Before : ℕ → Exp Name → Type 0
  Before l e = AllExp {C = Name} (SpeltName s) (SpeltCall s) (length s) l e

  abbrev After : ℕ → Exp ℕ → Type 0
  After l e = AllExp {C = Callee} Slot (CalleeOf (length s)) (length s) l e

  exp-numbered : (E : Scope) (L : List ℕ) (l : ℕ) (e : Exp Name) {e' : Exp ℕ} → length E ≤ 48 → Before l e → expression E L e ≡ ok e' → After l e'
  unfolding expression AllExp
  exp-numbered E L l (number v) few p e = rw (← (ok-inj e)) p
  exp-numbered E L l (name n) few p e =
      inv _ _ e λ k ek e₁.
      inv_at _ _ _ e₁ λ _ _ e₂.
      rw (← (ok-inj e₂)) (omega (arith, found E n ek))
  exp-numbered E L l (neg x) few p e = inv _ _ e λ y ey e₁. rw (← (ok-inj e₁)) (exp-numbered E L 0 x few p ey)
  exp-numbered E L l (group x) few p e = inv _ _ e λ y ey e₁. rw (← (ok-inj e₁)) (exp-numbered E L 2 x few p ey)
  exp-numbered E L l (both op d x) few p e =
      inv _ _ e λ d' ed e₁.
      inv _ _ e₁ λ x' ex e₂.
      rw (← (ok-inj e₂)) (p.0, exp-numbered E L _ d few p.1 ed, exp-numbered E L _ x few p.2 ex)

  exps-numbered : (E : Scope) (L : List ℕ) (es : List (Exp Name)) {es' : List (Exp ℕ)} → length E ≤ 48 → All (Before 2) es → expressions E L es ≡ ok es' → All (After 2) es'
  unfolding expressions All
  exps-numbered E L [] few p e = rw (← (ok-inj e)) tt
  exps-numbered E L (x ∷ es) few p e =
      inv _ _ e λ y ey e₁.
      inv _ _ e₁ λ ys eys e₂.
      rw (← (ok-inj e₂)) (exp-numbered E L 2 x few p.0 ey, exps-numbered E L es few p.1 eys)

  abbrev ArgBefore : Arg Name → Type 0
  ArgBefore a = AllArg {C = Name} (SpeltName s) (SpeltCall s) (length s) a

  abbrev ArgAfter : Arg ℕ → Type 0
  ArgAfter a = AllArg {C = Callee} Slot (CalleeOf (length s)) (length s) a

  arg-numbered : (E : Scope) (L : List ℕ) (w : Role) (a : Arg Name) {a' : Arg ℕ} → length E ≤ 48 → ArgBefore a → argument E L w a ≡ ok a' → ArgAfter a'
  unfolding argument AllArg
  arg-numbered E L w (whole n) few p e =
      inv _ _ e λ k ek e₁.
      inv_at _ _ _ e₁ λ _ _ e₂.
      inv_at _ _ _ e₂ λ _ _ e₃.
      rw (← (ok-inj e₃)) (omega (arith, found E n ek))
  arg-numbered E L w (part n x) few p e =
      inv _ _ e λ k ek e₁.
      inv_at _ _ _ e₁ λ _ _ e₂.
      inv_at _ _ _ e₂ λ _ _ e₃.
      inv _ _ e₃ λ y ey e₄.
      rw (← (ok-inj e₄)) (omega (arith, found E n ek), exp-numbered E L 2 x few p.1 ey)

  args-numbered : (E : Scope) (L : List ℕ) (ws : List Role) (args : List (Arg Name)) {args' : List (Arg ℕ)} → length E ≤ 48 → All ArgBefore args → arguments E L ws args ≡ ok args' → All ArgAfter args'
  unfolding arguments All
  args-numbered E L [] [] few p e = rw (← (ok-inj e)) tt
  args-numbered E L [] (a ∷ args) few p e = absurd (no_ok e)
  args-numbered E L (w ∷ ws) [] few p e = absurd (no_ok e)
  args-numbered E L (w ∷ ws) (a ∷ args) few p e =
      inv _ _ e λ a' ea e₁.
      inv _ _ e₁ λ r er e₂.
      rw (← (ok-inj e₂)) (arg-numbered E L w a few p.0 ea, args-numbered E L ws args few p.1 er)

  callee-numbered : (Bs : Spelled) (p : ℕ) (n : Name) {w : Wants} → length Bs ≤ 64 → p < length s → called Bs n ≡ ok w → CalleeOf (length s) p w.callee
  unfolding called CalleeOf
  callee-numbered Bs p n few h e = ⊎_elim
      (λ x. subst (λ w. CalleeOf (length s) p w.callee) (ok-inj x.1) (h, ltb→lt _ _ x.0))
      (λ x. inv _ _ (at_ok n.place _ x) λ B e_b e₁. subst (λ w. CalleeOf (length s) p w.callee) (ok-inj e₁) (h, omega (arith, nth-below 7 Bs _ e_b)))
      (pick-or _ e)

  stmts-numbered : (Bs : Spelled) (E : Scope) (L : List ℕ) (c : Stmts Name Name) {c' : Stmts ℕ Callee} → length Bs ≤ 64 → length E ≤ 48
      → AllStmts (SpeltName s) (SpeltCall s) (length s) c → statements Bs E L c ≡ ok c' → AllStmts Slot (CalleeOf (length s)) (length s) c'
  unfolding statements AllStmts
  stmts-numbered Bs E L end bs few h e = rw (← (ok-inj e)) tt
  stmts-numbered Bs E L (call p n gs ins outs rest) bs few h e =
      inv _ _ e λ w ew e₁.
      inv_at _ _ _ e₁ λ _ _ e₂.
      inv _ _ e₂ λ gs' eg e₃.
      inv _ _ e₃ λ ins' ei e₄.
      inv _ _ e₄ λ outs' eo e₅.
      inv _ _ e₅ λ rest' er e₆.
      rw (← (ok-inj e₆)) (
        callee-numbered Bs p n bs (omega (arith, h.0.0, h.0.1.within, h.0.1.some)) ew,
        exps-numbered E L gs few h.1 eg,
        args-numbered E L _ ins few h.2 ei,
        args-numbered E L _ outs few h.3 eo,
        stmts-numbered Bs E L rest bs few h.4 er,
      )
  stmts-numbered Bs E L (loop p i a b body rest) bs few h e =
      inv _ _ e λ k ek e₁.
      inv_at _ _ _ e₁ λ _ _ e₂.
      inv _ _ e₂ λ a' ea e₃.
      inv _ _ e₃ λ b' eb e₄.
      inv _ _ e₄ λ body' ebody e₅.
      inv _ _ e₅ λ rest' er e₆.
      rw (← (ok-inj e₆)) (
        h.0,
        omega (arith, found E i ek),
        exp-numbered E L 2 a few h.2 ea,
        exp-numbered E L 2 b few h.3 eb,
        stmts-numbered Bs E (k ∷ L) body bs few h.4 ebody,
        stmts-numbered Bs E L rest bs few h.5 er,
      )

  abbrev DeclBefore : Decl Name → Type 0
  DeclBefore d = AllDecl {C = Name} (SpeltName s) (SpeltName s) (SpeltCall s) (length s) d

  abbrev DeclAfter : Decl ℕ → Type 0
  DeclAfter d = AllDecl {C = Callee} (SpeltName s) Slot (CalleeOf (length s)) (length s) d

  sort-numbered : (E : Scope) (t : Sort Name) {t' : Sort ℕ} → length E ≤ 48 → AllSort {C = Name} (SpeltName s) (SpeltCall s) (length s) t → sort E t ≡ ok t'
      → AllSort {C = Callee} Slot (CalleeOf (length s)) (length s) t'
  unfolding sort AllSort
  sort-numbered E wire few p e = rw (← (ok-inj e)) tt
  sort-numbered E (vector a b) few p e = inv _ _ e λ a' ea e₁. inv _ _ e₁ λ b' eb e₂. rw (← (ok-inj e₂)) (exp-numbered E [] 2 a few p.0 ea, exp-numbered E [] 2 b few p.1 eb)
  sort-numbered E num few p e = rw (← (ok-inj e)) tt

  decls-numbered : (E : Scope) (ds : List (Decl Name)) {ds' : List (Decl ℕ)} → length E + length ds ≤ 48 → All DeclBefore ds → declarations E ds ≡ ok ds' → All DeclAfter ds' × (length ds' ≡ length ds)
  unfolding declarations All
  decls-numbered E [] few p e = rw (← (ok-inj e)) (tt, refl)
  decls-numbered E (d ∷ ds) few p e =
      inv _ _ e λ _ _ e₁.
      inv _ _ e₁ λ t et e₂.
      inv _ _ e₂ λ r er e₃.
      let (q, l) = decls-numbered (E ++ (declared d ∷ [])) ds (omega (arith, length-append E (declared d ∷ []))) p.1 er in
      rw (← (ok-inj e₃)) ((record { name = p.0.name; sort = sort-numbered E d.sort (omega arith) p.0.sort et }, q), ap suc l)

  -- a resolved block
  pub record NumberedBlock (B : Block ℕ Callee) : Type 0 where
    pub names : AllBlock (SpeltName s) Slot (CalleeOf (length s)) (length s) B
    pub few : length B.generics + length B.inputs + length B.outputs + length B.locals ≤ 48

  scope-length : (ns : List Name) (ds : List (Decl Name)) → length (scope_of ns ds) ≡ length ns + length ds
  scope-length ns ds = omega (arith, length-append (map generic ns) (map declared ds), length-map ns generic, length-map ds declared)

  block-numbered : (Bs : Spelled) (earlier : List (List ℕ)) (B : Block Name Name) {B' : Block ℕ Callee} → length Bs ≤ 64 → SpeltBlock s B → resolve_block Bs earlier B ≡ ok B' → NumberedBlock B'
  unfolding resolve_block
  block-numbered Bs earlier B bs p e =
      inv_at _ _ _ e λ _ _ e₁.
      inv _ _ e₁ λ _ _ e₂.
      inv _ _ e₂ λ ins ei e₃.
      inv _ _ e₃ λ outs eo e₄.
      inv _ _ e₄ λ vs ev e₅.
      inv _ _ e₅ λ b eb e₆.
      let l₂ = length-append B.inputs B.outputs in
      let l₃ = length-append (B.inputs ++ B.outputs) B.locals in
      let (i, li) = decls-numbered (scope_of B.generics []) B.inputs (omega (arith, p.few, scope-length B.generics [])) p.names.inputs ei in
      let (o, lo) = decls-numbered (scope_of B.generics B.inputs) B.outputs (omega (arith, p.few, scope-length B.generics B.inputs)) p.names.outputs eo in
      let (v, lv) = decls-numbered (scope_of B.generics (B.inputs ++ B.outputs)) B.locals (omega (arith, p.few, l₂, scope-length B.generics (B.inputs ++ B.outputs))) p.names.locals ev in
      let c = stmts-numbered Bs (scope_of B.generics (B.inputs ++ B.outputs ++ B.locals)) [] B.body bs (omega (arith, p.few, l₂, l₃, scope-length B.generics (B.inputs ++ B.outputs ++ B.locals))) p.names.body eb in
      rw (← (ok-inj e₆)) (record {
        names = record { name = p.names.name; generics = p.names.generics; inputs = i; outputs = o; locals = v; body = c };
        few = omega (arith, p.few, li, lo, lv);
      })

  blocks-numbered : (Bs : Spelled) (earlier : List (List ℕ)) (rest : Spelled) {blocks : List (Block ℕ Callee)} → length Bs ≤ 64 → All (SpeltBlock s) rest → resolve_blocks Bs earlier rest ≡ ok blocks
      → All NumberedBlock blocks × (length blocks ≡ length rest)
  unfolding resolve_blocks All
  blocks-numbered Bs earlier [] bs p e = rw (← (ok-inj e)) (tt, refl)
  blocks-numbered Bs earlier (B ∷ rest) bs p e =
      inv _ _ e λ b eb e₁.
      inv _ _ e₁ λ r er e₂.
      let (q, l) = blocks-numbered Bs _ rest bs p.1 er in
      rw (← (ok-inj e₂)) ((block-numbered Bs earlier B bs p.0 eb, q), ap suc l)

  -- a text's program as it is read, and as it is resolved
  pub spelled-text : (Bs : Spelled) → grammar s ≡ ok Bs → All (SpeltBlock s) Bs × (length Bs ≤ 64)
  unfolding grammar
  spelled-text Bs e = inv _ _ e λ r er e₁. subst (λ Bs. All (SpeltBlock s) Bs × (length Bs ≤ 64)) (ok-inj e₁) (sure-ok (sure-blocks s 0 (omega arith)) er)

  pub numbered-text : (P : Program) → program s ≡ ok P → All NumberedBlock P.blocks × (length P.blocks ≤ 64)
  unfolding program names
  numbered-text P e =
      inv _ _ e λ Bs e_b e₁.
      inv _ _ e₁ λ blocks eb e₂.
      inv _ _ e₂ λ m _ e₃.
      let (p, few) = spelled-text Bs e_b in
      let (q, l) = blocks-numbered Bs [] Bs few p eb in
      subst (λ P. All NumberedBlock P.blocks × (length P.blocks ≤ 64)) (ok-inj e₃) (q, omega (arith, l))
