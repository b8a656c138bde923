-- A resolved text names only what there is, with the right shape and count: so its unfolding refuses 10 to 18 and nothing else.
-- Assumes nothing.
use Rattle.std.specs.Prelude.{◌≡◌, refl, ℕ, zero, suc, ◌<◌, ◌⊎◌, Bool, true, false, List, [], ◌∷◌, ◌++◌, map, length, get_or, replicate, T}
use Rattle.std.proofs.Common.{sym, ap, ap₂, ◌∙◌, subst, arith, inl, inr, ⊎_elim, ltb→lt}
use Rattle.std.proofs.lemmas.List.{length-map}
use Rattle.rules.specs.Text.{pick, index_of}
use Rattle.rules.specs.Outcome.{Out, ok, nth}
use Rattle.rules.specs.Primitives.{inputs_of}
use Rattle.rules.specs.Syntax.{Name, Sort, wire, vector, num, Arg, whole, part, Stmts, end, call, loop, Decl, Block, Spelled, Callee, gate, block, Program}
use Rattle.rules.specs.Names.{Role, a-generic, a-wire, is_wire, role_of, Scope, spellings, declared, scope_of, find, role_at, argument, arguments}
use Rattle.rules.specs.Resolve.{Wants, called, statements, sort, declarations, resolve_block, resolve_blocks, main_of, names}
use Rattle.rules.proofs.Laws.Carried.{map-append}
use Rattle.rules.proofs.Laws.Outcomes.{no_ok, ok-inj, inv, inv_at, at_ok, need-yes}

-- ---- what a resolved statement has

-- how a block's declared names serve, in text order, and how its ports do
abbrev pub roles : {N : Type 0} → List (Decl N) → List Role
roles ds = map (λ d. role_of d.sort) ds

abbrev pub ports_of : {N C : Type 0} → Block N C → List Role
ports_of B = roles (B.inputs ++ B.outputs)

abbrev pub names_of : {N C : Type 0} → Block N C → List Role
names_of B = map (λ n. a-generic) B.generics ++ roles (B.inputs ++ B.outputs ++ B.locals)

-- an argument where this role is wanted
unfoldable pub ArgOk : List Role → Role → Arg ℕ → Type 0
ArgOk E w (whole k) = (k < length E) × (T (is_wire w) → T (is_wire (get_or E k a-generic)))
ArgOk E w (part k e) = k < length E

unfoldable pub ArgsOk : List Role → List Role → List (Arg ℕ) → Type 0
ArgsOk E [] [] = Unit {0}
ArgsOk E [] (a ∷ args) = ⊥
ArgsOk E (w ∷ ws) [] = ⊥
ArgsOk E (w ∷ ws) (a ∷ args) = ArgOk E w a × ArgsOk E ws args

-- what a call wants, where `sigs` has the ports of each block
pub data Wanted (sigs : List (List Role)) : Callee → List Role → Type 0 where
  by-gate : {k : ℕ} → k < 10 → Wanted sigs (gate k) (replicate (suc (inputs_of k)) a-wire)
  by-block : {b : ℕ} {ws : List Role} → nth 7 sigs b ≡ ok ws → Wanted sigs (block b) ws

unfoldable pub StmtsOk : List (List Role) → List Role → Stmts ℕ Callee → Type 0
StmtsOk sigs E end = Unit {0}
StmtsOk sigs E (call p c gs ins outs rest) = ((ws : List Role) × Wanted sigs c ws × ArgsOk E ws (ins ++ outs)) × StmtsOk sigs E rest
StmtsOk sigs E (loop p i a b body rest) = StmtsOk sigs E body × StmtsOk sigs E rest

-- ---- names give it

pub found : (E : Scope) (n : Name) {k : ℕ} → find E n ≡ ok k → k < length E
unfolding find
found E n e = inv_at _ _ _ e λ _ t e₁. subst (λ k. k < length E) (ok-inj e₁) (subst (λ l. index_of n.letters (spellings E) < l) (length-map E (λ e. e.letters)) (ltb→lt _ _ (need-yes _ _ t)))

role-at : (E : Scope) (k : ℕ) → get_or (map (λ e. e.role) E) k a-generic ≡ role_at E k
role-at [] k = refl
role-at (x ∷ E) zero = refl
role-at (x ∷ E) (suc k) = role-at E k

abbrev roles_of : Scope → List Role
roles_of E = map (λ e. e.role) E

in-roles : (E : Scope) (k : ℕ) → k < length E → k < length (roles_of E)
in-roles E k h = omega (arith, length-map E (λ e. e.role))

wire-pick : (w r v : Bool) → T (pick w r v) → T w → T r
unfolding pick
wire-pick true r v t h = t
wire-pick false r v t h = absurd h

arg-ok : (E : Scope) (L : List ℕ) (w : Role) (a : Arg Name) {a' : Arg ℕ} → argument E L w a ≡ ok a' → ArgOk (roles_of E) w a'
unfolding argument ArgOk
arg-ok E L w (whole n) e =
    inv _ _ e λ k ek e₁.
    inv_at _ _ _ e₁ λ _ _ e₂.
    inv_at _ _ _ e₂ λ _ t e₃.
    rw (← (ok-inj e₃)) (in-roles E k (found E n ek), λ h. subst (λ r. T (is_wire r)) (sym (role-at E k)) (wire-pick (is_wire w) (is_wire (role_at E k)) _ (need-yes _ _ t) h))
arg-ok E L w (part n x) e =
    inv _ _ e λ k ek e₁.
    inv_at _ _ _ e₁ λ _ _ e₂.
    inv_at _ _ _ e₂ λ _ _ e₃.
    inv _ _ e₃ λ x _ e₄.
    rw (← (ok-inj e₄)) (in-roles E k (found E n ek))

args_ok : (E : Scope) (L : List ℕ) (ws : List Role) (args : List (Arg Name)) {args' : List (Arg ℕ)} → arguments E L ws args ≡ ok args' → ArgsOk (roles_of E) ws args'
unfolding arguments ArgsOk
args_ok E L [] [] e = rw (← (ok-inj e)) tt
args_ok E L [] (a ∷ args) e = absurd (no_ok e)
args_ok E L (w ∷ ws) [] e = absurd (no_ok e)
args_ok E L (w ∷ ws) (a ∷ args) e =
    inv _ _ e λ a' ea e₁.
    inv _ _ e₁ λ r er e₂.
    rw (← (ok-inj e₂)) (arg-ok E L w a ea, args_ok E L ws args er)

args-append : (E ws vs : List Role) (xs ys : List (Arg ℕ)) → ArgsOk E ws xs → ArgsOk E vs ys → ArgsOk E (ws ++ vs) (xs ++ ys)
unfolding ArgsOk
args-append E [] vs [] ys p q = q
args-append E [] vs (a ∷ xs) ys p q = absurd p
args-append E (w ∷ ws) vs [] ys p q = absurd p
args-append E (w ∷ ws) vs (a ∷ xs) ys p q = (p.0, args-append E ws vs xs ys p.1 q)

-- ---- what a call names

nth-map : {A B : Type 0} (f : A → B) (n : ℕ) (xs : List A) (k : ℕ) {x : A} → nth n xs k ≡ ok x → nth n (map f xs) k ≡ ok (f x)
unfolding nth
nth-map f n [] k e = absurd (no_ok e)
nth-map f n (x ∷ xs) zero e = ap ok (ap f (ok-inj e))
nth-map f n (x ∷ xs) (suc k) e = nth-map f n xs k e

snoc-wire : (n : ℕ) → replicate n a-wire ++ (a-wire ∷ []) ≡ replicate (suc n) a-wire
snoc-wire zero = refl
snoc-wire (suc n) = ap (λ l. a-wire ∷ l) (snoc-wire n)

abbrev sigs_of : {N C : Type 0} → List (Block N C) → List (List Role)
sigs_of Bs = map ports_of Bs

pub pick-or : (c : Bool) {A : Type 0} {x y z : Out A} → pick c x y ≡ z → (T c × (x ≡ z)) ⊎ (y ≡ z)
unfolding pick
pick-or true e = inl (tt, e)
pick-or false e = inr e

wanted-ok : (Bs : Spelled) (n : Name) {w : Wants} → called Bs n ≡ ok w → Wanted (sigs_of Bs) w.callee (w.inputs ++ w.outputs)
unfolding called
wanted-ok Bs n {w} e = ⊎_elim
    (λ h. subst (λ w. Wanted (sigs_of Bs) w.callee (w.inputs ++ w.outputs)) (ok-inj h.1) (by-primitive _ (ltb→lt _ _ h.0)))
    (λ h. inv _ _ (at_ok n.place _ h) λ B e_b e₁. subst (λ w. Wanted (sigs_of Bs) w.callee (w.inputs ++ w.outputs)) (ok-inj e₁)
    (subst (λ ws. Wanted (sigs_of Bs) (block (index_of n.letters (map (λ B. B.name.letters) Bs))) ws) (map-append (λ d. role_of d.sort) B.inputs B.outputs)
    (by-block (nth-map ports_of 7 Bs _ e_b))))
    (pick-or _ e)
  where
    by-primitive : (k : ℕ) → k < 10 → Wanted (sigs_of Bs) (gate k) (replicate (inputs_of k) a-wire ++ (a-wire ∷ []))
    by-primitive k h = subst (λ ws. Wanted (sigs_of Bs) (gate k) ws) (sym (snoc-wire (inputs_of k))) (by-gate h)

stmts-ok : (Bs : Spelled) (E : Scope) (L : List ℕ) (c : Stmts Name Name) {c' : Stmts ℕ Callee} → statements Bs E L c ≡ ok c' → StmtsOk (sigs_of Bs) (roles_of E) c'
unfolding statements StmtsOk
stmts-ok Bs E L end e = rw (← (ok-inj e)) tt
stmts-ok Bs E L (call p n gs ins outs rest) e =
    inv _ _ e λ w ew e₁.
    inv_at _ _ _ e₁ λ _ _ e₂.
    inv _ _ e₂ λ gs _ e₃.
    inv _ _ e₃ λ ins' ei e₄.
    inv _ _ e₄ λ outs' eo e₅.
    inv _ _ e₅ λ rest' er e₆.
    rw (← (ok-inj e₆)) ((w.inputs ++ w.outputs, wanted-ok Bs n ew, args-append _ w.inputs w.outputs ins' outs' (args_ok E L _ ins ei) (args_ok E L _ outs eo)), stmts-ok Bs E L rest er)
stmts-ok Bs E L (loop p i a b body rest) e =
    inv _ _ e λ k _ e₁.
    inv_at _ _ _ e₁ λ _ _ e₂.
    inv _ _ e₂ λ _ _ e₃.
    inv _ _ e₃ λ _ _ e₄.
    inv _ _ e₄ λ body' eb e₅.
    inv _ _ e₅ λ rest' er e₆.
    rw (← (ok-inj e₆)) (stmts-ok Bs E (k ∷ L) body eb, stmts-ok Bs E L rest er)

-- ---- blocks

sort-role : (E : Scope) (t : Sort Name) {t' : Sort ℕ} → sort E t ≡ ok t' → role_of t' ≡ role_of t
unfolding sort role_of
sort-role E wire e = rw (← (ok-inj e)) refl
sort-role E (vector a b) e = inv _ _ e λ _ _ e₁. inv _ _ e₁ λ _ _ e₂. rw (← (ok-inj e₂)) refl
sort-role E num e = rw (← (ok-inj e)) refl

declarations-roles : (E : Scope) (ds : List (Decl Name)) {ds' : List (Decl ℕ)} → declarations E ds ≡ ok ds' → roles ds' ≡ roles ds
unfolding declarations
declarations-roles E [] e = rw (← (ok-inj e)) refl
declarations-roles E (d ∷ ds) e =
    inv _ _ e λ _ _ e₁.
    inv _ _ e₁ λ t et e₂.
    inv _ _ e₂ λ r er e₃.
    rw (← (ok-inj e₃)) (ap₂ ◌∷◌ (sort-role E d.sort et) (declarations-roles (E ++ declared d ∷ []) ds er))

scope-roles : (ns : List Name) (ds : List (Decl Name)) → roles_of (scope_of ns ds) ≡ map (λ n. a-generic) ns ++ roles ds
scope-roles [] [] = refl
scope-roles [] (d ∷ ds) = ap (λ l. role_of d.sort ∷ l) (scope-roles [] ds)
scope-roles (n ∷ ns) ds = ap (λ l. a-generic ∷ l) (scope-roles ns ds)

-- a resolved block: its ports as they were, and its body names only what it has
record BlockOk (sigs : List (List Role)) (B : Block Name Name) (B' : Block ℕ Callee) : Type 0 where
  ports : ports_of B' ≡ ports_of B
  body : StmtsOk sigs (names_of B') B'.body

same-two : (a b : List (Decl ℕ)) (x y : List (Decl Name)) → roles a ≡ roles x → roles b ≡ roles y → roles (a ++ b) ≡ roles (x ++ y)
same-two a b x y p q = map-append (λ d. role_of d.sort) a b ∙ ap₂ ◌++◌ p q ∙ sym (map-append (λ d. role_of d.sort) x y)

block-ok : (Bs : Spelled) (earlier : List (List ℕ)) (B : Block Name Name) {B' : Block ℕ Callee} → resolve_block Bs earlier B ≡ ok B' → BlockOk (sigs_of Bs) B B'
unfolding resolve_block
block-ok Bs earlier B e =
    inv_at _ _ _ e λ _ _ e₁.
    inv _ _ e₁ λ _ _ e₂.
    inv _ _ e₂ λ ins ei e₃.
    inv _ _ e₃ λ outs eo e₄.
    inv _ _ e₄ λ vs ev e₅.
    inv _ _ e₅ λ b eb e₆.
    let i = declarations-roles _ B.inputs ei in
    let o = declarations-roles _ B.outputs eo in
    let v = declarations-roles _ B.locals ev in
    let two = same-two ins outs B.inputs B.outputs i o in
    let scope : roles_of (scope_of B.generics (B.inputs ++ B.outputs ++ B.locals)) ≡ map (λ n. a-generic) B.generics ++ roles (ins ++ outs ++ vs) =
    scope-roles B.generics (B.inputs ++ B.outputs ++ B.locals)
    ∙ ap (λ l. map (λ n. a-generic) B.generics ++ l) (sym (same-two (ins ++ outs) vs (B.inputs ++ B.outputs) B.locals two v)) in
    rw (← (ok-inj e₆)) (record { ports = two; body = subst (λ E. StmtsOk (sigs_of Bs) E b) scope (stmts-ok Bs _ [] B.body eb) })

unfoldable pub BlocksOk : List (List Role) → List (Block ℕ Callee) → Type 0
BlocksOk sigs [] = Unit {0}
BlocksOk sigs (B ∷ Bs) = StmtsOk sigs (names_of B) B.body × BlocksOk sigs Bs

blocks-ok : (Bs : Spelled) (earlier : List (List ℕ)) (rest : Spelled) {blocks : List (Block ℕ Callee)} → resolve_blocks Bs earlier rest ≡ ok blocks
    → BlocksOk (sigs_of Bs) blocks × (sigs_of blocks ≡ sigs_of rest)
unfolding resolve_blocks BlocksOk
blocks-ok Bs earlier [] e = rw (← (ok-inj e)) (tt, refl)
blocks-ok Bs earlier (B ∷ rest) e =
    inv _ _ e λ b eb e₁.
    inv _ _ e₁ λ r er e₂.
    let p = block-ok Bs earlier B eb in
    let (q, f) = blocks-ok Bs _ rest er in
    rw (← (ok-inj e₂)) ((p.body, q), ap₂ ◌∷◌ p.ports f)

-- a resolved program: main is there, and every block names only what there is
pub record Scoped (P : Program) : Type 0 where
  pub blocks : BlocksOk (sigs_of P.blocks) P.blocks
  pub main : P.main < length P.blocks

pub nth-below : {A : Type 0} (n : ℕ) (xs : List A) (k : ℕ) {x : A} → nth n xs k ≡ ok x → k < length xs
unfolding nth
nth-below n [] k e = absurd (no_ok e)
nth-below n (x ∷ xs) zero e = omega arith
nth-below n (x ∷ xs) (suc k) e = omega (arith, nth-below n xs k e)

pub names-scoped : (len : ℕ) (Bs : Spelled) (P : Program) → names len Bs ≡ ok P → Scoped P
unfolding names main_of
names-scoped len Bs P e =
    inv _ _ e λ blocks eb e₁.
    inv _ _ e₁ λ m em e₂.
    inv_at _ _ _ em λ M e_m e₃.
    inv_at _ _ _ e₃ λ _ _ e₄.
    let (q, f) = blocks-ok Bs [] Bs eb in
    let l : length blocks ≡ length Bs = sym (length-map blocks ports_of) ∙ ap length f ∙ length-map Bs ports_of in
    let below : m < length blocks = omega (arith, l, nth-below 9 Bs _ e_m, ok-inj e₄) in
    subst Scoped (ok-inj e₂) (record { blocks = subst (λ sigs. BlocksOk sigs blocks) (sym f) q; main = below })
